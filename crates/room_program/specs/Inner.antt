-- Relations for private functions and proofs alone.
pub mod FirstLines
pub mod LongReplies
