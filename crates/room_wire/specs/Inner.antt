-- Definitions for the contracts of private functions alone. No public call's contract cites them, and no other
-- definition does.
pub mod Rising
pub mod Writing
