-- The words that proofs of this crate and the crates above cite, passed on from one place. It declares nothing.
pub use Rattle.room_server.specs.Prelude.{IsRunOn, known_of}
