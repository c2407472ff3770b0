-- Definitions for the contracts of private functions alone. No public call's contract cites them, and no other
-- definition does.
pub mod LastTold
pub mod Telling
