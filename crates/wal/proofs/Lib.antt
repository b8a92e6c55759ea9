-- The functions are their mirror: what their proofs cite.
pub mod Counters
mod Falling
pub mod LookUps
-- The mirror means the book: rows written, looked up and taken back stand for the book with those rows.
pub mod CountersForced
pub mod Steady
pub mod RowsLookedUp
pub mod RowWritten
pub mod FewChanges
pub mod ChangesFall
pub mod Clearing
