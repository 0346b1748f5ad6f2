-- Laws that several proofs of this crate and of those above it use.
pub mod ArrivalMoves
pub mod CollectiveLaws
pub mod DownLaws
