-- The laws that the proofs of this crate share.
pub mod RollLaws
pub mod LendLaws
pub mod Recorded
pub mod TeamCalls
