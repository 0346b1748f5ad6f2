-- Laws that several proofs of this crate use.
pub mod NextLaws
pub mod TurnLaws
pub mod ServingSteps
