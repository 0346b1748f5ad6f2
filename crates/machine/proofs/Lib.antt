-- Laws that several proofs of this crate use.
pub mod OutcomeLaws
pub mod TeamLaws
pub mod StartLaws
pub mod VerdictSteps
