-- Laws that several proofs of this crate and of the machine use.
pub mod QuestionLaws
pub mod FittingLaws
