-- Laws that several proofs of this crate and of those above it use.
pub mod NumberLaws
pub mod ExpressionLaws
pub mod FixingLaws
