-- Laws that the proofs of this crate and of those above it use.
pub mod BuiltLaws
pub mod KindTests
pub mod ClimbLaws
pub mod RangeLaws
