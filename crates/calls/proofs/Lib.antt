-- Laws that the proofs of this crate share.
pub mod TreeLaws
pub mod CallLaws
pub mod FoundLaws
pub mod BlockLaws
pub mod InnerLaws
pub mod VisitLaws
pub mod WaitLaws
pub mod WalkLaws
pub mod TopLaws
