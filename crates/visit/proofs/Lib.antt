-- Laws that the proofs of this crate share.
pub mod LeastLaws
pub mod PlaneLaws
pub mod QuickLaws
pub mod StuckLaws
pub mod FactLaws
pub mod SettledLaws
