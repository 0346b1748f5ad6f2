-- Laws of the leaves.
pub mod HeldLaws
pub mod PassLaws
pub mod LooseLaws
pub mod RuleLaws
