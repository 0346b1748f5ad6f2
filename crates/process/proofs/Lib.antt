-- Laws that several proofs of this crate and of those above it use.
pub mod StackedLaws
pub mod UnwindLaws
pub mod StatementLaws
pub mod AloneLaws
pub mod LentLaws
pub use Rattle.loops.proofs.RangeLaws
