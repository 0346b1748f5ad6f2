-- What the contracts of this crate cite besides the rules and evaluation's.
pub mod Given
