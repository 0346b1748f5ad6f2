-- What the contracts of this crate cite besides the rules and a process's.
pub mod Given
