-- What the contracts of this crate cite besides those below it.
pub mod Outcomes
pub mod Layout
