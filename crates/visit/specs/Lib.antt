-- What the contracts of this crate cite besides the rules.
pub mod Least
pub mod Exact
pub mod Fields
pub mod Facts
pub mod Quick
