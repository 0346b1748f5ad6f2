-- The definitions that this crate's contracts cite beside those of rules.
pub mod Roll
pub mod Held
