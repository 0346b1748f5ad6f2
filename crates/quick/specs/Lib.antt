-- What the contract of this crate cites besides the rules.
pub mod Visited
