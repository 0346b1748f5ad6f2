-- What the contracts of this crate cite besides the rules.
pub mod Swept
pub mod Nodes
pub mod Asked
