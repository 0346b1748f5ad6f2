-- What the contracts of this crate cite besides the rules.
pub mod Header
pub mod Marks
pub mod Sized
pub mod Roles
pub mod Uses
