-- What the contracts of this crate cite besides those below it.
pub mod Serving
