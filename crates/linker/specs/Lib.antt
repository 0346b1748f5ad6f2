-- What joining a library to a table is, and what is claimed of it.
pub mod Linking
pub mod Joins
pub mod Given
