-- Laws that the proofs of this crate use, by subject.
pub mod FourLaws
pub mod AsideLaws
pub mod PartsLaws
pub mod AgainLaws
pub mod NumberLaws
