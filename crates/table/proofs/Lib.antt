-- Laws that the proofs of this crate share.
pub mod TestLaws
pub mod BitLaws
pub mod ShapeLaws
pub mod PassingLaws
pub mod RoleLaws
pub mod PlaceLaws
pub mod UseLaws
pub mod OnceLaws
pub mod FittingLaws
