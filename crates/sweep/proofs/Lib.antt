-- Laws that the proofs of this crate share.
pub mod SweptLaws
pub mod EndLaws
pub mod NodeLaws
pub mod BodyLaws
pub mod JudgedLaws
pub mod FormedLaws
