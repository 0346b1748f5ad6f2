-- Laws of the parts of some bytes.
pub mod PartLaws
