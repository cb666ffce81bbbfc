-- Laws that the proofs of this crate cite.
pub mod Passes
pub mod Masks
pub mod Planes
pub mod Answers
