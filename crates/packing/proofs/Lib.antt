-- Laws of packed answers: packing, what fits, and reading back.
pub mod Packing
pub mod Bounds
pub mod Back
