-- Laws of the lines that are written.
pub mod Lines
pub mod Filling
pub mod Chunks
pub mod Stated
