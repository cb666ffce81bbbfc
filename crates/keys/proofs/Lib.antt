-- Laws of rising lists of keys and of pair keys, and of the loops between them and lists of numbers.
pub mod Corners
pub mod Pairs
pub mod Filling
pub mod Stated
