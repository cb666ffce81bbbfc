-- Laws of this crate: a table's rule from one test of the whole table, and what a mask of eight cells counts.
pub mod Table
pub mod Masks
