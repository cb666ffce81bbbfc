-- Rows of bits.
pub mod Rows
