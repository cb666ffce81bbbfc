-- Laws of rising lists, and of loops that fill a lent slice.
pub mod Written
pub mod Merging
pub mod Sums
pub mod Order
