-- How answers are packed into one number.
pub mod Packed
