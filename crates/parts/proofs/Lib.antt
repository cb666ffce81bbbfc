-- Laws of keys along an axis, and of the lists that they stand for.
pub mod Along
pub mod Made
pub mod Stated
