-- From lists of keys to the one list of an operation.
pub mod Whole
pub mod Stated
