-- What the functions for C and Rust promise.
pub mod Exports
