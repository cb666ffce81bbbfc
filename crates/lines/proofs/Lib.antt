-- Laws that the proofs of this crate cite, and that others may.
pub mod Table
pub mod Counting
