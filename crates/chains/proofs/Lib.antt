-- Laws that the proofs of this crate cite, and that others may.
pub mod Parity
pub mod Flags
pub mod Links
pub mod Walks
pub mod Chains
