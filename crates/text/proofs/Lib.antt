-- Laws that the proofs of this crate cite.
pub mod Settled
pub mod Outcomes
pub mod Places
pub mod Examples
