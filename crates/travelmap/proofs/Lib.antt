-- Laws: what the proofs of this crate cite (Passing), and that each promise settles its outcome (Settled).
pub mod Passing
pub mod Settled
pub mod Read
