-- Laws of the reader: those that its proofs cite, and what its definitions mean of lines and of sums.
pub mod Runs
pub mod Totals
pub mod Order
pub mod ByEnds
pub mod Places
pub mod Stated
