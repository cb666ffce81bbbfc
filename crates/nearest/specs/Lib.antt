-- The promise of nearest (Answer), and the rank of a cell (Ranks).
pub mod Answer
pub mod Ranks
