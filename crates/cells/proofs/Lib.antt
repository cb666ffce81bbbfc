-- Laws: the least of ranks (Best), where a test turns (Turns), the least rank along an axis (Axis), the numbers of one line (Line), rows (Bits),
-- and laws that no proof cites (Stated).
pub mod Best
pub mod Turns
pub mod Axis
pub mod Line
pub mod Bits
pub mod Stated
