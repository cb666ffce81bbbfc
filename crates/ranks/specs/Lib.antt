-- What the codes of an axis count in a rank (Values), and from where to where a map lies on an axis (Extents).
pub mod Extents
pub mod Values
