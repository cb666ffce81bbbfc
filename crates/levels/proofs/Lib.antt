-- Laws: strides (Stride), one level (Levels), the lines of a plane (Lines, Readings), the planes (Sections), and laws that no proof cites (Stated).
pub mod Stride
pub mod Levels
pub mod Lines
pub mod Readings
pub mod Sections
pub mod Stated
