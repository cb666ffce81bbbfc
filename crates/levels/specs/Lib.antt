-- What the sweep over planes promises (Level), and what one plane asks and leaves (Planes).
pub mod Level
pub mod Planes
