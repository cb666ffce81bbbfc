-- The parts of keys and of pair keys.
pub mod Parts
pub mod Spelled
