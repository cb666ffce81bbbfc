-- The crossing between signed numbers and unsigned ones, and the key of a corner.
pub mod Lift
pub mod Keys
