-- Laws of what codes count, and of the loop over the keys of a map.
pub mod Costs
pub mod Reach
pub mod Stated
