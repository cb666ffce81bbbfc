-- From the search to the nearest cell, and that the wording of nearest is settled.
pub mod Distances
pub mod Ranks
pub mod Reach
pub mod Promise
pub mod Answers
