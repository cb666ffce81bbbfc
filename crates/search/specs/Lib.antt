-- The section at a place, and lists that are even along their first axis.
pub mod Search
