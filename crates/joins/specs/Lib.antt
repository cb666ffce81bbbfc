-- Joins: the promise.
pub mod Join
