-- What the questions about one map promise, and what their passes over a list answer.
pub mod Asks
pub mod Passes
