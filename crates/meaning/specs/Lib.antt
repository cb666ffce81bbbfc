-- What must be believed: the definitions that every promise cites. Their laws are under proofs/.
pub mod Numbers
pub mod Counting
pub mod Lists
pub mod Verdicts
pub mod Outcomes
pub mod OneList
pub mod Made
pub mod Operations
pub mod Nearest
pub mod Kinds
pub mod Examples
