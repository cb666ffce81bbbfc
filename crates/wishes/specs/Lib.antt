-- What must be believed: the promise of many wishes of one map (Many). Inner: what the functions below it put where (Each).
pub mod Many
pub mod Each
