-- What must be believed: the definitions that this crate's promise cites beside those of `meaning`. Their laws are under proofs/.
pub mod Box
