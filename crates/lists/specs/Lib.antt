-- What must be believed: the definitions that this crate's promises cite beside those of `meaning`. Their laws are under proofs/.
pub mod Check
