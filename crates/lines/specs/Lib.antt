-- What must be believed: the definitions that this crate's promises cite. Their laws are under proofs/.
pub mod Table
