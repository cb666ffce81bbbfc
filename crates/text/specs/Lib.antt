-- What must be believed: what the program writes. Its laws are under proofs/.
pub mod Program
