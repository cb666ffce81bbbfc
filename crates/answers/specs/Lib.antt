-- What must be believed: the lines that the program writes. Their laws are under proofs/.
pub mod Answers
