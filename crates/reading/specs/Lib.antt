-- What must be believed: the text form of a map and of wishes. Its laws are under proofs/.
pub mod Reading
pub mod Read
