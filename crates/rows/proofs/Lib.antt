-- Laws: operations by number (Operations), digits of words (Bits), rows that are turned (Flips), ones of a word and ends of stretches (Ones).
pub mod Operations
pub mod Bits
pub mod Flips
pub mod Ones
