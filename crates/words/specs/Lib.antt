-- What must be believed of two's complement.
pub mod Words
