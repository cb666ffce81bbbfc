-- Laws of two's complement.
pub mod Laws
