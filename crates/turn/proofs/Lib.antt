-- Laws of a turn (Pieces), and of lists of keys (Lists).
pub mod Lists
pub mod Pieces
