-- Laws that other crates cite: of tests, of the crossing between signed and unsigned numbers, and of keys.
pub mod Tests
pub mod Shift
pub mod Laws
pub mod Keys
