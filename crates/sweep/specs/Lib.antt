-- Two valid lists joined in working room.
pub mod Room
