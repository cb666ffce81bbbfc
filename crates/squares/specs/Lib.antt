-- Rising lists that count from a base.
pub mod Rising
