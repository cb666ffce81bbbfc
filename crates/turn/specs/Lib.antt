-- What the promises of a turn cite.
pub mod Turn
