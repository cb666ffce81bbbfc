-- What must be believed: the promises of section and split, and document 01's values for their answers. Steps is inner.
pub mod Answers
pub mod Steps
