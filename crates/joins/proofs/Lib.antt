-- From the one list of an operation to what a join answers, and from there to the cells.
pub mod Answers
pub mod Cells
