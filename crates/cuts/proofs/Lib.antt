-- Laws of what section and split come to, of their promises, and of what they make, cell by cell.
pub mod Cuts
pub mod Promises
pub mod Cells
pub mod Stated
