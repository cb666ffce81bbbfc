-- The cells of lists of numbers and their ranks (Cells), and what the functions over the numbers of one line answer (Line).
pub mod Cells
pub mod Line
