-- Laws of lists of numbers, of odd lines as odd numbers, of the check's verdict, and of its causes.
pub mod Vertices
pub mod Rising
pub mod Lines
pub mod Verdicts
pub mod Causes
pub mod Stated
