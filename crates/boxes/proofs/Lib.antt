-- Laws of the ends of a box, of the promise and the eight corners, and of what a made box permits.
pub mod Ends
pub mod Boxes
pub mod Cells
