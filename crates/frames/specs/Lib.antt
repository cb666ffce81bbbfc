-- What must be believed of frames: lines of upper-case hexadecimal as bytes.
pub mod Frames
