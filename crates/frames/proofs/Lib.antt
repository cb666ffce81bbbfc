-- Laws of frames.
pub mod FrameLaws
pub mod Stated
