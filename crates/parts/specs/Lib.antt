-- Inner definitions: keys along an axis.
pub mod Axes
