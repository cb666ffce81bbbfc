-- Rising lists of numbers, the merge of two of them, the order of any list, and lists at the front of a slice.
pub mod Merged
pub mod Placed
