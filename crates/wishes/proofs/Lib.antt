-- From the least ranks to the cells of many wishes, and that the promise is settled.
pub mod Each
pub mod Putting
pub mod Answers
