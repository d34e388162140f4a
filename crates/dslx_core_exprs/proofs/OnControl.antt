-- what is made of an array at an index, and of a part of a tuple
pub mod Elements
