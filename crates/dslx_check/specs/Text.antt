-- names of items, and what reaches what, as the text's own global environment has them
pub mod ByNames
