-- elements that are numbers without a type
pub mod Elements
