-- whether an element has a value already
pub mod Elements
