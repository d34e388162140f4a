-- packages whose numbers are in the range of their types
pub mod InRange
