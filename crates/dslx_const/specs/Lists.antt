-- contracts of private parts
pub mod Inner
