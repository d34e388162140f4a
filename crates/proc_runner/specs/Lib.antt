-- contracts of private functions
pub mod Inner
