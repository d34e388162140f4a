-- operators
pub mod OnOperators
