-- tuples, arrays and structs
pub mod OnAggregates
-- calls
pub mod OnCalls
-- control
pub mod OnControl
-- operators
pub mod OnOperators
