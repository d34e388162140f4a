-- what the rules of expressions make of the parts of their symbols
pub mod OnExprs
