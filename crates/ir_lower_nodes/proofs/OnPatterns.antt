-- patterns on values
pub mod OnShapes
-- parts of tuples
pub mod OnParts
-- whether a value fits
pub mod OnFits
-- what is bound
pub mod OnBound
