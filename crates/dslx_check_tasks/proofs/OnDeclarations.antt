-- parts of declarations
pub mod OnForeign
-- behind parametrics
pub mod OnBehind
-- the top
pub mod OnTops
