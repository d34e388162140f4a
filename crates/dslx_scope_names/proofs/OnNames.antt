-- numbers of types that are written
pub mod Numbers
-- what the machine comes to where a struct is used
pub mod Uses
