-- measures of types by those of their parts
pub mod Measured
-- kinds of types by their rows
pub mod Kinds
-- which type an operator gives
pub mod Results
