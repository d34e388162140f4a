-- what parts of declarations and the top come to
pub mod Judged
-- contracts of private parts
pub mod Inner
