-- lists whose elements have names
pub mod Lists
-- what items come to
pub mod Judged
-- contracts of private parts
pub mod Inner
