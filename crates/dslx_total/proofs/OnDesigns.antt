-- instances among others
pub mod Lists
-- tables of procs, one instance behind the other
pub mod Growing
-- instances by how long chains of items are
pub mod Ordered
-- the top's instance
pub mod Tops
