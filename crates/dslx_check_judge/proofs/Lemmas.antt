-- what items come to, by walks over their parts
pub mod Items
-- what instances of functions and procs come to, by walks over their parts
pub mod Instances
