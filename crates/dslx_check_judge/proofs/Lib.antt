-- what items come to, by walks over their parts
pub mod OnItems
-- lemmas for other crates
pub mod Lemmas
-- what instances of functions and procs come to, by walks over their parts
pub mod OnInstances
