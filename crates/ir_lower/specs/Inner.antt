-- procs that are lowered, and the package that is made of them
pub mod Made
