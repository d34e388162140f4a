pub mod Appended
pub mod Rebuilt
