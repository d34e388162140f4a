pub mod TypesOf
pub mod Putting
pub mod OnKinds
pub mod Counting
pub mod OnTests
