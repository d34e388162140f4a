-- atoms
pub mod Atoms
-- expressions in braces
pub mod Braces
-- operators
pub mod Operators
