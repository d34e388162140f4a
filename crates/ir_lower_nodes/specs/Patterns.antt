-- which values fit a pattern, and what it binds of them
pub mod Shapes
-- what is put for patterns
pub mod Given
