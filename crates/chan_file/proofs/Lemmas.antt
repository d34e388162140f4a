-- The public library.
pub mod Reading
