-- The public library: inductions over types and values, and what holds of typing, flat words and texts.
pub mod Types
pub mod Values
pub mod Typing
pub mod Flat
pub mod Reads
