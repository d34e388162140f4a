-- values that are taken apart
pub mod Parts
