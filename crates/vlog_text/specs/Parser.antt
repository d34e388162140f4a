-- which tokens read as which module, and how others are refused
pub mod Reads
-- the tokens of a module, part by part, and where each part stands
pub mod Spans
