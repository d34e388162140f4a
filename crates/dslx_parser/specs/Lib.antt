-- which tokens read as which tree, and how others are refused
pub mod Reads
-- the builder
pub mod Builder
-- the depth of trees
pub mod Depths
-- the spans of trees
pub mod Spans
-- names of ends
pub mod Ends
-- what each rule makes
pub mod Syntax
