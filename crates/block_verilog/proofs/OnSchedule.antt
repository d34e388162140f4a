-- the sites of a proc among its nodes
pub mod Sites
-- a scheduled proc is a pipeline
pub mod Pipelines
-- a scheduled package is a block
pub mod Blocks
