pub mod Steps
pub mod CheckLaws
-- small pipelines that run cycle by cycle
pub mod OnBlocks
