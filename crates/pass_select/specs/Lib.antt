-- what a select always chooses
pub mod Choices
-- what stands for a node
pub mod Selected
