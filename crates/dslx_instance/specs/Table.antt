-- keys of instances
pub mod Keys
-- keys that pass the test of equality are one
pub mod KeyLaws
