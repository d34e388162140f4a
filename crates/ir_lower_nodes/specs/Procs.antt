-- what is promised of an instance of a proc that is lowered
pub mod Instances
