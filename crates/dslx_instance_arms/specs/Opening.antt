-- what is asked of the instances that are done
pub mod Done
