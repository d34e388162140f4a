-- how an instance is closed
pub mod Closing
-- instances that aren't done
pub mod Missing
-- how an instance is opened
pub mod Opening
