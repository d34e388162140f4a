-- what goes through the ports of a package's module, and its network
pub mod Streams
-- a pipeline that is always fed
pub mod Steadily
