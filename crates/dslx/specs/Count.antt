-- sizes of networks
pub mod Sizes
-- sizes of instances, each by those behind which it stands
pub mod Counting
