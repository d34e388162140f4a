-- what a worker has in a round
pub mod Shares
-- what the workers get, and what they bring back
pub mod Jobs
