-- what holds of the tasks behind a round
pub mod Tasks
-- contracts of private functions
pub mod Inner
