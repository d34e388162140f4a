-- what lies in a worker's deque and what its passes know, and the rule
pub mod Rule
-- what a step tells the pass that makes it
pub mod Steps
-- the ends of a deque
pub mod Handles
