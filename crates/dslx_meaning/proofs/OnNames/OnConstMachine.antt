-- what comes of steps on patterns
pub mod Fitted
-- what comes of steps on several expressions
pub mod Gathered
-- each step keeps what comes of the machine
pub mod Keeps
-- the public library
-- what the parts of a tree mean
pub mod Meanings
-- values one after another
pub mod Options
-- what each task comes to
pub mod Places
-- what comes of a step that goes to an item
pub mod Uses
