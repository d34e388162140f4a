-- trees beside what the rules say of them
pub mod Trees
-- sites, and what comes behind them
pub mod Turns
-- expressions as statements
pub mod Effects
-- statements in their order
pub mod Statements
-- activations
pub mod Activations
