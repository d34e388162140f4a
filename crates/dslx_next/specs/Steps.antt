-- what comes of statements, with the body behind them
pub mod Passing
-- the environment of a body, as the crate below defines it
pub mod BodyEnvs
