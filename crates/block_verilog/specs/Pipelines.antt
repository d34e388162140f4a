-- a proc with its schedule, and the parts of its hardware
pub mod Pipelines
-- the signals of its pipeline
pub mod Nets
