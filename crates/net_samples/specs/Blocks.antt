-- what a sample means, as a pipeline
pub mod Samples
-- what the registers and the walks of the code show
pub mod Shows
