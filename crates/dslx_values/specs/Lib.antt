-- inference of parametric values
pub mod Inference
-- operators
pub mod Operators
