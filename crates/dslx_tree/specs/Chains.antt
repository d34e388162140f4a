-- trees of a chain in which each operator stands where its level says
pub mod Ordered
