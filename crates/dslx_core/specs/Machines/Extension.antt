-- what comes of work by tables of instances
pub mod Results
