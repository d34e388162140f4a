-- what the nodes of verified procs show
pub mod Fitting
