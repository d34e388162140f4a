-- the signals of nodes and sites, one node behind another
pub mod OnProcs
-- what they show
pub mod OnShown
