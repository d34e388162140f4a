-- nodes that are put behind others
pub mod OnNodes
-- the values of plain nodes
pub mod OnRuns
-- what is done alike
pub mod OnAlike
-- what sites receive and send
pub mod OnWords
-- a receive and a send between plain nodes
pub mod OnSites
-- each kind of step
pub mod OnSteps
-- sends
pub mod OnSends
-- steps one after another
pub mod OnLists
