-- an instance by what its `next` becomes
mod Whole
-- instances that are added to others
mod Added
-- the checked text of instances
mod OnDesign
-- networks by which texts are run
mod OnRuns
-- orders of instances
mod OnOrders
-- functions that are checked
mod OnChecked
