-- activities that are alike, turn by turn
pub mod OnTurns
-- nodes one after another, as an activation
pub mod OnWalks
-- alike activities, as activations
pub mod OnSame
-- nodes, steps and sites one after another
pub mod OnParts
