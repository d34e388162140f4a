-- the registers of a proc, one behind another
pub mod OnLayout
-- its wires, and those of what its registers hold next
pub mod OnWires
-- its sites among its nodes
pub mod OnFound
-- its stages, and the sites that stand in each
pub mod OnStages
-- the signals of its sites
pub mod OnSites
-- what they ask at an end of a channel
pub mod OnRequests
-- what a legal schedule says of operands
pub mod OnStaged
-- each site promises what it is to
pub mod OnMade
-- and so does the whole pipeline
pub mod OnPipelines
-- registers that take what stands on signals
pub mod OnTaken
-- the numbers in values
pub mod OnLeaves
-- how many signals values have
pub mod OnPlaces
-- their copies
pub mod OnCopies
-- literals
pub mod OnLiterals
-- the registers of sites
pub mod OnSiteRegisters
-- registers go on as they are set
pub mod OnGoing
-- and are reset
pub mod OnReset
