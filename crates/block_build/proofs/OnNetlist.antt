-- lists of wires
pub mod OnWires
-- what they promise when more are put behind them
pub mod OnAdded
-- bits
pub mod OnGates
-- a stage's sites
pub mod OnHandshakes
-- the words of receives
pub mod OnReceives
-- a pipeline's stages
pub mod OnStages
-- what an activation does by the words on signals
pub mod OnTurns
-- what an IR proc does by them
pub mod OnProcs
-- what a verifier asks of wires
pub mod OnOrder
-- the words that it has received by a stage
pub mod OnGathered
-- which values stages carry on
pub mod OnLayout
-- the wires of a FIFO
pub mod OnFifos
-- the wires of a channel's end
pub mod OnEnds
-- operations on numbers
pub mod OnOperators
-- what they give
pub mod OnGiving
-- what is put for them
pub mod OnOperating
-- values on signals
pub mod OnLeaves
-- choices between values
pub mod OnChoices
-- the values of operations
pub mod OnResults
-- what is put for choices
pub mod OnChoosing
-- and for types and values
pub mod OnLiterals
-- and for nodes that give a number
pub mod OnNumbers
-- for those that choose among values
pub mod OnSelections
-- for all that are no sites
pub mod OnPure
-- what is put for a stage's sites
pub mod OnChains
-- for stages
pub mod OnStaging
-- for the words of sites
pub mod OnWords
-- for the ends of channels
pub mod OnRequests
-- for FIFOs
pub mod OnBuffers
-- and for what registers hold next
pub mod OnNexts
-- registers one behind another
pub mod OnRegisters
-- those of a proc's pipeline
pub mod OnLaying
-- the last stages in which values are read
pub mod OnLastReads
-- the control of a pipeline
pub mod OnControl
-- the values of nodes
pub mod OnNodeValues
-- a stage's nodes
pub mod OnNodes
-- what its sites do
pub mod OnSites
-- the stages of sites
pub mod OnStaged
-- registers from cycle to cycle
pub mod OnHolding
-- and behind reset
pub mod OnResets
-- what stages need
pub mod OnServing
-- flat words
pub mod OnFlat
-- what a pipeline asserts
pub mod OnEvents
-- and what its ends show of that
pub mod OnAsked
-- a cycle of a block
pub mod OnBlocks
-- and all its rows
pub mod OnRuns
-- the numbers on wires
pub mod OnRanges
-- procs of verified packages
pub mod OnVerified
-- modules and their registers
pub mod OnSets
