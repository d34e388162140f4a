-- rows as a block's, and the last of them
pub mod OnRows
-- what stands at a channel's place among a module's
pub mod OnPlaces
-- the words that move over rows
pub mod Moving
-- the network of a package, and its block's
pub mod OnNetworks
-- words that stand, and rows that reset
pub mod Standing
-- words that move in each row
pub mod Steadiness
-- the rows of a row file
pub mod OnFiles
-- channels that are deep enough
pub mod Deep
-- the Verilog text of a package
pub mod OnTexts
