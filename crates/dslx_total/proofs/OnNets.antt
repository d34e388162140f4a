-- turns and the directions of sites
pub mod Directions
-- more words, more turns
pub mod Longer
-- what sites take
pub mod Takes
-- activations that stand past their last site
pub mod Standing
-- plain values and plain types
pub mod Plain
-- types with bits
pub mod Full
-- the words of channels
pub mod Words
-- words that are sent
pub mod Given
-- effects
pub mod Effects
-- bodies
pub mod Bodies
-- what keeps its types
pub mod Keeps
-- where ends of channels stand
pub mod Ends
-- procs that are placed
pub mod Placed
-- sites of well-typed bodies
pub mod Sites
-- what is so of each proc
pub mod Facts
-- networks of texts
pub mod Texts
-- ends by their channels and ways
pub mod Pairs
-- ends that are handed over
pub mod Handed
-- each end at one proc
pub mod Once
-- names of channels
pub mod Names
-- checked texts
pub mod Cores
-- channels named by their numbers
pub mod Numbered
