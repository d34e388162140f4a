-- a FIFO as the list of its words
pub mod Fifo
-- its registers as a row that shifts, with a count
pub mod Row
-- its registers as a ring with two pointers
pub mod Ring
