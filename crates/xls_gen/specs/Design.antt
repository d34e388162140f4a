-- the numbers that are drawn, and what each says of a proc
pub mod Draw
-- the texts of the procs in the chain
pub mod ProcText
-- the text of the proc that spawns them
pub mod TopText
-- the whole text
pub mod Text
-- the words of the inputs
pub mod Words
