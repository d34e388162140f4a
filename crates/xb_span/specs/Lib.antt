-- what stands for a span that isn't there
pub mod Spans
-- the order of faults, and which of them is named
pub mod Fault
-- the limits: their order, and the words for them
pub mod Limit
-- the line of a passed limit
pub mod LimitText
-- what a piece of a message says
pub mod PieceText
-- the line of each refusal
pub mod RefusalText
-- how deep a text is nested
pub mod Nesting
