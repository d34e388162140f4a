-- items by number
pub mod OnItems
-- what is mentioned
pub mod OnMentions
-- which items reach which
pub mod OnReaching
