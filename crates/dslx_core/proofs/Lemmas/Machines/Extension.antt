-- what comes by tables of instances, one work behind another
pub mod Coming
-- tables that begin with others
pub mod Growing
-- an expression has one type by all tables
pub mod OneType
