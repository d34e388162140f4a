-- what is known of items and of instances of functions
pub mod OnItems
-- how large instances of functions are
pub mod OnSizes
-- what procs declare
pub mod OnProcs
-- what items declare
pub mod OnDeclared
