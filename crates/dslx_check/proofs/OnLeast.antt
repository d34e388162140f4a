-- places in the order of faults
pub mod OnPlaces
-- lists of instances
pub mod OnLists
-- which fault is named
pub mod OnNamed
