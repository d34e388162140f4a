-- places in tables
pub mod OnPlaces
-- items that are known with all that they mention
pub mod OnSettled
-- what is known goes on to be so
pub mod OnLearnt
-- items by their numbers and their names
pub mod OnFirsts
-- items that are judged
pub mod OnItems
-- instances that are done
pub mod OnInstances
-- parts of declarations that are judged
pub mod OnParts
-- items by their kinds
pub mod OnKinds
