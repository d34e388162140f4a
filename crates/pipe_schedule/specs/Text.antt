-- the text of schedules
pub mod Text
-- the line that says why there is no schedule
pub mod Infeasible
