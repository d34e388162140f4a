-- events of runs
-- modules that are fed
pub mod OnEvents
pub mod OnFeed
