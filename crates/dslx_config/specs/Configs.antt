-- ends by what code has of them
pub mod Shown
-- the instances that spawns come to
pub mod Spawned
