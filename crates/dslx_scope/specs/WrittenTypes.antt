-- which written types see a local
pub mod Seen
