-- what types become that see no local
pub mod Types
