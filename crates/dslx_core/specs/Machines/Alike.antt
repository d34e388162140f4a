-- what is claimed of scopes in which calls resolve to different instances
pub mod Alike
-- what is claimed of tables of instances
pub mod Tables
