-- what functions of one file show one another
pub mod Inner
-- how bodies are opened
pub mod Opening
