-- how bodies are opened
pub mod Opening
-- steps
pub mod Steps
