-- how bodies are opened
pub mod OnOpening
-- steps
pub mod OnSteps
