-- two values, and what is made of both
mod Both
-- how bodies are opened
pub mod OnOpening
