-- how a tree is built from steps and tokens
pub mod Building
-- what rules of several sorts do
pub mod Common
-- what each rule of the grammar does
pub mod Table
