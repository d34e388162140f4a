-- lists of what each part makes, one after another
pub mod InOrder
-- what a `config` makes, one after another
pub mod ConfigStatements
-- ends by their numbers, one after another
pub mod Numbered
