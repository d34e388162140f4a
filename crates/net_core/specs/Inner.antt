-- what the machine's methods promise one another
pub mod Making
