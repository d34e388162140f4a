pub mod Places
pub mod Values
pub mod Written
pub mod Typed
pub mod NoToken
pub mod Settling
