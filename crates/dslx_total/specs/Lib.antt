-- `config`
pub mod Configs
-- designs
pub mod Designs
-- expressions
pub mod Expressions
-- families of procs
pub mod Families
-- instances
pub mod Instances
-- networks
pub mod Nets
-- tables of functions
pub mod Tables
-- texts
pub mod Texts
-- what an accepted text is lowered to has types: those of the text, without signs and names
pub mod Typed
