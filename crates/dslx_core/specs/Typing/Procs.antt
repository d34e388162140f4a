-- words of channels
pub mod WordsOfEnds
