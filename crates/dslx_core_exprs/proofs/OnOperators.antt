-- widths that words have, and what is made where they have so many bits
pub mod Widths
