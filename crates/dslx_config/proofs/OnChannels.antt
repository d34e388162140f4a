-- widths of types without signs and names
pub mod Alike
