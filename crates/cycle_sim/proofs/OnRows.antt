pub mod Drafts
pub mod FirstPiece
pub mod Forms
pub mod Known
pub mod Items
pub mod Lines
pub mod OneReading
pub mod RowsFit
