pub mod Answers
pub mod Reading
pub mod Scanned
pub mod Scanner
pub mod ScannerState
