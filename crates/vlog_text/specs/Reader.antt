-- what a Verilog text gives: its module, or why it is refused
pub mod Given
