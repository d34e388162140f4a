-- Bits that say what holds of values.
pub use Rattle.ir_rebuild.proofs.OnPutting.OnTests.{and_step, always, test_as, passes_length, read_part}
