use Rattle.std.proofs.Common.{subst}
use Rattle.std.specs.Prelude.{slice_get}
use Rattle.vlog_tree.specs.Rows.{zeros}
use Rattle.vlog_tree.specs.Signals.{channels_of}
use Rattle.block_verilog.specs.Streams.Streams.{place_of}
use Rattle.block_verilog.proofs.OnStreams.OnPlaces.{IsDirected, directed_there}
use Rattle.block_verilog.proofs.streams.laws.modules_have_the_packages_channels.Goals as goal

pub returns-clause-inputs : goal.returns-clause-inputs
returns-clause-inputs c m ir schedules depths is i channel there e = subst (λ x. IsDirected channel x (slice_get (channels_of m) (place_of ir.channels i))) e (directed_there m (zeros m) ir.channels is.ports i channel there)

pub returns-clause-outputs : goal.returns-clause-outputs
returns-clause-outputs c m ir schedules depths is i channel there e = subst (λ x. IsDirected channel x (slice_get (channels_of m) (place_of ir.channels i))) e (directed_there m (zeros m) ir.channels is.ports i channel there)
