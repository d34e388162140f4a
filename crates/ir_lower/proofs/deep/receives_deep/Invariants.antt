use Rattle.std.proofs.Common.{◌≡◌, drop}
use Rattle.std.specs.List.{list_any}
use Rattle.ir_lower.specs.Deep.{is_deep_head}
use Rattle.ir_lower.proofs.deep.receives_deep.Given as goal

abbrev pub invariant-procs : goal.invariant-procs
invariant-procs l = list_any (is_deep_head l.chans) (drop l.head-index l.head-items) ≡ list_any (is_deep_head l.chans) l.head-items
