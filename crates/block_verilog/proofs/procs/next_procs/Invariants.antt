use Rattle.std.proofs.Common.{◌≡◌, map, length, List}
use Rattle.ir_tree.specs.declared.package.Channel.{Channel}
use Rattle.block_verilog.specs.Each.{EachFrom}
use Rattle.block_verilog.specs.Procs.{MadeProc, IsMadeProc}
use Rattle.block_verilog.proofs.OnProcs.{NextSoFar}
use Rattle.block_verilog.proofs.procs.next_procs.Given as goal

abbrev pub invariant-procs : goal.invariant-procs
invariant-procs l =
    (channels : List Channel) (each : List MadeProc) → map (λ (one : MadeProc). one.made) each ≡ l.made → EachFrom (IsMadeProc channels l.procs l.schedules l.layouts) 0 each
    → NextSoFar l.initial.wires l.wires channels l.procs l.schedules l.layouts each l.i l.initial.nexts.items l.nexts.items
