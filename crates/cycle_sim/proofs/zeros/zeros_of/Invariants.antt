use Rattle.std.proofs.Common.{◌≡◌, ◌++◌, map, take}
use Rattle.xb_bits.specs.Word.{word}
use Rattle.vlog_tree.specs.Signals.{declared_port, declared_own}
use Rattle.cycle_sim.proofs.zeros.zeros_of.Given as goal

-- a 0 for each port so far
abbrev pub invariant-loop-port : goal.invariant-loop-port
invariant-loop-port l = l.values.items ≡ map (λ d. word d.width 0) (map declared_port (take l.port-index l.port-items))

-- and for each declaration so far
abbrev pub invariant-loop-own : goal.invariant-loop-own
invariant-loop-own l = l.values.items ≡ map (λ d. word d.width 0) (map declared_port l.design.ports ++ map declared_own (take l.own-index l.own-items))
