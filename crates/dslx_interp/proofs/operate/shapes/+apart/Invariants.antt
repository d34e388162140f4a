use Rattle.std.proofs.Common.{◌≡◌, length, drop, take, map}
use Rattle.dslx_core.specs.CoreValues.{taken_apart, apart_each}
use Rattle.dslx_interp.proofs.operate.shapes.+apart.Given as goal

abbrev pub invariant-take_each-parts : goal.invariant-take_each-parts
invariant-take_each-parts l =
    record {
      same_length : length l.shapes ≡ length l.values;
      same_rest : apart_each (map taken_apart (drop l.i l.shapes)) (drop l.i l.values) l.bound.items ≡ apart_each (map taken_apart l.shapes) l.values l.initial.bound.items;
      front : take (length l.initial.bound.items) l.bound.items ≡ l.initial.bound.items;
    }
