use Rattle.std.proofs.Common.{◌≡◌, ◌-◌, map, drop, reverse}
use Rattle.xb_value.specs.Unflat.{taken_low, taken_by, taken_times}
use Rattle.xb_value.proofs.unflat_word.+take.Given as goal

abbrev pub invariant-take_each-parts : goal.invariant-take_each-parts
invariant-take_each-parts l =
    let taken = taken_by (map taken_low (drop (l.count - l.i) l.parts)) l.fn.number in
    record {
      values : reverse l.values.items ≡ taken.0;
      rest : l.rest ≡ taken.1;
    }

abbrev pub invariant-take_times-turns : goal.invariant-take_times-turns
invariant-take_times-turns l =
    let taken = taken_times l.counter (taken_low l.part) l.fn.number in
    record {
      values : reverse l.values.items ≡ taken.0;
      rest : l.rest ≡ taken.1;
    }
