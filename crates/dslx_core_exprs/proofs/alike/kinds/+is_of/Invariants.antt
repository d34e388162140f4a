use Rattle.std.proofs.Common.{◌≡◌, length, drop, map}
use Rattle.std.specs.List.{list_all}
use Rattle.dslx_core.specs.Typing.Typed.Kinds.{each_of, is_of}
use Rattle.dslx_core_exprs.proofs.alike.kinds.+is_of.Given as goal

abbrev pub invariant-all_of-values : goal.invariant-all_of-values
invariant-all_of-values l = list_all (is_of l.ty) (drop l.value-index l.values) ≡ list_all (is_of l.ty) l.values

abbrev pub invariant-are_of-parts : goal.invariant-are_of-parts
invariant-are_of-parts l =
    record {
      same_length : length l.types ≡ length l.values;
      same_rest : each_of (map is_of (drop l.i l.types)) (drop l.i l.values) ≡ each_of (map is_of l.types) l.values;
    }
