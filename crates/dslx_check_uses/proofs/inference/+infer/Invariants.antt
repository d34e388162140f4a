use Rattle.std.proofs.Common.{◌≡◌, ◌++◌, List, drop, map}
use Rattle.base.specs.Lists.Prefix.{IsPrefix}
use Rattle.dslx_meaning.specs.Inference.{infer_each, inferred_in}
use Rattle.dslx_check_rules.specs.Interned.{ItemNames, type_at}
use Rattle.dslx_check_rules.specs.declared.table.row.TypeRow.{TypeRow}
use Rattle.dslx_check_uses.specs.Inferring.{number_of}
use Rattle.dslx_check_uses.proofs.inference.+infer.Given as goal

abbrev pub invariant-infer_each-parts : goal.invariant-infer_each-parts
invariant-infer_each-parts l = (names : ItemNames) (later : List TypeRow) → IsPrefix l.types later
    → map number_of l.found.items ++ infer_each (map inferred_in (drop l.i l.parts)) (map (type_at names later) (drop l.i l.own))
    ≡ map number_of l.initial.found.items ++ infer_each (map inferred_in l.parts) (map (type_at names later) l.own)
