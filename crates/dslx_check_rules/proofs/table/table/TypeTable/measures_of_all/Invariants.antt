use Rattle.std.proofs.Common.{◌≡◌, drop, map}
use Rattle.std.specs.List.{fold}
use Rattle.dslx_check_rules.specs.Measures.{measures_of}
use Rattle.dslx_check_rules.specs.Inner.Measured.{joined, of_parts}
use Rattle.dslx_check_rules.specs.Interned.{ItemNames, type_at}
use Rattle.dslx_check_rules.proofs.table.table.TypeTable.measures_of_all.Given as goal

abbrev pub invariant-parts : goal.invariant-parts
invariant-parts l =
    (names : ItemNames) → fold joined l.all (map (λ p. measures_of (type_at names l.self p)) (drop l.part-index l.parts)) ≡ of_parts (map (λ p. measures_of (type_at names l.self p)) l.parts)
