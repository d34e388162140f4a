use Rattle.std.proofs.Common.{◌≡◌, List, map, take}
use Rattle.std.specs.List.{AllByRecursion}
use Rattle.base.specs.Lists.Prefix.{IsPrefix}
use Rattle.dslx_meaning.specs.Rules.ProcRules as the
use Rattle.dslx_check_rules.specs.Interned.{AreDistinct, HasRowIf, ItemNames, type_if}
use Rattle.dslx_check_rules.specs.Seen.{seen}
use Rattle.dslx_check_rules.specs.declared.table.row.TypeRow.{TypeRow}
use Rattle.dslx_check_declarations.specs.Config.{MeansEnds}
use Rattle.dslx_check_declarations.proofs.spawns.each_handed.Given as goal

abbrev pub invariant-ends : goal.invariant-ends
invariant-ends l = (names : ItemNames) (later : List TypeRow) (m : the.Made) → AreDistinct names → IsPrefix l.types later → MeansEnds names l.types later l.made m
    → AllByRecursion (HasRowIf l.types) l.words → l.faults ≡ seen (the.handed_faults m (map (type_if names later) (take l.i l.words)) l.ends l.idents)
