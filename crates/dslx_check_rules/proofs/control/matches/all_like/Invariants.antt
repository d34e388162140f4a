use Rattle.std.proofs.Common.{◌≡◌, List, take}
use Rattle.std.specs.List.{list_all}
use Rattle.base.specs.Lists.Prefix.{IsPrefix}
use Rattle.dslx_check_rules.specs.Interned.{AreDistinct, HasRow, ItemNames, type_at}
use Rattle.dslx_check_rules.specs.declared.table.row.TypeRow.{TypeRow}
use Rattle.dslx_meaning.specs.Rules.TypeEnvs.{types_of}
use Rattle.dslx_meaning.specs.Rules.ControlRules.{ArmTyping, arm_values}
use Rattle.dslx_check_rules.specs.Control.Matches.{AreArms, is_like}
use Rattle.dslx_check_rules.proofs.control.matches.all_like.Given as goal

abbrev pub invariant-arms : goal.invariant-arms
invariant-arms l = (names : ItemNames) (later : List TypeRow) (xs : List ArmTyping) → AreDistinct names → IsPrefix l.types later → HasRow l.types l.ty → AreArms names l.types later l.arms xs
    → l.are_like ≡ list_all (is_like (type_at names later l.ty)) (types_of (arm_values (take l.arm-index xs)))
