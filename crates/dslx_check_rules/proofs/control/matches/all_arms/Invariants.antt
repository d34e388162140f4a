use Rattle.std.proofs.Common.{List, take}
use Rattle.dslx_meaning.specs.Rules.ControlRules.{ArmTyping}
use Rattle.dslx_check_rules.specs.Interned.{ItemNames}
use Rattle.dslx_check_rules.specs.declared.table.row.TypeRow.{TypeRow}
use Rattle.dslx_check_rules.specs.Control.Matches.{AreArms, AreTogether}
use Rattle.dslx_check_rules.proofs.control.matches.all_arms.Given as goal

abbrev pub invariant-arms : goal.invariant-arms
invariant-arms l = (names : ItemNames) (rows later : List TypeRow) (xs : List ArmTyping) → AreArms names rows later l.arms xs → AreTogether l.all (take l.arm-index xs)
