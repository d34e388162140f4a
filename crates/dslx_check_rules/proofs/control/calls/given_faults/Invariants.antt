use Rattle.std.proofs.Common.{◌≡◌, List, take}
use Rattle.dslx_meaning.specs.Rules.TypeEnvs.{faults_of_all}
use Rattle.dslx_meaning.specs.Rules.CallRules.{ParametricArgument, given_judgements}
use Rattle.dslx_check_rules.specs.Interned.{ItemNames}
use Rattle.dslx_check_rules.specs.declared.table.row.TypeRow.{TypeRow}
use Rattle.dslx_check_rules.specs.Seen.{seen}
use Rattle.dslx_check_rules.specs.Control.Calls.{AreGiven}
use Rattle.dslx_check_rules.proofs.control.calls.given_faults.Given as goal

abbrev pub invariant-given : goal.invariant-given
invariant-given l = (names : ItemNames) (rows later : List TypeRow) (xs : List ParametricArgument) → AreGiven names rows later l.given xs
    → l.faults ≡ seen (faults_of_all (take l.argument-index (given_judgements xs)))
