use Rattle.std.proofs.Common.{◌≡◌, List, length, drop}
use Rattle.base.specs.Lists.Prefix.{IsPrefix}
use Rattle.dslx_meaning.specs.Rules.ProcRules as the
use Rattle.dslx_meaning.specs.Rules.TypeEnvs.{ChannelEnd}
use Rattle.dslx_check_rules.specs.Interned.{AreDistinct, ItemNames}
use Rattle.dslx_check_rules.specs.declared.table.row.TypeRow.{TypeRow}
use Rattle.dslx_check_rules.specs.Nodes.Parts.{Pairs}
use Rattle.dslx_check_declarations.specs.Config.{MeansEnds}
use Rattle.dslx_check_declarations.specs.Ends.{IsNamed}
use Rattle.dslx_check_declarations.specs.Procs.{are_members}
use Rattle.dslx_check_declarations.proofs.procs.is_members.Given as goal

abbrev pub invariant-members : goal.invariant-members
invariant-members l = record {
  same_length : length l.members ≡ length l.idents;
  same_rest : (names : ItemNames) (later : List TypeRow) (m : the.Made) (os : List ChannelEnd) → AreDistinct names → IsPrefix l.types later → MeansEnds names l.types later l.made m
      → Pairs (IsNamed names l.types later) l.members os → are_members m (drop l.i os) (drop l.i l.idents) ≡ are_members m os l.idents;
}
