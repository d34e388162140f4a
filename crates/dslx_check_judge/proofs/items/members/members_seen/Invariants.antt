use Rattle.std.proofs.Common.{[], take}
use Rattle.dslx_check_facts.specs.Walks.{shown}
use Rattle.dslx_check_declarations.specs.Names.{AreBefore}
use Rattle.dslx_check_declarations.proofs.Lemmas.Listed.{names_behind}
use Rattle.dslx_check_leaves.specs.Walked.{WalksTo}
use Rattle.dslx_check_judge.specs.Items.Lists.{IsValueAs, OfType}
use Rattle.dslx_check_judge.proofs.Lemmas.Items.OnLists.{listed}
use Rattle.dslx_check_judge.proofs.OnItems.OnMembers as list
use Rattle.dslx_check_judge.proofs.items.members.members_seen.Given as goal

abbrev pub invariant-members : goal.invariant-members
invariant-members l = record {
  walked : WalksTo l.f l.fn.s l.s (shown l.fn.w) (shown l.w) (OfType (shown l.fn.w).rows l.base (λ t. listed (list.members t) IsValueAs l.faults l.values.items (take l.i l.members)));
  names : AreBefore l.before (names_behind list.member_name [] (take l.i l.members));
}
