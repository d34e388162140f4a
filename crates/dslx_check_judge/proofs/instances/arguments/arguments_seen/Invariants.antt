use Rattle.std.proofs.Common.{[], take}
use Rattle.dslx_meaning.specs.Items.{name_of_field}
use Rattle.dslx_check_facts.specs.Walks.{shown}
use Rattle.dslx_check_declarations.specs.Names.{AreBefore}
use Rattle.dslx_check_declarations.proofs.Lemmas.Listed.{names_behind}
use Rattle.dslx_check_leaves.specs.Walked.{WalksTo}
use Rattle.dslx_check_judge.specs.Items.Lists.{IsTypeAs}
use Rattle.dslx_check_judge.proofs.OnInstances.OnArguments as list
use Rattle.dslx_check_judge.proofs.Lemmas.Items.OnLists.{listed}
use Rattle.dslx_check_judge.proofs.instances.arguments.arguments_seen.Given as goal

abbrev pub invariant-arguments : goal.invariant-arguments
invariant-arguments l = record {
  walked : WalksTo l.f l.fn.s l.s (shown l.fn.w) (shown l.w) (listed list.arguments IsTypeAs l.faults l.types.items (take l.i l.arguments));
  names : AreBefore l.before (names_behind name_of_field [] (take l.i l.arguments));
}
