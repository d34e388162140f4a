use Rattle.std.proofs.Common.{◌≡◌, []}
use Rattle.dslx_meaning.specs.Rules.Mentions.{value_names}
use Rattle.dslx_scope.specs.FreeNames.Found.{all_found, mentioned_by}
use Rattle.dslx_scope.specs.FreeNames.Plain.{plain_task, shown}
use Rattle.dslx_scope.proofs.free_names.free.names_from.Given as goal

-- what comes of the machine is what is free
abbrev pub invariant-steps : goal.invariant-steps
invariant-steps l = all_found (shown l.machine) ≡ value_names (mentioned_by (plain_task l.fn.task) [])
