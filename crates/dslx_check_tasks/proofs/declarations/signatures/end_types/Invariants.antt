use Rattle.std.proofs.Common.{map, take}
use Rattle.dslx_check_facts.specs.Walks.{shown}
use Rattle.dslx_check_leaves.specs.Walked.{TypesEach, WalksTo}
use Rattle.dslx_check_tasks.specs.Declarations.Inner.Foreign.{end_in, IsDeclaredAs, reached_in}
use Rattle.dslx_check_tasks.proofs.declarations.signatures.end_types.Given as goal

abbrev pub invariant-ends : goal.invariant-ends
invariant-ends l = WalksTo l.f l.fn.s l.s (shown l.fn.w) (shown l.w) (TypesEach IsDeclaredAs reached_in l.types.items (λ env. map (end_in env) (take l.i l.ends)))
