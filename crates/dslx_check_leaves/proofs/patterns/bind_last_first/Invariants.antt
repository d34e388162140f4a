use Rattle.std.proofs.Common.{◌≡◌, ◌++◌, length}
use Rattle.dslx_check_leaves.specs.Walked.{all_bound}
use Rattle.dslx_check_leaves.proofs.patterns.bind_last_first.Given as goal

abbrev pub invariant-alternatives : goal.invariant-alternatives
invariant-alternatives l = record l.s { locals = all_bound l.bound.items ++ l.s.locals } ≡ record l.fn.s { locals = all_bound l.fn.bound.items ++ l.fn.s.locals }

abbrev pub decreases-alternatives : goal.decreases-alternatives
decreases-alternatives l = length l.bound.items
