use Rattle.std.proofs.Common.{◌≡◌, ◌==◌, ℕ, List, true, reverse, take}
use Rattle.std.specs.List.{list_all}
use Rattle.dslx_meaning.specs.Rules.ProcRules.{times_in}
use Rattle.dslx_check_declarations.specs.Config.{AreUsed}
use Rattle.dslx_check_declarations.proofs.config.Made.all_once.Given as goal

abbrev pub invariant-ends : goal.invariant-ends
invariant-ends l = (used : List (List ℕ)) → AreUsed l.self used → list_all (λ b. times_in b.0 used == 1) (take l.i (reverse l.s.ends)) ≡ true
