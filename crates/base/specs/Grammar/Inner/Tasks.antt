-- What `steps` has still to do.
use Rattle.std.specs.Prelude.{ℕ, suc, ◌+◌, List, [], ◌∷◌, ◌++◌, Option, None, Some, length, map, slice_get}
use Rattle.base.specs.declared.grammar.table.Symbol.{Symbol}
use Rattle.base.specs.declared.grammar.table.Symbol.TheVariants.{Terminal, Nonterminal}
use Rattle.base.specs.declared.grammar.bottom_up.Step.{Step}
use Rattle.base.specs.declared.grammar.bottom_up.Step.TheVariants as made
use Rattle.base.specs.declared.grammar.bottom_up.Task.{Task}
use Rattle.base.specs.declared.grammar.bottom_up.Task.TheVariants.{Visit, Reduce}
use Rattle.base.specs.Grammar.Syntax.{Rule}
use Rattle.base.specs.Grammar.Derivation.{IsRule}

abbrev pub reads : List Symbol → List Task
reads s = map (λ x. Visit x) s

-- Done from the first task on, with these productions, the tasks give these steps.
pub data TasksGive (rules : List Rule) : List Task → List ℕ → List Step → Type 0 where
  none : TasksGive rules [] [] []
  shift : {t : ℕ} {tasks : List Task} {ps : List ℕ} {steps : List Step} → TasksGive rules tasks ps steps → TasksGive rules (Visit (Terminal t) ∷ tasks) ps (made.Shift ∷ steps)
  expand : {p n : ℕ} (b : List Symbol) {tasks : List Task} {ps : List ℕ} {steps : List Step} → IsRule rules p n b → TasksGive rules (reads b ++ Reduce p ∷ tasks) ps steps → TasksGive rules (Visit (Nonterminal n) ∷ tasks) (p ∷ ps) steps
  reduce : {p : ℕ} {tasks : List Task} {ps : List ℕ} {steps : List Step} → TasksGive rules tasks ps steps → TasksGive rules (Reduce p ∷ tasks) ps (made.Reduce p ∷ steps)

-- the body of a rule, by its number
abbrev pub body_of : Option Rule → List Symbol
body_of None = []
body_of (Some r) = r.body

-- at most how many tasks the productions make
abbrev pub tasks_of : List Rule → List ℕ → ℕ
tasks_of rules [] = 0
tasks_of rules (p ∷ ps) = suc (length (body_of (slice_get rules p))) + tasks_of rules ps
