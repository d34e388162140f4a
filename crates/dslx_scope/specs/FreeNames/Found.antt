-- What comes of each task: the free names of what is to be visited, and what is bound behind it.
use Rattle.std.specs.Prelude.{ℕ, List, [], ◌∷◌, ◌++◌, map}
use Rattle.dslx_tree.specs.declared.block.Stmt.{Stmt}
use Rattle.dslx_meaning.specs.Rules.Mentions.{Mentions, all_mentions, binders_mentions, binders_names, mentioned, mentioned_in_arg, mentioned_in_block, mentioned_in_type, nowhere, value_names}
use Rattle.dslx_meaning.specs.Names.FirstNames.{first_names}
use Rattle.dslx_scope.specs.FreeNames.Tasks as task
use Rattle.dslx_scope.specs.FreeNames.Tasks.{FreeTask, FreeState}
use Rattle.dslx_scope.specs.FreeNames.Mentioned.{in_arm, in_field, in_pattern, in_statements, in_stmt}

-- what is mentioned there
abbrev pub mentioned_by : FreeTask → Mentions
mentioned_by (task.VisitsExpr e) = mentioned e
mentioned_by (task.VisitsExprs es) = all_mentions (map mentioned es)
mentioned_by (task.VisitsArgs as') = all_mentions (map mentioned_in_arg as')
mentioned_by (task.VisitsFields fs) = all_mentions (map in_field fs)
mentioned_by (task.VisitsType t) = mentioned_in_type t
mentioned_by (task.VisitsTypes ts) = all_mentions (map mentioned_in_type ts)
mentioned_by (task.VisitsBlock b) = mentioned_in_block b
mentioned_by (task.VisitsStatements ss last) = in_statements ss last
mentioned_by (task.VisitsArms as') = all_mentions (map in_arm as')
mentioned_by (task.VisitsPattern p) = (in_pattern p).mentions
mentioned_by (task.VisitsPatterns ps) = binders_mentions (map in_pattern ps)
mentioned_by (task.BindsNames p) = nowhere
mentioned_by (task.BindsNamesOfAll ps) = nowhere
mentioned_by (task.KeepsNames n) = nowhere

abbrev pub bound_by_statements : List Stmt → List (List ℕ) → List (List ℕ)
bound_by_statements [] bound = bound
bound_by_statements (s ∷ ss) bound = bound_by_statements ss ((in_stmt s).names ++ bound)

-- what is bound behind it
abbrev pub bound_by : FreeTask → List (List ℕ) → List (List ℕ)
bound_by (task.VisitsStatements ss last) bound = bound_by_statements ss bound
bound_by (task.BindsNames p) bound = (in_pattern p).names ++ bound
bound_by (task.BindsNamesOfAll ps) bound = binders_names (map in_pattern ps) ++ bound
bound_by (task.KeepsNames n) bound = first_names n bound
bound_by _ bound = bound

-- the free names of what is to be done
abbrev pub names_of_tasks : List FreeTask → List (List ℕ) → List (List ℕ)
names_of_tasks [] bound = []
names_of_tasks (d ∷ todo) bound = value_names (mentioned_by d bound) ++ names_of_tasks todo (bound_by d bound)

-- the names that come of the machine
abbrev pub all_found : FreeState → List (List ℕ)
all_found run = run.found ++ names_of_tasks run.todo run.bound
