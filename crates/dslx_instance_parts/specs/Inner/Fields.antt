-- Fields, in two parts: which value has those that aren't written, and how the lowering goes on.
use Rattle.std.specs.Prelude.{[], ◌∷◌, List, ℕ, Option, Some, None, if◌then◌else◌}
use Rattle.std.specs.List.{list_all}
use Rattle.dslx_tree.specs.declared.expr.Expr.{Expr}
use Rattle.dslx_tree.specs.declared.expr.FieldValue.{FieldValue}
use Rattle.dslx_meaning.specs.Lists.{is_in}
use Rattle.dslx_meaning.specs.declared.ty.DslxType.{DslxType}
use Rattle.dslx_core.specs.Machines.Machine.Bodies.{doing}
use Rattle.dslx_core.specs.Machines.Machine.Parts.{fields_on, names_of_fields}
use Rattle.dslx_core.specs.Machines.Machine.Tasks.{InstanceEnv, LowersExpr, OpenBody, TakesOthers}

-- what has the fields that aren't written, if there is such a field
abbrev pub others_needed : List (List ℕ) → List FieldValue → Option Expr → Option Expr
others_needed fields written None = None
others_needed fields written (Some e) = if list_all (λ field. is_in field (names_of_fields written)) fields then None else Some e

-- it is lowered first, where it is needed
abbrev pub fields_by : InstanceEnv → List FieldValue → Option Expr → DslxType → List (List ℕ) → List DslxType → OpenBody → Option OpenBody
fields_by context written None t fields ts body = fields_on context (record { ty = t; written = written; others = None }) [] fields ts body
fields_by context written (Some e) t fields ts body = Some (doing (LowersExpr e ∷ TakesOthers t fields ts written ∷ []) body)
