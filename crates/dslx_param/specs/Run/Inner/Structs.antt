-- Struct values, by the struct's name.
use Rattle.std.specs.Prelude.{ℕ, List, Option}
use Rattle.dslx_tree.specs.declared.expr.Expr.{Expr}
use Rattle.dslx_tree.specs.declared.expr.FieldValue.{FieldValue}
use Rattle.dslx_meaning.specs.Lists.{and_then}
use Rattle.dslx_meaning.specs.declared.ty.DslxType.{out-DslxType}
use Rattle.dslx_core.specs.Machines.Machine.Parts.{struct_begins}
use Rattle.dslx_core.specs.Machines.Machine.Tasks.{InstanceEnv, OpenBody}

-- a value of the struct of this name is to be made
abbrev pub struct_named_begins : InstanceEnv → List ℕ → List FieldValue → Option Expr → OpenBody → Option OpenBody
struct_named_begins context name fields rest body = and_then (context.items.struct_named name) (λ t. struct_begins context fields rest (out-DslxType t) body)
