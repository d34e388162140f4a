-- Arrays of a type that is written.
use Rattle.std.specs.Prelude.{[], List, Bool, Option}
use Rattle.dslx_tree.specs.declared.expr.Expr.{Expr}
use Rattle.dslx_meaning.specs.Lists.{and_then}
use Rattle.dslx_meaning.specs.declared.ty.DslxType.{DslxType}
use Rattle.dslx_meaning.specs.Rules.AggregateRules.{array_in}
use Rattle.dslx_core.specs.Machines.Machine.Parts.{gathers}
use Rattle.dslx_core.specs.Machines.Machine.Tasks.{Fills, InstanceEnv, OpenBody}

-- the elements, if the type is an array's
abbrev pub fills_type : Option DslxType → InstanceEnv → List Expr → Bool → OpenBody → Option OpenBody
fills_type t context es dots body = and_then (and_then t array_in) (λ parts. gathers context [] es (Fills parts.0 parts.1 dots) body)
