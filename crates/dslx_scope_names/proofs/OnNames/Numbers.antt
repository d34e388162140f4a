-- Numbers of types that are written.
use Rattle.std.proofs.Common.{◌≡◌, ℕ, Option, sym, ap, ◌∙◌}
use Rattle.dslx_tree.specs.declared.expr.Number.{Number, out-Number}
use Rattle.dslx_meaning.specs.Lists.{and_then}
use Rattle.dslx_meaning.specs.Operators.{number_value}
use Rattle.dslx_meaning.specs.declared.ty.DslxType.{DslxType}
use Rattle.dslx_meaning.specs.declared.value.DslxValue.{DslxValue}
use Rattle.dslx_meaning.specs.Names.ConstMachine.Layers.{written}
use Rattle.dslx_core.specs.Lowering.Trees.{lower_type_of_text}
use Rattle.dslx_core.specs.Machines.Machine.Callees.{CalleesByName}
use Rattle.dslx_core.specs.Machines.Machine.Steps.{number_at}
use Rattle.dslx_scope_names.specs.Values.Seen.{scope_with}
use Rattle.dslx_scope_names.specs.declared.values.context.ScopeEnv.{ScopeEnv}

-- what a type is found to be, whatever calls come to and however many values are bound
abbrev pub IsTypeOf : Option DslxType → ScopeEnv → Number → Type 0
IsTypeOf found s n = (callee : CalleesByName) (count : ℕ) → found ≡ and_then (out-Number n).ty (λ t. lower_type_of_text t (scope_with callee count s))

pub number_is : (n : Number) (s : ScopeEnv) (found o : Option DslxType) (v : Option DslxValue) → IsTypeOf found s n → found ≡ o
    → v ≡ and_then o (λ t. number_value t (written n)) → (callee : CalleesByName) (count : ℕ) → v ≡ number_at (scope_with callee count s) n
number_is n s found o v types e is callee count = is ∙ ap (λ (q : Option DslxType). and_then q (λ t. number_value t (written n))) (sym e ∙ types callee count)
