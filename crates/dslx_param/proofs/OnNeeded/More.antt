-- What calls resolve to among some instances, and among more.
use Rattle.std.proofs.Common.{◌≡◌, ◌∙◌, ℕ, List, [], Option, Some, ap, sym}
use Rattle.dslx_tree.specs.declared.expr.Expr.{Expr}
use Rattle.dslx_tree.specs.declared.item.Function.{Function}
use Rattle.dslx_tree.specs.declared.item.Module.{Module}
use Rattle.dslx_meaning.specs.Environment.{Meanings}
use Rattle.dslx_meaning.specs.Items.{all_parametric_args, as_function, inferred_from, item_named}
use Rattle.dslx_meaning.specs.Lists.{and_then, pairwise, where_true}
use Rattle.dslx_meaning.specs.declared.ty.DslxType.{DslxType}
use Rattle.dslx_meaning.specs.declared.value.DslxValue.{DslxValue}
use Rattle.dslx_core.proofs.Lemmas.Machines.Machine.Options.{from_then, from_where}
use Rattle.dslx_core.proofs.Lemmas.Typing.Typed.{same_some}
use Rattle.dslx_core.specs.Lowering.CoreScopes.{CoreCallee, CoreScope}
use Rattle.dslx_core.specs.Lowering.EqualTypes.{equal_type}
use Rattle.dslx_core.specs.Lowering.Functions.{CoreInstance, Instantiated, callee_in, callee_of, instance_in, next_instance}
use Rattle.dslx_core.specs.Lowering.Trees.{lower_expression}
use Rattle.dslx_core.specs.Machines.Alike.Alike.{KnowsMore, LowerMono, MakesMore, OfOneType}
use Rattle.dslx_core.specs.Machines.Machine.Callees.{CalleesByName, with_callee}

-- what is lowered stays lowered where more calls resolve
abbrev pub ExprsAreMono : Type 0
ExprsAreMono = (e : Expr) (scope : CoreScope) (c d : CalleesByName) → KnowsMore c d → LowerMono (lower_expression e (with_callee c scope)) (lower_expression e (with_callee d scope))

abbrev pub InstancesAreMono : Type 0
InstancesAreMono = (m : Module) (items : Meanings) (before other : List CoreInstance) → KnowsMore (callee_in m items before) (callee_in m items other)
    → (i : Instantiated) → MakesMore (next_instance m items before i) (next_instance m items other i)

-- each of the first is found among the second, with the same types
abbrev pub FoundAmong : List CoreInstance → List CoreInstance → Type 0
FoundAmong these more = (name : List ℕ) (parametric_args : List DslxValue) (p : ℕ × CoreInstance) → instance_in name parametric_args 0 these ≡ Some p
    → (q : ℕ × CoreInstance) × (instance_in name parametric_args 0 more ≡ Some q) × OfOneType p.1 q.1

-- one behind the other
then_is : {A B : Type 0} (o : Option A) (f : A → Option B) (a : A) (b : B) → o ≡ Some a → f a ≡ Some b → and_then o f ≡ Some b
then_is o f a b e h = ap (λ o. and_then o f) e ∙ h

-- an instance of the same types is called for the same operands
callee_more : (types : List DslxType) (p q : ℕ × CoreInstance) (callee : CoreCallee) → OfOneType p.1 q.1 → callee_of types p ≡ Some callee
    → (other : CoreCallee) × (callee_of types q ≡ Some other) × (callee.result ≡ other.result)
callee_more types p q callee one e =
    let c = from_where (pairwise equal_type p.1.function.arguments types) (Some (record { number = p.0; result = p.1.function.result })) callee e in
    let other : CoreCallee = record { number = q.0; result = q.1.function.result } in (
      other,
      ap (λ b. where_true b (Some other)) (ap (λ (ts : List DslxType). pairwise equal_type ts types) (sym one.arguments) ∙ c.0),
      ap (λ (c : CoreCallee). c.result) (sym (same_some (record { number = p.0; result = p.1.function.result }) callee c.1)) ∙ one.result,
    )

pub knows_more : (m : Module) (items : Meanings) (these more : List CoreInstance) → FoundAmong these more → KnowsMore (callee_in m items these) (callee_in m items more)
knows_more m items these more among name given types callee e =
    let called : List CoreInstance → List DslxValue → Option CoreCallee = λ t args. and_then (instance_in name args 0 t) (callee_of types) in
    let by_args : List CoreInstance → Function → Option CoreCallee = λ t f. and_then (all_parametric_args items (inferred_from f.arguments types) [] f.parametrics given) (called t) in
    let f = from_then (as_function (item_named name m.items)) (by_args these) callee e in
    let a = from_then (all_parametric_args items (inferred_from f.0.arguments types) [] f.0.parametrics given) (called these) callee f.2 in
    let p = from_then (instance_in name a.0 0 these) (callee_of types) callee a.2 in
    let q = among name a.0 p.0 p.1 in
    let other = callee_more types p.0 q.0 callee q.2 p.2 in (
      other.0,
      then_is (as_function (item_named name m.items)) (by_args more) f.0 other.0 f.1
          (then_is (all_parametric_args items (inferred_from f.0.arguments types) [] f.0.parametrics given) (called more) a.0 other.0 a.1
          (then_is (instance_in name a.0 0 more) (callee_of types) q.0 other.0 q.1 other.1)),
      other.2,
    )
