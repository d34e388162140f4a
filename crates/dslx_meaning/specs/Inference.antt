-- Which parametrics the type of an argument infers.
use Rattle.std.specs.Prelude.{ℕ, List, [], ◌∷◌, ◌++◌, ◌==◌, Bool, Option, Some, None, length, if◌then◌else◌}
use Rattle.std.specs.Str.{bytes_eq}
use Rattle.dslx_tree.specs.declared.block.Stmt.TheOpen.{Node-F, TypeNode-F}
use Rattle.dslx_tree.specs.declared.type_expr.TypeExpr.{TypeExpr, fold-TypeExpr}
use Rattle.dslx_meaning.specs.Types.{same_bool}
use Rattle.dslx_meaning.specs.declared.ty.DslxType.{DslxType, out-DslxType}
use Rattle.dslx_meaning.specs.declared.ty.DslxType.TheOpen.{DslxType-F}

-- a name, and the number that is inferred for it
pub record Inferred : Type 0 where
  pub name : List ℕ
  pub number : ℕ

-- what a written type says of the numbers in it, beside the type of an argument. What doesn't match says nothing
abbrev pub Infers : Type 0
Infers = DslxType → List Inferred

-- an expression that is a name alone
abbrev pub Naming : Type 0
Naming = Option (List ℕ)

abbrev pub named_number : Naming → ℕ → List Inferred
named_number None n = []
named_number (Some name) n = record { name = name; number = n } ∷ []

abbrev pub infer_width : Bool → Naming → DslxType-F DslxType → List Inferred
infer_width s name (DslxType-F.Bits s' w) = if same_bool s s' then named_number name w else []
infer_width s name _ = []

abbrev pub infer_each : List Infers → List DslxType → List Inferred
infer_each [] ts = []
infer_each (p ∷ ps) [] = []
infer_each (p ∷ ps) (t ∷ ts) = p t ++ infer_each ps ts

abbrev pub infer_tuple : List Infers → DslxType-F DslxType → List Inferred
infer_tuple ps (DslxType-F.Tuple ts) = if length ps == length ts then infer_each ps ts else []
infer_tuple ps _ = []

abbrev pub infer_array : Infers → Naming → DslxType-F DslxType → List Inferred
infer_array p name (DslxType-F.Array t n) = p t ++ named_number name n
infer_array p name _ = []

abbrev pub Nil : Type 0
Nil = Unit {0}

abbrev pub infer_node : TypeNode-F Nil Naming Nil Infers Nil Nil Nil Nil Naming Nil Nil Nil Nil Infers → Infers
infer_node (TypeNode-F.Bits s w) t = []
infer_node (TypeNode-F.Wide s e) t = infer_width s e (out-DslxType t)
infer_node TypeNode-F.TypeNode::Bool t = []
infer_node (TypeNode-F.TypeNode::Name name) t = []
infer_node (TypeNode-F.TypeNode::Tuple ps) t = infer_tuple ps (out-DslxType t)
infer_node (TypeNode-F.TypeNode::Array p e) t = infer_array p e (out-DslxType t)

abbrev pub naming_node : Node-F Nil Naming Nil Infers Nil Nil Nil Nil Naming Nil Nil Nil Nil Infers → Naming
naming_node (Node-F.Node::Name name) = Some name
naming_node _ = None

-- what the type of an argument infers, by the type that is written for it
abbrev pub inferred_in : TypeExpr → Infers
inferred_in = fold-TypeExpr Nil Naming Nil Infers Nil Nil Nil Nil Naming Nil Nil Nil Nil Infers
    (λ s. tt) naming_node (λ p. tt) infer_node (λ b. tt) (λ l. tt) (λ a. tt) (λ a. tt) (λ e. e.node) (λ f. tt) (λ f. tt) (λ n. tt) (λ p. tt) (λ t. t.node)

-- the first number that is inferred for a name
abbrev pub inferred_for : List ℕ → List Inferred → Option ℕ
inferred_for name [] = None
inferred_for name (i ∷ is) = if bytes_eq name i.name then Some i.number else inferred_for name is
