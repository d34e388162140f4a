-- What the machine comes to where a struct is used: what the type means that is its name alone.
use Rattle.std.proofs.Common.{◌≡◌, ℕ, zero, suc, List, [], Option, Some, None, length, refl, sym, ap, ◌∙◌}
use Rattle.xb_span.specs.declared.span.Span.{Span}
use Rattle.xb_span.specs.Spans.{nowhere}
use Rattle.dslx_tree.specs.declared.block.Stmt.TheFolds.{fold-roll-TypeExpr, fold-roll-TypeNode}
use Rattle.dslx_tree.specs.declared.block.Stmt.TheOpen.{TypeNode-F}
use Rattle.dslx_tree.specs.declared.item.Definition.{Definition}
use Rattle.dslx_tree.specs.declared.item.Definition.TheVariants as d
use Rattle.dslx_tree.specs.declared.item.Module.{Module}
use Rattle.dslx_tree.specs.declared.type_expr.TypeExpr.{TypeExpr, out-roll-TypeExpr, roll-TypeExpr}
use Rattle.dslx_tree.specs.declared.type_expr.TypeNode.{out-TypeNode, out-roll-TypeNode, roll-TypeNode}
use Rattle.dslx_tree.proofs.Lemmas.Folds.Levels.{TypeExprLevel, trees}
use Rattle.dslx_meaning.specs.Environment.{Env, Given}
use Rattle.dslx_meaning.specs.Items.{as_struct, item_named, meanings_of, meanings_within, struct_type, type_of_item}
use Rattle.dslx_meaning.specs.Lists.{and_then}
use Rattle.dslx_meaning.specs.Meaning.{ArmDen, ValueDen, FieldDen, StmtDen, ExprDen, PatternDen, TypeDen, arg_den, arm_den, block_den, expr_den, field_den, for_den, let_den, node_den, number_node, pattern_den, shape_den, stmt_den, type_expr_den, type_den, written_type}
use Rattle.dslx_meaning.specs.declared.ty.DslxType.{DslxType}
use Rattle.dslx_meaning.specs.Names.ConstMachine.Items.{at_struct, at_type_item, uses_struct, uses_type}
use Rattle.dslx_meaning.specs.Names.ConstMachine.Layers.{TypeLayer, type_of}
use Rattle.dslx_meaning.specs.Names.ConstMachine.States.{type_in}
use Rattle.dslx_meaning.specs.Names.ConstMachine.Steps.{type_begins}
use Rattle.dslx_meaning.specs.Names.ConstMachine.Tasks.{ConstState, Finding, FindsType, ValueFound}
use Rattle.dslx_meaning.proofs.Lemmas.Names.ConstMachine.{comes_to, comes_to_stepped}

-- where nothing is to be done, and a chain of uses may go through so many items
abbrev at_rest : Module → List Given → ℕ → ConstState
at_rest m bound n = record { text = m; kept = None; todo = []; found = ValueFound None; bound = bound; left = n }

abbrev items_there : Module → ℕ → Env
items_there m n = record { items = meanings_within m n; bound = [] }

-- ---- types

-- a type that is this name alone
abbrev type_alone : List ℕ → TypeExpr
type_alone name = roll-TypeExpr (record { span = nowhere; node = roll-TypeNode (TypeNode-F.TypeNode::Name name) })

type_top : (name : List ℕ) → type_of (type_alone name) ≡ TypeNode-F.TypeNode::Name name
type_top name =
    ap (λ (t : TypeExprLevel trees). out-TypeNode t.node) (out-roll-TypeExpr (record { span = nowhere; node = roll-TypeNode (TypeNode-F.TypeNode::Name name) }))
    ∙ out-roll-TypeNode (TypeNode-F.TypeNode::Name name)

type_name_means : (name : List ℕ) (env : Env) → written_type (type_alone name) env ≡ env.items.type_named name
type_name_means name env =
    ap (λ (t : TypeDen). t env) (fold-roll-TypeExpr StmtDen ExprDen PatternDen TypeDen ValueDen StmtDen ExprDen ArmDen ExprDen FieldDen ValueDen ExprDen PatternDen TypeDen
    stmt_den node_den shape_den type_den block_den let_den arg_den arm_den expr_den field_den for_den number_node pattern_den type_expr_den (record { span = nowhere; node = roll-TypeNode (TypeNode-F.TypeNode::Name name) }))
    ∙ ap (λ (t : TypeDen). t env) (fold-roll-TypeNode StmtDen ExprDen PatternDen TypeDen ValueDen StmtDen ExprDen ArmDen ExprDen FieldDen ValueDen ExprDen PatternDen TypeDen
    stmt_den node_den shape_den type_den block_den let_den arg_den arm_den expr_den field_den for_den number_node pattern_den type_expr_den (TypeNode-F.TypeNode::Name name))

type_comes : (name : List ℕ) (m : Module) (n : ℕ) → type_in (comes_to (uses_type name (at_rest m [] n))) ≡ (meanings_within m n).type_named name
type_comes name m n =
    ap (λ (t : TypeLayer). type_in (comes_to (type_begins t (at_rest m [] n)))) (sym (type_top name))
    ∙ sym (ap type_in (comes_to_stepped (FindsType (type_alone name)) [] (at_rest m [] n)))
    ∙ type_name_means name (items_there m n)

-- ---- structs

-- a name that isn't a struct's has no type of a struct, and one that is has that type
struct_within : (name : List ℕ) (m : Module) (n : ℕ) → type_in (comes_to (uses_struct name (at_rest m [] n))) ≡ (meanings_within m n).struct_named name
struct_within name m zero = refl
struct_within name m (suc n) = by (item_named name m.items) refl
  where
    by : (o : Option Definition) → item_named name m.items ≡ o → type_in (comes_to (at_struct n (as_struct o) (at_rest m [] (suc n)))) ≡ and_then (as_struct o) (struct_type (meanings_within m n))
    by None e = refl
    by (Some (d.Function f)) e = refl
    by (Some (d.Proc p)) e = refl
    by (Some (d.Constant c)) e = refl
    by (Some (d.Alias a)) e = refl
    by (Some (d.Struct s)) e =
        ap (λ (o : Option Definition). type_in (comes_to (at_type_item n o (at_rest m [] (suc n))))) (sym e)
        ∙ type_comes name m (suc n)
        ∙ ap (type_of_item (meanings_within m n)) e
    by (Some (d.Enum x)) e = refl

-- what is found in the end
pub struct_found : (name : List ℕ) (m : Module) (bound : List Given) (first used : ConstState) (f : Finding) (t : Option DslxType) → bound ≡ [] → first ≡ at_rest m bound (length m.items)
    → used ≡ uses_struct name first → f ≡ comes_to used → t ≡ type_in f → t ≡ (meanings_of m).struct_named name
struct_found name m bound first used f t none begins uses comes is =
    is
    ∙ ap type_in (comes ∙ ap comes_to (uses ∙ ap (uses_struct name) (begins ∙ ap (λ (b : List Given). at_rest m b (length m.items)) none)))
    ∙ struct_within name m (length m.items)
