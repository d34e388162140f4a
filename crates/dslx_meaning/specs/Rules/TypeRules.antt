-- The rules of written types.
use Rattle.std.specs.Prelude.{ℕ, List, [], ◌∷◌, ◌++◌, map, Bool, true, false, Option, Some, None, if◌then◌else◌}
use Rattle.xb_span.specs.declared.span.Span.{Span}
use Rattle.xb_span.specs.declared.fault.Fault.{Fault}
use Rattle.dslx_tree.specs.declared.block.Stmt.TheOpen.{TypeNode-F}
use Rattle.dslx_tree.specs.declared.type_expr.TypeExpr.{out-TypeExpr}
use Rattle.dslx_meaning.specs.Lists.{all_some, and_then, with_both}
use Rattle.dslx_meaning.specs.Types.{is_unit}
use Rattle.dslx_meaning.specs.Items.{item_named}
use Rattle.dslx_meaning.specs.declared.ty.DslxType.{DslxType}
use Rattle.dslx_meaning.specs.declared.ty.DslxType as ty
use Rattle.dslx_meaning.specs.Rules.Mentions.{is_of_use, AsType}
use Rattle.dslx_meaning.specs.Rules.TypeEnvs.{TypeEnv, Judgement, breaks, breaks_if, settled, faults_of_all, reached_of_all, types_of}
use Rattle.dslx_meaning.specs.Rules.ConstantRules.{CountSeen, count_of, count_faults}
use Rattle.dslx_meaning.specs.Rules.Typings.{TypePair, TypeNodeLayer}
use Rattle.dslx_meaning.specs.Rules.RuleNumbers as rule

-- rule 31: () stands inside another type
abbrev pub unit_faults : Span → Option DslxType → List Fault
unit_faults span None = []
unit_faults span (Some t) = breaks_if (is_unit t) rule.NO_UNIT_INSIDE span

-- a type where () may not stand and so is none
abbrev pub unless_unit : Option DslxType → Option DslxType
unless_unit t = and_then t (λ t. if is_unit t then None else Some t)

abbrev pub span_of_type : TypePair → Span
span_of_type t = (out-TypeExpr t.0).span

-- a type inside another, or where () may not stand
abbrev pub inner_type : TypeEnv → TypePair → Judgement
inner_type context t =
    let j = t.1 context in
    record j { faults = j.faults ++ unit_faults (span_of_type t) j.ty }

abbrev pub inner_types : TypeEnv → List TypePair → List Judgement
inner_types context ts = map (inner_type context) ts

-- a type that has no parts
abbrev pub whole_type : Span → DslxType → Judgement
whole_type span t = settled span (Some t) [] [] (Some 0)

-- bits whose width is written in their name, where no text writes 0
abbrev pub named_bits : Span → Bool → ℕ → Judgement
named_bits span s w = settled span (Some (ty.Bits s w)) (count_faults span (Some w)) [] (Some 0)

abbrev pub counted_type : Span → Option DslxType → List Fault → CountSeen → Judgement
counted_type span t faults n = settled span t (faults ++ n.judgement.faults) n.judgement.reached (Some 0)

-- rule 1: no item, or none that names a type; rule 3: it reaches the item in whose text it stands
abbrev pub named_type : Span → TypeEnv → List ℕ → Bool → Judgement
named_type span context name false = settled span None (breaks rule.NAME_IS_DECLARED span ∷ []) [] (Some 0)
named_type span context name true =
    settled span (context.known.items.type_named name) (breaks_if (context.known.is_cyclic context.owner name) rule.NO_ITEM_REACHES_ITSELF span) [] (Some 0)

abbrev pub joined_reached : Judgement → CountSeen → Judgement → Judgement
joined_reached a n j = record j { reached = a.reached ++ n.judgement.reached }

abbrev pub array_of : Span → Judgement → CountSeen → Judgement
array_of span t n = joined_reached t n (counted_type span (with_both t.ty n.count (λ t n. Some (ty.Array t n))) t.faults n)

abbrev pub type_expr_typing : TypeNodeLayer → Span → TypeEnv → Judgement
type_expr_typing (TypeNode-F.Bits s w) span context = named_bits span s w
type_expr_typing (TypeNode-F.Wide s e) span context = let n = count_of context e in counted_type span (and_then n.count (λ w. Some (ty.Bits s w))) [] n
type_expr_typing TypeNode-F.TypeNode::Bool span context = whole_type span (ty.Bits false 1)
type_expr_typing (TypeNode-F.TypeNode::Name name) span context = named_type span context name (is_of_use AsType (item_named name context.known.whole.items))
type_expr_typing (TypeNode-F.TypeNode::Tuple ts) span context =
    let js = inner_types context ts in
    settled span (and_then (all_some (types_of js)) (λ ts. Some (ty.Tuple ts))) (faults_of_all js) (reached_of_all js) (Some 0)
type_expr_typing (TypeNode-F.TypeNode::Array t e) span context = array_of span (inner_type context t) (count_of context e)
