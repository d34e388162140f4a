-- Struct values from their fields and what gives the others.
use Rattle.std.proofs.Common.{◌≡◌, ◌++◌, ◌∙◌, ℕ, not, List, [], ◌∷◌, Bool, Option, Some, None, map, refl, sym, ap}
use Rattle.std.specs.Prelude.{◌||◌}
use Rattle.std.specs.Option.{option_map}
use Rattle.xb_span.specs.declared.fault.Fault.{Fault}
use Rattle.xb_span.specs.declared.span.Span.{Span}
use Rattle.dslx_tree.specs.declared.expr.Expr.{Expr}
use Rattle.dslx_tree.specs.declared.expr.FieldValue.{FieldValue, out-FieldValue}
use Rattle.dslx_tree.specs.declared.ident.Ident.{Ident}
use Rattle.dslx_tree.specs.declared.item.Struct.{Struct}
use Rattle.dslx_meaning.specs.declared.ty.DslxType.{DslxType}
use Rattle.dslx_meaning.specs.Items.{as_struct, item_named, name_of_field}
use Rattle.dslx_meaning.specs.Lists.{is_in}
use Rattle.dslx_meaning.specs.Rules.AggregateRules.{field_type, field_typing, has_twice, lacks_one, others_typing, struct_if, struct_typing, unknown_fields, when_all, written_fields}
use Rattle.dslx_meaning.specs.Rules.PatternRules.{is_there}
use Rattle.dslx_meaning.specs.Rules.RuleNumbers as rule
use Rattle.dslx_meaning.specs.Rules.TypeEnvs.{Judgement, TypeEnv, breaks, breaks_if, faults_of_all, one_and, plus_size, reached_of_all, settled, size_of_all, types_of}
use Rattle.dslx_check_rules.specs.declared.typing.Typing.{Typing}
use Rattle.dslx_check_facts.specs.declared.facts.Facts.{Facts}
use Rattle.dslx_check_facts.specs.declared.type_env.TypeEnv.{TypeEnv as CodeEnv}
use Rattle.dslx_check_facts.specs.Walks.{WalkShown}
use Rattle.dslx_check_rules.specs.declared.nodes.parts.Spanned.{Spanned}
use Rattle.dslx_check_rules.specs.Nodes.Nodes.Lists.{fitted}
use Rattle.dslx_check_rules.specs.Nodes.Nodes.Structs.{field_of, ident_of, others_of, unknown_idents, written_names}
use Rattle.dslx_check_rules.specs.Nodes.Parts.{IsPlaced, IsPlacedIf, Placed}
use Rattle.dslx_check_leaves.specs.Named.Constants.{expr_typed}
use Rattle.dslx_check_leaves.specs.Typed.{field_typed, placed, placed_field, placed_value}
use Rattle.dslx_check_uses.specs.Uses.{AreFieldValues, NodeFrom, struct_by, struct_half, unwanted, wanted_of}
use Rattle.dslx_check_leaves.specs.Walked.{WalksTo, TypesPart, TypesEach, TypesOne, all_reached, reached_if, reached_there}
use Rattle.dslx_check_leaves.proofs.Lemmas.Walking.{Both, both, reached_both, retyped}
use Rattle.dslx_check_leaves.proofs.Lemmas.Each.{each_weaker, placed_stays}
use Rattle.dslx_check_leaves.proofs.Lemmas.Whole.{node_from}

one_field : (env : TypeEnv) (struct : Option DslxType) (f : FieldValue) → fitted (field_type struct (out-FieldValue f).name.name) (placed_field env f) ≡ field_typing env struct (field_typed f)
one_field env struct f = by (out-FieldValue f).value
  where
    name : Ident
    name = (out-FieldValue f).name

    by : (v : Option Expr) → fitted (field_type struct name.name) (placed_value env name v) ≡ field_typing env struct (record { name = name; value = option_map expr_typed v })
    by None = refl
    by (Some e) = refl

fields_same : (env : TypeEnv) (struct : Option DslxType) (fs : List FieldValue) → map field_of (wanted_of struct fs (map (placed_field env) fs)) ≡ map (field_typing env struct) (map field_typed fs)
fields_same env struct [] = refl
fields_same env struct (f ∷ fs) = λ i. one_field env struct f i ∷ fields_same env struct fs i

none_same : (env : TypeEnv) (fs : List FieldValue) → map field_of (unwanted (map (placed_field env) fs)) ≡ map (field_typing env None) (map field_typed fs)
none_same env [] = refl
none_same env (f ∷ fs) = λ i. one_field env None f i ∷ none_same env fs i

unknown_same : (names : List (List ℕ)) (fs : List FieldValue) → unknown_idents names (map ident_of fs) ≡ unknown_fields names (map field_typed fs)
unknown_same names [] = refl
unknown_same names (f ∷ fs) = ap (λ rest. breaks_if (not (is_in (out-FieldValue f).name.name names)) rule.NAME_IS_DECLARED (out-FieldValue f).name.span ++ rest) (unknown_same names fs)

written_same : (fs : List FieldValue) → written_names fs ≡ written_fields (map field_typed fs)
written_same [] = refl
written_same (f ∷ fs) = ap (λ rest. (out-FieldValue f).name.name ∷ rest) (written_same fs)

others_same : (env : TypeEnv) (struct : Option DslxType) (o : Option Expr) → others_of struct (option_map (placed env) o) ≡ others_typing env struct (option_map expr_typed o)
others_same env struct None = refl
others_same env struct (Some e) = refl

there_same : (env : TypeEnv) (o : Option Expr) → is_there (option_map (placed env) o) ≡ is_there (option_map expr_typed o)
there_same env None = refl
there_same env (Some e) = refl

pub struct_is : (span : Span) (name : Ident) (fields : List FieldValue) (o : Option Expr)
    → ◌≡◌ {A = TypeEnv → Judgement} (λ env. struct_half span name fields env (map (placed_field env) fields, option_map (placed env) o)) (λ env. struct_typing span env name (map field_typed fields) (option_map expr_typed o))
struct_is span name fields o = λ i env. by env (as_struct (item_named name.name env.known.whole.items)) i
  where
    undeclared : List Judgement → Judgement → Judgement
    undeclared js rest = settled span None (breaks rule.NAME_IS_DECLARED name.span ∷ faults_of_all js ++ rest.faults) (reached_of_all js ++ rest.reached) (one_and (plus_size (size_of_all js) rest.size))

    declared_by : TypeEnv → Struct → Bool → List Judgement → Judgement → List Fault → List (List ℕ) → Judgement
    declared_by env d has_others js rest unknown written =
        let names = map name_of_field d.fields in
        settled span (when_all (rest.ty ∷ types_of js) (env.known.items.struct_named name.name))
        (breaks_if (env.known.is_cyclic env.owner name.name) rule.NO_ITEM_REACHES_ITSELF name.span ++ faults_of_all js ++ rest.faults ++ unknown
        ++ breaks_if (has_twice written || lacks_one names written has_others) rule.STRUCT_FIELDS span)
        (reached_of_all js ++ rest.reached) (one_and (plus_size (size_of_all js) rest.size))

    by : (env : TypeEnv) (d : Option Struct) → struct_by span name fields env (map (placed_field env) fields, option_map (placed env) o) d ≡ struct_if span env name (map field_typed fields) (option_map expr_typed o) d
    by env None = λ i. undeclared (none_same env fields i) (others_same env None o i)
    by env (Some d) =
        let struct = env.known.items.struct_named name.name in
        λ i. declared_by env d (there_same env o i) (fields_same env struct fields i) (others_same env struct o i) (unknown_same (map name_of_field d.fields) fields i) (written_same fields i)

-- ---- what is reached

fields_reach : (env : TypeEnv) (struct : Option DslxType) (fs : List FieldValue) → reached_of_all (map field_of (wanted_of struct fs (map (placed_field env) fs))) ≡ all_reached reached_there (map (placed_field env) fs)
fields_reach env struct [] = refl
fields_reach env struct (f ∷ fs) = ap (λ ys. (placed_field env f).judgement.reached ++ ys) (fields_reach env struct fs)

none_reach : (env : TypeEnv) (fs : List FieldValue) → reached_of_all (map field_of (unwanted (map (placed_field env) fs))) ≡ all_reached reached_there (map (placed_field env) fs)
none_reach env [] = refl
none_reach env (f ∷ fs) = ap (λ ys. (placed_field env f).judgement.reached ++ ys) (none_reach env fs)

others_reach : (struct : Option DslxType) (o : Option Placed) → (others_of struct o).reached ≡ reached_if o
others_reach struct None = refl
others_reach struct (Some x) = refl

struct_reach : (span : Span) (name : Ident) (fields : List FieldValue) (env : TypeEnv) (o : Option Placed) (d : Option Struct)
    → (struct_by span name fields env (map (placed_field env) fields, o) d).reached ≡ all_reached reached_there (map (placed_field env) fields) ++ reached_if o
struct_reach span name fields env o None = λ i. none_reach env fields i ++ others_reach None o i
struct_reach span name fields env o (Some d) = let struct = env.known.items.struct_named name.name in λ i. fields_reach env struct fields i ++ others_reach struct o i

pub struct_walked : {f : Facts} {s0 s1 s2 : CodeEnv} {w0 w1 w2 w3 : WalkShown} {values : List Spanned} {others : Option Spanned} {j : Typing} (span : Span) (name : Ident) (fields : List FieldValue) (o : Option Expr)
    → WalksTo f s0 s1 w0 w1 (TypesEach IsPlaced reached_there values (λ env. map (placed_field env) fields)) → WalksTo f s1 s2 w1 w2 (TypesOne IsPlacedIf reached_if others (λ env. option_map (placed env) o))
    → NodeFrom f s2 w2 w3 (AreFieldValues values others) (struct_half span name fields) j
    → WalksTo f s0 s2 w0 w3 (TypesPart j (λ env. struct_typing span env name (map field_typed fields) (option_map expr_typed o)))
struct_walked {f} {s0} {s1} {s2} {w0} {w1} {w2} {w3} {values} {others} {j} span name fields o g k h =
    let P = TypesEach IsPlaced reached_there values (λ env. map (placed_field env) fields) in
    let Q = TypesOne IsPlacedIf reached_if others (λ env. option_map (placed env) o) in
    retyped (struct_is span name fields o) (node_from (Both P Q w1.rows) (λ env. (map (placed_field env) fields, option_map (placed env) o)) (both P Q g k) h
    (λ names later more env t.
    (each_weaker (IsPlaced names w1.rows later.rows) (IsPlaced names w2.rows later.rows) values (map (placed_field env) fields) (λ x y. placed_stays names w1.rows w2.rows later.rows x y t.grows) t.first.parts, t.second.part))
    (λ names later more env t.
    reached_both names later.met more t.front t.rest (all_reached reached_there (map (placed_field env) fields)) (reached_if (option_map (placed env) o)) t.joined t.first.reaches t.second.reaches
    ∙ sym (struct_reach span name fields env (option_map (placed env) o) (as_struct (item_named name.name env.known.whole.items)))))
