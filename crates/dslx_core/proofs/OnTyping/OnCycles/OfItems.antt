-- Items that reach themselves: what they break, and that they mean nothing.
use Rattle.std.proofs.Common.{◌≡◌, ◌&&◌, ◌||◌, ◌++◌, ℕ, zero, suc, length, Bool, true, false, not, if◌then◌else◌, List, [], ◌∷◌, Option, Some, None, refl, sym, ap, subst, ◌∙◌}
use mathlib.Core.Bool.{true≢false}
use Rattle.std.specs.Prelude.{flat_map}
use Rattle.std.specs.Str.{bytes_eq}
use Rattle.std.specs.List.{list_all, list_any}
use Rattle.xb_span.specs.declared.fault.Fault.{Fault}
use Rattle.dslx_tree.specs.declared.block.Block.{out-Block}
use Rattle.dslx_tree.specs.declared.expr.Expr.{Expr, out-Expr}
use Rattle.dslx_tree.specs.declared.item.Alias.{Alias}
use Rattle.dslx_tree.specs.declared.item.Constant.{Constant}
use Rattle.dslx_tree.specs.declared.item.Definition.{Definition}
use Rattle.dslx_tree.specs.declared.item.Definition.TheVariants as d
use Rattle.dslx_tree.specs.declared.item.Enum.{Enum}
use Rattle.dslx_tree.specs.declared.item.Field.{Field}
use Rattle.dslx_tree.specs.declared.item.Function.{Function}
use Rattle.dslx_tree.specs.declared.item.Member.{Member}
use Rattle.dslx_tree.specs.declared.item.Module.{Module}
use Rattle.dslx_tree.specs.declared.item.Parametric.{Parametric}
use Rattle.dslx_tree.specs.declared.item.Struct.{Struct}
use Rattle.dslx_tree.specs.declared.type_expr.TypeExpr.{TypeExpr}
use Rattle.dslx_meaning.specs.Environment.{Given, given_in}
use Rattle.dslx_meaning.specs.Items.{as_constant, as_enum, as_function, as_struct, call_of, enum_member, is_constant_item, item_named, member_named, name_of_definition, parametric_args_bound, with_number}
use Rattle.dslx_meaning.specs.Lists.{and_then, is_in}
use Rattle.dslx_meaning.specs.Rules.NameRules.{listed_name, local_name}
use Rattle.dslx_meaning.specs.Rules.OperatorRules.{is_bits, unless_type}
use Rattle.dslx_meaning.specs.declared.ty.DslxType.{DslxType}
use Rattle.dslx_meaning.specs.declared.value.DslxValue.{DslxValue}
use Rattle.dslx_meaning.specs.declared.value.UntypedLiteral.{UntypedLiteral}
use Rattle.dslx_meaning.specs.Rules.AggregateRules.{range_faults, wanted_faults, untyped_value}
use Rattle.dslx_meaning.specs.Rules.ConstantRules.{ConstantSeen, constant_of, constant_typing, is_empty, is_sound_here}
use Rattle.dslx_meaning.specs.Rules.ItemRules.{has_equal_values, member_values, ConstantFound, annotation_typing, arguments_found, arguments_typed, base_if_bits, body_typing, bound_with, constant_seen, default_found, enum_member_value, enum_seen, fields_found, function_seen, function_type_env, is_annotated, item_type_env, member_constant, members_found, number_at, only_faults, parametric_args_behind, parametrics_found, result_typing, struct_seen, typing_of_inner, typing_of_type}
use Rattle.dslx_meaning.specs.Rules.Mentions.{Use, AsPattern, Mention, definition_mentions, expr_if, field_names, fields_mentions, is_cyclic, is_of_use, item_reaches, mentioned, mentioned_in_block, mentioned_in_type, mentions_of, names_mentioned, parametric_names, parametrics_mentions, reaches_within, type_if}
use Rattle.dslx_meaning.specs.Rules.ModuleRules.{found_of_instance, found_of_item, globals_within, type_known}
use Rattle.dslx_meaning.specs.Rules.NodeRules.{block_pair, expr_pair, typing_steps}
use Rattle.dslx_meaning.specs.Rules.Typings.{typing_sorts}
use Rattle.dslx_meaning.specs.Rules.TypeEnvs.{breaks_if, ExprPair, GlobalEnv, Instance, Judgement, TypeEnv, Typed, has_broken, span_of, typed_in, unless_broken, untyped_of, with_typed, within}
use Rattle.dslx_core.specs.Typing.TypingRelations.Cycles.{AllUsed, IsBehindNames}
use Rattle.dslx_core.proofs.Lemmas.Typing.Laws.Chains.{any_of_each, or_cases, or_first, or_second}
use Rattle.dslx_core.proofs.Lemmas.Typing.Laws.Reaching.{reaches_bounded, reaches_mentioned}
use Rattle.dslx_core.proofs.OnTyping.OnCycles.Bare.{bare_mentions_nothing}
use Rattle.dslx_core.proofs.OnTyping.OnCycles.Joined.{block_of_text_judged, expression_judged, written_type_judged}
use Rattle.dslx_core.proofs.OnTyping.OnCycles.Parts.{constant_inside, front, in_neither, join, join_three, unmarked}
use Rattle.dslx_core.proofs.OnTyping.OnSound.Trees.{own_expr}
use Rattle.dslx_core.proofs.OnTyping.OnTyped.TypingRelations.{unbroken_parts}
use Rattle.dslx_core.proofs.OnTyping.OnDepends.Parametrics as p
use Rattle.dslx_core.proofs.OnTyping.OnDepends.Parametrics.{env_behind}
use Rattle.dslx_core.proofs.OnTyping.OnDepends.Stages.{call_unless}
use Rattle.dslx_core.proofs.OnTyping.OnTyping.OfItems.{cyclic_is, item_so_named, whole_is}

-- ---- a test that items of a cycle don't pass

-- the use is of no item that the owner is, or that reaches it and is reached by it
abbrev pub uses_freely : Module → List ℕ → Use → List ℕ → Bool
uses_freely m owner u name = not (is_of_use u (item_named name m.items) && is_cyclic m owner name)

not_both : (p q : Bool) → q ≡ false → not (p && q) ≡ true
not_both true q e = ap not e
not_both false q e = refl

not_first : (p q : Bool) → p ≡ false → not (p && q) ≡ true
not_first p q e = ap (λ b. not (b && q)) e

pattern_use : (o : Option Definition) → is_constant_item o ≡ false → is_of_use AsPattern o ≡ false
pattern_use (Some (d.Constant c)) e = absurd (true≢false e)
pattern_use (Some (d.Function f)) e = refl
pattern_use (Some (d.Proc p)) e = refl
pattern_use (Some (d.Alias a)) e = refl
pattern_use (Some (d.Struct s)) e = refl
pattern_use (Some (d.Enum n)) e = refl
pattern_use None e = refl

pub kind_is : (m : Module) (n : ℕ) (name : List ℕ) → (globals_within m n).items.is_constant name ≡ is_constant_item (item_named name m.items)
kind_is m zero name = refl
kind_is m (suc n) name = λ i. is_constant_item (item_named name (whole_is m n i).items)

-- none of those mentioned is on a cycle with the owner
none_cyclic : (m : Module) (owner : List ℕ) (ms : List Mention) → AllUsed (uses_freely m owner) ms → list_any (is_cyclic m owner) (names_mentioned m ms) ≡ false
none_cyclic m owner [] h = refl
none_cyclic m owner (x ∷ ms) h = by_use (is_of_use x.use_as (item_named x.name m.items)) h.0 (none_cyclic m owner ms h.1)
  where
    cyclic_no : (c : Bool) → not c ≡ true → c ≡ false
    cyclic_no true e = absurd (true≢false (sym e))
    cyclic_no false e = refl

    by_use : (b : Bool) → not (b && is_cyclic m owner x.name) ≡ true → list_any (is_cyclic m owner) (names_mentioned m ms) ≡ false
        → list_any (is_cyclic m owner) (if b then x.name ∷ names_mentioned m ms else names_mentioned m ms) ≡ false
    by_use true e rest = λ i. cyclic_no (is_cyclic m owner x.name) e i || rest i
    by_use false e rest = rest

-- an item that reaches itself mentions one that is the same or reaches it back
some_cyclic : (m : Module) (owner : List ℕ) (n : ℕ) → reaches_within m n owner owner ≡ true → list_any (is_cyclic m owner) (mentions_of m (item_named owner m.items)) ≡ true
some_cyclic m owner zero e = absurd (true≢false (sym e))
some_cyclic m owner (suc n) e =
    any_of_each (λ next. bytes_eq next owner || reaches_within m n next owner) (is_cyclic m owner) (mentions_of m (item_named owner m.items))
    (λ x there q. or_cases (bytes_eq x owner) (reaches_within m n x owner) q (or_first (bytes_eq x owner) (item_reaches m x owner && item_reaches m owner x))
    (λ r. or_second (bytes_eq x owner) (item_reaches m x owner && item_reaches m owner x) (λ i. reaches_bounded m n x owner r i && reaches_mentioned m owner x there i))) e

pub not_all_pass : {X : Type 0} (m : Module) (owner : List ℕ) (x : Definition) → item_named owner m.items ≡ Some x → item_reaches m owner owner ≡ true → AllUsed (uses_freely m owner) (definition_mentions x) → X
not_all_pass m owner x e loops h =
    absurd (true≢false (sym (some_cyclic m owner (length m.items) loops) ∙ (λ i. list_any (is_cyclic m owner) (mentions_of m (e i))) ∙ none_cyclic m owner (definition_mentions x) h))

-- ---- where parts of items stand

-- what is given has these names alone
abbrev Covers : List (List ℕ) → List Given → Type 0
Covers bound given = (name : List ℕ) → is_in name bound ≡ false → given_in name given ≡ None

-- and of what is given and what isn't known
pub stands_where : (m : Module) (known : GlobalEnv) (owner : List ℕ) (bound : List (List ℕ)) (given : List Given) (unknown : List (List ℕ)) → ((name : List ℕ) → known.items.is_constant name ≡ is_constant_item (item_named name m.items))
    → ((owner name : List ℕ) → known.is_cyclic owner name ≡ is_cyclic m owner name) → p.Covers bound given unknown → IsBehindNames (uses_freely m owner) bound (env_behind known owner given unknown)
stands_where m known owner bound given unknown kinds cyclic covers = record {
  free = λ u name e. not_both (is_of_use u (item_named name m.items)) (is_cyclic m owner name) (sym (cyclic owner name) ∙ e);
  binders = λ name e. not_first (is_of_use AsPattern (item_named name m.items)) (is_cyclic m owner name) (pattern_use (item_named name m.items) (sym (kinds name) ∙ e));
  unbound = λ name q. let c = covers name q in record { in_locals = refl; in_ends = refl; in_given = c.0; in_unknown = c.1 };
}

pub stands : (m : Module) (n : ℕ) (owner : List ℕ) (bound : List (List ℕ)) (given : List Given) → Covers bound given → IsBehindNames (uses_freely m owner) bound (item_type_env (globals_within m n) owner given)
stands m n owner bound given covers = stands_where m (globals_within m n) owner bound given [] (kind_is m n) (cyclic_is m n) (λ name q. (covers name q, refl))

pub one_given : (bound : List (List ℕ)) (so_far : List Given) (p : Parametric) (v : Option DslxValue) → Covers bound so_far → Covers (p.name.name ∷ bound) (bound_with so_far p v)
one_given bound so_far p v covers name q = by_name (bytes_eq name p.name.name) refl q v
  where
    by_name : (b : Bool) → bytes_eq name p.name.name ≡ b → (if b then true else is_in name bound) ≡ false → (v : Option DslxValue) → given_in name (bound_with so_far p v) ≡ None
    by_name true r g v = absurd (true≢false g)
    by_name false r g None = covers name g
    by_name false r g (Some w) = (λ i. if r i then Some w else given_in name so_far) ∙ covers name g

pub all_given : (ps : List Parametric) (vs : List DslxValue) (so_far : List Given) (name : List ℕ) → is_in name (parametric_names ps) ≡ false → given_in name so_far ≡ None → given_in name (parametric_args_bound so_far ps vs) ≡ None
all_given [] vs so_far name q h = h
all_given (p ∷ ps) [] so_far name q h = h
all_given (p ∷ ps) (v ∷ vs) so_far name q h = by_name (bytes_eq name p.name.name) refl q (all_given ps vs (with_number so_far p v) name)
  where
    by_name : (b : Bool) → bytes_eq name p.name.name ≡ b → (if b then true else is_in name (parametric_names ps)) ≡ false
        → (is_in name (parametric_names ps) ≡ false → given_in name (with_number so_far p v) ≡ None → given_in name (parametric_args_bound (with_number so_far p v) ps vs) ≡ None)
        → given_in name (parametric_args_bound (with_number so_far p v) ps vs) ≡ None
    by_name true r g rest = absurd (true≢false g)
    by_name false r g rest = rest g ((λ i. if r i then Some v else given_in name so_far) ∙ h)

-- ---- parts of items that break no rule

module _ (m : Module) (n : ℕ) (owner : List ℕ) where
  abbrev known : GlobalEnv
  known = globals_within m n

  abbrev Q : Use → List ℕ → Bool
  Q = uses_freely m owner

  abbrev here : List Given → TypeEnv
  here given = item_type_env known owner given

  inner_passes : (bound : List (List ℕ)) (given : List Given) → Covers bound given → (t : TypeExpr) → has_broken (typing_of_inner (here given) t).faults ≡ false → AllUsed Q (mentioned_in_type t bound)
  inner_passes bound given covers t h = written_type_judged Q t bound (here given) (stands m n owner bound given covers) (front (typing_of_type (here given) t).faults _ h)

  pub constant_passes : (bound : List (List ℕ)) (given : List Given) → Covers bound given → (e : Expr) → has_broken (constant_of (here given) (expr_pair e)).judgement.faults ≡ false → AllUsed Q (mentioned e bound)
  constant_passes bound given covers e h =
      expression_judged Q e bound (here given) (stands m n owner bound given covers) (unmarked (span_of (expr_pair e)) (within (here given) (expr_pair e)) (constant_inside (here given) (expr_pair e) h))

  pub fields_pass : (fs : List Field) (before : List (List ℕ)) → has_broken (fields_found (here []) before fs).faults ≡ false → AllUsed Q (fields_mentions fs [])
  fields_pass [] before h = tt
  fields_pass (f ∷ fs) before h =
      let inner = typing_of_inner (here []) f.ty in
      let rest = fields_found (here []) (f.name.name ∷ before) fs in
      let r = unbroken_parts inner.faults rest.faults (unbroken_parts (listed_name before f.name) (inner.faults ++ rest.faults) h).1 in
      join Q (mentioned_in_type f.ty []) (fields_mentions fs []) (inner_passes [] [] (λ name q. refl) f.ty r.0) (fields_pass fs (f.name.name ∷ before) r.1)

  pub annotation_passes : (o : Option TypeExpr) → has_broken (annotation_typing (here []) o).faults ≡ false → AllUsed Q (type_if o [])
  annotation_passes None h = tt
  annotation_passes (Some t) h = written_type_judged Q t [] (here []) (stands m n owner [] [] (λ z q. refl)) h

  -- ---- members of enums

  abbrev in_base : Option DslxType → UntypedLiteral → Option DslxValue
  in_base None number = None
  in_base (Some t) number = untyped_value t number

  abbrev of_base : Option DslxType → ConstantSeen → List Fault → ConstantFound
  of_base base c wrong = record {
    found = record { faults = c.judgement.faults ++ wrong; reached = c.judgement.reached };
    value = and_then base (λ t. if is_empty wrong then c.value else None);
  }

  abbrev member_by : Option DslxType → ExprPair → Option UntypedLiteral → ConstantFound
  member_by base pair None = of_base base (constant_of (here []) pair) (wanted_faults (span_of pair) base (constant_of (here []) pair).judgement.ty)
  member_by base pair (Some number) = record { found = only_faults (range_faults (span_of pair) base number); value = in_base base number }

  -- a pair of an expression is of the expression
  member_passes : (base : Option DslxType) (x : Member) → has_broken (member_constant (here []) base x).found.faults ≡ false → AllUsed Q (mentioned x.value [])
  member_passes base x h = by_untyped (untyped_of (expr_pair x.value)) refl h
    where
      by_untyped : (o : Option UntypedLiteral) → untyped_of (expr_pair x.value) ≡ o → has_broken (member_by base (expr_pair x.value) o).found.faults ≡ false → AllUsed Q (mentioned x.value [])
      by_untyped None q g = constant_passes [] [] (λ name r. refl) x.value (front (constant_of (here []) (expr_pair x.value)).judgement.faults _ g)
      by_untyped (Some number) q g =
          let bare = bare_mentions_nothing (expr_pair x.value).0 number q [] in
          subst (AllUsed Q) (sym (ap (λ t. mentioned t []) (sym (own_expr typing_sorts typing_steps x.value)) ∙ bare)) tt

  pub members_pass : (ms : List Member) (base : Option DslxType) (before : List (List ℕ)) → has_broken (members_found (here []) base before ms).faults ≡ false → AllUsed Q (flat_map (λ (x : Member). mentioned x.value []) ms)
  members_pass [] base before h = tt
  members_pass (x ∷ ms) base before h =
      let own = (member_constant (here []) base x).found in
      let rest = members_found (here []) base (x.name.name ∷ before) ms in
      let r = unbroken_parts own.faults rest.faults (unbroken_parts (listed_name before x.name) (own.faults ++ rest.faults) h).1 in
      join Q (mentioned x.value []) (flat_map (λ (y : Member). mentioned y.value []) ms) (member_passes base x r.0) (members_pass ms base (x.name.name ∷ before) r.1)

  -- ---- instances of functions

  defaults_pass : (bound : List (List ℕ)) (given : List Given) → Covers bound given → (t : Option DslxType) (o : Option Expr) → has_broken (default_found (here given) t o).faults ≡ false → AllUsed Q (expr_if o bound)
  defaults_pass bound given covers t None h = tt
  defaults_pass bound given covers t (Some e) h = constant_passes bound given covers e (front (constant_of (here given) (expr_pair e)).judgement.faults _ h)

  parametrics_pass : (ps : List Parametric) (bound before : List (List ℕ)) (so_far : List Given) (values : List DslxValue) → Covers bound so_far → has_broken (parametrics_found known owner before so_far ps values).faults ≡ false
      → AllUsed Q (parametrics_mentions ps bound)
  parametrics_pass [] bound before so_far values covers h = tt
  parametrics_pass (p ∷ ps) bound before so_far values covers h =
      let t = typing_of_inner (here so_far) p.ty in
      let default = default_found (here so_far) t.ty p.default in
      let more = bound_with so_far p (number_at values) in
      let rest = parametrics_found known owner (p.name.name ∷ before) more ps (parametric_args_behind values) in
      let r = unbroken_parts t.faults (default.faults ++ rest.faults) (unbroken_parts (local_name (here so_far) before p.name) (t.faults ++ (default.faults ++ rest.faults)) h).1 in
      let q = unbroken_parts default.faults rest.faults r.1 in
      join_three Q (mentioned_in_type p.ty bound) (expr_if p.default bound) (parametrics_mentions ps (p.name.name ∷ bound)) (inner_passes bound so_far covers p.ty r.0) (defaults_pass bound so_far covers t.ty p.default q.0)
      (parametrics_pass ps (p.name.name ∷ bound) (p.name.name ∷ before) more (parametric_args_behind values) (one_given bound so_far p (number_at values) covers) q.1)

  arguments_pass : (fs : List Field) (bound before : List (List ℕ)) (given : List Given) → Covers bound given → has_broken (arguments_found (here given) before fs).faults ≡ false → AllUsed Q (fields_mentions fs bound)
  arguments_pass [] bound before given covers h = tt
  arguments_pass (f ∷ fs) bound before given covers h =
      let inner = typing_of_inner (here given) f.ty in
      let rest = arguments_found (here given) (f.name.name ∷ before) fs in
      let r = unbroken_parts inner.faults rest.faults (unbroken_parts (local_name (here given) before f.name) (inner.faults ++ rest.faults) h).1 in
      join Q (mentioned_in_type f.ty bound) (fields_mentions fs bound) (inner_passes bound given covers f.ty r.0) (arguments_pass fs bound (f.name.name ∷ before) given covers r.1)

  result_passes : (o : Option TypeExpr) (bound : List (List ℕ)) (given : List Given) → Covers bound given → has_broken (result_typing (here given) o).faults ≡ false → AllUsed Q (type_if o bound)
  result_passes None bound given covers h = tt
  result_passes (Some t) bound given covers h = written_type_judged Q t bound (here given) (stands m n owner bound given covers) h

  arguments_named : (fs : List Field) (given : List Given) (so_far : List Typed) (name : List ℕ) → is_in name (field_names fs) ≡ false → typed_in name so_far ≡ None → typed_in name (arguments_typed (here given) so_far fs) ≡ None
  arguments_named [] given so_far name q h = h
  arguments_named (f ∷ fs) given so_far name q h =
      by_name (bytes_eq name f.name.name) refl q (arguments_named fs given (record { name = f.name.name; ty = (typing_of_inner (here given) f.ty).ty } ∷ so_far) name)
    where
      more : List Typed
      more = record { name = f.name.name; ty = (typing_of_inner (here given) f.ty).ty } ∷ so_far

      by_name : (b : Bool) → bytes_eq name f.name.name ≡ b → (if b then true else is_in name (field_names fs)) ≡ false
          → (is_in name (field_names fs) ≡ false → typed_in name more ≡ None → typed_in name (arguments_typed (here given) more fs) ≡ None) → typed_in name (arguments_typed (here given) more fs) ≡ None
      by_name true r g rest = absurd (true≢false g)
      by_name false r g rest = rest g ((λ i. if r i then Some (typing_of_inner (here given) f.ty).ty else typed_in name so_far) ∙ h)

-- an instance of a function that breaks no rule mentions none that reaches it
pub function_passes : (m : Module) (n : ℕ) (f : Function) (parametric_args : List DslxValue) → has_broken (function_seen (globals_within m n) f parametric_args).found.faults ≡ false
    → AllUsed (uses_freely m f.name.name) (definition_mentions (d.Function f))
function_passes m n f parametric_args h =
    let owner = f.name.name in
    let Q = uses_freely m owner in
    let known = globals_within m n in
    let names = parametric_names f.parametrics in
    let inner = field_names f.arguments ++ names in
    let given = parametric_args_bound [] f.parametrics parametric_args in
    let context = function_type_env known f parametric_args in
    let covers = λ (name : List ℕ) (q : is_in name names ≡ false). all_given f.parametrics parametric_args [] name q refl in
    let parametrics = parametrics_found known owner [] [] f.parametrics parametric_args in
    let arguments = arguments_found context [] f.arguments in
    let result = result_typing context f.result in
    let place = with_typed context (arguments_typed context [] f.arguments) in
    let judgement = (block_pair f.body).1 false place in
    let body = body_typing false place result.ty f.body in
    let wanted = wanted_faults (out-Block f.body).span result.ty judgement.ty in
    let a = unbroken_parts parametrics.faults (arguments.faults ++ (result.faults ++ body.faults)) h in
    let b = unbroken_parts arguments.faults (result.faults ++ body.faults) a.1 in
    let c = unbroken_parts result.faults body.faults b.1 in
    let s = stands m n owner names given covers in
    let behind : IsBehindNames Q inner place = record {
      free = s.free;
      binders = s.binders;
      unbound = λ name q.
          let r = in_neither name (field_names f.arguments) names q in
          let u = s.unbound name r.1 in
          record { in_locals = arguments_named m n owner f.arguments given [] name r.0 refl; in_ends = u.in_ends; in_given = u.in_given; in_unknown = u.in_unknown };
    } in
    join Q ((parametrics_mentions f.parametrics [] ++ fields_mentions f.arguments names) ++ type_if f.result names) (mentioned_in_block f.body inner)
    (join_three Q (parametrics_mentions f.parametrics []) (fields_mentions f.arguments names) (type_if f.result names) (parametrics_pass m n owner f.parametrics [] [] [] parametric_args (λ name q. refl) a.0)
    (arguments_pass m n owner f.arguments names [] given covers b.0) (result_passes m n owner f.result names given covers c.0))
    (block_of_text_judged Q f.body inner place behind (front judgement.faults wanted (front (judgement.faults ++ wanted) _ c.1)))

-- ---- what reaches itself

-- a part of it breaks a rule
pub unless_whole : (faults : List Fault) → (has_broken faults ≡ false → has_broken faults ≡ true) → has_broken faults ≡ true
unless_whole faults h = by_test (has_broken faults) refl
  where
    by_test : (b : Bool) → has_broken faults ≡ b → has_broken faults ≡ true
    by_test true q = q
    by_test false q = h q

no_type : (faults : List Fault) (t : Option DslxType) → has_broken faults ≡ true → unless_broken faults t ≡ None
no_type faults t e = λ i. if e i then None else t

-- an item, found by its own name
module _ (m : Module) (name : List ℕ) (loops : item_reaches m name name ≡ true) where
  own_name : (x : Definition) → item_named name m.items ≡ Some x → item_named (name_of_definition x) m.items ≡ Some x
  own_name x e = subst (λ z. item_named z m.items ≡ Some x) (sym (item_so_named m.items name x e)) e

  own_loop : (x : Definition) → item_named name m.items ≡ Some x → item_reaches m (name_of_definition x) (name_of_definition x) ≡ true
  own_loop x e = subst (λ z. item_reaches m z z ≡ true) (sym (item_so_named m.items name x e)) loops

  never : {X : Type 0} (x : Definition) → item_named name m.items ≡ Some x → AllUsed (uses_freely m (name_of_definition x)) (definition_mentions x) → X
  never x e h = not_all_pass m (name_of_definition x) x (own_name x e) (own_loop x e) h

  alias_broken : (n : ℕ) (a : Alias) → item_named name m.items ≡ Some (d.Alias a) → has_broken (typing_of_type (item_type_env (globals_within m n) a.name.name []) a.ty).faults ≡ true
  alias_broken n a e = unless_whole (typing_of_type (item_type_env (globals_within m n) a.name.name []) a.ty).faults (λ h. never (d.Alias a) e (written_type_judged (uses_freely m a.name.name) a.ty [] (item_type_env (globals_within m n) a.name.name []) (stands m n a.name.name [] [] (λ z q. refl)) h))

  struct_untyped : (n : ℕ) (s : Struct) → item_named name m.items ≡ Some (d.Struct s) → (struct_seen (globals_within m n) s).ty ≡ None
  struct_untyped n s e =
      let found = fields_found (item_type_env (globals_within m n) s.name.name []) [] s.fields in
      let faults = found.faults ++ breaks_if (is_empty s.fields) 31 s.span in
      no_type faults _ (unless_whole faults (λ h. never (d.Struct s) e (fields_pass m n s.name.name s.fields [] (front found.faults (breaks_if (is_empty s.fields) 31 s.span) h))))

  enum_untyped : (n : ℕ) (x : Enum) → item_named name m.items ≡ Some (d.Enum x) → (enum_seen (globals_within m n) x).ty ≡ None
  enum_untyped n x e =
      let context = item_type_env (globals_within m n) x.name.name [] in
      let base = typing_of_type context x.base in
      let members = members_found context (base_if_bits base.ty) [] x.members in
      let one = unless_type is_bits 23 x.span base.ty in
      let two = breaks_if (is_empty x.members || has_equal_values (member_values context (base_if_bits base.ty) x.members)) 23 x.span in
      let faults = ((base.faults ++ members.faults) ++ one) ++ two in
      no_type faults _ (unless_whole faults (λ h.
      let r = unbroken_parts base.faults members.faults (front (base.faults ++ members.faults) one (front ((base.faults ++ members.faults) ++ one) two h)) in
      never (d.Enum x) e (join (uses_freely m x.name.name) (mentioned_in_type x.base []) (flat_map (λ (y : Member). mentioned y.value []) x.members)
      (written_type_judged (uses_freely m x.name.name) x.base [] context (stands m n x.name.name [] [] (λ z q. refl)) r.0) (members_pass m n x.name.name x.members (base_if_bits base.ty) [] r.1))))

  -- nothing is broken where there is nothing
  empty_whole : (fs : List Fault) → is_empty fs ≡ true → has_broken fs ≡ false
  empty_whole [] e = refl
  empty_whole (f ∷ fs) e = absurd (true≢false (sym e))

  constant_unknown : (n : ℕ) (c : Constant) → item_named name m.items ≡ Some (d.Constant c) → (constant_seen (globals_within m n) c).value ≡ None
  constant_unknown n c e = by_written (is_empty (written.faults ++ wrong)) refl
    where
      context : TypeEnv
      context = item_type_env (globals_within m n) c.name.name []

      written : Judgement
      written = annotation_typing context c.ty

      value : ConstantSeen
      value = constant_of context (expr_pair c.value)

      wrong : List Fault
      wrong = wanted_faults (out-Expr c.value).span written.ty value.judgement.ty

      no_value : has_broken written.faults ≡ false → (b : Bool) → is_sound_here context.known (constant_typing context (expr_pair c.value)) ≡ b
          → (v : Option DslxValue) → (if b then v else None) ≡ None
      no_value h false q v = refl
      no_value h true q v =
          let j = constant_typing context (expr_pair c.value) in
          never (d.Constant c) e (join (uses_freely m c.name.name) (type_if c.ty []) (mentioned c.value []) (annotation_passes m n c.name.name c.ty h)
          (constant_passes m n c.name.name [] [] (λ z r. refl) c.value (empty_whole j.faults (and_first (is_empty j.faults) (list_all context.known.is_sound j.reached) q))))
        where
          and_first : (p q : Bool) → (p && q) ≡ true → p ≡ true
          and_first true q e = refl
          and_first false q e = absurd (true≢false (sym e))

      if_none : (b : Bool) (v : Option DslxValue) → v ≡ None → (if b then v else None) ≡ None
      if_none true v q = q
      if_none false v q = refl

      by_written : (b : Bool) → is_empty (written.faults ++ wrong) ≡ b → (if b && is_annotated c.ty written.ty then value.value else None) ≡ None
      by_written false q = refl
      by_written true q = if_none (is_annotated c.ty written.ty) value.value (no_value (front written.faults wrong (empty_whole (written.faults ++ wrong) q)) (is_sound_here context.known (constant_typing context (expr_pair c.value))) refl _)

  -- ---- by its name

  in_text : {X : Type 0} (n : ℕ) (f : Option Definition → Option X) → f (item_named name m.items) ≡ None → f (item_named name (globals_within m n).whole.items) ≡ None
  in_text n f e = (λ i. f (item_named name (whole_is m n i).items)) ∙ e

  pub no_constant : (n : ℕ) → (globals_within m n).items.constant name ≡ None
  no_constant zero = refl
  no_constant (suc n) = in_text n (λ o. and_then (as_constant o) (λ c. (constant_seen (globals_within m n) c).value)) (by_item (item_named name m.items) refl)
    where
      by_item : (o : Option Definition) → item_named name m.items ≡ o → and_then (as_constant o) (λ c. (constant_seen (globals_within m n) c).value) ≡ None
      by_item (Some (d.Constant c)) e = constant_unknown n c e
      by_item (Some (d.Function f)) e = refl
      by_item (Some (d.Proc p)) e = refl
      by_item (Some (d.Alias a)) e = refl
      by_item (Some (d.Struct s)) e = refl
      by_item (Some (d.Enum x)) e = refl
      by_item None e = refl

  pub no_named_type : (n : ℕ) → (globals_within m n).items.type_named name ≡ None
  no_named_type zero = refl
  no_named_type (suc n) = in_text n (type_known (globals_within m n)) (by_item (item_named name m.items) refl)
    where
      by_item : (o : Option Definition) → item_named name m.items ≡ o → type_known (globals_within m n) o ≡ None
      by_item (Some (d.Alias a)) e = no_type (typing_of_type (item_type_env (globals_within m n) a.name.name []) a.ty).faults _ (alias_broken n a e)
      by_item (Some (d.Struct s)) e = struct_untyped n s e
      by_item (Some (d.Enum x)) e = enum_untyped n x e
      by_item (Some (d.Constant c)) e = refl
      by_item (Some (d.Function f)) e = refl
      by_item (Some (d.Proc p)) e = refl
      by_item None e = refl

  pub no_struct : (n : ℕ) → (globals_within m n).items.struct_named name ≡ None
  no_struct zero = refl
  no_struct (suc n) = in_text n (λ o. and_then (as_struct o) (λ s. (struct_seen (globals_within m n) s).ty)) (by_item (item_named name m.items) refl)
    where
      by_item : (o : Option Definition) → item_named name m.items ≡ o → and_then (as_struct o) (λ s. (struct_seen (globals_within m n) s).ty) ≡ None
      by_item (Some (d.Struct s)) e = struct_untyped n s e
      by_item (Some (d.Alias a)) e = refl
      by_item (Some (d.Enum x)) e = refl
      by_item (Some (d.Constant c)) e = refl
      by_item (Some (d.Function f)) e = refl
      by_item (Some (d.Proc p)) e = refl
      by_item None e = refl

  pub no_member : (n : ℕ) (member : List ℕ) → (globals_within m n).items.member name member ≡ None
  no_member zero member = refl
  no_member (suc n) member = in_text n (λ o. and_then (as_enum o) (λ x. enum_member_value (globals_within m n) x member (member_named member x.members))) (by_item (item_named name m.items) refl)
    where
      of_member : (x : Enum) → (enum_seen (globals_within m n) x).ty ≡ None → (o : Option Member) → enum_member_value (globals_within m n) x member o ≡ None
      of_member x e None = refl
      of_member x e (Some y) =
          let context = item_type_env (globals_within m n) x.name.name [] in
          ap (λ t. and_then t (λ u. and_then (member_constant context (base_if_bits (typing_of_type context x.base).ty) y).value (enum_member x.name.name))) e

      by_item : (o : Option Definition) → item_named name m.items ≡ o → and_then (as_enum o) (λ x. enum_member_value (globals_within m n) x member (member_named member x.members)) ≡ None
      by_item (Some (d.Enum x)) e = of_member x (enum_untyped n x e) (member_named member x.members)
      by_item (Some (d.Alias a)) e = refl
      by_item (Some (d.Struct s)) e = refl
      by_item (Some (d.Constant c)) e = refl
      by_item (Some (d.Function f)) e = refl
      by_item (Some (d.Proc p)) e = refl
      by_item None e = refl

  pub no_call : (n : ℕ) (given operands : List DslxValue) → (globals_within m n).items.call name given operands ≡ None
  no_call zero given operands = refl
  no_call (suc n) given operands =
      let known = globals_within m n in
      ap (λ b. call_unless b (and_then (as_function (item_named name known.whole.items)) (λ f. call_of known.items f given operands))) ((λ i. item_reaches (whole_is m n i) name name) ∙ loops)

  pub function_broken : (n : ℕ) (f : Function) (parametric_args : List DslxValue) → item_named name m.items ≡ Some (d.Function f) → has_broken (function_seen (globals_within m n) f parametric_args).found.faults ≡ true
  function_broken n f parametric_args e = unless_whole (function_seen (globals_within m n) f parametric_args).found.faults (λ h. never (d.Function f) e (function_passes m n f parametric_args h))

-- an instance of a function that reaches itself breaks a rule
pub instance_broken : (m : Module) (n : ℕ) (i : Instance) (f : Function) → item_named i.name m.items ≡ Some (d.Function f) → item_reaches m i.name i.name ≡ true → has_broken (found_of_instance (globals_within m n) i).faults ≡ true
instance_broken m n i f e loops =
    (λ j. has_broken (found_of_item (globals_within m n) i.parametric_args (item_named i.name (whole_is m n j).items)).faults)
    ∙ (λ j. has_broken (found_of_item (globals_within m n) i.parametric_args (e j)).faults) ∙ function_broken m i.name loops n f i.parametric_args e
