-- What is known of items by longer chains, where the same is known of those that they mention.
use Rattle.std.proofs.Common.{◌≡◌, ◌&&◌, ◌||◌, ◌++◌, ℕ, zero, suc, Bool, true, false, not, if◌then◌else◌, List, [], ◌∷◌, map, length, Option, Some, None, arith, refl, sym, ap, ◌∙◌}
use mathlib.Core.Bool.{true≢false}
use Rattle.std.specs.Prelude.{flat_map}
use Rattle.std.specs.Str.{bytes_eq}
use Rattle.std.specs.List.{list_all, list_any}
use Rattle.std.proofs.lemmas.Slice.Eq.{bytes_eq-Decides}
use Rattle.xb_span.specs.declared.fault.Fault.{Fault}
use Rattle.dslx_tree.specs.declared.block.Block.{Block, out-Block}
use Rattle.dslx_tree.specs.declared.expr.Expr.{Expr, out-Expr}
use Rattle.dslx_tree.specs.declared.ident.Ident.{Ident}
use Rattle.dslx_tree.specs.declared.item.Alias.{Alias}
use Rattle.dslx_tree.specs.declared.item.Constant.{Constant}
use Rattle.dslx_tree.specs.declared.item.Definition.{Definition}
use Rattle.dslx_tree.specs.declared.item.Definition.TheVariants as d
use Rattle.dslx_tree.specs.declared.item.Enum.{Enum}
use Rattle.dslx_tree.specs.declared.item.Field.{Field}
use Rattle.dslx_tree.specs.declared.item.Function.{Function}
use Rattle.dslx_tree.specs.declared.item.Member.{Member}
use Rattle.dslx_tree.specs.declared.item.Module.{Module}
use Rattle.dslx_tree.specs.declared.item.Parametric.{Parametric}
use Rattle.dslx_tree.specs.declared.item.Struct.{Struct}
use Rattle.dslx_tree.specs.declared.type_expr.TypeExpr.{TypeExpr}
use Rattle.dslx_meaning.specs.Environment.{Given, given_in}
use Rattle.dslx_meaning.specs.Items.{call_of, enum_member, is_constant_item, item_named, member_named, name_of_field, parametric_args_bound, with_number}
use Rattle.dslx_meaning.specs.Lists.{all_some, and_then, is_in}
use Rattle.dslx_meaning.specs.declared.ty.DslxType.{DslxType}
use Rattle.dslx_meaning.specs.declared.ty.DslxType as ty
use Rattle.dslx_meaning.specs.declared.value.UntypedLiteral.{UntypedLiteral}
use Rattle.dslx_meaning.specs.declared.value.DslxValue.{DslxValue}
use Rattle.dslx_meaning.specs.Rules.AggregateRules.{range_faults, wanted_faults, untyped_value}
use Rattle.dslx_meaning.specs.Rules.TypeRules.{unless_unit}
use Rattle.dslx_meaning.specs.Rules.ConstantRules.{ConstantSeen, constant_of, is_empty}
use Rattle.dslx_meaning.specs.Rules.ItemRules.{ConstantFound, Found, TypeFound, alias_seen, and_found, annotation_typing, arguments_found, arguments_typed, base_if_bits, body_typing, bound_with, constant_seen, default_found, enum_member_value, enum_of_base, enum_seen, fields_found, found_in, function_seen, has_equal_values, is_annotated, item_type_env, typing_of_inner, typing_of_type, member_constant, member_values, members_found, number_at, parametric_args_behind, only_faults, parametrics_found, result_typing, struct_seen}
use Rattle.dslx_meaning.specs.Rules.TypeEnvs.{ExprPair, Instance, Judgement, GlobalEnv, TypeEnv, Typed, untyped_of, breaks_if, has_broken, span_of, type_limits, unless_broken}
use Rattle.dslx_meaning.specs.Rules.Mentions.{Use, AsValue, AsEnum, Mention, definition_mentions, expr_if, field_names, fields_mentions, is_of_use, item_reaches, mentioned, mentioned_in_block, mentioned_in_type, mentions_of, names_mentioned, parametric_names, parametrics_mentions, reaches_within, type_if}
use Rattle.dslx_meaning.specs.Rules.ModuleRules.{declared_type, default_if, found_of_instance, globals_over, sound_instance, unbroken_instance}
use Rattle.dslx_meaning.specs.Rules.NameRules.{listed_name, local_name}
use Rattle.dslx_meaning.specs.Rules.PatternRules.{is_there}
use Rattle.dslx_meaning.specs.Rules.NodeRules.{block_pair, expr_pair, type_pair}
use Rattle.dslx_meaning.specs.Rules.OperatorRules.{is_bits, unless_type}
use Rattle.dslx_core.specs.Typing.TypingRelations.Reached.{AllNamed, IsClosed, MentionsReach}
use Rattle.dslx_core.proofs.Lemmas.Typing.TypingRelations.{block_of_text_reaches}
use Rattle.dslx_core.proofs.Lemmas.Typing.Laws.{Agreeing, call_one}
use Rattle.dslx_core.specs.Typing.Depends.Alike.{DeclaredAlike, GlobalsAgree, HiddenAlike, MentionsAlike, NamesAlike, SeesAlike, SeesFrom, UseAlike}
use Rattle.dslx_core.proofs.OnTyping.OnDepends.Bindings.{AreNoConstants}
use Rattle.dslx_core.proofs.OnTyping.OnDepends.Parametrics.{AreBound, declared_alike}
use Rattle.dslx_core.proofs.OnTyping.OnDepends.Rebound.{in_second}
use Rattle.dslx_core.proofs.OnTyping.OnTyped.TypingRelations.{or_false}
use Rattle.dslx_core.proofs.OnTyping.OnDepends.Joined.{block_of_text_alike, expression_alike, written_type_alike}
use Rattle.dslx_core.proofs.OnTyping.OnDepends.Scopes.{constant_alike, hidden_alike, mentions_agree, names_join, seen_from}
use Rattle.dslx_core.proofs.OnTyping.OnDepends.Same.{all_alike, constant_same, inner_same, limited_by}

-- what is known in two ways of items whose names pass a test: the same, and it reaches such items alone
pub record Stage (P : List ℕ → Bool) (m : Module) (a b : GlobalEnv) : Type 0 where
  pub text : a.whole ≡ m
  pub known : GlobalsAgree P a b
  pub uses : (u : Use) (name : List ℕ) → (is_of_use u (item_named name m.items) ≡ true → P name ≡ true) → UseAlike a b u name
  pub reach : (owner : List ℕ) (ms : List Mention) → list_all P (names_mentioned m ms) ≡ true → MentionsReach P a owner ms
  pub reached : (i : Instance) → list_all P (mentions_of m (item_named i.name m.items)) ≡ true → AllNamed P (found_of_instance a i).reached

-- what parts of the texts of items see alike in two ways. Of the first test is what they reach; the items in whose texts they stand
-- pass the second one, and all that they mention the third one, which may ask how it stands to the item that mentions it
pub record Sight (P Q : List ℕ → Bool) (T : List ℕ → List ℕ → Bool) (m : Module) (a b : GlobalEnv) : Type 0 where
  pub text : a.whole ≡ m
  pub known : GlobalsAgree P a b
  pub plain : (name : List ℕ) → is_constant_item (item_named name m.items) ≡ false → a.items.constant name ≡ b.items.constant name
  pub sees : (owner : List ℕ) → Q owner ≡ true → (bound : List (List ℕ)) → NamesAlike a b bound → (ms : List Mention) → list_all (T owner) (names_mentioned m ms) ≡ true → SeesAlike P bound owner a b ms

and_both : (p q : Bool) → (p && q) ≡ true → (p ≡ true) × (q ≡ true)
and_both true q e = (refl, e)
and_both false q e = absurd (true≢false (sym e))

-- ---- what is mentioned

-- the first of several mentions, and the others
pub den_one : (P : List ℕ → Bool) (m : Module) (u : Use) (name : List ℕ) (ms : List Mention) → list_all P (names_mentioned m (record { use_as = u; name = name } ∷ ms)) ≡ true
    → (is_of_use u (item_named name m.items) ≡ true → P name ≡ true) × (list_all P (names_mentioned m ms) ≡ true)
den_one P m u name ms h = by_use (is_of_use u (item_named name m.items)) refl h
  where
    by_use : (b : Bool) → is_of_use u (item_named name m.items) ≡ b → list_all P (if b then name ∷ names_mentioned m ms else names_mentioned m ms) ≡ true
        → (is_of_use u (item_named name m.items) ≡ true → P name ≡ true) × (list_all P (names_mentioned m ms) ≡ true)
    by_use true q g = let r = and_both (P name) (list_all P (names_mentioned m ms)) g in ((λ e. r.0), r.1)
    by_use false q g = ((λ e. absurd (true≢false (sym e ∙ q))), g)

pub den_parts : (P : List ℕ → Bool) (m : Module) (xs ys : List Mention) → list_all P (names_mentioned m (xs ++ ys)) ≡ true → (list_all P (names_mentioned m xs) ≡ true) × (list_all P (names_mentioned m ys) ≡ true)
den_parts P m [] ys h = (refl, h)
den_parts P m (x ∷ xs) ys h = by_use (is_of_use x.use_as (item_named x.name m.items)) h (den_parts P m xs ys)
  where
    by_use : (b : Bool) → list_all P (if b then x.name ∷ names_mentioned m (xs ++ ys) else names_mentioned m (xs ++ ys)) ≡ true
        → (list_all P (names_mentioned m (xs ++ ys)) ≡ true → (list_all P (names_mentioned m xs) ≡ true) × (list_all P (names_mentioned m ys) ≡ true))
        → (list_all P (if b then x.name ∷ names_mentioned m xs else names_mentioned m xs) ≡ true) × (list_all P (names_mentioned m ys) ≡ true)
    by_use true g rest =
        let r = and_both (P x.name) (list_all P (names_mentioned m (xs ++ ys))) g in
        let q = rest r.1 in
        ((λ i. r.0 i && q.0 i), q.1)
    by_use false g rest = rest g

value_use : (o : Option Definition) → is_of_use AsValue o ≡ is_constant_item o
value_use (Some (d.Constant c)) = refl
value_use (Some (d.Function f)) = refl
value_use (Some (d.Proc p)) = refl
value_use (Some (d.Alias a)) = refl
value_use (Some (d.Struct s)) = refl
value_use (Some (d.Enum n)) = refl
value_use None = refl

-- what is reached from items that mention such alone
any_reached : (P : List ℕ → Bool) (m : Module) (n : ℕ) (to : List ℕ) → ((next : List ℕ) → P next ≡ true → reaches_within m n next to ≡ true → P to ≡ true) → (names : List (List ℕ)) → list_all P names ≡ true
    → list_any (λ next. bytes_eq next to || reaches_within m n next to) names ≡ true → P to ≡ true
any_reached P m n to further [] h e = absurd (true≢false (sym e))
any_reached P m n to further (x ∷ names) h e =
    let r = and_both (P x) (list_all P names) h in
    by_first (bytes_eq x to) refl (reaches_within m n x to) refl e r.0 (any_reached P m n to further names r.1)
  where
    by_first : (s : Bool) → bytes_eq x to ≡ s → (t : Bool) → reaches_within m n x to ≡ t → ((s || t) || list_any (λ next. bytes_eq next to || reaches_within m n next to) names) ≡ true → P x ≡ true
        → (list_any (λ next. bytes_eq next to || reaches_within m n next to) names ≡ true → P to ≡ true) → P to ≡ true
    by_first true s t q g own rest = ap P (sym ((bytes_eq-Decides x to).0 s)) ∙ own
    by_first false s true q g own rest = further x own q
    by_first false s false q g own rest = rest g

pub reached_in : (P : List ℕ → Bool) (m : Module) → IsClosed P m → (n : ℕ) (from to : List ℕ) → list_all P (mentions_of m (item_named from m.items)) ≡ true → reaches_within m n from to ≡ true → P to ≡ true
reached_in P m closed zero from to h e = absurd (true≢false (sym e))
reached_in P m closed (suc n) from to h e = any_reached P m n to (λ next p r. reached_in P m closed n next to (closed next p) r) (mentions_of m (item_named from m.items)) h e

-- the sight in the text of an item
abbrev type_env_at : GlobalEnv → List ℕ → List Given → List (List ℕ) → List Typed → TypeEnv
type_env_at known owner parametric_args unknown locals = record { known = known; owner = owner; parametric_args = parametric_args; unknown = unknown; ends = []; locals = locals; members = []; used = [] }

-- a default, by what it comes to
abbrev default_by : Option DslxType → Expr → ConstantSeen → Found
default_by t e c = record { faults = c.judgement.faults ++ wanted_faults (out-Expr e).span t c.judgement.ty; reached = c.judgement.reached }

-- a member of an enum, which may be a number without a type
abbrev number_in : Option DslxType → UntypedLiteral → Option DslxValue
number_in None number = None
number_in (Some t) number = untyped_value t number

abbrev of_base : Option DslxType → ConstantSeen → List Fault → ConstantFound
of_base base c wrong = record { found = record { faults = c.judgement.faults ++ wrong; reached = c.judgement.reached }; value = and_then base (λ t. if is_empty wrong then c.value else None) }

abbrev member_by : TypeEnv → Option DslxType → ExprPair → Option UntypedLiteral → ConstantFound
member_by context base pair None = of_base base (constant_of context pair) (wanted_faults (span_of pair) base (constant_of context pair).judgement.ty)
member_by context base pair (Some number) = record { found = only_faults (range_faults (span_of pair) base number); value = number_in base number }

-- ---- what functions mention, by a test of each mention

module _ (T : List ℕ → List ℕ → Bool) (m : Module) where
  abbrev Mentioned : List ℕ → List Mention → Type 0
  Mentioned owner ms = list_all (T owner) (names_mentioned m ms) ≡ true

  -- parametrics that are left behind these names, by what they mention
  abbrev pub LeftMentioned : List ℕ → List (List ℕ) → List Parametric → Type 0
  LeftMentioned owner bound left = Mentioned owner (parametrics_mentions left bound)

  pub left_mentioned : (owner : List ℕ) (bound : List (List ℕ)) (p : Parametric) (ps : List Parametric) → LeftMentioned owner bound (p ∷ ps) → LeftMentioned owner (p.name.name ∷ bound) ps
  left_mentioned owner bound p ps h = (den_parts (T owner) m (mentioned_in_type p.ty bound ++ expr_if p.default bound) (parametrics_mentions ps (p.name.name ∷ bound)) h).1

  pub first_mentioned : (owner : List ℕ) (bound : List (List ℕ)) (p : Parametric) (ps : List Parametric) → LeftMentioned owner bound (p ∷ ps) → Mentioned owner (mentioned_in_type p.ty bound) × Mentioned owner (expr_if p.default bound)
  first_mentioned owner bound p ps h =
      den_parts (T owner) m (mentioned_in_type p.ty bound) (expr_if p.default bound)
      (den_parts (T owner) m (mentioned_in_type p.ty bound ++ expr_if p.default bound) (parametrics_mentions ps (p.name.name ∷ bound)) h).0

  -- what a function mentions, by its parts
  pub record FunctionParts (f : Function) : Type 0 where
    pub parametrics : Mentioned f.name.name (parametrics_mentions f.parametrics [])
    pub arguments : Mentioned f.name.name (fields_mentions f.arguments (parametric_names f.parametrics))
    pub result : Mentioned f.name.name (type_if f.result (parametric_names f.parametrics))
    pub body : Mentioned f.name.name (mentioned_in_block f.body (field_names f.arguments ++ parametric_names f.parametrics))

  pub function_parts : (f : Function) → Mentioned f.name.name (definition_mentions (d.Function f)) → FunctionParts f
  function_parts f h =
      let test = T f.name.name in
      let parametric_args = parametric_names f.parametrics in
      let one = parametrics_mentions f.parametrics [] in
      let two = fields_mentions f.arguments parametric_args in
      let three = type_if f.result parametric_args in
      let q = den_parts test m ((one ++ two) ++ three) (mentioned_in_block f.body (field_names f.arguments ++ parametric_args)) h in
      let r = den_parts test m (one ++ two) three q.0 in
      let t = den_parts test m one two r.0 in
      record { parametrics = t.0; arguments = t.1; result = r.1; body = q.1 }

-- ---- what is bound in an instance

-- what is given stays so
kept_given : (ps : List Parametric) (vs : List DslxValue) (so_far : List Given) (name : List ℕ) → is_there (given_in name so_far) ≡ true → is_there (given_in name (parametric_args_bound so_far ps vs)) ≡ true
kept_given [] vs so_far name h = h
kept_given (p ∷ ps) [] so_far name h = h
kept_given (p ∷ ps) (v ∷ vs) so_far name h = kept_given ps vs (with_number so_far p v) name (by_first (bytes_eq name p.name.name))
  where
    by_first : (b : Bool) → is_there (if b then Some v else given_in name so_far) ≡ true
    by_first true = refl
    by_first false = h

each_given : (ps : List Parametric) (vs : List DslxValue) (so_far : List Given) → length vs ≡ length ps → (name : List ℕ) → is_in name (parametric_names ps) ≡ true → is_there (given_in name (parametric_args_bound so_far ps vs)) ≡ true
each_given [] vs so_far many name q = absurd (true≢false (sym q))
each_given (p ∷ ps) [] so_far many name q = absurd (none_many (length ps) many)
  where
    none_many : (n : ℕ) → 0 ≡ suc n → ⊥
    none_many n e = omega (arith, e)
each_given (p ∷ ps) (v ∷ vs) so_far many name q = by_first (bytes_eq name p.name.name) refl q (each_given ps vs (with_number so_far p v) fewer name)
  where
    fewer : length vs ≡ length ps
    fewer = omega (arith, many)

    by_first : (b : Bool) → bytes_eq name p.name.name ≡ b → (if b then true else is_in name (parametric_names ps)) ≡ true → (is_in name (parametric_names ps) ≡ true → is_there (given_in name (parametric_args_bound (with_number so_far p v) ps vs)) ≡ true)
        → is_there (given_in name (parametric_args_bound (with_number so_far p v) ps vs)) ≡ true
    by_first true e g rest = kept_given ps vs (with_number so_far p v) name (λ i. is_there (if e i then Some v else given_in name so_far))
    by_first false e g rest = rest g

pub args_bound : (ps : List Parametric) (vs : List DslxValue) → length vs ≡ length ps → AreBound (parametric_names ps) (parametric_args_bound [] ps vs) []
args_bound ps vs many name q = λ i. each_given ps vs [] many name q i || false

-- an argument is a local
kept_local : (context : TypeEnv) (so_far : List Typed) (fs : List Field) (name : List ℕ) → is_in name (map (λ (l : Typed). l.name) so_far) ≡ true → is_in name (map (λ (l : Typed). l.name) (arguments_typed context so_far fs)) ≡ true
kept_local context so_far [] name h = h
kept_local context so_far (f ∷ fs) name h = kept_local context (record { name = f.name.name; ty = (typing_of_inner context f.ty).ty } ∷ so_far) fs name (by_first (bytes_eq name f.name.name))
  where
    by_first : (b : Bool) → (if b then true else is_in name (map (λ (l : Typed). l.name) so_far)) ≡ true
    by_first true = refl
    by_first false = h

each_local : (context : TypeEnv) (so_far : List Typed) (fs : List Field) (name : List ℕ) → is_in name (field_names fs) ≡ true → is_in name (map (λ (l : Typed). l.name) (arguments_typed context so_far fs)) ≡ true
each_local context so_far [] name q = absurd (true≢false (sym q))
each_local context so_far (f ∷ fs) name q = by_first (bytes_eq name f.name.name) refl q (each_local context more fs name)
  where
    more : List Typed
    more = record { name = f.name.name; ty = (typing_of_inner context f.ty).ty } ∷ so_far

    by_first : (b : Bool) → bytes_eq name f.name.name ≡ b → (if b then true else is_in name (field_names fs)) ≡ true → (is_in name (field_names fs) ≡ true → is_in name (map (λ (l : Typed). l.name) (arguments_typed context more fs)) ≡ true)
        → is_in name (map (λ (l : Typed). l.name) (arguments_typed context more fs)) ≡ true
    by_first true e g rest = kept_local context more fs name (λ i. if e i then true else is_in name (map (λ (l : Typed). l.name) so_far))
    by_first false e g rest = rest g

-- each argument and each parametric is bound in the body
all_there : (context : TypeEnv) (fs : List Field) (names : List (List ℕ)) (given : List Given) (name : List ℕ) → is_in name (field_names fs ++ names) ≡ true → AreBound names given []
    → (is_in name (map (λ (l : Typed). l.name) (arguments_typed context [] fs)) || (is_there (given_in name given) || false)) ≡ true
all_there context fs names given name q w = by_field (is_in name (field_names fs)) refl
  where
    either : (b c : Bool) → c ≡ true → (b || c) ≡ true
    either true c e = refl
    either false c e = e

    by_field : (b : Bool) → is_in name (field_names fs) ≡ b → (is_in name (map (λ (l : Typed). l.name) (arguments_typed context [] fs)) || (is_there (given_in name given) || false)) ≡ true
    by_field true e = λ i. each_local context [] fs name e i || (is_there (given_in name given) || false)
    by_field false e = either (is_in name (map (λ (l : Typed). l.name) (arguments_typed context [] fs))) (is_there (given_in name given) || false) (w name (in_second name (field_names fs) names e q))

-- ---- parts of items that mention such alone as both know alike

abbrev pub mentions_pass : (List ℕ → Bool) → Module → List ℕ → Bool
mentions_pass P m owner = list_all P (mentions_of m (item_named owner m.items))

module _ (P : List ℕ → Bool) (m : Module) (a b : GlobalEnv) (closed : IsClosed P m) (s : Stage P m a b) where
  abbrev AllPass : List Mention → Type 0
  AllPass ms = list_all P (names_mentioned m ms) ≡ true

  pub mentions_alike : (owner : List ℕ) (ms : List Mention) → AllPass ms → MentionsAlike a b owner ms
  mentions_alike owner [] h = tt
  mentions_alike owner (n ∷ ms) h = let r = den_one P m n.use_as n.name ms h in (seen_from a b owner n.use_as n.name (s.uses n.use_as n.name r.0), mentions_alike owner ms r.1)

  pub agreeing : (ms : List Mention) → AllPass ms → Agreeing a.items b.items ms
  agreeing ms h bound = mentions_agree P a b [] bound s.known ms (mentions_alike [] ms h)

  pub plain_at : (name : List ℕ) → is_constant_item (item_named name m.items) ≡ false → a.items.constant name ≡ b.items.constant name
  plain_at name e = s.uses AsValue name (λ u. absurd (true≢false (sym u ∙ value_use (item_named name m.items) ∙ e)))

  -- where each enum that the item reaches passes
  pub sees_where : (owner : List ℕ) → ((name : List ℕ) → item_reaches a.whole owner name ≡ true → is_of_use AsEnum (item_named name m.items) ≡ true → P name ≡ true) → (bound : List (List ℕ)) → NamesAlike a b bound
      → (ms : List Mention) → AllPass ms → SeesAlike P bound owner a b ms
  sees_where owner reached bound n ms h = record {
    known = s.known;
    enums = λ name member e. (s.uses AsEnum name (reached name e)).members member;
    hidden = n;
    reach = s.reach owner ms h;
    alike = mentions_alike owner ms h;
  }

  pub sees_passing : (owner : List ℕ) → mentions_pass P m owner ≡ true → (bound : List (List ℕ)) → NamesAlike a b bound → (ms : List Mention) → AllPass ms → SeesAlike P bound owner a b ms
  sees_passing owner own = sees_where owner (λ name e q. reached_in P m closed (length m.items) owner name own (sym (λ i. item_reaches (s.text i) owner name) ∙ e))

  pub stage_sight : Sight P (mentions_pass P m) (λ owner. P) m a b
  stage_sight = record { text = s.text; known = s.known; plain = plain_at; sees = sees_passing }

-- ---- parts of items that both see alike

module _ (P Q : List ℕ → Bool) (T : List ℕ → List ℕ → Bool) (m : Module) (a b : GlobalEnv) (s : Sight P Q T m a b) where
  -- the item passes, and all that a part of it mentions
  abbrev pub Own : List ℕ → Type 0
  Own owner = Q owner ≡ true

  abbrev pub ExprDen : List ℕ → List Mention → Type 0
  ExprDen owner ms = list_all (T owner) (names_mentioned m ms) ≡ true

  pub plain_names : (names : List (List ℕ)) → AreNoConstants m names → NamesAlike a b names
  plain_names [] h = tt
  plain_names (n ∷ ns) h = (s.plain n h.0, plain_names ns h.1)

  -- ---- parts

  -- in this type environment
  seen : (owner : List ℕ) → Own owner → (bound : List (List ℕ)) (ms : List Mention) → ExprDen owner ms → (parametric_args : List Given) (unknown : List (List ℕ)) (locals : List Typed)
      → HiddenAlike bound (type_env_at a owner parametric_args unknown locals) b → SeesFrom P bound (type_env_at a owner parametric_args unknown locals) b ms
  seen owner own bound ms h parametric_args unknown locals n =
      let x = s.sees owner own [] tt ms h in
      record { known = x.known; enums = x.enums; hidden = n; reach = x.reach; alike = x.alike }

  -- what is bound to a value or unknown hides its constant
  pub hidden_behind : (owner : List ℕ) (bound : List (List ℕ)) (parametric_args : List Given) (unknown : List (List ℕ)) (locals : List Typed) → AreBound bound parametric_args unknown → HiddenAlike bound (type_env_at a owner parametric_args unknown locals) b
  hidden_behind owner bound parametric_args unknown locals w name q free =
      absurd (true≢false (sym (w name q) ∙ (or_false (is_in name (map (λ (l : Typed). l.name) locals)) (is_there (given_in name parametric_args) || is_in name unknown) free).1))

  pub type_behind : (owner : List ℕ) → Own owner → (bound : List (List ℕ)) (t : TypeExpr) → ExprDen owner (mentioned_in_type t bound) → (parametric_args : List Given) (unknown : List (List ℕ)) (locals : List Typed)
      → HiddenAlike bound (type_env_at a owner parametric_args unknown locals) b → typing_of_type (type_env_at a owner parametric_args unknown locals) t ≡ typing_of_type (type_env_at b owner parametric_args unknown locals) t
  type_behind owner own bound t h parametric_args unknown locals n =
      written_type_alike P t bound (type_env_at a owner parametric_args unknown locals) b (seen owner own bound (mentioned_in_type t bound) h parametric_args unknown locals n)

  pub inner_behind : (owner : List ℕ) → Own owner → (bound : List (List ℕ)) (t : TypeExpr) → ExprDen owner (mentioned_in_type t bound) → (parametric_args : List Given) (unknown : List (List ℕ)) (locals : List Typed)
      → HiddenAlike bound (type_env_at a owner parametric_args unknown locals) b → typing_of_inner (type_env_at a owner parametric_args unknown locals) t ≡ typing_of_inner (type_env_at b owner parametric_args unknown locals) t
  inner_behind owner own bound t h parametric_args unknown locals n = inner_same (type_env_at a owner parametric_args unknown locals) b (type_pair t) (type_behind owner own bound t h parametric_args unknown locals n)

  pub constant_behind : (owner : List ℕ) → Own owner → (bound : List (List ℕ)) (e : Expr) → ExprDen owner (mentioned e bound) → (parametric_args : List Given) (unknown : List (List ℕ)) (locals : List Typed)
      → HiddenAlike bound (type_env_at a owner parametric_args unknown locals) b → constant_of (type_env_at a owner parametric_args unknown locals) (expr_pair e) ≡ constant_of (type_env_at b owner parametric_args unknown locals) (expr_pair e)
  constant_behind owner own bound e h parametric_args unknown locals n =
      constant_same P (type_env_at a owner parametric_args unknown locals) b (expr_pair e) s.known
      (constant_alike P (expr_pair e) (mentioned e) (expression_alike P e) bound (type_env_at a owner parametric_args unknown locals) b (seen owner own bound (mentioned e bound) h parametric_args unknown locals n))

  body_behind : (owner : List ℕ) → Own owner → (body : Block) (bound : List (List ℕ)) → ExprDen owner (mentioned_in_block body bound) → (parametric_args : List Given) (locals : List Typed) (wanted : Option DslxType)
      → HiddenAlike bound (type_env_at a owner parametric_args [] locals) b → body_typing false (type_env_at a owner parametric_args [] locals) wanted body ≡ body_typing false (type_env_at b owner parametric_args [] locals) wanted body
  body_behind owner own body bound h parametric_args locals wanted n =
      let context = type_env_at a owner parametric_args [] locals in
      let from = seen owner own bound (mentioned_in_block body bound) h parametric_args [] locals n in
      let j = block_of_text_alike P body bound false context b from in
      let reached = block_of_text_reaches P body bound false context from.reach in
      let clean = all_alike P a.is_unbroken b.is_unbroken s.known.unbroken ((block_pair body).1 false context).reached reached ∙ ap (λ (k : Judgement). list_all b.is_unbroken k.reached) j in
      λ i. limited_by (clean i) (out-Block body).span.to (record (j i) { faults = (j i).faults ++ wanted_faults (out-Block body).span wanted (j i).ty })

  -- behind names whose constants are alike
  pub type_at : (owner : List ℕ) → Own owner → (bound : List (List ℕ)) → NamesAlike a b bound → (t : TypeExpr) → ExprDen owner (mentioned_in_type t bound) → (parametric_args : List Given) (unknown : List (List ℕ)) (locals : List Typed)
      → typing_of_type (type_env_at a owner parametric_args unknown locals) t ≡ typing_of_type (type_env_at b owner parametric_args unknown locals) t
  type_at owner own bound n t h parametric_args unknown locals = type_behind owner own bound t h parametric_args unknown locals (hidden_alike bound (type_env_at a owner parametric_args unknown locals) b n)

  pub inner_at : (owner : List ℕ) → Own owner → (bound : List (List ℕ)) → NamesAlike a b bound → (t : TypeExpr) → ExprDen owner (mentioned_in_type t bound) → (parametric_args : List Given) (unknown : List (List ℕ)) (locals : List Typed)
      → typing_of_inner (type_env_at a owner parametric_args unknown locals) t ≡ typing_of_inner (type_env_at b owner parametric_args unknown locals) t
  inner_at owner own bound n t h parametric_args unknown locals = inner_behind owner own bound t h parametric_args unknown locals (hidden_alike bound (type_env_at a owner parametric_args unknown locals) b n)

  pub constant_at : (owner : List ℕ) → Own owner → (bound : List (List ℕ)) → NamesAlike a b bound → (e : Expr) → ExprDen owner (mentioned e bound) → (parametric_args : List Given) (unknown : List (List ℕ)) (locals : List Typed)
      → constant_of (type_env_at a owner parametric_args unknown locals) (expr_pair e) ≡ constant_of (type_env_at b owner parametric_args unknown locals) (expr_pair e)
  constant_at owner own bound n e h parametric_args unknown locals = constant_behind owner own bound e h parametric_args unknown locals (hidden_alike bound (type_env_at a owner parametric_args unknown locals) b n)

  local_at : (owner : List ℕ) (parametric_args : List Given) (before : List (List ℕ)) (name : Ident) → local_name (item_type_env a owner parametric_args) before name ≡ local_name (item_type_env b owner parametric_args) before name
  local_at owner parametric_args before name = λ i. local_name (type_env_at (record a { whole = s.known.whole i }) owner parametric_args [] []) before name

  -- ---- functions

  -- a default, wherever it stands
  default_behind : (owner : List ℕ) → Own owner → (bound : List (List ℕ)) (o : Option Expr) → ExprDen owner (expr_if o bound) → (given : List Given) (unknown : List (List ℕ)) → HiddenAlike bound (type_env_at a owner given unknown []) b
      → default_if (type_env_at a owner given unknown []) o ≡ default_if (type_env_at b owner given unknown []) o
  default_behind owner own bound None h given unknown n = refl
  default_behind owner own bound (Some e) h given unknown n =
      let c = constant_behind owner own bound e h given unknown [] n in
      λ i. record { judgement = (c i).judgement; value = (c i).value }

  -- the types of arguments
  arguments_behind : (owner : List ℕ) → Own owner → (fs : List Field) (bound : List (List ℕ)) → ExprDen owner (fields_mentions fs bound) → (given : List Given) (unknown : List (List ℕ)) → HiddenAlike bound (type_env_at a owner given unknown []) b
      → map (λ (f : Field). declared_type (type_env_at a owner given unknown []) f.ty) fs ≡ map (λ (f : Field). declared_type (type_env_at b owner given unknown []) f.ty) fs
  arguments_behind owner own [] bound h given unknown n = refl
  arguments_behind owner own (f ∷ fs) bound h given unknown n =
      let both = den_parts (T owner) m (mentioned_in_type f.ty bound) (fields_mentions fs bound) h in
      λ i. unless_unit (type_behind owner own bound f.ty both.0 given unknown [] n i).ty ∷ arguments_behind owner own fs bound both.1 given unknown n i

  result_behind : (owner : List ℕ) → Own owner → (o : Option TypeExpr) (bound : List (List ℕ)) → ExprDen owner (type_if o bound) → (given : List Given) (unknown : List (List ℕ)) → HiddenAlike bound (type_env_at a owner given unknown []) b
      → result_typing (type_env_at a owner given unknown []) o ≡ result_typing (type_env_at b owner given unknown []) o
  result_behind owner own None bound h given unknown n = refl
  result_behind owner own (Some t) bound h given unknown n = type_behind owner own bound t h given unknown [] n

  -- what a function declares: the types and the defaults of its parametrics, and its signature
  pub declared_over : (f : Function) → item_named f.name.name m.items ≡ Some (d.Function f) → Own f.name.name → ExprDen f.name.name (parametrics_mentions f.parametrics [])
      → ExprDen f.name.name (fields_mentions f.arguments (parametric_names f.parametrics)) → ExprDen f.name.name (type_if f.result (parametric_names f.parametrics)) → DeclaredAlike (globals_over a) (globals_over b) f.name.name
  declared_over f is own ps fs rs =
      declared_alike a b owner (d.Function f) ((λ i. item_named owner (s.text i).items) ∙ is) ((λ i. item_named owner (sym s.known.whole i).items) ∙ (λ i. item_named owner (s.text i).items) ∙ is) (LeftMentioned T m owner) (left_mentioned T m owner)
      (λ bound p qs h given unknown w. inner_behind owner own bound p.ty (first_mentioned T m owner bound p qs h).0 given unknown [] (hidden_behind owner bound given unknown [] w))
      (λ bound p qs h given unknown w. default_behind owner own bound p.default (first_mentioned T m owner bound p qs h).1 given unknown (hidden_behind owner bound given unknown [] w))
      (λ given unknown w.
      let n = hidden_behind owner (parametric_names f.parametrics) given unknown [] w in
      let arguments = arguments_behind owner own f.arguments (parametric_names f.parametrics) fs given unknown n in
      let result = result_behind owner own f.result (parametric_names f.parametrics) rs given unknown n in
      λ i. record { arguments = arguments i; result = (result i).ty })
      ps
    where
      owner : List ℕ
      owner = f.name.name

  -- the body of an instance of as many parametric arguments as there are parametrics
  typed_behind : (owner : List ℕ) → Own owner → (so_far : List Typed) (fs : List Field) (bound : List (List ℕ)) → ExprDen owner (fields_mentions fs bound) → (given : List Given) → HiddenAlike bound (type_env_at a owner given [] []) b
      → arguments_typed (item_type_env a owner given) so_far fs ≡ arguments_typed (item_type_env b owner given) so_far fs
  typed_behind owner own so_far [] bound h given n = refl
  typed_behind owner own so_far (f ∷ fs) bound h given n =
      let both = den_parts (T owner) m (mentioned_in_type f.ty bound) (fields_mentions fs bound) h in
      typed_behind owner own (record { name = f.name.name; ty = (typing_of_inner (item_type_env a owner given) f.ty).ty } ∷ so_far) fs bound both.1 given n
      ∙ (λ i. arguments_typed (item_type_env b owner given) (record { name = f.name.name; ty = (inner_behind owner own bound f.ty both.0 given [] [] n i).ty } ∷ so_far) fs)

  pub body_alike : (f : Function) → Own f.name.name → FunctionParts T m f → (parametric_args : List DslxValue) → length parametric_args ≡ length f.parametrics → (function_seen a f parametric_args).body ≡ (function_seen b f parametric_args).body
  body_alike f own h parametric_args many =
      let owner = f.name.name in
      let given = parametric_args_bound [] f.parametrics parametric_args in
      let names = parametric_names f.parametrics in
      let w = args_bound f.parametrics parametric_args many in
      let n = hidden_behind owner names given [] [] w in
      let result = result_behind owner own f.result names h.result given [] n in
      let typed = typed_behind owner own [] f.arguments names h.arguments given n in
      let locals = arguments_typed (item_type_env a owner given) [] f.arguments in
      let inner : HiddenAlike (field_names f.arguments ++ names) (type_env_at a owner given [] locals) b = λ name q free. absurd (true≢false (sym (all_there (item_type_env a owner given) f.arguments names given name q w) ∙ free)) in
      body_behind owner own f.body (field_names f.arguments ++ names) h.body given locals (result_typing (item_type_env a owner given) f.result).ty inner
      ∙ (λ i. body_typing false (type_env_at b owner given [] (typed i)) (result i).ty f.body)

  default_at : (owner : List ℕ) → Own owner → (bound : List (List ℕ)) → NamesAlike a b bound → (o : Option Expr) → ExprDen owner (expr_if o bound) → (parametric_args : List Given) (t u : Option DslxType) → t ≡ u
      → default_found (item_type_env a owner parametric_args) t o ≡ default_found (item_type_env b owner parametric_args) u o
  default_at owner own bound n None h parametric_args t u e = refl
  default_at owner own bound n (Some x) h parametric_args t u e = λ i. default_by (e i) x (constant_at owner own bound n x h parametric_args [] [] i)

  parametrics_at : (owner : List ℕ) → Own owner → (before : List (List ℕ)) (so_far : List Given) (ps : List Parametric) (values : List DslxValue) (bound : List (List ℕ)) → NamesAlike a b bound → NamesAlike a b (parametric_names ps)
      → ExprDen owner (parametrics_mentions ps bound) → parametrics_found a owner before so_far ps values ≡ parametrics_found b owner before so_far ps values
  parametrics_at owner own before so_far [] values bound n plain h = refl
  parametrics_at owner own before so_far (p ∷ ps) values bound n plain h =
      let front = den_parts (T owner) m (mentioned_in_type p.ty bound ++ expr_if p.default bound) (parametrics_mentions ps (p.name.name ∷ bound)) h in
      let both = den_parts (T owner) m (mentioned_in_type p.ty bound) (expr_if p.default bound) front.0 in
      let t = inner_at owner own bound n p.ty both.0 so_far [] [] in
      let default = default_at owner own bound n p.default both.1 so_far _ _ (ap (λ (j : Judgement). j.ty) t) in
      let rest = parametrics_at owner own (p.name.name ∷ before) (bound_with so_far p (number_at values)) ps (parametric_args_behind values) (p.name.name ∷ bound) (plain.0, n) plain.1 front.1 in
      λ i. and_found (only_faults (local_at owner so_far before p.name i)) (and_found (found_in (t i)) (and_found (default i) (rest i)))

  arguments_at : (owner : List ℕ) → Own owner → (before : List (List ℕ)) (fs : List Field) (bound : List (List ℕ)) → NamesAlike a b bound → ExprDen owner (fields_mentions fs bound) → (parametric_args : List Given)
      → arguments_found (item_type_env a owner parametric_args) before fs ≡ arguments_found (item_type_env b owner parametric_args) before fs
  arguments_at owner own before [] bound n h parametric_args = refl
  arguments_at owner own before (f ∷ fs) bound n h parametric_args =
      let both = den_parts (T owner) m (mentioned_in_type f.ty bound) (fields_mentions fs bound) h in
      let rest = arguments_at owner own (f.name.name ∷ before) fs bound n both.1 parametric_args in
      λ i. and_found (only_faults (local_at owner parametric_args before f.name i)) (and_found (found_in (inner_at owner own bound n f.ty both.0 parametric_args [] [] i)) (rest i))

  typed_at : (owner : List ℕ) → Own owner → (so_far : List Typed) (fs : List Field) (bound : List (List ℕ)) → NamesAlike a b bound → ExprDen owner (fields_mentions fs bound) → (parametric_args : List Given)
      → arguments_typed (item_type_env a owner parametric_args) so_far fs ≡ arguments_typed (item_type_env b owner parametric_args) so_far fs
  typed_at owner own so_far [] bound n h parametric_args = refl
  typed_at owner own so_far (f ∷ fs) bound n h parametric_args =
      let both = den_parts (T owner) m (mentioned_in_type f.ty bound) (fields_mentions fs bound) h in
      typed_at owner own (record { name = f.name.name; ty = (typing_of_inner (item_type_env a owner parametric_args) f.ty).ty } ∷ so_far) fs bound n both.1 parametric_args
      ∙ (λ i. arguments_typed (item_type_env b owner parametric_args) (record { name = f.name.name; ty = (inner_at owner own bound n f.ty both.0 parametric_args [] [] i).ty } ∷ so_far) fs)

  result_at : (owner : List ℕ) → Own owner → (o : Option TypeExpr) (bound : List (List ℕ)) → NamesAlike a b bound → ExprDen owner (type_if o bound) → (parametric_args : List Given)
      → result_typing (item_type_env a owner parametric_args) o ≡ result_typing (item_type_env b owner parametric_args) o
  result_at owner own None bound n h parametric_args = refl
  result_at owner own (Some t) bound n h parametric_args = type_at owner own bound n t h parametric_args [] []

  body_at : (owner : List ℕ) → Own owner → (body : Block) (bound : List (List ℕ)) → NamesAlike a b bound → ExprDen owner (mentioned_in_block body bound) → (parametric_args : List Given) (locals : List Typed) (wanted : Option DslxType)
      → body_typing false (type_env_at a owner parametric_args [] locals) wanted body ≡ body_typing false (type_env_at b owner parametric_args [] locals) wanted body
  body_at owner own body bound n h parametric_args locals wanted = body_behind owner own body bound h parametric_args locals wanted (hidden_alike bound (type_env_at a owner parametric_args [] locals) b n)

  pub function_at : (f : Function) → Own f.name.name → FunctionParts T m f → NamesAlike a b (parametric_names f.parametrics) → NamesAlike a b (field_names f.arguments) → (parametric_args : List DslxValue) → function_seen a f parametric_args ≡ function_seen b f parametric_args
  function_at f own h plain arguments parametric_args =
      let owner = f.name.name in
      let given = parametric_args_bound [] f.parametrics parametric_args in
      let names = parametric_names f.parametrics in
      let first = parametrics_at owner own [] [] f.parametrics parametric_args [] tt plain h.parametrics in
      let second = arguments_at owner own [] f.arguments names plain h.arguments given in
      let result = result_at owner own f.result names plain h.result given in
      let locals = typed_at owner own [] f.arguments names plain h.arguments given in
      let inner = names_join a b (field_names f.arguments) names arguments plain in
      let body = body_at owner own f.body (field_names f.arguments ++ names) inner h.body given (arguments_typed (item_type_env a owner given) [] f.arguments) (result_typing (item_type_env a owner given) f.result).ty
      ∙ (λ i. body_typing false (type_env_at b owner given [] (locals i)) (result i).ty f.body) in
      λ i. record { found = and_found (first i) (and_found (second i) (and_found (found_in (result i)) (found_in (body i)))); body = body i }

  -- an instance reaches nothing that breaks a rule or passes a limit, by what its text comes to
  abbrev sound_by : Bool → Found → Bool
  sound_by sound found = is_empty found.faults && sound

  abbrev unbroken_by : Bool → Found → Bool
  unbroken_by unbroken found = not (has_broken found.faults) && unbroken

  pub sound_at : (k : Instance) → AllNamed P (found_of_instance a k).reached → found_of_instance a k ≡ found_of_instance b k → sound_instance a k ≡ sound_instance b k
  sound_at k named same =
      let sound = all_alike P a.is_sound b.is_sound s.known.sound (found_of_instance a k).reached named ∙ ap (λ (f : Found). list_all b.is_sound f.reached) same in
      λ i. sound_by (sound i) (same i)

  pub unbroken_at : (k : Instance) → AllNamed P (found_of_instance a k).reached → found_of_instance a k ≡ found_of_instance b k → unbroken_instance a k ≡ unbroken_instance b k
  unbroken_at k named same =
      let unbroken = all_alike P a.is_unbroken b.is_unbroken s.known.unbroken (found_of_instance a k).reached named ∙ ap (λ (f : Found). list_all b.is_unbroken f.reached) same in
      λ i. unbroken_by (unbroken i) (same i)

  -- a call gives one value by both
  pub call_at : (f : Function) → Own f.name.name → ExprDen f.name.name (definition_mentions (d.Function f)) → (given operands : List DslxValue) → call_of a.items f given operands ≡ call_of b.items f given operands
  call_at f own h given operands =
      let owner = f.name.name in
      let ms = definition_mentions (d.Function f) in
      call_one a.items b.items f given operands (λ bound. mentions_agree P a b owner bound s.known ms (s.sees owner own [] tt ms h).alike)

  -- ---- other items

  annotation_at : (owner : List ℕ) → Own owner → (o : Option TypeExpr) → ExprDen owner (type_if o []) → annotation_typing (item_type_env a owner []) o ≡ annotation_typing (item_type_env b owner []) o
  annotation_at owner own None h = refl
  annotation_at owner own (Some t) h = type_at owner own [] tt t h [] [] []

  abbrev constant_found : Constant → Judgement → ConstantSeen → ConstantFound
  constant_found c written value =
      let wrong = wanted_faults (out-Expr c.value).span written.ty value.judgement.ty in
      record {
        found = record { faults = written.faults ++ value.judgement.faults ++ wrong; reached = written.reached ++ value.judgement.reached };
        value = if is_empty (written.faults ++ wrong) && is_annotated c.ty written.ty then value.value else None;
      }

  pub constant_item_at : (c : Constant) → Own c.name.name → ExprDen c.name.name (definition_mentions (d.Constant c)) → constant_seen a c ≡ constant_seen b c
  constant_item_at c own h =
      let both = den_parts (T c.name.name) m (type_if c.ty []) (mentioned c.value []) h in
      let written = annotation_at c.name.name own c.ty both.0 in
      let value = constant_at c.name.name own [] tt c.value both.1 [] [] [] in
      λ i. constant_found c (written i) (value i)

  abbrev alias_found : Judgement → TypeFound
  alias_found j = record { found = found_in j; ty = unless_broken j.faults j.ty }

  pub alias_at : (x : Alias) → Own x.name.name → ExprDen x.name.name (definition_mentions (d.Alias x)) → alias_seen a x ≡ alias_seen b x
  alias_at x own h = ap alias_found (type_at x.name.name own [] tt x.ty h [] [] [])

  fields_at : (owner : List ℕ) → Own owner → (before : List (List ℕ)) (fs : List Field) → ExprDen owner (fields_mentions fs []) → fields_found (item_type_env a owner []) before fs ≡ fields_found (item_type_env b owner []) before fs
  fields_at owner own before [] h = refl
  fields_at owner own before (f ∷ fs) h =
      let both = den_parts (T owner) m (mentioned_in_type f.ty []) (fields_mentions fs []) h in
      let rest = fields_at owner own (f.name.name ∷ before) fs both.1 in
      λ i. and_found (only_faults (listed_name before f.name)) (and_found (found_in (inner_at owner own [] tt f.ty both.0 [] [] [] i)) (rest i))

  field_types_at : (owner : List ℕ) → Own owner → (fs : List Field) → ExprDen owner (fields_mentions fs [])
      → map (λ (f : Field). (typing_of_inner (item_type_env a owner []) f.ty).ty) fs ≡ map (λ (f : Field). (typing_of_inner (item_type_env b owner []) f.ty).ty) fs
  field_types_at owner own [] h = refl
  field_types_at owner own (f ∷ fs) h =
      let both = den_parts (T owner) m (mentioned_in_type f.ty []) (fields_mentions fs []) h in
      λ i. (inner_at owner own [] tt f.ty both.0 [] [] [] i).ty ∷ field_types_at owner own fs both.1 i

  abbrev struct_found : Struct → Found → Option (List DslxType) → TypeFound
  struct_found x found types =
      let faults = found.faults ++ breaks_if (is_empty x.fields) 31 x.span in
      let t = unless_broken faults (and_then types (λ ts. Some (ty.Struct x.name.name (map name_of_field x.fields) ts))) in
      record { found = record { faults = faults ++ type_limits x.span.to t; reached = found.reached }; ty = t }

  pub struct_at : (x : Struct) → Own x.name.name → ExprDen x.name.name (definition_mentions (d.Struct x)) → struct_seen a x ≡ struct_seen b x
  struct_at x own h =
      let found = fields_at x.name.name own [] x.fields h in
      let types = field_types_at x.name.name own x.fields h in
      λ i. struct_found x (found i) (all_some (types i))

  member_at : (owner : List ℕ) → Own owner → (t u : Option DslxType) → t ≡ u → (x : Member) → ExprDen owner (mentioned x.value []) → member_constant (item_type_env a owner []) t x ≡ member_constant (item_type_env b owner []) u x
  member_at owner own t u e x h = by_untyped (untyped_of (expr_pair x.value))
    where
      by_untyped : (o : Option UntypedLiteral) → member_by (item_type_env a owner []) t (expr_pair x.value) o ≡ member_by (item_type_env b owner []) u (expr_pair x.value) o
      by_untyped None =
          let c = constant_at owner own [] tt x.value h [] [] [] in
          λ i. of_base (e i) (c i) (wanted_faults (span_of (expr_pair x.value)) (e i) (c i).judgement.ty)
      by_untyped (Some number) = λ i. record { found = only_faults (range_faults (span_of (expr_pair x.value)) (e i) number); value = number_in (e i) number }

  abbrev members_mentions : List Member → List Mention
  members_mentions ms = flat_map (λ (x : Member). mentioned x.value []) ms

  members_at : (owner : List ℕ) → Own owner → (t u : Option DslxType) → t ≡ u → (before : List (List ℕ)) (ms : List Member) → ExprDen owner (members_mentions ms)
      → members_found (item_type_env a owner []) t before ms ≡ members_found (item_type_env b owner []) u before ms
  members_at owner own t u e before [] h = refl
  members_at owner own t u e before (x ∷ ms) h =
      let both = den_parts (T owner) m (mentioned x.value []) (members_mentions ms) h in
      let one = member_at owner own t u e x both.0 in
      let rest = members_at owner own t u e (x.name.name ∷ before) ms both.1 in
      λ i. and_found (only_faults (listed_name before x.name)) (and_found (one i).found (rest i))

  values_at : (owner : List ℕ) → Own owner → (t u : Option DslxType) → t ≡ u → (ms : List Member) → ExprDen owner (members_mentions ms) → member_values (item_type_env a owner []) t ms ≡ member_values (item_type_env b owner []) u ms
  values_at owner own t u e [] h = refl
  values_at owner own t u e (x ∷ ms) h =
      let both = den_parts (T owner) m (mentioned x.value []) (members_mentions ms) h in
      λ i. (member_at owner own t u e x both.0 i).value ∷ values_at owner own t u e ms both.1 i

  abbrev enum_found : Enum → Judgement → Found → List (Option DslxValue) → TypeFound
  enum_found x base members values =
      let faults = base.faults ++ members.faults ++ unless_type is_bits 23 x.span base.ty ++ breaks_if (is_empty x.members || has_equal_values values) 23 x.span in
      record { found = record { faults = faults; reached = base.reached ++ members.reached }; ty = unless_broken faults (enum_of_base x.name.name base.ty) }

  -- the base of an enum, and its members
  enum_base : (x : Enum) → Own x.name.name → ExprDen x.name.name (definition_mentions (d.Enum x)) → typing_of_type (item_type_env a x.name.name []) x.base ≡ typing_of_type (item_type_env b x.name.name []) x.base
  enum_base x own h = type_at x.name.name own [] tt x.base (den_parts (T x.name.name) m (mentioned_in_type x.base []) (members_mentions x.members) h).0 [] [] []

  pub enum_at : (x : Enum) → Own x.name.name → ExprDen x.name.name (definition_mentions (d.Enum x)) → enum_seen a x ≡ enum_seen b x
  enum_at x own h =
      let base = enum_base x own h in
      let bits = ap (λ (j : Judgement). base_if_bits j.ty) base in
      let rest = (den_parts (T x.name.name) m (mentioned_in_type x.base []) (members_mentions x.members) h).1 in
      let members = members_at x.name.name own _ _ bits [] x.members rest in
      let values = values_at x.name.name own _ _ bits x.members rest in
      λ i. enum_found x (base i) (members i) (values i)

  -- the member of a name
  pub named_member_at : (x : Enum) → Own x.name.name → ExprDen x.name.name (definition_mentions (d.Enum x)) → (name : List ℕ) → enum_member_value a x name (member_named name x.members) ≡ enum_member_value b x name (member_named name x.members)
  named_member_at x own h name =
      let rest = (den_parts (T x.name.name) m (mentioned_in_type x.base []) (members_mentions x.members) h).1 in
      let bits = ap (λ (j : Judgement). base_if_bits j.ty) (enum_base x own h) in
      among bits (ap (λ (t : TypeFound). t.ty) (enum_at x own h)) x.members rest
    where
      among : base_if_bits (typing_of_type (item_type_env a x.name.name []) x.base).ty ≡ base_if_bits (typing_of_type (item_type_env b x.name.name []) x.base).ty → (enum_seen a x).ty ≡ (enum_seen b x).ty → (ms : List Member) → ExprDen x.name.name (members_mentions ms)
          → enum_member_value a x name (member_named name ms) ≡ enum_member_value b x name (member_named name ms)
      among bits t [] k = refl
      among bits t (y ∷ ms) k = by_name (bytes_eq name y.name.name) (den_parts (T x.name.name) m (mentioned y.value []) (members_mentions ms) k).0 (among bits t ms (den_parts (T x.name.name) m (mentioned y.value []) (members_mentions ms) k).1)
        where
          by_name : (q : Bool) → ExprDen x.name.name (mentioned y.value []) → enum_member_value a x name (member_named name ms) ≡ enum_member_value b x name (member_named name ms)
              → enum_member_value a x name (if q then Some y else member_named name ms) ≡ enum_member_value b x name (if q then Some y else member_named name ms)
          by_name true own_member more = λ i. and_then (t i) (λ u. and_then (member_at x.name.name own _ _ bits y own_member i).value (enum_member x.name.name))
          by_name false own_member more = more
