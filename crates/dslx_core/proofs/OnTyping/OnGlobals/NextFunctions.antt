-- One function more on chains: what is known of it, where all that it mentions is known.
use Rattle.std.proofs.Common.{◌*◌, ◌≡◌, ◌≤◌, ◌&&◌, ◌||◌, ℕ, suc, Bool, true, false, not, if◌then◌else◌, List, [], ◌∷◌, ◌++◌, map, length, Option, Some, None, arith, refl, sym, ap, subst, ◌∙◌}
use mathlib.Core.Bool.{true≢false}
use Rattle.std.specs.Str.{bytes_eq}
use Rattle.std.specs.List.{list_all}
use Rattle.std.proofs.lemmas.Slice.Eq.{bytes_eq-Decides}
use Rattle.dslx_tree.specs.declared.expr.Expr.{Expr}
use Rattle.dslx_tree.specs.declared.item.Definition.TheVariants as d
use Rattle.dslx_tree.specs.declared.item.Field.{Field}
use Rattle.dslx_tree.specs.declared.item.Function.{Function}
use Rattle.dslx_tree.specs.declared.item.Module.{Module}
use Rattle.dslx_tree.specs.declared.item.Parametric.{Parametric}
use Rattle.dslx_tree.specs.declared.type_expr.TypeExpr.{TypeExpr}
use Rattle.dslx_meaning.specs.Environment.{Env, Given, given_in}
use Rattle.dslx_meaning.specs.Items.{call_of, all_parametric_args, as_function, function_value, inferred_from, item_named, parametric_args_bound, with_number}
use Rattle.dslx_meaning.specs.Lists.{and_then, is_in}
use Rattle.dslx_meaning.specs.Meaning.{value_of, written_type}
use Rattle.dslx_meaning.specs.Values.{type_of_value}
use Rattle.dslx_meaning.specs.declared.ty.DslxType.{DslxType}
use Rattle.dslx_meaning.specs.declared.value.DslxValue.{DslxValue}
use Rattle.dslx_meaning.specs.Rules.AggregateRules.{first_type_of}
use Rattle.dslx_meaning.specs.Rules.CallRules.{parametric_type, known_before}
use Rattle.dslx_meaning.specs.Rules.TypeRules.{unless_unit}
use Rattle.dslx_meaning.specs.Rules.ConstantRules.{constant_of, is_empty}
use Rattle.dslx_meaning.specs.Rules.ItemRules.{arguments_found, body_typing, arguments_typed, function_seen, function_type_env, item_type_env, typing_of_inner, typing_of_type, parametrics_found, result_typing}
use Rattle.dslx_meaning.specs.Rules.TypeEnvs.{DefaultSeen, ExprPair, Instance, Judgement, GlobalEnv, Signature, TypeEnv, has_broken}
use Rattle.dslx_meaning.specs.Rules.Mentions.{AsFunction, Mention, expr_if, item_reaches, mentioned, mentioned_in_type, mentions_of, names_mentioned, parametrics_mentions}
use Rattle.dslx_meaning.specs.Rules.ModuleRules.{declared_type, default_if, default_known, found_of_instance, found_of_item, globals_of, globals_over, signature_of, size_known, sound_instance}
use Rattle.dslx_meaning.specs.Rules.NameRules.{local_name}
use Rattle.dslx_meaning.specs.Rules.NodeRules.{expr_pair}
use Rattle.dslx_meaning.specs.Rules.PatternRules.{is_there}
use Rattle.dslx_core.proofs.Lemmas.Typing.Laws.{AllGiven, given_agree, given_here, given_more, parametric_args_one, value_depends, written_type_depends}
use Rattle.dslx_core.specs.Typing.Typed.Complete.{EachArgumentDeclared, EachParametricKnown, FitArguments, IsCallable, IsComplete, IsDefaultKnown, IsWellTypedPart, IsFunctionKnown, IsParametricKnown, signature_at}
use Rattle.dslx_core.specs.Typing.Typed.Declared.{Declarations, IsDeclared}
use Rattle.dslx_core.specs.Typing.Typed.Given.{GivesOf}
use Rattle.dslx_core.specs.Typing.Typed.Numbers.{AllOwn, AreOwn, FitParametricArgs, ParametricMeans, ParametricsMean, values_behind}
use Rattle.dslx_core.specs.Typing.Typed.WellTyped.{AreOperandsOf}
use Rattle.dslx_core.proofs.Lemmas.Typing.Typed.{none_some, not_unit_is, parametric_is, own_bound, own_more, own_value, same_some}
use Rattle.dslx_core.proofs.Lemmas.Typing.Sound.{all_in, none_in, type_has_den}
use Rattle.dslx_core.specs.Typing.TypingRelations.Reached.{AllNamed}
use Rattle.dslx_core.proofs.Lemmas.Typing.TypingRelations.{all_weaker, default_reached, written_type_reaches}
use Rattle.dslx_core.specs.Typing.Depends.Alike.{CalleeAlike, DeclaredAlike, FunctionAlike, HiddenAlike, TypesAlike}
use Rattle.dslx_core.proofs.Lemmas.Typing.Depends as of
use Rattle.dslx_core.proofs.Lemmas.Typing.Depends.{all_alike, call_unless, den_parts, settles, settles_closed}
use Rattle.dslx_core.specs.Typing.Complete.HasValue.{AreTyped, IsWellTypedFound, ParametricHasValue}
use Rattle.dslx_core.proofs.Lemmas.Typing.Complete.{inner_globals, instance_has_value, none_own, parametric_has_value}
use Rattle.dslx_core.specs.Typing.GlobalEnv.Filled.{filled}
use Rattle.dslx_core.specs.Typing.GlobalEnv.WellTypedParts.{EachItemWellTyped}
use Rattle.dslx_core.specs.Typing.GlobalEnv.Passing.{PassingHaveValues}
use Rattle.dslx_core.proofs.OnTyping.OnCycles.Joined.{written_type_judged}
use Rattle.dslx_core.proofs.OnTyping.OnCycles.OfItems.{constant_passes, instance_broken, stands, uses_freely}
use Rattle.dslx_core.proofs.OnTyping.OnCycles.Parts.{front}
use Rattle.dslx_core.proofs.OnTyping.OnCycles.Untyped.{broken_constant_is_none, broken_type_is_none}
use Rattle.dslx_core.proofs.OnTyping.OnGlobals.Next as of_next
use Rattle.dslx_core.proofs.OnTyping.OnGlobals.OnFilled.{sight_filled, stage_filled}

-- a written type that is there breaks no rule, nor does a constant that has a value
typed_is_whole : (context : TypeEnv) (x : TypeExpr) (t : DslxType) → (typing_of_type context x).ty ≡ Some t → has_broken (typing_of_type context x).faults ≡ false
typed_is_whole context x t e = by_test (has_broken (typing_of_type context x).faults) refl
  where
    by_test : (b : Bool) → has_broken (typing_of_type context x).faults ≡ b → has_broken (typing_of_type context x).faults ≡ false
    by_test true q = none_some t (sym (broken_type_is_none x context q) ∙ e)
    by_test false q = q

valued_is_whole : (context : TypeEnv) (x : ExprPair) (v : DslxValue) → (constant_of context x).value ≡ Some v → has_broken (constant_of context x).judgement.faults ≡ false
valued_is_whole context x v e = by_test (has_broken (constant_of context x).judgement.faults) refl
  where
    by_test : (b : Bool) → has_broken (constant_of context x).judgement.faults ≡ b → has_broken (constant_of context x).judgement.faults ≡ false
    by_test true q = none_some v (sym (broken_constant_is_none context x q) ∙ e)
    by_test false q = q

module _ (m : Module) (well_typed : EachItemWellTyped m) (k : ℕ) (stand : (w : ℕ) → PassingHaveValues w (settles m k) (globals_of m))
    (G : GlobalEnv) (s : of.Stage (settles m (suc k)) m (globals_of m) G)
    (carry : (t : DslxType) → IsDeclared (filled 1 (settles m k) (globals_of m)).items.type_named t → IsDeclared (filled 2 (settles m k) (globals_of m)).items.type_named t → IsDeclared G.items.type_named t)
    (name : List ℕ) (f : Function) (is : item_named name m.items ≡ Some (d.Function f)) (q : settles m (suc k) name ≡ true) (alike : DeclaredAlike G (globals_of m) f.name.name) where
  abbrev K : GlobalEnv
  K = globals_of m

  abbrev P : List ℕ → Bool
  P = settles m k

  abbrev Q : List ℕ → Bool
  Q = settles m (suc k)

  abbrev F : ℕ → GlobalEnv
  F v = filled v P K

  abbrev types : ℕ → Declarations
  types v = (F v).items.type_named

  abbrev next : Declarations
  next = G.items.type_named

  -- all that is mentioned stands below, or below and beside
  abbrev ExprDen : List Mention → Type 0
  ExprDen ms = list_all P (names_mentioned m ms) ≡ true

  abbrev T : List ℕ → List ℕ → Bool
  T = of.is_reached_so m k

  abbrev AllReached : List Mention → Type 0
  AllReached ms = list_all (T f.name.name) (names_mentioned m ms) ≡ true

  complete : (v : ℕ) → IsComplete (F v)
  complete v = of_next.complete m well_typed k stand v

  typed : (v : ℕ) → AreTyped (F v)
  typed v = of_next.typed m well_typed k stand v

  more : (n : List ℕ) → P n ≡ true → Q n ≡ true
  more n p = of_next.more m well_typed k stand n p

  abbrev owner : List ℕ
  owner = f.name.name

  owner_in : Q owner ≡ true
  owner_in = ap Q (of_next.again m well_typed k stand name (d.Function f) is) ∙ q

  named : item_named name K.whole.items ≡ Some (d.Function f)
  named = of_next.named m well_typed k stand name (d.Function f) is

  owner_named : item_named owner m.items ≡ Some (d.Function f)
  owner_named = subst (λ z. item_named z m.items ≡ Some (d.Function f)) (sym (of_next.again m well_typed k stand name (d.Function f) is)) is

  named_own : item_named owner K.whole.items ≡ Some (d.Function f)
  named_own = of_next.named m well_typed k stand owner (d.Function f) owner_named

  parts : of.FunctionParts T m f
  parts = of.function_parts T m f ((λ t. list_all (T owner) (mentions_of m (sym owner_named t))) ∙ of.own_settles m k owner owner_in)

  -- what longer chains say, and the types and values that they say over either
  long : FunctionAlike K (globals_over K) f
  long = (of_next.settle m well_typed k stand AsFunction name).function f (ap as_function named)

  short : (v : ℕ) → TypesAlike (globals_over K) (globals_over (F v)) owner
  short v = of_next.same_types m well_typed k stand v f owner_named owner_in

  -- ---- types and defaults of parametrics

  -- behind these values so much is bound, and these parametrics are left
  abbrev Here : List (Option DslxValue) → List Given → List Parametric → Type 0
  Here = of.Stands owner (d.Function f)

  parameter_of : (before : List (Option DslxValue)) (so_far : List Given) (p : Parametric) (ps : List Parametric) → Here before so_far (p ∷ ps) → G.parameter_in owner before ≡ typing_of_inner (item_type_env K owner so_far) p.ty
  parameter_of before so_far p ps h = alike.parameter before ∙ long.declared.parameter before ∙ of.parameter_is owner (d.Function f) before so_far p ps h K named_own

  parameter_type : (v : ℕ) (before : List (Option DslxValue)) (so_far : List Given) (p : Parametric) (ps : List Parametric) → Here before so_far (p ∷ ps)
      → (typing_of_inner (item_type_env K owner so_far) p.ty).ty ≡ (typing_of_inner (item_type_env (F v) owner so_far) p.ty).ty
  parameter_type v before so_far p ps h =
      let ty_of = λ (j : Judgement). j.ty in
      sym (ap ty_of (of.parameter_is owner (d.Function f) before so_far p ps h K named_own)) ∙ (short v).parameter before ∙ ap ty_of (of.parameter_is owner (d.Function f) before so_far p ps h (F v) named_own)

  default_of : (before : List (Option DslxValue)) (so_far : List Given) (p : Parametric) (ps : List Parametric) → Here before so_far (p ∷ ps) → G.default_in owner before ≡ default_if (item_type_env K owner so_far) p.default
  default_of before so_far p ps h = alike.default before ∙ long.declared.default before ∙ of.default_is owner (d.Function f) before so_far p ps h K named_own

  -- the signature of an instance
  signature_over : (v : ℕ) (parametric_args : List DslxValue) → length parametric_args ≡ length f.parametrics
      → signature_at G owner parametric_args ≡ signature_of (item_type_env (F v) owner (parametric_args_bound [] f.parametrics parametric_args)) (Some (d.Function f))
  signature_over v parametric_args many =
      let values = values_behind [] parametric_args in
      let there : item_named owner G.whole.items ≡ Some (d.Function f) = (λ i. item_named owner (sym s.known.whole i).items) ∙ named_own in
      let here = of.of_all K owner (d.Function f) parametric_args named_own many in
      alike.signature values (of.of_all G owner (d.Function f) parametric_args there many) ∙ long.declared.signature values here ∙ (short v).signature values here ∙ of.signature_is owner (d.Function f) parametric_args (F v) named_own

  -- ---- parts that break no rule

  -- behind parametrics of these names, which have these values
  record Left (names : List (List ℕ)) (so_far : List Given) (ps : List Parametric) : Type 0 where
    given : AllGiven names so_far
    covers : of.Covers names so_far []
    mentions : AllReached (parametrics_mentions ps names)

  left_more : (names : List (List ℕ)) (so_far : List Given) (p : Parametric) (ps : List Parametric) → Left names so_far (p ∷ ps) → (x : DslxValue) → Left (p.name.name ∷ names) (with_number so_far p x) ps
  left_more names so_far p ps l x = record {
    given = ((x, given_here p.name.name x so_far), given_more names p.name.name x so_far l.given);
    covers = of.covers_given names so_far [] p x l.covers;
    mentions = (den_parts (T owner) m (mentioned_in_type p.ty names ++ expr_if p.default names) (parametrics_mentions ps (p.name.name ∷ names)) l.mentions).1;
  }

  first_reached : (names : List (List ℕ)) (so_far : List Given) (p : Parametric) (ps : List Parametric) → Left names so_far (p ∷ ps) → AllReached (mentioned_in_type p.ty names) × AllReached (expr_if p.default names)
  first_reached names so_far p ps l =
      den_parts (T owner) m (mentioned_in_type p.ty names) (expr_if p.default names)
      (den_parts (T owner) m (mentioned_in_type p.ty names ++ expr_if p.default names) (parametrics_mentions ps (p.name.name ∷ names)) l.mentions).0

  given_there : (names : List (List ℕ)) (so_far : List Given) → AllGiven names so_far → of.AreBound names so_far []
  given_there [] so_far h name q = absurd (true≢false (sym q))
  given_there (n ∷ names) so_far h name q = by_name (bytes_eq name n) refl q (given_there names so_far h.1 name)
    where
      by_name : (b : Bool) → bytes_eq name n ≡ b → (if b then true else is_in name names) ≡ true → (is_in name names ≡ true → (is_there (given_in name so_far) || false) ≡ true) → (is_there (given_in name so_far) || false) ≡ true
      by_name true e g rest = ap (λ z. is_there (given_in z so_far) || false) ((bytes_eq-Decides name n).0 e) ∙ (λ i. is_there (h.0.1 i) || false)
      by_name false e g rest = rest g

  hidden : (v : ℕ) (names : List (List ℕ)) (so_far : List Given) → AllGiven names so_far → HiddenAlike names (item_type_env K owner so_far) (F v)
  hidden v names so_far h = of.hidden_behind P Q (λ z. P) m K (F v) (of_next.sight_low m well_typed k stand v) owner names so_far [] [] (given_there names so_far h)

  -- they mention what stands below
  type_den : (names : List (List ℕ)) (so_far : List Given) (p : Parametric) (ps : List Parametric) → Left names so_far (p ∷ ps) → has_broken (typing_of_type (item_type_env K owner so_far) p.ty).faults ≡ false → ExprDen (mentioned_in_type p.ty names)
  type_den names so_far p ps l w =
      of_next.stands_below m well_typed k stand owner (mentioned_in_type p.ty names) (first_reached names so_far p ps l).0
      (written_type_judged (uses_freely m owner) p.ty names (item_type_env K owner so_far) (stands m (2 * length m.items) owner names so_far (λ z g. (l.covers z g).0)) w)

  default_den : (names : List (List ℕ)) (so_far : List Given) (p : Parametric) (ps : List Parametric) → Left names so_far (p ∷ ps) → (x : Expr) → p.default ≡ Some x
      → has_broken (constant_of (item_type_env K owner so_far) (expr_pair x)).judgement.faults ≡ false → ExprDen (mentioned x names)
  default_den names so_far p ps l x e w =
      of_next.stands_below m well_typed k stand owner (mentioned x names) (subst (λ o. AllReached (expr_if o names)) e (first_reached names so_far p ps l).1)
      (constant_passes m (2 * length m.items) owner names so_far (λ z g. (l.covers z g).0) x w)

  parameter_over : (v : ℕ) (names : List (List ℕ)) (so_far : List Given) → AllGiven names so_far → (t : TypeExpr) → ExprDen (mentioned_in_type t names)
      → typing_of_inner (item_type_env K owner so_far) t ≡ typing_of_inner (item_type_env (F v) owner so_far) t
  parameter_over v names so_far h t e = of.inner_behind P Q (λ z. P) m K (F v) (of_next.sight_low m well_typed k stand v) owner owner_in names t e so_far [] [] (hidden v names so_far h)

  default_over : (v : ℕ) (names : List (List ℕ)) (so_far : List Given) → AllGiven names so_far → (x : Expr) → ExprDen (mentioned x names)
      → default_known (item_type_env K owner so_far) x ≡ default_known (item_type_env (F v) owner so_far) x
  default_over v names so_far h x e =
      let c = of.constant_behind P Q (λ z. P) m K (F v) (of_next.sight_low m well_typed k stand v) owner owner_in names x e so_far [] [] (hidden v names so_far h) in
      λ i. record { judgement = (c i).judgement; value = (c i).value }

  -- a part is judged with nothing wrong over either as it is by what passes
  well_typed_over : (v : ℕ) (j a b : Judgement) → j ≡ a → a ≡ b → AllNamed P a.reached → IsWellTypedPart G j → IsWellTypedPart (F v) b
  well_typed_over v j a b x y reached h = subst (IsWellTypedPart (F v)) y (record {
    faults = ap (λ (c : Judgement). c.faults) (sym x) ∙ h.faults;
    reached = sym (all_alike P K.is_sound (F v).is_sound (stage_filled m v k).known.sound a.reached reached)
        ∙ all_alike P K.is_sound G.is_sound (λ i p. s.known.sound i (more i.name p)) a.reached reached
        ∙ ap (λ (c : Judgement). list_all G.is_sound c.reached) (sym x) ∙ h.reached;
  })

  wider : (names : List (List ℕ)) → list_all P names ≡ true → list_all Q names ≡ true
  wider = all_weaker P Q more

  abbrev env_of : GlobalEnv → List Given → Env
  env_of known bound = record { items = known.items; bound = bound }

  same_written : (names : List (List ℕ)) (bound : List Given) → AllGiven names bound → (t : TypeExpr) → ExprDen (mentioned_in_type t names) → written_type t (env_of G bound) ≡ written_type t (env_of (F 1) bound)
  same_written names bound given t h =
      sym (written_type_depends t names (env_of K bound) (env_of G bound) (given_agree K.items G.items names bound given)
      (of.agreeing Q m K G (settles_closed m (suc k)) s (mentioned_in_type t names) (wider (names_mentioned m (mentioned_in_type t names)) h) bound))
      ∙ written_type_depends t names (env_of K bound) (env_of (F 1) bound) (given_agree K.items (F 1).items names bound given)
      (of.agreeing P m K (F 1) (settles_closed m k) (stage_filled m 1 k) (mentioned_in_type t names) h bound)

  same_value : (names : List (List ℕ)) (bound : List Given) → AllGiven names bound → (e : Expr) → ExprDen (mentioned e names) → value_of e (env_of G bound) ≡ value_of e (env_of (F 1) bound)
  same_value names bound given e h =
      sym (value_depends e names (env_of K bound) (env_of G bound) (given_agree K.items G.items names bound given)
      (of.agreeing Q m K G (settles_closed m (suc k)) s (mentioned e names) (wider (names_mentioned m (mentioned e names)) h) bound))
      ∙ value_depends e names (env_of K bound) (env_of (F 1) bound) (given_agree K.items (F 1).items names bound given)
      (of.agreeing P m K (F 1) (settles_closed m k) (stage_filled m 1 k) (mentioned e names) h bound)

  -- what is bound has values of types that both declare
  abbrev Bound : List Given → Type 0
  Bound so_far = AreOwn (types 1) so_far × AreOwn (types 2) so_far

  declared_one : (v : ℕ) (before : List (Option DslxValue)) (so_far : List Given) (p : Parametric) (ps : List Parametric) (t : DslxType) → AreOwn (types v) so_far → Here before so_far (p ∷ ps) → (G.parameter_in owner before).ty ≡ Some t
      → (written_type p.ty (env_of (F v) so_far) ≡ Some t) × IsDeclared (types v) t
  declared_one v before so_far p ps t own h e =
      (parametric_has_value (F v) (complete v) (typed v) owner p).means so_far t own (sym (parameter_type v before so_far p ps h) ∙ ap (λ (j : Judgement). j.ty) (sym (parameter_of before so_far p ps h)) ∙ e)

  moved : (v : ℕ) (t : DslxType) (x : DslxValue) → IsDeclared (types v) t → GivesOf next t (Some x) → GivesOf (types v) t (Some x)
  moved v t x h g = record { value = g.value; is = g.is; of = g.of; declared = h }

  behind : (before : List (Option DslxValue)) (so_far : List Given) (p : Parametric) (ps : List Parametric) (t : DslxType) (x : DslxValue) → Here before so_far (p ∷ ps) → Bound so_far
      → parametric_type G owner (known_before before) ≡ Some t → GivesOf next t (Some x) → Bound (with_number so_far p x)
  behind before so_far p ps t x h own e g =
      let there = parametric_is G owner before t e in
      let one = declared_one 1 before so_far p ps t own.0 h there in
      let two = declared_one 2 before so_far p ps t own.1 h there in (
        own_more (types 1) so_far p x own.0 (own_value (types 1) t (Some x) x refl (moved 1 t x one.1 g)),
        own_more (types 2) so_far p x own.1 (own_value (types 2) t (Some x) x refl (moved 2 t x two.1 g)),
      )

  type_reached : (names : List (List ℕ)) (so_far : List Given) (t : TypeExpr) → ExprDen (mentioned_in_type t names) → AllNamed P (typing_of_inner (item_type_env K owner so_far) t).reached
  type_reached names so_far t h = written_type_reaches P t names (item_type_env K owner so_far) ((stage_filled m 1 k).reach owner (mentioned_in_type t names) h)

  default_reached_of : (names : List (List ℕ)) (so_far : List Given) (x : Expr) → ExprDen (mentioned x names) → AllNamed P (default_known (item_type_env K owner so_far) x).judgement.reached
  default_reached_of names so_far x h = default_reached P (item_type_env K owner so_far) (Some x) names ((stage_filled m 1 k).reach owner (mentioned x names) h) x refl

  default_both : (seen one two : DefaultSeen) → seen ≡ one → seen ≡ two → IsDefaultKnown (types 1) one → IsDefaultKnown (types 2) two → IsDefaultKnown next seen
  default_both seen one two x y a b =
      let same : b.value ≡ a.value = same_some b.value a.value (sym b.is ∙ ap (λ (c : DefaultSeen). c.value) (sym y ∙ x) ∙ a.is) in
      record {
        value = a.value;
        is = ap (λ (c : DefaultSeen). c.value) x ∙ a.is;
        typed = ap (λ (c : DefaultSeen). c.judgement.ty) x ∙ a.typed;
        own = record {
          value = a.own.value;
          is = a.own.is;
          of = a.own.of;
          declared = carry (type_of_value a.value) a.own.declared (subst (λ v. IsDeclared (types 2) (type_of_value v)) same b.own.declared);
        };
      }

  -- ---- all parametrics

  abbrev Both : List (Option DslxValue) → List Given → List Parametric → Type 0
  Both before so_far ps = ParametricsMean G G.items owner before so_far ps × EachParametricKnown G owner before ps

  one_known : (names : List (List ℕ)) (before : List (Option DslxValue)) (so_far : List Given) (p : Parametric) (ps : List Parametric) → Left names so_far (p ∷ ps) → Bound so_far → Here before so_far (p ∷ ps)
      → ParametricMeans G G.items owner before so_far p × IsParametricKnown G owner before p
  one_known names before so_far p ps l own a = (means, globals_of_it)
    where
      here : TypeEnv
      here = item_type_env K owner so_far

      default_by : GlobalEnv → Option Expr → DefaultSeen
      default_by known o = default_if (item_type_env known owner so_far) o

      at : (x : Expr) → p.default ≡ Some x → G.default_in owner before ≡ default_known here x
      at x e = default_of before so_far p ps a ∙ ap (default_by K) e

      shown : (v : ℕ) → Expr → DefaultSeen
      shown v x = default_known (item_type_env (F v) owner so_far) x

      first : ParametricHasValue (F 1) owner p
      first = parametric_has_value (F 1) (complete 1) (typed 1) owner p

      second : ParametricHasValue (F 2) owner p
      second = parametric_has_value (F 2) (complete 2) (typed 2) owner p

      means : ParametricMeans G G.items owner before so_far p
      means = record {
        types = λ t e.
            let there = ap (λ (j : Judgement). j.ty) (sym (parameter_of before so_far p ps a)) ∙ e in
            same_written names so_far l.given p.ty (type_den names so_far p ps l (typed_is_whole here p.ty t there)) ∙ (declared_one 1 before so_far p ps t own.0 a e).0;
        defaults = λ x v e z.
            let value = λ (c : DefaultSeen). c.value in
            let den = default_den names so_far p ps l x e (valued_is_whole here (expr_pair x) v (sym (ap value (at x e)) ∙ z)) in
            same_value names so_far l.given x den ∙ first.default_means so_far x v (sym (ap value (at x e ∙ default_over 1 names so_far l.given x den)) ∙ z);
      }

      globals_of_it : IsParametricKnown G owner before p
      globals_of_it = record {
        declared = λ t e. carry t (declared_one 1 before so_far p ps t own.0 a e).1 (declared_one 2 before so_far p ps t own.1 a e).1;
        typed = λ z.
            let none = ap has_broken (ap (λ (j : Judgement). j.faults) (sym (parameter_of before so_far p ps a)) ∙ z.faults) in
            let den = type_den names so_far p ps l (front (typing_of_type here p.ty).faults _ none) in
            let same = parameter_over 1 names so_far l.given p.ty den in
            let r = first.typed so_far own.0 (well_typed_over 1 (G.parameter_in owner before) (typing_of_inner here p.ty) (typing_of_inner (item_type_env (F 1) owner so_far) p.ty) (parameter_of before so_far p ps a) same (type_reached names so_far p.ty den) z) in
            (r.0, ap (λ (j : Judgement). j.ty) (parameter_of before so_far p ps a ∙ same) ∙ r.1, r.2);
        narrow = λ z t e.
            let there = sym (parameter_of before so_far p ps a) in
            (type_has_den p.ty).narrow here (none_in (typing_of_type here p.ty).faults _ (ap (λ (j : Judgement). j.faults) there ∙ z)).0 t (ap (λ (j : Judgement). j.ty) there ∙ e);
        default = λ x e z.
            let seen = λ (c : DefaultSeen). c.judgement in
            let den = default_den names so_far p ps l x e (ap has_broken (ap (λ (c : DefaultSeen). c.judgement.faults) (sym (at x e)) ∙ z.faults)) in
            let to = λ (v : ℕ). default_over v names so_far l.given x den in
            let reached = default_reached_of names so_far x den in
            default_both (G.default_in owner before) (shown 1 x) (shown 2 x) (at x e ∙ to 1) (at x e ∙ to 2)
            (first.default so_far x own.0 (well_typed_over 1 (G.default_in owner before).judgement (default_known here x).judgement (shown 1 x).judgement (ap seen (at x e)) (ap seen (to 1)) reached z))
            (second.default so_far x own.1 (well_typed_over 2 (G.default_in owner before).judgement (default_known here x).judgement (shown 2 x).judgement (ap seen (at x e)) (ap seen (to 2)) reached z));
      }

  parametric_args_known : (names : List (List ℕ)) (before : List (Option DslxValue)) (so_far : List Given) (ps : List Parametric) → Left names so_far ps → Bound so_far → Here before so_far ps → Both before so_far ps
  parametric_args_known names before so_far [] l own a = (tt, tt)
  parametric_args_known names before so_far (p ∷ ps) l own a =
      let it = one_known names before so_far p ps l own a in
      let rest = λ (t : DslxType) (x : DslxValue) (e : parametric_type G owner (known_before before) ≡ Some t) (g : GivesOf next t (Some x)).
      parametric_args_known (p.name.name ∷ names) (Some x ∷ before) (with_number so_far p x) ps (left_more names so_far p ps l x) (behind before so_far p ps t x a own e g)
      (of.stands_next owner (d.Function f) before so_far p ps x a) in
      ((it.0, λ t x e g. (rest t x e g).0), (it.1, λ t x e g. (rest t x e g).1))

  own_both : (before : List (Option DslxValue)) (so_far : List Given) → Bound so_far → (ps : List Parametric) → Here before so_far ps → (parametric_args : List DslxValue) → FitParametricArgs G owner before ps parametric_args
      → AllOwn (types 1) parametric_args × AllOwn (types 2) parametric_args
  own_both before so_far own [] a [] h = (tt, tt)
  own_both before so_far own [] a (x ∷ xs) h = absurd h
  own_both before so_far own (p ∷ ps) a [] h = absurd h
  own_both before so_far own (p ∷ ps) a (x ∷ xs) h =
      let there = parametric_is G owner before h.0.0 h.0.1 in
      let one = declared_one 1 before so_far p ps h.0.0 own.0 a there in
      let two = declared_one 2 before so_far p ps h.0.0 own.1 a there in
      let rest = own_both (Some x ∷ before) (with_number so_far p x) (behind before so_far p ps h.0.0 x a own h.0.1 h.0.2) ps (of.stands_next owner (d.Function f) before so_far p ps x a) xs h.1 in (
        (own_value (types 1) h.0.0 (Some x) x refl (moved 1 h.0.0 x one.1 h.0.2), rest.0),
        (own_value (types 2) h.0.0 (Some x) x refl (moved 2 h.0.0 x two.1 h.0.2), rest.1),
      )

  -- ---- arguments

  abbrev as_parametric : Field → Parametric
  as_parametric x = record { name = x.name; ty = x.ty; default = None }

  -- the types of arguments, over either
  abbrev argument_types : ℕ → List Given → List Field → List (Option DslxType)
  argument_types v bound fs = map (λ (a : Field). declared_type (item_type_env (F v) owner bound) a.ty) fs

  argument_declared : (v : ℕ) (bound : List Given) (x : Field) (t : DslxType) → AreOwn (types v) bound → declared_type (item_type_env (F v) owner bound) x.ty ≡ Some t → IsDeclared (types v) t
  argument_declared v bound x t own e =
      ((parametric_has_value (F v) (complete v) (typed v) owner (as_parametric x)).means bound t own (not_unit_is (typing_of_type (item_type_env (F v) owner bound) x.ty).ty t e)).1

  abbrev behind_first : List (Option DslxType) → List (Option DslxType)
  behind_first [] = []
  behind_first (t ∷ ts) = ts

  arguments_known : (bound : List Given) → Bound bound → (fs : List Field) → argument_types 1 bound fs ≡ argument_types 2 bound fs → EachArgumentDeclared next (argument_types 1 bound fs) fs
  arguments_known bound own [] a = tt
  arguments_known bound own (x ∷ fs) a = (
    (λ t e. carry t (argument_declared 1 bound x t own.0 e) (argument_declared 2 bound x t own.1 (sym (ap first_type_of a) ∙ e))),
    arguments_known bound own fs (ap behind_first a),
  )

  operands_from : (bound : List Given) → Bound bound → (before : List (List ℕ)) (fs : List Field) → IsWellTypedFound (F 1) (arguments_found (item_type_env (F 1) owner bound) before fs) → (vs : List DslxValue)
      → FitArguments next (argument_types 1 bound fs) vs → AreOperandsOf (item_type_env (F 1) owner bound) fs vs
  operands_from bound own before [] h [] g = tt
  operands_from bound own before [] h (v ∷ vs) g = absurd g
  operands_from bound own before (x ∷ fs) h [] g = absurd g
  operands_from bound own before (x ∷ fs) h (v ∷ vs) g =
      let context = item_type_env (F 1) owner bound in
      let j = typing_of_inner context x.ty in
      let rest = arguments_found context (x.name.name ∷ before) fs in
      let listed = none_in (local_name context before x.name) (j.faults ++ rest.faults) h.faults in
      let both = none_in j.faults rest.faults listed.1 in
      let reached = all_in (F 1).is_sound j.reached rest.reached h.reached in
      let r = inner_globals (F 1) (complete 1) (typed 1) owner bound own.0 (as_parametric x) (record { faults = both.0; reached = reached.0 }) in
      let declared = ap unless_unit r.1 ∙ (λ i. if (r.2 i) then None else Some r.0) in (
        (r.0, r.1, moved 1 r.0 v (argument_declared 1 bound x r.0 own.0 declared) (g.0 r.0 declared)),
        operands_from bound own (x.name.name ∷ before) fs (record { faults = both.1; reached = reached.1 }) vs g.1,
      )

  -- ---- instances

  none_bound : Bound []
  none_bound = (none_own (F 1), none_own (F 2))

  all_left : Here [] [] f.parametrics
  all_left = of.stands_first owner (d.Function f)

  bound_both : (parametric_args : List DslxValue) → FitParametricArgs G owner [] f.parametrics parametric_args → Bound (parametric_args_bound [] f.parametrics parametric_args)
  bound_both parametric_args fit =
      let own = own_both [] [] none_bound f.parametrics all_left parametric_args fit in
      (own_bound (types 1) [] f.parametrics parametric_args (none_own (F 1)) own.0, own_bound (types 2) [] f.parametrics parametric_args (none_own (F 2)) own.1)

  result_is : (v : ℕ) (parametric_args : List DslxValue) → length parametric_args ≡ length f.parametrics → (signature_at G owner parametric_args).result ≡ (result_typing (item_type_env (F v) owner (parametric_args_bound [] f.parametrics parametric_args)) f.result).ty
  result_is v parametric_args many = ap (λ (x : Signature). x.result) (signature_over v parametric_args many)

  arguments_are : (v : ℕ) (parametric_args : List DslxValue) → length parametric_args ≡ length f.parametrics → (signature_at G owner parametric_args).arguments ≡ argument_types v (parametric_args_bound [] f.parametrics parametric_args) f.arguments
  arguments_are v parametric_args many = ap (λ (x : Signature). x.arguments) (signature_over v parametric_args many)

  nothing_in : {A : Type 0} (xs : List A) → is_empty xs ≡ true → xs ≡ []
  nothing_in [] e = refl
  nothing_in (x ∷ xs) e = absurd (true≢false (sym e))

  abbrev instance_of : List DslxValue → Instance
  instance_of parametric_args = record { name = owner; parametric_args = parametric_args }

  sound_here : (parametric_args : List DslxValue) → G.is_sound (instance_of parametric_args) ≡ true → sound_instance K (instance_of parametric_args) ≡ true
  sound_here parametric_args e =
      let same : 2 * length m.items ≤ 2 * length m.items = omega arith in
      let longer : 2 * length m.items ≤ suc (2 * length m.items) = omega arith in
      sym (of.instances_settle m (2 * length m.items) (suc (2 * length m.items)) same longer (instance_of parametric_args) f (ap as_function owner_named)).0
      ∙ s.known.sound (instance_of parametric_args) owner_in ∙ e

  -- an instance that is sound doesn't reach itself
  free_here : (parametric_args : List DslxValue) → G.is_sound (instance_of parametric_args) ≡ true → item_reaches m owner owner ≡ false
  free_here parametric_args e = by_loop (item_reaches m owner owner) refl
    where
      whole : (found_of_instance K (instance_of parametric_args)).faults ≡ []
      whole =
          let found = found_of_instance K (instance_of parametric_args) in
          nothing_in found.faults (of.and_both (is_empty found.faults) (list_all K.is_sound found.reached) (sound_here parametric_args e)).0

      by_loop : (b : Bool) → item_reaches m owner owner ≡ b → item_reaches m owner owner ≡ false
      by_loop true r = absurd (true≢false (sym (instance_broken m (2 * length m.items) (instance_of parametric_args) f owner_named r) ∙ ap has_broken whole))
      by_loop false r = r

  own_here : (parametric_args : List DslxValue) → G.is_sound (instance_of parametric_args) ≡ true → list_all P (mentions_of m (item_named owner m.items)) ≡ true
  own_here parametric_args e = of.settles_next m k owner owner_in (free_here parametric_args e)

  parts_below : (parametric_args : List DslxValue) → G.is_sound (instance_of parametric_args) ≡ true → of.FunctionParts (λ z. P) m f
  parts_below parametric_args e = of.function_parts (λ z. P) m f ((λ t. list_all P (mentions_of m (sym owner_named t))) ∙ own_here parametric_args e)

  over : (v : ℕ) (parametric_args : List DslxValue) → G.is_sound (instance_of parametric_args) ≡ true → CalleeAlike (globals_over K) (globals_over (F v)) name
  over v parametric_args e =
      of.uses_over P (of.mentions_pass P m) (λ z. P) m K (F v) (sight_filled m v k) (λ z g. g) AsFunction name
      (λ u. subst (λ z. of.mentions_pass P m z ≡ true) (of_next.again m well_typed k stand name (d.Function f) is) (own_here parametric_args e))

  sound : (v : ℕ) (parametric_args : List DslxValue) → G.is_sound (instance_of parametric_args) ≡ true → sound_instance K (instance_of parametric_args) ≡ sound_instance (F v) (instance_of parametric_args)
  sound v parametric_args e =
      let R = of.mentions_pass P m in
      (of.globals_over_alike P R (λ z. P) m K (F v) (sight_filled m v k) (λ z g. g) (stage_filled m v k).reached (of.unless_proc R m)
      (λ z g. let r = of.and_both (R z) (not (of.is_proc_item (item_named z m.items))) g in (r.0, of.not_true (of.is_proc_item (item_named z m.items)) r.1))).sound
      (instance_of parametric_args) (λ t. own_here parametric_args e t && not (of.is_proc_item (owner_named t)))

  instance_well_typed : (v : ℕ) (parametric_args : List DslxValue) → G.is_sound (instance_of parametric_args) ≡ true → IsWellTypedFound (F v) (function_seen (F v) f parametric_args).found
  instance_well_typed v parametric_args e =
      let found = found_of_instance (F v) (instance_of parametric_args) in
      let both = of.and_both (is_empty found.faults) (list_all (F v).is_sound found.reached) (sym (sound v parametric_args e) ∙ sound_here parametric_args e) in
      let here : item_named owner K.whole.items ≡ Some (d.Function f) = of_next.named m well_typed k stand owner (d.Function f) owner_named in
      subst (IsWellTypedFound (F v)) (ap (found_of_item (F v) parametric_args) here) (record { faults = nothing_in found.faults both.0; reached = both.1 })

  arguments_well_typed : (parametric_args : List DslxValue) → G.is_sound (instance_of parametric_args) ≡ true → IsWellTypedFound (F 1) (arguments_found (function_type_env (F 1) f parametric_args) [] f.arguments)
  arguments_well_typed parametric_args e =
      let h = instance_well_typed 1 parametric_args e in
      let context = function_type_env (F 1) f parametric_args in
      let parametrics = parametrics_found (F 1) owner [] [] f.parametrics parametric_args in
      let arguments = arguments_found context [] f.arguments in
      let result = result_typing context f.result in
      let body = body_typing false (record context { locals = arguments_typed context [] f.arguments }) result.ty f.body in
      let a = none_in parametrics.faults (arguments.faults ++ (result.faults ++ body.faults)) h.faults in
      let b = none_in arguments.faults (result.faults ++ body.faults) a.1 in
      let p = all_in (F 1).is_sound parametrics.reached (arguments.reached ++ (result.reached ++ body.reached)) h.reached in
      let r = all_in (F 1).is_sound arguments.reached (result.reached ++ body.reached) p.1 in
      record { faults = b.0; reached = r.0 }

  loops : (parametric_args : List DslxValue) → G.is_sound (instance_of parametric_args) ≡ true → item_reaches K.whole name name ≡ false
  loops parametric_args e =
      (λ i. item_reaches (of_next.text m well_typed k stand i) name name) ∙ subst (λ z. item_reaches m z z ≡ false) (of_next.again m well_typed k stand name (d.Function f) is) (free_here parametric_args e)

  -- a call is of the instance
  call_is : (parametric_args given operands : List DslxValue) → G.is_sound (instance_of parametric_args) ≡ true → all_parametric_args G.items (inferred_from f.arguments (map type_of_value operands)) [] f.parametrics given ≡ Some parametric_args
      → G.items.call name given operands ≡ function_value (F 1).items f parametric_args operands
  call_is parametric_args given operands e h =
      let inferred = inferred_from f.arguments (map type_of_value operands) in
      let ms = parametrics_mentions f.parametrics [] in
      let one = parametric_args_one K.items (F 1).items inferred [] [] tt f.parametrics given (of.agreeing P m K (F 1) (settles_closed m k) (stage_filled m 1 k) ms (parts_below parametric_args e).parametrics) in
      let two = parametric_args_one K.items G.items inferred [] [] tt f.parametrics given (of.agreeing Q m K G (settles_closed m (suc k)) s ms (wider (names_mentioned m ms) (parts_below parametric_args e).parametrics)) in
      sym ((s.uses AsFunction name (λ e. q)).call given operands)
      ∙ (of_next.settle m well_typed k stand AsFunction name).call given operands
      ∙ (over 1 parametric_args e).call given operands
      ∙ ap (λ loops. call_unless loops (and_then (as_function (item_named name K.whole.items)) (λ g. call_of (F 1).items g given operands))) (loops parametric_args e)
      ∙ ap (λ o. and_then (as_function o) (λ g. call_of (F 1).items g given operands)) named
      ∙ ap (λ o. and_then o (λ ns. function_value (F 1).items f ns operands)) (sym one ∙ two ∙ h)

  -- so is the size of its body
  size_is : (parametric_args : List DslxValue) → length parametric_args ≡ length f.parametrics → G.is_sound (instance_of parametric_args) ≡ true → G.body_size (instance_of parametric_args) ≡ (function_seen (F 1) f parametric_args).body.size
  size_is parametric_args many e =
      let here : item_named owner K.whole.items ≡ Some (d.Function f) = of_next.named m well_typed k stand owner (d.Function f) owner_named in
      sym (((s.uses AsFunction name (λ e. q)).function f (ap as_function named)).size parametric_args many) ∙ long.size parametric_args many ∙ ((over 1 parametric_args e).function f (ap as_function named)).size parametric_args many ∙ ap (λ o. size_known (F 1) parametric_args (as_function o)) here

  callable : (parametric_args : List DslxValue) → FitParametricArgs G owner [] f.parametrics parametric_args → G.is_sound (instance_of parametric_args) ≡ true → IsCallable G f name parametric_args
  callable parametric_args fit e =
      let bound = parametric_args_bound [] f.parametrics parametric_args in
      let many = of.fit_many G owner [] f.parametrics parametric_args fit in
      let own = own_both [] [] none_bound f.parametrics all_left parametric_args fit in
      let one = instance_has_value (F 1) (complete 1) (typed 1) f parametric_args own.0 (instance_well_typed 1 parametric_args e) in
      let two = instance_has_value (F 2) (complete 2) (typed 2) f parametric_args own.1 (instance_well_typed 2 parametric_args e) in
      let same = same_some two.result one.result (sym two.typed ∙ sym (result_is 2 parametric_args many) ∙ result_is 1 parametric_args many ∙ one.typed) in
      let declared = carry one.result one.declared (subst (IsDeclared (types 2)) same two.declared) in
      let operands_of = λ (operands : List DslxValue) (fits : FitArguments next (signature_at G owner parametric_args).arguments operands).
      operands_from bound (bound_both parametric_args fit) [] f.arguments (arguments_well_typed parametric_args e) operands (subst (λ ts. FitArguments next ts operands) (arguments_are 1 parametric_args many) fits) in
      record {
        result = one.result;
        typed = result_is 1 parametric_args many ∙ one.typed;
        gives = λ given operands h fits.
            let g = one.gives operands (operands_of operands fits) in
            record { value = g.value; is = call_is parametric_args given operands e h ∙ g.is; of = g.of; declared = declared };
        sized = λ operands fits.
            let n = one.sized operands (operands_of operands fits) in
            (n.0, size_is parametric_args many e ∙ n.1);
      }

  pub function_next : IsFunctionKnown G name f
  function_next =
      let both = parametric_args_known [] [] [] f.parametrics (record { given = tt; covers = λ z g. (refl, refl); mentions = parts.parametrics }) none_bound all_left in
      record {
        mean = both.0;
        parametrics = both.1;
        arguments = λ parametric_args fit.
            let bound = parametric_args_bound [] f.parametrics parametric_args in
            let many = of.fit_many G owner [] f.parametrics parametric_args fit in
            subst (λ ts. EachArgumentDeclared next ts f.arguments) (sym (arguments_are 1 parametric_args many))
            (arguments_known bound (bound_both parametric_args fit) f.arguments (sym (arguments_are 1 parametric_args many) ∙ arguments_are 2 parametric_args many));
        calls = λ parametric_args fit e. callable parametric_args fit e;
      }
