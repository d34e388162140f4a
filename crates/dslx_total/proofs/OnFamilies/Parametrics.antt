-- Parametrics of procs: what is known of their types and defaults is what is meant, and where nothing is wrong with them they
-- are known.
use Rattle.std.proofs.Common.{◌*◌, ◌≡◌, ◌≤◌, ◌++◌, ℕ, zero, suc, length, Bool, true, not, List, [], ◌∷◌, map, Option, Some, None, arith, refl, sym, ap, subst, ◌∙◌, false}
use mathlib.Core.Bool.{true≢false}
use Rattle.std.specs.List.{list_all}
use Rattle.dslx_tree.specs.declared.expr.Expr.{Expr}
use Rattle.dslx_tree.specs.declared.item.Definition.{Definition}
use Rattle.dslx_tree.specs.declared.item.Definition.TheVariants as d
use Rattle.dslx_tree.specs.declared.item.Module.{Module}
use Rattle.dslx_tree.specs.declared.item.Parametric.{Parametric}
use Rattle.dslx_tree.specs.declared.type_expr.TypeExpr.{TypeExpr}
use Rattle.dslx_tree.specs.declared.process.End.{End}
use Rattle.dslx_tree.specs.declared.process.Proc.{Proc}
use Rattle.dslx_meaning.specs.Environment.{Given}
use Rattle.dslx_meaning.specs.Items.{item_named, parametric_args_bound, with_number}
use Rattle.dslx_meaning.specs.declared.value.DslxValue.{DslxValue}
use Rattle.dslx_meaning.specs.Rules.TypeEnvs.{DefaultSeen, Judgement, GlobalEnv, Signature}
use Rattle.dslx_meaning.specs.Rules.ItemRules.{item_type_env, typing_of_inner, typing_of_type}
use Rattle.dslx_meaning.specs.Rules.Mentions.{AsEnum, AsValue, Mention, ends_mentions, expr_if, is_of_use, item_reaches, mentioned, mentioned_in_type, names_mentioned, parametric_names, parametrics_mentions}
use Rattle.dslx_meaning.specs.Rules.ModuleRules.{declared_type, default_if, default_known, globals_of, globals_over, globals_within, parametrics_of}
use Rattle.dslx_meaning.specs.Rules.TypeRules.{unless_unit}
use Rattle.dslx_meaning.specs.Rules.NodeRules.{expr_pair, type_pair}
use Rattle.dslx_core.specs.Typing.TypingRelations.Reached.{DeclarationReaches, IsClosed, MentionsReach}
use Rattle.dslx_core.proofs.Lemmas.Typing.TypingRelations.{den_reach, own_reached, parametrics_reach, whole_is}
use Rattle.dslx_core.specs.Typing.Depends.Alike.{DeclaredAlike, NamesAlike, SeesAlike}
use Rattle.dslx_core.proofs.Lemmas.Typing.Depends.{Stage, Stands, declared_alike, default_is, env_behind, of_all, parameter_is, sees_from, signature_is, stands_next, constant_alike, constant_same, expression_alike, inner_same, all_below, every_item_settles, is_proc_item, item_rank, den_parts, mentions_pass, mentions_settle, not_true, parametrics_none, proc_below, ranked, ranks_settle, settles, settles_closed, settles_next, stage_sight, sees_where, uses_over, written_type_alike}
use Rattle.dslx_core.specs.Typing.Typed.Complete.{EachParametricKnown, IsComplete, IsDefaultKnown, IsWellTypedPart, IsTypeKnown, signature_at}
use Rattle.dslx_core.specs.Typing.Typed.Numbers.{AreOwn, ParametricsMean, values_behind}
use Rattle.dslx_core.proofs.Lemmas.Typing.Sound.{none_in, type_has_den}
use Rattle.dslx_core.proofs.Lemmas.Typing.Typed.{own_more, own_value}
use Rattle.dslx_core.specs.Typing.Complete.HasValue.{AreTyped}
use Rattle.dslx_core.proofs.Lemmas.Typing.Complete.{parametric_has_value}
use Rattle.dslx_total.proofs.OnFamilies.Reached.{IsProcOf, ProcWithin, ends_none, proc_within}

-- the types of the words of ends that are known for instances of a proc are what they are typed to in its text
pub ends_typed : (known : GlobalEnv) (p : Proc) → item_named p.name.name known.whole.items ≡ Some (d.Proc p) → DeclaredAlike known (globals_over known) p.name.name → (parametric_args : List DslxValue) → length parametric_args ≡ length p.parametrics
    → (signature_at known p.name.name parametric_args).arguments ≡ map (λ (e : End). declared_type (item_type_env known p.name.name (parametric_args_bound [] p.parametrics parametric_args)) e.word) p.config.ends
ends_typed known p here alike parametric_args many = ap (λ (x : Signature). x.arguments) (alike.signature (values_behind [] parametric_args) (of_all known p.name.name (d.Proc p) parametric_args here many) ∙ signature_is p.name.name (d.Proc p) parametric_args known here)

-- ---- constants

-- an item that reaches itself has no value, however long chains of items are
abbrev pub LoopsHaveNoValue : Module → Type 0
LoopsHaveNoValue m = (name : List ℕ) → item_reaches m name name ≡ true → (n : ℕ) → (globals_within m n).items.constant name ≡ None

-- a constant has one value by chains of as many items as there are and of one less, whatever binds its name
module _ (m : Module) (loops : LoopsHaveNoValue m) (k : ℕ) (many : length m.items ≡ suc k) where
  abbrev first : GlobalEnv
  first = globals_within m (2 * k)

  abbrev second : GlobalEnv
  second = globals_within m (suc (2 * k))

  abbrev Below : List ℕ → Bool
  Below = settles m k

  settled : Stage Below m first second
  settled =
      let least : 2 * k ≤ 2 * k = omega arith in
      let more : 2 * k ≤ suc (2 * k) = omega arith in
      ranks_settle m k (2 * k) (suc (2 * k)) least more

  ranks_below : (name : List ℕ) → item_reaches m name name ≡ false → is_of_use AsValue (item_named name m.items) ≡ true → mentions_pass Below m name ≡ true
  ranks_below name free e = settles_next m k name (subst (λ n. settles m n name ≡ true) many (by_item (item_named name m.items) refl e)) free
    where
      by_item : (o : Option Definition) → item_named name m.items ≡ o → is_of_use AsValue o ≡ true → settles m (length m.items) name ≡ true
      by_item (Some (d.Constant c)) q h = every_item_settles m name (d.Constant c) q refl
      by_item (Some (d.Function f)) q h = absurd (true≢false (sym h))
      by_item (Some (d.Proc p)) q h = absurd (true≢false (sym h))
      by_item (Some (d.Alias x)) q h = absurd (true≢false (sym h))
      by_item (Some (d.Struct x)) q h = absurd (true≢false (sym h))
      by_item (Some (d.Enum x)) q h = absurd (true≢false (sym h))
      by_item None q h = absurd (true≢false (sym h))

  constant_settles : (name : List ℕ) → (globals_within m (suc (2 * k))).items.constant name ≡ (globals_within m (suc (suc (2 * k)))).items.constant name
  constant_settles name = by_loop (item_reaches m name name) refl
    where
      by_loop : (b : Bool) → item_reaches m name name ≡ b → (globals_within m (suc (2 * k))).items.constant name ≡ (globals_within m (suc (suc (2 * k)))).items.constant name
      by_loop true q = loops name q (suc (2 * k)) ∙ sym (loops name q (suc (suc (2 * k))))
      by_loop false q =
          uses_over Below (mentions_pass Below m) (λ owner. Below) m first second (stage_sight Below m first second (settles_closed m k) settled) (λ owner h. h) AsValue name (ranks_below name q)

  names_settle : (names : List (List ℕ)) → NamesAlike (globals_within m (suc (2 * k))) (globals_within m (suc (suc (2 * k)))) names
  names_settle [] = tt
  names_settle (n ∷ ns) = (constant_settles n, names_settle ns)

-- ---- where both have the same of what is mentioned

no_proc_enum : (o : Option Definition) → is_of_use AsEnum o ≡ true → not (is_proc_item o) ≡ true
no_proc_enum (Some (d.Enum x)) e = refl
no_proc_enum (Some (d.Function f)) e = refl
no_proc_enum (Some (d.Proc p)) e = absurd (true≢false (sym e))
no_proc_enum (Some (d.Constant c)) e = refl
no_proc_enum (Some (d.Alias a)) e = refl
no_proc_enum (Some (d.Struct x)) e = refl
no_proc_enum None e = refl

module _ (P : List ℕ → Bool) (m : Module) (a b : GlobalEnv) (closed : IsClosed P m) (there : Stage P m a b) (owner : List ℕ)
    (enums : (name : List ℕ) → item_reaches a.whole owner name ≡ true → is_of_use AsEnum (item_named name m.items) ≡ true → P name ≡ true) where
  abbrev ExprDen : List Mention → Type 0
  ExprDen ms = list_all P (names_mentioned m ms) ≡ true

  -- the enums that the item reaches pass
  sees : (bound : List (List ℕ)) → NamesAlike a b bound → (ms : List Mention) → ExprDen ms → SeesAlike P bound owner a b ms
  sees = sees_where P m a b closed there owner enums

  -- parametrics that are left behind these names, and what they mention
  record LeftAlike (bound : List (List ℕ)) (left : List Parametric) : Type 0 where
    hidden : NamesAlike a b bound
    others : NamesAlike a b (parametric_names left)
    mentions : ExprDen (parametrics_mentions left bound)

  left_next : (bound : List (List ℕ)) (p : Parametric) (ps : List Parametric) → LeftAlike bound (p ∷ ps) → LeftAlike (p.name.name ∷ bound) ps
  left_next bound p ps h = record {
    hidden = (h.others.0, h.hidden);
    others = h.others.1;
    mentions = (den_parts P m (mentioned_in_type p.ty bound ++ expr_if p.default bound) (parametrics_mentions ps (p.name.name ∷ bound)) h.mentions).1;
  }

  -- the first one's type and default
  first_den : (bound : List (List ℕ)) (p : Parametric) (ps : List Parametric) → LeftAlike bound (p ∷ ps) → ExprDen (mentioned_in_type p.ty bound) × ExprDen (expr_if p.default bound)
  first_den bound p ps h =
      den_parts P m (mentioned_in_type p.ty bound) (expr_if p.default bound) (den_parts P m (mentioned_in_type p.ty bound ++ expr_if p.default bound) (parametrics_mentions ps (p.name.name ∷ bound)) h.mentions).0

  type_alike : (bound : List (List ℕ)) → NamesAlike a b bound → (t : TypeExpr) → ExprDen (mentioned_in_type t bound) → (given : List Given) (unknown : List (List ℕ))
      → typing_of_type (env_behind a owner given unknown) t ≡ typing_of_type (env_behind b owner given unknown) t
  type_alike bound n t h given unknown = written_type_alike P t bound (env_behind a owner given unknown) b (sees_from P bound (env_behind a owner given unknown) b (mentioned_in_type t bound) (sees bound n (mentioned_in_type t bound) h))

  default_alike : (bound : List (List ℕ)) → NamesAlike a b bound → (o : Option Expr) → ExprDen (expr_if o bound) → (given : List Given) (unknown : List (List ℕ))
      → default_if (env_behind a owner given unknown) o ≡ default_if (env_behind b owner given unknown) o
  default_alike bound n None h given unknown = refl
  default_alike bound n (Some e) h given unknown =
      let c = constant_same P (env_behind a owner given unknown) b (expr_pair e) there.known
      (constant_alike P (expr_pair e) (mentioned e) (expression_alike P e) bound (env_behind a owner given unknown) b (sees_from P bound (env_behind a owner given unknown) b (mentioned e bound) (sees bound n (mentioned e bound) h))) in
      λ i. record { judgement = (c i).judgement; value = (c i).value }

  ends_alike : (es : List End) (bound : List (List ℕ)) → NamesAlike a b bound → ExprDen (ends_mentions es bound) → (given : List Given) (unknown : List (List ℕ))
      → map (λ (e : End). declared_type (env_behind a owner given unknown) e.word) es ≡ map (λ (e : End). declared_type (env_behind b owner given unknown) e.word) es
  ends_alike [] bound n h given unknown = refl
  ends_alike (e ∷ es) bound n h given unknown =
      let both = den_parts P m (mentioned_in_type e.word bound) (ends_mentions es bound) h in
      λ i. unless_unit (type_alike bound n e.word both.0 given unknown i).ty ∷ ends_alike es bound n both.1 given unknown i

  -- what a proc declares, by chains of one item more
  pub proc_declared : (p : Proc) → item_named owner m.items ≡ Some (d.Proc p) → NamesAlike a b (parametric_names p.parametrics) → ExprDen (parametrics_mentions p.parametrics [])
      → ExprDen (ends_mentions p.config.ends (parametric_names p.parametrics)) → DeclaredAlike (globals_over a) (globals_over b) owner
  proc_declared p is none ps es =
      declared_alike a b owner (d.Proc p) (at there.text) (at (sym there.known.whole ∙ there.text)) LeftAlike left_next
      (λ bound q qs h given unknown w. inner_same (env_behind a owner given unknown) b (type_pair q.ty) (type_alike bound h.hidden q.ty (first_den bound q qs h).0 given unknown))
      (λ bound q qs h given unknown w. default_alike bound h.hidden q.default (first_den bound q qs h).1 given unknown)
      (λ given unknown w i. record { arguments = ends_alike p.config.ends (parametric_names p.parametrics) none es given unknown i; result = None })
      (record { hidden = tt; others = none; mentions = ps })
    where
      at : {n : Module} → n ≡ m → item_named owner n.items ≡ Some (d.Proc p)
      at same = (λ i. item_named owner (same i).items) ∙ is

-- ---- of the whole text

-- where something is there, it has a rank
one_rank : {X : Type 0} (m : Module) (name : List ℕ) → ranked m (length m.items) name ≡ true → ((k : ℕ) → length m.items ≡ suc k → X) → X
one_rank {X = X} m name h f = by_length (length m.items) refl
  where
    by_length : (n : ℕ) → length m.items ≡ n → X
    by_length zero e = absurd (true≢false (sym h ∙ (λ i. ranked m (e i) name)))
    by_length (suc k) e = f k e

module _ (m : Module) (p : Proc) (named : IsProcOf m p) where
  abbrev rank_at : ℕ → Type 0
  rank_at k = ranked m (suc k) p.name.name ≡ true

  rank : ranked m (length m.items) p.name.name ≡ true
  rank = item_rank m p.name.name (d.Proc p) named

  parts : ProcWithin (item_reaches m p.name.name) m p
  parts = proc_within (item_reaches m p.name.name) m p (own_reached m p.name.name (d.Proc p) named)

  own_parametrics : (k : ℕ) → rank_at k → list_all (settles m k) (names_mentioned m (parametrics_mentions p.parametrics [])) ≡ true
  own_parametrics k h = all_below m k p named h (parametrics_mentions p.parametrics []) (parametrics_none p.parametrics []) parts.parametrics

  own_ends : (k : ℕ) → rank_at k → list_all (settles m k) (names_mentioned m (ends_mentions p.config.ends (parametric_names p.parametrics))) ≡ true
  own_ends k h = let bound = parametric_names p.parametrics in all_below m k p named h (ends_mentions p.config.ends bound) (ends_none p.config.ends bound) parts.ends

  pub globals_alike : LoopsHaveNoValue m → DeclaredAlike (globals_of m) (globals_over (globals_of m)) p.name.name
  globals_alike loops = one_rank m p.name.name rank (λ k e.
      let h : rank_at k = (λ i. ranked m (sym e i) p.name.name) ∙ rank in
      let j = suc (2 * k) in
      let level : 2 * length m.items ≡ suc j = omega (arith, e) in
      let less : 2 * k ≤ j = omega arith in
      let more : 2 * k ≤ suc j = omega arith in
      let owner = p.name.name in
      let there = ranks_settle m k j (suc j) less more in
      subst (λ n. DeclaredAlike (globals_within m n) (globals_over (globals_within m n)) p.name.name) (sym level)
      (proc_declared (settles m k) m (globals_within m j) (globals_within m (suc j)) (settles_closed m k) there owner
      (λ name e q. proc_below m k p named h name (sym (λ t. item_reaches (there.text t) owner name) ∙ e) (not_true (is_proc_item (item_named name m.items)) (no_proc_enum (item_named name m.items) q))) p named (names_settle m loops k e (parametric_names p.parametrics)) (own_parametrics k h) (own_ends k h)))

  -- it has the item in what is known
  pub proc_known : item_named p.name.name (globals_of m).whole.items ≡ Some (d.Proc p)
  proc_known = (λ i. item_named p.name.name (whole_is m (2 * length m.items) i).items) ∙ named

  -- what their types and defaults reach passes
  pub parametrics_pass : DeclarationReaches (settles m (length m.items)) (globals_of m) p.name.name
  parametrics_pass = one_rank m p.name.name rank (λ k e.
      let P = settles m (length m.items) in
      let j = suc (2 * k) in
      let level : 2 * length m.items ≡ suc j = omega (arith, e) in
      let here : item_named p.name.name (globals_within m j).whole.items ≡ Some (d.Proc p) = (λ i. item_named p.name.name (whole_is m j i).items) ∙ named in
      subst (λ n. DeclarationReaches P (globals_within m n) p.name.name) (sym level)
      (parametrics_reach P (globals_within m j) p.name.name
      (subst (λ o. MentionsReach P (globals_within m j) p.name.name (parametrics_mentions (parametrics_of o) [])) (sym here)
      (den_reach P m (settles_closed m (length m.items)) j p.name.name (parametrics_mentions p.parametrics []) (mentions_settle m (parametrics_mentions p.parametrics []) (parametrics_none p.parametrics []))))))

-- ---- what is known

module _ (known : GlobalEnv) (complete : IsComplete known) (typed : AreTyped known) (owner : List ℕ) (x : Definition) (named : item_named owner known.whole.items ≡ Some x) (alike : DeclaredAlike known (globals_over known) owner) where
  abbrev Here : List (Option DslxValue) → List Given → List Parametric → Type 0
  Here = Stands owner x

  parameter_at : (before : List (Option DslxValue)) (so_far : List Given) (p : Parametric) (ps : List Parametric) → Here before so_far (p ∷ ps) → known.parameter_in owner before ≡ typing_of_inner (item_type_env known owner so_far) p.ty
  parameter_at before so_far p ps h = alike.parameter before ∙ parameter_is owner x before so_far p ps h known named

  default_at : (before : List (Option DslxValue)) (so_far : List Given) (p : Parametric) (ps : List Parametric) → Here before so_far (p ∷ ps) → (e : Expr) → p.default ≡ Some e → known.default_in owner before ≡ default_known (item_type_env known owner so_far) e
  default_at before so_far p ps h e q = alike.default before ∙ default_is owner x before so_far p ps h known named ∙ ap (default_if (item_type_env known owner so_far)) q

  pub parametrics_mean : (before : List (Option DslxValue)) (so_far : List Given) → AreOwn known.items.type_named so_far → (ps : List Parametric) → Here before so_far ps → ParametricsMean known known.items owner before so_far ps
  parametrics_mean before so_far own [] h = tt
  parametrics_mean before so_far own (p ∷ ps) h =
      let st = parametric_has_value known complete typed owner p in (
        record {
          types = λ t e. (st.means so_far t own (ap (λ (j : Judgement). j.ty) (sym (parameter_at before so_far p ps h)) ∙ e)).0;
          defaults = λ e v q r. st.default_means so_far e v (ap (λ (x : DefaultSeen). x.value) (sym (default_at before so_far p ps h e q)) ∙ r);
        },
        λ t v e g. parametrics_mean (Some v ∷ before) (with_number so_far p v) (own_more known.items.type_named so_far p v own (own_value known.items.type_named t (Some v) v refl g)) ps (stands_next owner x before so_far p ps v h),
      )

  pub parametrics_known : (before : List (Option DslxValue)) (so_far : List Given) → AreOwn known.items.type_named so_far → (ps : List Parametric) → Here before so_far ps → EachParametricKnown known owner before ps
  parametrics_known before so_far own [] h = tt
  parametrics_known before so_far own (p ∷ ps) h =
      let st = parametric_has_value known complete typed owner p in
      let here = parameter_at before so_far p ps h in (
        record {
          declared = λ t e. (st.means so_far t own (ap (λ (j : Judgement). j.ty) (sym here) ∙ e)).1;
          typed = λ well_typed. subst IsTypeKnown (ap (λ (j : Judgement). j.ty) (sym here)) (st.typed so_far own (subst (IsWellTypedPart known) here well_typed));
          narrow = λ z t e.
              (type_has_den p.ty).narrow (item_type_env known owner so_far) (none_in (typing_of_type (item_type_env known owner so_far) p.ty).faults _ (ap (λ (j : Judgement). j.faults) (sym here) ∙ z)).0 t
              (ap (λ (j : Judgement). j.ty) (sym here) ∙ e);
          default = λ e q well_typed.
              let same = default_at before so_far p ps h e q in
              subst (IsDefaultKnown known.items.type_named) (sym same) (st.default so_far e own (subst (IsWellTypedPart known) (ap (λ (x : DefaultSeen). x.judgement) same) well_typed));
        },
        λ t v e g. parametrics_known (Some v ∷ before) (with_number so_far p v) (own_more known.items.type_named so_far p v own (own_value known.items.type_named t (Some v) v refl g)) ps (stands_next owner x before so_far p ps v h),
      )
