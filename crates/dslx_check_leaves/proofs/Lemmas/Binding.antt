-- Statements that bind names.
use Rattle.std.proofs.Common.{◌≡◌, ◌++◌, ◌∙◌, ℕ, List, [], ◌∷◌, Bool, true, false, Option, Some, None, map, refl, sym, ap, subst}
use Rattle.std.specs.Prelude.{Result, Ok, Err, OnOk, ◌&&◌, if◌then◌else◌}
use Rattle.std.specs.List.{AllByRecursion}
use Rattle.std.proofs.lemmas.List.{map-append}
use Rattle.base.specs.Lists.Prefix.{IsPrefix}
use Rattle.base.proofs.Lemmas.Lists.Prefixes.{IsPrefix-trans}
use Rattle.xb_span.specs.declared.span.Span.{Span}
use Rattle.dslx_tree.specs.declared.expr.Expr.{Expr, out-Expr}
use Rattle.dslx_meaning.specs.declared.ty.DslxType.{DslxType}
use Rattle.dslx_meaning.specs.Rules.ControlRules.{annotation_reached, bound_type, let_with, used_after}
use Rattle.dslx_meaning.specs.Rules.EffectNames.{effect_channel, is_effect}
use Rattle.dslx_meaning.specs.Rules.TypeEnvs.{GlobalEnv, Judgement, TypeEnv, no_token}
use Rattle.dslx_meaning.specs.Rules.Typings.{PatternSeen, StatementSeen}
use Rattle.dslx_check_rules.specs.declared.table.row.TypeId.{TypeId}
use Rattle.dslx_check_rules.specs.declared.table.row.TypeRow.{TypeRow}
use Rattle.dslx_check_rules.specs.declared.typing.Typing.{Typing}
use Rattle.dslx_check_rules.specs.Interned.{AreDistinct, HasRowIf, ItemNames, type_if}
use Rattle.dslx_check_facts.specs.Bound.{bound_names}
use Rattle.dslx_check_facts.specs.declared.facts.Facts.{Facts}
use Rattle.dslx_check_facts.specs.declared.type_env.TypeEnv.{TypeEnv as CodeEnv}
use Rattle.dslx_check_facts.specs.Judged.{environment}
use Rattle.dslx_check_facts.specs.Known.{item_names}
use Rattle.dslx_check_facts.specs.TypeEnvs.{HasBoundRows, typed_of}
use Rattle.dslx_check_facts.specs.Walks.{WalkShown}
use Rattle.dslx_check_facts.proofs.Lemmas.Judged.{row_stays_if}
use Rattle.dslx_check_rules.specs.declared.control.control.StatementTyping.{StatementTyping}
use Rattle.dslx_check_rules.specs.declared.control.patterns.PatternTyping.{PatternTyping}
use Rattle.dslx_check_rules.specs.Control.Control.{FromLet}
use Rattle.dslx_check_rules.specs.Nodes.Parts.{FromOne, IsPart, IsPartIf}
use Rattle.dslx_check_leaves.specs.Fits.Typed.{PatternFrom}
use Rattle.dslx_check_leaves.specs.Typed.{bare_half}
use Rattle.dslx_check_leaves.specs.Walked.{BindsAs, PatternNames, HasBound, IsBehind, Moved, WalksTo, TypesPart, TypesOne, TypesPattern, TypesStatements, used_now}
use Rattle.dslx_check_leaves.proofs.Lemmas.Walking.{Both, both, no_token_reached, part_stays, reached_both}
use Rattle.dslx_check_leaves.proofs.Lemmas.Moving.{moves}

-- ---- what is in scope behind

used_behind : (channel : Option (List ℕ)) (used : List (List ℕ × Unit {0})) → bound_names (used_now channel used) ≡ used_after channel (bound_names used)
used_behind None used = refl
used_behind (Some name) used = refl

pub all_join : {A : Type 0} (P : A → Type 0) (xs ys : List A) → AllByRecursion P xs → AllByRecursion P ys → AllByRecursion P (xs ++ ys)
all_join P [] ys h k = k
all_join P (x ∷ xs) ys h k = (h.0, all_join P xs ys h.1 k)

abbrev pub scope_behind : PatternNames → Option (List ℕ) → CodeEnv → CodeEnv
scope_behind more channel s = record s { locals = more ++ s.locals; used = used_now channel s.used }

abbrev pub channel_front : Option (List ℕ) → List (List ℕ × Unit {0})
channel_front None = []
channel_front (Some name) = (name, tt) ∷ []

channel_in_front : (channel : Option (List ℕ)) (used : List (List ℕ × Unit {0})) → used_now channel used ≡ channel_front channel ++ used
channel_in_front None used = refl
channel_in_front (Some name) used = refl

pub is_behind : {s t : CodeEnv} (more : PatternNames) (channel : Option (List ℕ)) → t ≡ scope_behind more channel s → IsBehind s t
is_behind {s} {t} more channel e = record {
  locals = more;
  used = channel_front channel;
  is = e ∙ (λ i. record s { locals = more ++ s.locals; used = channel_in_front channel s.used i });
}

-- with names that have rows in front
pub rows_in_front : {names : ItemNames} {rows : List TypeRow} {s t : CodeEnv} (more : PatternNames) (channel : Option (List ℕ)) → t ≡ scope_behind more channel s → HasBound rows more → HasBoundRows names rows s → HasBoundRows names rows t
rows_in_front {names} {rows} {s} {t} more channel e h k =
    subst (HasBoundRows names rows) (sym e) (record {
      parametric_args = k.parametric_args;
      locals = all_join (λ (b : List ℕ × Option TypeId). HasRowIf rows b.1) more s.locals h k.locals;
      members = k.members;
    })

-- the type environment there
pub environment_behind : (f : Facts) (s t : CodeEnv) (known : GlobalEnv) (later : WalkShown) (more : PatternNames) (channel : Option (List ℕ)) → t ≡ scope_behind more channel s
    → environment f t known later
    ≡ record (environment f s known later) { locals = map (typed_of (item_names f) later.rows) more ++ (environment f s known later).locals; used = used_after channel (environment f s known later).used }
environment_behind f s t known later more channel e =
    ap (λ (u : CodeEnv). environment f u known later) e
    ∙ (λ i. record (environment f s known later) { locals = map-append (typed_of (item_names f) later.rows) more s.locals i; used = used_behind channel s.used i })

-- an effect's channel has a site, and nothing else has changed
pub when_ok : {T E : Type 0} (r : Result T E) {P Q : Type 0} → (P → Q) → OnOk r P → OnOk r Q
when_ok (Ok t) w h = w h
when_ok (Err e) w h = tt

pub channel_used : (s : CodeEnv) (o : Option (List ℕ)) (name : List ℕ) (used : List (List ℕ × Unit {0})) → o ≡ Some name → used ≡ (name, tt) ∷ s.used
    → record s { used = used } ≡ record s { used = used_now o s.used }
channel_used s o name used is e = ap (λ (u : List (List ℕ × Unit {0})). record s { used = u }) (e ∙ ap (λ (x : Option (List ℕ)). used_now x s.used) (sym is))

pub no_channel_used : (s : CodeEnv) (o : Option (List ℕ)) → o ≡ None → s ≡ record s { used = used_now o s.used }
no_channel_used s o is = ap (λ (x : Option (List ℕ)). record s { used = used_now x s.used }) (sym is)

-- ---- an expression as a statement

pub bare_kept : (on_top : Bool) (e : Expr) (rows : List TypeRow) (value : Typing) → (on_top && is_effect e) ≡ true → FromOne (bare_half on_top e) rows rows value value
bare_kept on_top e rows value is = record {
  typed = λ names later distinct p x k. subst (λ (b : Bool). IsPart names rows later value (if b then x else no_token (out-Expr e).span x)) (sym is) k;
}

pub bare_judged : (on_top : Bool) (e : Expr) (rows : List TypeRow) (value result : Typing) → (on_top && is_effect e) ≡ false → FromOne (no_token (out-Expr e).span) rows rows value result
    → FromOne (bare_half on_top e) rows rows value result
bare_judged on_top e rows value result is from = record {
  typed = λ names later distinct p x k. subst (λ (b : Bool). IsPart names rows later result (if b then x else no_token (out-Expr e).span x)) (sym is) (from.typed names later distinct p x k);
}

bare_reached : (on_top : Bool) (e : Expr) (x : Judgement) → (bare_half on_top e x).reached ≡ x.reached
bare_reached on_top e x = by (on_top && is_effect e)
  where
    by : (b : Bool) → (if b then x else no_token (out-Expr e).span x).reached ≡ x.reached
    by true = refl
    by false = no_token_reached (out-Expr e).span x

pub bare_moves : {f : Facts} {s0 s1 s2 : CodeEnv} {w0 w1 : WalkShown} {v k : Typing} {V : TypeEnv → Judgement} (on_top : Bool) (e : Expr)
    → WalksTo f s0 s1 w0 w1 (TypesPart v V) → s2 ≡ record s1 { used = used_now (effect_channel e) s1.used } → FromOne (bare_half on_top e) w1.rows w1.rows v k
    → Moved f s0 s2 w0 w1 (TypesStatements (record { faults = k.faults; size = k.size })
    (λ env. let j = bare_half on_top e (V env) in record { context = record env { used = used_after (effect_channel e) env.used }; faults = j.faults; reached = j.reached; size = j.size }))
bare_moves {f} {s0} {s1} {s2} {w0} {w1} {v} {k} {V} on_top e g is from =
    let channel = effect_channel e in
    let is_now : s2 ≡ scope_behind [] channel s0 = is ∙ (λ i. record (g.sight i) { used = used_now channel (g.sight i).used }) in
    let J : TypeEnv → StatementSeen = λ env. let j = bare_half on_top e (V env) in record { context = record env { used = used_after channel env.used }; faults = j.faults; reached = j.reached; size = j.size } in
    moves (TypesPart v V) (TypesStatements (record { faults = k.faults; size = k.size }) J) g (is_behind [] channel is_now)
    (λ known later more has agrees there t. rows_in_front [] channel is_now tt there.bound)
    (λ known later more has agrees there t.
    let env = environment f s0 known later in
    let h : IsPart (item_names f) w1.rows later.rows k (bare_half on_top e (V env)) = from.typed (item_names f) later.rows agrees.distinct has.rows (V env) t.part in
    record {
      context = environment_behind f s0 s2 known later [] channel is_now;
      typing = record { faults = h.faults; size = h.size };
      reaches = t.reaches ∙ sym (bare_reached on_top e (V env));
    })

-- ---- a `let`

pub part_if_stays : (names : ItemNames) (rows longer later : List TypeRow) (q : Option Typing) (x : Option Judgement) → IsPrefix rows longer → IsPartIf names rows later q x → IsPartIf names longer later q x
part_if_stays names rows longer later None None h t = tt
part_if_stays names rows longer later None (Some x) h t = absurd t
part_if_stays names rows longer later (Some q) None h t = absurd t
part_if_stays names rows longer later (Some q) (Some x) h t = part_stays h t

pub let_moves : {f : Facts} {s0 s1 s2 s3 s4 : CodeEnv} {w0 w1 w2 w3 : WalkShown} {v : Typing} {o : Option Typing} {p : PatternTyping} {j : StatementTyping} {V : TypeEnv → Judgement} {O : TypeEnv → Option Judgement}
    {ty : Option TypeId} {after : PatternNames} {P : PatternFrom} (e : Expr) (span : Span)
    → WalksTo f s0 s1 w0 w1 (TypesPart v V) → WalksTo f s1 s2 w1 w2 (TypesOne IsPartIf annotation_reached o O)
    → ((names : ItemNames) (later : List TypeRow) (w : Option Judgement) → AreDistinct names → IsPrefix w2.rows later → IsPartIf names w2.rows later o w → HasRowIf w2.rows v.ty
    → type_if names later ty ≡ bound_type w (type_if names later v.ty))
    → (HasRowIf w2.rows v.ty → HasRowIf w2.rows ty)
    → WalksTo f s2 s3 w2 w3 (TypesPattern p w2.rows ty [] after P) → s4 ≡ scope_behind after (effect_channel e) s3 → FromLet w3.rows (record { span = span; typing = v }) o p j
    → Moved f s0 s4 w0 w3 (TypesStatements j (λ env. let_with env e span (V env) (O env) (P env (bound_type (O env) (V env).ty) [] env.locals)))
let_moves {f} {s0} {s1} {s2} {s3} {s4} {w0} {w1} {w2} {w3} {v} {o} {p} {j} {V} {O} {ty} {after} {P} e span g k is_ty there_ty l is from =
    let channel = effect_channel e in
    let names = item_names f in
    let value_and_type = both (TypesPart v V) (TypesOne IsPartIf annotation_reached o O) g k in
    let is_now : s4 ≡ scope_behind after channel s0 = is ∙ (λ i. scope_behind after channel ((l.sight ∙ value_and_type.sight) i)) in
    let S : TypeEnv → StatementSeen = λ env. let_with env e span (V env) (O env) (P env (bound_type (O env) (V env).ty) [] env.locals) in
    moves (Both (Both (TypesPart v V) (TypesOne IsPartIf annotation_reached o O) w1.rows) (TypesPattern p w2.rows ty [] after P) w2.rows) (TypesStatements j S)
    (both (Both (TypesPart v V) (TypesOne IsPartIf annotation_reached o O) w1.rows) (TypesPattern p w2.rows ty [] after P) value_and_type l)
    (is_behind after channel is_now)
    (λ known later more has agrees there t.
    rows_in_front after channel is_now (t.second.bound (there_ty (row_stays_if w1.rows w2.rows v.ty t.first.grows t.first.first.part.row)) tt) there.bound)
    (λ known later more has agrees there t.
    let env = environment f s0 known later in
    let row = row_stays_if w1.rows w2.rows v.ty t.first.grows t.first.first.part.row in
    let type_is : type_if names later.rows ty ≡ bound_type (O env) (V env).ty =
    is_ty names later.rows (O env) agrees.distinct (IsPrefix-trans w2.rows w3.rows later.rows l.grows.tables.rows has.rows) t.first.second.part row ∙ ap (bound_type (O env)) t.first.first.part.ty in
    let binds : BindsAs names later t.rest p after env.locals (P env (bound_type (O env) (V env).ty) [] env.locals) =
    subst (λ (d : Option DslxType). BindsAs names later t.rest p after env.locals (P env d [] env.locals)) type_is (t.second.binds (there_ty row) tt env.locals) in
    let bound : PatternSeen = P env (bound_type (O env) (V env).ty) [] env.locals in
    let h = from.typed names later.rows agrees.distinct has.rows env e (V env) (O env) bound (part_stays t.grows (part_stays t.first.grows t.first.first.part)) (part_if_stays names w2.rows w3.rows later.rows o (O env) t.grows t.first.second.part) binds.typing in
    record {
      context = environment_behind f s0 s4 known later after channel is_now ∙ (λ i. record env { locals = sym binds.locals i; used = used_after channel env.used });
      typing = h;
      reaches = reached_both names later.met more t.front t.rest ((V env).reached ++ annotation_reached (O env)) bound.reached t.joined
          (reached_both names later.met t.front t.first.front t.first.rest (V env).reached (annotation_reached (O env)) t.first.joined t.first.first.reaches t.first.second.reaches) binds.reaches;
    })
