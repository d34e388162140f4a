-- The parametrics of an instance, one after another.
use Rattle.std.proofs.Common.{◌≡◌, ◌++◌, ◌∙◌, ℕ, List, [], ◌∷◌, Option, Some, None, length, drop, map, refl, sym, ap, subst}
use Rattle.std.specs.Prelude.{slice_get}
use Rattle.base.specs.Lists.Prefix.{IsPrefix}
use Rattle.dslx_tree.specs.declared.expr.Expr.{Expr, out-Expr}
use Rattle.dslx_tree.specs.declared.item.Parametric.{Parametric}
use Rattle.dslx_meaning.specs.Environment.{Given}
use Rattle.dslx_meaning.specs.Items.{parametric_args_bound, with_number}
use Rattle.dslx_meaning.specs.Rules.AggregateRules.{wanted_faults}
use Rattle.dslx_meaning.specs.Rules.ConstantRules.{ConstantSeen, constant_of}
use Rattle.dslx_meaning.specs.Rules.ItemRules.{Found, and_found, bound_with, default_found, found_in, item_type_env, nothing_found, number_at, only_faults, parametric_args_behind, parametrics_found, typing_of_inner}
use Rattle.dslx_meaning.specs.Rules.NameRules.{local_name}
use Rattle.dslx_meaning.specs.Rules.TypeEnvs.{ExprPair, GlobalEnv, TypeEnv}
use Rattle.dslx_meaning.specs.Rules.TypeRules.{inner_type}
use Rattle.dslx_meaning.specs.Rules.Typings.{TypePair}
use Rattle.dslx_meaning.specs.declared.ty.DslxType.{DslxType}
use Rattle.dslx_meaning.specs.declared.value.DslxValue.{DslxValue}
use Rattle.dslx_check_rules.specs.declared.faults.Faults.{Faults}
use Rattle.dslx_check_rules.specs.declared.table.row.TypeId.{TypeId}
use Rattle.dslx_check_rules.specs.declared.table.row.TypeRow.{TypeRow}
use Rattle.dslx_check_rules.specs.declared.typing.Typing.{Typing}
use Rattle.dslx_check_rules.specs.Interned.{AreDistinct, HasRowIf, ItemNames, type_if}
use Rattle.dslx_check_rules.specs.Seen.{seen}
use Rattle.dslx_check_facts.specs.declared.facts.Facts.{Facts}
use Rattle.dslx_check_facts.specs.declared.type_env.TypeEnv.{TypeEnv as CodeEnv}
use Rattle.dslx_check_facts.specs.Judged.{HasRows, environment}
use Rattle.dslx_check_facts.specs.Known.{FactsHold, item_names}
use Rattle.dslx_check_facts.specs.TypeEnvs.{HasBoundRows, given_of}
use Rattle.dslx_check_facts.specs.Walks.{HasTables, WalkGrows, WalkShown, instances_at}
use Rattle.dslx_check_facts.proofs.Lemmas.Walks.{grows_refl, grows_trans, nothing_missing, tables_trans}
use Rattle.dslx_check_facts.proofs.Lemmas.Judged.{row_stays_if, rows_stay}
use Rattle.dslx_check_rules.specs.declared.nodes.parts.ConstantTyping.{ConstantTyping}
use Rattle.dslx_check_leaves.specs.Named.Constants.{expr_typed}
use Rattle.dslx_check_leaves.specs.Fits.Typed.{type_typed}
use Rattle.dslx_check_declarations.specs.Scopes.{BindsIf, outside}
use Rattle.dslx_check_declarations.proofs.Lemmas.Listed.{names_behind}
use Rattle.dslx_check_leaves.specs.Walked.{TypesConstant, TypesPart, WalksTo}
use Rattle.dslx_check_leaves.proofs.Lemmas.Walking.{all_dropped, behind_both, halved, nothing_reached, same_types}
use Rattle.dslx_check_judge.specs.Instances.Inner.Found.{TypesAgainst, TypesFound}
use Rattle.dslx_check_judge.specs.Instances.Inner.Parametrics.{ParametricsWalked, parametric_found}
use Rattle.dslx_check_judge.proofs.OnInstances.OnPairs.{expr_is, type_is}
use Rattle.dslx_check_judge.proofs.OnInstances.OnRuns.{IsFound, Joins, both_found, found_as, found_joins, nothing_behind}

-- ---- a default

-- the default by what it comes to as a constant
abbrev default_by : Option DslxType → Expr → ConstantSeen → Found
default_by t e c = record { faults = c.judgement.faults ++ wanted_faults (out-Expr e).span t c.judgement.ty; reached = c.judgement.reached }

pub no_default : {f : Facts} {s : CodeEnv} {w : WalkShown} {wanted : Option TypeId} {faults : Faults} (default : Option Expr) → default ≡ None → faults ≡ seen []
    → WalksTo f s s w w (TypesAgainst faults w.rows wanted (λ t context. default_found context t default))
no_default {f} {s} {w} {wanted} {faults} default is none =
    subst (λ (d : Option Expr). WalksTo f s s w w (TypesAgainst faults w.rows wanted (λ t context. default_found context t d))) (sym is)
    (nothing_reached (TypesAgainst faults w.rows wanted (λ t context. nothing_found)) (same_types w.rows) (λ names later env distinct p. record { is = λ row. none; reaches = λ row. refl }))

pub one_default : {f : Facts} {s0 s1 : CodeEnv} {w0 w1 : WalkShown} {wanted : Option TypeId} {c : ConstantTyping} {wrong faults : Faults} (default : Option Expr) (e : Expr) → default ≡ Some e
    → WalksTo f s0 s1 w0 w1 (TypesConstant c (λ context. constant_of context (expr_typed e)))
    → ((names : ItemNames) (later : List TypeRow) → AreDistinct names → IsPrefix w1.rows later → HasRowIf w1.rows wanted → HasRowIf w1.rows c.typing.ty
    → wrong ≡ seen (wanted_faults (out-Expr e).span (type_if names later wanted) (type_if names later c.typing.ty)))
    → Joins c.typing.faults wrong faults → WalksTo f s0 s1 w0 w1 (TypesAgainst faults w0.rows wanted (λ t context. default_found context t default))
one_default {f} {s0} {s1} {w0} {w1} {wanted} {c} {wrong} {faults} default e is g wrong_is joins =
    subst (λ (d : Option Expr). WalksTo f s0 s1 w0 w1 (TypesAgainst faults w0.rows wanted (λ t context. default_found context t d))) (sym is)
    (subst (λ (k : ExprPair). WalksTo f s0 s1 w0 w1 (TypesAgainst faults w0.rows wanted (λ t context. default_by t e (constant_of context k)))) (sym (expr_is e)) own)
  where
    own : WalksTo f s0 s1 w0 w1 (TypesAgainst faults w0.rows wanted (λ t context. default_by t e (constant_of context (expr_typed e))))
    own = halved (TypesConstant c (λ context. constant_of context (expr_typed e))) (TypesAgainst faults w0.rows wanted (λ t context. default_by t e (constant_of context (expr_typed e)))) g (same_types w1.rows)
        (λ names later more env distinct p t.
        let x = constant_of env (expr_typed e) in
        let ty = type_if names later.rows wanted in
        record {
          is = λ row.
              joins x.judgement.faults (wanted_faults (out-Expr e).span ty x.judgement.ty) t.constant.part.faults
              (wrong_is names later.rows distinct p (row_stays_if w0.rows w1.rows wanted g.grows.tables.rows row) t.constant.part.row ∙ ap (λ o. seen (wanted_faults (out-Expr e).span ty o)) t.constant.part.ty);
          reaches = λ row. t.reaches;
        })

-- ---- one parametric

-- one by the pair of its type
abbrev parametric_by : List (List ℕ) → Parametric → TypePair → TypeEnv → Found
parametric_by before p t context = let j = inner_type context t in and_found (only_faults (local_name context before p.name)) (and_found (found_in j) (default_found context j.ty p.default))

pub one_parametric : {f : Facts} {s0 s1 s2 : CodeEnv} {w0 w1 w2 : WalkShown} {ty : Typing} {name default first faults : Faults} (before : List (List ℕ)) (p : Parametric)
    → ((known : GlobalEnv) (later : WalkShown) (context : TypeEnv) → FactsHold f later known → context.known.whole ≡ known.whole → name ≡ seen (local_name context before p.name))
    → WalksTo f s0 s1 w0 w1 (TypesPart ty (λ context. inner_type context (type_typed p.ty)))
    → WalksTo f s1 s2 w1 w2 (TypesAgainst default w1.rows ty.ty (λ t context. default_found context t p.default))
    → Joins name ty.faults first → Joins first default faults → WalksTo f s0 s2 w0 w2 (TypesFound faults (parametric_found before p))
one_parametric {f} {s0} {s1} {s2} {w0} {w1} {w2} {ty} {name} {default} {first} {faults} before p named g h join1 join2 =
    subst (λ (t : TypePair). WalksTo f s0 s2 w0 w2 (TypesFound faults (parametric_by before p t))) (sym (type_is p.ty)) (record {
      grows = grows_trans w0 w1 w2 g.grows h.grows;
      sight = h.sight ∙ g.sight;
      holds = λ known later has agrees there none.
          let names = item_names f in
          let env = environment f s0 known later in
          let before_has = tables_trans w1 w2 later h.grows.tables has in
          let j = inner_type env (type_typed p.ty) in
          let N = local_name env before p.name in
          let t = g.holds known later before_has agrees there (nothing_missing w1 w2 h.grows none) in
          let there_too : HasRows f s1 w1 = subst (λ (s : CodeEnv). HasRows f s w1) (sym g.sight) (rows_stay f s0 w0 w1 g.grows.tables there) in
          let u : TypesAgainst default w1.rows ty.ty (λ t context. default_found context t p.default) names w2.rows later (drop (length w1.reached) w2.reached) env =
          subst (λ (s : CodeEnv). TypesAgainst default w1.rows ty.ty (λ t context. default_found context t p.default) names w2.rows later (drop (length w1.reached) w2.reached) (environment f s known later)) g.sight
          (h.holds known later has agrees there_too none) in
          let head : IsFound names later (drop (length w0.reached) w1.reached) first (and_found (only_faults N) (found_in j)) = record { is = join1 N j.faults (named known later env agrees refl) t.part.faults; reaches = t.reaches } in
          let D = default_found env j.ty p.default in
          let rest : IsFound names later (drop (length w1.reached) w2.reached) default D = record {
            is = u.is t.part.row ∙ ap (λ o. seen (default_found env o p.default).faults) t.part.ty;
            reaches = u.reaches t.part.row ∙ ap (λ o. (default_found env o p.default).reached) t.part.ty;
          } in
          let all = found_as (found_joins (only_faults N) (found_in j) D) (both_found (behind_both w0.reached w1.reached w2.reached g.grows.reached h.grows.reached) head rest join2) in
          record { is = all.is; reaches = all.reaches };
    })

-- ---- all of them

abbrev pub parametric_name : Parametric → List ℕ
parametric_name p = p.name.name

no_more_args : (so_far : List Given) (ps : List Parametric) → parametric_args_bound so_far ps [] ≡ so_far
no_more_args so_far [] = refl
no_more_args so_far (p ∷ ps) = refl

-- behind one more
args_behind : (so_far : List Given) (p : Parametric) (ps : List Parametric) (vs : List DslxValue)
    → parametric_args_bound so_far (p ∷ ps) vs ≡ parametric_args_bound (bound_with so_far p (number_at vs)) ps (parametric_args_behind vs)
args_behind so_far p ps [] = sym (no_more_args so_far ps)
args_behind so_far p ps (v ∷ vs) = refl

pub args_next : (so_far : List Given) (ps : List Parametric) (p : Parametric) (vs : List DslxValue)
    → parametric_args_bound so_far (ps ++ p ∷ []) vs ≡ bound_with (parametric_args_bound so_far ps vs) p (slice_get vs (length ps))
args_next so_far [] p [] = refl
args_next so_far [] p (v ∷ vs) = refl
args_next so_far (q ∷ ps) p [] = refl
args_next so_far (q ∷ ps) p (v ∷ vs) = args_next (with_number so_far q v) ps p vs

pub parametrics_next : (known : GlobalEnv) (owner : List ℕ) (before : List (List ℕ)) (so_far : List Given) (ps : List Parametric) (p : Parametric) (vs : List DslxValue)
    → and_found (parametrics_found known owner before so_far ps vs) (parametric_found (names_behind parametric_name before ps) p (item_type_env known owner (parametric_args_bound so_far ps vs)))
    ≡ parametrics_found known owner before so_far (ps ++ p ∷ []) vs
parametrics_next known owner before so_far [] p vs =
    let context = item_type_env known owner so_far in
    let t = typing_of_inner context p.ty in
    λ i. and_found (only_faults (local_name context before p.name)) (and_found (found_in t) (sym (nothing_behind (default_found context t.ty p.default)) i))
parametrics_next known owner before so_far (q ∷ ps) p vs =
    let context = item_type_env known owner so_far in
    let t = typing_of_inner context q.ty in
    let N = only_faults (local_name context before q.name) in
    let T = found_in t in
    let D = default_found context t.ty q.default in
    let args = bound_with so_far q (number_at vs) in
    let rest = parametrics_found known owner (q.name.name ∷ before) args ps (parametric_args_behind vs) in
    let own = λ (gs : List Given). parametric_found (names_behind parametric_name (q.name.name ∷ before) ps) p (item_type_env known owner gs) in
    ap (λ gs. and_found (and_found N (and_found T (and_found D rest))) (own gs)) (args_behind so_far q ps vs)
    ∙ found_joins N (and_found T (and_found D rest)) (own (parametric_args_bound args ps (parametric_args_behind vs)))
    ∙ ap (and_found N) (found_joins T (and_found D rest) (own (parametric_args_bound args ps (parametric_args_behind vs))))
    ∙ ap (λ x. and_found N (and_found T x)) (found_joins D rest (own (parametric_args_bound args ps (parametric_args_behind vs))))
    ∙ ap (λ x. and_found N (and_found T (and_found D x))) (parametrics_next known owner (q.name.name ∷ before) args ps p (parametric_args_behind vs))

-- none
pub no_parametrics : {f : Facts} {w : WalkShown} {faults : Faults} (item : ℕ) (vs : List DslxValue) → faults ≡ seen [] → ParametricsWalked f item (outside item) w w faults [] vs
no_parametrics {f} {w} {faults} item vs none = record {
  grows = grows_refl w;
  scope = refl;
  bound = λ known later has agrees there none. there.bound;
  args = λ known later has agrees there none. refl;
  found = λ known later has agrees there nothing. none;
  reaches = λ known later has agrees there none. ap (instances_at (item_names f) later.met) (all_dropped w.reached);
}

-- how the next one comes into scope
record Binds (f : Facts) (s1 s2 : CodeEnv) (w1 w2 : WalkShown) (p : Parametric) (v : Option DslxValue) : Type 0 where
  grows : WalkGrows w1 w2
  reached : w2.reached ≡ w1.reached
  scope : s2 ≡ record s1 { parametric_args = s2.parametric_args }
  args : map given_of s2.parametric_args ≡ bound_with (map given_of s1.parametric_args) p v
  bound : HasBoundRows (item_names f) w1.rows s1 → HasBoundRows (item_names f) w2.rows s2

same_args : (s0 s1 : CodeEnv) → s1 ≡ s0 → s1 ≡ record s0 { parametric_args = s1.parametric_args }
same_args s0 s1 e = e ∙ sym (ap (λ (s : CodeEnv). record s0 { parametric_args = s.parametric_args }) e)

binds : {f : Facts} {s1 s2 : CodeEnv} {w1 w2 : WalkShown} (p : Parametric) (v : Option DslxValue) → BindsIf f s1 s2 w1 w2 p v → Binds f s1 s2 w1 w2 p v
binds {f} {s1} {s2} {w1} {w2} p None h = record {
  grows = subst (WalkGrows w1) (sym h.1) (grows_refl w1);
  reached = ap (λ (w : WalkShown). w.reached) h.1;
  scope = same_args s1 s2 h.0;
  args = ap (λ (s : CodeEnv). map given_of s.parametric_args) h.0;
  bound = λ rows. subst (λ (w : WalkShown). HasBoundRows (item_names f) w.rows s2) (sym h.1) (subst (HasBoundRows (item_names f) w1.rows) (sym h.0) rows);
}
binds {f} {s1} {s2} {w1} {w2} p (Some v) h = record {
  grows = h.grows;
  reached = h.reached;
  scope = h.binds ∙ sym (ap (λ (s : CodeEnv). record s1 { parametric_args = s.parametric_args }) h.binds);
  args = ap (λ (s : CodeEnv). map given_of s.parametric_args) h.binds ∙ ap (λ u. record { name = p.name.name; value = u } ∷ map given_of s1.parametric_args) h.is;
  bound = h.bound;
}

-- one more
pub parametrics_more : {f : Facts} {s1 s2 s3 : CodeEnv} {w0 w1 w2 w3 : WalkShown} {so_far own faults : Faults} (item : ℕ) (ps : List Parametric) (p : Parametric) (vs : List DslxValue)
    → ParametricsWalked f item s1 w0 w1 so_far ps vs → WalksTo f s1 s2 w1 w2 (TypesFound own (parametric_found (names_behind parametric_name [] ps) p)) → Joins so_far own faults
    → BindsIf f s2 s3 w2 w3 p (slice_get vs (length ps)) → ParametricsWalked f item s3 w0 w3 faults (ps ++ p ∷ []) vs
parametrics_more {f} {s1} {s2} {s3} {w0} {w1} {w2} {w3} {so_far} {own} {faults} item ps p vs g h joins bind = record {
  grows = grows_trans w0 w2 w3 (grows_trans w0 w1 w2 g.grows h.grows) b.grows;
  scope = b.scope ∙ ap (λ (s : CodeEnv). record s { parametric_args = s3.parametric_args }) (h.sight ∙ g.scope);
  bound = λ known later has agrees there none.
      let has2 = tables_trans w2 w3 later b.grows.tables has in
      let none2 = nothing_missing w2 w3 b.grows none in
      b.bound (behind known later has2 agrees there none2).bound;
  args = λ known later has agrees there none.
      let names = item_names f in
      let has2 = tables_trans w2 w3 later b.grows.tables has in
      let none2 = nothing_missing w2 w3 b.grows none in
      let before = args_before known later has2 agrees there none2 in
      let args : map given_of s3.parametric_args ≡ parametric_args_bound [] (ps ++ p ∷ []) vs =
      b.args ∙ ap (λ (E : TypeEnv). bound_with E.parametric_args p (slice_get vs (length ps))) (ap (λ (s : CodeEnv). environment f s known later) h.sight ∙ before) ∙ sym (args_next [] ps p vs) in
      ap (λ (s : CodeEnv). environment f s known later) (b.scope ∙ ap (λ (s : CodeEnv). record s { parametric_args = s3.parametric_args }) (h.sight ∙ g.scope))
      ∙ ap (item_type_env known (names.item item)) args;
  found = λ known later has agrees there none. (all known later (tables_trans w2 w3 later b.grows.tables has) agrees there (nothing_missing w2 w3 b.grows none)).is;
  reaches = λ known later has agrees there none.
      ap (λ (l : List ℕ). instances_at (item_names f) later.met (drop (length w0.reached) l)) b.reached
      ∙ (all known later (tables_trans w2 w3 later b.grows.tables has) agrees there (nothing_missing w2 w3 b.grows none)).reaches;
}
  where
    b : Binds f s2 s3 w2 w3 p (slice_get vs (length ps))
    b = binds p (slice_get vs (length ps)) bind

    args_before : (known : GlobalEnv) (later : WalkShown) → HasTables w2 later → FactsHold f later known → HasRows f (outside item) w0 → w2.missing ≡ []
        → environment f s1 known later ≡ item_type_env known ((item_names f).item item) (parametric_args_bound [] ps vs)
    args_before known later has agrees there none = g.args known later (tables_trans w1 w2 later h.grows.tables has) agrees there (nothing_missing w1 w2 h.grows none)

    between : (known : GlobalEnv) (later : WalkShown) → HasTables w2 later → FactsHold f later known → HasRows f (outside item) w0 → w2.missing ≡ [] → HasRows f s1 w1
    between known later has agrees there none = record {
      known = (rows_stay f (outside item) w0 w1 g.grows.tables there).known;
      bound = g.bound known later (tables_trans w1 w2 later h.grows.tables has) agrees there (nothing_missing w1 w2 h.grows none);
    }

    behind : (known : GlobalEnv) (later : WalkShown) → HasTables w2 later → FactsHold f later known → HasRows f (outside item) w0 → w2.missing ≡ [] → HasRows f s2 w2
    behind known later has agrees there none = subst (λ (s : CodeEnv). HasRows f s w2) (sym h.sight) (rows_stay f s1 w1 w2 h.grows.tables (between known later has agrees there none))

    all : (known : GlobalEnv) (later : WalkShown) → HasTables w2 later → FactsHold f later known → HasRows f (outside item) w0 → w2.missing ≡ []
        → IsFound (item_names f) later (drop (length w0.reached) w2.reached) faults (parametrics_found known ((item_names f).item item) [] [] (ps ++ p ∷ []) vs)
    all known later has agrees there none =
        let names = item_names f in
        let has1 = tables_trans w1 w2 later h.grows.tables has in
        let none1 = nothing_missing w1 w2 h.grows none in
        let owner = names.item item in
        let before = names_behind parametric_name [] ps in
        let t : TypesFound own (parametric_found before p) names w2.rows later (drop (length w1.reached) w2.reached) (item_type_env known owner (parametric_args_bound [] ps vs)) =
        subst (λ (E : TypeEnv). TypesFound own (parametric_found before p) names w2.rows later (drop (length w1.reached) w2.reached) E) (args_before known later has agrees there none)
        (h.holds known later has agrees (between known later has agrees there none) none) in
        let front : IsFound names later (drop (length w0.reached) w1.reached) so_far (parametrics_found known owner [] [] ps vs) = record { is = g.found known later has1 agrees there none1; reaches = g.reaches known later has1 agrees there none1 } in
        let rest : IsFound names later (drop (length w1.reached) w2.reached) own (parametric_found before p (item_type_env known owner (parametric_args_bound [] ps vs))) = record { is = t.is; reaches = t.reaches } in
        found_as (parametrics_next known owner [] [] ps p vs) (both_found (behind_both w0.reached w1.reached w2.reached g.grows.reached h.grows.reached) front rest joins)
