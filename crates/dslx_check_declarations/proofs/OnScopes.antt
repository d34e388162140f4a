-- Parametrics that come into scope.
use Rattle.std.proofs.Common.{◌≡◌, ◌∙◌, ◌++◌, ◌<◌, ◌≤◌, ◌+◌, ◌-◌, ℕ, zero, suc, List, [], ◌∷◌, Option, Some, None, map, length, take, drop, reverse, min, get_or, arith, refl, sym, ap, subst}
use Rattle.base.proofs.Lemmas.Lists.Prefixes.{IsPrefix-refl}
use Rattle.dslx_tree.specs.declared.item.Parametric.{Parametric}
use Rattle.dslx_meaning.specs.Values.{type_of_value}
use Rattle.dslx_meaning.specs.declared.value.DslxValue.{DslxValue}
use Rattle.dslx_meaning.specs.Rules.ModuleRules.{with_parametric}
use Rattle.dslx_meaning.specs.Rules.TypeEnvs.{GlobalEnv, TypeEnv}
use Rattle.dslx_check_rules.specs.declared.table.row.TypeId.{TypeId}
use Rattle.dslx_check_rules.specs.declared.table.row.TypeRow.{TypeRow}
use Rattle.dslx_check_facts.specs.declared.facts.Facts.{Facts}
use Rattle.dslx_check_facts.specs.declared.type_env.ParametricArg.{ParametricArg}
use Rattle.dslx_check_facts.specs.declared.type_env.TypeEnv.{TypeEnv as CodeEnv}
use Rattle.dslx_check_facts.specs.Judged.{environment}
use Rattle.dslx_check_facts.specs.Known.{item_names}
use Rattle.dslx_check_facts.specs.TypeEnvs.{HasBoundRows}
use Rattle.dslx_check_facts.specs.Walks.{WalkGrows, WalkShown}
use Rattle.dslx_check_facts.proofs.Lemmas.Judged.{bound_rows_stay}
use Rattle.dslx_check_facts.proofs.Lemmas.Walks.{grows_refl, grows_trans}
use Rattle.dslx_check_declarations.specs.Scopes.{BindsAll, BindsIf, BindsValue, context_behind}
use Rattle.dslx_check_declarations.specs.Types.{IsTypeOf}
use Rattle.dslx_check_declarations.proofs.Lemmas.Listed.{take_next}

pub binds_none : (f : Facts) (s : CodeEnv) (w : WalkShown) (p : Parametric) (o : Option DslxValue) → o ≡ None → BindsIf f s s w w p o
binds_none f s w p o e = subst (BindsIf f s s w w p) (sym e) (refl, refl)

pub binds_some : (f : Facts) (s0 s1 : CodeEnv) (w0 w1 : WalkShown) (p : Parametric) (o : Option DslxValue) (v : DslxValue) → o ≡ Some v → BindsValue f s0 s1 w0 w1 p v → BindsIf f s0 s1 w0 w1 p o
binds_some f s0 s1 w0 w1 p o v e h = subst (BindsIf f s0 s1 w0 w1 p) (sym e) h

-- a value with the type that it has
pub value_bound : {f : Facts} {s0 s1 : CodeEnv} {w : WalkShown} {rows : List TypeRow} {t : TypeId} {copy : DslxValue} (p : Parametric) (v : DslxValue) → IsTypeOf (item_names f) w.rows rows t (type_of_value v) → copy ≡ v
    → s1 ≡ record s0 { parametric_args = (p.name.name, record { value = copy; ty = t }) ∷ s0.parametric_args } → BindsValue f s0 s1 w (record w { rows = rows }) p v
value_bound {f} {s0} {s1} {w} {rows} {t} {copy} p v h is binds = record {
  grows = record {
    tables = record { rows = h.grows; met = IsPrefix-refl w.met; prefixes = IsPrefix-refl w.prefixes; asked = IsPrefix-refl w.asked };
    items = h.items;
    reached = IsPrefix-refl w.reached;
    missing = IsPrefix-refl w.missing;
  };
  reached = refl;
  missing = refl;
  arg = record { value = copy; ty = t };
  binds = binds;
  is = is;
  bound = λ b.
      let old = bound_rows_stay (item_names f) w.rows rows s0 h.grows b in
      subst (HasBoundRows (item_names f) rows) (sym binds) (record {
        parametric_args = (record { row = h.there; ty = h.is rows (IsPrefix-refl rows) ∙ ap type_of_value (sym is) }, old.parametric_args);
        locals = old.locals;
        members = old.members;
      });
}

-- ---- several

pub binds_nothing : (f : Facts) (s : CodeEnv) (w : WalkShown) → BindsAll f s s w w [] []
binds_nothing f s w = record { grows = grows_refl w; reached = refl; missing = refl; bound = λ b. b; is = λ known later. refl }

pub unknown_next : {f : Facts} {s0 s1 : CodeEnv} {w : WalkShown} (p : Parametric) (o : Option DslxValue) → o ≡ None → s1 ≡ record s0 { unknown = (p.name.name, tt) ∷ s0.unknown } → BindsAll f s0 s1 w w (p ∷ []) (o ∷ [])
unknown_next {f} {s0} {s1} {w} p o e scope = subst (λ (q : Option DslxValue). BindsAll f s0 s1 w w (p ∷ []) (q ∷ [])) (sym e) (record {
  grows = grows_refl w;
  reached = refl;
  missing = refl;
  bound = λ b. subst (HasBoundRows (item_names f) w.rows) (sym scope) (record { parametric_args = b.parametric_args; locals = b.locals; members = b.members });
  is = λ known later. ap (λ (s : CodeEnv). environment f s known later) scope;
})

pub known_next : {f : Facts} {s0 s1 : CodeEnv} {w0 w1 : WalkShown} (p : Parametric) (o : Option DslxValue) (v : DslxValue) → o ≡ Some v → BindsValue f s0 s1 w0 w1 p v → BindsAll f s0 s1 w0 w1 (p ∷ []) (o ∷ [])
known_next {f} {s0} {s1} {w0} {w1} p o v e h = subst (λ (q : Option DslxValue). BindsAll f s0 s1 w0 w1 (p ∷ []) (q ∷ [])) (sym e) (record {
  grows = h.grows;
  reached = h.reached;
  missing = h.missing;
  bound = h.bound;
  is = λ known later.
      ap (λ (s : CodeEnv). environment f s known later) h.binds
      ∙ (λ i. record (environment f s0 known later) { parametric_args = record { name = p.name.name; value = h.is i } ∷ (environment f s0 known later).parametric_args });
})

behind_next : (context : TypeEnv) (ps : List Parametric) (vs : List (Option DslxValue)) (p : Parametric) (v : Option DslxValue) → length ps ≡ length vs
    → context_behind context (ps ++ p ∷ []) (vs ++ v ∷ []) ≡ context_behind (context_behind context ps vs) (p ∷ []) (v ∷ [])
behind_next context [] [] p v e = refl
behind_next context [] (u ∷ vs) p v e = absurd (omega (arith, e))
behind_next context (q ∷ ps) [] p v e = absurd (omega (arith, e))
behind_next context (q ∷ ps) (u ∷ vs) p v e = behind_next (with_parametric context q u) ps vs p v (omega (arith, e))

pub binds_more : {f : Facts} {s0 s1 s2 : CodeEnv} {w0 w1 w2 : WalkShown} (ps : List Parametric) (vs : List (Option DslxValue)) (p : Parametric) (v : Option DslxValue) → length ps ≡ length vs
    → BindsAll f s0 s1 w0 w1 ps vs → BindsAll f s1 s2 w1 w2 (p ∷ []) (v ∷ []) → BindsAll f s0 s2 w0 w2 (ps ++ p ∷ []) (vs ++ v ∷ [])
binds_more {f} {s0} {s1} {s2} {w0} {w1} {w2} ps vs p v long g h = record {
  grows = grows_trans w0 w1 w2 g.grows h.grows;
  reached = h.reached ∙ g.reached;
  missing = h.missing ∙ g.missing;
  bound = λ b. h.bound (g.bound b);
  is = λ known later.
      h.is known later ∙ ap (λ (e : TypeEnv). context_behind e (p ∷ []) (v ∷ [])) (g.is known later) ∙ sym (behind_next (environment f s0 known later) ps vs p v long);
}

-- as many as there are of both
pub all_behind : (context : TypeEnv) (ps : List Parametric) (vs : List (Option DslxValue)) (n : ℕ) → min (length vs) (length ps) ≤ n → context_behind context (take n ps) (take n vs) ≡ context_behind context ps vs
all_behind context [] vs zero h = refl
all_behind context [] vs (suc n) h = refl
all_behind context (p ∷ ps) [] zero h = refl
all_behind context (p ∷ ps) [] (suc n) h = refl
all_behind context (p ∷ ps) (v ∷ vs) zero h = absurd (omega (arith, h))
all_behind context (p ∷ ps) (v ∷ vs) (suc n) h = all_behind (with_parametric context p v) ps vs n (omega (arith, h))

pub binds_upto : {f : Facts} {s0 s1 : CodeEnv} {w0 w1 : WalkShown} (ps : List Parametric) (vs : List (Option DslxValue)) (n : ℕ) → min (length vs) (length ps) ≤ n → BindsAll f s0 s1 w0 w1 (take n ps) (take n vs)
    → BindsAll f s0 s1 w0 w1 ps vs
binds_upto {f} {s0} {s1} {w0} {w1} ps vs n h g = record {
  grows = g.grows;
  reached = g.reached;
  missing = g.missing;
  bound = g.bound;
  is = λ known later. g.is known later ∙ all_behind (environment f s0 known later) ps vs n h;
}
