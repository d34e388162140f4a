-- Patterns that are one value, and tuples, from what is known of their parts.
use Rattle.std.proofs.Common.{ℕ, ◌≡◌, ◌∙◌, Bool, true, false, List, [], Option, Some, None, refl, sym, ap, subst}
use Rattle.std.specs.Prelude.{if◌then◌else◌}
use Rattle.base.specs.Lists.Prefix.{IsPrefix}
use Rattle.dslx_tree.specs.declared.block.Stmt.TheOpen.{Shape-F}
use Rattle.dslx_tree.specs.declared.expr.Number.{Number}
use Rattle.dslx_tree.specs.declared.ident.Ident.{Ident}
use Rattle.dslx_tree.specs.declared.pattern.Pattern.{Pattern, out-Pattern}
use Rattle.dslx_tree.specs.declared.pattern.Shape.{roll-Shape}
use Rattle.dslx_tree.proofs.Lemmas.Folds.Levels.{ShapeLevel, trees}
use Rattle.dslx_meaning.specs.Environment.{Env, Meanings, bind}
use Rattle.dslx_meaning.specs.Meaning.{PatternDen, fit_value, pattern_denotation}
use Rattle.dslx_meaning.specs.Operators.{number_value}
use Rattle.dslx_meaning.specs.Values.{bool_value, same_value}
use Rattle.dslx_meaning.specs.declared.ty.DslxType.{DslxType}
use Rattle.dslx_meaning.specs.declared.value.DslxValue.{DslxValue}
use Rattle.dslx_meaning.specs.Rules.TypeEnvs.{GlobalEnv, constant_env}
use Rattle.dslx_check_rules.specs.Interned.{HasRowIf, ItemNames, type_if}
use Rattle.dslx_check_rules.specs.declared.table.row.TypeId.{TypeId}
use Rattle.dslx_check_rules.specs.declared.table.row.TypeRow.{TypeRow}
use Rattle.dslx_check_facts.specs.Known.{FactsHold, item_names}
use Rattle.dslx_check_facts.specs.Walks.{WalkShown}
use Rattle.dslx_check_facts.specs.declared.facts.Facts.{Facts}
use Rattle.dslx_check_leaves.specs.Fits.Fits.{FitsAs, PatternFits, TupleFits, is_value, literal_of}
use Rattle.dslx_check_leaves.proofs.OnFits.OnFits.Meanings.{denotes, number_means, shape_means}
use Rattle.dslx_check_leaves.proofs.OnFits.OnFits.Numbers.{number_known}
use Rattle.dslx_check_leaves.proofs.OnFits.OnFits.Tuples.{tuple_fine}

pub value_fits : (items : Meanings) (o : Option DslxValue) (v : DslxValue) (env : Env) → env.items ≡ items → FitsAs items (is_value o v) (fit_value o v env)
value_fits items None v env same = record { is = refl; stays = tt }
value_fits items (Some u) v env same = by (same_value v u)
  where
    by : (b : Bool) → FitsAs items b (if b then Some env else None)
    by true = record { is = refl; stays = same }
    by false = record { is = refl; stays = tt }

-- a pattern of this shape
pub fits_shape : (p : Pattern) (x : ShapeLevel trees) (items : Meanings) (b : Bool) (scope : Env) (v : DslxValue) (env : Env) → (out-Pattern p).shape ≡ roll-Shape x → FitsAs items b ((shape_means x).fits scope v env)
    → FitsAs items b ((pattern_denotation p).fits scope v env)
fits_shape p x items b scope v env is h = subst (λ (d : PatternDen). FitsAs items b (d.fits scope v env)) (sym (denotes p x is)) h

pub wild_fits : {f : Facts} {w : WalkShown} {ty : Option TypeId} (p : Pattern) (v : DslxValue) → (out-Pattern p).shape ≡ roll-Shape Shape-F.Wild → PatternFits f w w ty p v true
wild_fits {f} {w} {ty} p v is = record {
  fit = λ known later context t asked none fine env same. fits_shape p Shape-F.Wild known.items true (constant_env context) v env is (record { is = refl; stays = same });
}

pub bool_fits : {f : Facts} {w : WalkShown} {ty : Option TypeId} {b : Bool} (p : Pattern) (v : DslxValue) (holds : Bool) → (out-Pattern p).shape ≡ roll-Shape (Shape-F.Shape::Bool holds) → b ≡ is_value (Some (bool_value holds)) v
    → PatternFits f w w ty p v b
bool_fits {f} {w} {ty} {b} p v holds is e = record {
  fit = λ known later context t asked none fine env same. fits_shape p (Shape-F.Shape::Bool holds) known.items b (constant_env context) v env is
      (subst (λ (x : Bool). FitsAs known.items x (fit_value (Some (bool_value holds)) v env)) (sym e) (value_fits known.items (Some (bool_value holds)) v env same));
}

pub number_fits : {f : Facts} {w : WalkShown} {ty : Option TypeId} {b : Bool} (p : Pattern) (v : DslxValue) (n : Number) → (out-Pattern p).shape ≡ roll-Shape (Shape-F.Shape::Number n)
    → ((names : ItemNames) (later : List TypeRow) (t : DslxType) → IsPrefix w.rows later → HasRowIf w.rows ty → type_if names later ty ≡ Some t → b ≡ is_value (number_value t (literal_of n)) v)
    → PatternFits f w w ty p v b
number_fits {f} {w} {ty} {b} p v n is e = record {
  fit = λ known later context t asked none fine env same. fits_shape p (Shape-F.Shape::Number n) known.items b (constant_env context) v env is
      (subst (λ (x : Bool). FitsAs known.items x (fit_value ((number_means n).value (constant_env context)) v env))
      (ap (λ o. is_value o v) (number_known context t p n is fine) ∙ sym (e (item_names f) later.rows t asked.rows asked.row asked.is))
      (value_fits known.items ((number_means n).value (constant_env context)) v env same));
}

pub name_fits : {f : Facts} {w0 w1 : WalkShown} {ty : Option TypeId} {b : Bool} (p : Pattern) (v : DslxValue) (name : List ℕ) → (out-Pattern p).shape ≡ roll-Shape (Shape-F.Shape::Name name)
    → ((known : GlobalEnv) (later : WalkShown) → FactsHold f later known → w1.missing ≡ [] → b ≡ (if known.items.is_constant name then is_value (known.items.constant name) v else true))
    → PatternFits f w0 w1 ty p v b
name_fits {f} {w0} {w1} {ty} {b} p v name is e = record {
  fit = λ known later context t asked none fine env same.
      let by : (c : Bool) → FitsAs known.items (if c then is_value (known.items.constant name) v else true) (if c then fit_value (known.items.constant name) v env else Some (bind name v env)) =
      λ c. elim c as (λ c. FitsAs known.items (if c then is_value (known.items.constant name) v else true) (if c then fit_value (known.items.constant name) v env else Some (bind name v env)))
      [ true ↦ value_fits known.items (known.items.constant name) v env same | false ↦ record { is = refl; stays = same } ] in
      fits_shape p (Shape-F.Shape::Name name) known.items b (constant_env context) v env is
      (subst (λ (x : Bool). FitsAs known.items x (if env.items.is_constant name then fit_value (env.items.constant name) v env else Some (bind name v env))) (sym (e known later asked.agrees none))
      (subst (λ (i : Meanings). FitsAs known.items (if known.items.is_constant name then is_value (known.items.constant name) v else true) (if i.is_constant name then fit_value (i.constant name) v env else Some (bind name v env)))
      (sym same) (by (known.items.is_constant name))));
}

pub member_fits : {f : Facts} {w0 w1 : WalkShown} {ty : Option TypeId} {b : Bool} (p : Pattern) (v : DslxValue) (e a : Ident) → (out-Pattern p).shape ≡ roll-Shape (Shape-F.Shape::Member e a)
    → ((known : GlobalEnv) (later : WalkShown) → FactsHold f later known → w1.missing ≡ [] → b ≡ is_value (known.items.member e.name a.name) v)
    → PatternFits f w0 w1 ty p v b
member_fits {f} {w0} {w1} {ty} {b} p v e a is h = record {
  fit = λ known later context t asked none fine env same. fits_shape p (Shape-F.Shape::Member e a) known.items b (constant_env context) v env is
      (subst (λ (x : Bool). FitsAs known.items x (fit_value (env.items.member e.name a.name) v env)) (sym (h known later asked.agrees none))
      (subst (λ (i : Meanings). FitsAs known.items (is_value (known.items.member e.name a.name) v) (fit_value (i.member e.name a.name) v env)) (sym same) (value_fits known.items (known.items.member e.name a.name) v env same)));
}

pub tuple_fits : {f : Facts} {w0 w1 : WalkShown} {ty : Option TypeId} {b : Bool} (p : Pattern) (v : DslxValue) (ps : List Pattern) → (out-Pattern p).shape ≡ roll-Shape (Shape-F.Shape::Tuple ps)
    → TupleFits f w0 w1 ty ps v b → PatternFits f w0 w1 ty p v b
tuple_fits {f} {w0} {w1} {ty} {b} p v ps is h = record {
  fit = λ known later context t asked none fine env same.
      let q = tuple_fine context t p ps is fine in
      fits_shape p (Shape-F.Shape::Tuple ps) known.items b (constant_env context) v env is (h.fit known later context t asked none q.types q.are q.fine env same);
}
