-- The top proc of a text without faults: its defaults are of the types of its parameters, and its instance is checked.
use Rattle.std.proofs.Common.{◌≡◌, inl, inr, ◌||◌, ◌++◌, ℕ, Bool, true, false, not, if◌then◌else◌, List, [], ◌∷◌, Option, Some, None, refl, sym, ap, subst, ◌∙◌}
use mathlib.Core.Bool.{true≢false}
use Rattle.std.specs.Prelude.{unwrap_or}
use Rattle.std.specs.List.{list_all, list_any}
use Rattle.dslx_tree.specs.declared.expr.Expr.{Expr}
use Rattle.dslx_tree.specs.declared.item.Module.{Module}
use Rattle.dslx_tree.specs.declared.item.Parametric.{Parametric}
use Rattle.dslx_tree.specs.declared.process.Proc.{Proc}
use Rattle.dslx_meaning.specs.Network.{as_proc, top_parametric_args, top_proc}
use Rattle.dslx_meaning.specs.Items.{item_named}
use Rattle.dslx_meaning.specs.declared.ty.DslxType.{DslxType}
use Rattle.dslx_meaning.specs.declared.value.DslxValue.{DslxValue}
use Rattle.dslx_meaning.specs.Rules.ItemRules.{Found}
use Rattle.dslx_meaning.specs.Rules.CallRules.{Before, JudgedThere, Unknown, and_parametric, parametric_type, default_there, default_value, is_wrong_parametric, typing_there, known_before, parametric_args_seen, of_type, resolved_value, without_default}
use Rattle.dslx_meaning.specs.Rules.TypeEnvs.{Instance, GlobalEnv, breaks}
use Rattle.dslx_meaning.specs.Rules.PatternRules.{is_there}
use Rattle.dslx_meaning.specs.Rules.ModuleRules.{is_reached, items_found, lacks_default, outside_instances, top_faults, top_found}
use Rattle.dslx_meaning.specs.Rules.ProcRules.{proc_parametric_args}
use Rattle.dslx_core.proofs.Lemmas.Typing.Laws.{and_true}
use Rattle.dslx_core.proofs.Lemmas.Typing.Sound.{all_in, typing_right, none_in, some_fault}
use Rattle.dslx_core.specs.Typing.Typed.Complete.{IsComplete}
use Rattle.dslx_core.specs.Typing.Typed.Numbers.{AllOwn}
use Rattle.dslx_core.proofs.Lemmas.Typing.Typed.{none_some, or_false}
use Rattle.dslx_core.specs.Typing.Complete.HasValue.{AreTyped}
use Rattle.dslx_core.proofs.Lemmas.Typing.Accepted.{IsAccepted, all_empty, names_apart}
use Rattle.dslx_total.proofs.OnFamilies.LastProc.{last_named}
use Rattle.dslx_total.proofs.OnFamilies.Knows.{Knows}
use Rattle.dslx_total.proofs.OnFamilies.Reached.{IsProcOf, K, Listed, all, all_listed}
use Rattle.dslx_total.proofs.OnFamilies.Spawns.{parametric_args_there, proc_named}

-- no default is a wrong number
default_right : (known : GlobalEnv) (owner : List ℕ) (before : Before) (t : Option DslxType) (o : Option Expr) → not (is_there o) ≡ false → is_wrong_parametric (default_value known owner before t o).value ≡ false
default_right known owner before t None e = absurd (true≢false e)
default_right known owner before t (Some x) e = by_known before.are_known
  where
    by_value : (v : Option DslxValue) → is_wrong_parametric (resolved_value v) ≡ false
    by_value None = refl
    by_value (Some v) = refl

    by_known : (b : Bool) → is_wrong_parametric (if b then default_there known owner before.values t x else without_default Unknown).value ≡ false
    by_known true = by_value (of_type t (known.default_in owner before.values).value)
    by_known false = refl

pub none_wrong : (known : GlobalEnv) (owner : List ℕ) (before : Before) (ps : List Parametric) → list_any lacks_default ps ≡ false → (parametric_args_seen known owner [] [] before ps []).is_wrong ≡ false
none_wrong known owner before [] e = refl
none_wrong known owner before (p ∷ ps) e =
    let q = or_false (lacks_default p) (list_any lacks_default ps) e in
    let t = parametric_type known owner before in
    let v = (default_value known owner before t p.default).value in
    λ i. default_right known owner before t p.default q.0 i || none_wrong known owner (and_parametric before v) ps q.1 i

-- the instance of the top
abbrev pub top_instance : Proc → Option (List DslxValue) → List Instance
top_instance p None = []
top_instance p (Some vs) = record { name = p.name.name; parametric_args = vs } ∷ []

module _ (m : Module) (top : Option (List ℕ)) (s : IsAccepted m top) (known : GlobalEnv) (knows : Knows m top s known) (complete : IsComplete known) (typed : AreTyped known) where
  abbrev test : Instance → Bool
  test i = is_reached i (all m top s)

  -- what is found outside instances, by parts
  pub top_right : top_faults m top (top_proc m top) ≡ []
  top_right = (none_in (top_faults m top (top_proc m top)) ((items_found (K m top s) m.items).faults ++ (top_found (K m top s) (top_proc m top)).faults) (all_empty m top s).0).0

  pub top_empty : (top_found known (top_proc m top)).faults ≡ []
  top_empty =
      let tops = top_faults m top (top_proc m top) in
      let own = K m top s in
      ap (λ (x : Found). x.faults) knows.tops
      ∙ (none_in (items_found own m.items).faults (top_found own (top_proc m top)).faults (none_in tops ((items_found own m.items).faults ++ (top_found own (top_proc m top)).faults) (all_empty m top s).0).1).1

  pub top_listed : Listed m top s (top_found known (top_proc m top)).reached
  top_listed = subst (λ (x : Found). Listed m top s x.reached) (sym knows.tops) (all_in test (items_found (K m top s) m.items).reached (top_found (K m top s) (top_proc m top)).reached (all_listed m top s (outside_instances m top).reached s.outside)).1

  pub named_by : (o : Option (List ℕ)) (p : Proc) → top_proc m o ≡ Some p → (name : List ℕ) × (as_proc (item_named name m.items) ≡ Some p)
  named_by (Some name) p e = (name, e)
  named_by None p e = elim (last_named [] m.items None p (names_apart m top s.faults) e) [
    | inl q ↦ none_some p q
    | inr q ↦ (p.name.name, ap as_proc q.0)
  ]

  pub defaults_there : (p : Proc) → top_faults m top (Some p) ≡ [] → list_any lacks_default p.parametrics ≡ false
  defaults_there p f = by_test (list_any lacks_default p.parametrics) f
    where
      by_test : (b : Bool) → (if b then breaks 32 p.name.span ∷ [] else []) ≡ [] → b ≡ false
      by_test true q = some_fault (breaks 32 p.name.span) [] q
      by_test false q = refl

  pub record TopThere (p : Proc) : Type 0 where
    pub named : IsProcOf m p
    pub own : AllOwn known.items.type_named (top_parametric_args known.items p)
    pub among : test (record { name = p.name.name; parametric_args = top_parametric_args known.items p }) ≡ true

  pub top_there : (p : Proc) → top_proc m top ≡ Some p → TopThere p
  top_there p e =
      let seen = proc_parametric_args known p [] in
      let declared = typing_there [] seen in
      let by = named_by top p e in
      let named = proc_named m by.0 p by.1 in
      let lacking = defaults_there p ((λ t. top_faults m top (sym e t)) ∙ top_right) in
      let right = none_wrong known p.name.name (known_before []) p.parametrics lacking in
      let there = typing_right [] seen refl right in
      let empty = none_in seen.faults declared.faults ((λ t. (top_found known (sym e t)).faults) ∙ top_empty) in
      let listed = all_in test declared.reached (top_instance p seen.values) ((λ t. list_all test (top_found known (sym e t)).reached) ∙ top_listed) in
      let checked : (own : List DslxValue) → seen.values ≡ Some own → test (record { name = p.name.name; parametric_args = own }) ≡ true = λ own q.
      (and_true (test (record { name = p.name.name; parametric_args = own })) true ((λ t. list_all test (top_instance p (sym q t))) ∙ listed.1)).0 in
      let k = parametric_args_there m top s known knows complete typed p named [] [] tt tt empty.0 (ap (λ (j : JudgedThere). j.faults) (sym there) ∙ empty.1) (ap (λ (j : JudgedThere). list_all test j.reached) (sym there) ∙ listed.0) right checked in
      let same : top_parametric_args known.items p ≡ k.parametric_args = ap (λ o. unwrap_or o []) k.found in
      record {
        named = named;
        own = subst (AllOwn known.items.type_named) (sym same) k.own;
        among = (λ t. test (record { name = p.name.name; parametric_args = same t })) ∙ k.among;
      }
