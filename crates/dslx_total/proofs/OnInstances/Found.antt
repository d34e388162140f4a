-- Instances from which a table is made are in it.
use Rattle.std.proofs.Common.{◌≡◌, ◌&&◌, ◌||◌, ℕ, suc, Bool, true, false, if◌then◌else◌, List, [], ◌∷◌, ◌++◌, Some, None, refl, sym, ap, ◌∙◌}
use Rattle.std.specs.Str.{bytes_eq}
use mathlib.Core.Bool.{true≢false}
use Rattle.dslx_tree.specs.declared.item.Module.{Module}
use Rattle.dslx_meaning.specs.Environment.{Meanings}
use Rattle.dslx_meaning.specs.Items.{as_function, item_named}
use Rattle.dslx_meaning.specs.Lists.{and_then, pairwise}
use Rattle.dslx_meaning.specs.declared.value.DslxValue.{DslxValue}
use Rattle.dslx_meaning.specs.Rules.EqualValues.{equal_value}
use Rattle.dslx_meaning.specs.Rules.TypeEnvs.{Instance}
use Rattle.dslx_core.proofs.Lemmas.Typing.Typed.{same_some}
use Rattle.dslx_core.specs.Lowering.Functions.{CoreInstance, Instantiated, instance_in, instance_globals, lower_instance, instances_from, is_instance, next_instance}
use Rattle.dslx_total.specs.Expressions.InstanceLists.{is_among}
use Rattle.dslx_core.proofs.Lemmas.Machines.Machine.Keeps.{found_longer}
use Rattle.dslx_core.proofs.Lemmas.Machines.Machine.Options.{from_then}

abbrev pub IsFound : Instance → List CoreInstance → Type 0
IsFound i table = (p : ℕ × CoreInstance) × (instance_in i.name i.parametric_args 0 table ≡ Some p)

-- what is found at the end, or before it
found_with : (name : List ℕ) (parametric_args : List DslxValue) (n : ℕ) (before : List CoreInstance) (c : CoreInstance) → is_instance name parametric_args c ≡ true
    → (p : ℕ × CoreInstance) × (instance_in name parametric_args n (before ++ c ∷ []) ≡ Some p)
found_with name parametric_args n [] c e = ((n, c), ap (λ b. if b then Some (n, c) else None) e)
found_with name parametric_args n (d ∷ before) c e = by (is_instance name parametric_args d) (found_with name parametric_args (suc n) before c e)
  where
    by : (b : Bool) → (p : ℕ × CoreInstance) × (instance_in name parametric_args (suc n) (before ++ c ∷ []) ≡ Some p)
        → (p : ℕ × CoreInstance) × ((if b then Some (n, d) else instance_in name parametric_args (suc n) (before ++ c ∷ [])) ≡ Some p)
    by true rest = ((n, d), refl)
    by false rest = rest

module _ (m : Module) (items : Meanings) where
  -- what an instance becomes is of its name and its parametric arguments
  pub of_its_key : (before : List CoreInstance) (j : Instantiated) (c : CoreInstance) → next_instance m items before j ≡ Some c → (c.name ≡ j.name) × (c.parametric_args ≡ j.parametric_args)
  of_its_key before j c e =
      let f = from_then (as_function (item_named j.name m.items)) (λ f. and_then (lower_instance (instance_globals m items before f j.parametric_args) f) (λ l. Some (record { name = j.name; parametric_args = j.parametric_args; function = l }))) c e in
      let l = from_then (lower_instance (instance_globals m items before f.0 j.parametric_args) f.0) (λ l. Some (record { name = j.name; parametric_args = j.parametric_args; function = l })) c f.2 in
      let same = same_some (record { name = j.name; parametric_args = j.parametric_args; function = l.0 }) c l.2 in
      (ap (λ (c : CoreInstance). c.name) (sym same), ap (λ (c : CoreInstance). c.parametric_args) (sym same))

  -- what is found is found behind more instances
  stays_found : (i : Instance) (before : List CoreInstance) (is : List Instantiated) (table : List CoreInstance) → instances_from m items before is ≡ Some table → IsFound i before → IsFound i table
  stays_found i before [] table e found = (found.0, ap (instance_in i.name i.parametric_args 0) (sym (same_some before table e)) ∙ found.1)
  stays_found i before (j ∷ is) table e found =
      let c = from_then (next_instance m items before j) (λ c. instances_from m items (before ++ c ∷ []) is) table e in
      stays_found i (before ++ c.0 ∷ []) is table c.2 (found.0, found_longer i.name i.parametric_args 0 before (c.0 ∷ []) found.0 found.1)

  pub found_among : (i : Instance) (before : List CoreInstance) (is : List Instantiated) (table : List CoreInstance) → instances_from m items before is ≡ Some table → is_among is i ≡ true → IsFound i table
  found_among i before [] table e among = absurd (true≢false (sym among))
  found_among i before (j ∷ is) table e among =
      let c = from_then (next_instance m items before j) (λ c. instances_from m items (before ++ c ∷ []) is) table e in
      by c.0 (of_its_key before j c.0 c.1) c.2 (found_among i (before ++ c.0 ∷ []) is table c.2) (bytes_eq i.name j.name && pairwise equal_value i.parametric_args j.parametric_args) refl among
    where
      by : (c : CoreInstance) → (c.name ≡ j.name) × (c.parametric_args ≡ j.parametric_args) → instances_from m items (before ++ c ∷ []) is ≡ Some table → (is_among is i ≡ true → IsFound i table)
          → (b : Bool) → (bytes_eq i.name j.name && pairwise equal_value i.parametric_args j.parametric_args) ≡ b → (b || is_among is i) ≡ true → IsFound i table
      by c key e rest true test among =
          stays_found i (before ++ c ∷ []) is table e (found_with i.name i.parametric_args 0 before c ((λ t. bytes_eq i.name (key.0 t) && pairwise equal_value i.parametric_args (key.1 t)) ∙ test))
      by c key e rest false test among = rest among
