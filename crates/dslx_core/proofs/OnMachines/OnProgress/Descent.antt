-- The instances that are open stand in some table, each before the one that needs it, and none of them is done. So no more are open
-- than that table has, and they stay so when one is done.
use Rattle.std.proofs.Common.{◌≡◌, ◌≤◌, ◌<◌, ◌+◌, ℕ, suc, Bool, true, false, if◌then◌else◌, List, [], ◌∷◌, ◌++◌, length, Some, None, refl, sym, ap, ◌∙◌, arith}
use Rattle.std.specs.Str.{bytes_eq}
use Rattle.std.proofs.lemmas.Slice.Eq.{bytes_eq-Decides}
use Rattle.dslx_meaning.specs.Lists.{pairwise}
use Rattle.dslx_meaning.specs.declared.value.DslxValue.{DslxValue}
use Rattle.dslx_meaning.specs.Rules.EqualValues.{equal_value}
use Rattle.dslx_core.proofs.Lemmas.Typing.Laws.{and_true}
use Rattle.dslx_core.proofs.Lemmas.Typing.Typed.{none_some, same_some}
use Rattle.dslx_core.specs.Lowering.Functions.{CoreInstance, Instantiated, instance_in, is_instance}
use Rattle.dslx_core.proofs.Lemmas.Lowering.{all_one_number}
use Rattle.dslx_core.specs.Machines.Machine.Machines.{with_done}
use Rattle.dslx_core.specs.Machines.Machine.Steps.{instance_of}
use Rattle.dslx_core.specs.Machines.Machine.Tasks.{InstanceEnv, OpenInstance}

-- an instance stands at a place of a table, before the place of the one that needs it, and isn't done
pub record StandsAt (context : InstanceEnv) (table : List CoreInstance) (i : Instantiated) (k n : ℕ) : Type 0 where
  pub there : CoreInstance
  pub found : instance_in i.name i.parametric_args 0 table ≡ Some (k, there)
  pub less : k < n
  pub new : instance_of context i ≡ None

-- the one that was opened last stands at this place; where none is open, the place is behind all of the table
abbrev pub Descends : InstanceEnv → List CoreInstance → List OpenInstance → ℕ → Type 0
Descends context table [] k = k ≡ length table
Descends context table (o ∷ rest) k = (n : ℕ) × StandsAt context table o.instance k n × Descends context table rest n

pub not_too_many : (context : InstanceEnv) (table : List CoreInstance) (opened : List OpenInstance) (k : ℕ) → Descends context table opened k → length opened + k ≤ length table
not_too_many context table [] k h = omega (arith, h)
not_too_many context table (o ∷ rest) k h = let l = not_too_many context table rest h.0 h.2 in let m = h.1.less in omega (arith, l, m)

-- ---- one more is done

-- an instance that isn't found isn't found behind another one either
not_behind : (name : List ℕ) (parametric_args : List DslxValue) (n : ℕ) (table : List CoreInstance) (c : CoreInstance) → instance_in name parametric_args n table ≡ None → is_instance name parametric_args c ≡ false
    → instance_in name parametric_args n (table ++ c ∷ []) ≡ None
not_behind name parametric_args n [] c e other = ap (λ b. if b then Some (n, c) else None) other
not_behind name parametric_args n (x ∷ table) c e other = by (is_instance name parametric_args x) e (λ h. not_behind name parametric_args (suc n) table c h other)
  where
    by : (b : Bool) → (if b then Some (n, x) else instance_in name parametric_args (suc n) table) ≡ None
        → (instance_in name parametric_args (suc n) table ≡ None → instance_in name parametric_args (suc n) (table ++ c ∷ []) ≡ None) → (if b then Some (n, x) else instance_in name parametric_args (suc n) (table ++ c ∷ [])) ≡ None
    by true h rest = none_some (n, x) (sym h)
    by false h rest = rest h

not_less : {X : Type 0} (k n : ℕ) → k < n → n ≡ k → X
not_less k n less same = absurd (omega (arith, less, same))

-- instances that stand at two places are two
other_instance : (table : List CoreInstance) (i : Instantiated) (c : CoreInstance) (k n : ℕ) (a b : CoreInstance) → instance_in c.name c.parametric_args 0 table ≡ Some (k, a) → instance_in i.name i.parametric_args 0 table ≡ Some (n, b) → k < n
    → is_instance i.name i.parametric_args c ≡ false
other_instance table i c k n a b e h less = by (is_instance i.name i.parametric_args c) refl
  where
    by : (same : Bool) → is_instance i.name i.parametric_args c ≡ same → same ≡ false
    by false q = refl
    by true q =
        let t = and_true (bytes_eq i.name c.name) (pairwise equal_value i.parametric_args c.parametric_args) q in
        let one : Some (n, b) ≡ Some (k, a) = sym h ∙ (λ x. instance_in ((bytes_eq-Decides i.name c.name).0 t.0 x) (all_one_number i.parametric_args c.parametric_args t.1 x) 0 table) ∙ e in
        let place : n ≡ k = ap (λ (p : ℕ × CoreInstance). p.0) (same_some (n, b) (k, a) one) in
        not_less k n less place

pub descends_on : (context : InstanceEnv) (table : List CoreInstance) (c : CoreInstance) (k : ℕ) (there : CoreInstance) → instance_in c.name c.parametric_args 0 table ≡ Some (k, there) → (opened : List OpenInstance) (n : ℕ) → k < n
    → Descends context table opened n → Descends (with_done context c) table opened n
descends_on context table c k there found [] n less h = h
descends_on context table c k there found (o ∷ rest) n less h = (
  h.0,
  record {
    there = h.1.there;
    found = h.1.found;
    less = h.1.less;
    new = not_behind o.instance.name o.instance.parametric_args 0 context.table c h.1.new (other_instance table o.instance c k n there h.1.there found h.1.found less);
  },
  descends_on context table c k there found rest h.0 (let m = h.1.less in omega (arith, less, m)) h.2,
)
