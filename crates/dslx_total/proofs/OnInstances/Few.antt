-- A text with which nothing is wrong has at most so many instances.
use Rattle.std.proofs.Common.{◌≡◌, ◌≤◌, ℕ, Bool, true, false, if◌then◌else◌, nat_lt, List, [], ◌∷◌, Option, length, refl, sym, ap, arith}
use Rattle.std.proofs.lemmas.Bool.Decides.{nat_tests}
use mathlib.Core.Bool.{true≢false}
use Rattle.xb_span.specs.declared.fault.Fault.TheVariants.{Whole}
use Rattle.xb_span.specs.declared.limit.What.TheVariants as what
use Rattle.dslx_tree.specs.declared.item.Module.{Module}
use Rattle.dslx_meaning.specs.Rules.ModuleRules.{faults_of, instances_of}
use Rattle.dslx_core.proofs.Lemmas.Typing.Accepted.{few_instances}

abbrev is_empty : {A : Type 0} → List A → Bool
is_empty [] = true
is_empty (a ∷ as') = false

not_more : (n k : ℕ) → nat_lt k n ≡ false → n ≤ k
not_more n k h = grind (arith, nat_tests)

-- no fault is in an empty list
few_by : {A : Type 0} (n k : ℕ) (a : A) → (if nat_lt k n then a ∷ [] else []) ≡ [] → n ≤ k
few_by n k a e = by (nat_lt k n) refl e
  where
    by : (b : Bool) → nat_lt k n ≡ b → (if b then a ∷ [] else []) ≡ [] → n ≤ k
    by true q e = absurd (true≢false (sym (ap is_empty e)))
    by false q e = not_more n k q

pub few_checked : (m : Module) (top : Option (List ℕ)) → faults_of m top ≡ [] → length (instances_of m top) ≤ 4096
few_checked m top e = few_by (length (instances_of m top)) 4096 (Whole (record { what = what.Instances; found = 4097; most = 4096 })) (few_instances m top e)
