-- One more instance in a table, where none of its name and parametric arguments stands.
use Rattle.std.proofs.Common.{◌≡◌, ◌+◌, ◌&&◌, ◌⊎◌, inl, inr, ℕ, suc, Bool, true, false, if◌then◌else◌, List, [], ◌∷◌, ◌++◌, length, Some, None, refl, sym, ap, ◌∙◌, arith}
use Rattle.std.specs.Prelude.{slice_get}
use Rattle.std.proofs.lemmas.Slice.Eq.{bytes_eq-Decides}
use Rattle.dslx_meaning.specs.Lists.{pairwise}
use Rattle.dslx_meaning.specs.declared.value.DslxValue.{DslxValue}
use Rattle.dslx_meaning.specs.Rules.EqualValues.{equal_value}
use Rattle.dslx_core.proofs.Lemmas.Typing.Laws.{value_equals_itself}
use Rattle.dslx_core.proofs.Lemmas.Typing.Typed.{none_some}
use Rattle.dslx_core.specs.Lowering.Functions.{CoreInstance, instance_in, is_instance}
use Rattle.dslx_core.proofs.Lemmas.Lowering.{at_the_end}
use Rattle.dslx_core.proofs.Lemmas.Machines.Machine.Keeps.{found_longer}
use Rattle.dslx_core.specs.Machines.Once.Once.{OccursOnce}

-- ---- an instance is of its own name and parametric arguments

parametric_args_themselves : (vs : List DslxValue) → pairwise equal_value vs vs ≡ true
parametric_args_themselves [] = refl
parametric_args_themselves (v ∷ vs) = λ i. value_equals_itself v i && parametric_args_themselves vs i

instance_itself : (c : CoreInstance) → is_instance c.name c.parametric_args c ≡ true
instance_itself c = λ i. (bytes_eq-Decides c.name c.name).1 refl i && parametric_args_themselves c.parametric_args i

-- ---- the last of a table is found there, where none before it is

found_last : (c : CoreInstance) (n : ℕ) (table : List CoreInstance) → instance_in c.name c.parametric_args n table ≡ None → instance_in c.name c.parametric_args n (table ++ c ∷ []) ≡ Some (n + length table, c)
found_last c n [] e = ap (λ b. if b then Some (n, c) else None) (instance_itself c) ∙ ap (λ k. Some (k, c)) (nothing n)
  where
    nothing : (n : ℕ) → n ≡ (n + 0)
    nothing n = omega arith
found_last c n (d ∷ table) e = by (is_instance c.name c.parametric_args d) (found_last c (suc n) table) e
  where
    further : (n k : ℕ) → (suc n + k) ≡ (n + suc k)
    further n k = omega arith

    by : (b : Bool) → (instance_in c.name c.parametric_args (suc n) table ≡ None → instance_in c.name c.parametric_args (suc n) (table ++ c ∷ []) ≡ Some (suc n + length table, c))
        → (if b then Some (n, d) else instance_in c.name c.parametric_args (suc n) table) ≡ None
        → (if b then Some (n, d) else instance_in c.name c.parametric_args (suc n) (table ++ c ∷ [])) ≡ Some (n + suc (length table), c)
    by true rest e = none_some (n, d) (sym e)
    by false rest e = rest e ∙ ap (λ k. Some (k, c)) (further n (length table))

-- ---- tables in which each stands once

pub none_yet : OccursOnce []
none_yet k i e = none_some i e

pub one_more : (table : List CoreInstance) (c : CoreInstance) → OccursOnce table → instance_in c.name c.parametric_args 0 table ≡ None → OccursOnce (table ++ c ∷ [])
one_more table c once new k i e = by_scope (at_the_end table c k i e)
  where
    nothing_added : (n : ℕ) → (0 + n) ≡ n
    nothing_added n = omega arith

    by_scope : (slice_get table k ≡ Some i) ⊎ ((k ≡ length table) × (c ≡ i)) → instance_in i.name i.parametric_args 0 (table ++ c ∷ []) ≡ Some (k, i)
    by_scope (inl p) = found_longer i.name i.parametric_args 0 table (c ∷ []) (k, i) (once k i p)
    by_scope (inr p) = (λ t. instance_in (sym p.1 t).name (sym p.1 t).parametric_args 0 (table ++ c ∷ [])) ∙ found_last c 0 table new ∙ (λ t. Some ((nothing_added (length table) ∙ sym p.0) t, p.1 t))
