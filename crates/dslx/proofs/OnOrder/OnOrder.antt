-- Orders in which instances stand, and instances among others.
use Rattle.std.proofs.Common.{◌≡◌, ◌++◌, ◌-◌, ◌<◌, ◌∙◌, ◌⊎◌, inl, inr, ◌&&◌, ◌||◌, ℕ, zero, suc, List, [], ◌∷◌, length, get_or, Bool, true, false, Option, Some, None, refl, sym, ap, subst, append_assoc, arith}
use mathlib.Core.Bool.{true≢false}
use Rattle.std.specs.Prelude.{slice_get}
use Rattle.std.specs.Str.{bytes_eq}
use Rattle.std.proofs.lemmas.List.{length-append}
use Rattle.dslx_tree.specs.declared.item.Module.{Module}
use Rattle.dslx_meaning.specs.Lists.{pairwise}
use Rattle.dslx_meaning.specs.Rules.EqualValues.{equal_value}
use Rattle.dslx_meaning.specs.declared.value.DslxValue.{DslxValue}
use Rattle.dslx_core.specs.Lowering.Functions.{Instantiated}
use Rattle.dslx_core.specs.Typing.TypingRelations.Closed.{ends_within}
use Rattle.dslx_core.proofs.Lemmas.Typing.Laws.{and_true, one_value_by_test, value_equals_itself}
use Rattle.dslx_core.proofs.Lemmas.Typing.Laws.Chains.{itself, or_cases, or_first, or_second, same_name}
use Rattle.dslx_core.proofs.Lemmas.Typing.Typed.{none_some, same_some}
use Rattle.dslx_core.proofs.Lemmas.Typing.TypingRelations.{longer}
use Rattle.dslx_elab.specs.Orders.{CanBeNext, IsSpawnOrder, StandsIn}
use Rattle.dslx.specs.Order.Adding.{CanAllBeAdded, EachEnds, EachStandsIn, CanBeAdded, is_one_of, is_the_same}

-- ---- one of these

same_args : (vs ws : List DslxValue) → pairwise equal_value vs ws ≡ true → vs ≡ ws
same_args [] [] e = refl
same_args [] (w ∷ ws) e = absurd (true≢false (sym e))
same_args (v ∷ vs) [] e = absurd (true≢false (sym e))
same_args (v ∷ vs) (w ∷ ws) e = let r = and_true (equal_value v w) (pairwise equal_value vs ws) e in λ i. one_value_by_test v w r.0 i ∷ same_args vs ws r.1 i

args_equal : (vs : List DslxValue) → pairwise equal_value vs vs ≡ true
args_equal [] = refl
args_equal (v ∷ vs) = λ i. value_equals_itself v i && args_equal vs i

the_same : (i j : Instantiated) → is_the_same i j ≡ true → i ≡ j
the_same i j e =
    let both = and_true (bytes_eq i.name j.name) (pairwise equal_value i.parametric_args j.parametric_args) e in
    λ t. record { name = same_name i.name j.name both.0 t; parametric_args = same_args i.parametric_args j.parametric_args both.1 t }

same_itself : (i : Instantiated) → is_the_same i i ≡ true
same_itself i = λ t. itself i.name t && args_equal i.parametric_args t

pub stands_by_test : (i : Instantiated) (is : List Instantiated) → is_one_of i is ≡ true → StandsIn is i
stands_by_test i [] e = absurd (true≢false (sym e))
stands_by_test i (j ∷ is) e =
    or_cases (is_the_same i j) (is_one_of i is) e (λ q. (0, ap Some (sym (the_same i j q)))) (λ q. let r = stands_by_test i is q in (suc r.0, r.1))

test_at : (i : Instantiated) (is : List Instantiated) (k : ℕ) → slice_get is k ≡ Some i → is_one_of i is ≡ true
test_at i [] k e = none_some i e
test_at i (j ∷ is) zero e = or_first (is_the_same i j) (is_one_of i is) (subst (λ x. is_the_same i x ≡ true) (sym (same_some j i e)) (same_itself i))
test_at i (j ∷ is) (suc k) e = or_second (is_the_same i j) (is_one_of i is) (test_at i is k e)

pub not_by_test : (i : Instantiated) (is : List Instantiated) → is_one_of i is ≡ false → StandsIn is i → ⊥
not_by_test i is e s = true≢false (sym (test_at i is s.0 s.1) ∙ e)

-- ---- where an instance stands

stands_first_at : (xs ys : List Instantiated) (i : Instantiated) (k : ℕ) → slice_get xs k ≡ Some i → StandsIn (xs ++ ys) i
stands_first_at [] ys i k e = none_some i e
stands_first_at (x ∷ xs) ys i zero e = (0, e)
stands_first_at (x ∷ xs) ys i (suc k) e = let r = stands_first_at xs ys i k e in (suc r.0, r.1)

pub stands_first : (xs ys : List Instantiated) (i : Instantiated) → StandsIn xs i → StandsIn (xs ++ ys) i
stands_first xs ys i s = stands_first_at xs ys i s.0 s.1

stands_one_at : (xs ys : List Instantiated) (i : Instantiated) (k : ℕ) → slice_get (xs ++ ys) k ≡ Some i → StandsIn xs i ⊎ StandsIn ys i
stands_one_at [] ys i k e = inr (k, e)
stands_one_at (x ∷ xs) ys i zero e = inl (0, e)
stands_one_at (x ∷ xs) ys i (suc k) e = behind (stands_one_at xs ys i k e)
  where
    behind : StandsIn xs i ⊎ StandsIn ys i → StandsIn (x ∷ xs) i ⊎ StandsIn ys i
    behind (inl s) = inl (suc s.0, s.1)
    behind (inr s) = inr s

pub stands_one : (xs ys : List Instantiated) (i : Instantiated) → StandsIn (xs ++ ys) i → StandsIn xs i ⊎ StandsIn ys i
stands_one xs ys i s = stands_one_at xs ys i s.0 s.1

pub last_at : (xs : List Instantiated) (i : Instantiated) → slice_get (xs ++ i ∷ []) (length xs) ≡ Some i
last_at [] i = refl
last_at (x ∷ xs) i = last_at xs i

pub last_there : (xs : List Instantiated) (i : Instantiated) → slice_get (xs ++ i ∷ []) (length (xs ++ i ∷ []) - 1) ≡ Some i
last_there xs i = subst (λ n. slice_get (xs ++ i ∷ []) n ≡ Some i) (omega (arith, length-append xs (i ∷ []))) (last_at xs i)

pub each_first : (order more : List Instantiated) (is : List Instantiated) → EachStandsIn order is → EachStandsIn (order ++ more) is
each_first order more [] h = tt
each_first order more (i ∷ is) h = (stands_first order more i h.0, each_first order more is h.1)

pub each_and : (order xs : List Instantiated) (i : Instantiated) → EachStandsIn order xs → StandsIn order i → EachStandsIn order (xs ++ i ∷ [])
each_and order [] i h s = (s, tt)
each_and order (x ∷ xs) i h s = (h.0, each_and order xs i h.1 s)

-- ---- chains

module _ (m : Module) (n : ℕ) where
  pub ends_join : (xs ys : List Instantiated) → EachEnds m n xs → EachEnds m n ys → EachEnds m n (xs ++ ys)
  ends_join [] ys h g = g
  ends_join (x ∷ xs) ys h g = (h.0, ends_join xs ys h.1 g)

  pub ends_parts : (xs ys : List Instantiated) → EachEnds m n (xs ++ ys) → EachEnds m n xs × EachEnds m n ys
  ends_parts [] ys h = (tt, h)
  ends_parts (x ∷ xs) ys h = let r = ends_parts xs ys h.1 in ((h.0, r.0), r.1)

  ends_by : (is : List Instantiated) (k : ℕ) (i : Instantiated) → slice_get is k ≡ Some i → EachEnds m n is → ends_within m n i.name ≡ true
  ends_by [] k i e h = none_some i e
  ends_by (j ∷ is) zero i e h = subst (λ (x : Instantiated). ends_within m n x.name ≡ true) (same_some j i e) h.0
  ends_by (j ∷ is) (suc k) i e h = ends_by is k i e h.1

  pub ends_at : (is : List Instantiated) (i : Instantiated) → StandsIn is i → EachEnds m n is → ends_within m n i.name ≡ true
  ends_at is i s h = ends_by is s.0 i s.1 h

  pub ends_longer : (is : List Instantiated) → EachEnds m n is → EachEnds m (suc n) is
  ends_longer [] h = tt
  ends_longer (i ∷ is) h = (longer m n i.name h.0, ends_longer is h.1)

  pub within_ends : (top : Option (List ℕ)) (is : List Instantiated) → CanAllBeAdded m top n is → EachEnds m n is
  within_ends top [] h = tt
  within_ends top (i ∷ is) h = (h.0.ends, within_ends top is h.1)

  pub within_at : (top : Option (List ℕ)) (is : List Instantiated) (k : ℕ) (i : Instantiated) → k < length is → i ≡ get_or is k i → CanAllBeAdded m top n is → CanBeAdded m top n i
  within_at top [] k i within e h = absurd (omega (arith, within))
  within_at top (j ∷ is) zero i within e h = subst (CanBeAdded m top n) (sym e) h.0
  within_at top (j ∷ is) (suc k) i within e h = within_at top is k i (omega (arith, within)) e h.1

-- ---- orders

module _ (m : Module) (top : Option (List ℕ)) where
  pub order_join : (before xs ys : List Instantiated) → IsSpawnOrder m top before xs → IsSpawnOrder m top (before ++ xs) ys → IsSpawnOrder m top before (xs ++ ys)
  order_join before [] ys h g = subst (λ is. IsSpawnOrder m top is ys) (append_none before) g
    where
      append_none : (is : List Instantiated) → is ++ [] ≡ is
      append_none [] = refl
      append_none (i ∷ is) = ap (λ r. i ∷ r) (append_none is)
  order_join before (x ∷ xs) ys h g = (h.0, order_join (before ++ x ∷ []) xs ys h.1 (subst (λ is. IsSpawnOrder m top is ys) (sym (append_assoc before (x ∷ []) xs)) g))

  pub order_and : (before xs : List Instantiated) (i : Instantiated) → IsSpawnOrder m top before xs → CanBeNext m top (before ++ xs) i → IsSpawnOrder m top before (xs ++ i ∷ [])
  order_and before xs i h next = order_join before xs (i ∷ []) h (next, tt)
