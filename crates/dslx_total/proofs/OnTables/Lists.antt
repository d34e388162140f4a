-- Instances that pass a test, as a list of what is to become something.
use Rattle.std.proofs.Common.{◌≡◌, ◌≤◌, ◌&&◌, ◌||◌, ◌++◌, ◌+◌, ℕ, suc, inl, inr, length, Bool, true, false, if◌then◌else◌, List, [], ◌∷◌, arith, refl, sym, ap, subst, ◌∙◌}
use mathlib.Core.Bool.{true≢false}
use Rattle.std.proofs.lemmas.List.{append-nil, append_assoc}
use Rattle.std.proofs.lemmas.Slice.Eq.{bytes_eq-Decides}
use Rattle.dslx_meaning.specs.Lists.{pairwise}
use Rattle.dslx_meaning.specs.declared.value.DslxValue.{DslxValue}
use Rattle.dslx_meaning.specs.Rules.EqualValues.{equal_value}
use Rattle.dslx_meaning.specs.Rules.TypeEnvs.{Instance, GlobalEnv, same_instance}
use Rattle.dslx_core.proofs.Lemmas.Typing.Laws.{value_equals_itself}
use Rattle.dslx_core.specs.Typing.TypingRelations.Closed.{IsOneOf}
use Rattle.dslx_core.specs.Lowering.Functions.{Instantiated}
use Rattle.dslx_total.specs.Expressions.InstanceLists.{EachReachesThoseBefore, ReachesThese, is_among}

abbrev pub as_named : Instance → Instantiated
as_named i = record { name = i.name; parametric_args = i.parametric_args }

abbrev pub chosen : (Instance → Bool) → List Instance → List Instantiated
chosen p [] = []
chosen p (i ∷ is) = if p i then as_named i ∷ chosen p is else chosen p is

-- ---- those that are among them

parametric_args_equal : (vs : List DslxValue) → pairwise equal_value vs vs ≡ true
parametric_args_equal [] = refl
parametric_args_equal (v ∷ vs) = λ i. value_equals_itself v i && parametric_args_equal vs i

pub equal_itself : (i : Instance) → same_instance i i ≡ true
equal_itself i = λ k. (bytes_eq-Decides i.name i.name).1 refl k && parametric_args_equal i.parametric_args k

pub or_second : (p q : Bool) → q ≡ true → (p || q) ≡ true
or_second true q e = refl
or_second false q e = e

pub chosen_among : (p : Instance → Bool) (i : Instance) (is : List Instance) → IsOneOf i is → p i ≡ true → is_among (chosen p is) i ≡ true
chosen_among p i [] h e = absurd h
chosen_among p i (x ∷ xs) h e = by_kind (p x) refl h (λ more. chosen_among p i xs more e)
  where
    by_kind : (b : Bool) → p x ≡ b → IsOneOf i (x ∷ xs) → (IsOneOf i xs → is_among (chosen p xs) i ≡ true) → is_among (if b then as_named x ∷ chosen p xs else chosen p xs) i ≡ true
    by_kind true q (inl one) rest = ap (λ t. t || is_among (chosen p xs) i) (subst (λ z. same_instance i z ≡ true) one (equal_itself i))
    by_kind true q (inr more) rest = or_second (same_instance i x) (is_among (chosen p xs) i) (rest more)
    by_kind false q (inl one) rest = absurd (true≢false (sym e ∙ ap p one ∙ q))
    by_kind false q (inr more) rest = rest more

pub among_first : (i : Instance) (xs ys : List Instantiated) → is_among xs i ≡ true → is_among (xs ++ ys) i ≡ true
among_first i [] ys e = absurd (true≢false (sym e))
among_first i (x ∷ xs) ys e = by_first (same_instance i (record { name = x.name; parametric_args = x.parametric_args })) e (among_first i xs ys)
  where
    by_first : (b : Bool) → (b || is_among xs i) ≡ true → (is_among xs i ≡ true → is_among (xs ++ ys) i ≡ true) → (b || is_among (xs ++ ys) i) ≡ true
    by_first true q rest = refl
    by_first false q rest = rest q

pub among_second : (i : Instance) (xs ys : List Instantiated) → is_among ys i ≡ true → is_among (xs ++ ys) i ≡ true
among_second i [] ys e = e
among_second i (x ∷ xs) ys e = or_second (same_instance i (record { name = x.name; parametric_args = x.parametric_args })) (is_among (xs ++ ys) i) (among_second i xs ys e)

-- ---- orders

-- what reaches these reaches these and more
behind_more : (known : GlobalEnv) (before more : List Instantiated) (i : Instantiated) → ReachesThese known before i → ReachesThese known (before ++ more) i
behind_more known before more i r = record {
  function = r.function;
  is = r.is;
  types = r.types;
  own = r.own;
  here = r.here;
  clean = r.clean;
  sound = r.sound;
  there = λ j f e own h. among_first j before more (r.there j f e own h);
}

-- where each of the chosen reaches those before all of them
pub each_chosen : (known : GlobalEnv) (before : List Instantiated) (p : Instance → Bool) (is : List Instance) → ((i : Instance) → IsOneOf i is → p i ≡ true → ReachesThese known before (as_named i))
    → EachReachesThoseBefore known before (chosen p is)
each_chosen known before p [] h = tt
each_chosen known before p (x ∷ xs) h =
    let own = as_named x in
    by_kind (p x) refl (each_chosen known (before ++ own ∷ []) p xs (λ i one e. behind_more known before (own ∷ []) (as_named i) (h i (inr one) e))) (each_chosen known before p xs (λ i one e. h i (inr one) e))
  where
    by_kind : (b : Bool) → p x ≡ b → EachReachesThoseBefore known (before ++ as_named x ∷ []) (chosen p xs) → EachReachesThoseBefore known before (chosen p xs)
        → EachReachesThoseBefore known before (if b then as_named x ∷ chosen p xs else chosen p xs)
    by_kind true q behind rest = (h x (inl refl) q, behind)
    by_kind false q behind rest = rest

pub each_behind : (known : GlobalEnv) (before xs ys : List Instantiated) → EachReachesThoseBefore known before xs → EachReachesThoseBefore known (before ++ xs) ys → EachReachesThoseBefore known before (xs ++ ys)
each_behind known before [] ys h k = subst (λ zs. EachReachesThoseBefore known zs ys) (append-nil before) k
each_behind known before (x ∷ xs) ys h k = (h.0, each_behind known (before ++ x ∷ []) xs ys h.1 (subst (λ zs. EachReachesThoseBefore known zs ys) (sym (append_assoc before (x ∷ []) xs)) k))

-- ---- how many they are

pub no_more : (p : Instance → Bool) (is : List Instance) → length (chosen p is) ≤ length is
no_more p [] = omega arith
no_more p (x ∷ xs) = by_kind (p x) (no_more p xs)
  where
    by_kind : (b : Bool) → length (chosen p xs) ≤ length xs → length (if b then as_named x ∷ chosen p xs else chosen p xs) ≤ suc (length xs)
    by_kind true n = omega (arith, n)
    by_kind false n = omega (arith, n)

-- one that passes one of two tests, but not both, passes a third
pub record AreApart (p q r : Instance → Bool) (i : Instance) : Type 0 where
  pub first : p i ≡ true → r i ≡ true
  pub second : q i ≡ true → r i ≡ true
  pub apart : p i ≡ true → q i ≡ true → ⊥

pub both_chosen : (p q r : Instance → Bool) → ((i : Instance) → AreApart p q r i) → (is : List Instance) → length (chosen p is) + length (chosen q is) ≤ length (chosen r is)
both_chosen p q r h [] = omega arith
both_chosen p q r h (x ∷ xs) = by_kind (p x) (q x) (r x) refl refl refl (both_chosen p q r h xs)
  where
    some : (Instance → Bool) → Bool → ℕ
    some t b = length (if b then as_named x ∷ chosen t xs else chosen t xs)

    by_kind : (a b c : Bool) → p x ≡ a → q x ≡ b → r x ≡ c → length (chosen p xs) + length (chosen q xs) ≤ length (chosen r xs) → some p a + some q b ≤ some r c
    by_kind true true c u v w n = absurd ((h x).apart u v)
    by_kind true false true u v w n = omega (arith, n)
    by_kind true false false u v w n = absurd (true≢false (sym ((h x).first u) ∙ w))
    by_kind false true true u v w n = omega (arith, n)
    by_kind false true false u v w n = absurd (true≢false (sym ((h x).second v) ∙ w))
    by_kind false false true u v w n = omega (arith, n)
    by_kind false false false u v w n = n
