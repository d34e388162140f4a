-- Values one after another, each of which may be missing.
use Rattle.std.proofs.Common.{◌≡◌, ℕ, List, [], ◌∷◌, ◌++◌, suc, Option, Some, None, take, drop, length, reverse, refl, sym, ap, ◌∙◌}
use Rattle.std.proofs.lemmas.List.{append_assoc, length-reverse, reverse-append, reverse-reverse}
use Rattle.xb_value.specs.declared.value.Value.{Value}
use Rattle.dslx_meaning.specs.Lists.{all_some, and_then, with_both}
use Rattle.dslx_core.specs.CoreValues.{Bindings}
use Rattle.dslx_interp.specs.Eval.Inner.Operations.{put_on}
use Rattle.dslx_interp.proofs.OnEval.Prefixes.{take_prefix}

-- a value, and what is bound where it was found
abbrev pub Answer : Type 0
Answer = Value × Bindings

abbrev pub Goes : Type 0
Goes = List Value → Option Answer

-- one after another, however they are grouped
pub in_turn : {A B C : Type 0} (o : Option A) (f : A → Option B) (g : B → Option C) → and_then (and_then o f) g ≡ and_then o (λ a. and_then (f a) g)
in_turn None f g = refl
in_turn (Some a) f g = refl

without_other : {A B C : Type 0} (o : Option A) (f : A → B → Option C) → with_both o None f ≡ None
without_other None f = refl
without_other (Some a) f = refl

pub put_goes : (o : Option Value) (vs : List Value) (k : Goes) → and_then o (λ v. k (v ∷ vs)) ≡ and_then (put_on o vs) k
put_goes None vs k = refl
put_goes (Some v) vs k = refl

pub one_goes : {A : Type 0} (o : Option Value) (p : Value → Option A) (f : A → Option Value) (vs : List Value) (k : Goes)
    → and_then (and_then (and_then o p) f) (λ v. k (v ∷ vs)) ≡ and_then o (λ v. and_then (put_on (and_then (p v) f) vs) k)
one_goes None p f vs k = refl
one_goes (Some v) p f vs k = put_goes (and_then (p v) f) vs k

pub two_goes : {A B : Type 0} (l r : Option Value) (p : Value → Option A) (q : Value → Option B) (f : A → B → Option Value) (vs : List Value) (k : Goes)
    → and_then (with_both (and_then l p) (and_then r q) f) (λ v. k (v ∷ vs)) ≡ and_then l (λ x. and_then r (λ y. and_then (put_on (with_both (p x) (q y) f) vs) k))
two_goes None r p q f vs k = refl
two_goes (Some x) None p q f vs k = ap (λ o. and_then o (λ v. k (v ∷ vs))) (without_other (p x) f)
two_goes (Some x) (Some y) p q f vs k = put_goes (with_both (p x) (q y) f) vs k

abbrev nothing : Option Answer
nothing = None

nothing_behind : (l r : Option Value) → nothing ≡ and_then l (λ x. and_then r (λ y. nothing))
nothing_behind None r = refl
nothing_behind (Some x) None = refl
nothing_behind (Some x) (Some y) = refl

pub three_goes : {A B : Type 0} (l r n : Option Value) (p : Value → Option A) (q : Value → Option B) (f : Value → A → B → Option Value) (vs : List Value) (k : Goes)
    → and_then (and_then n (λ new. with_both (and_then l p) (and_then r q) (f new))) (λ v. k (v ∷ vs))
    ≡ and_then l (λ x. and_then r (λ y. and_then n (λ z. and_then (put_on (with_both (p x) (q y) (f z)) vs) k)))
three_goes l r None p q f vs k = nothing_behind l r
three_goes l r (Some z) p q f vs k = two_goes l r p q (f z) vs k

-- ---- several

pub all_some_more : (v : Value) (os : List (Option Value)) → all_some (Some v ∷ os) ≡ and_then (all_some os) (λ vs. Some (v ∷ vs))
all_some_more v os = by (all_some os) refl
  where
    by : (q : Option (List Value)) → all_some os ≡ q → all_some (Some v ∷ os) ≡ and_then q (λ vs. Some (v ∷ vs))
    by None e = rw e refl
    by (Some vs) e = rw e refl

back_on : (v : Value) (ws vs : List Value) → reverse (v ∷ ws) ++ vs ≡ reverse ws ++ v ∷ vs
back_on v ws vs = ap (λ xs. xs ++ vs) (reverse-append (v ∷ []) ws) ∙ append_assoc (reverse ws) (v ∷ []) vs

more_goes : (v : Value) (o : Option (List Value)) (vs : List Value) (k : Goes)
    → and_then (and_then o (λ ws. Some (v ∷ ws))) (λ ws. k (reverse ws ++ vs)) ≡ and_then o (λ ws. k (reverse ws ++ v ∷ vs))
more_goes v None vs k = refl
more_goes v (Some ws) vs k = ap k (back_on v ws vs)

-- the first of several, and the others
pub first_goes : (o : Option Value) (os : List (Option Value)) (vs : List Value) (k : Goes)
    → and_then (all_some (o ∷ os)) (λ ws. k (reverse ws ++ vs)) ≡ and_then o (λ v. and_then (all_some os) (λ ws. k (reverse ws ++ v ∷ vs)))
first_goes None os vs k = refl
first_goes (Some v) os vs k = ap (λ q. and_then q (λ ws. k (reverse ws ++ vs))) (all_some_more v os) ∙ more_goes v (all_some os) vs k

pub all_length : (os : List (Option Value)) (ws : List Value) → all_some os ≡ Some ws → length ws ≡ length os
all_length [] ws h =
    let e : [] ≡ ws = cc in
    ap length (sym e)
all_length (None ∷ os) ws h = absurd (cc)
all_length (Some v ∷ os) ws h = by (all_some os) refl (sym (all_some_more v os) ∙ h) (all_length os)
  where
    by : (q : Option (List Value)) → all_some os ≡ q → and_then q (λ vs. Some (v ∷ vs)) ≡ Some ws → ((vs : List Value) → all_some os ≡ Some vs → length vs ≡ length os) → length ws ≡ suc (length os)
    by None e h rest = absurd (cc)
    by (Some vs) e h rest =
        let is : v ∷ vs ≡ ws = cc in
        ap length (sym is) ∙ ap suc (rest vs e)

drop_prefix : (xs ys : List Value) → drop (length xs) (xs ++ ys) ≡ ys
drop_prefix [] ys = refl
drop_prefix (x ∷ xs) ys = drop_prefix xs ys

taken_back : (ws vs : List Value) (n : ℕ) → length ws ≡ n → reverse (take n (reverse ws ++ vs)) ≡ ws
taken_back ws vs n e =
    ap (λ (m : ℕ). reverse (take m (reverse ws ++ vs))) (sym e ∙ sym (length-reverse ws)) ∙ (ap reverse (take_prefix (reverse ws) vs) ∙ reverse-reverse ws)

left_back : (ws vs : List Value) (n : ℕ) → length ws ≡ n → drop n (reverse ws ++ vs) ≡ vs
left_back ws vs n e = ap (λ (m : ℕ). drop m (reverse ws ++ vs)) (sym e ∙ sym (length-reverse ws)) ∙ drop_prefix (reverse ws) vs

-- what is made of several
pub each_goes : (o : Option (List Value)) (n : ℕ) (f : List Value → Option Value) (vs : List Value) (k : Goes) → ((ws : List Value) → o ≡ Some ws → length ws ≡ n)
    → and_then (and_then o f) (λ v. k (v ∷ vs)) ≡ and_then o (λ ws. and_then (f (reverse (take n (reverse ws ++ vs)))) (λ v. k (v ∷ drop n (reverse ws ++ vs))))
each_goes None n f vs k count = refl
each_goes (Some ws) n f vs k count =
    let e : length ws ≡ n = count ws refl in
    λ i. and_then (f (sym (taken_back ws vs n e) i)) (λ v. k (v ∷ sym (left_back ws vs n e) i))
