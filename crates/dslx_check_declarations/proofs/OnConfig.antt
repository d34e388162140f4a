-- Tables of what a `config` makes.
use Rattle.std.proofs.Common.{◌≡◌, ◌∙◌, ◌++◌, ◌+◌, ◌<◌, ◌≤◌, ◌==◌, ◌&&◌, ℕ, zero, suc, Bool, true, false, not, List, [], ◌∷◌, Option, Some, None, is_some, map, length, take, reverse, slice_get, arith, append_assoc, refl, sym, ap, subst}
use Rattle.std.specs.List.{list_all}
use Rattle.std.proofs.lemmas.Bool.Decides.{Decides-eqb}
use Rattle.std.proofs.lemmas.List.{append-nil, length-reverse, take_all}
use Rattle.std.proofs.lemmas.List.Folds.{list_all-append, list_all-map}
use Rattle.std.proofs.lemmas.Option.{none-some, same_Some}
use Rattle.dslx_check_rules.proofs.Lemmas.Nodes.Lists.{take_next}
use mathlib.Core.List.{reverse-cons}
use Rattle.dslx_check_facts.specs.Bound.{bound_names}
use Rattle.std.specs.Prelude.{if◌then◌else◌}
use Rattle.std.specs.Str.{bytes_eq}
use Rattle.xb_span.specs.declared.fault.Fault.{Fault}
use Rattle.dslx_tree.specs.declared.ident.Ident.{Ident}
use Rattle.dslx_meaning.specs.Lists.{is_in}
use Rattle.dslx_meaning.specs.Rules.ProcRules.{ident_names, times_in, unknown_ends}
use Rattle.dslx_meaning.specs.Rules.RuleNumbers as rule
use Rattle.dslx_meaning.specs.Rules.TypeEnvs.{breaks_if}
use Rattle.dslx_check_declarations.specs.Config.{IsUsed, all_once, is_once_if}
use Rattle.dslx_check_declarations.proofs.OnValueTypes.{one_name}

-- ---- how often names are used

add_one : (b : Bool) (m n : ℕ) → (if b then suc (m + n) else m + n) ≡ (if b then suc m else m) + n
add_one true m n = omega arith
add_one false m n = refl

pub times-append : (name : List ℕ) (xs ys : List (List ℕ)) → times_in name (xs ++ ys) ≡ times_in name xs + times_in name ys
times-append name [] ys = omega arith
times-append name (x ∷ xs) ys = ap (λ k. if bytes_eq name x then suc k else k) (times-append name xs ys) ∙ add_one (bytes_eq name x) (times_in name xs) (times_in name ys)

-- with one use more of the name
abbrev with_use : Bool → Option Bool → Option Bool → Option Bool
with_use b own other = if b then Some (not (is_some own)) else other

used_by : (own : Option Bool) (n : ℕ) → IsUsed own n → IsUsed (Some (not (is_some own))) (n + 1)
used_by None n e = omega (arith, e)
used_by (Some true) n e = omega (arith, e)
used_by (Some false) n e = omega (arith, e)

pub used_next : (old new : List ℕ → Option Bool) (name : List ℕ) (names : List (List ℕ)) → ((q : List ℕ) → new q ≡ (if bytes_eq q name then Some (not (is_some (old name))) else old q))
    → ((q : List ℕ) → IsUsed (old q) (times_in q names)) → (q : List ℕ) → IsUsed (new q) (times_in q (names ++ name ∷ []))
used_next old new name names put used q = subst (λ (o : Option Bool). IsUsed o (times_in q (names ++ name ∷ []))) (sym (put q)) (by (bytes_eq q name) refl)
  where
    by : (b : Bool) → bytes_eq q name ≡ b → IsUsed (if b then Some (not (is_some (old name))) else old q) (times_in q (names ++ name ∷ []))
    by true e =
        let times : times_in q (names ++ name ∷ []) ≡ times_in q names + 1 = times-append q names (name ∷ []) ∙ ap (λ c. times_in q names + (if c then 1 else 0)) e in
        let here : IsUsed (old name) (times_in q names) = subst (λ (r : List ℕ). IsUsed (old r) (times_in q names)) (one_name q name e) (used q) in
        subst (IsUsed (Some (not (is_some (old name))))) (sym times) (used_by (old name) (times_in q names) here)
    by false e =
        let times : times_in q (names ++ name ∷ []) ≡ times_in q names = times-append q names (name ∷ []) ∙ ap (λ c. times_in q names + (if c then 1 else 0)) e ∙ (let z : times_in q names + 0 ≡ times_in q names = omega arith in z) in
        subst (IsUsed (old q)) (sym times) (used q)

-- ---- ends that aren't declared

pub unknown_next : (names : List (List ℕ)) (xs : List Ident) (x : Ident) → unknown_ends names (xs ++ x ∷ []) ≡ unknown_ends names xs ++ breaks_if (not (is_in x.name names)) rule.NAME_IS_DECLARED x.span
unknown_next names [] x = append-nil (breaks_if (not (is_in x.name names)) rule.NAME_IS_DECLARED x.span)
unknown_next names (y ∷ xs) x =
    ap (λ (fs : List Fault). breaks_if (not (is_in y.name names)) rule.NAME_IS_DECLARED y.span ++ fs) (unknown_next names xs x)
    ∙ sym (append_assoc (breaks_if (not (is_in y.name names)) rule.NAME_IS_DECLARED y.span) (unknown_ends names xs) (breaks_if (not (is_in x.name names)) rule.NAME_IS_DECLARED x.span))

pub names-append : (xs : List Ident) (x : Ident) → ident_names (xs ++ x ∷ []) ≡ ident_names xs ++ x.name ∷ []
names-append [] x = refl
names-append (y ∷ xs) x = ap (λ ns. y.name ∷ ns) (names-append xs x)

-- ---- whether names are used once

pub once_is : (b : Bool) (n : ℕ) → IsUsed (Some b) n → b ≡ (n == 1)
once_is true n e = sym (ap (λ k. k == 1) e)
once_is false n e = by (n == 1) refl
  where
    by : (b : Bool) → (n == 1) ≡ b → false ≡ b
    by true same = absurd (omega (arith, e, (Decides-eqb n 1).0 same))
    by false same = refl

pub never_is : (n : ℕ) → IsUsed None n → false ≡ (n == 1)
never_is n e = sym (ap (λ k. k == 1) e)

and_no : (b : Bool) → (b && false) ≡ false
and_no true = refl
and_no false = refl

next_passes : {A : Type 0} (test : A → Bool) (xs : List A) (i : ℕ) (x : A) → slice_get xs i ≡ Some x → test x ≡ true → list_all test (take i xs) ≡ true → list_all test (take (i + 1) xs) ≡ true
next_passes test xs i x at ok all = ap (list_all test) (take_next xs i x at) ∙ list_all-append test (take i xs) (x ∷ []) ∙ (λ j. all j && (ok j && true))

not_passes : {A : Type 0} (test : A → Bool) (xs : List A) (i : ℕ) (x : A) → slice_get xs i ≡ Some x → test x ≡ false → list_all test xs ≡ false
not_passes test [] i x at wrong = absurd (none-some x at)
not_passes test (y ∷ xs) zero x at wrong = ap (λ z. test z && list_all test xs) (same_Some y x at) ∙ ap (λ b. b && list_all test xs) wrong
not_passes test (y ∷ xs) (suc i) x at wrong = ap (λ b. test y && b) (not_passes test xs i x at wrong) ∙ and_no (test y)

there_at : {A : Type 0} (xs : List A) (i : ℕ) → i < length xs → (x : A) × (slice_get xs i ≡ Some x)
there_at [] i h = absurd (omega (arith, h))
there_at (x ∷ xs) zero h = (x, refl)
there_at (x ∷ xs) (suc i) h = there_at xs i (omega (arith, h))

pub once_next : {T : Type 0} (used : List (List ℕ)) (bs : List (List ℕ × T)) (i : ℕ) → i < length bs → is_once_if used (slice_get bs i) ≡ true
    → list_all (λ (b : List ℕ × T). times_in b.0 used == 1) (take i bs) ≡ true → list_all (λ (b : List ℕ × T). times_in b.0 used == 1) (take (i + 1) bs) ≡ true
once_next {T} used bs i h once all =
    let b = there_at bs i h in
    next_passes (λ (b : List ℕ × T). times_in b.0 used == 1) bs i b.0 b.1 (sym (ap (is_once_if used) b.1) ∙ once) all

-- in the other order
all_reversed : {T : Type 0} (test : T → Bool) (xs : List T) → list_all test (reverse xs) ≡ list_all test xs
all_reversed test [] = refl
all_reversed test (x ∷ xs) =
    ap (list_all test) (reverse-cons x xs) ∙ list_all-append test (reverse xs) (x ∷ []) ∙ ap (λ b. b && (test x && true)) (all_reversed test xs) ∙ by (list_all test xs) (test x)
  where
    by : (a b : Bool) → (a && (b && true)) ≡ (b && a)
    by true true = refl
    by true false = refl
    by false true = refl
    by false false = refl

of_names : {T : Type 0} (used : List (List ℕ)) (bs : List (List ℕ × T)) → list_all (λ (b : List ℕ × T). times_in b.0 used == 1) (reverse bs) ≡ all_once used (bound_names bs)
of_names {T} used bs = all_reversed (λ (b : List ℕ × T). times_in b.0 used == 1) bs ∙ sym (list_all-map (λ name. times_in name used == 1) (λ (b : List ℕ × T). b.0) bs)

pub all_used_once : {T : Type 0} (used : List (List ℕ)) (bs : List (List ℕ × T)) (i : ℕ) → length bs ≤ i → list_all (λ (b : List ℕ × T). times_in b.0 used == 1) (take i (reverse bs)) ≡ true → true ≡ all_once used (bound_names bs)
all_used_once {T} used bs i h all =
    sym (ap (list_all (λ (b : List ℕ × T). times_in b.0 used == 1)) (sym (take_all i (reverse bs) (omega (arith, h, length-reverse bs)))) ∙ all) ∙ of_names used bs

pub not_used_once : {T : Type 0} (used : List (List ℕ)) (bs : List (List ℕ × T)) (i : ℕ) → i < length bs → is_once_if used (slice_get (reverse bs) i) ≡ false → false ≡ all_once used (bound_names bs)
not_used_once {T} used bs i h once =
    let b = there_at (reverse bs) i (omega (arith, h, length-reverse bs)) in
    sym (not_passes (λ (b : List ℕ × T). times_in b.0 used == 1) (reverse bs) i b.0 b.1 (sym (ap (is_once_if used) b.1) ∙ once)) ∙ of_names used bs
