-- The values of a prefix are those of the one before it and one more.
use Rattle.std.proofs.Common.{◌≡◌, ◌∙◌, ◌<◌, ◌≤◌, ◌+◌, ◌-◌, ◌⊎◌, ◌++◌, ◌∷◌, [], ⊎_elim, inl, inr, ℕ, zero, suc, Bool, true, false, List, length, Option, Some, None, Bor, slice_get, refl, sym, ap, subst, arith, if◌then◌else◌}
use Rattle.std.specs.List.{list_any}
use Rattle.std.specs.Option.{MatchOption, option_copied}
use Rattle.std.proofs.lemmas.Option.{none-some, same_Some}
use Rattle.std.proofs.lemmas.List.{length-append}
use Rattle.indexmap.specs.IndexSet.{insert_key}
use Rattle.base.specs.Lists.Prefix.{IsPrefix}
use Rattle.base.proofs.Lemmas.Lists.Prefixes.{IsPrefix-append, IsPrefix-length, IsPrefix-refl, IsPrefix-trans, rest_of}
use Rattle.dslx_meaning.specs.declared.value.DslxValue.{DslxValue}
use Rattle.dslx_check_rules.proofs.Lemmas.Types.{get_in_prefix}
use Rattle.dslx_check_facts.specs.declared.prefixes.Prefix.{Prefix}
use Rattle.dslx_check_facts.specs.Keys.{AreEarlier, list_or_none, lists_from, lists_of, same_prefix, values_or_none}

abbrev Values : Type 0
Values = List (Option DslxValue)

get_last : {A : Type 0} (xs : List A) (x : A) → slice_get (xs ++ x ∷ []) (length xs) ≡ Some x
get_last [] x = refl
get_last (x' ∷ xs) x = get_last xs x

get_push : {A : Type 0} (xs : List A) (x : A) (k : ℕ) (y : A) → slice_get (xs ++ x ∷ []) k ≡ Some y → (slice_get xs k ≡ Some y) ⊎ ((k ≡ length xs) × (x ≡ y))
get_push [] x zero y e = inr (refl, same_Some x y e)
get_push [] x (suc k) y e = absurd (none-some y e)
get_push (x' ∷ xs) x zero y e = inl e
get_push (x' ∷ xs) x (suc k) y e = ⊎_elim (λ h. inl h) (λ h. inr (ap suc h.0, h.1)) (get_push xs x k y e)

there : {A : Type 0} (xs : List A) (n : ℕ) → n < length xs → (x : A) × (slice_get xs n ≡ Some x)
there [] n h = absurd (omega (arith, h))
there (x ∷ xs) zero h = (x, refl)
there (x ∷ xs) (suc n) h = there xs n (omega (arith, h))

-- the values of a prefix stay
pub list_stays : (lists later : List Values) (n : ℕ) → IsPrefix lists later → n < length lists → list_or_none later n ≡ list_or_none lists n
list_stays lists later n p h = let x = there lists n h in ap values_or_none (get_in_prefix lists later n x.0 p x.1) ∙ sym (ap values_or_none x.1)

from_grows : (lists : List Values) (ps : List Prefix) → IsPrefix lists (lists_from lists ps)
from_grows lists [] = IsPrefix-refl lists
from_grows lists (p ∷ ps) =
    IsPrefix-trans lists (lists ++ (p.last ∷ list_or_none lists p.before) ∷ []) (lists_from lists (p ∷ ps))
    (IsPrefix-append lists ((p.last ∷ list_or_none lists p.before) ∷ [])) (from_grows (lists ++ (p.last ∷ list_or_none lists p.before) ∷ []) ps)

-- that of no parametrics is the first
pub none_first : (ps : List Prefix) (lists : List Values) → lists_of ps ≡ lists → slice_get lists 0 ≡ Some []
none_first ps lists e = ap (λ (ls : List Values). slice_get ls 0) (sym e) ∙ get_in_prefix ([] ∷ []) (lists_of ps) 0 [] (from_grows ([] ∷ []) ps) refl

from_both : (lists : List Values) (ps qs : List Prefix) → lists_from lists (ps ++ qs) ≡ lists_from (lists_from lists ps) qs
from_both lists [] qs = refl
from_both lists (p ∷ ps) qs = from_both (lists ++ (p.last ∷ list_or_none lists p.before) ∷ []) ps qs

from_long : (lists : List Values) (ps : List Prefix) → length (lists_from lists ps) ≡ length lists + length ps
from_long lists [] = omega arith
from_long lists (p ∷ ps) =
    let more = length-append lists ((p.last ∷ list_or_none lists p.before) ∷ []) in
    omega (arith, from_long (lists ++ (p.last ∷ list_or_none lists p.before) ∷ []) ps, more)

pub long : (ps : List Prefix) → length (lists_of ps) ≡ suc (length ps)
long ps = omega (arith, from_long ([] ∷ []) ps)

pub lists_grow : (ps qs : List Prefix) → IsPrefix ps qs → IsPrefix (lists_of ps) (lists_of qs)
lists_grow ps qs p = let r = rest_of ps qs p in subst (IsPrefix (lists_of ps)) (sym (from_both ([] ∷ []) ps r.0) ∙ ap lists_of (sym r.1)) (from_grows (lists_of ps) r.0)

from_at : (lists : List Values) (ps : List Prefix) (k n : ℕ) (p : Prefix) → n ≡ length lists + k → slice_get ps k ≡ Some p → p.before < n
    → slice_get (lists_from lists ps) n ≡ Some (p.last ∷ list_or_none (lists_from lists ps) p.before)
from_at lists [] k n p is e h = absurd (none-some p e)
from_at lists (q ∷ ps) zero n p is e h =
    let next : List Values = lists ++ (q.last ∷ list_or_none lists q.before) ∷ [] in
    let at : slice_get next (length lists) ≡ Some (q.last ∷ list_or_none lists q.before) = get_last lists (q.last ∷ list_or_none lists q.before) in
    let here : n ≡ length lists = omega (arith, is) in
    let same : q ≡ p = same_Some q p e in
    let below : q.before < length lists = subst (λ (r : Prefix). r.before < length lists) (sym same) (omega (arith, h, here)) in
    let kept : list_or_none (lists_from lists (q ∷ ps)) q.before ≡ list_or_none lists q.before = list_stays lists (lists_from lists (q ∷ ps)) q.before (from_grows lists (q ∷ ps)) below in
    ap (slice_get (lists_from lists (q ∷ ps))) here
    ∙ get_in_prefix next (lists_from next ps) (length lists) (q.last ∷ list_or_none lists q.before) (from_grows next ps) at
    ∙ ap (λ vs. Some (q.last ∷ vs)) (sym kept) ∙ ap (λ (r : Prefix). Some (r.last ∷ list_or_none (lists_from lists (q ∷ ps)) r.before)) same
from_at lists (q ∷ ps) (suc k) n p is e h =
    let next : List Values = lists ++ (q.last ∷ list_or_none lists q.before) ∷ [] in
    from_at next ps k n p (omega (arith, is, length-append lists ((q.last ∷ list_or_none lists q.before) ∷ []))) e h

-- the values of an entry
pub at_entry : (ps : List Prefix) (k : ℕ) (p : Prefix) → AreEarlier ps → slice_get ps k ≡ Some p → slice_get (lists_of ps) (suc k) ≡ Some (p.last ∷ list_or_none (lists_of ps) p.before)
at_entry ps k p earlier e = from_at ([] ∷ []) ps k (suc k) p (omega arith) e (omega (arith, earlier k p e))

-- one entry more
pub earlier_inserted : (ps : List Prefix) (p : Prefix) → AreEarlier ps → p.before ≤ length ps → AreEarlier (insert_key same_prefix ps p)
earlier_inserted ps p earlier h = by_test (list_any (same_prefix p) ps)
  where
    by_test : (b : Bool) → AreEarlier (if b then ps else ps ++ p ∷ [])
    by_test true = earlier
    by_test false = λ k q e. ⊎_elim (λ old. earlier k q old) (λ new. subst (λ (r : Prefix). r.before ≤ k) new.1 (omega (arith, h, new.0))) (get_push ps p k q e)

-- the values of a prefix with one parametric more
pub longer_list : (old new : List Prefix) (p : Prefix) (n : ℕ) → IsPrefix old new → AreEarlier new → p.before ≤ length old → slice_get new n ≡ Some p
    → slice_get (lists_of new) (n + 1) ≡ Some (p.last ∷ list_or_none (lists_of old) p.before)
longer_list old new p n grows earlier h e =
    let next : n + 1 ≡ suc n = omega arith in
    ap (slice_get (lists_of new)) next ∙ at_entry new n p earlier e
    ∙ ap (λ vs. Some (p.last ∷ vs)) (list_stays (lists_of old) (lists_of new) p.before (lists_grow old new grows) (omega (arith, h, long old)))

-- ---- the last of a prefix

past_end : {A : Type 0} (xs : List A) (n : ℕ) → slice_get xs n ≡ None → length xs ≤ n
past_end [] n e = omega arith
past_end (x ∷ xs) zero e = absurd (none-some x (sym e))
past_end (x ∷ xs) (suc n) e = omega (arith, past_end xs n e)

pub last_is : (ps : List Prefix) (lists : List Values) (number : ℕ) (found : Option (Bor Prefix)) → lists_of ps ≡ lists → AreEarlier ps → 0 < number → option_copied found ≡ slice_get ps (number - 1)
    → MatchOption found ((number ≡ 0) ⊎ (length lists ≤ number)) (λ p. (p.now.before < number) × (slice_get lists number ≡ Some (p.now.last ∷ list_or_none lists p.now.before)))
last_is ps lists number None view earlier some e = inr (omega (arith, past_end ps (number - 1) (sym e), long ps, ap length view, some))
last_is ps lists number (Some p) view earlier some e =
    let next : suc (number - 1) ≡ number = omega (arith, some) in
    let before : p.now.before ≤ number - 1 = earlier (number - 1) p.now (sym e) in (
      omega (arith, before, some),
      ap (λ (ls : List Values). slice_get ls number) (sym view) ∙ ap (slice_get (lists_of ps)) (sym next) ∙ at_entry ps (number - 1) p.now earlier (sym e)
          ∙ ap (λ (ls : List Values). Some (p.now.last ∷ list_or_none ls p.now.before)) view,
    )
