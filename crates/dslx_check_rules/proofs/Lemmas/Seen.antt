-- What is kept of all faults of two lists is what is kept of what is kept of each.
use Rattle.std.proofs.Common.{◌≡◌, ◌≤◌, ◌<◌, ◌+◌, ◌-◌, ◌^◌, ◌++◌, ◌||◌, ℕ, List, [], ◌∷◌, Bool, true, false, is_some, not, min, refl, sym, ap, ◌∙◌, arith, lt-ltb, le-ltb}
use Rattle.std.specs.Prelude.{Option, Some, None, if◌then◌else◌, is_none}
use Rattle.std.proofs.lemmas.List.Folds.{list_any-append}
use mathlib.Core.Bool.{true≢false}
use Rattle.xb_span.specs.Fault.{precedes, earlier, first_from, first_of}
use Rattle.xb_span.specs.declared.fault.Fault.{Fault}
use Rattle.xb_span.specs.declared.fault.Fault.TheVariants.{Passed}
use Rattle.xb_span.specs.declared.limit.What.{What}
use Rattle.dslx_meaning.specs.Rules.TypeEnvs.{is_rule, has_broken, found_number, passes, passes_count}
use Rattle.dslx_meaning.specs.Rules.ConstantRules.{is_empty}
use Rattle.dslx_check_rules.specs.Seen.{named, seen}
use Rattle.dslx_check_rules.specs.declared.faults.Faults.{Faults}
use Rattle.dslx_check_rules.proofs.Lemmas.Orders.{precedes_trans, not_precedes_trans}

-- ---- the fault that is named

none_named : (x : Option Fault) → named None x ≡ x
none_named None = refl
none_named (Some f) = refl

pick : (b : Bool) (p q : Fault) → named None (if b then Some p else Some q) ≡ (if b then Some p else Some q)
pick true p q = refl
pick false p q = refl

-- of three faults
named_of_three : (f g h : Fault) (p q r : Bool) → precedes g f ≡ p → precedes h g ≡ q → precedes h f ≡ r
    → earlier (if p then Some g else Some f) h ≡ named (Some f) (if q then Some h else Some g)
named_of_three f g h true true true p q r = ap (λ b. if b then Some h else Some g) q ∙ sym (ap (λ b. if b then Some h else Some f) r)
named_of_three f g h true true false p q r = absurd (true≢false (sym (precedes_trans h g f q p) ∙ r))
named_of_three f g h true false r' p q r = ap (λ b. if b then Some h else Some g) q ∙ sym (ap (λ b. if b then Some g else Some f) p)
named_of_three f g h false true r' p q r = refl
named_of_three f g h false false r' p q r = ap (λ b. if b then Some h else Some f) (not_precedes_trans h g f q p) ∙ sym (ap (λ b. if b then Some g else Some f) p)

named_assoc : (a b c : Option Fault) → named (named a b) c ≡ named a (named b c)
named_assoc a b None = refl
named_assoc a None (Some h) = refl
named_assoc None (Some g) (Some h) = sym (pick (precedes h g) h g)
named_assoc (Some f) (Some g) (Some h) = named_of_three f g h (precedes g f) (precedes h g) (precedes h f) refl refl refl

pub first_from-held : (held : Option Fault) (fs : List Fault) → first_from held fs ≡ named held (first_of fs)
first_from-held held [] = refl
first_from-held held (f ∷ fs) =
    first_from-held (earlier held f) fs ∙ named_assoc held (Some f) (first_of fs) ∙ ap (named held) (sym (first_from-held (Some f) fs))

first_from-append : (held : Option Fault) (a b : List Fault) → first_from held (a ++ b) ≡ first_from (first_from held a) b
first_from-append held [] b = refl
first_from-append held (f ∷ fs) b = first_from-append (earlier held f) fs b

pub first_of-append : (a b : List Fault) → first_of (a ++ b) ≡ named (first_of a) (first_of b)
first_of-append a b = first_from-append None a b ∙ first_from-held (first_of a) b

pub seen-append : (a b : List Fault) → seen (a ++ b) ≡ record { first = named (first_of a) (first_of b); broken = has_broken a || has_broken b }
seen-append a b = λ i. record { first = first_of-append a b i; broken = list_any-append is_rule a b i }

pub both_seen : (a b : List Fault) (x y r : Faults) → x ≡ seen a → y ≡ seen b → r.first ≡ named x.first y.first → r.broken ≡ (x.broken || y.broken) → r ≡ seen (a ++ b)
both_seen a b x y r p q f g =
    (λ i. record {
      first = (f ∙ (λ j. named (p j).first (q j).first)) i;
      broken = (g ∙ (λ j. (p j).broken || (q j).broken)) i;
    }) ∙ sym (seen-append a b)

pub or_first : (x y : Bool) → x ≡ true → x ≡ (x || y)
or_first x y e = e ∙ sym (ap (λ b. b || y) e)

pub or_second : (x y : Bool) → x ≡ false → y ≡ (x || y)
or_second x y e = sym (ap (λ b. b || y) e)

-- ---- no fault

pub not-not : (b : Bool) → b ≡ not (not b)
not-not true = refl
not-not false = refl

there_still : (f : Fault) (x : Option Fault) → is_some (named (Some f) x) ≡ true
there_still f None = refl
there_still f (Some g) = by (precedes g f)
  where
    by : (b : Bool) → is_some (if b then Some g else Some f) ≡ true
    by true = refl
    by false = refl

none_of : (faults : List Fault) → is_none (first_of faults) ≡ is_empty faults
none_of [] = refl
none_of (f ∷ fs) = ap not (ap is_some (first_from-held (Some f) fs) ∙ there_still f (first_of fs))

pub none_seen : (faults : List Fault) (x : Faults) → x ≡ seen faults → is_none x.first ≡ is_empty faults
none_seen faults x e = ap (λ y. is_none y.first) e ∙ none_of faults

-- ---- quantities

module _ (what : What) (most end n : ℕ) where
  pub passed : (found : ℕ) → most < 2 ^ 64 - 1 → found ≡ found_number n → most < found
      → record { first = Some (Passed end (record { what = what; found = found; most = most })); broken = false } ≡ seen (passes what most end n)
  passed found small is h =
      let past : most < n = omega (arith, is) in
      (λ i. record { first = Some (Passed end (record { what = what; found = is i; most = most })); broken = false })
      ∙ sym (ap (λ b. seen (if b then Passed end (record { what = what; found = found_number n; most = most }) ∷ [] else [])) (lt-ltb most n past))

  pub not_passed : (found : ℕ) → most < 2 ^ 64 - 1 → found ≡ found_number n → found ≤ most → seen [] ≡ seen (passes what most end n)
  not_passed found small is h =
      let within : n ≤ most = omega (arith, is) in
      sym (ap (λ b. seen (if b then Passed end (record { what = what; found = found_number n; most = most }) ∷ [] else [])) (le-ltb most n within))

  pub count_passed : (count : ℕ) → count ≡ min (most + 1) n → most < count
      → record { first = Some (Passed end (record { what = what; found = most + 1; most = most })); broken = false } ≡ seen (passes_count what most end n)
  count_passed count is h =
      let past : most < n = omega (arith, is) in
      sym (ap (λ b. seen (if b then Passed end (record { what = what; found = most + 1; most = most }) ∷ [] else [])) (lt-ltb most n past))

  pub count_not_passed : (count : ℕ) → count ≡ min (most + 1) n → count ≤ most → seen [] ≡ seen (passes_count what most end n)
  count_not_passed count is h =
      let within : n ≤ most = omega (arith, is) in
      sym (ap (λ b. seen (if b then Passed end (record { what = what; found = most + 1; most = most }) ∷ [] else [])) (le-ltb most n within))
