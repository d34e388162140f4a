-- Sizes and counts: the size of a sum is that of the parts' sizes, and a size passes the limits that its count passes.
use Rattle.std.proofs.Common.{◌≡◌, ◌<◌, ◌≤◌, ◌+◌, ◌++◌, ◌∙◌, min, ℕ, List, [], ◌∷◌, nat_lt, Bool, true, false, if◌then◌else◌, Option, Some, None, refl, sym, arith}
use Rattle.std.proofs.lemmas.Bool.{ltb-false}
use Rattle.std.proofs.lemmas.Bool.Decides.{Decides-ltb}
use Rattle.xb_span.specs.Fault.{first_of, precedes}
use Rattle.xb_span.specs.declared.fault.Fault.{Fault}
use Rattle.xb_span.specs.declared.fault.Fault.TheVariants.{Whole}
use Rattle.xb_span.specs.declared.limit.What.TheVariants as what
use Rattle.dslx_meaning.specs.Rules.NetworkLimits.{Count, and_count, whole_count}
use Rattle.dslx_core.proofs.Lemmas.Typing.Typed.{none_some}
use Rattle.dslx.specs.declared.count.size.NetworkSize.{NetworkSize}
use Rattle.dslx.specs.Count.Sizes.{both_sizes, limit_passed, size_of_count}

pub one_size : (a b : NetworkSize) → a.procs ≡ b.procs → a.channels ≡ b.channels → a ≡ b
one_size a b p c = λ i. record { procs = p i; channels = c i }

pub one_count : (a b : Count) → a.procs ≡ b.procs → a.channels ≡ b.channels → a ≡ b
one_count a b p c = λ i. record { procs = p i; channels = c i }

cut_sum : (most a b : ℕ) → min most (min most a + min most b) ≡ min most (a + b)
cut_sum most a b = omega arith

-- the size of both is both sizes
pub size_of_both : (a b : Count) → both_sizes (size_of_count a) (size_of_count b) ≡ size_of_count (and_count a b)
size_of_both a b =
    one_size (both_sizes (size_of_count a) (size_of_count b)) (size_of_count (and_count a b)) (cut_sum 257 a.procs b.procs) (cut_sum 1025 a.channels b.channels)

-- ---- limits

-- more than there may be
past : (most n : ℕ) → nat_lt most (min (most + 1) n) ≡ nat_lt most n
past most n = by_test (nat_lt most n) refl
  where
    by_test : (b : Bool) → nat_lt most n ≡ b → nat_lt most (min (most + 1) n) ≡ b
    by_test true q = let more : most < n = (Decides-ltb most n).0 q in let cut : most < min (most + 1) n = omega (arith, more) in (Decides-ltb most (min (most + 1) n)).1 cut
    by_test false q = not_past (nat_lt most (min (most + 1) n)) refl
      where
        not_past : (c : Bool) → nat_lt most (min (most + 1) n) ≡ c → c ≡ false
        not_past false r = refl
        not_past true r = let few : n ≤ most = ltb-false most n q in let more : most < min (most + 1) n = (Decides-ltb most (min (most + 1) n)).0 r in absurd (omega (arith, few, more))

abbrev by_tests : Bool → Bool → Option Fault
by_tests a b =
    if a then Some (Whole (record { what = what.Procs; found = 257; most = 256 }))
    else if b then Some (Whole (record { what = what.Channels; found = 1025; most = 1024 }))
    else None

-- the first fault of both limits
abbrev faults_by : Bool → Bool → List Fault
faults_by a b =
    (if a then Whole (record { what = what.Procs; found = 257; most = 256 }) ∷ [] else [])
    ++ (if b then Whole (record { what = what.Channels; found = 1025; most = 1024 }) ∷ [] else [])

first_by : (a b : Bool) → by_tests a b ≡ first_of (faults_by a b)
unfolding precedes
first_by true true = refl
first_by true false = refl
first_by false true = refl
first_by false false = refl

pub limits_passed : (n : Count) → limit_passed (size_of_count n) ≡ first_of (whole_count what.Procs 256 n.procs ++ whole_count what.Channels 1024 n.channels)
limits_passed n = (λ i. by_tests (past 256 n.procs i) (past 1024 n.channels i)) ∙ first_by (nat_lt 256 n.procs) (nat_lt 1024 n.channels)

-- where none is passed both are as many as were counted
pub exact_within : (n : Count) → limit_passed (size_of_count n) ≡ None → ((size_of_count n).procs ≡ n.procs) × ((size_of_count n).channels ≡ n.channels)
exact_within n e = by_test (nat_lt 256 n.procs) (nat_lt 1024 n.channels) refl refl (sym (λ i. by_tests (past 256 n.procs i) (past 1024 n.channels i)) ∙ e)
  where
    by_test : (a b : Bool) → nat_lt 256 n.procs ≡ a → nat_lt 1024 n.channels ≡ b → by_tests a b ≡ None → ((size_of_count n).procs ≡ n.procs) × ((size_of_count n).channels ≡ n.channels)
    by_test true b p q r = none_some (Whole (record { what = what.Procs; found = 257; most = 256 })) (sym r)
    by_test false true p q r = none_some (Whole (record { what = what.Channels; found = 1025; most = 1024 })) (sym r)
    by_test false false p q r =
        let few : n.procs ≤ 256 = ltb-false 256 n.procs p in
        let few_channels : n.channels ≤ 1024 = ltb-false 1024 n.channels q in
        (omega (arith, few), omega (arith, few_channels))
