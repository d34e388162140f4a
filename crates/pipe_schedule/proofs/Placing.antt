-- One node: the latest of its sources, and where it is put behind them.
use Rattle.std.proofs.Common.{◌≡◌, ℕ, zero, suc, ◌+◌, ◌<◌, ◌≤◌, max, List, [], ◌∷◌, length, Bool, true, false, Option, Some, None, refl, sym, ap, subst, arith, ◌⊎◌, inl, inr, ⊎_elim}
use Rattle.std.specs.Prelude.{nat_lt, nat_le, slice_get, if◌then◌else◌, Contains}
use Rattle.std.proofs.lemmas.Bool.{cases_lt, ltb-true, leb-true}
use Rattle.std.proofs.lemmas.Bool.Decides.{nat_tests}
use Rattle.std.proofs.lemmas.Option.{slice_get-get_or}
use Rattle.pipe_schedule.specs.declared.slot.Slot.{Slot}
use Rattle.pipe_schedule.specs.Inner.Slots.{later, later_if, latest, slotted, no_slot, slot_at}

le_from_not_less : (a b : ℕ) → nat_lt a b ≡ false → b ≤ a
le_from_not_less a b h = grind (arith, nat_tests)

less_from_not_le : (a b : ℕ) → nat_le a b ≡ false → b < a
less_from_not_le a b h = grind (arith, nat_tests)

-- ---- the later of two

pub data LaterIs (a b : Slot) : Slot → Type 0 where
  second : a.stage < b.stage → LaterIs a b b
  first : b.stage < a.stage → LaterIs a b a
  both : a.stage ≡ b.stage → LaterIs a b (record { stage = a.stage; time = max a.time b.time })

pub later_is : (a b : Slot) → LaterIs a b (later a b)
later_is a b = go (nat_lt a.stage b.stage) (nat_lt b.stage a.stage) refl refl
  where
    go : (x y : Bool) → nat_lt a.stage b.stage ≡ x → nat_lt b.stage a.stage ≡ y → LaterIs a b (if x then b else (if y then a else record { stage = a.stage; time = max a.time b.time }))
    go true y e f = second (ltb-true a.stage b.stage e)
    go false true e f = first (ltb-true b.stage a.stage f)
    go false false e f = both (let p = le_from_not_less a.stage b.stage e in let q = le_from_not_less b.stage a.stage f in omega arith)

-- the second is no earlier, and in one stage no sooner
pub record IsUnder (a b : Slot) : Type 0 where
  pub stage : a.stage ≤ b.stage
  pub time : b.stage ≡ a.stage → a.time ≤ b.time

pub under_refl : (a : Slot) → IsUnder a a
under_refl a = record { stage = omega arith; time = λ e. omega arith }

pub under_trans : (a b c : Slot) → IsUnder a b → IsUnder b c → IsUnder a c
under_trans a b c h k = record {
  stage = let x = h.stage in let y = k.stage in omega arith;
  time = time;
}
  where
    time : c.stage ≡ a.stage → a.time ≤ c.time
    time e =
        let x = h.stage in
        let y = k.stage in
        let f : b.stage ≡ a.stage = omega arith in
        let g : c.stage ≡ b.stage = omega arith in
        let t = h.time f in
        let u = k.time g in
        omega arith

under_first : (a b c : Slot) → LaterIs a b c → IsUnder a c
under_first a b c (second h) = record { stage = omega arith; time = λ e. absurd (omega arith) }
under_first a b c (first h) = under_refl a
under_first a b c (both h) = record { stage = omega arith; time = λ e. omega arith }

under_second : (a b c : Slot) → LaterIs a b c → IsUnder b c
under_second a b c (second h) = under_refl b
under_second a b c (first h) = record { stage = omega arith; time = λ e. absurd (omega arith) }
under_second a b c (both h) = record { stage = omega arith; time = λ e. omega arith }

pub one_of : (a b c : Slot) → LaterIs a b c → (c ≡ a) ⊎ (c ≡ b)
one_of a b c (second h) = inr refl
one_of a b c (first h) = inl refl
one_of a b c (both h) = ⊎_elim
    (λ less. inr (let e : max a.time b.time ≡ b.time = omega arith in λ i. record { stage = h i; time = e i }))
    (λ past. inl (let e : max a.time b.time ≡ a.time = omega arith in λ i. record { stage = a.stage; time = e i }))
    (cases_lt a.time b.time)

-- ---- the latest of several

pub contains_cases : (y x : ℕ) (ys : List ℕ) → Contains (y ∷ ys) x → (y ≡ x) ⊎ Contains ys x
contains_cases y x ys (zero, l, e) = inl e
contains_cases y x ys (suc k, l, e) = inr (k, omega arith, e)

pub contains_none : (x : ℕ) → Contains [] x → ⊥
contains_none x (k, l, e) = omega arith

pub contains_first : (x : ℕ) (xs : List ℕ) → Contains (x ∷ xs) x
contains_first x xs = (0, omega arith, refl)

pub contains_more : (y x : ℕ) (ys : List ℕ) → Contains ys x → Contains (y ∷ ys) x
contains_more y x ys (k, l, e) = (suc k, omega arith, e)

under_if : (at : Slot) (o : Option Slot) → IsUnder at (later_if at o)
under_if at None = under_refl at
under_if at (Some s) = under_first at s (later at s) (later_is at s)

pub latest_over : (slots : List Slot) (at : Slot) (js : List ℕ) → IsUnder at (latest slots at js)
latest_over slots at [] = under_refl at
latest_over slots at (j ∷ js) = under_trans at (later_if at (slice_get slots j)) (latest slots at (j ∷ js)) (under_if at (slice_get slots j)) (latest_over slots (later_if at (slice_get slots j)) js)

pub there : (slots : List Slot) (at : Slot) (j : ℕ) → j < length slots → later_if at (slice_get slots j) ≡ later at (slot_at slots j)
there slots at j h = ap (later_if at) (slice_get-get_or slots j no_slot h)

source_next : (slots : List Slot) (at : Slot) (i : ℕ) (js : List ℕ) (j : ℕ) → j < length slots → (i ≡ j) ⊎ Contains js j → (Contains js j → IsUnder (slot_at slots j) (latest slots at (i ∷ js))) → IsUnder (slot_at slots j) (latest slots at (i ∷ js))
source_next slots at i js j h (inl e) rest =
    let l : i < length slots = omega arith in
    let first : IsUnder (slot_at slots i) (later_if at (slice_get slots i)) = subst (IsUnder (slot_at slots i)) (sym (there slots at i l)) (under_second at (slot_at slots i) (later at (slot_at slots i)) (later_is at (slot_at slots i))) in
    subst (λ x. IsUnder (slot_at slots x) (latest slots at (i ∷ js))) e
    (under_trans (slot_at slots i) (later_if at (slice_get slots i)) (latest slots at (i ∷ js)) first (latest_over slots (later_if at (slice_get slots i)) js))
source_next slots at i js j h (inr c) rest = rest c

pub latest_source : (slots : List Slot) (at : Slot) (js : List ℕ) (j : ℕ) → Contains js j → j < length slots → IsUnder (slot_at slots j) (latest slots at js)
latest_source slots at [] j c h = absurd (contains_none j c)
latest_source slots at (i ∷ js) j c h = source_next slots at i js j h (contains_cases i j js c) (λ k. latest_source slots (later_if at (slice_get slots i)) js j k h)

-- the latest is that of a source, or where it began
pub data LatestIs (slots : List Slot) (at : Slot) (js : List ℕ) : Slot → Type 0 where
  start : LatestIs slots at js at
  source : (j : ℕ) → Contains js j → LatestIs slots at js (slot_at slots j)

more_is : (slots : List Slot) (at : Slot) (i : ℕ) (js : List ℕ) (next s : Slot) → (next ≡ at) ⊎ (next ≡ slot_at slots i) → LatestIs slots next js s → LatestIs slots at (i ∷ js) s
more_is slots at i js next s (inl e) start = subst (λ x. LatestIs slots at (i ∷ js) x) (sym e) start
more_is slots at i js next s (inr e) start = subst (λ x. LatestIs slots at (i ∷ js) x) (sym e) (source i (contains_first i js))
more_is slots at i js next s o (source j c) = source j (contains_more i j js c)

pub latest_is : (slots : List Slot) (at : Slot) (js : List ℕ) → ((j : ℕ) → Contains js j → j < length slots) → LatestIs slots at js (latest slots at js)
latest_is slots at [] h = start
latest_is slots at (i ∷ js) h =
    let e = there slots at i (h i (contains_first i js)) in
    let o = one_of at (slot_at slots i) (later at (slot_at slots i)) (later_is at (slot_at slots i)) in
    more_is slots at i js (later_if at (slice_get slots i)) (latest slots at (i ∷ js)) (subst (λ x. (x ≡ at) ⊎ (x ≡ slot_at slots i)) (sym e) o)
    (latest_is slots (later_if at (slice_get slots i)) js (λ j c. h j (contains_more i j js c)))

-- ---- where a node is put

pub data PlacedIs (clock delay : ℕ) (at : Slot) : Slot → Type 0 where
  here : at.time + delay ≤ clock → PlacedIs clock delay at (record { stage = at.stage; time = at.time + delay })
  next : clock < at.time + delay → PlacedIs clock delay at (record { stage = suc at.stage; time = delay })

pub placed_is : (clock delay : ℕ) (at : Slot) → PlacedIs clock delay at (slotted clock delay at)
placed_is clock delay at = go (nat_le (at.time + delay) clock) refl
  where
    go : (x : Bool) → nat_le (at.time + delay) clock ≡ x → PlacedIs clock delay at (if x then record { stage = at.stage; time = at.time + delay } else record { stage = suc at.stage; time = delay })
    go true e = here (leb-true (at.time + delay) clock e)
    go false e = next (less_from_not_le (at.time + delay) clock e)

pub placed_over : (clock delay : ℕ) (at s : Slot) → PlacedIs clock delay at s → at.stage ≤ s.stage
placed_over clock delay at s (here h) = omega arith
placed_over clock delay at s (next h) = omega arith

pub placed_most : (clock delay : ℕ) (at s : Slot) → PlacedIs clock delay at s → s.stage ≤ suc at.stage
placed_most clock delay at s (here h) = omega arith
placed_most clock delay at s (next h) = omega arith

pub placed_takes : (clock delay : ℕ) (at s : Slot) → PlacedIs clock delay at s → delay ≤ s.time
placed_takes clock delay at s (here h) = omega arith
placed_takes clock delay at s (next h) = omega arith

-- behind a source of its own stage it is later by its delay
pub placed_adds : (clock delay : ℕ) (at s before : Slot) → IsUnder before at → PlacedIs clock delay at s → before.stage ≡ s.stage → before.time + delay ≤ s.time
placed_adds clock delay at s before u (here h) e = let t = u.time (sym e) in omega arith
placed_adds clock delay at s before u (next h) e = let t = u.stage in absurd (omega arith)

pub placed_within : (clock delay : ℕ) (at s : Slot) → delay ≤ clock → PlacedIs clock delay at s → s.time ≤ clock
placed_within clock delay at s d (here h) = h
placed_within clock delay at s d (next h) = d
