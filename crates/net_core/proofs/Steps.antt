-- One step of the machine: it makes the event that stands in the proc's reach behind those that it made.
use Rattle.std.proofs.Common.{◌≡◌, ℕ, zero, suc, ◌<◌, ◌≤◌, List, [], ◌∷◌, ◌++◌, length, drop, refl, ap, ◌∙◌, subst, arith, cond, true, false, Bool, Some, None}
use Rattle.std.specs.Prelude.{slice_get, nat_lt, ◌&&◌}
use Rattle.std.proofs.lemmas.Bool.Decides.{nat_tests}
use Rattle.std.proofs.lemmas.List.{append-nil}
use Rattle.xb_bits.specs.Word.{Word}
use Rattle.net_core.specs.declared.net.Site.{Site}
use Rattle.net_core.specs.declared.event.Event.{Event}
use Rattle.net_core.specs.declared.event.Event.TheVariants.{Recv, Send, End}
use Rattle.net_core.specs.Behavior.{Behavior, chan_at}
use Rattle.net_core.specs.Trace.{Histories}
use Rattle.net_core.specs.Cuts.{Proc, Run, Cut, IsWithin, sites_of, count_received, words_at, room_at, fits_after, longest_fit, trace_of, reach}
use Rattle.base.specs.Lists.Prefix.{IsPrefix}
use Rattle.net_core.specs.Machine.{Position, opened, moved, left_after, position_after, position_in, next_of, finds_word, goes_by}
use Rattle.base.proofs.Lemmas.Lists.Prefixes.{IsPrefix-trans, IsPrefix-append_both}
use Rattle.net_core.proofs.Resume.{trace_from, trace_opened, has_word, is_left, goes_on, ends_done, ends_waiting, trace_resumes, words_after, words_after-drop, position_grows}
use Rattle.net_core.proofs.Reach.{longest_fit-front, longest_fit_resumes, longest_fit_step, words_at_grow}

left_by_count : (xs : List Word) (k : ℕ) → is_left (drop k xs) ≡ nat_lt k (length xs)
left_by_count [] zero = refl
left_by_count [] (suc k) = grind (arith, nat_tests)
left_by_count (x ∷ xs) zero = grind (arith, nat_tests)
left_by_count (x ∷ xs) (suc k) = left_by_count xs k ∙ grind (arith, nat_tests)

-- what is found behind the events that were made is what is found first in the words that are left
pub found_by_count : (sites : List Site) (words : Histories) (t : List Event) (e : Event) → has_word sites (words_after sites t words) e ≡ finds_word sites words t e
unfolding has_word finds_word
found_by_count sites words t (Recv i) =
    ap is_left (words_after-drop sites (chan_at sites i) t words) ∙ left_by_count (words (chan_at sites i)) (count_received sites (chan_at sites i) t)
found_by_count sites words t (Send i w) = refl
found_by_count sites words t (End s) = refl

-- the tests of a step
can_go : Behavior → ℕ → Position → Histories → (ℕ → ℕ → Bool) → List Event → Bool
can_go b n at words room t =
    nat_lt at.ends n && (finds_word b.sites words t (next_of b at) && fits_after b.sites room t (next_of b at))

module _ (b : Behavior) (n : ℕ) (start : Position) (words : Histories) (room : ℕ → ℕ → Bool) (t : List Event)
    (within : IsPrefix t (longest_fit b.sites room [] (trace_from b n start words))) where
  resumed : longest_fit b.sites room [] (trace_from b n start words)
      ≡ t ++ longest_fit b.sites room t (trace_from b n (position_after b.sites start t words) (words_after b.sites t words))
  resumed =
      let whole = trace_from b n start words in
      let f = IsPrefix-trans _ _ _ within (longest_fit-front b.sites room [] whole) in
      let e = trace_resumes b n t start words f in
      let g = subst (λ xs. IsPrefix t (longest_fit b.sites room [] xs)) e within in
      ap (λ xs. longest_fit b.sites room [] xs) e ∙ longest_fit_resumes b.sites room t [] _ g

  -- a proc that can go makes an event within its reach
  goes_within : (l : (position_after b.sites start t words).ends < n)
      → finds_word b.sites words t (next_of b (position_after b.sites start t words)) ≡ true
      → fits_after b.sites room t (next_of b (position_after b.sites start t words)) ≡ true
      → IsPrefix (t ++ next_of b (position_after b.sites start t words) ∷ []) (longest_fit b.sites room [] (trace_from b n start words))
  goes_within l found fits =
      let at = position_after b.sites start t words in
      let on = goes_on b n at (words_after b.sites t words) l (found_by_count b.sites words t (next_of b at) ∙ found) in
      let rest = trace_from b n (moved b.sites at (next_of b at) (words_after b.sites t words)) (left_after b.sites (next_of b at) (words_after b.sites t words)) in
      let e : longest_fit b.sites room [] (trace_from b n start words) ≡ t ++ next_of b at ∷ longest_fit b.sites room (t ++ next_of b at ∷ []) rest =
      resumed ∙ ap (λ xs. t ++ xs) (ap (λ xs. longest_fit b.sites room t xs) on.rest ∙ (longest_fit_step b.sites room t (next_of b at) rest ∙ ap (λ c. cond c (next_of b at ∷ longest_fit b.sites room (t ++ next_of b at ∷ []) rest) []) fits)) in
      rw e (IsPrefix-append_both t (next_of b at ∷ []) _ (refl, tt))

  -- one that can't has come as far as it can
  waits_done : n ≤ (position_after b.sites start t words).ends → longest_fit b.sites room [] (trace_from b n start words) ≡ t
  waits_done l =
      resumed ∙ (ap (λ xs. t ++ longest_fit b.sites room t xs) (ends_done b n (position_after b.sites start t words) (words_after b.sites t words) l) ∙ (unfold longest_fit in append-nil t))

  waits_word : (position_after b.sites start t words).ends < n
      → finds_word b.sites words t (next_of b (position_after b.sites start t words)) ≡ false
      → longest_fit b.sites room [] (trace_from b n start words) ≡ t
  waits_word l found =
      let at = position_after b.sites start t words in
      let e = ends_waiting b n at (words_after b.sites t words) l (found_by_count b.sites words t (next_of b at) ∙ found) in
      resumed ∙ (ap (λ xs. t ++ longest_fit b.sites room t xs) e ∙ (unfold longest_fit in append-nil t))

  waits_room : (l : (position_after b.sites start t words).ends < n)
      → finds_word b.sites words t (next_of b (position_after b.sites start t words)) ≡ true
      → fits_after b.sites room t (next_of b (position_after b.sites start t words)) ≡ false
      → longest_fit b.sites room [] (trace_from b n start words) ≡ t
  waits_room l found fits =
      let at = position_after b.sites start t words in
      let on = goes_on b n at (words_after b.sites t words) l (found_by_count b.sites words t (next_of b at) ∙ found) in
      let rest = trace_from b n (moved b.sites at (next_of b at) (words_after b.sites t words)) (left_after b.sites (next_of b at) (words_after b.sites t words)) in
      resumed ∙ (ap (λ xs. t ++ xs) (ap (λ xs. longest_fit b.sites room t xs) on.rest ∙ (longest_fit_step b.sites room t (next_of b at) rest ∙ ap (λ c. cond c (next_of b at ∷ longest_fit b.sites room (t ++ next_of b at ∷ []) rest) []) fits)) ∙ append-nil t)

lt_true : (m n : ℕ) → nat_lt m n ≡ true → m < n
lt_true m n h = grind (arith, nat_tests)

lt_false : (m n : ℕ) → nat_lt m n ≡ false → n ≤ m
lt_false m n h = grind (arith, nat_tests)

-- what three tests say together
all_true : (a b c : Bool) → a && (b && c) ≡ true → (a ≡ true) × (b ≡ true) × (c ≡ true)
all_true true true true h = (refl, refl, refl)
all_true true true false h = cc
all_true true false c h = cc
all_true false b c h = cc

some_false : {A : Type 0} (a b c : Bool) → a && (b && c) ≡ false → (a ≡ false → A) → (a ≡ true → b ≡ false → A) → (a ≡ true → b ≡ true → c ≡ false → A) → A
some_false false b c h x y z = x refl
some_false true false c h x y z = y refl refl
some_false true true false h x y z = z refl refl refl
some_false true true true h x y z = cc

pub reach_is : (run : Run) (cut : Cut) (p : ℕ) (proc : Proc) → slice_get run.procs p ≡ Some proc
    → reach run cut p ≡ longest_fit proc.behavior.sites (room_at run cut) [] (trace_from proc.behavior run.activations (opened proc) (words_at run cut))
unfolding reach trace_of
reach_is run cut p proc e =
    ap (λ o. longest_fit (sites_of o) (room_at run cut) [] (trace_of run.activations (words_at run cut) o)) e
    ∙ ap (λ xs. longest_fit proc.behavior.sites (room_at run cut) [] xs) (trace_opened proc run.activations (words_at run cut))

pub reach_none : (run : Run) (cut : Cut) (p : ℕ) → slice_get run.procs p ≡ None → reach run cut p ≡ []
unfolding reach trace_of longest_fit
reach_none run cut p e = ap (λ o. longest_fit (sites_of o) (room_at run cut) [] (trace_of run.activations (words_at run cut) o)) e

-- a step's event lies within the proc's reach
pub goes_extends : (run : Run) (cut : Cut) (p : ℕ) (proc : Proc) → slice_get run.procs p ≡ Some proc → IsPrefix (cut p) (reach run cut p)
    → goes_by run cut p (Some proc) ≡ true → IsPrefix (cut p ++ next_of proc.behavior (position_in run cut p proc) ∷ []) (reach run cut p)
unfolding goes_by
goes_extends run cut p proc e f h =
    let r = reach_is run cut p proc e in
    let g = rw r at f in
    let tests = all_true _ _ _ h in
    rw r (goes_within proc.behavior run.activations (opened proc) (words_at run cut) (room_at run cut) (cut p) g (lt_true _ _ tests.0) tests.1 tests.2)

-- a proc that can't go has made all of its reach
pub stays_whole : (run : Run) (cut : Cut) (p : ℕ) (proc : Proc) → slice_get run.procs p ≡ Some proc → IsPrefix (cut p) (reach run cut p)
    → goes_by run cut p (Some proc) ≡ false → reach run cut p ≡ cut p
unfolding goes_by
stays_whole run cut p proc e f h =
    let r = reach_is run cut p proc e in
    let g = rw r at f in
    r ∙ some_false _ _ _ h
    (λ l. waits_done proc.behavior run.activations (opened proc) (words_at run cut) (room_at run cut) (cut p) g (lt_false _ _ l))
    (λ l k. waits_word proc.behavior run.activations (opened proc) (words_at run cut) (room_at run cut) (cut p) g (lt_true _ _ l) k)
    (λ l k m. waits_room proc.behavior run.activations (opened proc) (words_at run cut) (room_at run cut) (cut p) g (lt_true _ _ l) k m)

-- what a proc has made within its reach leaves it at the same position, however much more others send
pub position_stays : (run : Run) (cut more : Cut) (p : ℕ) (proc : Proc) → slice_get run.procs p ≡ Some proc → IsPrefix (cut p) (reach run cut p) → IsWithin cut more
    → position_after proc.behavior.sites (opened proc) (cut p) (words_at run cut) ≡ position_after proc.behavior.sites (opened proc) (cut p) (words_at run more)
position_stays run cut more p proc e f w =
    let r = reach_is run cut p proc e in
    let g = IsPrefix-trans _ _ _ (rw r at f) (longest_fit-front proc.behavior.sites (room_at run cut) [] _) in
    position_grows proc.behavior run.activations (cut p) (opened proc) (words_at run cut) (words_at run more) (words_at_grow run cut more w) g
