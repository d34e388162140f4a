-- What a configuration shows while procs are let go one after another.
use Rattle.std.proofs.Common.{◌≡◌, ℕ, ◌+◌, ◌<◌, length, sym, ap, ◌∙◌, arith, true, false, Bool, MatchBool, inl, inr}
use Rattle.std.specs.Prelude.{sum_by, ◌⊎◌}
use Rattle.std.proofs.lemmas.Bool.{cases_eq}
use Rattle.net_core.specs.declared.config.Config.{Config}
use Rattle.net_core.specs.Cuts.{Run, Cut, final_cut}
use Rattle.net_core.specs.Machine.{goes, stepped}
use Rattle.net_core.specs.Shows.{Shows, IsUnchanged, events_left, progress_left}
use Rattle.net_core.proofs.Lemmas.{stuck_shows_the_final_cut, shows_unchanged}
use Rattle.net_run.specs.Rounds.{Advances, AllAdvance, ShowsSince}

-- some cut is shown
pub shows_some : (run : Run) (cut : Cut) (config : Config) (moved : Bool) → ShowsSince run cut config moved → (next : Cut) × Shows run next config
shows_some run cut config true s = s
shows_some run cut config false s = (cut, s)

pub events_same : (old new : Config) → IsUnchanged old new → events_left new ≡ events_left old
unfolding events_left
events_same old new same =
    ap (λ n. sum_by (progress_left n) new.procs.items) same.activations ∙ ap (λ ps. sum_by (progress_left old.activations) ps) same.procs

-- a count that fell, or stayed
pub falls_on : (moved : Bool) (a b c : ℕ) → MatchBool moved (b < a) (b ≡ a) → c < b → c < a
falls_on true a b c h l = omega (arith, h, l)
falls_on false a b c h l = omega (arith, h, l)

pub falls_same : (moved : Bool) (a b c : ℕ) → MatchBool moved (b < a) (b ≡ a) → c ≡ b → MatchBool moved (c < a) (c ≡ a)
falls_same true a b c h e = omega (arith, h, e)
falls_same false a b c h e = e ∙ h

-- a proc was let go until a step changed nothing
pub advances_end : (run : Run) (cut : Cut) (p : ℕ) (old new : Config) (moved : Bool) → ShowsSince run cut old moved
    → ((r : Cut) → Shows run r old → (false ≡ goes run r p) × Shows run (stepped run r p) new) → IsUnchanged old new → Advances run cut p new moved
advances_end run cut p old new true s h same = (s.0, shows_unchanged run s.0 old new s.1 same)
advances_end run cut p old new false s h same = (shows_unchanged run cut old new s same, sym (h cut s).0)

pub passes_some : (run : Run) (cut : Cut) (count : ℕ) (config : Config) (moved : Bool) → AllAdvance run cut count config moved → (next : Cut) × Shows run next config
passes_some run cut count config true s = s
passes_some run cut count config false s = (cut, s.0)

advanced_some : (run : Run) (cut : Cut) (p : ℕ) (new : Config) (moved : Bool) → Advances run cut p new moved → (next : Cut) × Shows run next new
advanced_some run cut p new true s = s
advanced_some run cut p new false s = (cut, s.0)

-- one proc more was let go, and made an event
pub passes_moved : (run : Run) (cut : Cut) (p count : ℕ) (old new : Config) (moved : Bool) → AllAdvance run cut p old moved
    → ((r : Cut) → Shows run r old → Advances run r p new true) → AllAdvance run cut count new true
passes_moved run cut p count old new moved s h =
    let at = passes_some run cut p old moved s in
    h at.0 at.1

-- one proc more was let go, and made none
pub passes_stayed : (run : Run) (cut : Cut) (p : ℕ) (old new : Config) (moved : Bool) → AllAdvance run cut p old moved
    → ((r : Cut) → Shows run r old → Advances run r p new false) → AllAdvance run cut (p + 1) new moved
passes_stayed run cut p old new true s h = let t = h s.0 s.1 in (s.0, t.0)
passes_stayed run cut p old new false s h =
    let t = h cut s.0 in
    (t.0, λ q l. go q l (cases_eq q p) t.1)
  where
    go : (q : ℕ) → q < p + 1 → (q ≡ p) ⊎ (q ≡ p → ⊥) → goes run cut p ≡ false → goes run cut q ≡ false
    go q l (inl e) stuck = ap (λ k. goes run cut k) e ∙ stuck
    go q l (inr ne) stuck = s.1 q (omega (arith, l, ne))

-- a round in which no proc could go shows the final cut
pub round_ends : (run : Run) (cut : Cut) (count : ℕ) (new : Config) → AllAdvance run cut count new false → length run.procs ≡ count → Shows run (final_cut run) new
round_ends run cut count new s e =
    stuck_shows_the_final_cut run cut new s.0 (λ p l. s.1 p (omega (arith, l, e)))
