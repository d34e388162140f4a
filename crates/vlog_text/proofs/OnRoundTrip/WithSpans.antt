-- A module without fault has none wherever its parts stand.
use Rattle.std.proofs.Common.{◌≡◌, ◌∙◌, ℕ, suc, Bool, true, false, List, [], ◌∷◌, ◌++◌, Some, None, refl, sym, ap}
use Rattle.std.specs.Prelude.{get_or, if◌then◌else◌}
use Rattle.std.specs.List.{AllByRecursion}
use Rattle.xb_span.specs.declared.fault.Fault.{Fault}
use Rattle.xb_span.specs.Fault.{precedes}
use Rattle.xb_span.specs.Spans.{nowhere}
use Rattle.vlog_tree.specs.declared.module.VModule.{VModule}
use Rattle.vlog_tree.specs.Signals.{Declared, signals}
use Rattle.vlog_tree.specs.declared.verifier.part_spans.PartSpans.{PartSpans}
use Rattle.vlog_tree.specs.Verifier.Checks.{PartCheck, note, noted, walk, width_at}
use Rattle.vlog_tree.specs.Verifier.Parts.{assignment_checks, is_among, port_checks, see_name, see_set, see_target, set_checks, signal_checks}
use Rattle.vlog_tree.specs.Verifier.Ports.{Clock, due_behind}
use Rattle.vlog_tree.specs.Verifier.WithSpans.{no_spans, signal_span}
use Rattle.vlog_tree.specs.Verifier.Verified.{IsVerdict, Loops, assignments_checks, clocks_checks, end_check, first, literals_checks, module_checks, module_literals, none, ports_checks, resets_checks, set_targets, signals_checks, targets}

-- ---- checks

-- no check is broken
abbrev pub AllHold : List PartCheck → Type 0
AllHold checks = AllByRecursion (λ c. c.broken ≡ false) checks

kept_fault : (checks : List PartCheck) (f g : Fault) → ((h : Fault) → None ≡ noted (Some h) checks → ⊥) → (b : Bool) → None ≡ noted (if b then Some g else Some f) checks → ⊥
kept_fault checks f g stays true e = stays g e
kept_fault checks f g stays false e = stays f e

kept_still : (checks : List PartCheck) (f g : Fault) → ((h : Fault) → None ≡ noted (Some h) checks → ⊥) → (b : Bool) → None ≡ noted (note b g (Some f)) checks → ⊥
kept_still checks f g stays true e = kept_fault checks f g stays (precedes g f) e
kept_still checks f g stays false e = stays f e

fault_stays : (checks : List PartCheck) (f : Fault) → None ≡ noted (Some f) checks → ⊥
fault_stays [] f e = cc
fault_stays (c ∷ checks) f e = kept_still checks f c.fault (fault_stays checks) c.broken e

holds_first : (c : PartCheck) (checks : List PartCheck) → (None ≡ noted None checks → AllHold checks) → (b : Bool) → c.broken ≡ b → None ≡ noted (note b c.fault None) checks → AllHold (c ∷ checks)
holds_first c checks more true is e = absurd (fault_stays checks c.fault e)
holds_first c checks more false is e = (is, more e)

pub all_hold : (checks : List PartCheck) → None ≡ noted None checks → AllHold checks
all_hold [] e = tt
all_hold (c ∷ checks) e = holds_first c checks (all_hold checks) c.broken refl e

none_noted : (checks : List PartCheck) → AllHold checks → None ≡ noted None checks
none_noted [] h = refl
none_noted (c ∷ checks) h = none_noted checks h.1 ∙ ap (λ b. noted (note b c.fault None) checks) (sym h.0)

pub prefix_holds : {A : Type 0} (P : A → Type 0) (xs ys : List A) → AllByRecursion P (xs ++ ys) → AllByRecursion P xs
prefix_holds P [] ys h = tt
prefix_holds P (x ∷ xs) ys h = (h.0, prefix_holds P xs ys h.1)

pub back_holds : {A : Type 0} (P : A → Type 0) (xs ys : List A) → AllByRecursion P (xs ++ ys) → AllByRecursion P ys
back_holds P [] ys h = h
back_holds P (x ∷ xs) ys h = back_holds P xs ys h.1

pub both_hold : {A : Type 0} (P : A → Type 0) (xs ys : List A) → AllByRecursion P xs → AllByRecursion P ys → AllByRecursion P (xs ++ ys)
both_hold P [] ys h k = k
both_hold P (x ∷ xs) ys h k = (h.0, both_hold P xs ys h.1 k)

prefix_checks : (xs ys : List PartCheck) → AllHold (xs ++ ys) → AllHold xs
prefix_checks xs ys h = prefix_holds (λ c. c.broken ≡ false) xs ys h

back_checks : (xs ys : List PartCheck) → AllHold (xs ++ ys) → AllHold ys
back_checks xs ys h = back_holds (λ c. c.broken ≡ false) xs ys h

both_checks : (xs ys : List PartCheck) → AllHold xs → AllHold ys → AllHold (xs ++ ys)
both_checks xs ys h k = both_hold (λ c. c.broken ≡ false) xs ys h k

-- a walk that checks the same
same_walk : {S A : Type 0} (f g : S → ℕ → A → List PartCheck) (see : S → A → S) → ((seen : S) (i : ℕ) (x : A) → AllHold (f seen i x) → AllHold (g seen i x))
    → (seen : S) (i : ℕ) (xs : List A) → AllHold (walk f see seen i xs) → AllHold (walk g see seen i xs)
same_walk f g see same seen i [] h = tt
same_walk f g see same seen i (x ∷ xs) h =
    both_checks (g seen i x) (walk g see (see seen x) (suc i) xs)
    (same seen i x (prefix_checks (f seen i x) (walk f see (see seen x) (suc i) xs) h))
    (same_walk f g see same (see seen x) (suc i) xs (back_checks (f seen i x) (walk f see (see seen x) (suc i) xs) h))

-- ---- places

module _ (m : VModule) (part_spans : PartSpans) where
  signals_anywhere : AllHold (signals_checks m no_spans) → AllHold (signals_checks m part_spans)
  signals_anywhere h =
      same_walk (λ names s d. signal_checks m (targets m.assignments) (signal_span m no_spans s) names s d) (λ names s d. signal_checks m (targets m.assignments) (signal_span m part_spans s) names s d) see_name
      (λ seen i x k. k) [] 0 (signals m) h

  ports_anywhere : AllHold (ports_checks m no_spans) → AllHold (ports_checks m part_spans)
  ports_anywhere h =
      same_walk (λ due i p. port_checks (get_or no_spans.ports i nowhere) due p) (λ due i p. port_checks (get_or part_spans.ports i nowhere) due p) due_behind (λ seen i x k. k) Clock 0 m.ports h

  assignments_anywhere : AllHold (assignments_checks m no_spans) → AllHold (assignments_checks m part_spans)
  assignments_anywhere h =
      same_walk (λ earlier i a. assignment_checks m (get_or no_spans.assignments i nowhere) earlier a) (λ earlier i a. assignment_checks m (get_or part_spans.assignments i nowhere) earlier a) see_target
      (λ seen i x k. k) [] 0 m.assignments h

  resets_anywhere : AllHold (resets_checks m no_spans) → AllHold (resets_checks m part_spans)
  resets_anywhere h =
      same_walk (λ earlier i set. set_checks m true (set_targets m.at_clock) (get_or no_spans.at_reset i nowhere) earlier set)
      (λ earlier i set. set_checks m true (set_targets m.at_clock) (get_or part_spans.at_reset i nowhere) earlier set) see_set (λ seen i x k. k) [] 0 m.at_reset h

  clocks_anywhere : AllHold (clocks_checks m no_spans) → AllHold (clocks_checks m part_spans)
  clocks_anywhere h =
      same_walk (λ earlier i set. set_checks m false (set_targets m.at_reset) (get_or no_spans.at_clock i nowhere) earlier set)
      (λ earlier i set. set_checks m false (set_targets m.at_reset) (get_or part_spans.at_clock i nowhere) earlier set) see_set (λ seen i x k. k) [] 0 m.at_clock h

  literals_anywhere : AllHold (literals_checks m no_spans) → AllHold (literals_checks m part_spans)
  literals_anywhere h =
      same_walk {S = ℕ} {A = ℕ} (λ _ i width. width_at (get_or no_spans.literals i 0) width ∷ []) (λ _ i width. width_at (get_or part_spans.literals i 0) width ∷ []) (λ (seen : ℕ) _. seen)
      (λ seen i x k. k) 0 0 (module_literals m) h

  checks_anywhere : AllHold (module_checks m no_spans) → AllHold (module_checks m part_spans)
  unfolding module_checks
  checks_anywhere h =
      let s = signals_checks m no_spans in
      let p = ports_checks m no_spans in
      let a = assignments_checks m no_spans in
      let r = resets_checks m no_spans in
      let c = clocks_checks m no_spans in
      let l = literals_checks m no_spans in
      let end = end_check m no_spans in
      let behind_signals = back_checks s (p ++ (end ∷ (a ++ (r ++ (c ++ l))))) h in
      let behind_ports = back_checks p (end ∷ (a ++ (r ++ (c ++ l)))) behind_signals in
      let behind_assignments = back_checks a (r ++ (c ++ l)) behind_ports.1 in
      let behind_resets = back_checks r (c ++ l) behind_assignments in
      both_checks (signals_checks m part_spans) _ (signals_anywhere (prefix_checks s (p ++ (end ∷ (a ++ (r ++ (c ++ l))))) h))
      (both_checks (ports_checks m part_spans) _ (ports_anywhere (prefix_checks p (end ∷ (a ++ (r ++ (c ++ l)))) behind_signals)) (
        behind_ports.0,
        both_checks (assignments_checks m part_spans) _ (assignments_anywhere (prefix_checks a (r ++ (c ++ l)) behind_ports.1))
            (both_checks (resets_checks m part_spans) _ (resets_anywhere (prefix_checks r (c ++ l) behind_assignments))
            (both_checks (clocks_checks m part_spans) (literals_checks m part_spans) (clocks_anywhere (prefix_checks c l behind_resets)) (literals_anywhere (back_checks c l behind_resets)))),
      ))

  no_loops : (loops : List PartCheck) → Loops m no_spans loops → AllHold loops → Loops m part_spans []
  no_loops _ (none free) h = none free
  no_loops _ (first i a at depends before) h = let no : true ≡ false = h.0 in absurd (cc)

  pub verdict_anywhere : IsVerdict m no_spans None → IsVerdict m part_spans None
  verdict_anywhere j =
      let all = all_hold (module_checks m no_spans ++ j.loops) j.is in
      record {
        loops = [];
        looped = no_loops j.loops j.looped (back_checks (module_checks m no_spans) j.loops all);
        is = none_noted (module_checks m part_spans ++ []) (both_checks (module_checks m part_spans) [] (checks_anywhere (prefix_checks (module_checks m no_spans) j.loops all)) tt);
      }

-- ---- names

-- none of them has a name that stands before it
abbrev pub AreApart : List (List ℕ) → List Declared → Type 0
AreApart seen [] = Unit {0}
AreApart seen (d ∷ ds) = (is_among seen d.name ≡ false) × AreApart (seen ++ d.name ∷ []) ds

apart_in : (m : VModule) (seen : List (List ℕ)) (i : ℕ) (ds : List Declared) → AllHold (walk (λ names s d. signal_checks m (targets m.assignments) (signal_span m no_spans s) names s d) see_name seen i ds) → AreApart seen ds
apart_in m seen i [] h = tt
apart_in m seen i (d ∷ ds) h = (h.0, apart_in m (seen ++ d.name ∷ []) (suc i) ds h.1.1.1)

pub names_apart : (m : VModule) → IsVerdict m no_spans None → AreApart [] (signals m)
unfolding module_checks
names_apart m j =
    apart_in m [] 0 (signals m)
    (prefix_checks (signals_checks m no_spans) _ (prefix_checks (module_checks m no_spans) j.loops (all_hold (module_checks m no_spans ++ j.loops) j.is)))
