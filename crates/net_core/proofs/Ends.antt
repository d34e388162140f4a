-- What the outcome says of a proc, by its events and its trace, is what the machine's position says.
use Rattle.std.proofs.Common.{◌≡◌, ℕ, ◌+◌, ◌<◌, ◌≤◌, List, [], ◌∷◌, ◌++◌, length, refl, sym, ap, ◌∙◌, arith, true, false, Bool, cond, Option, Some, None, inl, inr}
use Rattle.std.specs.Prelude.{slice_get, nat_lt, ◌⊎◌}
use Rattle.std.proofs.lemmas.Bool.{cases_lt}
use Rattle.std.proofs.lemmas.Bool.Decides.{nat_tests}
use Rattle.std.proofs.lemmas.List.{length-append, append-nil}
use Rattle.xb_bits.specs.Word.{word}
use Rattle.net_core.specs.declared.net.Site.{Site}
use Rattle.net_core.specs.declared.event.Event.{Event}
use Rattle.net_core.specs.declared.event.Event.TheVariants.{Recv, Send, End}
use Rattle.net_core.specs.declared.outcome.Stall.{Stall}
use Rattle.net_core.specs.Behavior.{chan_at}
use Rattle.net_core.specs.Trace.{Histories, trace}
use Rattle.net_core.specs.Cuts.{Proc, Run, Cut, count_received, words_at, room_at, reach}
use Rattle.base.specs.Lists.Prefix.{IsPrefix}
use Rattle.net_core.specs.Machine.{Position, opened, moved, left_after, position_after, position_in, next_of, finds_word}
use Rattle.net_core.specs.Outcomes.{state_after, count_ends, with_one_more, next_in, stall_for, stall_by, stall_in}
use Rattle.base.proofs.Lemmas.Lists.Prefixes.{IsPrefix-trans, IsPrefix-append}
use Rattle.net_core.proofs.Traces.{IsLonger, trace_grows}
use Rattle.net_core.proofs.Resume.{trace_from, trace_opened, trace_resumes, ends_done, position_grows, words_after}
use Rattle.net_core.proofs.Reach.{longest_fit-front}
use Rattle.net_core.proofs.Receives.{received_within, goes_further}
use Rattle.net_core.proofs.Steps.{reach_is}

state_behind : (sites : List Site) (es : List Event) (at : Position) (words : Histories) → (position_after sites at es words).state ≡ state_after at.state es
unfolding position_after state_after
state_behind sites [] at words = refl
state_behind sites (Recv i ∷ es) at words = state_behind sites es (moved sites at (Recv i) words) (left_after sites (Recv i) words)
state_behind sites (Send i w ∷ es) at words = state_behind sites es (moved sites at (Send i w) words) (left_after sites (Send i w) words)
state_behind sites (End s ∷ es) at words = state_behind sites es (moved sites at (End s) words) (left_after sites (End s) words)

ends_behind : (sites : List Site) (es : List Event) (at : Position) (words : Histories) → (position_after sites at es words).ends ≡ at.ends + count_ends es
unfolding position_after count_ends
ends_behind sites [] at words = omega arith
ends_behind sites (Recv i ∷ es) at words = ends_behind sites es (moved sites at (Recv i) words) (left_after sites (Recv i) words)
ends_behind sites (Send i w ∷ es) at words = ends_behind sites es (moved sites at (Send i w) words) (left_after sites (Send i w) words)
ends_behind sites (End s ∷ es) at words = omega (arith, ends_behind sites es (moved sites at (End s) words) (left_after sites (End s) words))

-- a position's state and ends are those of the events before it
pub state_is : (proc : Proc) (made : List Event) (words : Histories) → (position_after proc.behavior.sites (opened proc) made words).state ≡ state_after proc.opening made
state_is proc made words = state_behind proc.behavior.sites made (opened proc) words

pub ends_are_counted : (proc : Proc) (made : List Event) (words : Histories) → (position_after proc.behavior.sites (opened proc) made words).ends ≡ count_ends made
ends_are_counted proc made words = omega (arith, ends_behind proc.behavior.sites made (opened proc) words)

behind_prefix : (xs : List Event) (e : Event) (ys : List Event) → IsPrefix (xs ++ e ∷ []) ys → slice_get ys (length xs) ≡ Some e
behind_prefix [] e [] f = absurd f
behind_prefix [] e (y ∷ ys) f = ap Some (sym f.0)
behind_prefix (x ∷ xs) e [] f = absurd f
behind_prefix (x ∷ xs) e (y ∷ ys) f = behind_prefix xs e ys f.1

none_behind : (xs : List Event) → slice_get xs (length xs) ≡ None
none_behind [] = refl
none_behind (x ∷ xs) = none_behind xs

module _ (proc : Proc) (n : ℕ) (words : Histories) (made : List Event) (f : IsPrefix made (trace_from proc.behavior n (opened proc) words)) where
  abbrev more : Histories
  more = with_one_more words

  longer : IsLonger words more
  longer c = IsPrefix-append (words c) (word 1 0 ∷ [])

  grown : IsPrefix made (trace proc.behavior n proc.opening more)
  grown = IsPrefix-trans _ _ _ (rw (trace_opened proc n words) f) (trace_grows proc.behavior n proc.opening words more longer)

  same : position_after proc.behavior.sites (opened proc) made words ≡ position_after proc.behavior.sites (opened proc) made more
  same = position_grows proc.behavior n made (opened proc) words more longer f

  finds : (e : Event) → finds_word proc.behavior.sites more made e ≡ true
  unfolding finds_word
  finds (Recv i) =
      let c = chan_at proc.behavior.sites i in
      let within = received_within proc.behavior n made (opened proc) words f c in
      let count = length-append (words c) (word 1 0 ∷ []) in
      let less : count_received proc.behavior.sites c made < length (more c) = omega (arith, within, count) in
      grind (arith, nat_tests)
  finds (Send i w) = refl
  finds (End s) = refl

  goes_on_by : (position_after proc.behavior.sites (opened proc) made words).ends < n
      → slice_get (trace proc.behavior n proc.opening more) (length made) ≡ Some (next_of proc.behavior (position_after proc.behavior.sites (opened proc) made words))
  goes_on_by l =
      let at = position_after proc.behavior.sites (opened proc) made more in
      let active : at.ends < n = omega (arith, l, ap (λ (x : Position). x.ends) same) in
      behind_prefix made (next_of proc.behavior at) _ (goes_further proc n more made grown active (finds (next_of proc.behavior at)))
      ∙ ap (λ (x : Position). Some (next_of proc.behavior x)) (sym same)

  is_over : n ≤ (position_after proc.behavior.sites (opened proc) made words).ends → slice_get (trace proc.behavior n proc.opening more) (length made) ≡ None
  is_over l =
      let at = position_after proc.behavior.sites (opened proc) made more in
      let over : n ≤ at.ends = omega (arith, l, ap (λ (x : Position). x.ends) same) in
      let e = trace_opened proc n more in
      let resumed = trace_resumes proc.behavior n made (opened proc) more (rw e at grown) in
      let whole = e ∙ (resumed ∙ (ap (λ es. made ++ es) (ends_done proc.behavior n at (words_after proc.behavior.sites made more) over) ∙ append-nil made)) in
      ap (λ es. slice_get es (length made)) whole ∙ none_behind made

-- what a proc has made within its reach is a prefix of its trace
pub reached_in_trace : (run : Run) (cut : Cut) (p : ℕ) (proc : Proc) → slice_get run.procs p ≡ Some proc → IsPrefix (cut p) (reach run cut p)
    → IsPrefix (cut p) (trace_from proc.behavior run.activations (opened proc) (words_at run cut))
reached_in_trace run cut p proc e f =
    let r = reach_is run cut p proc e in
    IsPrefix-trans _ _ _ (rw r at f) (longest_fit-front proc.behavior.sites (room_at run cut) [] _)

-- what a proc waits for, by the machine: nothing where its activations have ended, else what its next event waits for
abbrev pub machine_stall : Run → Cut → ℕ → Proc → Option Stall
machine_stall run cut p proc =
    let at = position_in run cut p proc in
    cond (nat_lt at.ends run.activations) (stall_for proc.behavior.sites at.ends (next_of proc.behavior at)) None

pub stall_is : (run : Run) (cut : Cut) (p : ℕ) (proc : Proc) → IsPrefix (cut p) (trace_from proc.behavior run.activations (opened proc) (words_at run cut))
    → stall_in run cut p proc ≡ machine_stall run cut p proc
unfolding stall_in next_in
stall_is run cut p proc f = go (cases_lt (position_in run cut p proc).ends run.activations)
  where
    by_next : (o : Option Event) → slice_get (trace proc.behavior run.activations proc.opening (with_one_more (words_at run cut))) (length (cut p)) ≡ o
        → stall_by proc.behavior.sites (count_ends (cut p)) (slice_get (trace proc.behavior run.activations proc.opening (with_one_more (words_at run cut))) (length (cut p)))
        ≡ stall_by proc.behavior.sites (position_in run cut p proc).ends o
    by_next o e =
        ap (λ x. stall_by proc.behavior.sites (count_ends (cut p)) x) e
        ∙ ap (λ k. stall_by proc.behavior.sites k o) (sym (ends_are_counted proc (cut p) (words_at run cut)))

    go : ((position_in run cut p proc).ends < run.activations) ⊎ (run.activations ≤ (position_in run cut p proc).ends)
        → stall_by proc.behavior.sites (count_ends (cut p)) (slice_get (trace proc.behavior run.activations proc.opening (with_one_more (words_at run cut))) (length (cut p)))
        ≡ machine_stall run cut p proc
    go (inl l) =
        let t : nat_lt (position_in run cut p proc).ends run.activations ≡ true = grind (arith, nat_tests) in
        by_next _ (goes_on_by proc run.activations (words_at run cut) (cut p) f l)
        ∙ sym (ap (λ (b : Bool). cond b (stall_for proc.behavior.sites (position_in run cut p proc).ends (next_of proc.behavior (position_in run cut p proc))) None) t)
    go (inr l) =
        let t : nat_lt (position_in run cut p proc).ends run.activations ≡ false = grind (arith, nat_tests) in
        by_next _ (is_over proc run.activations (words_at run cut) (cut p) f l)
        ∙ sym (ap (λ (b : Bool). cond b (stall_for proc.behavior.sites (position_in run cut p proc).ends (next_of proc.behavior (position_in run cut p proc))) None) t)
