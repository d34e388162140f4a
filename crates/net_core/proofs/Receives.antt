-- A trace receives no more words than there are, and before its activations are made it stops only where it misses one.
use Rattle.std.proofs.Common.{◌≡◌, ℕ, suc, ◌<◌, ◌≤◌, List, [], ◌∷◌, ◌++◌, length, drop, refl, sym, ap, ◌∙◌, subst, arith, cond, true, false, Bool, eqb}
use Rattle.std.proofs.lemmas.List.{length-drop, append_cancel_left, append-nil}
use Rattle.xb_bits.specs.Word.{Word}
use Rattle.net_core.specs.declared.net.Site.{Site}
use Rattle.net_core.specs.declared.event.Event.{Event}
use Rattle.net_core.specs.declared.event.Event.TheVariants.{Recv, Send, End}
use Rattle.net_core.specs.Behavior.{Behavior, chan_at}
use Rattle.net_core.specs.Trace.{Histories, trace}
use Rattle.net_core.specs.Cuts.{Proc, count_received}
use Rattle.base.specs.Lists.Prefix.{IsPrefix}
use Rattle.net_core.specs.Machine.{Position, opened, moved, left_after, position_after, next_of, finds_word}
use Rattle.net_core.specs.Nexts.{WaitsForAWord}
use Rattle.base.proofs.Lemmas.Lists.Prefixes.{IsPrefix-refl, IsPrefix-append_both}
use Rattle.net_core.proofs.Resume.{trace_from, trace_opened, has_word, is_left, goes_on, prefix_goes, words_after, trace_resumes, words_after-drop}
use Rattle.net_core.proofs.Steps.{found_by_count}
use Rattle.net_core.proofs.Confluence.{eqb-same}

some_word : (xs : List Word) → is_left xs ≡ true → 1 ≤ length xs
some_word [] h = cc
some_word (x ∷ xs) h = omega arith

no_word : (xs : List Word) → is_left xs ≡ false → xs ≡ []
no_word [] h = refl
no_word (x ∷ xs) h = cc

counted : (sites : List Site) (words : Histories) (e : Event) (t : List Event) (c : ℕ) → has_word sites words e ≡ true
    → count_received sites c t ≤ length (left_after sites e words c) → count_received sites c (e ∷ t) ≤ length (words c)
unfolding count_received has_word
counted sites words (Recv i) t c found h = go (eqb (chan_at sites i) c) refl h
  where
    go : (b : Bool) → eqb (chan_at sites i) c ≡ b → count_received sites c t ≤ length (cond b (drop 1 (words c)) (words c))
        → cond b (suc (count_received sites c t)) (count_received sites c t) ≤ length (words c)
    go true e h =
        let same = eqb-same (chan_at sites i) c e in
        let some = some_word (words c) (ap (λ d. is_left (words d)) (sym same) ∙ found) in
        omega (arith, h, some, length-drop 1 (words c))
    go false e h = h
counted sites words (Send i w) t c found h = h
counted sites words (End s) t c found h = h

-- each front of a trace receives words that are there
pub received_within : (b : Behavior) (n : ℕ) (t : List Event) (at : Position) (words : Histories) → IsPrefix t (trace_from b n at words)
    → (c : ℕ) → count_received b.sites c t ≤ length (words c)
received_within b n [] at words f c = unfold count_received in omega arith
received_within b n (e ∷ t) at words f c =
    let g = prefix_goes b n at words e t f in
    counted b.sites words e t c g.0.found (received_within b n t (moved b.sites at e words) (left_after b.sites e words) g.1 c)

event_misses : (sites : List Site) (words : Histories) (e : Event) → has_word sites words e ≡ false → (i : ℕ) × (e ≡ Recv i) × (words (chan_at sites i) ≡ [])
unfolding has_word
event_misses sites words (Recv i) h = (i, refl, no_word (words (chan_at sites i)) h)
event_misses sites words (Send i w) h = cc
event_misses sites words (End s) h = cc

-- where an activation is open and the trace doesn't go on, the next event is a receive that finds no word
misses_at : (b : Behavior) (n : ℕ) (at : Position) (words : Histories) → at.ends < n → trace_from b n at words ≡ []
    → (i : ℕ) × (next_of b at ≡ Recv i) × (words (chan_at b.sites i) ≡ [])
misses_at b n at words l none = go (has_word b.sites words (next_of b at)) refl
  where
    go : (found : Bool) → has_word b.sites words (next_of b at) ≡ found → (i : ℕ) × (next_of b at ≡ Recv i) × (words (chan_at b.sites i) ≡ [])
    go true h = let more = sym none ∙ (goes_on b n at words l h).rest in cc
    go false h = event_misses b.sites words (next_of b at) h

-- nothing is left behind the whole trace
rest_done : (b : Behavior) (n : ℕ) (at : Position) (words : Histories)
    → trace_from b n (position_after b.sites at (trace_from b n at words) words) (words_after b.sites (trace_from b n at words) words) ≡ []
rest_done b n at words =
    let t = trace_from b n at words in
    let resumed = trace_resumes b n t at words (IsPrefix-refl t) in
    append_cancel_left t _ [] (sym resumed ∙ sym (append-nil t))

stops_from : (proc : Proc) (n : ℕ) (words : Histories)
    → (position_after proc.behavior.sites (opened proc) (trace_from proc.behavior n (opened proc) words) words).ends < n
    → WaitsForAWord proc words (trace_from proc.behavior n (opened proc) words)
stops_from proc n words l =
    let b = proc.behavior in
    let start = opened proc in
    let t = trace_from b n start words in
    let at = position_after b.sites start t words in
    let missed = misses_at b n at (words_after b.sites t words) l (rest_done b n start words) in
    let c = chan_at b.sites missed.0 in
    let left = sym (words_after-drop b.sites c t words) ∙ missed.2 in
    let most = received_within b n t start words (IsPrefix-refl t) c in
    (missed.0, missed.1, omega (arith, most, ap length left, length-drop (count_received b.sites c t) (words c)))

pub stops_at : (proc : Proc) (n : ℕ) (words : Histories)
    → (position_after proc.behavior.sites (opened proc) (trace proc.behavior n proc.opening words) words).ends < n
    → WaitsForAWord proc words (trace proc.behavior n proc.opening words)
stops_at proc n words =
    subst (λ t. (position_after proc.behavior.sites (opened proc) t words).ends < n → WaitsForAWord proc words t)
    (sym (trace_opened proc n words)) (stops_from proc n words)

-- a trace goes on where the next event finds its word
pub goes_further : (proc : Proc) (n : ℕ) (words : Histories) (made : List Event) → IsPrefix made (trace proc.behavior n proc.opening words)
    → (position_after proc.behavior.sites (opened proc) made words).ends < n
    → finds_word proc.behavior.sites words made (next_of proc.behavior (position_after proc.behavior.sites (opened proc) made words)) ≡ true
    → IsPrefix (made ++ next_of proc.behavior (position_after proc.behavior.sites (opened proc) made words) ∷ []) (trace proc.behavior n proc.opening words)
goes_further proc n words made f l found =
    let b = proc.behavior in
    let e = trace_opened proc n words in
    let at = position_after b.sites (opened proc) made words in
    let resumed = trace_resumes b n made (opened proc) words (rw e at f) in
    let on = goes_on b n at (words_after b.sites made words) l (found_by_count b.sites words made (next_of b at) ∙ found) in
    rw (e, resumed, on.rest) (IsPrefix-append_both made (next_of b at ∷ []) _ (refl, tt))
