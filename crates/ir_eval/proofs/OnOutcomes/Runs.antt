-- Runs of procs that do the same come to the same final cut.
use Rattle.std.proofs.Common.{◌≡◌, ℕ, zero, suc, ◌+◌, Bool, true, false, List, [], ◌∷◌, ◌++◌, length, get_or, fold, Option, Some, None, refl, sym, ap, ◌∙◌, subst, arith, nat_lt}
use Rattle.std.specs.Prelude.{◌*◌, ◌==◌, ◌&&◌, not, if◌then◌else◌, slice_get}
use Rattle.std.specs.List.{list_any}
use Rattle.std.proofs.lemmas.Bool.{eqb-true}
use mathlib.Core.Path.{fun_ext}
use Rattle.xb_bits.specs.Word.{Word}
use Rattle.xb_value.specs.Typing.{IsOfType}
use Rattle.xb_value.specs.Width.{width_of}
use Rattle.net_core.specs.declared.net.Chan.{Chan}
use Rattle.net_core.specs.declared.net.Kind.{Kind}
use Rattle.net_core.specs.declared.net.Kind.TheVariants.{Input, Output, Inner}
use Rattle.net_core.specs.declared.net.ProcHead.{ProcHead}
use Rattle.net_core.specs.declared.net.Site.{Site}
use Rattle.net_core.specs.declared.event.Event.{Event}
use Rattle.net_core.specs.declared.event.Event.TheVariants.{Recv, Send, End}
use Rattle.net_core.specs.Behavior.{Behavior, IsWordOf, chan_at}
use Rattle.net_core.specs.Trace.{trace}
use Rattle.net_core.specs.Cuts.{Proc, Run, Cut, empty_cut, index_of, sender, receiver, sites_of, sites_at, words_sent, count_received, words_by, words_at, received_at, room_by, room_at, fits_after, longest_fit, trace_of, reach, round, rounds, most_events, final_cut}
use Rattle.net_core.specs.WellFormed.{AreWordsOf, IsRun, procs_of}
use Rattle.ir_tree.specs.SameBehavior.{SameActivations}
use Rattle.ir_eval.proofs.OnOutcomes.Traces.{AreTyped, SendsFit, same_trace, trace_fits}

-- ---- procs side by side

-- two procs open alike and do the same
pub record SameProc (x y : Proc) : Type 0 where
  pub opening : x.opening ≡ y.opening
  pub does : SameActivations x.behavior y.behavior

abbrev pub SameIfThere : Option Proc → Option Proc → Type 0
SameIfThere None None = Unit {0}
SameIfThere None (Some y) = ⊥
SameIfThere (Some x) None = ⊥
SameIfThere (Some x) (Some y) = SameProc x y

abbrev pub SameEach : List Behavior → List Behavior → Type 0
SameEach xs ys = (p : ℕ) (a b : Behavior) → slice_get xs p ≡ Some a → slice_get ys p ≡ Some b → SameActivations a b

pub same_procs : (heads : List ProcHead) (xs ys : List Behavior) → length xs ≡ length ys → SameEach xs ys → (p : ℕ) → SameIfThere (slice_get (procs_of heads xs) p) (slice_get (procs_of heads ys) p)
same_procs [] xs ys count each p = tt
same_procs (h ∷ heads) [] [] count each p = tt
same_procs (h ∷ heads) [] (y ∷ ys) count each p = absurd (omega (arith, count))
same_procs (h ∷ heads) (x ∷ xs) [] count each p = absurd (omega (arith, count))
same_procs (h ∷ heads) (x ∷ xs) (y ∷ ys) count each zero = record { opening = refl; does = each 0 x y refl refl }
same_procs (h ∷ heads) (x ∷ xs) (y ∷ ys) count each (suc p) = same_procs heads xs ys (omega (arith, count)) (λ q a b e f. each (suc q) a b e f) p

place_same : (test : List Site → Bool) (heads : List ProcHead) (xs ys : List Behavior) → length xs ≡ length ys → SameEach xs ys
    → index_of (λ (proc : Proc). test proc.behavior.sites) (procs_of heads xs) ≡ index_of (λ (proc : Proc). test proc.behavior.sites) (procs_of heads ys)
place_same test [] xs ys count each = refl
place_same test (h ∷ heads) [] [] count each = refl
place_same test (h ∷ heads) [] (y ∷ ys) count each = absurd (omega (arith, count))
place_same test (h ∷ heads) (x ∷ xs) [] count each = absurd (omega (arith, count))
place_same test (h ∷ heads) (x ∷ xs) (y ∷ ys) count each =
    ap (λ (sites : List Site). if test sites then 0 else suc (index_of (λ (proc : Proc). test proc.behavior.sites) (procs_of heads xs))) (each 0 x y refl refl).sites
    ∙ ap (λ k. if test y.sites then 0 else suc k) (place_same test heads xs ys (omega (arith, count)) (λ q a b e f. each (suc q) a b e f))

counts_same : (made : ℕ) (heads : List ProcHead) (xs ys : List Behavior) → length xs ≡ length ys → SameEach xs ys
    → fold (λ n (proc : Proc). n + suc (length proc.behavior.sites)) made (procs_of heads xs) ≡ fold (λ n (proc : Proc). n + suc (length proc.behavior.sites)) made (procs_of heads ys)
counts_same made [] xs ys count each = refl
counts_same made (h ∷ heads) [] [] count each = refl
counts_same made (h ∷ heads) [] (y ∷ ys) count each = absurd (omega (arith, count))
counts_same made (h ∷ heads) (x ∷ xs) [] count each = absurd (omega (arith, count))
counts_same made (h ∷ heads) (x ∷ xs) (y ∷ ys) count each =
    ap (λ (sites : List Site). fold (λ n (proc : Proc). n + suc (length proc.behavior.sites)) (made + suc (length sites)) (procs_of heads xs)) (each 0 x y refl refl).sites
    ∙ counts_same (made + suc (length y.sites)) heads xs ys (omega (arith, count)) (λ q a b e f. each (suc q) a b e f)

-- ---- words and room, by what decides them

unfoldable words_in : List Word → List Word → Option Chan → List Word
words_in given sent None = []
words_in given sent (Some chan) =
    elim chan.kind [
      | Input ↦ given
      | Output ↦ sent
      | Inner ↦ sent
    ]

words_are : (run : Run) (cut : Cut) (c : ℕ) (o : Option Chan) → words_by run cut c o ≡ words_in (get_or run.inputs c []) (words_sent (sites_at run (sender run c)) c (cut (sender run c))) o
unfolding words_by words_in
words_are run cut c None = refl
words_are run cut c (Some chan) = refl

unfoldable room_in : Bool → Option Chan → Bool
room_in has None = true
room_in has (Some chan) =
    elim chan.kind [
      | Input ↦ true
      | Output ↦ true
      | Inner ↦ has
    ]

room_is : (run : Run) (cut : Cut) (c j : ℕ) (o : Option Chan) → room_by run cut c j o ≡ room_in (nat_lt j (received_at run cut c + get_or run.depths c 0)) o
unfolding room_by room_in
room_is run cut c j None = refl
room_is run cut c j (Some chan) = refl

in_kind : (given sent : List Word) (chan : Chan) (P : List Word → Type 0) → P given → P sent → P (words_in given sent (Some chan))
unfolding words_in
in_kind given sent chan P f g = by chan.kind
  where
    by : (kind : Kind) → P (elim kind as (λ _. List Word) [ Input ↦ given | Output ↦ sent | Inner ↦ sent ])
    by Input = f
    by Output = g
    by Inner = g

-- ---- what fits stays

fits_if : (b : Behavior) (t : Bool) (e : Event) (es rest : List Event) → SendsFit b (e ∷ es) → SendsFit b rest → SendsFit b (if t then e ∷ rest else [])
fits_if b true (Recv i) es rest h more = more
fits_if b true (Send i w) es rest h more = (h.0, more)
fits_if b true (End s) es rest h more = more
fits_if b false e es rest h more = tt

tail_fits : (b : Behavior) (e : Event) (es : List Event) → SendsFit b (e ∷ es) → SendsFit b es
tail_fits b (Recv i) es h = h
tail_fits b (Send i w) es h = h.1
tail_fits b (End s) es h = h

prefix_fits : (b : Behavior) (sites : List Site) (room : ℕ → ℕ → Bool) (before es : List Event) → SendsFit b es → SendsFit b (longest_fit sites room before es)
unfolding longest_fit
prefix_fits b sites room before [] h = tt
prefix_fits b sites room before (e ∷ es) h =
    fits_if b (fits_after sites room before e) e es (longest_fit sites room (before ++ e ∷ []) es) h (prefix_fits b sites room (before ++ e ∷ []) es (tail_fits b e es h))

pub chan_there : (sites : List Site) (i : ℕ) (site : Site) → slice_get sites i ≡ Some site → chan_at sites i ≡ site.chan
chan_there [] i site e = absurd (cc)
chan_there (x ∷ xs) zero site e = let same : x ≡ site = cc in ap (λ (s : Site). s.chan) same
chan_there (x ∷ xs) (suc i) site e = chan_there xs i site e

word_if : (t : Bool) (width : ℕ) (w : Word) (ws : List Word) → (t ≡ true → IsWordOf width w) → AreWordsOf width ws → AreWordsOf width (if t then w ∷ ws else ws)
word_if true width w ws here more zero v e = let same : w ≡ v = cc in subst (λ x. IsWordOf width x) same (here refl)
word_if true width w ws here more (suc k) v e = more k v e
word_if false width w ws here more k v e = more k v e

-- words that a proc sends on a channel have the width that its sites take them to have
sent_words : (b : Behavior) (c width : ℕ) → ((i : ℕ) (site : Site) → slice_get b.sites i ≡ Some site → site.chan ≡ c → b.width site.chan ≡ width) → (es : List Event) → SendsFit b es → AreWordsOf width (words_sent b.sites c es)
unfolding words_sent
sent_words b c width of [] h = λ k w e. absurd (cc)
sent_words b c width of (Recv i ∷ es) h = sent_words b c width of es h
sent_words b c width of (Send i w ∷ es) h =
    word_if (chan_at b.sites i == c) width w (words_sent b.sites c es)
    (λ t. let site = h.0.0 in subst (λ n. IsWordOf n w) (of i site h.0.1 (sym (chan_there b.sites i site h.0.1) ∙ eqb-true (chan_at b.sites i) c t)) h.0.2)
    (sent_words b c width of es h.1)
sent_words b c width of (End s ∷ es) h = sent_words b c width of es h

nothing_sent : (width c : ℕ) (sites : List Site) (es : List Event) → es ≡ [] → AreWordsOf width (words_sent sites c es)
unfolding words_sent
nothing_sent width c sites [] e = λ k w f. absurd (cc)
nothing_sent width c sites (x ∷ xs) e = absurd (cc)

-- what a proc sent fits, and where there is no proc nothing was made
data CutFitsAt (procs : List Proc) (cut : Cut) (p : ℕ) : Type 0 where
  no_proc : slice_get procs p ≡ None → cut p ≡ [] → CutFitsAt procs cut p
  a_proc : (proc : Proc) → slice_get procs p ≡ Some proc → SendsFit proc.behavior (cut p) → CutFitsAt procs cut p

module _ (heads : List ProcHead) (xs ys : List Behavior) (count : length xs ≡ length ys) (each : SameEach xs ys) (chans : List Chan) (inputs : List (List Word)) (n : ℕ) (depths : List ℕ) where
  abbrev one : Run
  one = record { procs = procs_of heads xs; chans = chans; inputs = inputs; activations = n; depths = depths }

  abbrev two : Run
  two = record { procs = procs_of heads ys; chans = chans; inputs = inputs; activations = n; depths = depths }

  sites_if : (x y : Option Proc) → SameIfThere x y → sites_of x ≡ sites_of y
  sites_if None None h = refl
  sites_if None (Some y) h = absurd h
  sites_if (Some x) None h = absurd h
  sites_if (Some x) (Some y) h = h.does.sites

  pub same_sites : (p : ℕ) → sites_at one p ≡ sites_at two p
  same_sites p = sites_if (slice_get (procs_of heads xs) p) (slice_get (procs_of heads ys) p) (same_procs heads xs ys count each p)

  same_sender : (c : ℕ) → sender one c ≡ sender two c
  same_sender c = place_same (λ sites. list_any (λ (site : Site). site.sends && (site.chan == c)) sites) heads xs ys count each

  same_receiver : (c : ℕ) → receiver one c ≡ receiver two c
  same_receiver c = place_same (λ sites. list_any (λ (site : Site). not site.sends && (site.chan == c)) sites) heads xs ys count each

  same_sent : (cut : Cut) (c : ℕ) → words_sent (sites_at one (sender one c)) c (cut (sender one c)) ≡ words_sent (sites_at two (sender two c)) c (cut (sender two c))
  same_sent cut c =
      ap (λ q. words_sent (sites_at one q) c (cut q)) (same_sender c) ∙ ap (λ sites. words_sent sites c (cut (sender two c))) (same_sites (sender two c))

  pub same_received : (cut : Cut) (c : ℕ) → received_at one cut c ≡ received_at two cut c
  unfolding received_at
  same_received cut c =
      ap (λ q. count_received (sites_at one q) c (cut q)) (same_receiver c) ∙ ap (λ sites. count_received sites c (cut (receiver two c))) (same_sites (receiver two c))

  pub same_words : (cut : Cut) (c : ℕ) → words_at one cut c ≡ words_at two cut c
  unfolding words_at
  same_words cut c =
      words_are one cut c (slice_get chans c) ∙ (ap (λ ws. words_in (get_or inputs c []) ws (slice_get chans c)) (same_sent cut c) ∙ sym (words_are two cut c (slice_get chans c)))

  same_room : (cut : Cut) (c j : ℕ) → room_at one cut c j ≡ room_at two cut c j
  unfolding room_at
  same_room cut c j =
      room_is one cut c j (slice_get chans c)
      ∙ (ap (λ r. room_in (nat_lt j (r + get_or depths c 0)) (slice_get chans c)) (same_received cut c) ∙ sym (room_is two cut c j (slice_get chans c)))

  module _ (fits : IsRun one) (opens : (p : ℕ) (proc : Proc) → slice_get (procs_of heads xs) p ≡ Some proc → IsOfType proc.behavior.state proc.opening)
      (given : (c : ℕ) (chan : Chan) → slice_get chans c ≡ Some chan → AreWordsOf (width_of chan.ty) (get_or inputs c [])) where
    abbrev CutFits : Cut → Type 0
    CutFits cut = (p : ℕ) → CutFitsAt (procs_of heads xs) cut p

    abbrev WordsFit : Cut → Type 0
    WordsFit cut = (c : ℕ) (chan : Chan) → slice_get chans c ≡ Some chan → AreWordsOf (width_of chan.ty) (words_at one cut c)

    chan_is : (c : ℕ) (a b : Chan) → slice_get chans c ≡ Some a → slice_get chans c ≡ Some b → a ≡ b
    chan_is c a b e f = cc

    sent_fit : (cut : Cut) (q c : ℕ) (chan : Chan) → slice_get chans c ≡ Some chan → CutFitsAt (procs_of heads xs) cut q → AreWordsOf (width_of chan.ty) (words_sent (sites_at one q) c (cut q))
    sent_fit cut q c chan e (no_proc none made) = nothing_sent (width_of chan.ty) c (sites_at one q) (cut q) made
    sent_fit cut q c chan e (a_proc proc at made) =
        subst (λ o. AreWordsOf (width_of chan.ty) (words_sent (sites_of o) c (cut q))) (sym at)
        (sent_words proc.behavior c (width_of chan.ty)
        (λ i site place same.
        let f = fits.sites q i proc site (record { proc_is = at; place = place }) in
        let one_chan = chan_is c f.chan chan (ap (λ d. slice_get chans d) (sym same) ∙ f.chan_is) e in
        f.width ∙ ap (λ (x : Chan). width_of x.ty) one_chan)
        (cut q) made)

    words_fit : (cut : Cut) → CutFits cut → WordsFit cut
    unfolding words_at
    words_fit cut cuts c chan e =
        subst (λ ws. AreWordsOf (width_of chan.ty) ws) (sym (words_are one cut c (slice_get chans c)))
        (subst (λ o. AreWordsOf (width_of chan.ty) (words_in (get_or inputs c []) (words_sent (sites_at one (sender one c)) c (cut (sender one c))) o)) (sym e)
        (in_kind (get_or inputs c []) (words_sent (sites_at one (sender one c)) c (cut (sender one c))) chan (λ ws. AreWordsOf (width_of chan.ty) ws)
        (given c chan e) (sent_fit cut (sender one c) c chan e (cuts (sender one c)))))

    typed_for : (cut : Cut) → WordsFit cut → (p : ℕ) (proc : Proc) → slice_get (procs_of heads xs) p ≡ Some proc → AreTyped proc.behavior (words_at one cut)
    typed_for cut words p proc e i site place =
        let f = fits.sites p i proc site (record { proc_is = e; place = place }) in
        subst (λ width. AreWordsOf width (words_at one cut site.chan)) (sym f.width) (words site.chan f.chan f.chan_is)

    made_same : (cut : Cut) → WordsFit cut → (p : ℕ) (x y : Option Proc) → slice_get (procs_of heads xs) p ≡ x → SameIfThere x y → trace_of n (words_at one cut) x ≡ trace_of n (words_at two cut) y
    unfolding trace_of
    made_same cut words p None None e h = refl
    made_same cut words p None (Some y) e h = absurd h
    made_same cut words p (Some x) None e h = absurd h
    made_same cut words p (Some x) (Some y) e h =
        same_trace x.behavior y.behavior h.does (fits.keeps_types p x e) n x.opening (words_at one cut) (opens p x e) (typed_for cut words p x e)
        ∙ (ap (λ s. trace y.behavior n s (words_at one cut)) h.opening
        ∙ ap (λ ws. trace y.behavior n y.opening ws) (fun_ext (same_words cut)))

    reach_same : (cut : Cut) → WordsFit cut → (p : ℕ) → reach one cut p ≡ reach two cut p
    unfolding reach
    reach_same cut words p =
        let made = made_same cut words p (slice_get (procs_of heads xs) p) (slice_get (procs_of heads ys) p) refl (same_procs heads xs ys count each p) in
        let room : room_at one cut ≡ room_at two cut = fun_ext (λ c. fun_ext (same_room cut c)) in
        ap (λ sites. longest_fit sites (room_at one cut) [] (trace_of n (words_at one cut) (slice_get (procs_of heads xs) p))) (same_sites p)
        ∙ (ap (λ r. longest_fit (sites_at two p) r [] (trace_of n (words_at one cut) (slice_get (procs_of heads xs) p))) room
        ∙ ap (λ es. longest_fit (sites_at two p) (room_at two cut) [] es) made)

    reach_fits : (cut : Cut) → WordsFit cut → (p : ℕ) (x : Option Proc) → slice_get (procs_of heads xs) p ≡ x → CutFitsAt (procs_of heads xs) (round one cut) p
    unfolding reach trace_of longest_fit
    reach_fits cut words p None e =
        no_proc e (ap (λ o. longest_fit (sites_at one p) (room_at one cut) [] (trace_of n (words_at one cut) o)) e)
    reach_fits cut words p (Some x) e =
        a_proc x e (subst (λ o. SendsFit x.behavior (longest_fit (sites_at one p) (room_at one cut) [] (trace_of n (words_at one cut) o))) (sym e)
        (prefix_fits x.behavior (sites_at one p) (room_at one cut) [] (trace x.behavior n x.opening (words_at one cut))
        (trace_fits x.behavior (fits.keeps_types p x e) n x.opening (words_at one cut) (opens p x e) (typed_for cut words p x e))))

    empty_fits : (p : ℕ) (x : Option Proc) → slice_get (procs_of heads xs) p ≡ x → CutFitsAt (procs_of heads xs) empty_cut p
    empty_fits p None e = no_proc e refl
    empty_fits p (Some x) e = a_proc x e tt

    all_rounds : (k : ℕ) → (rounds (round one) k ≡ rounds (round two) k) × CutFits (rounds (round one) k)
    all_rounds zero = (refl, λ p. empty_fits p (slice_get (procs_of heads xs) p) refl)
    all_rounds (suc k) =
        let before = all_rounds k in
        let words = words_fit (rounds (round one) k) before.1 in (
          fun_ext (reach_same (rounds (round one) k) words) ∙ ap (round two) before.0,
          λ p. reach_fits (rounds (round one) k) words p (slice_get (procs_of heads xs) p) refl,
        )

    same_most : most_events one ≡ most_events two
    unfolding most_events
    same_most = ap (λ (total : ℕ). n * total) (counts_same 0 heads xs ys count each)

    pub same_final : final_cut one ≡ final_cut two
    unfolding final_cut
    same_final = (all_rounds (most_events one)).0 ∙ ap (rounds (round two)) same_most

    pub final_typed_for : (p : ℕ) (proc : Proc) → slice_get (procs_of heads xs) p ≡ Some proc → AreTyped proc.behavior (words_at one (final_cut one))
    unfolding final_cut
    final_typed_for p proc e = typed_for (rounds (round one) (most_events one)) (words_fit (rounds (round one) (most_events one)) (all_rounds (most_events one)).1) p proc e
