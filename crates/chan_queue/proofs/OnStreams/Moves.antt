-- A proc that has made its first events of the final cut makes the next one, and stands behind it.
use Rattle.std.proofs.Common.{◌≡◌, ℕ, zero, suc, ◌+◌, ◌*◌, ◌<◌, ◌≤◌, List, [], ◌∷◌, ◌++◌, length, take, drop, get_or, refl, sym, ap, ◌∙◌, subst, arith, cond, true, false, Bool, eqb, Some, inl, inr}
use Rattle.std.specs.Prelude.{slice_get, nat_lt, ◌&&◌, ◌⊎◌}
use Rattle.std.proofs.lemmas.Bool.Decides.{nat_tests}
use Rattle.std.proofs.lemmas.List.{drop-drop}
use Rattle.std.proofs.lemmas.Option.{slice_get_within}
use Rattle.base.proofs.Lemmas.Lists.Prefixes.{IsPrefix-take}
use Rattle.xb_bits.specs.Word.{Word}
use Rattle.xb_value.specs.declared.value.Value.{Value}
use Rattle.xb_value.specs.Typing.{IsOfType}
use Rattle.net_core.specs.declared.net.Site.{Site}
use Rattle.net_core.specs.declared.net.Chan.{Chan}
use Rattle.net_core.specs.declared.net.Kind.{Kind}
use Rattle.net_core.specs.declared.net.Kind.TheVariants.{Input, Output, Inner}
use Rattle.net_core.specs.declared.event.Event.{Event}
use Rattle.net_core.specs.declared.event.Event.TheVariants.{Recv, Send, End}
use Rattle.net_core.specs.Behavior.{Behavior, IsOpen, chan_at, IsWordOf}
use Rattle.net_core.specs.Nexts.{EventFits}
use Rattle.net_core.specs.Trace.{Histories, without_first}
use Rattle.net_core.specs.Cuts.{Proc, Run, words_sent, count_received, words_at, received_at, room_at, room_by, fits_after, final_cut, sites_of, sender}
use Rattle.net_core.specs.Machine.{Position, opened, moved, left_after, position_after, next_of, finds_word}
use Rattle.net_core.specs.WellFormed.{IsRun}
use Rattle.net_core.proofs.Lemmas.{next_keeps_types, each_sent_word_had_room}
use Rattle.chan_queue.specs.Streams.Streams.{StandsBefore, stands}
use Rattle.chan_queue.specs.Streams.Moves.{IsTyped, IsStanding, GoesOn, first_events, sent_first, received_first}
use Rattle.chan_queue.proofs.OnStreams.Within.{chan_there, sent_append, received_append, made_or_next, same_number, inner_words}
use Rattle.chan_queue.proofs.OnStreams.Within as within
use Rattle.net_core.proofs.Lemmas.{EventAt, receives_at, sends_at, ends_with, next_at, open_first, open_send, open_receive}

-- where one event more is made
take_next : (k : ℕ) (xs : List Event) (e : Event) (rest : List Event) → xs ≡ take k xs ++ e ∷ rest → (take (suc k) xs ≡ take k xs ++ e ∷ []) × (suc k ≤ length xs)
take_next zero [] e rest is = cc
take_next zero (x ∷ xs) e rest is = let h : x ≡ e = cc in (ap (λ (y : Event). y ∷ []) h, omega arith)
take_next (suc k) [] e rest is = cc
take_next (suc k) (x ∷ xs) e rest is =
    let h : xs ≡ take k xs ++ e ∷ rest = cc in
    let next = take_next k xs e rest h in
    (ap (λ (ys : List Event). x ∷ ys) next.0, omega (arith, next.1))

-- what is left of the words behind some events
unfoldable words_after : List Site → List Event → Histories → Histories
words_after sites [] words = words
words_after sites (e ∷ es) words = words_after sites es (left_after sites e words)

drop_without : (c d k : ℕ) (words : Histories) → drop k (without_first words d c) ≡ drop (cond (eqb d c) (suc k) k) (words c)
drop_without c d k words = go (eqb d c)
  where
    go : (b : Bool) → drop k (cond b (drop 1 (words c)) (words c)) ≡ drop (cond b (suc k) k) (words c)
    go true = let e : 1 + k ≡ suc k = omega arith in drop-drop k 1 (words c) ∙ ap (λ m. drop m (words c)) e
    go false = refl

left_are_behind : (sites : List Site) (c : ℕ) (es : List Event) (words : Histories) → words_after sites es words c ≡ drop (count_received sites c es) (words c)
unfolding words_after count_received
left_are_behind sites c [] words = refl
left_are_behind sites c (Recv i ∷ es) words = left_are_behind sites c es (without_first words (chan_at sites i)) ∙ drop_without c (chan_at sites i) (count_received sites c es) words
left_are_behind sites c (Send i w ∷ es) words = left_are_behind sites c es words
left_are_behind sites c (End s ∷ es) words = left_are_behind sites c es words

one_more : (sites : List Site) (es : List Event) (e : Event) (at : Position) (words : Histories)
    → position_after sites at (es ++ e ∷ []) words ≡ moved sites (position_after sites at es words) e (words_after sites es words)
unfolding position_after words_after
one_more sites [] e at words = refl
one_more sites (x ∷ es) e at words = one_more sites es e (moved sites at x words) (left_after sites x words)

first_left : (k : ℕ) (words : List Word) (w : Word) → slice_get words k ≡ Some w → take 1 (drop k words) ≡ w ∷ []
first_left k [] w e = cc
first_left zero (x ∷ xs) w e = let h : x ≡ w = cc in ap (λ (y : Word). y ∷ []) h
first_left (suc k) (x ∷ xs) w e = first_left k xs w e

-- the next event is that of the final cut, if the proc hasn't made all of it
module _ (run : Run) (p : ℕ) (proc : Proc) (k : ℕ) (at : Position) (event : Event) (here : IsStanding run p proc k at) (active : at.ends < run.activations) (next : next_of proc.behavior at ≡ event) where
  abbrev pub made : List Event
  made = first_events run p k

  pub before : StandsBefore run p proc made event
  before = record {
    proc_is = here.proc_is;
    within = IsPrefix-take k (final_cut run p);
    active = subst (λ (x : Position). x.ends < run.activations) (sym here.at_is) active;
    next = subst (λ (x : Position). next_of proc.behavior x ≡ event) (sym here.at_is) next;
  }

  -- where it stands then
  behind_it : (to : Position) → moved proc.behavior.sites at event (words_after proc.behavior.sites made (words_at run (final_cut run))) ≡ to
      → made ++ event ∷ [] ≡ first_events run p (suc k)
      → stands run proc (first_events run p (suc k)) ≡ to
  unfolding position_after
  behind_it to moves more =
      let words = words_at run (final_cut run) in
      let sites = proc.behavior.sites in
      ap (λ es. position_after sites (opened proc) es words) (sym more)
      ∙ (one_more sites made event (opened proc) words
      ∙ (ap (λ (x : Position). moved sites x event (words_after sites made words)) here.at_is ∙ moves))

  goes : (to : Position) → (final_cut run p ≡ made → ⊥)
      → moved proc.behavior.sites at event (words_after proc.behavior.sites made (words_at run (final_cut run))) ≡ to
      → IsOpen proc.behavior to.state to.got to.done → to.ends ≤ run.activations → suc k ≤ to.ends * suc (length proc.behavior.sites) + to.done
      → GoesOn run p proc k event to
  goes to not_all moves opens ends count = go (made_or_next run p proc made event before)
    where
      go : (final_cut run p ≡ made) ⊎ ((rest : List Event) × (final_cut run p ≡ made ++ event ∷ rest)) → GoesOn run p proc k event to
      go (inl same) = absurd (not_all same)
      go (inr more) =
          let now = take_next k (final_cut run p) event more.0 more.1 in
          let sites = proc.behavior.sites in record {
            standing = record { proc_is = here.proc_is; within = now.1; at_is = behind_it to moves (sym now.0); stands_open = opens; ends = ends; count = count };
            made = now.0;
            sent = λ c. ap (λ es. words_sent sites c es) now.0 ∙ sent_append sites c made (event ∷ []);
            received = λ c. ap (λ es. count_received sites c es) now.0 ∙ received_append sites c made (event ∷ []);
          }

wider : (ends sites done k : ℕ) → k ≤ ends * suc sites + done → done ≤ sites → suc k ≤ suc ends * suc sites + 0
wider ends sites done k l m = let h : suc ends * suc sites ≡ ends * suc sites + suc sites = grind (arith) in omega (arith, l, m, h)

is_less : (m n : ℕ) → m < n → nat_lt m n ≡ true
is_less m n h = grind (arith, nat_tests)

true_not_false : (b : Bool) → b ≡ true → b ≡ false → ⊥
true_not_false true e f = cc
true_not_false false e f = cc

both_true : (a b : Bool) → a ≡ true → b ≡ true → a && b ≡ false → ⊥
both_true true true e f g = cc
both_true true false e f g = cc
both_true false b e f g = cc

pub begins : (run : Run) (p : ℕ) (proc : Proc) → slice_get run.procs p ≡ Some proc → IsOfType proc.behavior.state proc.opening → IsStanding run p proc 0 (opened proc)
unfolding position_after
begins run p proc is typed = record {
  proc_is = is;
  within = omega arith;
  at_is = refl;
  stands_open = open_first proc.behavior proc.opening typed;
  ends = omega arith;
  count = omega arith;
}

-- the site of an event, at which the activation can stand
abbrev FitsAt : Behavior → Position → Event → Type 0
FitsAt b at (Recv i) = (site : Site) × (slice_get b.sites i ≡ Some site) × (at.done ≤ i) × ((w : Word) → IsWordOf (b.width site.chan) w → IsOpen b at.state (at.got ++ w ∷ []) (suc i))
FitsAt b at (Send i w) = (site : Site) × (slice_get b.sites i ≡ Some site) × (at.done ≤ i) × IsOpen b at.state at.got (suc i)
FitsAt b at (End s) = Unit {0}

fits_at : (b : Behavior) (at : Position) (e : Event) → EventAt b at.state at.got at.done e → FitsAt b at e
fits_at b at e (receives_at i site l here o t) = (site, here, l, λ w h. open_receive b at.state at.got i site w o here t h)
fits_at b at e (sends_at i site w l here o t) = (site, here, l, open_send b at.state at.got i site w o here t)
fits_at b at e (ends_with o) = tt

module _ (run : Run) (fits : IsRun run) (p : ℕ) (proc : Proc) (k : ℕ) (at : Position) (here : IsStanding run p proc k at) (active : at.ends < run.activations) where
  abbrev pub sites : List Site
  sites = proc.behavior.sites

  fits_next : (e : Event) → next_of proc.behavior at ≡ e → EventFits proc.behavior e
  fits_next e next = subst (λ x. EventFits proc.behavior x) next (next_keeps_types proc.behavior (fits.keeps_types p proc here.proc_is) at.state at.got at.done here.stands_open)

  stands_at : (e : Event) → next_of proc.behavior at ≡ e → FitsAt proc.behavior at e
  stands_at e next = fits_at proc.behavior at e (subst (λ x. EventAt proc.behavior at.state at.got at.done x) next (next_at proc.behavior at.state at.got at.done here.stands_open))

  pub ends_next : (s : Value) → next_of proc.behavior at ≡ End s → GoesOn run p proc k (End s) (record { state = s; got = []; done = 0; ends = suc at.ends })
  unfolding finds_word fits_after
  ends_next s next =
      goes run p proc k at (End s) here active next (record { state = s; got = []; done = 0; ends = suc at.ends })
      (λ same. let wrong = within.tests run p proc (first_events run p k) (End s) (before run p proc k at (End s) here active next) same in cc)
      refl (open_first proc.behavior s (fits_next (End s) next)) (omega (arith, active)) (wider at.ends (length sites) at.done k here.count here.stands_open.within)

  pub sends_next : (i : ℕ) (w : Word) (site : Site) → next_of proc.behavior at ≡ Send i w → slice_get sites i ≡ Some site
      → room_at run (final_cut run) site.chan (length (words_sent sites site.chan (first_events run p k))) ≡ true
      → GoesOn run p proc k (Send i w) (record { state = at.state; got = at.got; done = suc i; ends = at.ends })
  unfolding finds_word fits_after
  sends_next i w site next is room =
      let chan = chan_there sites i site is in
      let standing = stands_at (Send i w) next in
      goes run p proc k at (Send i w) here active next (record { state = at.state; got = at.got; done = suc i; ends = at.ends })
      (λ same. true_not_false _ (subst (λ c. room_at run (final_cut run) c (length (words_sent sites c (first_events run p k))) ≡ true) (sym chan) room)
      (within.tests run p proc (first_events run p k) (Send i w) (before run p proc k at (Send i w) here active next) same))
      refl standing.3 here.ends (omega (arith, here.count, standing.2))

  pub receives_next : (i : ℕ) (w : Word) (site : Site) → next_of proc.behavior at ≡ Recv i → slice_get sites i ≡ Some site
      → slice_get (words_at run (final_cut run) site.chan) (count_received sites site.chan (first_events run p k)) ≡ Some w
      → IsWordOf (proc.behavior.width site.chan) w
      → GoesOn run p proc k (Recv i) (record { state = at.state; got = at.got ++ w ∷ []; done = suc i; ends = at.ends })
  unfolding finds_word fits_after
  receives_next i w site next is there typed =
      let chan = chan_there sites i site is in
      let standing = stands_at (Recv i) next in
      let made = first_events run p k in
      let words = words_at run (final_cut run) in
      let same_site : standing.0 ≡ site = (let a = standing.1 in cc) in
      let found = is_less _ _ (slice_get_within (words site.chan) (count_received sites site.chan made) w there) in
      goes run p proc k at (Recv i) here active next (record { state = at.state; got = at.got ++ w ∷ []; done = suc i; ends = at.ends })
      (λ same. both_true _ _ (subst (λ c. nat_lt (count_received sites c made) (length (words c)) ≡ true) (sym chan) found) refl
      (within.tests run p proc made (Recv i) (before run p proc k at (Recv i) here active next) same))
      (ap (λ (ws : List Word). record { state = at.state; got = at.got ++ ws; done = suc i; ends = at.ends })
      (ap (λ (ws : List Word). take 1 ws) (left_are_behind sites (chan_at sites i) made words) ∙ (ap (λ c. take 1 (drop (count_received sites c made) (words c))) chan ∙ first_left (count_received sites site.chan made) (words site.chan) w there)))
      (standing.3 w (subst (λ (x : Site). IsWordOf (proc.behavior.width x.chan) w) (sym same_site) typed)) here.ends (omega (arith, here.count, standing.2))

-- on an output there is always room
output_room : (run : Run) (c j : ℕ) (chan : Chan) → slice_get run.chans c ≡ Some chan → chan.kind ≡ Output → room_at run (final_cut run) c j ≡ true
unfolding room_at room_by
output_room run c j chan chan_is output = ap (λ o. room_by run (final_cut run) c j o) chan_is ∙ by_kind chan.kind output
  where
    by_kind : (kind : Kind) → kind ≡ Output
        → ◌≡◌ {A = Bool} (elim kind as (λ _. Bool) [ Input ↦ true | Output ↦ true | Inner ↦ nat_lt j (received_at run (final_cut run) c + get_or run.depths c 0) ]) true
    by_kind Input k = cc
    by_kind Output k = refl
    by_kind Inner k = cc

-- for a word of the stream too
stream_room : (run : Run) (p : ℕ) (proc : Proc) (c j : ℕ) (w : Word) (chan : Chan) → slice_get run.procs p ≡ Some proc → slice_get run.chans c ≡ Some chan → chan.kind ≡ Inner → sender run c ≡ p
    → slice_get (words_at run (final_cut run) c) j ≡ Some w → room_at run (final_cut run) c j ≡ true
stream_room run p proc c j w chan is chan_is inner ours there =
    let words = inner_words run (final_cut run) p c proc chan is chan_is inner ours in
    let there' = ap (λ (ws : List Word). slice_get ws j) (sym words) ∙ there in
    let less = slice_get_within (words_sent proc.behavior.sites c (final_cut run p)) j w there' in
    each_sent_word_had_room run p c j (subst (λ (ss : List Site). j < length (words_sent ss c (final_cut run p))) (sym (ap sites_of is)) less)

pub sends_go : (run : Run) → IsRun run → (p : ℕ) (proc : Proc) (k : ℕ) (at : Position) → IsStanding run p proc k at → at.ends < run.activations
    → (i : ℕ) (w : Word) (site : Site) (chan : Chan) → next_of proc.behavior at ≡ Send i w → slice_get proc.behavior.sites i ≡ Some site → site.sends ≡ true
    → slice_get run.chans site.chan ≡ Some chan
    → (chan.kind ≡ Output) ⊎ ((chan.kind ≡ Inner) × (slice_get (words_at run (final_cut run) site.chan) (length (sent_first run p proc k site.chan)) ≡ Some w))
    → GoesOn run p proc k (Send i w) (record { state = at.state; got = at.got; done = suc i; ends = at.ends })
sends_go run fits p proc k at here active i w site chan next is sends chan_is (inl output) =
    sends_next run fits p proc k at here active i w site next is (output_room run site.chan _ chan chan_is output)
sends_go run fits p proc k at here active i w site chan next is sends chan_is (inr inner) =
    sends_next run fits p proc k at here active i w site next is
    (stream_room run p proc site.chan _ w chan here.proc_is chan_is inner.0 ((fits.sites p i proc site (record { proc_is = here.proc_is; place = is })).sends sends) inner.1)

pub receives_go : (run : Run) → IsTyped run → (p : ℕ) (proc : Proc) (k : ℕ) (at : Position) → IsStanding run p proc k at → at.ends < run.activations
    → (i : ℕ) (w : Word) (site : Site) → next_of proc.behavior at ≡ Recv i → slice_get proc.behavior.sites i ≡ Some site
    → slice_get (words_at run (final_cut run) site.chan) (received_first run p proc k site.chan) ≡ Some w
    → GoesOn run p proc k (Recv i) (record { state = at.state; got = at.got ++ w ∷ []; done = suc i; ends = at.ends })
receives_go run typed p proc k at here active i w site next is there =
    let fit = typed.fits.sites p i proc site (record { proc_is = here.proc_is; place = is }) in
    let wide = typed.words site.chan fit.chan fit.chan_is (received_first run p proc k site.chan) w there in
    receives_next run typed.fits p proc k at here active i w site next is there (subst (λ n. IsWordOf n w) (sym fit.width) wide)
