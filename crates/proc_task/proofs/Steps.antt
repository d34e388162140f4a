-- A task behind each of its events, and where an event waits.
use Rattle.std.proofs.Common.{◌≡◌, ◌≢◌, ℕ, suc, ◌+◌, ◌*◌, ◌<◌, ◌≤◌, ◌^◌, List, [], ◌∷◌, ◌++◌, length, Bool, cond, eqb, Option, Some, None, get_or, refl, sym, ap, ◌∙◌, subst, arith, inl, inr, true, false}
use Rattle.std.specs.Prelude.{slice_get, slice_set, ◌⊎◌, nat_lt}
use Rattle.std.proofs.lemmas.Bool.Decides.{nat_tests}
use Rattle.std.proofs.lemmas.Nat.{mul-le}
use Rattle.std.proofs.lemmas.List.{append-nil, length-take-le}
use Rattle.std.proofs.lemmas.Option.{slice_get_within}
use Rattle.base.specs.Lists.Prefix.{IsPrefix}
use Rattle.base.proofs.Lemmas.Lists.Indices.{slice_get-set}
use Rattle.xb_bits.specs.Word.{Word}
use Rattle.xb_value.specs.declared.value.Value.{Value}
use Rattle.xb_value.specs.Typing.{IsOfType}
use Rattle.chan_queue.specs.declared.queue.ChanQueue.{ChanQueue}
use Rattle.chan_queue.specs.declared.pass.SendPass.{SendPass}
use Rattle.chan_queue.specs.declared.pass.RecvPass.{RecvPass}
use Rattle.net_core.specs.declared.net.Site.{Site}
use Rattle.net_core.specs.declared.net.Chan.{Chan}
use Rattle.net_core.specs.declared.net.Kind.{Kind}
use Rattle.net_core.specs.declared.net.Kind.TheVariants.{Output, Inner}
use Rattle.net_core.specs.declared.event.Event.{Event}
use Rattle.net_core.specs.declared.event.Event.TheVariants.{Recv, Send, End}
use Rattle.net_core.specs.Behavior.{Behavior, chan_at, next_event}
use Rattle.net_core.specs.Outcomes.{stall_for}
use Rattle.net_core.specs.Nexts.{EventFits}
use Rattle.net_core.specs.Cuts.{Proc, Run, words_sent, count_received, words_at, received_at, final_cut}
use Rattle.net_core.specs.Machine.{Position, next_of}
use Rattle.net_core.specs.declared.activation.Activation.{Activation}
use Rattle.net_core.proofs.Lemmas.{next_keeps_types, EventAt, receives_at, sends_at, ends_with, next_at}
use Rattle.chan_queue.specs.Streams.Streams.{IsSiteOn}
use Rattle.chan_queue.specs.Streams.Moves.{IsStanding, GoesOn, first_events, sent_first, received_first}
use Rattle.chan_queue.proofs.Lemmas.Streams.{chan_there, begins, before, ends_next, sends_go, receives_go, sends_within, receives_within, input_words}
use Rattle.proc_task.specs.declared.port.Outlet.{Outlet}
use Rattle.proc_task.specs.declared.port.Inlet.{Inlet}
use Rattle.proc_task.specs.declared.task.Task.{Task}
use Rattle.proc_task.specs.Ports.{IsOutlet, IsInlet, OutRight, InRight, NextBy, PutBy, TakeBy, IsNextOn, MayPut, MayTake, IsFull, IsDry}
use Rattle.proc_task.specs.Moving.{HasOutlet, HasInlet, HasEnds, position_of, IsTask, IsNewTask, IsBefore, Waits, IsFurther, IsSameTask, IsAtSiteIn, end_at}
use Rattle.proc_task.proofs.Ports.{at_set, with_outlet, with_inlet}

apart : (m n : ℕ) → m ≢ n → eqb m n ≡ false
apart m n h = grind (arith, nat_tests)

same : (m n : ℕ) → m ≡ n → eqb m n ≡ true
same m n h = grind (arith, nat_tests)

-- what one event sends and receives on a channel
words_here : (sites : List Site) (i c : ℕ) (w : Word) → chan_at sites i ≡ c → words_sent sites c (Send i w ∷ []) ≡ w ∷ []
unfolding words_sent
words_here sites i c w e = ap (λ b. cond b (w ∷ []) []) (same _ _ e)

words_other : (sites : List Site) (i c : ℕ) (w : Word) → chan_at sites i ≢ c → words_sent sites c (Send i w ∷ []) ≡ []
unfolding words_sent
words_other sites i c w e = ap (λ b. cond b (w ∷ []) []) (apart _ _ e)

words_recv : (sites : List Site) (i c : ℕ) → words_sent sites c (Recv i ∷ []) ≡ []
unfolding words_sent
words_recv sites i c = refl

words_end : (sites : List Site) (s : Value) (c : ℕ) → words_sent sites c (End s ∷ []) ≡ []
unfolding words_sent
words_end sites s c = refl

count_here : (sites : List Site) (i c : ℕ) → chan_at sites i ≡ c → count_received sites c (Recv i ∷ []) ≡ 1
unfolding count_received
count_here sites i c e = ap (λ b. cond b 1 0) (same _ _ e)

count_other : (sites : List Site) (i c : ℕ) → chan_at sites i ≢ c → count_received sites c (Recv i ∷ []) ≡ 0
unfolding count_received
count_other sites i c e = ap (λ b. cond b 1 0) (apart _ _ e)

count_send : (sites : List Site) (i c : ℕ) (w : Word) → count_received sites c (Send i w ∷ []) ≡ 0
unfolding count_received
count_send sites i c w = refl

count_end : (sites : List Site) (s : Value) (c : ℕ) → count_received sites c (End s ∷ []) ≡ 0
unfolding count_received
count_end sites s c = refl

count_if : (b : Bool) (n : ℕ) → cond b (suc n) n ≤ suc n
count_if true n = omega arith
count_if false n = omega arith

-- no more is received than there are events
count_most : (sites : List Site) (c : ℕ) (es : List Event) → count_received sites c es ≤ length es
unfolding count_received
count_most sites c [] = omega arith
count_most sites c (Recv i ∷ es) = omega (arith, count_most sites c es, count_if (eqb (chan_at sites i) c) (count_received sites c es))
count_most sites c (Send i w ∷ es) = omega (arith, count_most sites c es)
count_most sites c (End s ∷ es) = omega (arith, count_most sites c es)

-- the site of an event, which isn't past
abbrev site_or : ℕ → Event → ℕ
site_or done (Recv i) = i
site_or done (Send i w) = i
site_or done (End s) = done

not_past : (b : Behavior) (s : Value) (got : List Word) (done : ℕ) (event : Event) → EventAt b s got done event → done ≤ site_or done event
not_past b s got done _ (receives_at i site later place stands turn) = later
not_past b s got done _ (sends_at i site w later place stands turn) = later
not_past b s got done _ (ends_with stands) = omega arith

product : (ends n : ℕ) → ends < 2 ^ 32 → n < 2 ^ 30 → ends * suc n + n < 2 ^ 62
product ends n e f =
    let g : ends * suc n ≤ 4294967295 * 1073741824 = mul-le ends (suc n) 4294967295 1073741824 (omega (arith, e)) (omega (arith, f)) in
    omega (arith, g, f)

module _ {S H : Type 0} (run : Run) (lines : List (Option (ChanQueue S))) where
  -- a task by its parts
  build : (t u : Task S H) (is : IsTask run lines t) → u.number ≡ t.number → u.sites.items ≡ t.sites.items → u.indices.items ≡ t.indices.items
      → (k : ℕ) → u.count ≡ k → (at : Position) → position_of u ≡ at → IsStanding run t.number is.proc k at
      → HasEnds run lines t.sites.items t.indices.items u.outlets.items u.inlets.items
      → ((j : ℕ) (o : Outlet S) → slice_get u.outlets.items j ≡ Some o → o.words.items ≡ sent_first run t.number is.proc k o.chan)
      → ((j : ℕ) (o : Inlet S) → slice_get u.inlets.items j ≡ Some o → o.received ≡ received_first run t.number is.proc k o.chan)
      → IsTask run lines u
  build t u is number sites indices k count at here stands ports words received = record {
    typed = is.typed;
    proc = is.proc;
    standing = subst (λ (x : ℕ × ℕ × Position). IsStanding run x.0 is.proc x.1 x.2) (λ i. (sym number i, sym count i, sym here i)) stands;
    sites = sites ∙ is.sites;
    ports = subst (λ (x : List Site × List ℕ). HasEnds run lines x.0 x.1 u.outlets.items u.inlets.items) (λ i. (sym sites i, sym indices i)) ports;
    words = λ j o e. subst (λ (x : ℕ × ℕ). o.words.items ≡ sent_first run x.0 is.proc x.1 o.chan) (λ i. (sym number i, sym count i)) (words j o e);
    received = λ j o e. subst (λ (x : ℕ × ℕ). o.received ≡ received_first run x.0 is.proc x.1 o.chan) (λ i. (sym number i, sym count i)) (received j o e);
  }

  -- where only memory was asked for, nothing has changed
  pub unchanged : (t u : Task S H) → IsTask run lines t → u.number ≡ t.number → u.sites.items ≡ t.sites.items → u.indices.items ≡ t.indices.items
      → u.count ≡ t.count → position_of u ≡ position_of t → u.outlets.items ≡ t.outlets.items → u.inlets.items ≡ t.inlets.items → IsTask run lines u
  unchanged t u is number sites indices count here outlets inlets =
      build t u is number sites indices t.count count (position_of t) here is.standing
      (subst (λ (x : List (Outlet S) × List (Inlet S)). HasEnds run lines t.sites.items t.indices.items x.0 x.1) (λ i. (sym outlets i, sym inlets i)) is.ports)
      (λ j o e. is.words j o (ap (λ xs. slice_get xs j) (sym outlets) ∙ e))
      (λ j o e. is.received j o (ap (λ xs. slice_get xs j) (sym inlets) ∙ e))

  before_same : (t u : Task S H) (event : Event) → u.number ≡ t.number → position_of u ≡ position_of t → IsBefore run t event → IsBefore run u event
  before_same t u event number here next = record {
    active = subst (λ (x : Position). x.ends < run.activations) (sym here) next.active;
    next = λ proc e. ap (λ (x : Position). next_of proc.behavior x) here ∙ next.next proc (ap (λ n. slice_get run.procs n) (sym number) ∙ e);
  }

  module _ (t : Task S H) (is : IsTask run lines t) where
    abbrev pub proc : Proc
    proc = is.proc

    pub few_sites : length t.sites.items < 2 ^ 30
    few_sites = subst (λ (xs : List Site). length xs < 2 ^ 30) (sym is.sites) (is.typed.fits.few_sites t.number proc is.standing.proc_is)

    pub small_count : t.ends ≤ run.activations → t.count < 2 ^ 62
    small_count l =
        let s = is.typed.fits.few_sites t.number proc is.standing.proc_is in
        let n = is.typed.fits.activations in
        let p = product t.ends (length proc.behavior.sites) (omega (arith, l, n)) s in
        omega (arith, is.standing.count, is.standing.stands_open.within, p)

    -- the inlet was looked at
    pub set_inlet : (place : ℕ) (old new : Inlet S) (u : Task S H) → slice_get t.inlets.items place ≡ Some old
        → IsInlet run lines new → new.chan ≡ old.chan → new.received ≡ old.received
        → u.number ≡ t.number → u.sites.items ≡ t.sites.items → u.indices.items ≡ t.indices.items → u.count ≡ t.count → position_of u ≡ position_of t
        → u.outlets.items ≡ t.outlets.items → u.inlets.items ≡ slice_set t.inlets.items place new → IsTask run lines u
    set_inlet place old new u was ok chan same_count number sites indices count here outlets inlets =
        build t u is number sites indices t.count count (position_of t) here is.standing
        (subst (λ (x : List (Outlet S) × List (Inlet S)). HasEnds run lines t.sites.items t.indices.items x.0 x.1) (λ j. (sym outlets j, sym inlets j))
        (with_inlet run lines t.sites.items t.indices.items t.outlets.items t.inlets.items is.ports place old new was chan ok))
        (λ j o e. is.words j o (ap (λ xs. slice_get xs j) (sym outlets) ∙ e))
        (λ j o e. one j o (at_set t.inlets.items place old new j o was (ap (λ xs. slice_get xs j) (sym inlets) ∙ e)))
      where
        one : (j : ℕ) (o : Inlet S) → ((j ≡ place) × (new ≡ o)) ⊎ ((j ≢ place) × (slice_get t.inlets.items j ≡ Some o)) → o.received ≡ received_first run t.number proc t.count o.chan
        one j o (inl h) =
            subst (λ (x : Inlet S). x.received ≡ received_first run t.number proc t.count x.chan) h.1
            (same_count ∙ (is.received place old was ∙ ap (λ c. received_first run t.number proc t.count c) (sym chan)))
        one j o (inr h) = is.received j o h.1

    -- the outlet was tried
    pub set_outlet : (place : ℕ) (old new : Outlet S) (u : Task S H) → slice_get t.outlets.items place ≡ Some old
        → IsOutlet run lines new → new.chan ≡ old.chan → new.words.items ≡ old.words.items
        → u.number ≡ t.number → u.sites.items ≡ t.sites.items → u.indices.items ≡ t.indices.items → u.count ≡ t.count → position_of u ≡ position_of t
        → u.outlets.items ≡ slice_set t.outlets.items place new → u.inlets.items ≡ t.inlets.items → IsTask run lines u
    set_outlet place old new u was ok chan same_words number sites indices count here outlets inlets =
        build t u is number sites indices t.count count (position_of t) here is.standing
        (subst (λ (x : List (Outlet S) × List (Inlet S)). HasEnds run lines t.sites.items t.indices.items x.0 x.1) (λ j. (sym outlets j, sym inlets j))
        (with_outlet run lines t.sites.items t.indices.items t.outlets.items t.inlets.items is.ports place old new was chan ok))
        (λ j o e. one j o (at_set t.outlets.items place old new j o was (ap (λ xs. slice_get xs j) (sym outlets) ∙ e)))
        (λ j o e. is.received j o (ap (λ xs. slice_get xs j) (sym inlets) ∙ e))
      where
        one : (j : ℕ) (o : Outlet S) → ((j ≡ place) × (new ≡ o)) ⊎ ((j ≢ place) × (slice_get t.outlets.items j ≡ Some o)) → o.words.items ≡ sent_first run t.number proc t.count o.chan
        one j o (inl h) =
            subst (λ (x : Outlet S). x.words.items ≡ sent_first run t.number proc t.count x.chan) h.1
            (same_words ∙ (is.words place old was ∙ ap (λ c. sent_first run t.number proc t.count c) (sym chan)))
        one j o (inr h) = is.words j o h.1

    -- the site of its next event
    module _ (event : Event) (next : IsBefore run t event) where
      comes : next_of proc.behavior (position_of t) ≡ event
      comes = next.next proc is.standing.proc_is

      fits : EventFits proc.behavior event
      fits = subst (λ x. EventFits proc.behavior x) comes
          (next_keeps_types proc.behavior (is.typed.fits.keeps_types t.number proc is.standing.proc_is) t.state t.got.items t.done is.standing.stands_open)

      later : t.done ≤ site_or t.done event
      later =
          subst (λ x. t.done ≤ site_or t.done x) comes
          (not_past proc.behavior t.state t.got.items t.done _ (next_at proc.behavior t.state t.got.items t.done is.standing.stands_open))

    -- a receive
    module _ (i : ℕ) (next : IsBefore run t (Recv i)) where
      pub receive_later : t.done ≤ i
      receive_later = later (Recv i) next

      pub inlet_there : (site : Site) × (slice_get t.sites.items i ≡ Some site) × HasInlet t.sites.items t.indices.items t.inlets.items i site
      inlet_there =
          let fit = fits (Recv i) next in
          let there = ap (λ (xs : List Site). slice_get xs i) is.sites ∙ fit.1 in
          (fit.0, there, is.ports.receivers i fit.0 there fit.2)

      in_proc : (site : Site) → slice_get t.sites.items i ≡ Some site → slice_get proc.behavior.sites i ≡ Some site
      in_proc site e = ap (λ (xs : List Site). slice_get xs i) (sym is.sites) ∙ e

      pub may_take : (place : ℕ) (inlet : Inlet S) → inlet_there.2.place ≡ place → slice_get t.inlets.items place ≡ Some inlet → MayTake run inlet
      may_take place inlet at e = (few, by_right inlet.pass refl)
        where
          few : inlet.received < 2 ^ 62
          few =
              let r = is.received place inlet e in
              let c = count_most proc.behavior.sites inlet.chan (first_events run t.number t.count) in
              let l = length-take-le t.count (final_cut run t.number) is.standing.within in
              omega (arith, r, c, l, small_count is.standing.ends)

          fit : (site : Site) × (slice_get t.sites.items i ≡ Some site) × HasInlet t.sites.items t.indices.items t.inlets.items i site
          fit = inlet_there

          chan : inlet.chan ≡ fit.0.chan
          chan =
              let same_inlet : fit.2.inlet ≡ inlet = (let a = fit.2.inlet_is in let b = ap (λ k. slice_get t.inlets.items k) at ∙ e in cc) in
              sym (ap (λ (o : Inlet S). o.chan) same_inlet) ∙ fit.2.chan_is

          by_right : (pass : Option (RecvPass S)) → inlet.pass ≡ pass → TakeBy run inlet.chan inlet.received inlet.pass
          by_right None p =
              let end = is.ports.inlet place inlet e in
              let kind = subst (λ x. InRight run lines inlet.chan end.chan.kind inlet.received x) p end.right in
              subst (λ x. TakeBy run inlet.chan inlet.received x) (sym p) (input_words run (final_cut run) inlet.chan end.chan end.chan_is kind)
          by_right (Some pass) p =
              let end = is.ports.inlet place inlet e in
              let right = subst (λ x. InRight run lines inlet.chan end.chan.kind inlet.received x) p end.right in
              let stands = before run t.number proc t.count (position_of t) (Recv i) is.standing next.active (comes (Recv i) next) in
              let here = in_proc fit.0 fit.1 in
              let faces = fits (Recv i) next in
              let receives : fit.0.sends ≡ false = (let same_site : faces.0 ≡ fit.0 = (let a = faces.1 in cc) in sym (ap (λ (s : Site). s.sends) same_site) ∙ faces.2) in
              let on : IsSiteOn run proc i fit.0 false = record { place = here; direction = receives; chan = end.chan; chan_is = ap (λ c. slice_get run.chans c) (sym chan) ∙ end.chan_is; inner = right.0 } in
              let answer = receives_within run t.number proc (first_events run t.number t.count) i fit.0 is.typed.fits stands on in
              let counted : count_received proc.behavior.sites fit.0.chan (first_events run t.number t.count) ≡ inlet.received = ap (λ c. received_first run t.number proc t.count c) (sym chan) ∙ sym (is.received place inlet e) in
              subst (λ x. TakeBy run inlet.chan inlet.received x) (sym p) (go counted answer)
            where
              go : count_received proc.behavior.sites fit.0.chan (first_events run t.number t.count) ≡ inlet.received
                  → ((count_received proc.behavior.sites fit.0.chan (first_events run t.number t.count) < received_at run (final_cut run) fit.0.chan) × IsPrefix (first_events run t.number t.count ++ Recv i ∷ []) (final_cut run t.number))
                  ⊎ ((count_received proc.behavior.sites fit.0.chan (first_events run t.number t.count) ≡ received_at run (final_cut run) fit.0.chan) × (received_at run (final_cut run) fit.0.chan ≡ length (words_at run (final_cut run) fit.0.chan)))
                  → (inlet.received < received_at run (final_cut run) inlet.chan) ⊎ ((inlet.received ≡ received_at run (final_cut run) inlet.chan) × (received_at run (final_cut run) inlet.chan ≡ length (words_at run (final_cut run) inlet.chan)))
              go counted (inl h) = inl (omega (arith, counted, h.0, ap (λ c. received_at run (final_cut run) c) chan))
              go counted (inr h) =
                  let c = ap (λ c. received_at run (final_cut run) c) chan in
                  inr (sym counted ∙ (h.0 ∙ sym c), c ∙ (h.1 ∙ sym (ap (λ c. length (words_at run (final_cut run) c)) chan)))

      -- behind it
      pub after_receive : (place : ℕ) (old new : Inlet S) (w : Word) (u : Task S H) → inlet_there.2.place ≡ place → slice_get t.inlets.items place ≡ Some old
          → IsInlet run lines new → new.chan ≡ old.chan → new.received ≡ suc old.received → slice_get (words_at run (final_cut run) old.chan) old.received ≡ Some w
          → u.number ≡ t.number → u.sites.items ≡ t.sites.items → u.indices.items ≡ t.indices.items → u.count ≡ suc t.count
          → u.state ≡ t.state → u.got.items ≡ t.got.items ++ w ∷ [] → u.done ≡ suc i → u.ends ≡ t.ends
          → u.outlets.items ≡ t.outlets.items → u.inlets.items ≡ slice_set t.inlets.items place new → IsTask run lines u
      after_receive place old new w u at was ok chan more there number sites indices count state got done ends outlets inlets =
          build t u is number sites indices (suc t.count) count to (λ j. record { state = state j; got = got j; done = done j; ends = ends j }) goes.standing
          (subst (λ (x : List (Outlet S) × List (Inlet S)). HasEnds run lines t.sites.items t.indices.items x.0 x.1) (λ j. (sym outlets j, sym inlets j))
          (with_inlet run lines t.sites.items t.indices.items t.outlets.items t.inlets.items is.ports place old new was chan ok))
          (λ j o e. is.words j o (ap (λ xs. slice_get xs j) (sym outlets) ∙ e)
          ∙ sym (goes.sent o.chan ∙ (ap (λ ws. sent_first run t.number proc t.count o.chan ++ ws) (words_recv proc.behavior.sites i o.chan) ∙ append-nil _)))
          (λ j o e. one j o (at_set t.inlets.items place old new j o was (ap (λ xs. slice_get xs j) (sym inlets) ∙ e)))
        where
          fit : (site : Site) × (slice_get t.sites.items i ≡ Some site) × HasInlet t.sites.items t.indices.items t.inlets.items i site
          fit = inlet_there

          to : Position
          to = record { state = t.state; got = t.got.items ++ w ∷ []; done = suc i; ends = t.ends }

          chan_old : old.chan ≡ fit.0.chan
          chan_old =
              let same_inlet : fit.2.inlet ≡ old = (let a = fit.2.inlet_is in let b = ap (λ k. slice_get t.inlets.items k) at ∙ was in cc) in
              sym (ap (λ (o : Inlet S). o.chan) same_inlet) ∙ fit.2.chan_is

          here : chan_at proc.behavior.sites i ≡ fit.0.chan
          here = chan_there proc.behavior.sites i fit.0 (in_proc fit.0 fit.1)

          goes : GoesOn run t.number proc t.count (Recv i) to
          goes =
              receives_go run is.typed t.number proc t.count (position_of t) is.standing next.active i w fit.0 (comes (Recv i) next) (in_proc fit.0 fit.1)
              (subst (λ c. slice_get (words_at run (final_cut run) c) (received_first run t.number proc t.count c) ≡ Some w) chan_old
              (ap (λ n. slice_get (words_at run (final_cut run) old.chan) n) (sym (is.received place old was)) ∙ there))

          one : (j : ℕ) (o : Inlet S) → ((j ≡ place) × (new ≡ o)) ⊎ ((j ≢ place) × (slice_get t.inlets.items j ≡ Some o)) → o.received ≡ received_first run t.number proc (suc t.count) o.chan
          one j o (inl h) =
              subst (λ (x : Inlet S). x.received ≡ received_first run t.number proc (suc t.count) x.chan) h.1
              (more ∙ (ap suc (is.received place old was)
              ∙ (omega (arith, goes.received old.chan, count_here proc.behavior.sites i old.chan (here ∙ sym chan_old))
              ∙ ap (λ c. received_first run t.number proc (suc t.count) c) (sym chan))))
          one j o (inr h) =
              let other = count_other proc.behavior.sites i o.chan
              (λ same_chan. h.0 (is.ports.one_inlet j place o old h.1 was (sym same_chan ∙ (here ∙ sym chan_old)))) in
              is.received j o h.1 ∙ omega (arith, goes.received o.chan, other)

      -- or it waits
      pub held_receive : (place : ℕ) (old new : Inlet S) (u : Task S H) → inlet_there.2.place ≡ place → slice_get t.inlets.items place ≡ Some old
          → new.chan ≡ old.chan → IsDry run new
          → u.number ≡ t.number → u.sites.items ≡ t.sites.items → position_of u ≡ position_of t → u.inlets.items ≡ slice_set t.inlets.items place new → Waits run u
      held_receive place old new u at was chan dry number sites here inlets =
          let fit = inlet_there in
          let same_inlet : fit.2.inlet ≡ old = (let a = fit.2.inlet_is in let b = ap (λ k. slice_get t.inlets.items k) at ∙ was in cc) in
          let chan_old = sym (ap (λ (o : Inlet S). o.chan) same_inlet) ∙ fit.2.chan_is in
          inr (
            Recv i,
            before_same t u (Recv i) number here next,
            (fit.0, place, new, ap (λ (xs : List Site). slice_get xs i) sites ∙ fit.1, ap (λ (xs : List (Inlet S)). slice_get xs place) inlets ∙ slice_get-set t.inlets.items place old new was, chan ∙ chan_old, dry),
          )

    -- a send
    module _ (i : ℕ) (w : Word) (next : IsBefore run t (Send i w)) where
      pub send_later : t.done ≤ i
      send_later = later (Send i w) next

      pub outlet_there : (site : Site) × (slice_get t.sites.items i ≡ Some site) × HasOutlet t.sites.items t.indices.items t.outlets.items i site
      outlet_there =
          let fit = fits (Send i w) next in
          let there = ap (λ (xs : List Site). slice_get xs i) is.sites ∙ fit.1 in
          (fit.0, there, is.ports.senders i fit.0 there fit.2)

      from_proc : (site : Site) → slice_get t.sites.items i ≡ Some site → slice_get proc.behavior.sites i ≡ Some site
      from_proc site e = ap (λ (xs : List Site). slice_get xs i) (sym is.sites) ∙ e

      sending : (site : Site) → slice_get t.sites.items i ≡ Some site → site.sends ≡ true
      sending site e =
          let fit = fits (Send i w) next in
          let there = ap (λ (xs : List Site). slice_get xs i) is.sites ∙ fit.1 in
          let same_site : fit.0 ≡ site = cc in
          sym (ap (λ (s : Site). s.sends) same_site) ∙ fit.2

      chan_of : (place : ℕ) (outlet : Outlet S) → outlet_there.2.place ≡ place → slice_get t.outlets.items place ≡ Some outlet → outlet.chan ≡ outlet_there.0.chan
      chan_of place outlet at e =
          let fit = outlet_there in
          let same_outlet : fit.2.outlet ≡ outlet = (let a = fit.2.outlet_is in let b = ap (λ k. slice_get t.outlets.items k) at ∙ e in cc) in
          sym (ap (λ (o : Outlet S). o.chan) same_outlet) ∙ fit.2.chan_is

      pub may_put : (place : ℕ) (outlet : Outlet S) → outlet_there.2.place ≡ place → slice_get t.outlets.items place ≡ Some outlet → MayPut run outlet w
      may_put place outlet at e = by_right outlet.pass refl
        where
          fit : (site : Site) × (slice_get t.sites.items i ≡ Some site) × HasOutlet t.sites.items t.indices.items t.outlets.items i site
          fit = outlet_there

          chan : outlet.chan ≡ fit.0.chan
          chan = chan_of place outlet at e

          by_right : (pass : Option (SendPass S)) → outlet.pass ≡ pass → PutBy run outlet.chan (length outlet.words.items) w outlet.pass
          by_right None p = subst (λ x. PutBy run outlet.chan (length outlet.words.items) w x) (sym p) tt
          by_right (Some pass) p =
              let end = is.ports.outlet place outlet e in
              let right = subst (λ x. OutRight run lines outlet.chan end.chan.kind (length outlet.words.items) x) p end.right in
              let stands = before run t.number proc t.count (position_of t) (Send i w) is.standing next.active (comes (Send i w) next) in
              let on : IsSiteOn run proc i fit.0 true = record { place = from_proc fit.0 fit.1; direction = sending fit.0 fit.1; chan = end.chan; chan_is = ap (λ c. slice_get run.chans c) (sym chan) ∙ end.chan_is; inner = right.0 } in
              let answer = sends_within run t.number proc (first_events run t.number t.count) i w fit.0 is.typed.fits stands on in
              let counted : length (words_sent proc.behavior.sites fit.0.chan (first_events run t.number t.count)) ≡ length outlet.words.items = ap (λ c. length (sent_first run t.number proc t.count c)) (sym chan) ∙ sym (ap length (is.words place outlet e)) in
              subst (λ x. PutBy run outlet.chan (length outlet.words.items) w x) (sym p) (go counted answer)
            where
              go : length (words_sent proc.behavior.sites fit.0.chan (first_events run t.number t.count)) ≡ length outlet.words.items
                  → ((slice_get (words_at run (final_cut run) fit.0.chan) (length (words_sent proc.behavior.sites fit.0.chan (first_events run t.number t.count))) ≡ Some w) × IsPrefix (first_events run t.number t.count ++ Send i w ∷ []) (final_cut run t.number))
                  ⊎ ((length (words_sent proc.behavior.sites fit.0.chan (first_events run t.number t.count)) ≡ length (words_at run (final_cut run) fit.0.chan))
                  × (length (words_sent proc.behavior.sites fit.0.chan (first_events run t.number t.count)) ≡ received_at run (final_cut run) fit.0.chan + get_or run.depths fit.0.chan 0))
                  → (slice_get (words_at run (final_cut run) outlet.chan) (length outlet.words.items) ≡ Some w)
                  ⊎ ((length outlet.words.items ≡ length (words_at run (final_cut run) outlet.chan)) × (length outlet.words.items ≡ received_at run (final_cut run) outlet.chan + get_or run.depths outlet.chan 0))
              go counted (inl h) = inl (ap (λ c. slice_get (words_at run (final_cut run) c) (length outlet.words.items)) chan ∙ (ap (λ n. slice_get (words_at run (final_cut run) fit.0.chan) n) (sym counted) ∙ h.0))
              go counted (inr h) =
                  inr (sym counted ∙ (h.0 ∙ sym (ap (λ c. length (words_at run (final_cut run) c)) chan)), sym counted ∙ (h.1 ∙ sym (ap (λ c. received_at run (final_cut run) c + get_or run.depths c 0) chan)))

      -- behind it
      pub after_send : (place : ℕ) (old new : Outlet S) (u : Task S H) → outlet_there.2.place ≡ place → slice_get t.outlets.items place ≡ Some old
          → IsOutlet run lines new → new.chan ≡ old.chan → new.words.items ≡ old.words.items ++ w ∷ [] → IsNextOn run old w
          → u.number ≡ t.number → u.sites.items ≡ t.sites.items → u.indices.items ≡ t.indices.items → u.count ≡ suc t.count
          → u.state ≡ t.state → u.got.items ≡ t.got.items → u.done ≡ suc i → u.ends ≡ t.ends
          → u.outlets.items ≡ slice_set t.outlets.items place new → u.inlets.items ≡ t.inlets.items → IsTask run lines u
      after_send place old new u at was ok chan more there number sites indices count state got done ends outlets inlets =
          build t u is number sites indices (suc t.count) count to (λ j. record { state = state j; got = got j; done = done j; ends = ends j }) goes.standing
          (subst (λ (x : List (Outlet S) × List (Inlet S)). HasEnds run lines t.sites.items t.indices.items x.0 x.1) (λ j. (sym outlets j, sym inlets j))
          (with_outlet run lines t.sites.items t.indices.items t.outlets.items t.inlets.items is.ports place old new was chan ok))
          (λ j o e. one j o (at_set t.outlets.items place old new j o was (ap (λ xs. slice_get xs j) (sym outlets) ∙ e)))
          (λ j o e. is.received j o (ap (λ xs. slice_get xs j) (sym inlets) ∙ e) ∙ omega (arith, goes.received o.chan, count_send proc.behavior.sites i o.chan w))
        where
          fit : (site : Site) × (slice_get t.sites.items i ≡ Some site) × HasOutlet t.sites.items t.indices.items t.outlets.items i site
          fit = outlet_there

          to : Position
          to = record { state = t.state; got = t.got.items; done = suc i; ends = t.ends }

          chan_old : old.chan ≡ fit.0.chan
          chan_old = chan_of place old at was

          here : chan_at proc.behavior.sites i ≡ fit.0.chan
          here = chan_there proc.behavior.sites i fit.0 (from_proc fit.0 fit.1)

          stream : (pass : Option (SendPass S)) (kind : Kind) → OutRight run lines old.chan kind (length old.words.items) pass → NextBy run old.chan (length old.words.items) w pass
              → (kind ≡ Output) ⊎ ((kind ≡ Inner) × (slice_get (words_at run (final_cut run) old.chan) (length old.words.items) ≡ Some w))
          stream None kind r n = inl r
          stream (Some pass) kind r n = inr (r.0, n)

          lands : (chan : Chan) × (slice_get run.chans fit.0.chan ≡ Some chan)
              × ((chan.kind ≡ Output) ⊎ ((chan.kind ≡ Inner) × (slice_get (words_at run (final_cut run) fit.0.chan) (length (sent_first run t.number proc t.count fit.0.chan)) ≡ Some w)))
          lands =
              let end = is.ports.outlet place old was in (
                end.chan,
                ap (λ c. slice_get run.chans c) (sym chan_old) ∙ end.chan_is,
                subst (λ c. (end.chan.kind ≡ Output) ⊎ ((end.chan.kind ≡ Inner) × (slice_get (words_at run (final_cut run) c) (length (sent_first run t.number proc t.count c)) ≡ Some w))) chan_old
                    (subst (λ n. (end.chan.kind ≡ Output) ⊎ ((end.chan.kind ≡ Inner) × (slice_get (words_at run (final_cut run) old.chan) n ≡ Some w))) (ap length (is.words place old was))
                    (stream old.pass end.chan.kind end.right there)),
              )

          goes : GoesOn run t.number proc t.count (Send i w) to
          goes =
              sends_go run is.typed.fits t.number proc t.count (position_of t) is.standing next.active i w fit.0 lands.0 (comes (Send i w) next) (from_proc fit.0 fit.1) (sending fit.0 fit.1) lands.1 lands.2

          one : (j : ℕ) (o : Outlet S) → ((j ≡ place) × (new ≡ o)) ⊎ ((j ≢ place) × (slice_get t.outlets.items j ≡ Some o)) → o.words.items ≡ sent_first run t.number proc (suc t.count) o.chan
          one j o (inl h) =
              subst (λ (x : Outlet S). x.words.items ≡ sent_first run t.number proc (suc t.count) x.chan) h.1
              (more ∙ (ap (λ (ws : List Word). ws ++ w ∷ []) (is.words place old was)
              ∙ (ap (λ (ws : List Word). sent_first run t.number proc t.count old.chan ++ ws) (sym (words_here proc.behavior.sites i old.chan w (here ∙ sym chan_old)))
              ∙ (sym (goes.sent old.chan) ∙ ap (λ c. sent_first run t.number proc (suc t.count) c) (sym chan)))))
          one j o (inr h) =
              let other = words_other proc.behavior.sites i o.chan w
              (λ same_chan. h.0 (is.ports.one_outlet j place o old h.1 was (sym same_chan ∙ (here ∙ sym chan_old)))) in
              is.words j o h.1 ∙ sym (goes.sent o.chan ∙ (ap (λ ws. sent_first run t.number proc t.count o.chan ++ ws) other ∙ append-nil _))

      -- or it waits
      pub held_send : (place : ℕ) (old new : Outlet S) (u : Task S H) → outlet_there.2.place ≡ place → slice_get t.outlets.items place ≡ Some old
          → new.chan ≡ old.chan → IsFull new
          → u.number ≡ t.number → u.sites.items ≡ t.sites.items → position_of u ≡ position_of t → u.outlets.items ≡ slice_set t.outlets.items place new → Waits run u
      held_send place old new u at was chan full number sites here outlets =
          let fit = outlet_there in
          inr (
            Send i w,
            before_same t u (Send i w) number here next,
            (fit.0, place, new, ap (λ (xs : List Site). slice_get xs i) sites ∙ fit.1, ap (λ (xs : List (Outlet S)). slice_get xs place) outlets ∙ slice_get-set t.outlets.items place old new was, chan ∙ chan_of place old at was, full),
          )

    -- an end
    pub after_end : (s : Value) → IsBefore run t (End s) → (u : Task S H) → u.number ≡ t.number → u.sites.items ≡ t.sites.items → u.indices.items ≡ t.indices.items → u.count ≡ suc t.count
        → u.state ≡ s → u.got.items ≡ [] → u.done ≡ 0 → u.ends ≡ suc t.ends → u.outlets.items ≡ t.outlets.items → u.inlets.items ≡ t.inlets.items → IsTask run lines u
    after_end s next u number sites indices count state got done ends outlets inlets =
        build t u is number sites indices (suc t.count) count (record { state = s; got = []; done = 0; ends = suc t.ends }) (λ j. record { state = state j; got = got j; done = done j; ends = ends j }) goes.standing
        (subst (λ (x : List (Outlet S) × List (Inlet S)). HasEnds run lines t.sites.items t.indices.items x.0 x.1) (λ j. (sym outlets j, sym inlets j)) is.ports)
        (λ j o e. is.words j o (ap (λ xs. slice_get xs j) (sym outlets) ∙ e)
        ∙ sym (goes.sent o.chan ∙ (ap (λ ws. sent_first run t.number proc t.count o.chan ++ ws) (words_end proc.behavior.sites s o.chan) ∙ append-nil _)))
        (λ j o e. is.received j o (ap (λ xs. slice_get xs j) (sym inlets) ∙ e) ∙ omega (arith, goes.received o.chan, count_end proc.behavior.sites s o.chan))
      where
        goes : GoesOn run t.number proc t.count (End s) (record { state = s; got = []; done = 0; ends = suc t.ends })
        goes = ends_next run is.typed.fits t.number proc t.count (position_of t) is.standing next.active s (comes (End s) next)

module _ {S H : Type 0} where
  -- a task that has made no event
  pub opens : (run : Run) (lines : List (Option (ChanQueue S))) (t : Task S H) → IsNewTask run lines t.number t.sites.items t.state t.indices.items t.outlets.items t.inlets.items
      → t.got.items ≡ [] → t.done ≡ 0 → t.ends ≡ 0 → t.count ≡ 0 → IsTask run lines t
  unfolding words_sent count_received
  opens run lines t o got done ends count = record {
    typed = o.typed;
    proc = o.proc;
    standing = subst (λ (x : ℕ × Position). IsStanding run t.number o.proc x.0 x.1) (λ i. (sym count i, record { state = o.opening i; got = sym got i; done = sym done i; ends = sym ends i }))
        (begins run t.number o.proc o.proc_is (subst (λ s. IsOfType o.proc.behavior.state s) (sym o.opening) o.of_type));
    sites = o.sites_are;
    ports = o.ports;
    words = λ k outlet e. o.no_words k outlet e ∙ ap (λ n. sent_first run t.number o.proc n outlet.chan) (sym count);
    received = λ k inlet e. o.none_received k inlet e ∙ ap (λ n. received_first run t.number o.proc n inlet.chan) (sym count);
  }

  pub same_refl : (t : Task S H) → IsSameTask t t
  same_refl t = record { runtime = refl; number = refl; outlets = λ k. refl; inlets = λ k. refl }

  pub same_trans : (s t u : Task S H) → IsSameTask s t → IsSameTask t u → IsSameTask s u
  same_trans s t u a b = record {
    runtime = b.runtime ∙ a.runtime;
    number = b.number ∙ a.number;
    outlets = λ k. b.outlets k ∙ a.outlets k;
    inlets = λ k. b.inlets k ∙ a.inlets k;
  }

  -- where nothing was received and no site passed
  pub stays_put : (t u : Task S H) → position_of u ≡ position_of t → IsFurther t u
  stays_put t u here = record {
    state = ap (λ (x : Position). x.state) here;
    more = [];
    got = ap (λ (x : Position). x.got) here ∙ sym (append-nil t.got.items);
    done = omega (arith, ap (λ (x : Position). x.done) here);
  }

  -- what is kept of an activation, where it goes on
  pub keeps_further : (keeps : H → ℕ → Activation → Value → List Word → ℕ → Type 0)
      → ((runtime : H) (number : ℕ) (kept : Activation) (state : Value) (got more : List Word) (done later : ℕ) → done ≤ later
      → keeps runtime number kept state got done → keeps runtime number kept state (got ++ more) later)
      → (kept : Activation) (t u : Task S H) → IsSameTask t u → IsFurther t u
      → keeps t.runtime t.number kept t.state t.got.items t.done → keeps u.runtime u.number kept u.state u.got.items u.done
  keeps_further keeps stays kept t u same on h =
      subst (λ (x : H × ℕ × Value × List Word). keeps x.0 x.1 kept x.2 x.3 u.done)
      (λ i. (sym same.runtime i, sym same.number i, sym on.state i, sym on.got i))
      (stays t.runtime t.number kept t.state t.got.items on.more t.done u.done on.done h)

-- the first event of an active proc, and what it waits for
pub stall_active : (run : Run) (proc : Proc) (at : Position) → at.ends < run.activations → (end_at run proc at).stall ≡ stall_for proc.behavior.sites at.ends (next_of proc.behavior at)
stall_active run proc at l =
    let h : nat_lt at.ends run.activations ≡ true = grind (arith, nat_tests) in
    ap (λ b. cond b (stall_for proc.behavior.sites at.ends (next_of proc.behavior at)) None) h

pub stall_done : (run : Run) (proc : Proc) (at : Position) → run.activations ≤ at.ends → (end_at run proc at).stall ≡ None
stall_done run proc at l =
    let h : nat_lt at.ends run.activations ≡ false = grind (arith, nat_tests) in
    ap (λ b. cond b (stall_for proc.behavior.sites at.ends (next_of proc.behavior at)) None) h

-- a site's event is at one of the sites
pub at_site : (sites : List Site) (event : Event) (b : Behavior) → sites ≡ b.sites → EventFits b event → IsAtSiteIn sites event
at_site sites (Recv i) b e fit = omega (arith, ap length e, slice_get_within b.sites i fit.0 fit.1)
at_site sites (Send i w) b e fit = omega (arith, ap length e, slice_get_within b.sites i fit.0 fit.1)
at_site sites (End s) b e fit = tt

pub same_item : {A : Type 0} (xs : List A) (i : ℕ) (x y : A) → slice_get xs i ≡ Some x → slice_get xs i ≡ Some y → x ≡ y
same_item xs i x y e f = cc

-- the event that the body tells is at one of the task's sites
pub told_event : {S H : Type 0} (run : Run) (lines : List (Option (ChanQueue S))) (t : Task S H) (is : IsTask run lines t) (event : Event) (got : List Word) → got ≡ t.got.items
    → event ≡ next_event is.proc.behavior t.state got t.done → IsAtSiteIn t.sites.items event
told_event run lines t is event got e n =
    at_site t.sites.items event is.proc.behavior is.sites
    (subst (λ x. EventFits is.proc.behavior x) (sym (n ∙ ap (λ (ws : List Word). next_event is.proc.behavior t.state ws t.done) e))
    (next_keeps_types is.proc.behavior (is.typed.fits.keeps_types t.number is.proc is.standing.proc_is) t.state t.got.items t.done is.standing.stands_open))

-- and what it waits for is that of the task
pub told_stall : {S H : Type 0} (run : Run) (lines : List (Option (ChanQueue S))) (t : Task S H) (is : IsTask run lines t) (event : Event) (got : List Word) → got ≡ t.got.items
    → event ≡ next_event is.proc.behavior t.state got t.done → t.ends < run.activations
    → (proc : Proc) → slice_get run.procs t.number ≡ Some proc → stall_for t.sites.items t.ends event ≡ (end_at run proc (position_of t)).stall
told_stall run lines t is event got e n active proc proc_is =
    let same_proc : is.proc ≡ proc = same_item run.procs t.number is.proc proc is.standing.proc_is proc_is in
    let told = n ∙ ap (λ (ws : List Word). next_event is.proc.behavior t.state ws t.done) e in
    let mine : stall_for t.sites.items t.ends event ≡ stall_for is.proc.behavior.sites t.ends (next_of is.proc.behavior (position_of t)) = ap (λ (ss : List Site). stall_for ss t.ends event) is.sites ∙ ap (λ x. stall_for is.proc.behavior.sites t.ends x) told in
    mine ∙ (sym (stall_active run is.proc (position_of t) active) ∙ ap (λ (p : Proc). (end_at run p (position_of t)).stall) same_proc)
