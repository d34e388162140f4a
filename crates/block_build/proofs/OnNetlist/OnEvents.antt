-- What a pipeline asserts in a cycle, site by site.
use Rattle.std.proofs.Common.{◌≡◌, ℕ, zero, suc, ◌+◌, ◌<◌, ◌≤◌, List, [], ◌∷◌, ◌++◌, length, refl, sym, ap, ◌∙◌, subst, arith, cond, true, false, Bool, eqb, Option, Some, None}
use Rattle.std.specs.Prelude.{◌&&◌, ◌||◌, not, is_some, ◌==◌}
use Rattle.xb_bits.specs.Word.{Word}
use Rattle.xb_value.specs.declared.value.Value.{Value}
use Rattle.net_core.specs.declared.event.Event.{Event}
use Rattle.net_core.specs.declared.event.Event.TheVariants.{Recv, Send}
use Rattle.net_core.specs.declared.net.Site.{Site}
use Rattle.net_core.specs.Behavior.{Behavior, Turn, Skip, Receive, Give, chan_at}
use Rattle.net_core.specs.Cuts.{words_sent, count_received}
use Rattle.block_stage.specs.Fifo.Fifo.{next_word}
use Rattle.block_stage.specs.Machine.Cycle.{Ports, Walk, Takes, Gives, circuit, behind_transfer, stopped, walk_by, follow, step_of, asserted_by}
use Rattle.vlog_tree.specs.Value.{Values}
use Rattle.block_build.specs.Netlist.Ends.{RequestValues, some_asserted, asserted_word, sends_at, is_end_of}
use Rattle.block_build.specs.Netlist.Handshakes.{SiteNets}
use Rattle.block_build.specs.Netlist.Receives.{received_by}
use Rattle.block_build.specs.Netlist.Turns.{grown, DoesTurns, AreTurns}
use Rattle.block_build.specs.Netlist.Walks.{asserts_at}
use Rattle.block_build.proofs.OnNetlist.OnHandshakes.{DoesNothing, nothing_before, apart, same, pass_by, or_true, or_false}

-- ---- lists of events with one at most for each site

-- the first is that of the site where it is asserted
abbrev pub EventAt : Bool → (Event → Type 0) → (List Event → Type 0) → List Event → Type 0
EventAt true P rest es = (e : Event) × (more : List Event) × (es ≡ e ∷ more) × P e × rest more
EventAt false P rest es = rest es

-- of so many sites from index i on
abbrev pub EventsAt : (ℕ → Bool) → (ℕ → Event → Type 0) → ℕ → ℕ → List Event → Type 0
EventsAt asks P i zero es = es ≡ []
EventsAt asks P i (suc n) es = EventAt (asks i) (P i) (EventsAt asks P (suc i) n) es

-- the same by tests that agree on these sites
one_same : (a b : Bool) (P : Event → Type 0) (Q R : List Event → Type 0) (es : List Event) → a ≡ b → ((xs : List Event) → Q xs → R xs) → EventAt a P Q es → EventAt b P R es
one_same true true P Q R es e h x = (x.0, x.1, x.2, x.3, h x.1 x.4)
one_same true false P Q R es e h x = absurd (cc)
one_same false true P Q R es e h x = absurd (cc)
one_same false false P Q R es e h x = h es x

pub events_same : (asks others : ℕ → Bool) (P : ℕ → Event → Type 0) (n i : ℕ) (es : List Event) → ((k : ℕ) → i ≤ k → k < i + n → asks k ≡ others k) → EventsAt asks P i n es → EventsAt others P i n es
events_same asks others P zero i es h x = x
events_same asks others P (suc n) i es h x =
    one_same (asks i) (others i) (P i) (EventsAt asks P (suc i) n) (EventsAt others P (suc i) n) es (h i (omega arith) (omega arith))
    (λ xs y. events_same asks others P n (suc i) xs (λ k l m. h k (omega (arith, l)) (omega (arith, m))) y) x

pub no_events : (asks : ℕ → Bool) (P : ℕ → Event → Type 0) (n i : ℕ) → ((k : ℕ) → i ≤ k → asks k ≡ false) → EventsAt asks P i n []
no_events asks P zero i h = refl
no_events asks P (suc n) i h = subst (λ t. EventAt t (P i) (EventsAt asks P (suc i) n) []) (sym (h i (omega arith))) (no_events asks P n (suc i) (λ k l. h k (omega (arith, l))))

-- one list behind another
one_joined : (t : Bool) (P : Event → Type 0) (Q R : List Event → Type 0) (es fs : List Event) → ((xs : List Event) → Q xs → R (xs ++ fs)) → EventAt t P Q es → EventAt t P R (es ++ fs)
one_joined true P Q R es fs h x = (x.0, x.1 ++ fs, ap (λ xs. xs ++ fs) x.2, x.3, h x.1 x.4)
one_joined false P Q R es fs h x = h es x

pub events_joined : (asks : ℕ → Bool) (P : ℕ → Event → Type 0) (n m i : ℕ) (es fs : List Event) → EventsAt asks P i n es → EventsAt asks P (i + n) m fs → EventsAt asks P i (n + m) (es ++ fs)
events_joined asks P zero m i es fs x y =
    let at : i + 0 ≡ i = omega arith in
    let all : m ≡ 0 + m = omega arith in
    subst (λ xs. EventsAt asks P i (0 + m) (xs ++ fs)) (sym x) (subst (λ k. EventsAt asks P i k fs) all (subst (λ k. EventsAt asks P k m fs) at y))
events_joined asks P (suc n) m i es fs x y =
    let at : i + suc n ≡ suc i + n = omega arith in
    let all : suc (n + m) ≡ suc n + m = omega arith in
    subst (λ k. EventsAt asks P i k (es ++ fs)) all
    (one_joined (asks i) (P i) (EventsAt asks P (suc i) n) (EventsAt asks P (suc i) (n + m)) es fs
    (λ xs z. events_joined asks P n m (suc i) xs fs z (subst (λ k. EventsAt asks P k m fs) at y)) x)

-- ---- a walk

-- what a site may assert
abbrev pub SiteEvents : (ℕ → Event → Type 0) → (ℕ → Turn) → ℕ → Type 0
SiteEvents P turns i = ((w : Word) → turns i ≡ Give w → P i (Send i w)) × (turns i ≡ Receive → P i (Recv i))

abbrev pub SitesEvents : (ℕ → Event → Type 0) → (ℕ → Turn) → ℕ → List SiteNets → Type 0
SitesEvents P turns i [] = Unit {0}
SitesEvents P turns i (site ∷ sites) = SiteEvents P turns i × SitesEvents P turns (suc i) sites

abbrev Made : (ℕ → Event → Type 0) → ℕ → ℕ → Walk → Type 0
Made P i n walk = EventsAt (λ k. asserts_at k walk) P i n (asserted_by walk)

passed_on : (P : ℕ → Event → Type 0) (i n : ℕ) (walk : Walk) → asserts_at i walk ≡ false → Made P (suc i) n walk → Made P i (suc n) walk
passed_on P i n walk e h = subst (λ t. EventAt t (P i) (EventsAt (λ k. asserts_at k walk) P (suc i) n) (asserted_by walk)) (sym e) h

made_here : (P : ℕ → Event → Type 0) (i n : ℕ) (e : Event) (walk other : Walk) → asserted_by walk ≡ e ∷ asserted_by other → asserts_at i walk ≡ true → ((k : ℕ) → suc i ≤ k → asserts_at k walk ≡ asserts_at k other) → P i e → Made P (suc i) n other
    → Made P i (suc n) walk
made_here P i n e walk other es here later p h =
    subst (λ t. EventAt t (P i) (EventsAt (λ k. asserts_at k walk) P (suc i) n) (asserted_by walk)) (sym here)
    (e, asserted_by other, es, p, events_same (λ k. asserts_at k other) (λ k. asserts_at k walk) P n (suc i) (asserted_by other) (λ k l m. sym (later k l)) h)

waits_here : (P : ℕ → Event → Type 0) (i n : ℕ) (e : Event) (walk : Walk) → asserted_by walk ≡ e ∷ [] → asserts_at i walk ≡ true → ((k : ℕ) → suc i ≤ k → asserts_at k walk ≡ false) → P i e → Made P i (suc n) walk
waits_here P i n e walk es here later p =
    subst (λ t. EventAt t (P i) (EventsAt (λ k. asserts_at k walk) P (suc i) n) (asserted_by walk)) (sym here)
    (e, [], es, p, no_events (λ k. asserts_at k walk) P n (suc i) later)

step_made : (P : ℕ → Event → Type 0) (i n : ℕ) (got : List Word) (turn : Turn) (done : Bool) (kept : Word) (valid_word : Option Word) (room : Bool) (word : Word) (next : List Word → Walk)
    → ((w : Word) → received_by (step_of turn done kept valid_word room) ≡ Some w → word ≡ w)
    → ((w : Word) → turn ≡ Give w → P i (Send i w)) → (turn ≡ Receive → P i (Recv i)) → ((got' : List Word) → DoesNothing i (next got'))
    → Made P (suc i) n (next (grown turn word got))
    → Made P i (suc n) (follow i got next (step_of turn done kept valid_word room))
step_made P i n got Skip done kept valid_word room word next h g r nothing ih = passed_on P i n (next got) (nothing got).0 ih
step_made P i n got Receive true kept valid_word room word next h g r nothing ih =
    passed_on P i n (next (got ++ kept ∷ [])) (nothing (got ++ kept ∷ [])).0 (subst (λ w. Made P (suc i) n (next (got ++ w ∷ []))) (h kept refl) ih)
step_made P i n got Receive false kept (Some w) room word next h g r nothing ih =
    made_here P i n (Recv i) (behind_transfer (Takes i w) (next (got ++ w ∷ []))) (next (got ++ w ∷ [])) refl (or_true (eqb i i) (asserts_at i (next (got ++ w ∷ []))) (same i)) (λ k l. pass_by (eqb i k) (asserts_at k (next (got ++ w ∷ []))) (apart i k (λ e. omega (arith, l, e)))) (r refl)
    (subst (λ u. Made P (suc i) n (next (got ++ u ∷ []))) (h w refl) ih)
step_made P i n got Receive false kept None room word next h g r nothing ih =
    waits_here P i n (Recv i) (stopped i got (Some (Recv i))) refl (or_true (eqb i i) false (same i)) (λ k l. or_false (eqb i k) false (apart i k (λ e. omega (arith, l, e))) refl) (r refl)
step_made P i n got (Give w) true kept valid_word room word next h g r nothing ih = passed_on P i n (next got) (nothing got).0 ih
step_made P i n got (Give w) false kept valid_word true word next h g r nothing ih =
    made_here P i n (Send i w) (behind_transfer (Gives i w) (next got)) (next got) refl (or_true (eqb i i) (asserts_at i (next got)) (same i)) (λ k l. pass_by (eqb i k) (asserts_at k (next got)) (apart i k (λ e. omega (arith, l, e)))) (g w refl) ih
step_made P i n got (Give w) false kept valid_word false word next h g r nothing ih =
    waits_here P i n (Send i w) (stopped i got (Some (Send i w))) refl (or_true (eqb i i) false (same i)) (λ k l. or_false (eqb i k) false (apart i k (λ e. omega (arith, l, e))) refl) (g w refl)

pub walk_makes : (v : Values) (b : Behavior) (turns : ℕ → Turn) (words : ℕ → Word) (done : ℕ → Bool) (kept : ℕ → Word) (ports : Ports) (s : Value) (P : ℕ → Event → Type 0) (sites : List SiteNets) (got : List Word) (i : ℕ)
    → AreTurns v b.sites turns words done kept ports i sites → DoesTurns b s turns words got i (length sites) → SitesEvents P turns i sites
    → Made P i (length sites) (walk_by circuit b done kept ports s got i (length sites))
walk_makes v b turns words done kept ports s P [] got i are does events = refl
walk_makes v b turns words done kept ports s P (site ∷ sites) got i are does events =
    let valid_word = ports.valid_word (chan_at b.sites i) in
    let room = ports.room (chan_at b.sites i) in
    let next = λ (got' : List Word). walk_by circuit b done kept ports s got' (suc i) (length sites) in
    subst (λ turn. Made P i (suc (length sites)) (follow i got next (step_of turn (done i) (kept i) valid_word room))) (sym does.0)
    (step_made P i (length sites) got (turns i) (done i) (kept i) valid_word room (words i) next are.2 events.0.0 events.0.1
    (λ got'. nothing_before circuit b done kept ports s got' (suc i) (length sites) i (omega arith))
    (walk_makes v b turns words done kept ports s P sites (grown (turns i) (words i) got) (suc i) are.3 does.1 events.1))

-- ---- what they send and receive on a channel

-- a site that sends sends this word, another one receives
abbrev pub IsSiteEvent : Bool → ℕ → Word → Event → Type 0
IsSiteEvent true i w e = e ≡ Send i w
IsSiteEvent false i w e = e ≡ Recv i

abbrev pub AreSiteEvents : List Site → (ℕ → Word) → ℕ → Event → Type 0
AreSiteEvents sites word i e = IsSiteEvent (sends_at sites i) i (word i) e

-- what the sites at an end say
unfoldable pub said_requests : List Site → ℕ → Bool → (ℕ → Bool) → (ℕ → Word) → ℕ → ℕ → List RequestValues
said_requests sites chan sends asks word i zero = []
said_requests sites chan sends asks word i (suc n) =
    cond (is_end_of sites chan sends i) (record { ask = asks i; word = word i } ∷ said_requests sites chan sends asks word (suc i) n) (said_requests sites chan sends asks word (suc i) n)

-- the words of those that are asserted
abbrev pub asked_words : List RequestValues → List Word
asked_words [] = []
asked_words (said ∷ saids) = cond said.ask (said.word ∷ asked_words saids) (asked_words saids)

sent_here : (sites : List Site) (chan i : ℕ) (w : Word) (es : List Event) (h : Bool) → (chan_at sites i == chan) ≡ h → words_sent sites chan (Send i w ∷ es) ≡ cond h (w ∷ words_sent sites chan es) (words_sent sites chan es)
unfolding words_sent
sent_here sites chan i w es h e = ap (λ t. cond t (w ∷ words_sent sites chan es) (words_sent sites chan es)) e

none_sent : (sites : List Site) (chan i : ℕ) (es : List Event) → words_sent sites chan (Recv i ∷ es) ≡ words_sent sites chan es
unfolding words_sent
none_sent sites chan i es = refl

end_sent : (sites : List Site) (chan : ℕ) → words_sent sites chan [] ≡ []
unfolding words_sent
end_sent sites chan = refl

received_here : (sites : List Site) (chan i : ℕ) (es : List Event) (h : Bool) → (chan_at sites i == chan) ≡ h → count_received sites chan (Recv i ∷ es) ≡ cond h (suc (count_received sites chan es)) (count_received sites chan es)
unfolding count_received
received_here sites chan i es h e = ap (λ t. cond t (suc (count_received sites chan es)) (count_received sites chan es)) e

none_received : (sites : List Site) (chan i : ℕ) (w : Word) (es : List Event) → count_received sites chan (Send i w ∷ es) ≡ count_received sites chan es
unfolding count_received
none_received sites chan i w es = refl

end_received : (sites : List Site) (chan : ℕ) → count_received sites chan [] ≡ 0
unfolding count_received
end_received sites chan = refl

sent_by_site : (sites : List Site) (chan i : ℕ) (w : Word) (a s h : Bool) (es : List Event) (rest : List RequestValues) (Q : List Event → Type 0) → EventAt a (IsSiteEvent s i w) Q es → ((xs : List Event) → Q xs → words_sent sites chan xs ≡ asked_words rest)
    → (chan_at sites i == chan) ≡ h → words_sent sites chan es ≡ asked_words (cond (h && s) (record { ask = a; word = w } ∷ rest) rest)
sent_by_site sites chan i w true true true es rest Q x ih e =
    ap (words_sent sites chan) (x.2 ∙ ap (λ y. y ∷ x.1) x.3) ∙ sent_here sites chan i w x.1 true e ∙ ap (λ ws. w ∷ ws) (ih x.1 x.4)
sent_by_site sites chan i w true true false es rest Q x ih e =
    ap (words_sent sites chan) (x.2 ∙ ap (λ y. y ∷ x.1) x.3) ∙ sent_here sites chan i w x.1 false e ∙ ih x.1 x.4
sent_by_site sites chan i w true false true es rest Q x ih e = ap (words_sent sites chan) (x.2 ∙ ap (λ y. y ∷ x.1) x.3) ∙ none_sent sites chan i x.1 ∙ ih x.1 x.4
sent_by_site sites chan i w true false false es rest Q x ih e = ap (words_sent sites chan) (x.2 ∙ ap (λ y. y ∷ x.1) x.3) ∙ none_sent sites chan i x.1 ∙ ih x.1 x.4
sent_by_site sites chan i w false true true es rest Q x ih e = ih es x
sent_by_site sites chan i w false true false es rest Q x ih e = ih es x
sent_by_site sites chan i w false false true es rest Q x ih e = ih es x
sent_by_site sites chan i w false false false es rest Q x ih e = ih es x

pub words_are_asked : (sites : List Site) (chan : ℕ) (asks : ℕ → Bool) (word : ℕ → Word) (n i : ℕ) (es : List Event) → EventsAt asks (AreSiteEvents sites word) i n es
    → words_sent sites chan es ≡ asked_words (said_requests sites chan true asks word i n)
unfolding said_requests
words_are_asked sites chan asks word zero i es x = ap (words_sent sites chan) x ∙ end_sent sites chan
words_are_asked sites chan asks word (suc n) i es x =
    sent_by_site sites chan i (word i) (asks i) (sends_at sites i) (chan_at sites i == chan) es (said_requests sites chan true asks word (suc i) n) (EventsAt asks (AreSiteEvents sites word) (suc i) n) x
    (λ xs y. words_are_asked sites chan asks word n (suc i) xs y) refl

received_by_site : (sites : List Site) (chan i : ℕ) (w : Word) (a s h : Bool) (es : List Event) (rest : List RequestValues) (Q : List Event → Type 0) → EventAt a (IsSiteEvent s i w) Q es
    → ((xs : List Event) → Q xs → count_received sites chan xs ≡ length (asked_words rest)) → (chan_at sites i == chan) ≡ h → count_received sites chan es ≡ length (asked_words (cond (h && not s) (record { ask = a; word = w } ∷ rest) rest))
received_by_site sites chan i w true true true es rest Q x ih e = ap (count_received sites chan) (x.2 ∙ ap (λ y. y ∷ x.1) x.3) ∙ none_received sites chan i w x.1 ∙ ih x.1 x.4
received_by_site sites chan i w true true false es rest Q x ih e = ap (count_received sites chan) (x.2 ∙ ap (λ y. y ∷ x.1) x.3) ∙ none_received sites chan i w x.1 ∙ ih x.1 x.4
received_by_site sites chan i w true false true es rest Q x ih e =
    ap (count_received sites chan) (x.2 ∙ ap (λ y. y ∷ x.1) x.3) ∙ received_here sites chan i x.1 true e ∙ ap suc (ih x.1 x.4)
received_by_site sites chan i w true false false es rest Q x ih e = ap (count_received sites chan) (x.2 ∙ ap (λ y. y ∷ x.1) x.3) ∙ received_here sites chan i x.1 false e ∙ ih x.1 x.4
received_by_site sites chan i w false true true es rest Q x ih e = ih es x
received_by_site sites chan i w false true false es rest Q x ih e = ih es x
received_by_site sites chan i w false false true es rest Q x ih e = ih es x
received_by_site sites chan i w false false false es rest Q x ih e = ih es x

pub receives_are_asked : (sites : List Site) (chan : ℕ) (asks : ℕ → Bool) (word : ℕ → Word) (n i : ℕ) (es : List Event) → EventsAt asks (AreSiteEvents sites word) i n es
    → count_received sites chan es ≡ length (asked_words (said_requests sites chan false asks word i n))
unfolding said_requests
receives_are_asked sites chan asks word zero i es x = ap (count_received sites chan) x ∙ end_received sites chan
receives_are_asked sites chan asks word (suc n) i es x =
    received_by_site sites chan i (word i) (asks i) (sends_at sites i) (chan_at sites i == chan) es (said_requests sites chan false asks word (suc i) n) (EventsAt asks (AreSiteEvents sites word) (suc i) n) x
    (λ xs y. receives_are_asked sites chan asks word n (suc i) xs y) refl

-- ---- what an end says of them

pub some_is_said : (saids : List RequestValues) (t : Bool) → some_asserted t saids ≡ (t || is_some (next_word (asked_words saids)))
some_is_said [] true = refl
some_is_said [] false = refl
some_is_said (said ∷ saids) t = some_is_said saids (t || said.ask) ∙ by t said.ask
  where
    by : (t a : Bool) → ((t || a) || is_some (next_word (asked_words saids))) ≡ (t || is_some (next_word (cond a (said.word ∷ asked_words saids) (asked_words saids))))
    by true a = refl
    by false true = refl
    by false false = refl

pub none_is_said : (saids : List RequestValues) (w : Word) → asked_words saids ≡ [] → asserted_word w saids ≡ w
none_is_said [] w e = refl
none_is_said (said ∷ saids) w e = by said.ask e (λ u. none_is_said saids u)
  where
    by : (a : Bool) → cond a (said.word ∷ asked_words saids) (asked_words saids) ≡ [] → ((u : Word) → asked_words saids ≡ [] → asserted_word u saids ≡ u) → asserted_word (cond a said.word w) saids ≡ w
    by true e ih = absurd (cc)
    by false e ih = ih w e

pub one_is_said : (saids : List RequestValues) (w x : Word) → length (asked_words saids) ≤ 1 → next_word (asked_words saids) ≡ Some x → asserted_word w saids ≡ x
one_is_said [] w x l e = absurd (cc)
one_is_said (said ∷ saids) w x l e = by said.ask l e (λ u. one_is_said saids u x)
  where
    none : (ws : List Word) → suc (length ws) ≤ 1 → ws ≡ []
    none [] l = refl
    none (w ∷ ws) l = absurd (omega (arith, l))

    by : (a : Bool) → length (cond a (said.word ∷ asked_words saids) (asked_words saids)) ≤ 1 → next_word (cond a (said.word ∷ asked_words saids) (asked_words saids)) ≡ Some x
        → ((u : Word) → length (asked_words saids) ≤ 1 → next_word (asked_words saids) ≡ Some x → asserted_word u saids ≡ x) → asserted_word (cond a said.word w) saids ≡ x
    by true l e ih = let same : said.word ≡ x = cc in none_is_said saids said.word (none (asked_words saids) l) ∙ same
    by false l e ih = ih w l e
