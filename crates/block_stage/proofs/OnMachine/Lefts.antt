-- What an activation that has given the turn on still has to send.
use Rattle.std.proofs.Common.{◌≡◌, ℕ, zero, suc, ◌+◌, ◌<◌, ◌≤◌, List, [], ◌∷◌, ◌++◌, length, map, refl, ap, ◌∙◌, subst, arith, cond, true, false, Bool, eqb, Option}
use Rattle.std.specs.Prelude.{◌-◌}
use Rattle.std.proofs.lemmas.List.{map-append}
use Rattle.xb_bits.specs.Word.{Word}
use Rattle.xb_value.specs.declared.value.Value.{Value}
use Rattle.net_core.specs.declared.net.Site.{Site}
use Rattle.net_core.specs.declared.event.Event.{Event}
use Rattle.net_core.specs.declared.event.Event.TheVariants.{Recv, Send, End}
use Rattle.net_core.specs.Behavior.{Behavior, Turn, Skip, Receive, Give, chan_at}
use Rattle.net_core.specs.Trace.{Histories}
use Rattle.net_core.specs.Cuts.{words_sent, count_received}
use Rattle.block_stage.specs.Machine.Cycle.{Ports, Transfer, Takes, Gives, event_of}
use Rattle.block_stage.specs.Machine.Since.{took, gave}
use Rattle.block_stage.proofs.OnMachine.Choices.{eqb-eq, if_none, if_plus}
use Rattle.block_stage.proofs.OnMachine.Walks.{Goes, ends, skips, takes, gives, no_word, no_room}
use Rattle.block_stage.proofs.OnMachine.Rests.{rest, rest_end, rest_skips, rest_gives}
use Rattle.block_stage.proofs.OnMachine.Stages.{NoReceive}

abbrev pub left_at : ℕ → Turn → List Event → List Event
left_at i Skip es = es
left_at i Receive es = es
left_at i (Give w) es = Send i w ∷ es

-- the sends at so many sites from place i on
abbrev pub left : Behavior → Value → List Word → ℕ → ℕ → List Event
left b s got i zero = []
left b s got i (suc n) = left_at i (b.turn s got i) (left b s got (suc i) n)

rest_left_at : (b : Behavior) (after : Value → Histories → List Event) (a : ℕ) → NoReceive b a → (s : Value) (got : List Word) (words : Histories) (i : ℕ) (es after' : List Event)
    → a ≤ i → i < length b.sites → rest b after s got words (suc i) ≡ es ++ after'
    → (turn : Turn) → b.turn s got i ≡ turn → rest b after s got words i ≡ left_at i turn es ++ after'
rest_left_at b after a bars s got words i es after' l len ih Skip t = rest_skips b after s got words i len t ∙ ih
rest_left_at b after a bars s got words i es after' l len ih Receive t = absurd (bars s got i l len t)
rest_left_at b after a bars s got words i es after' l len ih (Give w) t = rest_gives b after s got words i w len t ∙ ap (λ es. Send i w ∷ es) ih

-- they are all that such an activation still does
pub rest_left : (b : Behavior) (after : Value → Histories → List Event) (a : ℕ) → NoReceive b a → (s : Value) (got : List Word) (words : Histories) (n i : ℕ)
    → a ≤ i → i + n ≡ length b.sites
    → rest b after s got words i ≡ left b s got i n ++ End (b.next_state s got) ∷ after (b.next_state s got) words
rest_left b after a bars s got words zero i l e = rest_end b after s got words i (omega arith)
rest_left b after a bars s got words (suc n) i l e =
    rest_left_at b after a bars s got words i _ _ l (omega arith) (rest_left b after a bars s got words n (suc i) (omega arith) (omega arith)) (b.turn s got i) refl

left_step : (b : Behavior) (s : Value) (got : List Word) (i m k : ℕ) (turn : Turn) → m ≡ suc k → b.turn s got i ≡ turn
    → left b s got i m ≡ left_at i turn (left b s got (suc i) k)
left_step b s got i m k turn e t = rw e (ap (λ x. left_at i x (left b s got (suc i) k)) t)

-- a walk makes the first of them
pub goes_left : (b : Behavior) (a : ℕ) → NoReceive b a → (ports : Ports) (s : Value) (got got' : List Word) (i n p : ℕ) (transfers : List Transfer) (stall : Option Event)
    → Goes b ports s got i n p got' transfers stall → a ≤ i → i + n ≤ length b.sites → (m m' : ℕ) → n ≤ m → i + m ≡ p + m'
    → left b s got i m ≡ map event_of transfers ++ left b s got' p m'
goes_left b a bars ports s got got' i n p transfers stall ends l len m m' le e = let h : m ≡ m' = omega arith in rw h
goes_left b a bars ports s got got' i n p transfers stall (skips {n = r} t g) l len m m' le e =
    let k : m ≡ suc (m - 1) = omega arith in
    left_step b s got i m (m - 1) Skip k t ∙ goes_left b a bars ports s got got' (suc i) r p transfers stall g (omega arith) (omega arith) (m - 1) m' (omega arith) (omega arith)
goes_left b a bars ports s got got' i n p transfers stall (takes {n = r} w t o g) l len m m' le e = absurd (bars s got i l (omega arith) t)
goes_left b a bars ports s got got' i n p transfers stall (gives {n = r} {transfers = ds} w t o g) l len m m' le e =
    let k : m ≡ suc (m - 1) = omega arith in
    left_step b s got i m (m - 1) (Give w) k t
    ∙ ap (λ es. Send i w ∷ es) (goes_left b a bars ports s got got' (suc i) r p ds stall g (omega arith) (omega arith) (m - 1) m' (omega arith) (omega arith))
goes_left b a bars ports s got got' i n p transfers stall (no_word {n = r} t o) l len m m' le e = absurd (bars s got i l (omega arith) t)
goes_left b a bars ports s got got' i n p transfers stall (no_room w t o) l len m m' le e = let h : m ≡ m' = omega arith in rw h

-- and receives nothing
pub got_stays : (b : Behavior) (a : ℕ) → NoReceive b a → (ports : Ports) (s : Value) (got got' : List Word) (i n p : ℕ) (transfers : List Transfer) (stall : Option Event)
    → Goes b ports s got i n p got' transfers stall → a ≤ i → i + n ≤ length b.sites → got' ≡ got
got_stays b a bars ports s got got' i n p transfers stall ends l len = refl
got_stays b a bars ports s got got' i n p transfers stall (skips {n = r} t g) l len = got_stays b a bars ports s got got' (suc i) r p transfers stall g (omega arith) (omega arith)
got_stays b a bars ports s got got' i n p transfers stall (takes {n = r} w t o g) l len = absurd (bars s got i l (omega arith) t)
got_stays b a bars ports s got got' i n p transfers stall (gives {n = r} {transfers = ds} w t o g) l len = got_stays b a bars ports s got got' (suc i) r p ds stall g (omega arith) (omega arith)
got_stays b a bars ports s got got' i n p transfers stall (no_word t o) l len = refl
got_stays b a bars ports s got got' i n p transfers stall (no_room w t o) l len = refl

pub takes_nothing : (b : Behavior) (a : ℕ) → NoReceive b a → (c : ℕ) (ports : Ports) (s : Value) (got got' : List Word) (i n p : ℕ) (transfers : List Transfer) (stall : Option Event)
    → Goes b ports s got i n p got' transfers stall → a ≤ i → i + n ≤ length b.sites → took b.sites c transfers ≡ []
takes_nothing b a bars c ports s got got' i n p transfers stall ends l len = refl
takes_nothing b a bars c ports s got got' i n p transfers stall (skips {n = r} t g) l len = takes_nothing b a bars c ports s got got' (suc i) r p transfers stall g (omega arith) (omega arith)
takes_nothing b a bars c ports s got got' i n p transfers stall (takes {n = r} w t o g) l len = absurd (bars s got i l (omega arith) t)
takes_nothing b a bars c ports s got got' i n p transfers stall (gives {n = r} {transfers = ds} w t o g) l len = takes_nothing b a bars c ports s got got' (suc i) r p ds stall g (omega arith) (omega arith)
takes_nothing b a bars c ports s got got' i n p transfers stall (no_word t o) l len = refl
takes_nothing b a bars c ports s got got' i n p transfers stall (no_room w t o) l len = refl

-- sums over lists of events
if_append : (t : Bool) (w : Word) (xs ys zs : List Word) → zs ≡ xs ++ ys → cond t (w ∷ zs) zs ≡ cond t (w ∷ xs) xs ++ ys
if_append true w xs ys zs e = ap (λ z. w ∷ z) e
if_append false w xs ys zs e = e

pub words_sent-append : (sites : List Site) (c : ℕ) (xs ys : List Event) → words_sent sites c (xs ++ ys) ≡ words_sent sites c xs ++ words_sent sites c ys
unfolding words_sent
words_sent-append sites c [] ys = refl
words_sent-append sites c (Recv i ∷ xs) ys = words_sent-append sites c xs ys
words_sent-append sites c (Send i w ∷ xs) ys = if_append (eqb (chan_at sites i) c) w _ _ _ (words_sent-append sites c xs ys)
words_sent-append sites c (End s ∷ xs) ys = words_sent-append sites c xs ys

pub count_received-append : (sites : List Site) (c : ℕ) (xs ys : List Event) → count_received sites c (xs ++ ys) ≡ count_received sites c xs + count_received sites c ys
unfolding count_received
count_received-append sites c [] ys = omega arith
count_received-append sites c (Recv i ∷ xs) ys = if_plus (eqb (chan_at sites i) c) _ _ _ (count_received-append sites c xs ys)
count_received-append sites c (Send i w ∷ xs) ys = count_received-append sites c xs ys
count_received-append sites c (End s ∷ xs) ys = count_received-append sites c xs ys

if_length : (t : Bool) (w : Word) (n : ℕ) (xs : List Word) → n ≡ length xs → cond t (suc n) n ≡ length (cond t (w ∷ xs) xs)
if_length true w n xs e = omega arith
if_length false w n xs e = e

-- a receive for each word that a walk takes
pub count_taken : (sites : List Site) (c : ℕ) (transfers : List Transfer) → count_received sites c (map event_of transfers) ≡ length (took sites c transfers)
unfolding count_received
count_taken sites c [] = refl
count_taken sites c (Takes i w ∷ transfers) = if_length (eqb (chan_at sites i) c) w _ _ (count_taken sites c transfers)
count_taken sites c (Gives i w ∷ transfers) = count_taken sites c transfers

pub count_left : (b : Behavior) (c : ℕ) (s : Value) (got : List Word) (n i : ℕ) → count_received b.sites c (left b s got i n) ≡ 0
unfolding count_received
count_left b c s got zero i = refl
count_left b c s got (suc n) i = go (b.turn s got i) (count_left b c s got n (suc i))
  where
    go : (turn : Turn) → count_received b.sites c (left b s got (suc i) n) ≡ 0 → count_received b.sites c (left_at i turn (left b s got (suc i) n)) ≡ 0
    go Skip h = h
    go Receive h = h
    go (Give w) h = h

pub took-append : (sites : List Site) (c : ℕ) (xs ys : List Transfer) → took sites c (xs ++ ys) ≡ took sites c xs ++ took sites c ys
took-append sites c [] ys = refl
took-append sites c (Takes i w ∷ xs) ys = if_append (eqb (chan_at sites i) c) w _ _ _ (took-append sites c xs ys)
took-append sites c (Gives i w ∷ xs) ys = took-append sites c xs ys

pub gave-append : (sites : List Site) (c : ℕ) (xs ys : List Transfer) → gave sites c (xs ++ ys) ≡ gave sites c xs ++ gave sites c ys
gave-append sites c xs ys = ap (words_sent sites c) (map-append event_of xs ys) ∙ words_sent-append sites c (map event_of xs) (map event_of ys)

-- from this place on nothing is sent on a channel
abbrev pub IsSilent : Behavior → ℕ → ℕ → Type 0
IsSilent b c a = (k : ℕ) → a ≤ k → k < length b.sites → chan_at b.sites k ≡ c → (s : Value) (got : List Word) (w : Word) → b.turn s got k ≡ Give w → ⊥

pub silent_gives : (b : Behavior) (c a : ℕ) → IsSilent b c a → (ports : Ports) (s : Value) (got got' : List Word) (i n p : ℕ) (transfers : List Transfer) (stall : Option Event)
    → Goes b ports s got i n p got' transfers stall → a ≤ i → i + n ≤ length b.sites → gave b.sites c transfers ≡ []
unfolding words_sent
silent_gives b c a bars ports s got got' i n p transfers stall ends l len = refl
silent_gives b c a bars ports s got got' i n p transfers stall (skips {n = r} t g) l len = silent_gives b c a bars ports s _ got' (suc i) r p transfers stall g (omega arith) (omega arith)
silent_gives b c a bars ports s got got' i n p transfers stall (takes {n = r} {transfers = ds} w t o g) l len = silent_gives b c a bars ports s _ got' (suc i) r p ds stall g (omega arith) (omega arith)
silent_gives b c a bars ports s got got' i n p transfers stall (gives {n = r} {transfers = ds} w t o g) l len =
    if_none (eqb (chan_at b.sites i) c) w _ (λ h. bars i l (omega arith) (eqb-eq _ _ h) s got w t) (silent_gives b c a bars ports s _ got' (suc i) r p ds stall g (omega arith) (omega arith))
silent_gives b c a bars ports s got got' i n p transfers stall (no_word t o) l len = refl
silent_gives b c a bars ports s got got' i n p transfers stall (no_room w t o) l len = refl

pub silent_left : (b : Behavior) (c a : ℕ) → IsSilent b c a → (s : Value) (got : List Word) (n i : ℕ) → a ≤ i → i + n ≤ length b.sites → words_sent b.sites c (left b s got i n) ≡ []
unfolding words_sent
silent_left b c a bars s got zero i l len = refl
silent_left b c a bars s got (suc n) i l len = go (b.turn s got i) refl (silent_left b c a bars s got n (suc i) (omega arith) (omega arith))
  where
    go : (turn : Turn) → b.turn s got i ≡ turn → words_sent b.sites c (left b s got (suc i) n) ≡ [] → words_sent b.sites c (left_at i turn (left b s got (suc i) n)) ≡ []
    go Skip t h = h
    go Receive t h = h
    go (Give w) t h = if_none (eqb (chan_at b.sites i) c) w _ (λ x. bars i l (omega arith) (eqb-eq _ _ x) s got w t) h

-- a site that sends on a channel
pub record SendsAt (b : Behavior) (c i j : ℕ) : Type 0 where
  pub place : ℕ
  pub from : i ≤ place
  pub until : place < j
  pub chan : chan_at b.sites place ≡ c
  pub state : Value
  pub got : List Word
  pub word : Word
  pub turn : b.turn state got place ≡ Give word

further : (b : Behavior) (c i j : ℕ) → SendsAt b c (suc i) j → SendsAt b c i j
further b c i j at = let f = at.from in record { place = at.place; from = omega arith; until = at.until; chan = at.chan; state = at.state; got = at.got; word = at.word; turn = at.turn }

-- where a walk sends a word on a channel, there is one
pub sends_at : (b : Behavior) (c : ℕ) (ports : Ports) (s : Value) (got got' : List Word) (i n p : ℕ) (transfers : List Transfer) (stall : Option Event)
    → Goes b ports s got i n p got' transfers stall → (v : Word) (vs : List Word) → gave b.sites c transfers ≡ v ∷ vs → SendsAt b c i (i + n)
unfolding words_sent
sends_at b c ports s got got' i n p transfers stall ends v vs e = cc
sends_at b c ports s got got' i n p transfers stall (skips {n = r} t g) v vs e =
    let h : suc i + r ≡ i + suc r = omega arith in
    subst (SendsAt b c i) h (further b c i _ (sends_at b c ports s _ got' (suc i) r p transfers stall g v vs e))
sends_at b c ports s got got' i n p transfers stall (takes {n = r} {transfers = ds} w t o g) v vs e =
    let h : suc i + r ≡ i + suc r = omega arith in
    subst (SendsAt b c i) h (further b c i _ (sends_at b c ports s _ got' (suc i) r p ds stall g v vs e))
sends_at b c ports s got got' i n p transfers stall (gives {n = r} {transfers = ds} w t o g) v vs e =
    let h : suc i + r ≡ i + suc r = omega arith in
    go (eqb (chan_at b.sites i) c) refl (λ x. subst (SendsAt b c i) h (further b c i _ (sends_at b c ports s _ got' (suc i) r p ds stall g v vs x))) e
  where
    go : (x : Bool) → eqb (chan_at b.sites i) c ≡ x → (gave b.sites c ds ≡ v ∷ vs → SendsAt b c i (i + suc r))
        → cond x (w ∷ gave b.sites c ds) (gave b.sites c ds) ≡ v ∷ vs → SendsAt b c i (i + suc r)
    go true x ih y = record { place = i; from = omega arith; until = omega arith; chan = eqb-eq _ _ x; state = s; got = got; word = w; turn = t }
    go false x ih y = ih y
sends_at b c ports s got got' i n p transfers stall (no_word t o) v vs e = cc
sends_at b c ports s got got' i n p transfers stall (no_room w t o) v vs e = cc
