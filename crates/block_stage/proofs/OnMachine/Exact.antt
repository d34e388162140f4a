-- The cycle in which each word of an always fed pipeline moves.
use Rattle.std.proofs.Common.{◌≡◌, ℕ, zero, suc, ◌+◌, ◌*◌, ◌-◌, ◌<◌, ◌≤◌, List, [], ◌∷◌, length, refl, sym, ap, ◌∙◌, subst, arith, cond, true, false, Bool, eqb, Option, Some, None}
use Rattle.std.specs.Prelude.{◌⊎◌, ◌||◌, ◌&&◌, not, slice_get, nat_lt, is_some}
use Rattle.std.proofs.Common.{inl, inr}
use Rattle.std.proofs.lemmas.Bool.{cases_lt}
use Rattle.std.proofs.lemmas.Bool.Decides.{nat_tests}
use Rattle.std.proofs.lemmas.List.{length-append}
use Rattle.std.proofs.Math.Nat.{suc-mul, zero-mul, mul-le-mul_right}
use Rattle.xb_bits.specs.Word.{Word}
use Rattle.xb_value.specs.declared.value.Value.{Value}
use Rattle.net_core.specs.declared.net.Site.{Site}
use Rattle.net_core.specs.declared.event.Event.{Event}
use Rattle.net_core.specs.Behavior.{Behavior, IsInDirection, Give, chan_at}
use Rattle.net_core.specs.Cuts.{words_sent}
use Rattle.block_stage.specs.Machine.Pipeline.{Pipeline, IsPipeline, first}
use Rattle.block_stage.specs.Machine.Cycle.{Ports, Registers, opened, brought, Transfer, in_stage, moves_before, moves, after_cycle, transfers_in}
use Rattle.block_stage.specs.Machine.Since.{gave, Since, at_reset, one_more, after_cycles}
use Rattle.block_stage.specs.Machine.Steady.{IsFed, AreFed, SendsOnce}
use Rattle.block_stage.proofs.OnMachine.Choices.{eqb-eq, eq-eqb, if_none}
use Rattle.block_stage.proofs.OnMachine.Walks.{Goes, IsGoing, ends, skips, takes, gives, no_word, no_room, walk_goes}
use Rattle.block_stage.proofs.OnMachine.Rests.{site_at}
use Rattle.block_stage.proofs.OnMachine.Stages.{stage_at, stands_before, stands_behind, first_within, first_grows}
use Rattle.block_stage.proofs.OnMachine.Meeting.{stage_meets}
use Rattle.block_stage.proofs.OnMachine.Holding.{IsClean, stage_walk, cleared_by_moving, clean_stays}
use Rattle.block_stage.proofs.OnMachine.Turns.{cases, full_zero, full_suc}
use Rattle.block_stage.proofs.OnMachine.Gathering.{all_only}
use Rattle.block_stage.proofs.OnMachine.Standing.{given_of, idle_gives}
use Rattle.block_stage.proofs.OnMachine.Prefixes.{stands}

-- the sites of a stage, none of which is done, from the first one on
fresh_goes : (q : Pipeline) (c : Registers) (ports : Ports) (j : ℕ) → c.full j ≡ true → IsClean q c j → first q j ≤ first q (suc j)
    → IsGoing q.proc.behavior ports (brought c j).state (brought c j).got (first q j) (first q (suc j) - first q j) (in_stage q c ports j)
fresh_goes q c ports j f clean l =
    subst (IsGoing q.proc.behavior ports (brought c j).state (brought c j).got (first q j) (first q (suc j) - first q j)) (sym (stage_walk q c ports j f))
    (walk_goes q.proc.behavior c.done c.kept ports (brought c j).state (brought c j).got (first q j) (first q (suc j) - first q j) (λ k x y. clean k x (omega arith)))

-- at no site of a stretch does a proc send on a channel
abbrev SendsNothing : Behavior → ℕ → ℕ → ℕ → Type 0
SendsNothing b ch i n = (k : ℕ) → i ≤ k → k < i + n → chan_at b.sites k ≡ ch → (s : Value) (got : List Word) (w : Word) → b.turn s got k ≡ Give w → ⊥

gives_nothing : (b : Behavior) (ch : ℕ) (ports : Ports) (s : Value) (got got' : List Word) (i n p : ℕ) (transfers : List Transfer) (stall : Option Event)
    → Goes b ports s got i n p got' transfers stall → SendsNothing b ch i n → gave b.sites ch transfers ≡ []
unfolding words_sent
gives_nothing b ch ports s got got' i n p transfers stall ends h = refl
gives_nothing b ch ports s got got' i n p transfers stall (skips {n = m} t g) h =
    gives_nothing b ch ports s _ got' (suc i) m p transfers stall g (λ k x y. h k (omega arith) (omega arith))
gives_nothing b ch ports s got got' i n p transfers stall (takes {n = m} {transfers = ds} w t o g) h =
    gives_nothing b ch ports s _ got' (suc i) m p ds stall g (λ k x y. h k (omega arith) (omega arith))
gives_nothing b ch ports s got got' i n p transfers stall (gives {n = m} {transfers = ds} w t o g) h =
    if_none (eqb (chan_at b.sites i) ch) w _ (λ x. h i (omega arith) (omega arith) (eqb-eq _ _ x) s got w t)
    (gives_nothing b ch ports s _ got' (suc i) m p ds stall g (λ k x y. h k (omega arith) (omega arith)))
gives_nothing b ch ports s got got' i n p transfers stall (no_word t o) h = refl
gives_nothing b ch ports s got got' i n p transfers stall (no_room w t o) h = refl

-- a walk that passes a channel's one site gives one word
gives_one : (b : Behavior) (ch place : ℕ) (ports : Ports) → chan_at b.sites place ≡ ch → ((s : Value) (got : List Word) → (w : Word) × (b.turn s got place ≡ Give w))
    → (s : Value) (got got' : List Word) (i n p : ℕ) (transfers : List Transfer) (stall : Option Event)
    → Goes b ports s got i n p got' transfers stall → stall ≡ None → i ≤ place → place < i + n
    → ((k : ℕ) → i ≤ k → k < i + n → chan_at b.sites k ≡ ch → (s : Value) (got : List Word) (w : Word) → b.turn s got k ≡ Give w → k ≡ place)
    → length (gave b.sites ch transfers) ≡ 1
unfolding words_sent
gives_one b ch place ports at on s got got' i n p transfers stall ends e l r only = absurd (omega arith)
gives_one b ch place ports at on s got got' i n p transfers stall (skips {n = m} t g) e l r only =
    gives_one b ch place ports at on s _ got' (suc i) m p transfers stall g e (past (cases_lt i place)) (omega arith) (λ k x y. only k (omega arith) (omega arith))
  where
    past : (i < place) ⊎ (place ≤ i) → suc i ≤ place
    past (inl x) = x
    past (inr x) = absurd (let same : i ≡ place = omega arith in let w = on s got in let y = w.1 in let z = rw same at t in cc)
gives_one b ch place ports at on s got got' i n p transfers stall (takes {n = m} {transfers = ds} w t o g) e l r only =
    gives_one b ch place ports at on s _ got' (suc i) m p ds stall g e (past (cases_lt i place)) (omega arith) (λ k x y. only k (omega arith) (omega arith))
  where
    past : (i < place) ⊎ (place ≤ i) → suc i ≤ place
    past (inl x) = x
    past (inr x) = absurd (let same : i ≡ place = omega arith in let w = on s got in let y = w.1 in let z = rw same at t in cc)
gives_one b ch place ports at on s got got' i n p transfers stall (gives {n = m} {transfers = ds} w t o g) e l r only =
    here (cases_lt i place) (λ x. gives_one b ch place ports at on s _ got' (suc i) m p ds stall g e x (omega arith) (λ k y z. only k (omega arith) (omega arith)))
  where
    apart : i < place → eqb (chan_at b.sites i) ch ≡ true → ⊥
    apart x y = let same = only i (omega arith) (omega arith) (eqb-eq _ _ y) s got w t in omega arith

    no_word_yet : (t : Bool) (xs : List Word) → (t ≡ true → ⊥) → length xs ≡ 1 → length (cond t (w ∷ xs) xs) ≡ 1
    no_word_yet true xs h x = absurd (h refl)
    no_word_yet false xs h x = x

    this_word : (t : Bool) (xs : List Word) → t ≡ true → xs ≡ [] → length (cond t (w ∷ xs) xs) ≡ 1
    this_word true xs h x = rw x refl
    this_word false xs h x = cc

    here : (i < place) ⊎ (place ≤ i) → (i < place → length (gave b.sites ch ds) ≡ 1) → length (cond (eqb (chan_at b.sites i) ch) (w ∷ gave b.sites ch ds) (gave b.sites ch ds)) ≡ 1
    here (inl x) ih = no_word_yet (eqb (chan_at b.sites i) ch) _ (apart x) (ih x)
    here (inr x) ih =
        let same : i ≡ place = omega arith in
        this_word (eqb (chan_at b.sites i) ch) _ (eq-eqb _ _ (ap (chan_at b.sites) same ∙ at))
        (gives_nothing b ch ports s got got' (suc i) m p ds stall g (λ k y z a s' got'' w' t'. let q = only k (omega arith) (omega arith) a s' got'' w' t' in omega arith))
gives_one b ch place ports at on s got got' i n p transfers stall (no_word t o) e l r only = cc
gives_one b ch place ports at on s got got' i n p transfers stall (no_room w t o) e l r only = cc

-- no stage of a pipeline that is fed waits
fed_passes : (q : Pipeline) → IsPipeline q → (c : Registers) (ports : Ports) → IsFed q ports → (j : ℕ) → (in_stage q c ports j).stall ≡ None
fed_passes q is c ports fed j = stage_meets q is c ports j (λ i site here at. fed i site here)

stage_passes : (q : Pipeline) → IsPipeline q → (c : Registers) (ports : Ports) → IsFed q ports → (j : ℕ) → is_some (in_stage q c ports j).stall ≡ false
stage_passes q is c ports fed j = ap is_some (fed_passes q is c ports fed j)

all_move : (q : Pipeline) → IsPipeline q → (c : Registers) (ports : Ports) → IsFed q ports → (n j : ℕ) → j + n < q.stages → moves_before q c ports n j ≡ c.full j
all_move q is c ports fed zero j l = let e = stage_passes q is c ports fed j in rw e (and_true (c.full j))
  where
    and_true : (x : Bool) → (x && true) ≡ x
    and_true true = refl
    and_true false = refl
all_move q is c ports fed (suc n) j l =
    let e = stage_passes q is c ports fed j in
    let ih = all_move q is c ports fed n (suc j) (omega arith) in
    rw (e, ih) (free (c.full j) (c.full (suc j)))
  where
    free : (x y : Bool) → ((x && true) && (not y || y)) ≡ x
    free true true = refl
    free true false = refl
    free false y = refl

all_moves : (q : Pipeline) → IsPipeline q → (c : Registers) (ports : Ports) → IsFed q ports → (j : ℕ) → j < q.stages → moves q c ports j ≡ c.full j
unfolding moves
all_moves q is c ports fed j l = all_move q is c ports fed (q.stages - suc j) j (omega arith)

-- what a cycle in which it is fed leaves: each activation one stage further, and no site done
shifts : (x y : Bool) → (x || (y && not y)) ≡ x
shifts true y = refl
shifts false true = refl
shifts false false = refl

shifted : (q : Pipeline) → IsPipeline q → (c : Registers) (ports : Ports) → IsFed q ports → (j : ℕ) → suc j < q.stages → (after_cycle q c ports).full (suc j) ≡ c.full j
shifted q is c ports fed j l =
    full_suc q c ports j
    ∙ ap (λ x. x || (c.full (suc j) && not (moves q c ports (suc j)))) (all_moves q is c ports fed j (omega arith))
    ∙ ap (λ x. c.full j || (c.full (suc j) && not x)) (all_moves q is c ports fed (suc j) l)
    ∙ shifts (c.full j) (c.full (suc j))

turned : (q : Pipeline) → IsPipeline q → (c : Registers) (ports : Ports) → IsFed q ports → (after_cycle q c ports).full 0 ≡ c.full q.last
turned q is c ports fed =
    full_zero q c ports
    ∙ ap (λ x. x || (c.full 0 && not (moves q c ports 0))) (all_moves q is c ports fed q.last is.last)
    ∙ ap (λ x. c.full q.last || (c.full 0 && not x)) (all_moves q is c ports fed 0 (let h = is.last in omega (arith, h)))
    ∙ shifts (c.full q.last) (c.full 0)

cleared : (q : Pipeline) → IsPipeline q → (c : Registers) (ports : Ports) → IsFed q ports → ((j : ℕ) → j < q.stages → c.full j ≡ false → IsClean q c j)
    → (j : ℕ) → j < q.stages → IsClean q (after_cycle q c ports) j
cleared q is c ports fed clean j l = go (cases (c.full j))
  where
    go : (c.full j ≡ true) ⊎ (c.full j ≡ false) → IsClean q (after_cycle q c ports) j
    go (inl f) = cleared_by_moving q is c ports j (all_moves q is c ports fed j l ∙ f)
    go (inr f) = clean_stays q is c ports j f (clean j l f)

-- no site is done, and so many cycles ago an activation began, as one has in each interval since: activation i stands in stage j now where
-- i * interval + j is this number of cycles
record Fills (q : Pipeline) (c : Registers) (k : ℕ) : Type 0 where
  full : (i j : ℕ) → j < q.stages → i * suc q.last + j ≡ k → c.full j ≡ true
  clean : (j : ℕ) → j < q.stages → IsClean q c j

fills_on : (q : Pipeline) → IsPipeline q → (c : Registers) (k : ℕ) (ports : Ports) → IsFed q ports → Fills q c k → Fills q (after_cycle q c ports) (suc k)
fills_on q is c k ports fed fills = record { full = full; clean = cleared q is c ports fed (λ j l f. fills.clean j l) }
  where
    turns : (i : ℕ) → i * suc q.last + 0 ≡ suc k → c.full q.last ≡ true
    turns zero e = let t = zero-mul (suc q.last) in absurd (omega (arith, e, t))
    turns (suc i) e = let t = suc-mul i (suc q.last) in fills.full i q.last is.last (omega (arith, e, t))

    full : (i j : ℕ) → j < q.stages → i * suc q.last + j ≡ suc k → (after_cycle q c ports).full j ≡ true
    full i zero l e = turned q is c ports fed ∙ turns i e
    full i (suc j) l e = shifted q is c ports fed j l ∙ fills.full i j (omega arith) (omega (arith, e))

-- and no other stage holds one
record Runs (q : Pipeline) (c : Registers) (k : ℕ) : Type 0 where
  held : (j : ℕ) → j < q.stages → c.full j ≡ true → (i : ℕ) × (i * suc q.last + j ≡ k)
  fills : Fills q c k

runs_on : (q : Pipeline) → IsPipeline q → (c : Registers) (k : ℕ) (ports : Ports) → IsFed q ports → Runs q c k → Runs q (after_cycle q c ports) (suc k)
runs_on q is c k ports fed runs = record { held = held; fills = fills_on q is c k ports fed runs.fills }
  where
    held : (j : ℕ) → j < q.stages → (after_cycle q c ports).full j ≡ true → (i : ℕ) × (i * suc q.last + j ≡ suc k)
    held zero l f =
        let h = runs.held q.last is.last (sym (turned q is c ports fed) ∙ f) in
        let e = h.1 in
        let t = suc-mul h.0 (suc q.last) in
        (suc h.0, omega (arith, e, t))
    held (suc j) l f =
        let h = runs.held j (omega arith) (sym (shifted q is c ports fed j l) ∙ f) in
        let e = h.1 in
        (h.0, omega (arith, e))

-- the one site
once_at : (q : Pipeline) → IsPipeline q → (ch place : ℕ) → SendsOnce q ch place → (k : ℕ) → k < length q.proc.behavior.sites → chan_at q.proc.behavior.sites k ≡ ch
    → (s : Value) (got : List Word) (w : Word) → q.proc.behavior.turn s got k ≡ Give w → k ≡ place
once_at q is ch place once k l e s got w t =
    let r = site_at q.proc.behavior.sites k l in
    once.alone k r.0 r.1.here (subst (IsInDirection r.0) t (is.directions s got k r.0 r.1.here)) (sym r.1.chan ∙ e)

in_range : (xs : List Site) (i : ℕ) (site : Site) → slice_get xs i ≡ Some site → i < length xs
in_range [] i site e = cc
in_range (x ∷ xs) zero site e = omega arith
in_range (x ∷ xs) (suc i) site e = let h = in_range xs i site e in omega (arith, h)

chan_of : (xs : List Site) (i : ℕ) (site : Site) → slice_get xs i ≡ Some site → chan_at xs i ≡ site.chan
chan_of [] i site e = cc
chan_of (x ∷ xs) zero site e = let h : x ≡ site = cc in ap (λ (y : Site). y.chan) h
chan_of (x ∷ xs) (suc i) site e = chan_of xs i site e

-- the words that a cycle sends on the channel
given_once : (q : Pipeline) → IsPipeline q → (ch place : ℕ) → SendsOnce q ch place → (c : Registers) (ports : Ports) → IsFed q ports → ((j : ℕ) → j < q.stages → IsClean q c j)
    → length (gave q.proc.behavior.sites ch (transfers_in q c ports)) ≡ cond (c.full (q.stage place)) 1 0
unfolding transfers_in
given_once q is ch place once c ports fed clean =
    ap length (given_of q c ports ch q.stages 0 ∙ all_only (λ j. gave q.proc.behavior.sites ch (in_stage q c ports j).transfers) s q.stages 0 (omega arith) (omega (arith, within)) (λ j a z ne. other j (omega arith) ne))
    ∙ this (cases (c.full s))
  where
    s : ℕ
    s = q.stage place

    len : place < length q.proc.behavior.sites
    len = in_range q.proc.behavior.sites place once.site once.here

    within : s < q.stages
    within = is.within place len

    other : (j : ℕ) → j < q.stages → (j ≡ s → ⊥) → gave q.proc.behavior.sites ch (in_stage q c ports j).transfers ≡ []
    other j l ne = go (cases (c.full j))
      where
        go : (c.full j ≡ true) ⊎ (c.full j ≡ false) → gave q.proc.behavior.sites ch (in_stage q c ports j).transfers ≡ []
        go (inr f) = idle_gives q c ports ch j f
        go (inl f) =
            let w = in_stage q c ports j in
            let grows = first_grows q is j (suc j) (omega arith) in
            let fits = first_within q (suc j) in
            gives_nothing q.proc.behavior ch ports (brought c j).state (brought c j).got w.got (first q j) (first q (suc j) - first q j) w.place w.transfers w.stall
            (fresh_goes q c ports j f (clean j l) grows)
            (λ i x y e s' got w' t.
            let same = once_at q is ch place once i (omega arith) e s' got w' t in
            let at = stage_at q is i j x (omega arith) in
            ne (sym at ∙ ap q.stage same))

    this : (c.full s ≡ true) ⊎ (c.full s ≡ false) → length (gave q.proc.behavior.sites ch (in_stage q c ports s).transfers) ≡ cond (c.full s) 1 0
    this (inr f) = ap length (idle_gives q c ports ch s f) ∙ (rw f refl)
    this (inl f) =
        let w = in_stage q c ports s in
        let grows = first_grows q is s (suc s) (omega arith) in
        let fits = first_within q (suc s) in
        let from = stands_behind q is place s len (omega arith) in
        let until = stands_before q is place (suc s) len (omega arith) in
        let goes = fresh_goes q c ports s f (clean s within) grows in
        gives_one q.proc.behavior ch place ports (chan_of q.proc.behavior.sites place once.site once.here ∙ once.chan_is) once.on
        (brought c s).state (brought c s).got w.got (first q s) (first q (suc s) - first q s) w.place w.transfers w.stall goes
        (fed_passes q is c ports fed s)
        from (omega arith)
        (λ i x y a s' got w' t. once_at q is ch place once i (omega arith) a s' got w' t)
        ∙ (rw f refl)

-- word i has moved after k cycles exactly where its own one is among them; n words have moved
abbrev AreMoved : ℕ → ℕ → ℕ → ℕ → Type 0
AreMoved m s k n = (i : ℕ) → (i < n → i * suc m + s < k) × (i * suc m + s < k → i < n)

-- in the next word's cycle
moves_next : (m s k n w : ℕ) → w * suc m + s ≡ k → AreMoved m s k n → AreMoved m s (suc k) (suc n)
moves_next m s k n w e h i = (early, late)
  where
    not_before : (w < n) ⊎ (n ≤ w) → n ≤ w
    not_before (inl x) = let y = (h w).0 x in absurd (omega (arith, y, e))
    not_before (inr x) = x

    not_behind : (n < w) ⊎ (w ≤ n) → w ≤ n
    not_behind (inl x) =
        let less : suc n ≤ w = omega (arith, x) in
        let grown = mul-le-mul_right (suc m) less in
        let one = suc-mul n (suc m) in
        let y = (h n).1 (omega (arith, grown, one, e)) in
        absurd (omega (arith, y))
    not_behind (inr x) = x

    same : n ≡ w
    same = let x = not_before (cases_lt w n) in let y = not_behind (cases_lt n w) in omega (arith, x, y)

    early : i < suc n → i * suc m + s < suc k
    early l =
        let few : i ≤ w = let z = same in omega (arith, l, z) in
        let grown = mul-le-mul_right (suc m) few in
        omega (arith, grown, e)

    late : i * suc m + s < suc k → i < suc n
    late l = go (cases_lt i (suc n))
      where
        go : (i < suc n) ⊎ (suc n ≤ i) → i < suc n
        go (inl x) = x
        go (inr x) =
            let more : suc w ≤ i = let z = same in omega (arith, x, z) in
            let grown = mul-le-mul_right (suc m) more in
            let one = suc-mul w (suc m) in
            absurd (omega (arith, grown, one, e, l))

-- in another cycle
moves_none : (m s k n : ℕ) → ((i : ℕ) → i * suc m + s ≡ k → ⊥) → AreMoved m s k n → AreMoved m s (suc k) n
moves_none m s k n other h i = (early, late)
  where
    early : i < n → i * suc m + s < suc k
    early l = let x = (h i).0 l in omega (arith, x)

    late : i * suc m + s < suc k → i < n
    late l = go (cases_lt (i * suc m + s) k)
      where
        go : (i * suc m + s < k) ⊎ (k ≤ i * suc m + s) → i < n
        go (inl x) = (h i).1 x
        go (inr x) = absurd (other i (omega (arith, x, l)))

moved_from : (q : Pipeline) → IsPipeline q → (ch place : ℕ) → SendsOnce q ch place → (cycles : List Ports) → AreFed q cycles → (since : Since) (k : ℕ) → Runs q since.contents k
    → AreMoved q.last (q.stage place) k (length (since.sent ch)) → AreMoved q.last (q.stage place) (length cycles + k) (length ((after_cycles q since cycles).sent ch))
moved_from q is ch place once [] fed since k runs h = let e : k ≡ 0 + k = omega arith in subst (λ x. AreMoved q.last (q.stage place) x (length (since.sent ch))) e h
moved_from q is ch place once (ports ∷ more) fed since k runs h =
    subst (λ x. AreMoved q.last s x (length ((after_cycles q after more).sent ch))) later
    (moved_from q is ch place once more fed.1 after (suc k) (runs_on q is since.contents k ports fed.0 runs) (subst (AreMoved q.last s (suc k)) (sym count) (by (cases (since.contents.full s)))))
  where
    s : ℕ
    s = q.stage place

    after : Since
    after = one_more q since ports

    within : s < q.stages
    within = is.within place (in_range q.proc.behavior.sites place once.site once.here)

    later : length more + suc k ≡ suc (length more) + k
    later = omega arith

    count : length (after.sent ch) ≡ length (since.sent ch) + cond (since.contents.full s) 1 0
    count =
        length-append (since.sent ch) (gave q.proc.behavior.sites ch (transfers_in q since.contents ports))
        ∙ ap (λ x. length (since.sent ch) + x) (given_once q is ch place once since.contents ports fed.0 runs.fills.clean)

    one : (n : ℕ) (t : Bool) → t ≡ true → suc n ≡ n + cond t 1 0
    one n true f = omega arith
    one n false f = cc

    none : (n : ℕ) (t : Bool) → t ≡ false → n ≡ n + cond t 1 0
    none n true f = cc
    none n false f = omega arith

    by : (since.contents.full s ≡ true) ⊎ (since.contents.full s ≡ false) → AreMoved q.last s (suc k) (length (since.sent ch) + cond (since.contents.full s) 1 0)
    by (inl f) =
        let w = runs.held s within f in
        subst (AreMoved q.last s (suc k)) (one (length (since.sent ch)) (since.contents.full s) f) (moves_next q.last s k (length (since.sent ch)) w.0 w.1 h)
    by (inr f) =
        subst (AreMoved q.last s (suc k)) (none (length (since.sent ch)) (since.contents.full s) f)
        (moves_none q.last s k (length (since.sent ch)) (λ i e. let x = runs.fills.full i s within e in cc) h)

runs_at_reset : (q : Pipeline) → Runs q (opened q) 0
unfolding opened
runs_at_reset q = record { held = held; fills = record { full = full; clean = λ j l k x y. refl } }
  where
    held : (j : ℕ) → j < q.stages → eqb j 0 ≡ true → (i : ℕ) × (i * suc q.last + j ≡ 0)
    held j l f = let e = eqb-eq j 0 f in let t = zero-mul (suc q.last) in (0, omega (arith, e, t))

    full : (i j : ℕ) → j < q.stages → i * suc q.last + j ≡ 0 → eqb j 0 ≡ true
    full i j l e = eq-eqb j 0 (omega (arith, e))

none_moved : (m s : ℕ) → AreMoved m s 0 0
none_moved m s i = ((λ l. absurd (omega (arith, l))), (λ l. absurd (omega (arith, l))))

same_order : (a b x y : ℕ) → (a < b → x < y) × (x < y → a < b) → nat_lt a b ≡ nat_lt x y
same_order a b x y h = go (cases_lt a b) (cases_lt x y)
  where
    lt_true : (a b : ℕ) → a < b → nat_lt a b ≡ true
    lt_true a b h = grind (arith, nat_tests)

    lt_false : (a b : ℕ) → b ≤ a → nat_lt a b ≡ false
    lt_false a b h = grind (arith, nat_tests)

    go : (a < b) ⊎ (b ≤ a) → (x < y) ⊎ (y ≤ x) → nat_lt a b ≡ nat_lt x y
    go (inl l) r = lt_true a b l ∙ sym (lt_true x y (h.0 l))
    go (inr l) (inr r) = lt_false a b l ∙ sym (lt_false x y r)
    go (inr l) (inl r) = let z = h.1 r in absurd (omega (arith, z, l))

pub always_fed_words_move_in_their_cycle : (q : Pipeline) → IsPipeline q → (chan place : ℕ) → SendsOnce q chan place → (cycles : List Ports) → AreFed q cycles
    → (i : ℕ) → nat_lt i (length ((after_cycles q (at_reset q) cycles).sent chan)) ≡ nat_lt (i * suc q.last + q.stage place) (length cycles)
always_fed_words_move_in_their_cycle q is chan place once cycles fed i =
    same_order i (length ((after_cycles q (at_reset q) cycles).sent chan)) (i * suc q.last + q.stage place) (length cycles)
    (subst (λ k. AreMoved q.last (q.stage place) k (length ((after_cycles q (at_reset q) cycles).sent chan))) no_more
    (moved_from q is chan place once cycles fed (at_reset q) 0 (runs_at_reset q) (none_moved q.last (q.stage place))) i)
  where
    no_more : length cycles + 0 ≡ length cycles
    no_more = omega arith

-- ---- from any cycle on

-- the words of a channel never become fewer
keeps_words : (q : Pipeline) (since : Since) (ports : Ports) (ch : ℕ) → length (since.sent ch) ≤ length ((one_more q since ports).sent ch)
keeps_words q since ports ch = let e = length-append (since.sent ch) (gave q.proc.behavior.sites ch (transfers_in q since.contents ports)) in omega (arith, e)

-- word i of those behind the first n has moved where its cycle has been
abbrev AreSent : ℕ → ℕ → ℕ → ℕ → ℕ → Type 0
AreSent m s k n now = (n ≤ now) × ((i : ℕ) → i * suc m + s < k → n + i < now)

sends_next : (m s k n now : ℕ) → AreSent m s k n now → AreSent m s (suc k) n (suc now)
sends_next m s k n now h = (let x = h.0 in omega (arith, x), λ i l. go i l (cases_lt (i * suc m + s) k))
  where
    this : (i : ℕ) → i * suc m + s ≡ k → n + i ≤ now
    this zero e = let x = h.0 in omega (arith, x)
    this (suc i) e =
        let t = suc-mul i (suc m) in
        let x = h.1 i (omega (arith, t, e)) in
        omega (arith, x)

    go : (i : ℕ) → i * suc m + s < suc k → (i * suc m + s < k) ⊎ (k ≤ i * suc m + s) → n + i < suc now
    go i l (inl x) = let y = h.1 i x in omega (arith, y)
    go i l (inr x) = let y = this i (omega (arith, x, l)) in omega (arith, y)

sends_none : (m s k n now : ℕ) → ((i : ℕ) → i * suc m + s ≡ k → ⊥) → AreSent m s k n now → AreSent m s (suc k) n now
sends_none m s k n now other h = (h.0, λ i l. go i l (cases_lt (i * suc m + s) k))
  where
    go : (i : ℕ) → i * suc m + s < suc k → (i * suc m + s < k) ⊎ (k ≤ i * suc m + s) → n + i < now
    go i l (inl x) = h.1 i x
    go i l (inr x) = absurd (other i (omega (arith, x, l)))

sent_from : (q : Pipeline) → IsPipeline q → (ch place : ℕ) → SendsOnce q ch place → (cycles : List Ports) → AreFed q cycles → (since : Since) (k n : ℕ) → Fills q since.contents k
    → AreSent q.last (q.stage place) k n (length (since.sent ch)) → AreSent q.last (q.stage place) (length cycles + k) n (length ((after_cycles q since cycles).sent ch))
sent_from q is ch place once [] fed since k n fills h = let e : k ≡ 0 + k = omega arith in subst (λ x. AreSent q.last (q.stage place) x n (length (since.sent ch))) e h
sent_from q is ch place once (ports ∷ more) fed since k n fills h =
    subst (λ x. AreSent q.last s x n (length ((after_cycles q after more).sent ch))) later
    (sent_from q is ch place once more fed.1 after (suc k) n (fills_on q is since.contents k ports fed.0 fills) (subst (AreSent q.last s (suc k) n) (sym count) (by (cases (since.contents.full s)))))
  where
    s : ℕ
    s = q.stage place

    after : Since
    after = one_more q since ports

    within : s < q.stages
    within = is.within place (in_range q.proc.behavior.sites place once.site once.here)

    later : length more + suc k ≡ suc (length more) + k
    later = omega arith

    count : length (after.sent ch) ≡ length (since.sent ch) + cond (since.contents.full s) 1 0
    count =
        length-append (since.sent ch) (gave q.proc.behavior.sites ch (transfers_in q since.contents ports))
        ∙ ap (λ x. length (since.sent ch) + x) (given_once q is ch place once since.contents ports fed.0 fills.clean)

    one : (n : ℕ) (t : Bool) → t ≡ true → suc n ≡ n + cond t 1 0
    one n true f = omega arith
    one n false f = cc

    none : (n : ℕ) (t : Bool) → t ≡ false → n ≡ n + cond t 1 0
    none n true f = cc
    none n false f = omega arith

    by : (since.contents.full s ≡ true) ⊎ (since.contents.full s ≡ false) → AreSent q.last s (suc k) n (length (since.sent ch) + cond (since.contents.full s) 1 0)
    by (inl f) = subst (AreSent q.last s (suc k) n) (one (length (since.sent ch)) (since.contents.full s) f) (sends_next q.last s k n (length (since.sent ch)) h)
    by (inr f) =
        subst (AreSent q.last s (suc k) n) (none (length (since.sent ch)) (since.contents.full s) f)
        (sends_none q.last s k n (length (since.sent ch)) (λ i e. let x = fills.full i s within e in cc) h)

-- an activation has just begun, behind a cycle in which one gave the turn back
fills_at_turn : (q : Pipeline) (c : Registers) → c.full 0 ≡ true → ((j : ℕ) → j < q.stages → IsClean q c j) → Fills q c 0
fills_at_turn q c f clean = record { full = full; clean = clean }
  where
    full : (i j : ℕ) → j < q.stages → i * suc q.last + j ≡ 0 → c.full j ≡ true
    full i zero l e = f
    full i (suc j) l e = absurd (omega (arith, e))

sent_at_turn : (q : Pipeline) → IsPipeline q → (ch place : ℕ) → SendsOnce q ch place → (cycles : List Ports) → AreFed q cycles → (since : Since) → since.contents.full 0 ≡ true
    → ((j : ℕ) → j < q.stages → IsClean q since.contents j) → (i : ℕ) → i * suc q.last + q.stage place < length cycles
    → length (since.sent ch) + i < length ((after_cycles q since cycles).sent ch)
sent_at_turn q is ch place once cycles fed since f clean i l =
    (sent_from q is ch place once cycles fed since 0 (length (since.sent ch)) (fills_at_turn q since.contents f clean) (omega arith, λ k x. absurd (omega (arith, x)))).1 i (omega (arith, l))

-- where the activation that has the turn stands in stage u
sent_by_turn : (q : Pipeline) → IsPipeline q → (ch place : ℕ) → SendsOnce q ch place → (cycles : List Ports) → AreFed q cycles → (since : Since) (u : ℕ) → u ≤ q.last → since.contents.full u ≡ true
    → ((j : ℕ) → j < q.stages → since.contents.full j ≡ false → IsClean q since.contents j) → (i : ℕ) → i * suc q.last + suc q.last + q.stage place < length cycles + u
    → length (since.sent ch) + i < length ((after_cycles q since cycles).sent ch)
sent_by_turn q is ch place once [] fed since u within here clean i l = absurd (let e : length {A = Ports} [] + u ≡ u = omega arith in omega (arith, within, l, e))
sent_by_turn q is ch place once (ports ∷ more) fed since u within here clean i l =
    go (cases_lt u q.last)
    (λ x on e. sent_by_turn q is ch place once more fed.1 (one_more q since ports) (suc u) x on (λ j y f. cleared q is since.contents ports fed.0 clean j y) i e)
  where
    after : Since
    after = one_more q since ports

    grows : length (since.sent ch) ≤ length (after.sent ch)
    grows = keeps_words q since ports ch

    go : (u < q.last) ⊎ (q.last ≤ u)
        → (suc u ≤ q.last → after.contents.full (suc u) ≡ true → i * suc q.last + suc q.last + q.stage place < length more + suc u
        → length (after.sent ch) + i < length ((after_cycles q after more).sent ch))
        → length (since.sent ch) + i < length ((after_cycles q after more).sent ch)
    go (inl x) next =
        let turns = is.last in
        let on = shifted q is since.contents ports fed.0 u (omega (arith, x, turns)) ∙ here in
        let h = next x on (omega (arith, l)) in
        let g = grows in
        omega (arith, g, h)
    go (inr x) next =
        let same : u ≡ q.last = omega (arith, x, within) in
        let on = turned q is since.contents ports fed.0 ∙ subst (λ j. since.contents.full j ≡ true) same here in
        let clear = cleared q is since.contents ports fed.0 clean in
        let h = sent_at_turn q is ch place once more fed.1 after on clear i (omega (arith, l, same)) in
        let g = grows in
        omega (arith, g, h)

pub words_move_once_fed : (q : Pipeline) → IsPipeline q → (chan place : ℕ) → SendsOnce q chan place → (past cycles : List Ports) → AreFed q cycles → (i : ℕ)
    → suc i * suc q.last + q.stage place < length cycles
    → length ((after_cycles q (at_reset q) past).sent chan) + i < length ((after_cycles q (after_cycles q (at_reset q) past) cycles).sent chan)
words_move_once_fed q is chan place once past cycles fed i l =
    let s = stands q is past in
    let t = suc-mul i (suc q.last) in
    sent_by_turn q is chan place once cycles fed (after_cycles q (at_reset q) past) s.0.open_stage s.1.turn.within s.1.turn.here (λ j x f. (s.1.stage_regs j x).free f) i (omega (arith, l, t))
