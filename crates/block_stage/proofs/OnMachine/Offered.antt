-- A word that is valid and not taken stays valid in the next cycle.
use Rattle.std.proofs.Common.{◌≡◌, ℕ, zero, suc, ◌+◌, ◌<◌, ◌≤◌, List, [], ◌∷◌, ◌++◌, length, map, refl, sym, ap, ◌∙◌, arith, cond, true, false, Bool, eqb, Option, Some, None, append_assoc}
use Rattle.std.specs.Prelude.{◌⊎◌, ◌-◌}
use Rattle.std.proofs.Common.{inl, inr}
use Rattle.std.proofs.lemmas.Bool.{cases_lt}
use Rattle.std.proofs.lemmas.List.{length-append}
use Rattle.xb_bits.specs.Word.{Word}
use Rattle.xb_value.specs.declared.value.Value.{Value}
use Rattle.net_core.specs.declared.net.Site.{Site}
use Rattle.net_core.specs.declared.event.Event.{Event}
use Rattle.net_core.specs.declared.event.Event.TheVariants.{Recv, Send, End}
use Rattle.net_core.specs.Behavior.{Behavior, chan_at}
use Rattle.net_core.specs.Cuts.{words_sent}
use Rattle.block_stage.specs.Machine.Pipeline.{Pipeline, IsPipeline, first}
use Rattle.block_stage.specs.Machine.Cycle.{Ports, Registers, Transfer, event_of, in_stage, event_list, asserted_by, asserted_of, asserted_in, after_cycle}
use Rattle.block_stage.specs.Machine.Since.{gave, at_reset, after_cycles}
use Rattle.block_stage.proofs.OnMachine.Choices.{eqb-eq, if_none}
use Rattle.block_stage.proofs.OnMachine.Walks.{Goes, ends, skips, takes, gives, no_word, no_room}
use Rattle.block_stage.proofs.OnMachine.Lefts.{words_sent-append}
use Rattle.block_stage.proofs.OnMachine.Moves.{idle}
use Rattle.block_stage.proofs.OnMachine.Holding.{Act, IsHeld}
use Rattle.block_stage.proofs.OnMachine.Turns.{cases}
use Rattle.block_stage.proofs.OnMachine.Standing.{goes_on}
use Rattle.block_stage.proofs.OnMachine.Steps.{stands_next}
use Rattle.block_stage.proofs.OnMachine.Prefixes.{stands}
use Rattle.block_stage.proofs.OnMachine.Offers.{stalling_stands}
use Rattle.block_stage.proofs.OnMachine.Asserts.{one_sends}

-- where a channel has no room, nothing is sent on it
pub none_sent : (b : Behavior) (ch : ℕ) (ports : Ports) → ports.room ch ≡ false → (s : Value) (got got' : List Word) (i n p : ℕ) (transfers : List Transfer) (stall : Option Event)
    → Goes b ports s got i n p got' transfers stall → gave b.sites ch transfers ≡ []
unfolding words_sent
none_sent b ch ports full s got got' i n p transfers stall ends = refl
none_sent b ch ports full s got got' i n p transfers stall (skips {n = m} t g) = none_sent b ch ports full s _ got' (suc i) m p transfers stall g
none_sent b ch ports full s got got' i n p transfers stall (takes {n = m} {transfers = ds} w t o g) = none_sent b ch ports full s _ got' (suc i) m p ds stall g
none_sent b ch ports full s got got' i n p transfers stall (gives {n = m} {transfers = ds} w t o g) =
    if_none (eqb (chan_at b.sites i) ch) w _
    (λ x. let e = eqb-eq _ _ x in let y = rw e at o in cc)
    (none_sent b ch ports full s _ got' (suc i) m p ds stall g)
none_sent b ch ports full s got got' i n p transfers stall (no_word t o) = refl
none_sent b ch ports full s got got' i n p transfers stall (no_room w t o) = refl

-- the stage and the site that offer a word
pub record Offers (q : Pipeline) (c : Registers) (ports : Ports) (ch : ℕ) (w : Word) (k n : ℕ) : Type 0 where
  pub stage : ℕ
  pub from : k ≤ stage
  pub until : stage < k + n
  pub site : ℕ
  pub stall : (in_stage q c ports stage).stall ≡ Some (Send site w)
  pub chan : eqb (chan_at q.proc.behavior.sites site) ch ≡ true

stalling_offers : (sites : List Site) (ch : ℕ) (stall : Option Event) (w : Word) (ws : List Word) → words_sent sites ch (event_list stall) ≡ w ∷ ws
    → (i : ℕ) × (stall ≡ Some (Send i w)) × (eqb (chan_at sites i) ch ≡ true)
unfolding words_sent
stalling_offers sites ch None w ws e = cc
stalling_offers sites ch (Some (Recv i)) w ws e = cc
stalling_offers sites ch (Some (End s)) w ws e = cc
stalling_offers sites ch (Some (Send i v)) w ws e = go (eqb (chan_at sites i) ch) refl e
  where
    go : (t : Bool) → eqb (chan_at sites i) ch ≡ t → cond t (v ∷ []) [] ≡ w ∷ ws → (i' : ℕ) × (◌≡◌ {A = Option Event} (Some (Send i v)) (Some (Send i' w))) × (eqb (chan_at sites i') ch ≡ true)
    go true x y = let h : v ≡ w = cc in (i, ap (λ z. Some (Send i z)) h, x)
    go false x y = cc

stage_offers : (q : Pipeline) (c : Registers) (ports : Ports) (acts : ℕ → Act) (ch j : ℕ) → IsHeld q c j (acts j) → ports.room ch ≡ false → (w : Word) (ws : List Word)
    → words_sent q.proc.behavior.sites ch (asserted_by (in_stage q c ports j)) ≡ w ∷ ws
    → (i : ℕ) × ((in_stage q c ports j).stall ≡ Some (Send i w)) × (eqb (chan_at q.proc.behavior.sites i) ch ≡ true)
stage_offers q c ports acts ch j stage_regs full w ws e = go (cases (c.full j))
  where
    go : (c.full j ≡ true) ⊎ (c.full j ≡ false) → (i : ℕ) × ((in_stage q c ports j).stall ≡ Some (Send i w)) × (eqb (chan_at q.proc.behavior.sites i) ch ≡ true)
    go (inr f) = absurd (let i = idle q c ports j f in let x = rw i at e in unfold words_sent in cc)
    go (inl f) =
        let s = in_stage q c ports j in
        let none = none_sent q.proc.behavior ch ports full (acts j).state (acts j).got s.got (acts j).place (first q (suc j) - (acts j).place) s.place s.transfers s.stall (goes_on q c ports acts j stage_regs f) in
        let sum = words_sent-append q.proc.behavior.sites ch (map event_of s.transfers) (event_list s.stall) in
        let all = rw none at sum in
        stalling_offers q.proc.behavior.sites ch s.stall w ws (sym all ∙ e)

some_offers : (q : Pipeline) (c : Registers) (ports : Ports) (acts : ℕ → Act) (ch : ℕ) → ((j : ℕ) → j < q.stages → IsHeld q c j (acts j)) → ports.room ch ≡ false → (w : Word) (ws : List Word)
    → (n k : ℕ) → k + n ≤ q.stages → words_sent q.proc.behavior.sites ch (asserted_of q c ports k n) ≡ w ∷ ws → Offers q c ports ch w k n
some_offers q c ports acts ch stage_regs full w ws zero k l e = absurd (unfold words_sent in cc)
some_offers q c ports acts ch stage_regs full w ws (suc n) k l e =
    go (words_sent q.proc.behavior.sites ch (asserted_by (in_stage q c ports k))) refl
    (sym (words_sent-append q.proc.behavior.sites ch (asserted_by (in_stage q c ports k)) (asserted_of q c ports (suc k) n)) ∙ e)
    (λ x. some_offers q c ports acts ch stage_regs full w ws n (suc k) (omega arith) x)
  where
    further : Offers q c ports ch w (suc k) n → Offers q c ports ch w k (suc n)
    further o = let a = o.from in let u = o.until in record { stage = o.stage; from = omega arith; until = omega arith; site = o.site; stall = o.stall; chan = o.chan }

    go : (xs : List Word) → words_sent q.proc.behavior.sites ch (asserted_by (in_stage q c ports k)) ≡ xs
        → xs ++ words_sent q.proc.behavior.sites ch (asserted_of q c ports (suc k) n) ≡ w ∷ ws
        → (words_sent q.proc.behavior.sites ch (asserted_of q c ports (suc k) n) ≡ w ∷ ws → Offers q c ports ch w (suc k) n)
        → Offers q c ports ch w k (suc n)
    go [] x y ih = further (ih y)
    go (v ∷ vs) x y ih =
        let h : v ≡ w = cc in
        let r = stage_offers q c ports acts ch k (stage_regs k (omega arith)) full w vs (x ∙ ap (λ z. z ∷ vs) h) in
        record { stage = k; from = omega arith; until = omega arith; site = r.0; stall = r.1; chan = r.2 }

-- what a stage asserts is asked
is_reader_ready : (q : Pipeline) (c : Registers) (ports : Ports) (ch : ℕ) (w : Word) (j site : ℕ) (others : List Event) → asserted_by (in_stage q c ports j) ≡ Send site w ∷ others
    → eqb (chan_at q.proc.behavior.sites site) ch ≡ true → (n k : ℕ) → k ≤ j → j < k + n
    → (xs : List Word) × (ys : List Word) × (words_sent q.proc.behavior.sites ch (asserted_of q c ports k n) ≡ xs ++ w ∷ ys)
is_reader_ready q c ports ch w j site others e on zero k l h = absurd (omega arith)
is_reader_ready q c ports ch w j site others e on (suc n) k l h =
    go (cases_eq k j l) (λ x. is_reader_ready q c ports ch w j site others e on n (suc k) (omega arith) (omega arith))
  where
    cases_eq : (k j : ℕ) → k ≤ j → (k ≡ j) ⊎ (k < j)
    cases_eq k j l = split (cases_lt k j)
      where
        split : (k < j) ⊎ (j ≤ k) → (k ≡ j) ⊎ (k < j)
        split (inl a) = inr a
        split (inr a) = inl (omega arith)

    first_word : (es : List Event) → es ≡ Send site w ∷ others → words_sent q.proc.behavior.sites ch es ≡ w ∷ words_sent q.proc.behavior.sites ch others
    first_word es x = rw x (unfold words_sent in (rw on refl))

    go : (k ≡ j) ⊎ (k < j) → (k < j → (xs : List Word) × (ys : List Word) × (words_sent q.proc.behavior.sites ch (asserted_of q c ports (suc k) n) ≡ xs ++ w ∷ ys))
        → (xs : List Word) × (ys : List Word) × (words_sent q.proc.behavior.sites ch (asserted_of q c ports k (suc n)) ≡ xs ++ w ∷ ys)
    go (inl x) ih = (
      [],
      words_sent q.proc.behavior.sites ch others ++ words_sent q.proc.behavior.sites ch (asserted_of q c ports (suc k) n),
      words_sent-append q.proc.behavior.sites ch (asserted_by (in_stage q c ports k)) (asserted_of q c ports (suc k) n)
          ∙ ap (λ z. z ++ words_sent q.proc.behavior.sites ch (asserted_of q c ports (suc k) n)) (first_word (asserted_by (in_stage q c ports k)) (ap (λ z. asserted_by (in_stage q c ports z)) x ∙ e)),
    )
    go (inr x) ih =
        let r = ih x in (
          words_sent q.proc.behavior.sites ch (asserted_by (in_stage q c ports k)) ++ r.0,
          r.1,
          words_sent-append q.proc.behavior.sites ch (asserted_by (in_stage q c ports k)) (asserted_of q c ports (suc k) n)
              ∙ ap (λ z. words_sent q.proc.behavior.sites ch (asserted_by (in_stage q c ports k)) ++ z) r.2
              ∙ sym (append_assoc _ r.0 (w ∷ r.1)),
        )

alone : (xs ys zs : List Word) (w : Word) → zs ≡ xs ++ w ∷ ys → length zs ≤ 1 → zs ≡ w ∷ []
alone [] [] zs w e l = e
alone [] (y ∷ ys) zs w e l = absurd (let h = ap length e in omega (arith, h, l))
alone (x ∷ xs) ys zs w e l = absurd (let h = ap length e in let k = length-append xs (w ∷ ys) in omega (arith, h, l, k))

asserted_all : (q : Pipeline) (c : Registers) (ports : Ports) → asserted_in q c ports ≡ asserted_of q c ports 0 q.stages
unfolding asserted_in
asserted_all q c ports = refl

pub untaken_words_stay_valid : (q : Pipeline) → IsPipeline q → (cycles : List Ports) (ports next : Ports) (chan : ℕ) (w : Word)
    → words_sent q.proc.behavior.sites chan (asserted_in q (after_cycles q (at_reset q) cycles).contents ports) ≡ w ∷ [] → ports.room chan ≡ false
    → words_sent q.proc.behavior.sites chan (asserted_in q (after_cycle q (after_cycles q (at_reset q) cycles).contents ports) next) ≡ w ∷ []
untaken_words_stay_valid q is cycles ports next chan w e full =
    let since = after_cycles q (at_reset q) cycles in
    let s = stands q is cycles in
    let later = stands_next q is since (length cycles) s.0 s.1 ports in
    let o = some_offers q since.contents ports s.0.acts chan s.1.stage_regs full w [] q.stages 0 (omega arith) (ap (words_sent q.proc.behavior.sites chan) (sym (asserted_all q since.contents ports)) ∙ e) in
    let u = o.until in
    let inside : o.stage < q.stages = omega arith in
    let stay = stalling_stands q is since.contents ports next s.0.acts s.0.open_stage s.1.turn s.1.stage_regs o.stage (Send o.site w) inside o.stall in
    let found = is_reader_ready q (after_cycle q since.contents ports) next chan w o.stage o.site stay.0 stay.1 o.chan q.stages 0 (omega arith) u in
    alone found.0 found.1 _ w (ap (words_sent q.proc.behavior.sites chan) (asserted_all q (after_cycle q since.contents ports) next) ∙ found.2) (one_sends q is (after_cycle q since.contents ports) next _ _ chan later.turn later.stage_regs)
