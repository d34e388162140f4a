-- The words of receives.
use Rattle.std.proofs.Common.{◌≡◌, ℕ, zero, suc, ◌-◌, ◌<◌, ◌≤◌, List, [], ◌∷◌, ◌++◌, refl, sym, ap, ◌∙◌, subst, arith, cond, true, false, Bool, eqb, Option, Some, None}
use Rattle.std.specs.Prelude.{◌&&◌, ◌||◌, not, slice_get}
use Rattle.std.specs.List.{list_any}
use Rattle.std.proofs.lemmas.Bool.Decides.{nat_tests}
use Rattle.xb_bits.specs.Word.{Word}
use Rattle.xb_value.specs.declared.value.Value.{Value}
use Rattle.net_core.specs.declared.net.Site.{Site}
use Rattle.net_core.specs.Behavior.{Behavior, Turn, Skip, Receive, Give, IsInDirection, chan_at}
use Rattle.block_stage.specs.Machine.Pipeline.{Pipeline, IsPipeline, first}
use Rattle.block_stage.specs.Machine.Cycle.{Ports, Registers, Transfer, Takes, Gives, Walk, circuit, brought, walk_by, at_site, step_of, if_full, is_at, kept_after}
use Rattle.block_stage.specs.Machine.Circuits.{stage_by, moves_by, cycle_by}
use Rattle.block_stage.proofs.Lemmas.Machine.{stage_at}
use Rattle.vlog_tree.specs.Value.{Values, bit, atom_value}
use Rattle.block_build.specs.Netlist.Handshakes.{go_net}
use Rattle.block_build.specs.Netlist.Walks.{goes_at}
use Rattle.block_build.specs.Netlist.Receives.{ReceiveNets, ReceiveWired, WordsHeld, received_by}
use Rattle.block_build.proofs.OnNetlist.OnGates.{choice}

-- the word that a receive has where an activation goes past it
pub the_word_is_received : (v : Values) (c : Registers) (ports : Ports) (chan i : ℕ) (receive : ReceiveNets) → ReceiveWired v receive → atom_value v receive.site.done ≡ bit (c.done i) → WordsHeld v c ports chan i receive
    → (room : Bool) (w : Word) → received_by (step_of Receive (c.done i) (c.kept i) (ports.valid_word chan) room) ≡ Some w → v receive.has ≡ w
the_word_is_received v c ports chan i receive is d stage_regs room w e = go (c.done i) refl (ports.valid_word chan) refl e
  where
    chosen : (t : Bool) → c.done i ≡ t → v receive.has ≡ cond t (atom_value v receive.kept) (atom_value v receive.word)
    chosen t f = choice (v receive.has) (atom_value v receive.site.done) (atom_value v receive.kept) (atom_value v receive.word) t is.has.0 (d ∙ ap bit f)

    go : (t : Bool) → c.done i ≡ t → (valid_word : Option Word) → ports.valid_word chan ≡ valid_word → received_by (step_of Receive t (c.kept i) valid_word room) ≡ Some w → v receive.has ≡ w
    go true f valid_word o r = let same : c.kept i ≡ w = cc in chosen true f ∙ stage_regs.kept f ∙ same
    go false f (Some x) o r = let same : x ≡ w = cc in chosen false f ∙ stage_regs.word x o ∙ same
    go false f None o r = cc

-- what a walk leaves in the register of a site at which nothing is sent
abbrev Taken : Ports → ℕ → ℕ → Word → Walk → Type 0
Taken ports chan k kept walk = (w : Word) × (ports.valid_word chan ≡ Some w) × (kept_after kept k walk.transfers ≡ w)

eqb-eq : (a c : ℕ) → eqb a c ≡ true → a ≡ c
eqb-eq a c h = grind (arith, nat_tests)

site_taken : (b : Behavior) (ports : Ports) (s : Value) (got : List Word) (i k : ℕ) (kept0 : Word) (next : List Word → Walk)
    → ((s : Value) (got : List Word) (w : Word) → b.turn s got k ≡ Give w → ⊥)
    → ((got' : List Word) → goes_at k (next got') ≡ true → Taken ports (chan_at b.sites k) k kept0 (next got'))
    → (turn : Turn) → b.turn s got i ≡ turn → (done : Bool) (kept : Word) (valid_word : Option Word) → ports.valid_word (chan_at b.sites i) ≡ valid_word → (room : Bool)
    → goes_at k (at_site i got turn done kept valid_word room next) ≡ true → Taken ports (chan_at b.sites k) k kept0 (at_site i got turn done kept valid_word room next)
site_taken b ports s got i k kept0 next never ih Skip t done kept valid_word o room g = ih got g
site_taken b ports s got i k kept0 next never ih Receive t true kept valid_word o room g = ih (got ++ kept ∷ []) g
site_taken b ports s got i k kept0 next never ih Receive t false kept (Some w) o room g = here (eqb i k) refl g
  where
    rest : Walk
    rest = next (got ++ w ∷ [])

    here : (x : Bool) → eqb i k ≡ x → (x || goes_at k rest) ≡ true → (u : Word) × (ports.valid_word (chan_at b.sites k) ≡ Some u) × (cond (eqb i k) w (kept_after kept0 k rest.transfers) ≡ u)
    here true e h = (w, ap (λ m. ports.valid_word (chan_at b.sites m)) (sym (eqb-eq i k e)) ∙ o, ap (λ x. cond x w (kept_after kept0 k rest.transfers)) e)
    here false e h = let r = ih (got ++ w ∷ []) h in (r.0, r.1, ap (λ x. cond x w (kept_after kept0 k rest.transfers)) e ∙ r.2)
site_taken b ports s got i k kept0 next never ih Receive t false kept None o room g = cc
site_taken b ports s got i k kept0 next never ih (Give w) t true kept valid_word o room g = ih got g
site_taken b ports s got i k kept0 next never ih (Give w) t false kept valid_word o true g = here (eqb i k) refl g
  where
    here : (x : Bool) → eqb i k ≡ x → (x || goes_at k (next got)) ≡ true → (u : Word) × (ports.valid_word (chan_at b.sites k) ≡ Some u) × (kept_after kept0 k (next got).transfers ≡ u)
    here true e h = absurd (never s got w (ap (b.turn s got) (sym (eqb-eq i k e)) ∙ t))
    here false e h = ih got h
site_taken b ports s got i k kept0 next never ih (Give w) t false kept valid_word o false g = cc

walk_taken : (b : Behavior) (done : ℕ → Bool) (kept : ℕ → Word) (ports : Ports) (s : Value) (got : List Word) (i n k : ℕ) (kept0 : Word)
    → ((s : Value) (got : List Word) (w : Word) → b.turn s got k ≡ Give w → ⊥)
    → goes_at k (walk_by circuit b done kept ports s got i n) ≡ true → Taken ports (chan_at b.sites k) k kept0 (walk_by circuit b done kept ports s got i n)
walk_taken b done kept ports s got i zero k kept0 never g = cc
walk_taken b done kept ports s got i (suc n) k kept0 never g =
    site_taken b ports s got i k kept0 (λ got'. walk_by circuit b done kept ports s got' (suc i) n) never
    (λ got' h. walk_taken b done kept ports s got' (suc i) n k kept0 never h)
    (b.turn s got i) refl (done i) (kept i) (ports.valid_word (chan_at b.sites i)) refl (ports.room (chan_at b.sites i)) g

-- and in that of one that doesn't go
stays : (kept : Word) (k : ℕ) (transfers : List Transfer) → list_any (is_at k) transfers ≡ false → kept_after kept k transfers ≡ kept
stays kept k [] h = refl
stays kept k (Takes i w ∷ transfers) h = go (eqb i k) h (stays kept k transfers)
  where
    go : (x : Bool) → (x || list_any (is_at k) transfers) ≡ false → (list_any (is_at k) transfers ≡ false → kept_after kept k transfers ≡ kept) → cond x w (kept_after kept k transfers) ≡ kept
    go true e ih = cc
    go false e ih = ih e
stays kept k (Gives i w ∷ transfers) h = go (eqb i k) h (stays kept k transfers)
  where
    go : (x : Bool) → (x || list_any (is_at k) transfers) ≡ false → (list_any (is_at k) transfers ≡ false → kept_after kept k transfers ≡ kept) → kept_after kept k transfers ≡ kept
    go true e ih = cc
    go false e ih = ih e

-- the word that a receive keeps
pub the_word_is_kept : (v : Values) (q : Pipeline) → IsPipeline q → (c : Registers) (ports : Ports) (j i : ℕ) (site : Site) (receive : ReceiveNets)
    → first q j ≤ i → i < first q (suc j) → slice_get q.proc.behavior.sites i ≡ Some site → site.sends ≡ false
    → ReceiveWired v receive → WordsHeld v c ports (chan_at q.proc.behavior.sites i) i receive → v (go_net receive.site) ≡ bit (goes_at i (stage_by circuit q c ports j))
    → (cycle_by circuit q c ports).done i ≡ true → v receive.keeps ≡ (cycle_by circuit q c ports).kept i
the_word_is_kept v q is c ports j i site receive l r here sends wired stage_regs goes done =
    by_going (goes_at i (stage_by circuit q c ports j)) refl
    ∙ ap (λ m. kept_after (c.kept i) i (stage_by circuit q c ports m).transfers) (sym at)
  where
    at : q.stage i ≡ j
    at = stage_at q is i j l r

    never : (s : Value) (got : List Word) (w : Word) → q.proc.behavior.turn s got i ≡ Give w → ⊥
    never s got w t = let sends_too : site.sends ≡ true = subst (IsInDirection site) t (is.directions s got i site here) in cc

    chosen : (t : Bool) → goes_at i (stage_by circuit q c ports j) ≡ t → v receive.keeps ≡ cond t (atom_value v receive.word) (atom_value v receive.kept)
    chosen t e = choice (v receive.keeps) (v (go_net receive.site)) (atom_value v receive.word) (atom_value v receive.kept) t wired.keeps.0 (goes ∙ ap bit e)

    was_done : goes_at i (stage_by circuit q c ports j) ≡ false → c.done i ≡ true
    was_done e = go (c.done i) (goes_at i (stage_by circuit q c ports (q.stage i))) (moves_by circuit q c ports (q.stage i)) (ap (λ m. goes_at i (stage_by circuit q c ports m)) at ∙ e) done
      where
        go : (x y z : Bool) → y ≡ false → ((x || y) && not z) ≡ true → x ≡ true
        go true y z f h = refl
        go false true z f h = cc
        go false false z f h = cc

    taken : (t : Bool) → c.full j ≡ t → goes_at i (if_full t (first q j) (walk_by circuit q.proc.behavior c.done c.kept ports (brought c j).state (brought c j).got (first q j) (first q (suc j) - first q j))) ≡ true
        → Taken ports (chan_at q.proc.behavior.sites i) i (c.kept i) (if_full t (first q j) (walk_by circuit q.proc.behavior c.done c.kept ports (brought c j).state (brought c j).got (first q j) (first q (suc j) - first q j)))
    taken true f g = walk_taken q.proc.behavior c.done c.kept ports (brought c j).state (brought c j).got (first q j) (first q (suc j) - first q j) i (c.kept i) never g
    taken false f g = cc

    by_going : (t : Bool) → goes_at i (stage_by circuit q c ports j) ≡ t → v receive.keeps ≡ kept_after (c.kept i) i (stage_by circuit q c ports j).transfers
    by_going true e = let w = taken (c.full j) refl e in chosen true e ∙ stage_regs.word w.0 w.1 ∙ sym w.2
    by_going false e = chosen false e ∙ stage_regs.kept (was_done e) ∙ sym (stays (c.kept i) i (stage_by circuit q c ports j).transfers e)
