-- Where a stage's signals say what an activation does by the words on them, they are right as far as it comes.
use Rattle.std.proofs.Common.{◌≡◌, ℕ, suc, List, [], ◌∷◌, ◌++◌, length, refl, sym, subst, true, false, Bool, Option, Some, None}
use Rattle.xb_bits.specs.Word.{Word}
use Rattle.xb_value.specs.declared.value.Value.{Value}
use Rattle.net_core.specs.Behavior.{Behavior, Turn, Skip, Receive, Give, chan_at}
use Rattle.block_stage.specs.Machine.Cycle.{Ports, step_of}
use Rattle.vlog_tree.specs.Value.{Values}
use Rattle.block_build.specs.Netlist.Handshakes.{SiteNets}
use Rattle.block_build.specs.Netlist.Walks.{TurnIs, AfterStep, AreRead}
use Rattle.block_build.specs.Netlist.Receives.{received_by}
use Rattle.block_build.specs.Netlist.Turns.{grown, DoesTurns, AreTurns}

-- behind a site
grows : (turn : Turn) (done : Bool) (kept : Word) (valid_word : Option Word) (room : Bool) (word : Word) (got : List Word) (P : List Word → Type 0)
    → ((w : Word) → received_by (step_of turn done kept valid_word room) ≡ Some w → word ≡ w) → P (grown turn word got)
    → AfterStep (step_of turn done kept valid_word room) got P
grows Skip done kept valid_word room word got P h p = p
grows Receive true kept valid_word room word got P h p = subst (λ w. P (got ++ w ∷ [])) (h kept refl) p
grows Receive false kept (Some w) room word got P h p = subst (λ u. P (got ++ u ∷ [])) (h w refl) p
grows Receive false kept None room word got P h p = tt
grows (Give w) true kept valid_word room word got P h p = p
grows (Give w) false kept valid_word true word got P h p = p
grows (Give w) false kept valid_word false word got P h p = tt

pub turns_are_read : (v : Values) (b : Behavior) (turns : ℕ → Turn) (words : ℕ → Word) (done : ℕ → Bool) (kept : ℕ → Word) (ports : Ports) (s : Value) (sites : List SiteNets) (got : List Word) (i : ℕ)
    → AreTurns v b.sites turns words done kept ports i sites → DoesTurns b s turns words got i (length sites) → AreRead v b done kept ports s got i sites
turns_are_read v b turns words done kept ports s [] got i are does = tt
turns_are_read v b turns words done kept ports s (site ∷ sites) got i are does =
    let valid_word = ports.valid_word (chan_at b.sites i) in
    let room = ports.room (chan_at b.sites i) in
    let same = sym does.0 in
    let behind : AfterStep (step_of (turns i) (done i) (kept i) valid_word room) got (λ got'. AreRead v b done kept ports s got' (suc i) sites) =
    grows (turns i) (done i) (kept i) valid_word room (words i) got (λ got'. AreRead v b done kept ports s got' (suc i) sites) are.2
    (turns_are_read v b turns words done kept ports s sites (grown (turns i) (words i) got) (suc i) are.3 does.1) in (
      are.0,
      subst (TurnIs v site valid_word room) same are.1,
      subst (λ turn. AfterStep (step_of turn (done i) (kept i) valid_word room) got (λ got'. AreRead v b done kept ports s got' (suc i) sites)) same behind,
    )
