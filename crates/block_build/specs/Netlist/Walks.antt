-- What the wires of a stage's sites are to show of the machine: the walk of an activation along them in a cycle.
use Rattle.std.specs.Prelude.{◌≡◌, ℕ, suc, Bool, true, false, List, [], ◌∷◌, ◌++◌, is_some, Option, ◌==◌}
use Rattle.std.specs.List.{list_any}
use Rattle.xb_bits.specs.Word.{Word}
use Rattle.xb_value.specs.declared.value.Value.{Value}
use Rattle.net_core.specs.declared.event.Event.{Event}
use Rattle.net_core.specs.declared.event.Event.TheVariants.{Recv, Send, End}
use Rattle.net_core.specs.Behavior.{Behavior, Turn, Skip, Receive, Give, chan_at}
use Rattle.block_stage.specs.declared.machine.logic.Step.{Step}
use Rattle.block_stage.specs.declared.machine.logic.Step.TheVariants.{Pass, Recall, Take, Put, AwaitWord, AwaitRoom}
use Rattle.block_stage.specs.Machine.Cycle.{Ports, Walk, is_at, asserted_by, step_of}
use Rattle.vlog_tree.specs.Value.{Values, bit, atom_value}
use Rattle.block_build.specs.Netlist.Handshakes.{SiteNets, assert_net, go_net}

-- an event at the site with an index
abbrev pub event_at : ℕ → Event → Bool
event_at i (Recv k) = k == i
event_at i (Send k w) = k == i
event_at i (End s) = false

-- a walk asserts the site with an index, and its word goes
abbrev pub asserts_at : ℕ → Walk → Bool
asserts_at i walk = list_any (event_at i) (asserted_by walk)

abbrev pub goes_at : ℕ → Walk → Bool
goes_at i walk = list_any (is_at i) walk.transfers

-- what the signals that a site's wires read say of what the proc does there: whether it is on, and its partner is there. Where
-- it is off, nothing is said of its partner
abbrev pub TurnIs : Values → SiteNets → Option Word → Bool → Turn → Type 0
TurnIs v site valid_word room Skip = (atom_value v site.on ≡ bit false) × (p : Bool) × (atom_value v site.partner ≡ bit p)
TurnIs v site valid_word room Receive = (atom_value v site.on ≡ bit true) × (atom_value v site.partner ≡ bit (is_some valid_word))
TurnIs v site valid_word room (Give w) = (atom_value v site.on ≡ bit true) × (atom_value v site.partner ≡ bit room)

-- what holds of the words received by then where an activation goes past a site
abbrev pub AfterStep : Step → List Word → (List Word → Type 0) → Type 0
AfterStep Pass got P = P got
AfterStep (Recall w) got P = P (got ++ w ∷ [])
AfterStep (Take w) got P = P (got ++ w ∷ [])
AfterStep (Put w) got P = P got
AfterStep AwaitWord got P = Unit {0}
AfterStep (AwaitRoom w) got P = Unit {0}

-- the signals that the wires of the sites from index i on read are right as far as an activation comes; nothing is said of those
-- behind the site at which it stalls
abbrev pub AreRead : Values → Behavior → (ℕ → Bool) → (ℕ → Word) → Ports → Value → List Word → ℕ → List SiteNets → Type 0
AreRead v b done kept ports s got i [] = Unit {0}
AreRead v b done kept ports s got i (site ∷ sites) =
    (atom_value v site.done ≡ bit (done i))
    × TurnIs v site (ports.valid_word (chan_at b.sites i)) (ports.room (chan_at b.sites i)) (b.turn s got i)
    × AfterStep (step_of (b.turn s got i) (done i) (kept i) (ports.valid_word (chan_at b.sites i)) (ports.room (chan_at b.sites i))) got
    (λ got'. AreRead v b done kept ports s got' (suc i) sites)

-- the wires of the sites from index i on show which of them a walk asserts and which go
abbrev pub ShowWalk : Values → ℕ → List SiteNets → Walk → Type 0
ShowWalk v i [] walk = Unit {0}
ShowWalk v i (site ∷ sites) walk = (v (assert_net site) ≡ bit (asserts_at i walk)) × (v (go_net site) ≡ bit (goes_at i walk)) × ShowWalk v (suc i) sites walk

-- or nothing
abbrev pub ShowNothing : Values → List SiteNets → Type 0
ShowNothing v [] = Unit {0}
ShowNothing v (site ∷ sites) = (v (assert_net site) ≡ bit false) × (v (go_net site) ≡ bit false) × ShowNothing v sites
