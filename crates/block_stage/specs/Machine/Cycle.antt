-- What a pipeline does in one clock cycle.
use Rattle.std.specs.Prelude.{ℕ, zero, suc, ◌-◌, Bool, true, false, ◌&&◌, ◌||◌, not, List, [], ◌∷◌, ◌++◌, map, if◌then◌else◌, ◌==◌, is_some, Option, Some, None}
use Rattle.std.specs.List.{list_any}
use Rattle.xb_bits.specs.Word.{Word, word}
use Rattle.xb_value.specs.declared.value.Value.{Value}
use Rattle.net_core.specs.declared.event.Event.{Event}
use Rattle.net_core.specs.declared.event.Event.TheVariants.{Recv, Send}
use Rattle.net_core.specs.Behavior.{Behavior, Turn, Skip, Receive, Give, chan_at}
use Rattle.block_stage.specs.declared.machine.logic.Step.{Step}
use Rattle.block_stage.specs.declared.machine.logic.Step.TheVariants.{Pass, Recall, Take, Put, AwaitWord, AwaitRoom}
use Rattle.block_stage.specs.Machine.Pipeline.{Pipeline, first}

-- what stands at a pipeline's ports in a cycle, by channel: the word that is there to be received, if one is, and
-- whether a word that is sent is taken
pub record Ports : Type 0 where
  pub valid_word : ℕ → Option Word
  pub room : ℕ → Bool

-- an activation as it came into a stage: the state in which it began, and the words that it had received
pub record StageEntry : Type 0 where
  pub state : Value
  pub got : List Word

-- the registers of a pipeline
pub record Registers : Type 0 where
  -- the stages that hold an activation. That of stage 0 is the turn: an activation may begin
  pub full : ℕ → Bool
  -- the state in which the next activation begins
  pub state : Value
  -- the activations of the stages from 1 on
  pub stage_regs : ℕ → StageEntry
  -- the sites that are done, in the stages that hold an activation: they received or sent in an earlier cycle
  pub done : ℕ → Bool
  -- the words that done receives received
  pub kept : ℕ → Word

-- after reset, stage 0 has the turn, and nothing else is in use
unfoldable pub opened : Pipeline → Registers
opened q = record {
  full = λ j. j == 0;
  state = q.proc.opening;
  stage_regs = λ j. record { state = q.proc.opening; got = [] };
  done = λ i. false;
  kept = λ i. word 1 0;
}

-- what came into a stage: into stage 0 the state registers, and no word
abbrev pub brought : Registers → ℕ → StageEntry
brought c zero = record { state = c.state; got = [] }
brought c (suc j) = c.stage_regs (suc j)

-- a word that goes through a port at the site with an index: it is received, or sent
pub data Transfer : Type 0 where
  Takes : ℕ → Word → Transfer
  Gives : ℕ → Word → Transfer

abbrev pub event_of : Transfer → Event
event_of (Takes i w) = Recv i
event_of (Gives i w) = Send i w

-- how far an activation comes along the sites of a stage in a cycle: to which index, with which words received by then,
-- what goes through ports on the way, and for what it stalls there, if it does
pub record Walk : Type 0 where
  pub place : ℕ
  pub got : List Word
  pub transfers : List Transfer
  pub stall : Option Event

abbrev pub behind_transfer : Transfer → Walk → Walk
behind_transfer transfer walk = record { place = walk.place; got = walk.got; transfers = transfer ∷ walk.transfers; stall = walk.stall }

abbrev pub stopped : ℕ → List Word → Option Event → Walk
stopped i got stall = record { place = i; got = got; transfers = []; stall = stall }

-- what happens at a site in a cycle, by what the proc does there, whether the site is done, the word kept, the word that
-- is there, and whether one that is sent is taken
abbrev pub step_of : Turn → Bool → Word → Option Word → Bool → Step
step_of Skip done kept valid_word room = Pass
step_of Receive true kept valid_word room = Recall kept
step_of Receive false kept (Some w) room = Take w
step_of Receive false kept None room = AwaitWord
step_of (Give w) true kept valid_word room = Pass
step_of (Give w) false kept valid_word true = Put w
step_of (Give w) false kept valid_word false = AwaitRoom w

-- a walk at a site where this happens, and from there on
abbrev pub follow : ℕ → List Word → (List Word → Walk) → Step → Walk
follow i got next Pass = next got
follow i got next (Recall w) = next (got ++ w ∷ [])
follow i got next (Take w) = behind_transfer (Takes i w) (next (got ++ w ∷ []))
follow i got next (Put w) = behind_transfer (Gives i w) (next got)
follow i got next AwaitWord = stopped i got (Some (Recv i))
follow i got next (AwaitRoom w) = stopped i got (Some (Send i w))

abbrev pub at_site : ℕ → List Word → Turn → Bool → Word → Option Word → Bool → (List Word → Walk) → Walk
at_site i got turn done kept valid_word room next = follow i got next (step_of turn done kept valid_word room)

-- an activation leaves the final stage: the stage holds one, and it stalls for nothing
abbrev pub leaves : Bool → Bool → Bool
leaves full stall = full && not stall

-- it goes on into the next stage where that is free or its activation goes on too
abbrev pub moves_on : Bool → Bool → Bool → Bool → Bool
moves_on full stall next_full next_moves = (full && not stall) && (not next_full || next_moves)

-- a stage holds an activation after a cycle in which one comes in, or in which it keeps its own. In stage 0 one may begin
-- where the last one ends its turn, or where the turn stands there and isn't taken on
abbrev pub full_next : Bool → Bool → Bool → Bool
full_next comes full moves = comes || (full && not moves)

abbrev pub turn_next : Bool → Bool → Bool → Bool
turn_next ends turn moves = ends || (turn && not moves)

-- a site is done after a cycle by which it has gone, unless its stage moves
abbrev pub done_next : Bool → Bool → Bool → Bool
done_next done goes moves = (done || goes) && not moves

-- a site's word goes through its port
abbrev pub is_at : ℕ → Transfer → Bool
is_at i (Takes k w) = k == i
is_at i (Gives k w) = k == i

-- the word that the receive with an index receives now, or the one kept
abbrev pub kept_after : Word → ℕ → List Transfer → Word
kept_after kept i [] = kept
kept_after kept i (Takes k w ∷ transfers) = if k == i then w else kept_after kept i transfers
kept_after kept i (Gives k w ∷ transfers) = kept_after kept i transfers

-- what stands between the registers: what happens at a site, which stages move, and what registers hold after a cycle
pub record Circuit : Type 0 where
  pub step : Turn → Bool → Word → Option Word → Bool → Step
  pub leaves : Bool → Bool → Bool
  pub moves_on : Bool → Bool → Bool → Bool → Bool
  pub full_next : Bool → Bool → Bool → Bool
  pub turn_next : Bool → Bool → Bool → Bool
  pub done_next : Bool → Bool → Bool → Bool
  -- the word that a receive keeps, by the one that it has, the one that is there, its index, and what goes through ports
  pub keep : Word → Option Word → ℕ → List Transfer → Word

abbrev pub circuit : Circuit
circuit = record {
  step = step_of;
  leaves = leaves;
  moves_on = moves_on;
  full_next = full_next;
  turn_next = turn_next;
  done_next = done_next;
  keep = λ kept valid_word i transfers. kept_after kept i transfers;
}

-- along so many sites from index i on, in an activation from a state that received these words before
abbrev pub walk_by : Circuit → Behavior → (ℕ → Bool) → (ℕ → Word) → Ports → Value → List Word → ℕ → ℕ → Walk
walk_by x b done kept ports s got i zero = stopped i got None
walk_by x b done kept ports s got i (suc n) =
    let chan = chan_at b.sites i in
    follow i got (λ got'. walk_by x b done kept ports s got' (suc i) n) (x.step (b.turn s got i) (done i) (kept i) (ports.valid_word chan) (ports.room chan))

unfoldable pub walk : Behavior → (ℕ → Bool) → (ℕ → Word) → Ports → Value → List Word → ℕ → ℕ → Walk
walk b done kept ports s got i n = walk_by circuit b done kept ports s got i n

-- what a stage does in a cycle. One that holds no activation does nothing
abbrev pub if_full : Bool → ℕ → Walk → Walk
if_full true i w = w
if_full false i w = stopped i [] None

unfoldable pub in_stage : Pipeline → Registers → Ports → ℕ → Walk
in_stage q c ports j =
    if_full (c.full j) (first q j)
    (walk q.proc.behavior c.done c.kept ports (brought c j).state (brought c j).got (first q j) (first q (suc j) - first q j))

-- a stage's activation goes on, where so many stages stand behind the stage
abbrev pub moves_through : Circuit → (ℕ → Bool) → (ℕ → Walk) → ℕ → ℕ → Bool
moves_through x full stage zero j = x.leaves (full j) (is_some (stage j).stall)
moves_through x full stage (suc n) j =
    x.moves_on (full j) (is_some (stage j).stall) (full (suc j)) (moves_through x full stage n (suc j))

abbrev pub moves_before : Pipeline → Registers → Ports → ℕ → ℕ → Bool
moves_before q c ports n j = moves_through circuit c.full (in_stage q c ports) n j

unfoldable pub moves : Pipeline → Registers → Ports → ℕ → Bool
moves q c ports j = moves_before q c ports (q.stages - suc j) j

-- the registers after a cycle, by what each stage does and which stages move
abbrev pub full_after : Circuit → Pipeline → Registers → (ℕ → Bool) → ℕ → Bool
full_after x q c moves zero = x.turn_next (moves q.last) (c.full 0) (moves 0)
full_after x q c moves (suc j) = x.full_next (moves j) (c.full (suc j)) (moves (suc j))

abbrev pub stage_regs_after : Registers → (ℕ → Walk) → (ℕ → Bool) → ℕ → StageEntry
stage_regs_after c stage moves zero = c.stage_regs 0
stage_regs_after c stage moves (suc j) =
    if moves j then record { state = (brought c j).state; got = (stage j).got } else c.stage_regs (suc j)

abbrev pub contents_after : Circuit → Pipeline → Registers → Ports → (ℕ → Walk) → (ℕ → Bool) → Registers
contents_after x q c ports stage moves = record {
  full = full_after x q c moves;
  state = if moves q.last then q.proc.behavior.next_state (brought c q.last).state (stage q.last).got else c.state;
  stage_regs = stage_regs_after c stage moves;
  done = λ i. x.done_next (c.done i) (list_any (is_at i) (stage (q.stage i)).transfers) (moves (q.stage i));
  kept = λ i. x.keep (c.kept i) (ports.valid_word (chan_at q.proc.behavior.sites i)) i (stage (q.stage i)).transfers;
}

unfoldable pub after_cycle : Pipeline → Registers → Ports → Registers
after_cycle q c ports = contents_after circuit q c ports (in_stage q c ports) (moves q c ports)

-- all that goes through ports in a cycle, at so many stages from stage k on
abbrev pub transfers_through : (ℕ → Walk) → ℕ → ℕ → List Transfer
transfers_through stage k zero = []
transfers_through stage k (suc n) = (stage k).transfers ++ transfers_through stage (suc k) n

abbrev pub transfers_of : Pipeline → Registers → Ports → ℕ → ℕ → List Transfer
transfers_of q c ports k n = transfers_through (in_stage q c ports) k n

unfoldable pub transfers_in : Pipeline → Registers → Ports → List Transfer
transfers_in q c ports = transfers_of q c ports 0 q.stages

abbrev pub event_list : Option Event → List Event
event_list None = []
event_list (Some e) = e ∷ []

-- the sites that a stage asserts in a cycle, which are those that drive a port: a word goes there, or stalls
abbrev pub asserted_by : Walk → List Event
asserted_by walk = map event_of walk.transfers ++ event_list walk.stall

abbrev pub asserted_through : (ℕ → Walk) → ℕ → ℕ → List Event
asserted_through stage k zero = []
asserted_through stage k (suc n) = asserted_by (stage k) ++ asserted_through stage (suc k) n

abbrev pub asserted_of : Pipeline → Registers → Ports → ℕ → ℕ → List Event
asserted_of q c ports k n = asserted_through (in_stage q c ports) k n

unfoldable pub asserted_in : Pipeline → Registers → Ports → List Event
asserted_in q c ports = asserted_of q c ports 0 q.stages
