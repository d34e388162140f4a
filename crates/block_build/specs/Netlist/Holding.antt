-- What the registers of a pipeline hold of its machine, and how they go on from cycle to cycle.
use Rattle.std.specs.Prelude.{◌≡◌, ℕ, suc, ◌-◌, ◌<◌, ◌≤◌, Bool, true, false, List, [], ◌∷◌, map, slice_get, length, nat_lt, if◌then◌else◌, ◌==◌, Some}
use Rattle.std.specs.List.{AllByRecursion}
use Rattle.xb_bits.specs.Word.{Word}
use Rattle.xb_value.specs.declared.value.Value.{Value}
use Rattle.xb_value.specs.Typing.{IsOfType}
use Rattle.net_core.specs.Behavior.{IsWordOf, chan_at}
use Rattle.ir_tree.specs.declared.node.Node.{Node}
use Rattle.ir_tree.specs.declared.node.Operand.{Operand}
use Rattle.ir_tree.specs.declared.node.Operand.TheVariants as operand
use Rattle.ir_tree.specs.declared.node.Role.{Role}
use Rattle.ir_tree.specs.declared.node.Role.TheVariants as role
use Rattle.ir_tree.specs.declared.package.Channel.{Channel}
use Rattle.ir_tree.specs.declared.package.Proc.{Proc}
use Rattle.ir_tree.specs.Activations.{activation, sent, width_at}
use Rattle.ir_tree.specs.NodeValues.{channel_type, role_of, node_values}
use Rattle.ir_tree.specs.Types.{ty_of}
use Rattle.ir_tree.specs.Rules.Fitting.{type_in, types_behind}
use Rattle.block_stage.specs.Machine.Pipeline.{Pipeline, IsPipeline, first}
use Rattle.block_stage.specs.Machine.Cycle.{Ports, Registers, StageEntry, brought}
use Rattle.vlog_tree.specs.declared.expression.Atom.{Atom}
use Rattle.vlog_tree.specs.Value.{Values, bit, atom_value}
use Rattle.block_build.specs.Netlist.Handshakes.{SiteNets}
use Rattle.block_build.specs.Netlist.Leaves.{ShowsValue}
use Rattle.block_build.specs.Netlist.Nodes.{operands_read, IsEarlier, site_index, value_by_words, AreStaged, HaveOperandTypes, ProcNets, NodesShow, IsOnSignal, IsPartnerSignal, predicate_of}
use Rattle.block_build.specs.Netlist.Procs.{setting_by, turns_by_words, gathered}
use Rattle.block_build.specs.Netlist.Receives.{ReceiveWired}
use Rattle.block_build.specs.Netlist.Stages.{StageNets, move_at, IsControl, AreAllDoneBits}

-- ---- which values stages carry on

-- each stage has copies of what its nodes read of earlier stages, the stage in which an activation gives the turn back one of the
-- next state; and a copy comes of the copy in the stage before, if that isn't where the value is made
pub record CarriesOn (proc : Proc) (last : ℕ) (stage : Operand → ℕ) (carried : Operand → ℕ → Bool) : Type 0 where
  pub read : (k : ℕ) (n : Node) → slice_get proc.nodes k ≡ Some n
      → AllByRecursion (λ o. stage o < stage (operand.Node k) → carried o (stage (operand.Node k)) ≡ true) (operands_read n)
  pub next : stage proc.next < last → carried proc.next last ≡ true
  pub passed_on : (o : Operand) (j : ℕ) → stage o < j → carried o (suc j) ≡ true → carried o j ≡ true
  -- there are copies of the state and of nodes alone
  pub real : (o : Operand) (j : ℕ) → carried o j ≡ true → IsEarlier (length proc.nodes) o

-- ---- what an activation has with it

-- what stage j holds of the activation that came into it so: the words that it had received are those that some words gather at
-- the sites of earlier stages, and the copies of values of earlier stages show them by these words
pub record DataHeld (v : Values) (channels : List Channel) (proc : Proc) (nets : ProcNets) (stage : Operand → ℕ) (carried : Operand → ℕ → Bool) (q : Pipeline) (entry : StageEntry) (j : ℕ) : Type 0 where
  pub words : ℕ → Word
  pub typed : IsOfType (ty_of proc.state) entry.state
  pub got : entry.got ≡ gathered (turns_by_words channels proc.nodes entry.state words) words (first q j)
  pub copies : (o : Operand) → stage o < j → carried o j ≡ true → ShowsValue v (nets.shown j o) (value_by_words channels proc.nodes entry.state words o)

-- the words by which the values of stage j are right: for the sites of earlier stages these, else those on signals
abbrev pub words_now : Values → ProcNets → (ℕ → ℕ) → ℕ → (ℕ → Word) → ℕ → Word
words_now v nets site_stage j words i = if nat_lt (site_stage i) j then words i else v (nets.receive i).has

-- ---- sites

abbrev pub ReceiveMade : Values → ProcNets → SiteNets → ℕ → Role → Type 0
ReceiveMade v nets site i role.Pure = Unit {0}
ReceiveMade v nets site i (role.Receive predicate c) = ((nets.receive i).site ≡ site) × ReceiveWired v (nets.receive i)
ReceiveMade v nets site i (role.Send predicate c) = Unit {0}

-- where the signals of what is sent show a value of its type, the word's signal carries its flat word
abbrev pub SendMade : Values → Proc → ProcNets → ℕ → ℕ → Node → Role → Type 0
SendMade v proc nets j i n role.Pure = Unit {0}
SendMade v proc nets j i n (role.Receive predicate c) = Unit {0}
SendMade v proc nets j i n (role.Send predicate c) =
    (o : Operand)
    × (slice_get n.operands 1 ≡ Some o)
    × ((value : Value) → IsOfType (ty_of (type_in (types_behind proc.state proc.nodes) o)) value → ShowsValue v (nets.shown j o) value → atom_value v (nets.sent i) ≡ sent value)

-- the wires of site i, in stage j: it is that of a node, by whose predicate it is on
pub record SiteMade (v : Values) (proc : Proc) (nets : ProcNets) (stage : Operand → ℕ) (j i : ℕ) (site : SiteNets) : Type 0 where
  pub line : Node
  pub there : slice_get proc.nodes (nets.node i) ≡ Some line
  pub stands : stage (operand.Node (nets.node i)) ≡ j
  pub index : site_index proc.nodes (nets.node i) ≡ i
  pub on : IsOnSignal v proc.state proc.nodes (nets.shown j) (predicate_of (role_of line)) site.on
  pub receive : ReceiveMade v nets site i (role_of line)
  pub send : SendMade v proc nets j i line (role_of line)

abbrev pub SitesMade : Values → Proc → ProcNets → (Operand → ℕ) → ℕ → ℕ → List SiteNets → Type 0
SitesMade v proc nets stage j i [] = Unit {0}
SitesMade v proc nets stage j i (site ∷ sites) = SiteMade v proc nets stage j i site × SitesMade v proc nets stage j (suc i) sites

abbrev pub AllSitesMade : Values → Proc → ProcNets → (Operand → ℕ) → Pipeline → ℕ → List StageNets → Type 0
AllSitesMade v proc nets stage q j [] = Unit {0}
AllSitesMade v proc nets stage q j (one ∷ more) =
    SitesMade v proc nets stage j (first q j) one.sites × (length one.sites ≡ first q (suc j) - first q j) × AllSitesMade v proc nets stage q (suc j) more

-- what the sites find at their ports: whether the partner is there, and the word that is received
abbrev pub WordShown : Values → ProcNets → Ports → ℕ → ℕ → Role → Type 0
WordShown v nets ports chan i role.Pure = Unit {0}
WordShown v nets ports chan i (role.Receive predicate c) = (w : Word) → ports.valid_word chan ≡ Some w → atom_value v (nets.receive i).word ≡ w
WordShown v nets ports chan i (role.Send predicate c) = Unit {0}

abbrev pub PortsShown : Values → Proc → ProcNets → Pipeline → Ports → ℕ → List SiteNets → Type 0
PortsShown v proc nets q ports i [] = Unit {0}
PortsShown v proc nets q ports i (site ∷ sites) =
    ((n : Node) → slice_get proc.nodes (nets.node i) ≡ Some n
    → IsPartnerSignal v (ports.valid_word (chan_at q.proc.behavior.sites i)) (ports.room (chan_at q.proc.behavior.sites i)) site.partner (role_of n)
    × WordShown v nets ports (chan_at q.proc.behavior.sites i) i (role_of n))
    × PortsShown v proc nets q ports (suc i) sites

abbrev pub AllPortsShown : Values → Proc → ProcNets → Pipeline → Ports → ℕ → List StageNets → Type 0
AllPortsShown v proc nets q ports j [] = Unit {0}
AllPortsShown v proc nets q ports j (one ∷ more) = PortsShown v proc nets q ports (first q j) one.sites × AllPortsShown v proc nets q ports (suc j) more

-- the word on the signal of each receive is one of its channel
abbrev pub HasChannelWidth : Values → List Channel → ProcNets → ℕ → Role → Type 0
HasChannelWidth v channels nets i role.Pure = Unit {0}
HasChannelWidth v channels nets i (role.Receive predicate c) = IsWordOf (width_at (channel_type channels c)) (v (nets.receive i).has)
HasChannelWidth v channels nets i (role.Send predicate c) = Unit {0}

abbrev pub HaveChannelWidths : Values → List Channel → Proc → ProcNets → Type 0
HaveChannelWidths v channels proc nets =
    (k : ℕ) (n : Node) → slice_get proc.nodes k ≡ Some n → HasChannelWidth v channels nets (site_index proc.nodes k) (role_of n)

-- whatever words come, operands have values of their types
abbrev pub HasTypedValues : List Channel → Proc → Type 0
HasTypedValues channels proc =
    (s : Value) (words : ℕ → Word) → IsOfType (ty_of proc.state) s → HaveOperandTypes proc.state proc.nodes s (node_values (setting_by channels s words) proc.nodes)

-- a proc's pipeline and its wires, where `run` says that there is no reset: the schedule is legal, and each part promises what it is to
pub record PipelineMade (v : Values) (run : Atom) (channels : List Channel) (proc : Proc) (nets : ProcNets) (stage : Operand → ℕ) (carried : Operand → ℕ → Bool) (q : Pipeline) (stages : List StageNets) : Type 0 where
  pub legal : IsPipeline q
  pub behaves : activation channels proc ≡ q.proc.behavior
  pub staged : AreStaged proc.nodes stage q.stage
  pub carries : CarriesOn proc q.last stage carried
  pub types : HasTypedValues channels proc
  pub next_early : stage proc.next ≤ q.last
  pub next_there : IsEarlier (length proc.nodes) proc.next
  pub next_typed : type_in (types_behind proc.state proc.nodes) proc.next ≡ proc.state
  pub control : IsControl v run q stages
  pub sites : AllSitesMade v proc nets stage q 0 stages
  pub shows : NodesShow v channels proc nets stage
  pub widths : HaveChannelWidths v channels proc nets

-- ---- registers

abbrev pub AreFullBits : Values → Registers → ℕ → List StageNets → Type 0
AreFullBits v c j [] = Unit {0}
AreFullBits v c j (one ∷ more) = (atom_value v one.full ≡ bit (c.full j)) × AreFullBits v c (suc j) more

abbrev pub IsWordKept : Values → ProcNets → Registers → ℕ → Role → Type 0
IsWordKept v nets c i role.Pure = Unit {0}
IsWordKept v nets c i (role.Receive predicate d) = c.done i ≡ true → atom_value v (nets.receive i).kept ≡ c.kept i
IsWordKept v nets c i (role.Send predicate d) = Unit {0}

-- done receives keep their words
abbrev pub AreWordsKept : Values → Proc → ProcNets → Registers → ℕ → List SiteNets → Type 0
AreWordsKept v proc nets c i [] = Unit {0}
AreWordsKept v proc nets c i (site ∷ sites) = ((n : Node) → slice_get proc.nodes (nets.node i) ≡ Some n → IsWordKept v nets c i (role_of n)) × AreWordsKept v proc nets c (suc i) sites

abbrev pub AreAllWordsKept : Values → Proc → ProcNets → Pipeline → Registers → ℕ → List StageNets → Type 0
AreAllWordsKept v proc nets q c j [] = Unit {0}
AreAllWordsKept v proc nets q c j (one ∷ more) = AreWordsKept v proc nets c (first q j) one.sites × AreAllWordsKept v proc nets q c (suc j) more

-- registers go on with what is signalled where a bit is 1, else with what they hold
abbrev pub AreCarriedOn : Values → Values → Atom → List Atom → List Atom → Type 0
AreCarriedOn v next moves source registers =
    (t : Bool) → atom_value v moves ≡ bit t → map (atom_value next) registers ≡ (if t then map (atom_value v) source else map (atom_value v) registers)

abbrev pub WordGoesOn : Values → Values → ProcNets → ℕ → Role → Type 0
WordGoesOn v next nets i role.Pure = Unit {0}
WordGoesOn v next nets i (role.Receive predicate c) = atom_value next (nets.receive i).kept ≡ v (nets.receive i).keeps
WordGoesOn v next nets i (role.Send predicate c) = Unit {0}

-- the bits and the words of receives, by their wires
abbrev pub SitesGoOn : Values → Values → Proc → ProcNets → ℕ → List SiteNets → Type 0
SitesGoOn v next proc nets i [] = Unit {0}
SitesGoOn v next proc nets i (site ∷ sites) =
    (atom_value next site.done ≡ v (suc (suc site.next)))
    × ((n : Node) → slice_get proc.nodes (nets.node i) ≡ Some n → WordGoesOn v next nets i (role_of n))
    × SitesGoOn v next proc nets (suc i) sites

abbrev pub StagesGoOn : Values → Values → Proc → ProcNets → Pipeline → ℕ → List StageNets → Type 0
StagesGoOn v next proc nets q j [] = Unit {0}
StagesGoOn v next proc nets q j (one ∷ more) =
    (atom_value next one.full ≡ v (suc (suc one.next))) × SitesGoOn v next proc nets (first q j) one.sites × StagesGoOn v next proc nets q (suc j) more

-- what registers carry in the next cycle
pub record RegistersGoOn (v next : Values) (proc : Proc) (nets : ProcNets) (stage : Operand → ℕ) (carried : Operand → ℕ → Bool) (q : Pipeline) (stages : List StageNets) : Type 0 where
  pub bits : StagesGoOn v next proc nets q 0 stages
  pub copies : (o : Operand) (j : ℕ) → suc j < q.stages → stage o ≤ j → carried o (suc j) ≡ true → AreCarriedOn v next (move_at stages j) (nets.shown j o) (nets.shown (suc j) o)
  pub state : AreCarriedOn v next (move_at stages q.last) (nets.shown q.last proc.next) (nets.shown 0 operand.State)

-- ---- in reset

-- the registers have what they are reset to: the turn stands in stage 0, and nothing is done
abbrev pub AreReset : Values → ℕ → List StageNets → Type 0
AreReset v j [] = Unit {0}
AreReset v j (one ∷ more) = (atom_value v one.full ≡ bit (j == 0)) × AllByRecursion (λ (site : SiteNets). atom_value v site.done ≡ bit false) one.sites × AreReset v (suc j) more

-- all that a pipeline's registers hold
pub record PipelineHeld (v : Values) (channels : List Channel) (proc : Proc) (nets : ProcNets) (stage : Operand → ℕ) (carried : Operand → ℕ → Bool) (q : Pipeline) (stages : List StageNets) (c : Registers) : Type 0 where
  pub full : AreFullBits v c 0 stages
  pub done : AreAllDoneBits v q c 0 stages
  pub kept : AreAllWordsKept v proc nets q c 0 stages
  pub state : ShowsValue v (nets.shown 0 operand.State) c.state
  pub typed : IsOfType (ty_of proc.state) c.state
  pub entries : (j : ℕ) → j < q.stages → c.full j ≡ true → DataHeld v channels proc nets stage carried q (brought c j) j
