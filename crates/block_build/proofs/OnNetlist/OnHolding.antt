-- What a pipeline's registers hold of its machine, from cycle to cycle.
use Rattle.std.proofs.Common.{◌≡◌, ℕ, zero, suc, ◌+◌, ◌-◌, ◌<◌, ◌≤◌, List, [], ◌∷◌, map, length, refl, sym, ap, ◌∙◌, subst, arith, cond, true, false, Bool, Option, Some, None, inl, inr}
use Rattle.std.specs.Prelude.{nat_lt, slice_get, ◌⊎◌, ◌&&◌, ◌||◌, not, is_some}
use Rattle.std.specs.List.{AllByRecursion}
use Rattle.std.proofs.lemmas.Bool.{cases_lt}
use Rattle.std.proofs.lemmas.Bool.Decides.{nat_tests}
use Rattle.xb_bits.specs.Word.{Word}
use Rattle.xb_value.specs.declared.value.Value.{Value}
use Rattle.xb_value.specs.Typing.{IsOfType}
use Rattle.net_core.specs.declared.event.Event.{Event}
use Rattle.net_core.specs.Behavior.{IsWordOf, Skip, Receive, Give, chan_at}
use Rattle.ir_tree.specs.declared.node.Node.{Node}
use Rattle.ir_tree.specs.declared.node.Operand.{Operand}
use Rattle.ir_tree.specs.declared.node.Operand.TheVariants as operand
use Rattle.ir_tree.specs.declared.node.Role.{Role}
use Rattle.ir_tree.specs.declared.node.Role.TheVariants as role
use Rattle.ir_tree.specs.declared.package.Channel.{Channel}
use Rattle.ir_tree.specs.declared.package.Proc.{Proc}
use Rattle.ir_tree.specs.Activations.{activation, sent_by, width_at}
use Rattle.ir_tree.specs.NodeValues.{role_of, node_values, is_on, channel_type, no_word}
use Rattle.ir_tree.specs.Types.{ty_of}
use Rattle.block_stage.specs.Machine.Pipeline.{Pipeline, IsPipeline, first}
use Rattle.block_stage.specs.Machine.Cycle.{Ports, Registers, Walk, circuit, brought, walk_by, if_full, step_of, moves_through}
use Rattle.block_stage.specs.Machine.Circuits.{stage_by, moves_by, cycle_by}
use Rattle.block_stage.proofs.Lemmas.Machine.{stage_at, first_grows}
use Rattle.vlog_tree.specs.declared.expression.Atom.{Atom}
use Rattle.vlog_tree.specs.Value.{Values, bit, atom_value}
use Rattle.block_build.specs.Netlist.Handshakes.{SiteNets, go_net}
use Rattle.block_build.specs.Netlist.Holding.{CarriesOn, DataHeld, words_now, ReceiveMade, SitesMade, AllSitesMade, WordShown, PortsShown, AllPortsShown, HasChannelWidth, HaveChannelWidths, AreFullBits, IsWordKept, AreWordsKept, AreAllWordsKept, WordGoesOn, SitesGoOn, StagesGoOn, RegistersGoOn, PipelineMade, PipelineHeld, HasTypedValues}
use Rattle.block_build.specs.Netlist.Leaves.{ShowsValue}
use Rattle.block_build.specs.Netlist.Nodes.{operands_read, IsEarlier, site_index, value_by_words, IsSiteStage, AreStaged, IsHeard, HaveOperandTypes, ProcNets, NodesShow, ShowEarlier, AreHeard, turn_of}
use Rattle.block_build.specs.Netlist.Procs.{setting_by, turns_by_words, gathered}
use Rattle.block_build.specs.Netlist.Receives.{received_by}
use Rattle.block_build.specs.Netlist.Stages.{StageNets, move_at, AreHeld, AreDoneBits, AreAllDoneBits, ShowStages, ShowDone, ShowNext}
use Rattle.block_build.specs.Netlist.Turns.{AreTurns}
use Rattle.block_build.specs.Netlist.Walks.{TurnIs, ShowWalk, goes_at}
use Rattle.block_build.proofs.OnNetlist.OnGathered.{stages_read_their_words, stages_gather_their_words, gathered_words_agree}
use Rattle.block_build.proofs.OnNetlist.OnNodeValues.{values_agree}
use Rattle.block_build.proofs.OnNetlist.OnNodes.{nodes_are_shown, operands_are_shown}
use Rattle.block_build.proofs.OnNetlist.OnProcs.{receive_site}
use Rattle.block_build.proofs.OnNetlist.OnReceives.{the_word_is_received, the_word_is_kept}
use Rattle.block_build.proofs.OnNetlist.OnSites.{turn_is_the_nodes, turn_is_said, partner_is_a_sites}
use Rattle.block_build.proofs.OnNetlist.OnStaged.{earlier_stage, first_none, next_state_is}
use Rattle.block_build.proofs.OnNetlist.OnStages.{control_shows_the_cycle, control_shows_the_next_bits, move_shown}

-- ---- the words of a stage

before_is : (site_stage : ℕ → ℕ) (v : Values) (nets : ProcNets) (j : ℕ) (words : ℕ → Word) (i : ℕ) → site_stage i < j → words i ≡ words_now v nets site_stage j words i
before_is site_stage v nets j words i l = let e : nat_lt (site_stage i) j ≡ true = grind (arith, nat_tests, l) in sym (ap (λ t. cond t (words i) (v (nets.receive i).has)) e)

now_is : (site_stage : ℕ → ℕ) (v : Values) (nets : ProcNets) (j : ℕ) (words : ℕ → Word) (i : ℕ) → j ≤ site_stage i → words_now v nets site_stage j words i ≡ v (nets.receive i).has
now_is site_stage v nets j words i l = let e : nat_lt (site_stage i) j ≡ false = grind (arith, nat_tests, l) in ap (λ t. cond t (words i) (v (nets.receive i).has)) e

-- ---- a site

give_receives_nothing : (u : Word) (done : Bool) (kept : Word) (valid_word : Option Word) (room : Bool) → received_by (step_of (Give u) done kept valid_word room) ≡ None
give_receives_nothing u true kept valid_word room = refl
give_receives_nothing u false kept valid_word true = refl
give_receives_nothing u false kept valid_word false = refl

received_at : (v : Values) (nets : ProcNets) (c : Registers) (ports : Ports) (chan i : ℕ) (site : SiteNets) (room : Bool) (s : Value) (values : List Value) (n : Node) (rl : Role) (word : Word) → word ≡ v (nets.receive i).has
    → ReceiveMade v nets site i rl → atom_value v site.done ≡ bit (c.done i) → IsWordKept v nets c i rl → WordShown v nets ports chan i rl
    → (w : Word) → received_by (step_of (turn_of s values n rl) (c.done i) (c.kept i) (ports.valid_word chan) room) ≡ Some w → word ≡ w
received_at v nets c ports chan i site room s values n role.Pure word e made done kept shown w r = absurd (cc)
received_at v nets c ports chan i site room s values n (role.Receive predicate d) word e made done kept shown w r = by (is_on s values predicate) r
  where
    by : (t : Bool) → received_by (step_of (cond t Receive Skip) (c.done i) (c.kept i) (ports.valid_word chan) room) ≡ Some w → word ≡ w
    by true h =
        e ∙ the_word_is_received v c ports chan i (nets.receive i) made.1 (ap (λ (x : SiteNets). atom_value v x.done) made.0 ∙ done) (record { kept = kept; word = shown }) room w h
    by false h = absurd (cc)
received_at v nets c ports chan i site room s values n (role.Send predicate d) word e made done kept shown w r = by (is_on s values predicate) r
  where
    by : (t : Bool) → received_by (step_of (cond t (Give (sent_by n s values)) Skip) (c.done i) (c.kept i) (ports.valid_word chan) room) ≡ Some w → word ≡ w
    by true h = absurd (let none = give_receives_nothing (sent_by n s values) (c.done i) (c.kept i) (ports.valid_word chan) room in cc)
    by false h = absurd (cc)

-- ---- the sites of a stage

-- all that the nodes of a stage read is shown
abbrev pub AllRead : Values → List Channel → Proc → ProcNets → (Operand → ℕ) → ℕ → Value → (ℕ → Word) → Type 0
AllRead v channels proc nets stage j s words =
    (k : ℕ) (n : Node) → slice_get proc.nodes k ≡ Some n → stage (operand.Node k) ≡ j → AllByRecursion (λ o. ShowsValue v (nets.shown j o) (value_by_words channels proc.nodes s words o)) (operands_read n)

sites_turn : (v : Values) (channels : List Channel) (proc : Proc) (nets : ProcNets) (stage : Operand → ℕ) (q : Pipeline) (c : Registers) (ports : Ports) (j : ℕ) (s : Value) (words : ℕ → Word) → AreStaged proc.nodes stage q.stage
    → HaveOperandTypes proc.state proc.nodes s (node_values (setting_by channels s words) proc.nodes) → AllRead v channels proc nets stage j s words
    → (sites : List SiteNets) (i : ℕ) → ((x : ℕ) → i ≤ x → x < i + length sites → words x ≡ v (nets.receive x).has)
    → SitesMade v proc nets stage j i sites → AreDoneBits v c i sites → AreWordsKept v proc nets c i sites → PortsShown v proc nets q ports i sites
    → AreTurns v q.proc.behavior.sites (turns_by_words channels proc.nodes s words) words c.done c.kept ports i sites
sites_turn v channels proc nets stage q c ports j s words staged typed read [] i now made done kept shown = tt
sites_turn v channels proc nets stage q c ports j s words staged typed read (site ∷ sites) i now made done kept shown =
    let valid_word = ports.valid_word (chan_at q.proc.behavior.sites i) in
    let room = ports.room (chan_at q.proc.behavior.sites i) in
    let one = made.0 in
    let k = nets.node i in
    let n = one.line in
    let port = shown.0 n one.there in
    let site_role = partner_is_a_sites v valid_word room site.partner (role_of n) port.0 in
    let said : TurnIs v site valid_word room (turns_by_words channels proc.nodes s words i) =
    subst (λ x. TurnIs v site valid_word room (turns_by_words channels proc.nodes s words x)) one.index
    (turn_is_said v channels proc (nets.shown j) s words k n site valid_word room staged.earlier one.there typed (read k n one.there one.stands) one.on port.0) in
    let is : turn_of s (node_values (setting_by channels s words) proc.nodes) n (role_of n) ≡ turns_by_words channels proc.nodes s words i =
    sym (turn_is_the_nodes channels proc.nodes s words staged.earlier k n one.there site_role) ∙ ap (turns_by_words channels proc.nodes s words) one.index in (
      done.0,
      said,
      subst (λ t. (w : Word) → received_by (step_of t (c.done i) (c.kept i) valid_word room) ≡ Some w → words i ≡ w) is
          (received_at v nets c ports (chan_at q.proc.behavior.sites i) i site room s (node_values (setting_by channels s words) proc.nodes) n (role_of n) (words i) (now i (omega arith) (omega arith))
          one.receive done.0 (kept.0 n one.there) port.1),
      sites_turn v channels proc nets stage q c ports j s words staged typed read sites (suc i) (λ x l r. now x (omega (arith, l)) (omega (arith, r))) made.1 done.1 kept.1 shown.1,
    )

-- ---- a stage

-- what its registers and wires are to be
pub record StageReady (v : Values) (channels : List Channel) (proc : Proc) (nets : ProcNets) (stage : Operand → ℕ) (carried : Operand → ℕ → Bool) (q : Pipeline) (c : Registers) (ports : Ports) (j : ℕ) (sites : List SiteNets) : Type 0 where
  pub staged : AreStaged proc.nodes stage q.stage
  pub shows : NodesShow v channels proc nets stage
  pub types : HasTypedValues channels proc
  pub carries : CarriesOn proc q.last stage carried
  pub widths : HaveChannelWidths v channels proc nets
  pub state : ShowsValue v (nets.shown 0 operand.State) c.state
  pub made : SitesMade v proc nets stage j (first q j) sites
  pub done : AreDoneBits v c (first q j) sites
  pub kept : AreWordsKept v proc nets c (first q j) sites
  pub ports_shown : PortsShown v proc nets q ports (first q j) sites
  pub count : length sites ≡ first q (suc j) - first q j

heard_at : (v : Values) (channels : List Channel) (nets : ProcNets) (stage : Operand → ℕ) (site_stage : ℕ → ℕ) (j k i : ℕ) (words : ℕ → Word) (rl : Role) → stage (operand.Node k) ≡ j → IsSiteStage stage site_stage k i rl → HasChannelWidth v channels nets i rl
    → IsHeard v channels (λ x. (nets.receive x).has) (words_now v nets site_stage j words) i rl
heard_at v channels nets stage site_stage j k i words role.Pure e is wide = tt
heard_at v channels nets stage site_stage j k i words (role.Receive predicate c) e is wide =
    let same = now_is site_stage v nets j words i (omega (arith, e, is)) in
    (sym same, subst (IsWordOf (width_at (channel_type channels c))) (sym same) wide)
heard_at v channels nets stage site_stage j k i words (role.Send predicate c) e is wide = tt

all_heard : (v : Values) (channels : List Channel) (proc : Proc) (nets : ProcNets) (stage : Operand → ℕ) (site_stage : ℕ → ℕ) (j : ℕ) (words : ℕ → Word) → AreStaged proc.nodes stage site_stage → HaveChannelWidths v channels proc nets
    → AreHeard v channels proc nets stage j (words_now v nets site_stage j words)
all_heard v channels proc nets stage site_stage j words staged widths k n e is =
    heard_at v channels nets stage site_stage j k (site_index proc.nodes k) words (role_of n) is (staged.sites k n e) (widths k n e)

-- what stands in earlier stages is shown by these words too
earlier_shown : (v : Values) (channels : List Channel) (proc : Proc) (nets : ProcNets) (stage : Operand → ℕ) (carried : Operand → ℕ → Bool) (q : Pipeline) (c : Registers) (j : ℕ) → AreStaged proc.nodes stage q.stage
    → (h : DataHeld v channels proc nets stage carried q (brought c j) j) → (o : Operand) → stage o < j → carried o j ≡ true
    → ShowsValue v (nets.shown j o) (value_by_words channels proc.nodes (brought c j).state (words_now v nets q.stage j h.words) o)
earlier_shown v channels proc nets stage carried q c j staged h o l there =
    subst (ShowsValue v (nets.shown j o))
    (values_agree channels proc.nodes (brought c j).state h.words (words_now v nets q.stage j h.words) stage q.stage j staged (λ i x. before_is q.stage v nets j h.words i x) o l)
    (h.copies o l there)

list_earlier : (v : Values) (channels : List Channel) (proc : Proc) (nets : ProcNets) (stage : Operand → ℕ) (carried : Operand → ℕ → Bool) (q : Pipeline) (c : Registers) (j : ℕ) → AreStaged proc.nodes stage q.stage
    → (h : DataHeld v channels proc nets stage carried q (brought c j) j) → (os : List Operand) → AllByRecursion (λ o. stage o < j → carried o j ≡ true) os
    → AllByRecursion (λ o. stage o < j → ShowsValue v (nets.shown j o) (value_by_words channels proc.nodes (brought c j).state (words_now v nets q.stage j h.words) o)) os
list_earlier v channels proc nets stage carried q c j staged h [] there = tt
list_earlier v channels proc nets stage carried q c j staged h (o ∷ os) there =
    ((λ l. earlier_shown v channels proc nets stage carried q c j staged h o l (there.0 l)), list_earlier v channels proc nets stage carried q c j staged h os there.1)

shown_earlier : (v : Values) (channels : List Channel) (proc : Proc) (nets : ProcNets) (stage : Operand → ℕ) (carried : Operand → ℕ → Bool) (q : Pipeline) (c : Registers) (j : ℕ) → AreStaged proc.nodes stage q.stage → CarriesOn proc q.last stage carried
    → (h : DataHeld v channels proc nets stage carried q (brought c j) j) → ShowEarlier v channels proc nets stage j (brought c j).state (words_now v nets q.stage j h.words)
shown_earlier v channels proc nets stage carried q c j staged carries h k n e is =
    list_earlier v channels proc nets stage carried q c j staged h (operands_read n)
    (subst (λ b. AllByRecursion (λ o. stage o < b → carried o b ≡ true) (operands_read n)) is (carries.read k n e))

-- in stage 0 the state registers have the state with which it began
state_in_zero : (v : Values) (nets : ProcNets) (c : Registers) (j : ℕ) → ShowsValue v (nets.shown 0 operand.State) c.state → j ≡ 0 → ShowsValue v (nets.shown j operand.State) (brought c j).state
state_in_zero v nets c zero h e = h
state_in_zero v nets c (suc j) h e = absurd (omega (arith, e))

pub record StageShows (v : Values) (channels : List Channel) (proc : Proc) (nets : ProcNets) (stage : Operand → ℕ) (q : Pipeline) (c : Registers) (ports : Ports) (j : ℕ) (sites : List SiteNets) (words : ℕ → Word) : Type 0 where
  pub got : (brought c j).got ≡ gathered (turns_by_words channels proc.nodes (brought c j).state words) words (first q j)
  pub turns : AreTurns v q.proc.behavior.sites (turns_by_words channels proc.nodes (brought c j).state words) words c.done c.kept ports (first q j) sites
  pub read : AllRead v channels proc nets stage j (brought c j).state words
  pub nodes : (k : ℕ) (n : Node) → slice_get proc.nodes k ≡ Some n → stage (operand.Node k) ≡ j → ShowsValue v (nets.shown j (operand.Node k)) (value_by_words channels proc.nodes (brought c j).state words (operand.Node k))

pub stage_shows : (v : Values) (channels : List Channel) (proc : Proc) (nets : ProcNets) (stage : Operand → ℕ) (carried : Operand → ℕ → Bool) (q : Pipeline) (c : Registers) (ports : Ports) (j : ℕ) (sites : List SiteNets) → IsPipeline q
    → activation channels proc ≡ q.proc.behavior → StageReady v channels proc nets stage carried q c ports j sites → (h : DataHeld v channels proc nets stage carried q (brought c j) j)
    → StageShows v channels proc nets stage q c ports j sites (words_now v nets q.stage j h.words)
stage_shows v channels proc nets stage carried q c ports j sites is e r h =
    let s = (brought c j).state in
    let words = words_now v nets q.stage j h.words in
    let typed = r.types s words h.typed in
    let earlier = shown_earlier v channels proc nets stage carried q c j r.staged r.carries h in
    let heard = all_heard v channels proc nets stage q.stage j h.words r.staged r.widths in
    let state = state_in_zero v nets c j r.state in
    let count = r.count in
    record {
      got = h.got ∙ gathered_words_agree channels proc s h.words words (first q j) (λ k l. before_is q.stage v nets j h.words k (earlier_stage q is k j l));
      turns =
          sites_turn v channels proc nets stage q c ports j s words r.staged typed
          (λ k n there stands. operands_are_shown v channels proc nets stage q.stage j s words r.staged r.shows typed state earlier heard k n there stands)
          sites (first q j)
          (λ x l m. now_is q.stage v nets j h.words x (let at = stage_at q is x j l (omega (arith, m, count, l)) in omega (arith, at)))
          r.made r.done r.kept r.ports_shown;
      read = λ k n there stands. operands_are_shown v channels proc nets stage q.stage j s words r.staged r.shows typed state earlier heard k n there stands;
      nodes = λ k n there stands. nodes_are_shown v channels proc nets stage q.stage j s words r.staged r.shows typed state earlier heard k n there stands;
    }

-- what is there in a stage is shown: of its own nodes, or carried on
there_is : (nodes : List Node) (k : ℕ) → k < length nodes → (n : Node) × (slice_get nodes k ≡ Some n)
there_is [] k l = absurd (omega (arith, l))
there_is (x ∷ nodes) zero l = (x, refl)
there_is (x ∷ nodes) (suc k) l = there_is nodes k (omega (arith, l))

shown_in_stage : (v : Values) (channels : List Channel) (proc : Proc) (nets : ProcNets) (stage : Operand → ℕ) (carried : Operand → ℕ → Bool) (q : Pipeline) (c : Registers) (ports : Ports) (j : ℕ) (sites : List SiteNets)
    → StageReady v channels proc nets stage carried q c ports j sites → (h : DataHeld v channels proc nets stage carried q (brought c j) j)
    → StageShows v channels proc nets stage q c ports j sites (words_now v nets q.stage j h.words)
    → (o : Operand) → IsEarlier (length proc.nodes) o → stage o ≤ j → (stage o < j → carried o j ≡ true)
    → ShowsValue v (nets.shown j o) (value_by_words channels proc.nodes (brought c j).state (words_now v nets q.stage j h.words) o)
shown_in_stage v channels proc nets stage carried q c ports j sites r h shows o real l there = go (cases_lt (stage o) j)
  where
    own : (o : Operand) → IsEarlier (length proc.nodes) o → stage o ≡ j → ShowsValue v (nets.shown j o) (value_by_words channels proc.nodes (brought c j).state (words_now v nets q.stage j h.words) o)
    own operand.State real is = state_in_zero v nets c j r.state (sym is ∙ r.staged.state)
    own (operand.Node k) real is = let t = there_is proc.nodes k real in shows.nodes k t.0 t.1 is

    go : (stage o < j) ⊎ (j ≤ stage o) → ShowsValue v (nets.shown j o) (value_by_words channels proc.nodes (brought c j).state (words_now v nets q.stage j h.words) o)
    go (inl x) = earlier_shown v channels proc nets stage carried q c j r.staged h o x (there x)
    go (inr x) = own o real (omega (arith, l, x))

-- ---- all stages

abbrev pub AllReady : Values → List Channel → Proc → ProcNets → (Operand → ℕ) → (Operand → ℕ → Bool) → Pipeline → Registers → Ports → ℕ → List StageNets → Type 0
AllReady v channels proc nets stage carried q c ports j [] = Unit {0}
AllReady v channels proc nets stage carried q c ports j (one ∷ more) = StageReady v channels proc nets stage carried q c ports j one.sites × AllReady v channels proc nets stage carried q c ports (suc j) more

pub ready_from : (v : Values) (run : Atom) (channels : List Channel) (proc : Proc) (nets : ProcNets) (stage : Operand → ℕ) (carried : Operand → ℕ → Bool) (q : Pipeline) (all : List StageNets) (c : Registers) (ports : Ports)
    → PipelineMade v run channels proc nets stage carried q all → ShowsValue v (nets.shown 0 operand.State) c.state → (stages : List StageNets) (j : ℕ)
    → AllSitesMade v proc nets stage q j stages → AreAllDoneBits v q c j stages → AreAllWordsKept v proc nets q c j stages → AllPortsShown v proc nets q ports j stages
    → AllReady v channels proc nets stage carried q c ports j stages
ready_from v run channels proc nets stage carried q all c ports made state [] j sites done kept shown = tt
ready_from v run channels proc nets stage carried q all c ports made state (one ∷ more) j sites done kept shown = (
  record {
    staged = made.staged;
    shows = made.shows;
    types = made.types;
    carries = made.carries;
    widths = made.widths;
    state = state;
    made = sites.0;
    done = done.0;
    kept = kept.0;
    ports_shown = shown.0;
    count = sites.1;
  },
  ready_from v run channels proc nets stage carried q all c ports made state more (suc j) sites.2 done.1 kept.1 shown.1,
)

abbrev pub AllData : Values → List Channel → Proc → ProcNets → (Operand → ℕ) → (Operand → ℕ → Bool) → Pipeline → Registers → Type 0
AllData v channels proc nets stage carried q c = (j : ℕ) → j < q.stages → c.full j ≡ true → DataHeld v channels proc nets stage carried q (brought c j) j

held_from : (v : Values) (channels : List Channel) (proc : Proc) (nets : ProcNets) (stage : Operand → ℕ) (carried : Operand → ℕ → Bool) (q : Pipeline) (c : Registers) (ports : Ports) → IsPipeline q → activation channels proc ≡ q.proc.behavior
    → AllData v channels proc nets stage carried q c → (stages : List StageNets) (j : ℕ) → j + length stages ≡ q.stages → AllReady v channels proc nets stage carried q c ports j stages → AreFullBits v c j stages → AreHeld v q c ports j stages
held_from v channels proc nets stage carried q c ports is e entries [] j n ready full = tt
held_from v channels proc nets stage carried q c ports is e entries (one ∷ more) j n ready full = (
  record {
    full = full.0;
    count = ready.0.count;
    read =
        λ f.
        let h = entries j (omega (arith, n)) f in
        let shows = stage_shows v channels proc nets stage carried q c ports j one.sites is e ready.0 h in
        stages_read_their_words v q channels proc e c ports j (words_now v nets q.stage j h.words) one.sites shows.got shows.turns;
  },
  held_from v channels proc nets stage carried q c ports is e entries more (suc j) (omega (arith, n)) ready.1 full.1,
)

-- a stage of them
abbrev pub SomeSites : Values → List Channel → Proc → ProcNets → (Operand → ℕ) → (Operand → ℕ → Bool) → Pipeline → Registers → Ports → ℕ → Type 0
SomeSites v channels proc nets stage carried q c ports j = (sites : List SiteNets) × StageReady v channels proc nets stage carried q c ports j sites

pub ready_at : (v : Values) (channels : List Channel) (proc : Proc) (nets : ProcNets) (stage : Operand → ℕ) (carried : Operand → ℕ → Bool) (q : Pipeline) (c : Registers) (ports : Ports) (stages : List StageNets) (j k : ℕ) → k < length stages
    → AllReady v channels proc nets stage carried q c ports j stages → SomeSites v channels proc nets stage carried q c ports (k + j)
ready_at v channels proc nets stage carried q c ports [] j k l ready = absurd (omega (arith, l))
ready_at v channels proc nets stage carried q c ports (one ∷ more) j zero l ready =
    let e : zero + j ≡ j = omega arith in subst (SomeSites v channels proc nets stage carried q c ports) (sym e) (one.sites, ready.0)
ready_at v channels proc nets stage carried q c ports (one ∷ more) j (suc k) l ready =
    let e : k + suc j ≡ suc k + j = omega arith in
    subst (SomeSites v channels proc nets stage carried q c ports) e (ready_at v channels proc nets stage carried q c ports more (suc j) k (omega (arith, l)) ready.1)

-- ---- where a stage moves

moved_is : (full : ℕ → Bool) (walks : ℕ → Walk) (n j : ℕ) → moves_through circuit full walks n j ≡ true → (full j ≡ true) × ((walks j).stall ≡ None)
moved_is full walks zero j h = both (full j) (walks j).stall h
  where
    both : (t : Bool) (o : Option Event) → (t && not (is_some o)) ≡ true → (t ≡ true) × (o ≡ None)
    both true None e = (refl, refl)
    both true (Some x) e = absurd (cc)
    both false o e = absurd (cc)
moved_is full walks (suc n) j h = both (full j) (walks j).stall _ h
  where
    both : (t : Bool) (o : Option Event) (u : Bool) → ((t && not (is_some o)) && u) ≡ true → (t ≡ true) × (o ≡ None)
    both true None u e = (refl, refl)
    both true (Some x) u e = absurd (cc)
    both false o u e = absurd (cc)

-- its activation has gathered the words of the stage
gathered_there : (v : Values) (channels : List Channel) (proc : Proc) (nets : ProcNets) (stage : Operand → ℕ) (q : Pipeline) (c : Registers) (ports : Ports) (j : ℕ) (sites : List SiteNets) (words : ℕ → Word) → IsPipeline q → activation channels proc ≡ q.proc.behavior
    → length sites ≡ first q (suc j) - first q j → StageShows v channels proc nets stage q c ports j sites words → moves_by circuit q c ports j ≡ true
    → (stage_by circuit q c ports j).got ≡ gathered (turns_by_words channels proc.nodes (brought c j).state words) words (first q (suc j))
gathered_there v channels proc nets stage q c ports j sites words is e count shows moves =
    let moved = moved_is c.full (stage_by circuit q c ports) (q.stages - suc j) j moves in
    let same : stage_by circuit q c ports j ≡ walk_by circuit q.proc.behavior c.done c.kept ports (brought c j).state (brought c j).got (first q j) (length sites) =
    ap (λ t. if_full t (first q j) (walk_by circuit q.proc.behavior c.done c.kept ports (brought c j).state (brought c j).got (first q j) (first q (suc j) - first q j))) moved.0
    ∙ ap (λ n. walk_by circuit q.proc.behavior c.done c.kept ports (brought c j).state (brought c j).got (first q j) n) (sym count) in
    let none = sym (ap (λ (w : Walk). w.stall) same) ∙ moved.1 in
    let grows = first_grows q is j (suc j) (omega arith) in
    let all : first q j + length sites ≡ first q (suc j) = omega (arith, grows, count) in
    ap (λ (w : Walk). w.got) same
    ∙ stages_gather_their_words v q channels proc e c ports j words sites shows.got shows.turns none
    ∙ ap (gathered (turns_by_words channels proc.nodes (brought c j).state words) words) all

-- ---- the next cycle

record Cycle (v next : Values) (run : Atom) (channels : List Channel) (proc : Proc) (nets : ProcNets) (stage : Operand → ℕ) (carried : Operand → ℕ → Bool) (q : Pipeline) (stages : List StageNets) (c : Registers) (ports : Ports) : Type 0 where
  made : PipelineMade v run channels proc nets stage carried q stages
  held : PipelineHeld v channels proc nets stage carried q stages c
  ready : AllReady v channels proc nets stage carried q c ports 0 stages
  shown : ShowStages v q c ports 0 stages
  goes_on : RegistersGoOn v next proc nets stage carried q stages

-- which stages move, by their signals
moves_shown : (v : Values) (q : Pipeline) (c : Registers) (ports : Ports) (stages : List StageNets) → length stages ≡ q.stages → ShowStages v q c ports 0 stages → (j : ℕ) → j < q.stages
    → atom_value v (move_at stages j) ≡ bit (moves_by circuit q c ports j)
moves_shown v q c ports stages n shown j l =
    let zero_on : j + 0 ≡ j = omega arith in
    move_shown v q c ports stages 0 j (omega (arith, l, n)) shown ∙ ap (λ i. bit (moves_by circuit q c ports i)) zero_on

-- a stage that moves: what its activation takes with it
record MovedOn (v : Values) (channels : List Channel) (proc : Proc) (nets : ProcNets) (stage : Operand → ℕ) (carried : Operand → ℕ → Bool) (q : Pipeline) (c : Registers) (ports : Ports) (j : ℕ) : Type 0 where
  words : ℕ → Word
  typed : IsOfType (ty_of proc.state) (brought c j).state
  got : (stage_by circuit q c ports j).got ≡ gathered (turns_by_words channels proc.nodes (brought c j).state words) words (first q (suc j))
  shown : (o : Operand) → IsEarlier (length proc.nodes) o → stage o ≤ j → (stage o < j → carried o j ≡ true) → ShowsValue v (nets.shown j o) (value_by_words channels proc.nodes (brought c j).state words o)

moved_shows : (v next : Values) (run : Atom) (channels : List Channel) (proc : Proc) (nets : ProcNets) (stage : Operand → ℕ) (carried : Operand → ℕ → Bool) (q : Pipeline) (stages : List StageNets) (c : Registers) (ports : Ports)
    → Cycle v next run channels proc nets stage carried q stages c ports → (j : ℕ) → j < q.stages → moves_by circuit q c ports j ≡ true → MovedOn v channels proc nets stage carried q c ports j
moved_shows v next run channels proc nets stage carried q stages c ports y j l moves =
    let full = (moved_is c.full (stage_by circuit q c ports) (q.stages - suc j) j moves).0 in
    let h = y.held.entries j l full in
    let n = y.made.control.count in
    let zero_on : j + 0 ≡ j = omega arith in
    let r = subst (SomeSites v channels proc nets stage carried q c ports) zero_on (ready_at v channels proc nets stage carried q c ports stages 0 j (omega (arith, l, n)) y.ready) in
    let shows = stage_shows v channels proc nets stage carried q c ports j r.0 y.made.legal y.made.behaves r.1 h in
    record {
      words = words_now v nets q.stage j h.words;
      typed = h.typed;
      got = gathered_there v channels proc nets stage q c ports j r.0 (words_now v nets q.stage j h.words) y.made.legal y.made.behaves r.1.count shows moves;
      shown = λ o real early there. shown_in_stage v channels proc nets stage carried q c ports j r.0 r.1 h shows o real early there;
    }

carried_next : (v next : Values) (run : Atom) (channels : List Channel) (proc : Proc) (nets : ProcNets) (stage : Operand → ℕ) (carried : Operand → ℕ → Bool) (q : Pipeline) (stages : List StageNets) (c : Registers) (ports : Ports)
    → Cycle v next run channels proc nets stage carried q stages c ports → (j : ℕ) → suc j < q.stages → (t : Bool) → moves_by circuit q c ports j ≡ t
    → (o : Operand) → stage o < suc j → carried o (suc j) ≡ true → map (atom_value next) (nets.shown (suc j) o) ≡ cond t (map (atom_value v) (nets.shown j o)) (map (atom_value v) (nets.shown (suc j) o))
carried_next v next run channels proc nets stage carried q stages c ports y j l t moves o early there =
    y.goes_on.copies o j l (omega (arith, early)) there t (moves_shown v q c ports stages y.made.control.count y.shown j (omega (arith, l)) ∙ ap bit moves)

data_moved : (v next : Values) (run : Atom) (channels : List Channel) (proc : Proc) (nets : ProcNets) (stage : Operand → ℕ) (carried : Operand → ℕ → Bool) (q : Pipeline) (stages : List StageNets) (c : Registers) (ports : Ports)
    → Cycle v next run channels proc nets stage carried q stages c ports → (j : ℕ) → suc j < q.stages → moves_by circuit q c ports j ≡ true
    → DataHeld next channels proc nets stage carried q (record { state = (brought c j).state; got = (stage_by circuit q c ports j).got }) (suc j)
data_moved v next run channels proc nets stage carried q stages c ports y j l moves =
    let m = moved_shows v next run channels proc nets stage carried q stages c ports y j (omega (arith, l)) moves in
    record {
      words = m.words;
      typed = m.typed;
      got = m.got;
      copies =
          λ o early there.
          carried_next v next run channels proc nets stage carried q stages c ports y j l true moves o early there
          ∙ m.shown o (y.made.carries.real o (suc j) there) (omega (arith, early)) (λ before. y.made.carries.passed_on o j before there);
    }

data_kept : (v next : Values) (run : Atom) (channels : List Channel) (proc : Proc) (nets : ProcNets) (stage : Operand → ℕ) (carried : Operand → ℕ → Bool) (q : Pipeline) (stages : List StageNets) (c : Registers) (ports : Ports)
    → Cycle v next run channels proc nets stage carried q stages c ports → (j : ℕ) → suc j < q.stages → moves_by circuit q c ports j ≡ false → c.full (suc j) ≡ true
    → DataHeld next channels proc nets stage carried q (c.stage_regs (suc j)) (suc j)
data_kept v next run channels proc nets stage carried q stages c ports y j l moves full =
    let h = y.held.entries (suc j) l full in
    record {
      words = h.words;
      typed = h.typed;
      got = h.got;
      copies = λ o early there. carried_next v next run channels proc nets stage carried q stages c ports y j l false moves o early there ∙ h.copies o early there;
    }

-- the state
state_next : (v next : Values) (run : Atom) (channels : List Channel) (proc : Proc) (nets : ProcNets) (stage : Operand → ℕ) (carried : Operand → ℕ → Bool) (q : Pipeline) (stages : List StageNets) (c : Registers) (ports : Ports)
    → Cycle v next run channels proc nets stage carried q stages c ports → ShowsValue next (nets.shown 0 operand.State) (cycle_by circuit q c ports).state × IsOfType (ty_of proc.state) (cycle_by circuit q c ports).state
state_next v next run channels proc nets stage carried q stages c ports y = by (moves_by circuit q c ports q.last) refl
  where
    signalled : (t : Bool) → moves_by circuit q c ports q.last ≡ t → map (atom_value next) (nets.shown 0 operand.State) ≡ cond t (map (atom_value v) (nets.shown q.last proc.next)) (map (atom_value v) (nets.shown 0 operand.State))
    signalled t moves = y.goes_on.state t (moves_shown v q c ports stages y.made.control.count y.shown q.last y.made.legal.last ∙ ap bit moves)

    by : (t : Bool) → moves_by circuit q c ports q.last ≡ t
        → ShowsValue next (nets.shown 0 operand.State) (cond t (q.proc.behavior.next_state (brought c q.last).state (stage_by circuit q c ports q.last).got) c.state)
        × IsOfType (ty_of proc.state) (cond t (q.proc.behavior.next_state (brought c q.last).state (stage_by circuit q c ports q.last).got) c.state)
    by true moves =
        let m = moved_shows v next run channels proc nets stage carried q stages c ports y q.last y.made.legal.last moves in
        let s = (brought c q.last).state in
        let is : value_by_words channels proc.nodes s m.words proc.next ≡ q.proc.behavior.next_state s (stage_by circuit q c ports q.last).got =
        sym (ap (q.proc.behavior.next_state s) m.got ∙ next_state_is channels proc q y.made.behaves y.made.legal s m.words) in (
          subst (ShowsValue next (nets.shown 0 operand.State)) is (signalled true moves ∙ m.shown proc.next y.made.next_there y.made.next_early y.made.carries.next),
          subst (IsOfType (ty_of proc.state)) is (subst (λ t. IsOfType (ty_of t) (value_by_words channels proc.nodes s m.words proc.next)) y.made.next_typed (y.made.types s m.words m.typed proc.next)),
        )
    by false moves = (signalled false moves ∙ y.held.state, y.held.typed)

-- the data of all stages
data_next : (v next : Values) (run : Atom) (channels : List Channel) (proc : Proc) (nets : ProcNets) (stage : Operand → ℕ) (carried : Operand → ℕ → Bool) (q : Pipeline) (stages : List StageNets) (c : Registers) (ports : Ports)
    → Cycle v next run channels proc nets stage carried q stages c ports → AllData next channels proc nets stage carried q (cycle_by circuit q c ports)
data_next v next run channels proc nets stage carried q stages c ports y zero l full =
    let s = (state_next v next run channels proc nets stage carried q stages c ports y).1 in
    record {
      words = λ i. no_word;
      typed = s;
      got = ap (gathered (turns_by_words channels proc.nodes (cycle_by circuit q c ports).state (λ i. no_word)) (λ i. no_word)) (sym (first_none q));
      copies = λ o early there. absurd (omega (arith, early));
    }
data_next v next run channels proc nets stage carried q stages c ports y (suc j) l full = by (moves_by circuit q c ports j) refl full
  where
    second : (x z : Bool) → (x && z) ≡ true → x ≡ true
    second true z h = refl
    second false z h = absurd (cc)

    by : (t : Bool) → moves_by circuit q c ports j ≡ t → (t || (c.full (suc j) && not (moves_by circuit q c ports (suc j)))) ≡ true
        → DataHeld next channels proc nets stage carried q (cond t (record { state = (brought c j).state; got = (stage_by circuit q c ports j).got }) (c.stage_regs (suc j))) (suc j)
    by true moves f = data_moved v next run channels proc nets stage carried q stages c ports y j l moves
    by false moves f = data_kept v next run channels proc nets stage carried q stages c ports y j l moves (second (c.full (suc j)) (not (moves_by circuit q c ports (suc j))) f)

-- ---- bits and kept words

full_next : (v next : Values) (proc : Proc) (nets : ProcNets) (q : Pipeline) (c' : Registers) (stages : List StageNets) (j : ℕ) → StagesGoOn v next proc nets q j stages → ShowNext v q c' j stages → AreFullBits next c' j stages
full_next v next proc nets q c' [] j go shown = tt
full_next v next proc nets q c' (one ∷ more) j go shown = (go.0 ∙ shown.0, full_next v next proc nets q c' more (suc j) go.2 shown.2)

done_sites : (v next : Values) (proc : Proc) (nets : ProcNets) (c' : Registers) (sites : List SiteNets) (i : ℕ) → SitesGoOn v next proc nets i sites → ShowDone v c' i sites → AreDoneBits next c' i sites
done_sites v next proc nets c' [] i go shown = tt
done_sites v next proc nets c' (site ∷ sites) i go shown = (go.0 ∙ shown.0, done_sites v next proc nets c' sites (suc i) go.2 shown.1)

done_next : (v next : Values) (proc : Proc) (nets : ProcNets) (q : Pipeline) (c' : Registers) (stages : List StageNets) (j : ℕ) → StagesGoOn v next proc nets q j stages → ShowNext v q c' j stages → AreAllDoneBits next q c' j stages
done_next v next proc nets q c' [] j go shown = tt
done_next v next proc nets q c' (one ∷ more) j go shown = (done_sites v next proc nets c' one.sites (first q j) go.1 shown.1, done_next v next proc nets q c' more (suc j) go.2 shown.2)

one_kept : (v next : Values) (nets : ProcNets) (q : Pipeline) → IsPipeline q → (c : Registers) (ports : Ports) (j i : ℕ) (site : SiteNets) (rl : Role) → first q j ≤ i → i < first q (suc j)
    → ReceiveMade v nets site i rl → IsWordKept v nets c i rl → WordShown v nets ports (chan_at q.proc.behavior.sites i) i rl → WordGoesOn v next nets i rl
    → ((predicate : Option Operand) (d : ℕ) → rl ≡ role.Receive predicate d → slice_get q.proc.behavior.sites i ≡ Some (record { chan = d; sends = false }))
    → v (go_net site) ≡ bit (goes_at i (stage_by circuit q c ports j)) → IsWordKept next nets (cycle_by circuit q c ports) i rl
one_kept v next nets q is c ports j i site role.Pure l r made kept shown goes there go = tt
one_kept v next nets q is c ports j i site (role.Receive predicate d) l r made kept shown goes there go =
    λ done. goes
    ∙ the_word_is_kept v q is c ports j i (record { chan = d; sends = false }) (nets.receive i) l r (there predicate d refl) refl made.1 (record { kept = kept; word = shown })
    (ap (λ x. v (go_net x)) made.0 ∙ go) done
one_kept v next nets q is c ports j i site (role.Send predicate d) l r made kept shown goes there go = tt

kept_sites : (v next : Values) (channels : List Channel) (proc : Proc) (nets : ProcNets) (stage : Operand → ℕ) (q : Pipeline) → IsPipeline q → activation channels proc ≡ q.proc.behavior → (c : Registers) (ports : Ports) (j : ℕ) (sites : List SiteNets) (i : ℕ)
    → first q j ≤ i → i + length sites ≤ first q (suc j)
    → SitesMade v proc nets stage j i sites → AreWordsKept v proc nets c i sites → PortsShown v proc nets q ports i sites → ShowWalk v i sites (stage_by circuit q c ports j) → SitesGoOn v next proc nets i sites
    → AreWordsKept next proc nets (cycle_by circuit q c ports) i sites
kept_sites v next channels proc nets stage q is e c ports j [] i l r made kept shown walk go = tt
kept_sites v next channels proc nets stage q is e c ports j (site ∷ sites) i l r made kept shown walk go = (
  λ n there.
      let same : made.0.line ≡ n = let a = made.0.there in cc in
      one_kept v next nets q is c ports j i site (role_of n) l (omega (arith, r)) (subst (λ x. ReceiveMade v nets site i (role_of x)) same made.0.receive) (kept.0 n there) (shown.0 n there).1 (go.1 n there)
      (λ predicate d is_receive. ap (λ b. slice_get b.sites i) (sym e) ∙ ap (λ x. slice_get (activation channels proc).sites x) (sym made.0.index) ∙ receive_site channels proc (nets.node i) n predicate d there is_receive) walk.1,
  kept_sites v next channels proc nets stage q is e c ports j sites (suc i) (omega (arith, l)) (omega (arith, r)) made.1 kept.1 shown.1 walk.2 go.2,
)

kept_next : (v next : Values) (channels : List Channel) (proc : Proc) (nets : ProcNets) (stage : Operand → ℕ) (carried : Operand → ℕ → Bool) (q : Pipeline) → IsPipeline q → activation channels proc ≡ q.proc.behavior → (c : Registers) (ports : Ports) (stages : List StageNets) (j : ℕ)
    → AllReady v channels proc nets stage carried q c ports j stages → ShowStages v q c ports j stages → StagesGoOn v next proc nets q j stages
    → AreAllWordsKept next proc nets q (cycle_by circuit q c ports) j stages
kept_next v next channels proc nets stage carried q is e c ports [] j ready shown go = tt
kept_next v next channels proc nets stage carried q is e c ports (one ∷ more) j ready shown go =
    let grows = first_grows q is j (suc j) (omega arith) in
    let count = ready.0.count in (
      kept_sites v next channels proc nets stage q is e c ports j one.sites (first q j) (omega arith) (omega (arith, grows, count)) ready.0.made ready.0.kept ready.0.ports_shown shown.0 go.1,
      kept_next v next channels proc nets stage carried q is e c ports more (suc j) ready.1 shown.2 go.2,
    )

-- ---- all

-- the signals that control reads are right what the machine does
pub registers_are_read : (v : Values) (run : Atom) (channels : List Channel) (proc : Proc) (nets : ProcNets) (stage : Operand → ℕ) (carried : Operand → ℕ → Bool) (q : Pipeline) (stages : List StageNets) (c : Registers) (ports : Ports)
    → PipelineMade v run channels proc nets stage carried q stages → PipelineHeld v channels proc nets stage carried q stages c → AllPortsShown v proc nets q ports 0 stages → AreHeld v q c ports 0 stages
registers_are_read v run channels proc nets stage carried q stages c ports made held shown =
    held_from v channels proc nets stage carried q c ports made.legal made.behaves held.entries stages 0 (let n = made.control.count in omega (arith, n))
    (ready_from v run channels proc nets stage carried q stages c ports made held.state stages 0 made.sites held.done held.kept shown) held.full

-- and hold what the machine holds next
pub registers_hold_on : (v next : Values) (run : Atom) (channels : List Channel) (proc : Proc) (nets : ProcNets) (stage : Operand → ℕ) (carried : Operand → ℕ → Bool) (q : Pipeline) (stages : List StageNets) (c : Registers) (ports : Ports)
    → PipelineMade v run channels proc nets stage carried q stages → atom_value v run ≡ bit true → PipelineHeld v channels proc nets stage carried q stages c → AllPortsShown v proc nets q ports 0 stages
    → RegistersGoOn v next proc nets stage carried q stages → PipelineHeld next channels proc nets stage carried q stages (cycle_by circuit q c ports)
registers_hold_on v next run channels proc nets stage carried q stages c ports made r held shown go =
    let ready = ready_from v run channels proc nets stage carried q stages c ports made held.state stages 0 made.sites held.done held.kept shown in
    let regs = registers_are_read v run channels proc nets stage carried q stages c ports made held shown in
    let now = control_shows_the_cycle v run q stages c ports made.control r regs in
    let after = control_shows_the_next_bits v run q made.legal stages c ports made.control r regs held.done in
    let y : Cycle v next run channels proc nets stage carried q stages c ports = record { made = made; held = held; ready = ready; shown = now; goes_on = go } in
    let state = state_next v next run channels proc nets stage carried q stages c ports y in
    record {
      full = full_next v next proc nets q (cycle_by circuit q c ports) stages 0 go.bits after;
      done = done_next v next proc nets q (cycle_by circuit q c ports) stages 0 go.bits after;
      kept = kept_next v next channels proc nets stage carried q made.legal made.behaves c ports stages 0 ready now go.bits;
      state = state.0;
      typed = state.1;
      entries = data_next v next run channels proc nets stage carried q stages c ports y;
    }

pub registers_show_the_cycle : (v : Values) (run : Atom) (channels : List Channel) (proc : Proc) (nets : ProcNets) (stage : Operand → ℕ) (carried : Operand → ℕ → Bool) (q : Pipeline) (stages : List StageNets) (c : Registers) (ports : Ports)
    → PipelineMade v run channels proc nets stage carried q stages → PipelineHeld v channels proc nets stage carried q stages c → AllPortsShown v proc nets q ports 0 stages → atom_value v run ≡ bit true
    → ShowStages v q c ports 0 stages
registers_show_the_cycle v run channels proc nets stage carried q stages c ports made held shown r =
    control_shows_the_cycle v run q stages c ports made.control r (registers_are_read v run channels proc nets stage carried q stages c ports made held shown)
