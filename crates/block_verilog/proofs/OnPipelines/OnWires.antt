-- The wires of a proc, and of what its registers hold next, one part behind another.
use Rattle.std.proofs.Common.{◌≡◌, ℕ, zero, suc, ◌+◌, ◌-◌, ◌*◌, List, ◌++◌, length, map, drop, take, Some, Result, Ok, Err, refl, ap, ◌∙◌, subst, arith}
use Rattle.std.specs.Prelude.{OnOk, slice_get}
use Rattle.std.proofs.lemmas.List.{append_assoc}
use Rattle.ir_tree.specs.declared.node.Node.{Node}
use Rattle.ir_tree.specs.declared.package.Channel.{Channel}
use Rattle.ir_tree.specs.declared.package.Proc.{Proc}
use Rattle.ir_tree.specs.Types.{ty_of}
use Rattle.vlog_tree.specs.declared.expression.Atom.{Atom}
use Rattle.block_build.specs.declared.netlist.fifos.ChannelView.{ChannelView}
use Rattle.block_build.specs.declared.netlist.places.Place.{Place}
use Rattle.block_build.specs.declared.netlist.sites.Handshake.{Handshake}
use Rattle.block_build.specs.declared.netlist.sites.Site.{Site}
use Rattle.block_build.specs.declared.netlist.stages.StageWires.{StageWires}
use Rattle.block_build.specs.declared.netlist.wires.WireList.{WireList}
use Rattle.block_build.specs.Netlist.Added.{next_number, AddsWires, Puts}
use Rattle.block_build.specs.Netlist.Choices.{choice_wires}
use Rattle.block_build.specs.Netlist.Ends.{all_sites}
use Rattle.block_build.specs.Netlist.Leaves.{leaf_widths, nets}
use Rattle.block_build.specs.Netlist.Nexts.{move_of, sites_next_wires, sites_next_nets, done_at, copies_wires, nodes_copies}
use Rattle.block_build.specs.Netlist.Places.{shown_at}
use Rattle.block_build.specs.Netlist.Stages.{StageNets, AreStages}
use Rattle.block_build.specs.Netlist.Staging.{Later, full_bit, leading_sites, stage_nets, stages_from, shaken_at, move_nets, KeepFrom, FullBitsGoOn, kept_net}
use Rattle.block_build.specs.Netlist.Wires.{Wire}
use Rattle.block_verilog.specs.declared.signals.procs.NodeWires.{NodeWires}
use Rattle.block_verilog.specs.Signals.Nodes.{NodesMade}
use Rattle.block_verilog.specs.declared.pipelines.layout.ProcLayout.{ProcLayout}
use Rattle.block_verilog.specs.declared.pipelines.pipelines.ProcWires.{ProcWires}
use Rattle.block_verilog.specs.Pipelines.Pipelines.{ScheduledProc, StageNumbers, HasStages, ProcDriven, NextNumbers, state_wires, state_copies_wires, node_copies_wires, stages_of, next_nets, NextsDriven}

-- ---- nodes and stages

-- what is promised of stages that are put
abbrev pub StagesPut : WireList → WireList → Atom → ℕ → ℕ → List Site → StageWires → Type 0
StagesPut b c run full depth sites stages =
    (moving : ℕ → ℕ) × ((next done : ℕ → ℕ) →
    let them = stages_from full (record { moving = moving; next = next; done = done }) (next_number b) 0 0 depth sites in
    (stages.handshakes.items ≡ map shaken_at (all_sites them)) × (stages.moves.items ≡ move_nets them) × AddsWires b c (λ v. AreStages v run them))

-- that nodes and stages are put
abbrev pub ProcPut : WireList → WireList → Atom → ScheduledProc → ProcLayout → List ChannelView → ProcWires → Type 0
ProcPut a c run s layout views made = (at : StageNumbers) × HasStages s layout made at × AddsWires a c (λ v. ProcDriven v run s layout views made at)

put_with : (a b c : WireList) (run : Atom) (s : ScheduledProc) (layout : ProcLayout) (views : List ChannelView) (nodes : NodeWires) (stages : StageWires)
    → AddsWires a b (λ v. NodesMade v s.channels s.proc s.stages layout.registers views nodes) → StagesPut b c run layout.registers.full s.depth nodes.sites stages
    → ProcPut a c run s layout views (record { nodes = nodes; stages = stages })
put_with a b c run s layout views nodes stages p q = (
  record { first = next_number b; moving = q.0 },
  record { handshakes = λ next done. (q.1 next done).0; moves = λ next done. (q.1 next done).1 },
  λ v h.
      let some = (q.1 (λ j. 0) (λ j. 0)).2 v h in
      let nodes_made = p v some.0 in
      (nodes_made.0, record { nodes = nodes_made.1; stages = λ next done. ((q.1 next done).2 v h).1 }),
)

pub proc_put : (a b c : WireList) (run : Atom) (s : ScheduledProc) (layout : ProcLayout) (views : List ChannelView) (nodes : NodeWires) (stages : StageWires) (sites : List Site) → sites ≡ nodes.sites
    → AddsWires a b (λ v. NodesMade v s.channels s.proc s.stages layout.registers views nodes) → StagesPut b c run layout.registers.full s.depth sites stages
    → ProcPut a c run s layout views (record { nodes = nodes; stages = stages })
proc_put a b c run s layout views nodes stages sites same p q = put_with a b c run s layout views nodes stages p (subst (λ xs. StagesPut b c run layout.registers.full s.depth xs stages) same q)

-- ---- the state

pub record ChoicePut (a b : WireList) (old new : List Atom) (wires : List Wire) : Type 0 where
  pub nexts : new ≡ old ++ nets (next_number a) (length wires)
  pub puts : Puts a b wires

pub state_put : {A E : Type 0} (o : Result A E) (a b : WireList) (old new : List Atom) (comes : Atom) (ws all : List ℕ) (source held shown own : List Atom) → ws ≡ all → source ≡ shown → held ≡ own
    → OnOk o (new ≡ old ++ nets (next_number a) (length (choice_wires comes ws source held))) → OnOk o (Puts a b (choice_wires comes ws source held)) → OnOk o (ChoicePut a b old new (choice_wires comes all shown own))
state_put (Ok u) a b old new comes ws all source held shown own w s h p q =
    subst (λ x. ChoicePut a b old new (choice_wires comes all shown x)) h
    (subst (λ x. ChoicePut a b old new (choice_wires comes all x held)) s
    (subst (λ x. ChoicePut a b old new (choice_wires comes x source held)) w (record { nexts = p; puts = q })))
state_put (Err e) a b old new comes ws all source held shown own w s h p q = tt

pub nexts_of : {A E : Type 0} (o : Result A E) (a b : WireList) (old new : List Atom) (wires : List Wire) → OnOk o (ChoicePut a b old new wires) → OnOk o (new ≡ old ++ nets (next_number a) (length wires))
nexts_of (Ok u) a b old new wires p = p.nexts
nexts_of (Err e) a b old new wires p = tt

pub puts_of : {A E : Type 0} (o : Result A E) (a b : WireList) (old new : List Atom) (wires : List Wire) → OnOk o (ChoicePut a b old new wires) → OnOk o (Puts a b wires)
puts_of (Ok u) a b old new wires p = p.puts
puts_of (Err e) a b old new wires p = tt

pub copies_put : {A E : Type 0} (o : Result A E) (a b : WireList) (old new : List Atom) (ws all : List ℕ) (place : Place) (moves : List Atom) (j n : ℕ) → ws ≡ all
    → OnOk o (new ≡ old ++ nets (next_number a) (length (copies_wires ws place moves j n))) → OnOk o (Puts a b (copies_wires ws place moves j n)) → OnOk o (ChoicePut a b old new (copies_wires all place moves j n))
copies_put (Ok u) a b old new ws all place moves j n w p q = subst (λ x. ChoicePut a b old new (copies_wires x place moves j n)) w (record { nexts = p; puts = q })
copies_put (Err e) a b old new ws all place moves j n w p q = tt

-- ---- what all registers hold next

-- the stages that a list begins with, and where their bits go on
record StageBits (full stage : ℕ) (later : Later) (one : StageNets) : Type 0 where
  bit : one.full ≡ full_bit full stage
  next : one.next ≡ later.next stage

stage_bits : (full : ℕ) (later : Later) (k i stage n : ℕ) (sites : List Site) (j : ℕ) (one : StageNets) → slice_get (stages_from full later k i stage n sites) j ≡ Some one → StageBits full (stage + j) later one
stage_bits full later k i stage zero sites j one e = absurd (cc)
stage_bits full later k i stage (suc n) sites zero one e =
    let same : stage_nets full later k i stage (take (leading_sites stage sites) sites) ≡ one = cc in
    let at : stage ≡ stage + 0 = omega arith in
    subst (λ x. StageBits full (stage + 0) later x) same (subst (λ m. StageBits full m later (stage_nets full later k i stage (take (leading_sites stage sites) sites))) at (record { bit = refl; next = refl }))
stage_bits full later k i stage (suc n) sites (suc j) one e =
    let at : suc stage + j ≡ stage + suc j = omega arith in
    subst (λ m. StageBits full m later one) at
    (stage_bits full later (suc k + 7 * leading_sites stage sites) (i + leading_sites stage sites) (suc stage) n (drop (leading_sites stage sites) sites) j one e)

pub stages_keep : (s : ScheduledProc) (layout : ProcLayout) (made : ProcWires) (at : StageNumbers) (nums : NextNumbers) → KeepFrom layout.registers.full nums.full (stages_of s layout made at nums)
stages_keep s layout made at nums =
    let later : Later = record { moving = at.moving; next = λ j. nums.full + 3 * j; done = done_at nums.sites made.nodes.sites } in
    record {
      full_are = λ j one e. let b = stage_bits layout.registers.full later at.first 0 0 s.depth made.nodes.sites j one e in let none : 0 + j ≡ j = omega arith in b.bit ∙ ap (full_bit layout.registers.full) none;
      next = λ j one e. let b = stage_bits layout.registers.full later at.first 0 0 s.depth made.nodes.sites j one e in let none : 0 + j ≡ j = omega arith in b.next ∙ ap (λ m. nums.full + 3 * m) none;
    }

-- what is promised of the full bits
record FullPut (a b : WireList) (full : ℕ) (comes : Atom) (moves old new : List Atom) : Type 0 where
  nexts : (stages : List StageNets) → moves ≡ move_nets stages → KeepFrom full (next_number a) stages → new ≡ old ++ map kept_net stages
  wired : (stages : List StageNets) → moves ≡ move_nets stages → KeepFrom full (next_number a) stages → AddsWires a b (λ v. FullBitsGoOn v comes stages)

-- that all are put, with the numbers of their wires
abbrev pub NextsPut : WireList → WireList → Proc → List ℕ → ℕ → ℕ → ProcLayout → ProcWires → List Atom → List Atom → Type 0
NextsPut a f proc stages depth last layout made old new =
    (nums : NextNumbers) × ((channels : List Channel) (at : StageNumbers) → let s : ScheduledProc = record { channels = channels; proc = proc; stages = stages; depth = depth; last = last } in
    HasStages s layout made at → (new ≡ old ++ next_nets s layout made at nums) × AddsWires a f (λ v. NextsDriven v s layout made at nums))

lists_behind : (old a b c d e : List Atom) (one two three four five : List Atom) → one ≡ old ++ a → two ≡ one ++ b → three ≡ two ++ c → four ≡ three ++ d → five ≡ four ++ e → five ≡ old ++ (a ++ b ++ c ++ d ++ e)
lists_behind old a b c d e one two three four five p q r s t =
    t ∙ ap (λ x. x ++ e) (s ∙ ap (λ x. x ++ d) (r ∙ ap (λ x. x ++ c) (q ∙ ap (λ x. x ++ b) p ∙ append_assoc old a b) ∙ append_assoc old (a ++ b) c) ∙ append_assoc old (a ++ b ++ c) d) ∙ append_assoc old (a ++ b ++ c ++ d) e

record SitesPut (c d : WireList) (sites : List Site) (shaken : List Handshake) (moves old new : List Atom) : Type 0 where
  nexts : new ≡ old ++ sites_next_nets (next_number c) sites shaken
  puts : Puts c d (sites_next_wires (next_number c) moves sites shaken)

all_put : (a b c d e f : WireList) (proc : Proc) (stages : List ℕ) (depth last : ℕ) (layout : ProcLayout) (made : ProcWires) (old one two three four five : List Atom)
    → ChoicePut a b old one (choice_wires (move_of made.stages.moves.items last) (leaf_widths (ty_of proc.state)) (shown_at made.nodes.places last proc.next) made.nodes.places.state.own)
    → FullPut b c layout.registers.full (move_of made.stages.moves.items last) made.stages.moves.items one two
    → SitesPut c d made.nodes.sites made.stages.handshakes.items made.stages.moves.items two three
    → ChoicePut d e three four (copies_wires (leaf_widths (ty_of proc.state)) made.nodes.places.state made.stages.moves.items made.nodes.places.state.stage (layout.reads.state - made.nodes.places.state.stage))
    → ChoicePut e f four five (nodes_copies made.stages.moves.items proc.nodes made.nodes.places.nodes layout.reads.nodes.items)
    → NextsPut a f proc stages depth last layout made old five
all_put a b c d e f proc stages depth last layout made old one two three four five p q r t u = (nums, λ channels at has. (lists channels at has, λ v h. wired channels at has v h))
  where
    nums : NextNumbers
    nums = record { state = next_number a; full = next_number b; sites = next_number c; copies = next_number d; nodes = next_number e }

    the : List Channel → ScheduledProc
    the channels = record { channels = channels; proc = proc; stages = stages; depth = depth; last = last }

    lists : (channels : List Channel) (at : StageNumbers) → HasStages (the channels) layout made at → five ≡ old ++ next_nets (the channels) layout made at nums
    lists channels at has =
        lists_behind old (nets (next_number a) (length (state_wires (the channels) made))) (map kept_net (stages_of (the channels) layout made at nums)) (sites_next_nets (next_number c) made.nodes.sites made.stages.handshakes.items)
        (nets (next_number d) (length (state_copies_wires (the channels) layout made))) (nets (next_number e) (length (node_copies_wires (the channels) layout made))) one two three four five p.nexts
        (q.nexts (stages_of (the channels) layout made at nums) (has.moves (λ j. next_number b + 3 * j) (done_at (next_number c) made.nodes.sites)) (stages_keep (the channels) layout made at nums)) r.nexts t.nexts u.nexts

    wired : (channels : List Channel) (at : StageNumbers) → HasStages (the channels) layout made at → AddsWires a f (λ v. NextsDriven v (the channels) layout made at nums)
    wired channels at has v h =
        let five_v = u.puts.wired v h in
        let four_v = t.puts.wired v five_v.0 in
        let three_v = r.puts.wired v four_v.0 in
        let two_v =
        q.wired (stages_of (the channels) layout made at nums) (has.moves (λ j. next_number b + 3 * j) (done_at (next_number c) made.nodes.sites)) (stages_keep (the channels) layout made at nums) v three_v.0 in
        let one_v = p.puts.wired v two_v.0 in
        (one_v.0, record { state = one_v.1; full = two_v.1; sites = three_v.1; copies = four_v.1; nodes = five_v.1 })

-- the same, in the words of its calls
pub nexts_put : {A E : Type 0} (o : Result A E) (a b c d e f : WireList) (proc : Proc) (stages : List ℕ) (depth last : ℕ) (layout : ProcLayout) (made : ProcWires) (old one two three four five : List Atom)
    (moves : List Atom) (comes : Atom) (sites : List Site) (handshakes : List Handshake) (nodes : List Node) (places : List Place) (lasts : List ℕ)
    → moves ≡ made.stages.moves.items → comes ≡ move_of moves last → sites ≡ made.nodes.sites → handshakes ≡ made.stages.handshakes.items → nodes ≡ proc.nodes → places ≡ made.nodes.places.nodes → lasts ≡ layout.reads.nodes.items
    → one ≡ old ++ nets (next_number a) (length (choice_wires comes (leaf_widths (ty_of proc.state)) (shown_at made.nodes.places last proc.next) made.nodes.places.state.own))
    → Puts a b (choice_wires comes (leaf_widths (ty_of proc.state)) (shown_at made.nodes.places last proc.next) made.nodes.places.state.own)
    → ((stages : List StageNets) → moves ≡ move_nets stages → KeepFrom layout.registers.full (next_number b) stages → two ≡ one ++ map kept_net stages)
    → ((stages : List StageNets) → moves ≡ move_nets stages → KeepFrom layout.registers.full (next_number b) stages → AddsWires b c (λ v. FullBitsGoOn v comes stages))
    → three ≡ two ++ sites_next_nets (next_number c) sites handshakes → Puts c d (sites_next_wires (next_number c) moves sites handshakes)
    → four ≡ three ++ nets (next_number d) (length (copies_wires (leaf_widths (ty_of proc.state)) made.nodes.places.state moves made.nodes.places.state.stage (layout.reads.state - made.nodes.places.state.stage)))
    → Puts d e (copies_wires (leaf_widths (ty_of proc.state)) made.nodes.places.state moves made.nodes.places.state.stage (layout.reads.state - made.nodes.places.state.stage))
    → OnOk o (five ≡ four ++ nets (next_number e) (length (nodes_copies moves nodes places lasts))) → OnOk o (Puts e f (nodes_copies moves nodes places lasts))
    → OnOk o (NextsPut a f proc stages depth last layout made old five)
nexts_put (Err z) a b c d e f proc stages depth last layout made old one two three four five moves comes sites handshakes nodes places lasts ms cs ss hs ns ps ls p p' q q' r r' t t' u u' = tt
nexts_put (Ok z) a b c d e f proc stages depth last layout made old one two three four five moves comes sites handshakes nodes places lasts ms cs ss hs ns ps ls p p' q q' r r' t t' u u' =
    let whole : comes ≡ move_of made.stages.moves.items last = cs ∙ ap (λ x. move_of x last) ms in
    all_put a b c d e f proc stages depth last layout made old one two three four five
    (subst (λ x. ChoicePut a b old one (choice_wires x (leaf_widths (ty_of proc.state)) (shown_at made.nodes.places last proc.next) made.nodes.places.state.own)) whole (record { nexts = p; puts = p' }))
    (subst (λ x. FullPut b c layout.registers.full x made.stages.moves.items one two) whole (subst (λ x. FullPut b c layout.registers.full comes x one two) ms (record { nexts = q; wired = q' })))
    (subst (λ x. SitesPut c d made.nodes.sites made.stages.handshakes.items x two three) ms
    (subst (λ x. SitesPut c d made.nodes.sites x moves two three) hs (subst (λ x. SitesPut c d x handshakes moves two three) ss (record { nexts = r; puts = r' }))))
    (subst (λ x. ChoicePut d e three four (copies_wires (leaf_widths (ty_of proc.state)) made.nodes.places.state x made.nodes.places.state.stage (layout.reads.state - made.nodes.places.state.stage))) ms (record { nexts = t; puts = t' }))
    (subst (λ x. ChoicePut e f four five (nodes_copies x proc.nodes made.nodes.places.nodes layout.reads.nodes.items)) ms
    (subst (λ x. ChoicePut e f four five (nodes_copies moves x made.nodes.places.nodes layout.reads.nodes.items)) ns
    (subst (λ x. ChoicePut e f four five (nodes_copies moves nodes x layout.reads.nodes.items)) ps
    (subst (λ x. ChoicePut e f four five (nodes_copies moves nodes places x)) ls (record { nexts = u; puts = u' })))))
