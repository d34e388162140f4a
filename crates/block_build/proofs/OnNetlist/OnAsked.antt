-- What stands at the ends of a pipeline's channels is what its machine asserts there.
use Rattle.std.proofs.Common.{◌≡◌, ℕ, zero, suc, ◌+◌, ◌-◌, ◌<◌, ◌≤◌, List, [], ◌∷◌, ◌++◌, length, length-append, refl, sym, ap, ◌∙◌, subst, arith, cond, true, false, Bool, Some}
use Rattle.std.specs.Prelude.{slice_get, is_some, not, ◌||◌, ◌==◌}
use Rattle.std.specs.List.{AllByRecursion}
use Rattle.std.proofs.lemmas.Bool.Decides.{nat_tests}
use Rattle.xb_bits.specs.Word.{Word}
use Rattle.xb_value.specs.declared.value.Value.{Value}
use Rattle.net_core.specs.declared.event.Event.{Event}
use Rattle.net_core.specs.declared.event.Event.TheVariants.{Recv, Send}
use Rattle.net_core.specs.declared.net.Site.{Site}
use Rattle.net_core.specs.Behavior.{Turn, Skip, Receive, Give, chan_at}
use Rattle.net_core.specs.Cuts.{words_sent, count_received}
use Rattle.ir_tree.specs.declared.node.Node.{Node}
use Rattle.ir_tree.specs.declared.node.Operand.{Operand}
use Rattle.ir_tree.specs.declared.node.Role.{Role}
use Rattle.ir_tree.specs.declared.node.Role.TheVariants as role
use Rattle.ir_tree.specs.declared.package.Channel.{Channel}
use Rattle.ir_tree.specs.declared.package.Proc.{Proc}
use Rattle.ir_tree.specs.Activations.{activation, sent, sent_by}
use Rattle.ir_tree.specs.NodeValues.{role_of, node_values, operand_value, optional_value, is_on}
use Rattle.block_stage.specs.Fifo.Fifo.{next_word}
use Rattle.block_stage.specs.Machine.Pipeline.{Pipeline, IsPipeline, first}
use Rattle.block_stage.specs.Machine.Cycle.{Ports, Registers, circuit, brought, walk_by, if_full, asserted_by, asserted_through}
use Rattle.block_stage.specs.Machine.Circuits.{stage_by, asserts_by}
use Rattle.block_stage.proofs.Lemmas.Machine.{stage_at, first_grows}
use Rattle.vlog_tree.specs.declared.expression.Atom.{Atom}
use Rattle.vlog_tree.specs.Value.{Values, bit, atom_value}
use Rattle.block_build.specs.Netlist.Ends.{RequestsAre, some_wires, some_net, word_wires, word_net, sends_at, is_end_of, all_sites, end_requests}
use Rattle.block_build.specs.Netlist.Gates.{net}
use Rattle.block_build.specs.Netlist.Handshakes.{SiteNets, assert_net}
use Rattle.block_build.specs.Netlist.Holding.{DataHeld, words_now, SendMade, SiteMade, SitesMade, PortsShown, AllPortsShown, PipelineMade, PipelineHeld}
use Rattle.block_build.specs.Netlist.Leaves.{ShowsValue}
use Rattle.block_build.specs.Netlist.Nodes.{operands_read, attributes_read, site_index, AreStaged, HaveOperandTypes, ProcNets, turn_of}
use Rattle.block_build.specs.Netlist.Procs.{setting_by, turns_by_words}
use Rattle.block_build.specs.Netlist.Stages.{StageNets, AreStages, ShowStages, ShowReset}
use Rattle.block_build.specs.Netlist.Walks.{asserts_at, ShowWalk, ShowNothing}
use Rattle.block_build.specs.Netlist.Wires.{AreWired}
use Rattle.block_build.proofs.OnNetlist.OnEnds.{some_is_asked, the_word_is_asked}
use Rattle.block_build.proofs.OnNetlist.OnEvents.{EventsAt, events_same, no_events, events_joined, SiteEvents, SitesEvents, walk_makes, IsSiteEvent, AreSiteEvents, said_requests, asked_words, words_are_asked, receives_are_asked, some_is_said, one_is_said}
use Rattle.block_build.proofs.OnNetlist.OnGathered.{does_from}
use Rattle.block_build.proofs.OnNetlist.OnHolding.{AllRead, StageReady, AllReady, stage_shows, ready_from, ready_at, SomeSites, registers_show_the_cycle}
use Rattle.block_build.proofs.OnNetlist.OnProcs.{receive_site, send_site}
use Rattle.block_build.proofs.OnNetlist.OnSites.{IsSiteRole, turn_is_the_nodes, partner_is_a_sites}
use Rattle.block_build.proofs.OnNetlist.OnStaged.{first_none, first_whole}
use Rattle.block_build.proofs.OnNetlist.OnStages.{nothing_shows_in_reset}

-- ---- a site

abbrev SentWords : Values → ProcNets → ℕ → Word
SentWords v nets i = atom_value v (nets.sent i)

sends_there : (sites : List Site) (i : ℕ) (site : Site) → slice_get sites i ≡ Some site → sends_at sites i ≡ site.sends
sends_there [] i site e = absurd (cc)
sends_there (x ∷ sites) zero site e = let same : x ≡ site = cc in ap (λ (y : Site). y.sends) same
sends_there (x ∷ sites) (suc i) site e = sends_there sites i site e

second_of : (P : Operand → Type 0) (xs ys : List Operand) (o : Operand) (i : ℕ) → slice_get xs i ≡ Some o → AllByRecursion P (xs ++ ys) → P o
second_of P [] ys o i e h = absurd (cc)
second_of P (x ∷ xs) ys o zero e h = let same : x ≡ o = cc in subst P same h.0
second_of P (x ∷ xs) ys o (suc i) e h = second_of P xs ys o i e h.1

give_is : (t : Bool) (u w : Word) → cond t (Give u) Skip ≡ Give w → w ≡ u
give_is true u w e = cc
give_is false u w e = absurd (cc)

never_gives : (t : Bool) (w : Word) → cond t Receive Skip ≡ Give w → ⊥
never_gives true w e = cc
never_gives false w e = cc

never_receives : (t : Bool) (u : Word) → cond t (Give u) Skip ≡ Receive → ⊥
never_receives true u e = cc
never_receives false u e = cc

site_role_events : (v : Values) (channels : List Channel) (proc : Proc) (nets : ProcNets) (q : Pipeline) (j i k : ℕ) (n : Node) (s : Value) (values : List Value) (turn : Turn) → activation channels proc ≡ q.proc.behavior
    → slice_get proc.nodes k ≡ Some n → site_index proc.nodes k ≡ i → HaveOperandTypes proc.state proc.nodes s values → AllByRecursion (λ o. ShowsValue v (nets.shown j o) (operand_value s values o)) (operands_read n)
    → (rl : Role) → role_of n ≡ rl → SendMade v proc nets j i n rl → turn_of s values n rl ≡ turn
    → ((w : Word) → turn ≡ Give w → AreSiteEvents q.proc.behavior.sites (SentWords v nets) i (Send i w)) × (turn ≡ Receive → AreSiteEvents q.proc.behavior.sites (SentWords v nets) i (Recv i))
site_role_events v channels proc nets q j i k n s values turn e there index typed read role.Pure is made t = ((λ w g. absurd (cc)), (λ r. absurd (cc)))
site_role_events v channels proc nets q j i k n s values turn e there index typed read (role.Receive predicate c) is made t =
    let site = ap (λ b. slice_get b.sites i) (sym e) ∙ ap (slice_get (activation channels proc).sites) (sym index) ∙ receive_site channels proc k n predicate c there is in
    let receives = sends_there q.proc.behavior.sites i (record { chan = c; sends = false }) site in (
      (λ w g. absurd (never_gives (is_on s values predicate) w (t ∙ g))),
      (λ r. subst (λ x. IsSiteEvent x i (SentWords v nets i) (Recv i)) (sym receives) refl),
    )
site_role_events v channels proc nets q j i k n s values turn e there index typed read (role.Send predicate c) is made t =
    let site = ap (λ b. slice_get b.sites i) (sym e) ∙ ap (slice_get (activation channels proc).sites) (sym index) ∙ send_site channels proc k n predicate c there is in
    let sends = sends_there q.proc.behavior.sites i (record { chan = c; sends = true }) site in
    let carried : SentWords v nets i ≡ sent (operand_value s values made.0) =
    made.2 (operand_value s values made.0) (typed made.0) (second_of (λ o. ShowsValue v (nets.shown j o) (operand_value s values o)) n.operands (attributes_read n.attributes) made.0 1 made.1 read) in
    let said : sent_by n s values ≡ sent (operand_value s values made.0) = ap (λ o. sent (optional_value s values o)) made.1 in (
      (λ w g. subst (λ x. IsSiteEvent x i (SentWords v nets i) (Send i w)) (sym sends) (ap (Send i) (give_is (is_on s values predicate) (sent_by n s values) w (t ∙ g) ∙ said ∙ sym carried))),
      (λ r. absurd (never_receives (is_on s values predicate) (sent_by n s values) (t ∙ r))),
    )

-- a node with a turn that isn't nothing is a site's
turn_there : (v : Values) (channels : List Channel) (proc : Proc) (nets : ProcNets) (stage : Operand → ℕ) (q : Pipeline) (j i : ℕ) (site : SiteNets) (s : Value) (words : ℕ → Word) → activation channels proc ≡ q.proc.behavior → AreStaged proc.nodes stage q.stage
    → HaveOperandTypes proc.state proc.nodes s (node_values (setting_by channels s words) proc.nodes) → AllRead v channels proc nets stage j s words → (one : SiteMade v proc nets stage j i site) → IsSiteRole (role_of one.line)
    → SiteEvents (AreSiteEvents q.proc.behavior.sites (SentWords v nets)) (turns_by_words channels proc.nodes s words) i
turn_there v channels proc nets stage q j i site s words e staged typed read one is =
    site_role_events v channels proc nets q j i (nets.node i) one.line s (node_values (setting_by channels s words) proc.nodes) (turns_by_words channels proc.nodes s words i) e one.there one.index typed
    (read (nets.node i) one.line one.there one.stands) (role_of one.line) refl one.send
    (sym (turn_is_the_nodes channels proc.nodes s words staged.earlier (nets.node i) one.line one.there is) ∙ ap (turns_by_words channels proc.nodes s words) one.index)

stage_events : (v : Values) (channels : List Channel) (proc : Proc) (nets : ProcNets) (stage : Operand → ℕ) (q : Pipeline) (ports : Ports) (j : ℕ) (s : Value) (words : ℕ → Word) → activation channels proc ≡ q.proc.behavior → AreStaged proc.nodes stage q.stage
    → HaveOperandTypes proc.state proc.nodes s (node_values (setting_by channels s words) proc.nodes) → AllRead v channels proc nets stage j s words
    → (sites : List SiteNets) (i : ℕ) → SitesMade v proc nets stage j i sites → PortsShown v proc nets q ports i sites → SitesEvents (AreSiteEvents q.proc.behavior.sites (SentWords v nets)) (turns_by_words channels proc.nodes s words) i sites
stage_events v channels proc nets stage q ports j s words e staged typed read [] i made shown = tt
stage_events v channels proc nets stage q ports j s words e staged typed read (site ∷ sites) i made shown = (
  turn_there v channels proc nets stage q j i site s words e staged typed read made.0
      (partner_is_a_sites v (ports.valid_word (chan_at q.proc.behavior.sites i)) (ports.room (chan_at q.proc.behavior.sites i)) site.partner (role_of made.0.line) (shown.0 made.0.line made.0.there).0),
  stage_events v channels proc nets stage q ports j s words e staged typed read sites (suc i) made.1 shown.1,
)

-- ---- a stage

abbrev StageMade : Values → ProcNets → Pipeline → Registers → Ports → ℕ → Type 0
StageMade v nets q c ports j = EventsAt (λ k. asserts_at k (stage_by circuit q c ports j)) (AreSiteEvents q.proc.behavior.sites (SentWords v nets)) (first q j) (first q (suc j) - first q j) (asserted_by (stage_by circuit q c ports j))

stage_made : (v : Values) (channels : List Channel) (proc : Proc) (nets : ProcNets) (stage : Operand → ℕ) (carried : Operand → ℕ → Bool) (q : Pipeline) (c : Registers) (ports : Ports) (j : ℕ) (sites : List SiteNets) → IsPipeline q → activation channels proc ≡ q.proc.behavior
    → StageReady v channels proc nets stage carried q c ports j sites → (c.full j ≡ true → DataHeld v channels proc nets stage carried q (brought c j) j) → StageMade v nets q c ports j
stage_made v channels proc nets stage carried q c ports j sites is e r entry = by (c.full j) refl
  where
    P : ℕ → Event → Type 0
    P = AreSiteEvents q.proc.behavior.sites (SentWords v nets)

    by : (t : Bool) → c.full j ≡ t
        → EventsAt (λ k. asserts_at k (if_full t (first q j) (walk_by circuit q.proc.behavior c.done c.kept ports (brought c j).state (brought c j).got (first q j) (first q (suc j) - first q j)))) P (first q j) (first q (suc j) - first q j)
        (asserted_by (if_full t (first q j) (walk_by circuit q.proc.behavior c.done c.kept ports (brought c j).state (brought c j).got (first q j) (first q (suc j) - first q j))))
    by true f =
        let h = entry f in
        let s = (brought c j).state in
        let words = words_now v nets q.stage j h.words in
        let shows = stage_shows v channels proc nets stage carried q c ports j sites is e r h in
        subst (λ n. EventsAt (λ k. asserts_at k (walk_by circuit q.proc.behavior c.done c.kept ports s (brought c j).got (first q j) n)) P (first q j) n (asserted_by (walk_by circuit q.proc.behavior c.done c.kept ports s (brought c j).got (first q j) n))) r.count
        (walk_makes v q.proc.behavior (turns_by_words channels proc.nodes s words) words c.done c.kept ports s P sites (brought c j).got (first q j) shows.turns
        (does_from q.proc.behavior channels proc e s words (brought c j).got (first q j) (length sites) shows.got)
        (stage_events v channels proc nets stage q ports j s words e r.staged (r.types s words h.typed) shows.read sites (first q j) r.made r.ports_shown))
    by false f = no_events (λ k. false) P (first q (suc j) - first q j) (first q j) (λ k l. refl)

-- ---- all stages

abbrev asks_of : Pipeline → Registers → Ports → ℕ → Bool
asks_of q c ports i = asserts_at i (stage_by circuit q c ports (q.stage i))

asks_in : (q : Pipeline) → IsPipeline q → (c : Registers) (ports : Ports) (j i : ℕ) → first q j ≤ i → i < first q (suc j) → asserts_at i (stage_by circuit q c ports j) ≡ asks_of q c ports i
asks_in q is c ports j i l r = ap (λ k. asserts_at i (stage_by circuit q c ports k)) (sym (stage_at q is i j l r))

stages_made : (v : Values) (nets : ProcNets) (q : Pipeline) → IsPipeline q → (c : Registers) (ports : Ports) (n j : ℕ) → ((k : ℕ) → j ≤ k → k < j + n → StageMade v nets q c ports k)
    → EventsAt (asks_of q c ports) (AreSiteEvents q.proc.behavior.sites (SentWords v nets)) (first q j) (first q (j + n) - first q j) (asserted_through (stage_by circuit q c ports) j n)
stages_made v nets q is c ports zero j h =
    let at : j + 0 ≡ j = omega arith in
    let none : 0 ≡ first q (j + 0) - first q j = let same = ap (first q) at in omega (arith, same) in
    subst (λ m. EventsAt (asks_of q c ports) (AreSiteEvents q.proc.behavior.sites (SentWords v nets)) (first q j) m []) none refl
stages_made v nets q is c ports (suc n) j h =
    let P = AreSiteEvents q.proc.behavior.sites (SentWords v nets) in
    let one = first_grows q is j (suc j) (omega arith) in
    let at : suc j + n ≡ j + suc n = omega arith in
    let more = first_grows q is (suc j) (suc j + n) (omega arith) in
    let here = events_same (λ k. asserts_at k (stage_by circuit q c ports j)) (asks_of q c ports) P (first q (suc j) - first q j) (first q j) (asserted_by (stage_by circuit q c ports j))
    (λ k l r. asks_in q is c ports j k l (omega (arith, r, one))) (h j (omega arith) (omega arith)) in
    let rest = stages_made v nets q is c ports n (suc j) (λ k l r. h k (omega (arith, l)) (omega (arith, r))) in
    let from : first q (suc j) ≡ first q j + (first q (suc j) - first q j) = omega (arith, one) in
    let all : first q (suc j) - first q j + (first q (suc j + n) - first q (suc j)) ≡ first q (j + suc n) - first q j = let same = ap (first q) at in omega (arith, one, more, same) in
    subst (λ m. EventsAt (asks_of q c ports) P (first q j) m (asserted_through (stage_by circuit q c ports) j (suc n))) all
    (events_joined (asks_of q c ports) P (first q (suc j) - first q j) (first q (suc j + n) - first q (suc j)) (first q j) (asserted_by (stage_by circuit q c ports j)) (asserted_through (stage_by circuit q c ports) (suc j) n) here
    (subst (λ i. EventsAt (asks_of q c ports) P i (first q (suc j + n) - first q (suc j)) (asserted_through (stage_by circuit q c ports) (suc j) n)) from rest))

-- what a pipeline asserts, site by site
all_made : (v : Values) (run : Atom) (channels : List Channel) (proc : Proc) (nets : ProcNets) (stage : Operand → ℕ) (carried : Operand → ℕ → Bool) (q : Pipeline) (stages : List StageNets) (c : Registers) (ports : Ports)
    → PipelineMade v run channels proc nets stage carried q stages → PipelineHeld v channels proc nets stage carried q stages c → AllPortsShown v proc nets q ports 0 stages
    → EventsAt (asks_of q c ports) (AreSiteEvents q.proc.behavior.sites (SentWords v nets)) 0 (length q.proc.behavior.sites) (asserts_by circuit q c ports)
all_made v run channels proc nets stage carried q stages c ports made held shown =
    let is = made.legal in
    let n = made.control.count in
    let ready = ready_from v run channels proc nets stage carried q stages c ports made held.state stages 0 made.sites held.done held.kept shown in
    let all = stages_made v nets q is c ports q.stages 0
    (λ k l r.
    let zero_on : k + 0 ≡ k = omega arith in
    let one = subst (SomeSites v channels proc nets stage carried q c ports) zero_on (ready_at v channels proc nets stage carried q c ports stages 0 k (omega (arith, r, n)) ready) in
    stage_made v channels proc nets stage carried q c ports k one.0 is made.behaves one.1 (λ f. held.entries k (omega (arith, r)) f)) in
    let end : 0 + q.stages ≡ q.stages = omega arith in
    let none = first_none q in
    let whole = first_whole q is in
    let count : first q (0 + q.stages) - first q 0 ≡ length q.proc.behavior.sites = let same = ap (first q) end in omega (arith, none, whole, same) in
    subst (λ m. EventsAt (asks_of q c ports) (AreSiteEvents q.proc.behavior.sites (SentWords v nets)) 0 m (asserts_by circuit q c ports)) count
    (subst (λ i. EventsAt (asks_of q c ports) (AreSiteEvents q.proc.behavior.sites (SentWords v nets)) i (first q (0 + q.stages) - first q 0) (asserts_by circuit q c ports)) none all)

-- ---- the wires that say so

abbrev Asked : Values → (ℕ → Bool) → ℕ → List SiteNets → Type 0
Asked v asks i [] = Unit {0}
Asked v asks i (site ∷ sites) = (v (assert_net site) ≡ bit (asks i)) × Asked v asks (suc i) sites

asked_joined : (v : Values) (asks : ℕ → Bool) (i : ℕ) (xs ys : List SiteNets) → Asked v asks i xs → Asked v asks (i + length xs) ys → Asked v asks i (xs ++ ys)
asked_joined v asks i [] ys a b = let at : i + 0 ≡ i = omega arith in subst (λ k. Asked v asks k ys) at b
asked_joined v asks i (x ∷ xs) ys a b = let at : i + suc (length xs) ≡ suc i + length xs = omega arith in (a.0, asked_joined v asks (suc i) xs ys a.1 (subst (λ k. Asked v asks k ys) at b))

stage_asked : (v : Values) (q : Pipeline) → IsPipeline q → (c : Registers) (ports : Ports) (j : ℕ) (sites : List SiteNets) (i : ℕ) → first q j ≤ i → i + length sites ≤ first q (suc j) → ShowWalk v i sites (stage_by circuit q c ports j) → Asked v (asks_of q c ports) i sites
stage_asked v q is c ports j [] i l r h = tt
stage_asked v q is c ports j (site ∷ sites) i l r h =
    (h.0 ∙ ap bit (asks_in q is c ports j i l (omega (arith, r))), stage_asked v q is c ports j sites (suc i) (omega (arith, l)) (omega (arith, r)) h.2)

all_asked : (v : Values) (channels : List Channel) (proc : Proc) (nets : ProcNets) (stage : Operand → ℕ) (carried : Operand → ℕ → Bool) (q : Pipeline) → IsPipeline q → (c : Registers) (ports : Ports) (stages : List StageNets) (j : ℕ)
    → AllReady v channels proc nets stage carried q c ports j stages → ShowStages v q c ports j stages → Asked v (asks_of q c ports) (first q j) (all_sites stages) × (first q j + length (all_sites stages) ≡ first q (j + length stages))
all_asked v channels proc nets stage carried q is c ports [] j ready shown = (tt, (let at : j + 0 ≡ j = omega arith in let same = ap (first q) at in omega (arith, same)))
all_asked v channels proc nets stage carried q is c ports (one ∷ more) j ready shown =
    let grows = first_grows q is j (suc j) (omega arith) in
    let count = ready.0.count in
    let from : first q (suc j) ≡ first q j + length one.sites = omega (arith, grows, count) in
    let rest = all_asked v channels proc nets stage carried q is c ports more (suc j) ready.1 shown.2 in
    let at : suc j + length more ≡ j + suc (length more) = omega arith in (
      asked_joined v (asks_of q c ports) (first q j) one.sites (all_sites more) (stage_asked v q is c ports j one.sites (first q j) (omega arith) (omega (arith, from)) shown.0)
          (subst (λ k. Asked v (asks_of q c ports) k (all_sites more)) from rest.0),
      (let sum = length-append one.sites (all_sites more) in let same = ap (first q) at in let last = rest.1 in omega (arith, sum, same, last, from)),
    )

-- those at one end
requests_said : (v : Values) (sites : List Site) (chan : ℕ) (sends : Bool) (asks : ℕ → Bool) (sent : ℕ → Atom) (nets : List SiteNets) (i : ℕ) → Asked v asks i nets
    → RequestsAre v (end_requests sites chan sends sent i nets) (said_requests sites chan sends asks (λ k. atom_value v (sent k)) i (length nets))
unfolding said_requests
requests_said v sites chan sends asks sent [] i h = tt
requests_said v sites chan sends asks sent (site ∷ nets) i h = by (is_end_of sites chan sends i) (requests_said v sites chan sends asks sent nets (suc i) h.1)
  where
    by : (t : Bool) → RequestsAre v (end_requests sites chan sends sent (suc i) nets) (said_requests sites chan sends asks (λ k. atom_value v (sent k)) (suc i) (length nets))
        → RequestsAre v (cond t (record { ask = net (assert_net site); word = sent i } ∷ end_requests sites chan sends sent (suc i) nets) (end_requests sites chan sends sent (suc i) nets))
        (cond t (record { ask = asks i; word = atom_value v (sent i) } ∷ said_requests sites chan sends asks (λ k. atom_value v (sent k)) (suc i) (length nets)) (said_requests sites chan sends asks (λ k. atom_value v (sent k)) (suc i) (length nets)))
    by true rest = (h.0, refl, rest)
    by false rest = rest

-- ---- an end

record EndShown (v : Values) (nets : ProcNets) (q : Pipeline) (stages : List StageNets) (c : Registers) (ports : Ports) : Type 0 where
  requests : (chan : ℕ) (sends : Bool) → RequestsAre v (end_requests q.proc.behavior.sites chan sends nets.sent 0 (all_sites stages)) (said_requests q.proc.behavior.sites chan sends (asks_of q c ports) (SentWords v nets) 0 (length q.proc.behavior.sites))
  made : EventsAt (asks_of q c ports) (AreSiteEvents q.proc.behavior.sites (SentWords v nets)) 0 (length q.proc.behavior.sites) (asserts_by circuit q c ports)

end_shown : (v : Values) (run : Atom) (channels : List Channel) (proc : Proc) (nets : ProcNets) (stage : Operand → ℕ) (carried : Operand → ℕ → Bool) (q : Pipeline) (stages : List StageNets) (c : Registers) (ports : Ports)
    → PipelineMade v run channels proc nets stage carried q stages → PipelineHeld v channels proc nets stage carried q stages c → AllPortsShown v proc nets q ports 0 stages → atom_value v run ≡ bit true
    → EndShown v nets q stages c ports
end_shown v run channels proc nets stage carried q stages c ports made held shown r =
    let is = made.legal in
    let n = made.control.count in
    let ready = ready_from v run channels proc nets stage carried q stages c ports made held.state stages 0 made.sites held.done held.kept shown in
    let now = registers_show_the_cycle v run channels proc nets stage carried q stages c ports made held shown r in
    let asked = all_asked v channels proc nets stage carried q is c ports stages 0 ready now in
    let none = first_none q in
    let whole = first_whole q is in
    let end : 0 + length stages ≡ q.stages = omega (arith, n) in
    let count : length (all_sites stages) ≡ length q.proc.behavior.sites = let same = ap (first q) end in let sum = asked.1 in omega (arith, none, whole, same, sum) in
    let from = subst (λ i. Asked v (asks_of q c ports) i (all_sites stages)) none asked.0 in
    record {
      requests =
          λ chan sends.
          subst (λ m. RequestsAre v (end_requests q.proc.behavior.sites chan sends nets.sent 0 (all_sites stages)) (said_requests q.proc.behavior.sites chan sends (asks_of q c ports) (SentWords v nets) 0 m)) count
          (requests_said v q.proc.behavior.sites chan sends (asks_of q c ports) nets.sent (all_sites stages) 0 from);
      made = all_made v run channels proc nets stage carried q stages c ports made held shown;
    }

false_or : (x : Bool) → (false || x) ≡ x
false_or true = refl
false_or false = refl

-- whether it has valid a word
pub end_has_valid : (v : Values) (run : Atom) (channels : List Channel) (proc : Proc) (nets : ProcNets) (stage : Operand → ℕ) (carried : Operand → ℕ → Bool) (q : Pipeline) (stages : List StageNets) (c : Registers) (ports : Ports)
    → PipelineMade v run channels proc nets stage carried q stages → PipelineHeld v channels proc nets stage carried q stages c → AllPortsShown v proc nets q ports 0 stages → atom_value v run ≡ bit true
    → (chan k : ℕ) (zeros : Atom) → AreWired v k (some_wires k zeros (end_requests q.proc.behavior.sites chan true nets.sent 0 (all_sites stages))) → atom_value v zeros ≡ bit false
    → atom_value v (some_net k zeros (end_requests q.proc.behavior.sites chan true nets.sent 0 (all_sites stages))) ≡ bit (is_some (next_word (words_sent q.proc.behavior.sites chan (asserts_by circuit q c ports))))
end_has_valid v run channels proc nets stage carried q stages c ports made held shown r chan k zeros wired z =
    let end = end_shown v run channels proc nets stage carried q stages c ports made held shown r in
    let saids = said_requests q.proc.behavior.sites chan true (asks_of q c ports) (SentWords v nets) 0 (length q.proc.behavior.sites) in
    some_is_asked v (end_requests q.proc.behavior.sites chan true nets.sent 0 (all_sites stages)) saids k zeros false wired z (end.requests chan true)
    ∙ ap bit (some_is_said saids false ∙ false_or (is_some (next_word (asked_words saids))))
    ∙ ap (λ ws. bit (is_some (next_word ws))) (sym (words_are_asked q.proc.behavior.sites chan (asks_of q c ports) (SentWords v nets) (length q.proc.behavior.sites) 0 (asserts_by circuit q c ports) end.made))

-- and which, where at most one of its sites is asserted
pub end_has_the_word : (v : Values) (run : Atom) (channels : List Channel) (proc : Proc) (nets : ProcNets) (stage : Operand → ℕ) (carried : Operand → ℕ → Bool) (q : Pipeline) (stages : List StageNets) (c : Registers) (ports : Ports)
    → PipelineMade v run channels proc nets stage carried q stages → PipelineHeld v channels proc nets stage carried q stages c → AllPortsShown v proc nets q ports 0 stages → atom_value v run ≡ bit true
    → (chan width k : ℕ) (zeros : Atom) → AreWired v k (word_wires width k zeros (end_requests q.proc.behavior.sites chan true nets.sent 0 (all_sites stages)))
    → length (words_sent q.proc.behavior.sites chan (asserts_by circuit q c ports)) ≤ 1 → (w : Word) → next_word (words_sent q.proc.behavior.sites chan (asserts_by circuit q c ports)) ≡ Some w
    → atom_value v (word_net k zeros (end_requests q.proc.behavior.sites chan true nets.sent 0 (all_sites stages))) ≡ w
end_has_the_word v run channels proc nets stage carried q stages c ports made held shown r chan width k zeros wired few w is =
    let end = end_shown v run channels proc nets stage carried q stages c ports made held shown r in
    let saids = said_requests q.proc.behavior.sites chan true (asks_of q c ports) (SentWords v nets) 0 (length q.proc.behavior.sites) in
    let same = words_are_asked q.proc.behavior.sites chan (asks_of q c ports) (SentWords v nets) (length q.proc.behavior.sites) 0 (asserts_by circuit q c ports) end.made in
    the_word_is_asked v width (end_requests q.proc.behavior.sites chan true nets.sent 0 (all_sites stages)) saids k zeros (atom_value v zeros) wired refl (end.requests chan true)
    ∙ one_is_said saids (atom_value v zeros) w (subst (λ ws. length ws ≤ 1) same few) (sym (ap next_word same) ∙ is)

some_counted : (ws : List Word) → is_some (next_word ws) ≡ not (length ws == 0)
some_counted [] = refl
some_counted (w ∷ ws) = let e : (suc (length ws) == 0) ≡ false = grind (arith, nat_tests) in sym (ap not e)

-- whether it is ready for one
pub end_is_ready : (v : Values) (run : Atom) (channels : List Channel) (proc : Proc) (nets : ProcNets) (stage : Operand → ℕ) (carried : Operand → ℕ → Bool) (q : Pipeline) (stages : List StageNets) (c : Registers) (ports : Ports)
    → PipelineMade v run channels proc nets stage carried q stages → PipelineHeld v channels proc nets stage carried q stages c → AllPortsShown v proc nets q ports 0 stages → atom_value v run ≡ bit true
    → (chan k : ℕ) (zeros : Atom) → AreWired v k (some_wires k zeros (end_requests q.proc.behavior.sites chan false nets.sent 0 (all_sites stages))) → atom_value v zeros ≡ bit false
    → atom_value v (some_net k zeros (end_requests q.proc.behavior.sites chan false nets.sent 0 (all_sites stages))) ≡ bit (not (count_received q.proc.behavior.sites chan (asserts_by circuit q c ports) == 0))
end_is_ready v run channels proc nets stage carried q stages c ports made held shown r chan k zeros wired z =
    let end = end_shown v run channels proc nets stage carried q stages c ports made held shown r in
    let saids = said_requests q.proc.behavior.sites chan false (asks_of q c ports) (SentWords v nets) 0 (length q.proc.behavior.sites) in
    some_is_asked v (end_requests q.proc.behavior.sites chan false nets.sent 0 (all_sites stages)) saids k zeros false wired z (end.requests chan false)
    ∙ ap bit (some_is_said saids false ∙ false_or (is_some (next_word (asked_words saids))) ∙ some_counted (asked_words saids))
    ∙ ap (λ n. bit (not (n == 0))) (sym (receives_are_asked q.proc.behavior.sites chan (asks_of q c ports) (SentWords v nets) (length q.proc.behavior.sites) 0 (asserts_by circuit q c ports) end.made))

-- ---- in reset

abbrev AsksNothing : ℕ → Bool
AsksNothing i = false

stage_quiet : (v : Values) (sites : List SiteNets) (i : ℕ) → ShowNothing v sites → Asked v AsksNothing i sites
stage_quiet v [] i h = tt
stage_quiet v (site ∷ sites) i h = (h.0, stage_quiet v sites (suc i) h.2)

all_quiet : (v : Values) (stages : List StageNets) (i : ℕ) → ShowReset v stages → Asked v AsksNothing i (all_sites stages)
all_quiet v [] i h = tt
all_quiet v (one ∷ more) i h = asked_joined v AsksNothing i one.sites (all_sites more) (stage_quiet v one.sites i h.0) (all_quiet v more (i + length one.sites) h.1)

none_asked : (sites : List Site) (chan : ℕ) (sends : Bool) (word : ℕ → Word) (n i : ℕ) → asked_words (said_requests sites chan sends AsksNothing word i n) ≡ []
unfolding said_requests
none_asked sites chan sends word zero i = refl
none_asked sites chan sends word (suc n) i = by (is_end_of sites chan sends i) (none_asked sites chan sends word n (suc i))
  where
    by : (t : Bool) → asked_words (said_requests sites chan sends AsksNothing word (suc i) n) ≡ []
        → asked_words (cond t (record { ask = false; word = word i } ∷ said_requests sites chan sends AsksNothing word (suc i) n) (said_requests sites chan sends AsksNothing word (suc i) n)) ≡ []
    by true h = h
    by false h = h

pub ends_are_quiet : (v : Values) (run : Atom) (stages : List StageNets) → AreStages v run stages → atom_value v run ≡ bit false → (sites : List Site) (chan : ℕ) (sends : Bool) (sent : ℕ → Atom) (k : ℕ) (zeros : Atom)
    → AreWired v k (some_wires k zeros (end_requests sites chan sends sent 0 (all_sites stages))) → atom_value v zeros ≡ bit false → atom_value v (some_net k zeros (end_requests sites chan sends sent 0 (all_sites stages))) ≡ bit false
ends_are_quiet v run stages is r sites chan sends sent k zeros wired z =
    let saids = said_requests sites chan sends AsksNothing (λ i. atom_value v (sent i)) 0 (length (all_sites stages)) in
    some_is_asked v (end_requests sites chan sends sent 0 (all_sites stages)) saids k zeros false wired z
    (requests_said v sites chan sends AsksNothing sent (all_sites stages) 0 (all_quiet v stages 0 (nothing_shows_in_reset v run stages is r)))
    ∙ ap bit (some_is_said saids false ∙ ap (λ ws. false || is_some (next_word ws)) (none_asked sites chan sends (λ i. atom_value v (sent i)) (length (all_sites stages)) 0))
