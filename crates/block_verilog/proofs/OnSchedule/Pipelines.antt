-- A scheduled proc is a pipeline.
use Rattle.std.proofs.Common.{◌≡◌, ℕ, zero, suc, ◌<◌, ◌≤◌, max, Bool, true, false, IsTrue, cond, List, [], ◌∷◌, length, get_or, map, Option, Some, None, refl, sym, ap, ◌∙◌, subst, arith}
use Rattle.std.specs.Prelude.{slice_get, option_map}
use Rattle.std.proofs.lemmas.List.{length-map}
use Rattle.std.proofs.lemmas.Option.{slice_get-map, slice_get_within}
use Rattle.net_core.specs.declared.net.Site.{Site}
use Rattle.net_core.specs.Behavior.{KeepsTypes}
use Rattle.net_core.specs.WellFormed.{EachKeepsTypes, IsSiteOf}
use Rattle.ir_tree.specs.declared.node.Node.{Node}
use Rattle.ir_tree.specs.declared.node.Role.{Role}
use Rattle.ir_tree.specs.declared.node.Role.TheVariants as role
use Rattle.ir_tree.specs.declared.package.Package.{Package}
use Rattle.ir_tree.specs.declared.package.Proc.{Proc}
use Rattle.ir_tree.specs.Activations.{activation, sites_of}
use Rattle.ir_tree.specs.Networks.{network_of, behaviors_of, head_of}
use Rattle.ir_tree.specs.NodeValues.{role_of}
use Rattle.ir_tree.specs.Rules.Verified.{IsVerified}
use Rattle.block_stage.specs.Machine.Pipeline.{Pipeline, IsPipeline}
use Rattle.pipe_schedule.specs.Legal.{IsLegalAt, stage_of, greatest, last_receive, operand_stage, turn_stage}
use Rattle.pipe_schedule.specs.Timed.{TimedNode, timed_node, timed_nodes, timed_proc, node_at, is_site, is_receive}
use Rattle.ir_tree.specs.declared.node.Operand.{Operand}
use Rattle.ir_tree.specs.declared.node.Operand.TheVariants as operand
use Rattle.block_verilog.specs.Schedule.Pipelines.{site_stages, pipeline_of}
use Rattle.block_verilog.proofs.OnSchedule.Sites.{node_of_site, site_node, site_stage, site_order, timed_role}

-- ---- stages

never : IsTrue false → ⊥
never h = cc

at_most : (stages : List ℕ) (i : ℕ) → get_or stages i 0 ≤ greatest stages
at_most [] zero = omega arith
at_most [] (suc i) = omega arith
at_most (k ∷ stages) zero = omega arith
at_most (k ∷ stages) (suc i) = let h = at_most stages i in omega (arith, h)

last_at_most : (found : ℕ) (nodes : List TimedNode) (stages : List ℕ) → last_receive found nodes stages ≤ max found (greatest stages)
last_at_most found [] stages = omega arith
last_at_most found (n ∷ nodes) [] = omega arith
last_at_most found (n ∷ nodes) (k ∷ stages) = go (is_receive n.role) (last_at_most k nodes stages) (last_at_most found nodes stages)
  where
    go : (t : Bool) → last_receive k nodes stages ≤ max k (greatest stages) → last_receive found nodes stages ≤ max found (greatest stages) → last_receive (cond t k found) nodes stages ≤ max found (max k (greatest stages))
    go true h g = omega (arith, h)
    go false h g = omega (arith, g)

operand_at_most : (stages : List ℕ) (o : Operand) → operand_stage stages o ≤ greatest stages
operand_at_most stages operand.State = omega arith
operand_at_most stages (operand.Node i) = at_most stages i

-- ---- the last receive

-- receives behind others stand in no earlier stages
abbrev pub ReceivesRise : List TimedNode → List ℕ → Type 0
ReceivesRise nodes stages = (a b : ℕ) → a < b → IsTrue (is_receive (node_at nodes a).role) → IsTrue (is_receive (node_at nodes b).role) → get_or stages a 0 ≤ get_or stages b 0

-- none that is found stands before this stage
abbrev pub AllFrom : ℕ → List TimedNode → List ℕ → Type 0
AllFrom found nodes stages = (a : ℕ) → IsTrue (is_receive (node_at nodes a).role) → found ≤ get_or stages a 0

pub record LastReceives (found : ℕ) (nodes : List TimedNode) (stages : List ℕ) : Type 0 where
  pub begin : found ≤ last_receive found nodes stages
  pub each : (a : ℕ) → IsTrue (is_receive (node_at nodes a).role) → get_or stages a 0 ≤ last_receive found nodes stages

each_behind : (m k : ℕ) (n : TimedNode) (nodes : List TimedNode) (stages : List ℕ) → (IsTrue (is_receive n.role) → k ≤ m) → ((a : ℕ) → IsTrue (is_receive (node_at nodes a).role) → get_or stages a 0 ≤ m)
    → (a : ℕ) → IsTrue (is_receive (node_at (n ∷ nodes) a).role) → get_or (k ∷ stages) a 0 ≤ m
each_behind m k n nodes stages here rest zero h = here h
each_behind m k n nodes stages here rest (suc a) h = rest a h

with_receive : (found k : ℕ) (n : TimedNode) (nodes : List TimedNode) (stages : List ℕ) → is_receive n.role ≡ true → found ≤ k → LastReceives k nodes stages → LastReceives found (n ∷ nodes) (k ∷ stages)
with_receive found k n nodes stages is l rest =
    let whole : last_receive k nodes stages ≡ last_receive found (n ∷ nodes) (k ∷ stages) = ap (λ t. last_receive (cond t k found) nodes stages) (sym is) in
    let begin = rest.begin in
    record {
      begin = omega (arith, whole, l, begin);
      each = each_behind (last_receive found (n ∷ nodes) (k ∷ stages)) k n nodes stages (λ h. omega (arith, whole, begin)) (λ a h. subst (λ m. get_or stages a 0 ≤ m) whole (rest.each a h));
    }

without_receive : (found k : ℕ) (n : TimedNode) (nodes : List TimedNode) (stages : List ℕ) → is_receive n.role ≡ false → LastReceives found nodes stages → LastReceives found (n ∷ nodes) (k ∷ stages)
without_receive found k n nodes stages is rest =
    let whole : last_receive found nodes stages ≡ last_receive found (n ∷ nodes) (k ∷ stages) = ap (λ t. last_receive (cond t k found) nodes stages) (sym is) in
    record {
      begin = subst (λ m. found ≤ m) whole rest.begin;
      each = each_behind (last_receive found (n ∷ nodes) (k ∷ stages)) k n nodes stages (λ h. absurd (never (subst IsTrue is h))) (λ a h. subst (λ m. get_or stages a 0 ≤ m) whole (rest.each a h));
    }

no_receive : (a : ℕ) → IsTrue (is_receive (node_at [] a).role) → ⊥
no_receive zero h = never h
no_receive (suc a) h = never h

one_more : (found k : ℕ) (n : TimedNode) (nodes : List TimedNode) (stages : List ℕ) → ReceivesRise (n ∷ nodes) (k ∷ stages) → AllFrom found (n ∷ nodes) (k ∷ stages)
    → ((f : ℕ) → AllFrom f nodes stages → LastReceives f nodes stages) → (t : Bool) → is_receive n.role ≡ t → LastReceives found (n ∷ nodes) (k ∷ stages)
one_more found k n nodes stages rise from rest true is =
    let own : IsTrue (is_receive n.role) = subst IsTrue (sym is) refl in
    with_receive found k n nodes stages is (from 0 own) (rest k (λ a h. rise 0 (suc a) (omega arith) own h))
one_more found k n nodes stages rise from rest false is = without_receive found k n nodes stages is (rest found (λ a h. from (suc a) h))

last_receives : (found : ℕ) (nodes : List TimedNode) (stages : List ℕ) → length stages ≡ length nodes → ReceivesRise nodes stages → AllFrom found nodes stages → LastReceives found nodes stages
last_receives found [] stages e rise from = record { begin = omega arith; each = λ a h. absurd (no_receive a h) }
last_receives found (n ∷ nodes) [] e rise from = absurd (omega (arith, e))
last_receives found (n ∷ nodes) (k ∷ stages) e rise from =
    let long : length stages ≡ length nodes = omega (arith, e) in
    one_more found k n nodes stages rise from (λ f g. last_receives f nodes stages long (λ a b l h i. rise (suc a) (suc b) (omega (arith, l)) h i) g) (is_receive n.role) refl

-- ---- a proc

receive_is_site : (r : Role) → IsTrue (is_receive r) → IsTrue (is_site r)
receive_is_site role.Pure h = h
receive_is_site (role.Receive p c) h = refl
receive_is_site (role.Send p c) h = absurd (never h)

-- the node of a site, as the scheduler sees it
pub record SiteAt (proc : Proc) (stages : List ℕ) (i : ℕ) (site : Site) : Type 0 where
  pub is : IsTrue (is_site (node_at (timed_nodes proc) (node_of_site proc.nodes i)).role)
  pub receives : site.sends ≡ false → IsTrue (is_receive (node_at (timed_nodes proc) (node_of_site proc.nodes i)).role)
  pub stage : get_or (site_stages proc.nodes stages) i 0 ≡ stage_of stages (node_of_site proc.nodes i)

site_at : (proc : Proc) (stages : List ℕ) → length stages ≡ length proc.nodes → (i : ℕ) (site : Site) → slice_get (sites_of proc.nodes) i ≡ Some site → SiteAt proc stages i site
site_at proc stages long i site e =
    let s = site_node proc.nodes i site e in
    let same = timed_role proc.state proc.nodes proc.nodes (node_of_site proc.nodes i) s.node s.there in
    record {
      is = subst (λ r. IsTrue (is_site r)) (sym same) s.is;
      receives = λ f. subst (λ r. IsTrue (is_receive r)) (sym same) (s.receives f);
      stage = site_stage proc.nodes stages i long (slice_get_within (sites_of proc.nodes) i site e);
    }

there_at : {A : Type 0} (xs : List A) (i : ℕ) → i < length xs → (x : A) × (slice_get xs i ≡ Some x)
there_at [] i l = absurd (omega (arith, l))
there_at (x ∷ xs) zero l = (x, refl)
there_at (x ∷ xs) (suc i) l = there_at xs i (omega (arith, l))

pub proc_is_pipeline : (ir : Package) (p : ℕ) (proc : Proc) (clock : ℕ) (stages : List ℕ) → EachKeepsTypes (behaviors_of ir)
    → ((p q i j : ℕ) (site : Site) → IsSiteOf (network_of ir) p i site → IsSiteOf (network_of ir) q j site → (p ≡ q) × (i ≡ j))
    → slice_get ir.procs p ≡ Some proc → IsLegalAt (timed_nodes proc) clock stages → IsPipeline (pipeline_of ir.channels proc stages)
unfolding activation
proc_is_pipeline ir p proc clock stages keep alone there legal = record {
  last = turn;
  ordered = λ i l. rising i (suc i) (omega arith) l;
  within = λ i l. let s = there_at (sites_of proc.nodes) i l in let at = at_most stages (node_of_site proc.nodes i) in let stage = (site_at proc stages long i s.0 s.1).stage in omega (arith, at, stage);
  receives = λ i site e f.
      let s = site_at proc stages long i site e in
      let last = receives.each (node_of_site proc.nodes i) (s.receives f) in
      let stage = s.stage in
      omega (arith, last, stage);
  apart = λ i k site other l e f same. absurd (twice i k site other l e f same.chan same.sends);
  directions = (keep p (activation ir.channels proc) behavior_there).directions;
}
  where
    long : length stages ≡ length proc.nodes
    long = legal.count ∙ length-map proc.nodes (timed_node proc.state proc.nodes)

    turn : turn_stage (timed_proc proc) stages < suc (greatest stages)
    turn =
        let last = last_at_most 0 (timed_nodes proc) stages in
        let next = operand_at_most stages proc.next in
        omega (arith, last, next)

    receives : LastReceives 0 (timed_nodes proc) stages
    receives = last_receives 0 (timed_nodes proc) stages legal.count (λ a b l h i. legal.chain a b l (receive_is_site _ h) (receive_is_site _ i)) (λ a h. omega arith)

    rising : (i k : ℕ) → i < k → k < length (sites_of proc.nodes) → get_or (site_stages proc.nodes stages) i 0 ≤ get_or (site_stages proc.nodes stages) k 0
    rising i k l m =
        let a = there_at (sites_of proc.nodes) i (omega (arith, l, m)) in
        let b = there_at (sites_of proc.nodes) k m in
        let s = site_at proc stages long i a.0 a.1 in
        let t = site_at proc stages long k b.0 b.1 in
        let order = legal.chain (node_of_site proc.nodes i) (node_of_site proc.nodes k) (site_order proc.nodes i k l m) s.is t.is in
        let one = s.stage in
        let two = t.stage in
        omega (arith, order, one, two)

    site_of : (i : ℕ) (site : Site) → slice_get (sites_of proc.nodes) i ≡ Some site → IsSiteOf (network_of ir) p i site
    site_of i site e = record { head = head_of proc; proc = slice_get-map head_of ir.procs p ∙ ap (λ o. option_map head_of o) there; place = e }

    twice : (i k : ℕ) (site other : Site) → i < k → slice_get (sites_of proc.nodes) i ≡ Some site → slice_get (sites_of proc.nodes) k ≡ Some other → site.chan ≡ other.chan → site.sends ≡ other.sends → ⊥
    twice i k site other l e f chan sends =
        let same : other ≡ site = λ d. record { chan = sym chan d; sends = sym sends d } in
        let one = (alone p p i k site (site_of i site e) (site_of k site (f ∙ ap Some same))).1 in
        absurd (omega (arith, l, one))

    behavior_there : slice_get (behaviors_of ir) p ≡ Some (activation ir.channels proc)
    behavior_there = slice_get-map (activation ir.channels) ir.procs p ∙ ap (λ o. option_map (activation ir.channels) o) there
