-- The sites of a proc among its nodes.
use Rattle.std.proofs.Common.{◌≡◌, ℕ, zero, suc, ◌<◌, ◌≤◌, Bool, true, false, IsTrue, List, [], ◌∷◌, length, get_or, map, Option, Some, None, refl, sym, ap, ◌∙◌, subst, arith}
use Rattle.std.specs.Prelude.{slice_get, option_map}
use Rattle.std.proofs.lemmas.Option.{slice_get-map, get_or_from_slice_get}
use Rattle.net_core.specs.declared.net.Site.{Site}
use Rattle.ir_tree.specs.declared.ir_type.IrType.{IrType}
use Rattle.ir_tree.specs.declared.node.Node.{Node}
use Rattle.ir_tree.specs.declared.node.Role.{Role}
use Rattle.ir_tree.specs.declared.node.Role.TheVariants as role
use Rattle.ir_tree.specs.Activations.{sites_by, sites_of}
use Rattle.ir_tree.specs.NodeValues.{role_of}
use Rattle.pipe_schedule.specs.Timed.{TimedNode, timed_node, node_at, no_node, is_site, is_receive}
use Rattle.block_verilog.specs.Schedule.Pipelines.{with_site, site_stages}

-- the index of the node of a site
abbrev pub place_by : Role → (ℕ → ℕ) → ℕ → ℕ
place_by role.Pure rest i = suc (rest i)
place_by (role.Receive predicate c) rest zero = 0
place_by (role.Receive predicate c) rest (suc i) = suc (rest i)
place_by (role.Send predicate c) rest zero = 0
place_by (role.Send predicate c) rest (suc i) = suc (rest i)

abbrev pub node_of_site : List Node → ℕ → ℕ
node_of_site [] i = 0
node_of_site (n ∷ nodes) i = place_by (role_of n) (node_of_site nodes) i

-- what it is
pub record SiteNode (nodes : List Node) (i : ℕ) (site : Site) : Type 0 where
  pub node : Node
  pub there : slice_get nodes (node_of_site nodes i) ≡ Some node
  pub is : IsTrue (is_site (role_of node))
  pub receives : site.sends ≡ false → IsTrue (is_receive (role_of node))

site_behind : (r : Role) (nodes : List Node) (n : Node) (i : ℕ) (site : Site) → role_of n ≡ r → ((j : ℕ) → slice_get (sites_of nodes) j ≡ Some site → SiteNode nodes j site) → slice_get (sites_by r (sites_of nodes)) i ≡ Some site
    → (node : Node) × (slice_get (n ∷ nodes) (place_by r (node_of_site nodes) i) ≡ Some node) × IsTrue (is_site (role_of node)) × (site.sends ≡ false → IsTrue (is_receive (role_of node)))
site_behind role.Pure nodes n i site is rest e = let s = rest i e in (s.node, s.there, s.is, s.receives)
site_behind (role.Receive predicate c) nodes n zero site is rest e = (n, refl, subst (λ r. IsTrue (is_site r)) (sym is) refl, λ f. subst (λ r. IsTrue (is_receive r)) (sym is) refl)
site_behind (role.Receive predicate c) nodes n (suc i) site is rest e = let s = rest i e in (s.node, s.there, s.is, s.receives)
site_behind (role.Send predicate c) nodes n zero site is rest e =
    let own : site.sends ≡ true = sym (ap sends_or e) in
    (n, refl, subst (λ r. IsTrue (is_site r)) (sym is) refl, λ f. absurd (clash own f))
  where
    sends_or : Option Site → Bool
    sends_or None = true
    sends_or (Some s) = s.sends

    clash : site.sends ≡ true → site.sends ≡ false → ⊥
    clash a b = cc
site_behind (role.Send predicate c) nodes n (suc i) site is rest e = let s = rest i e in (s.node, s.there, s.is, s.receives)

pub site_node : (nodes : List Node) (i : ℕ) (site : Site) → slice_get (sites_of nodes) i ≡ Some site → SiteNode nodes i site
site_node [] i site e = absurd (nothing i e)
  where
    nothing : (j : ℕ) → slice_get {X = Site} [] j ≡ Some site → ⊥
    nothing zero f = cc
    nothing (suc j) f = cc
site_node (n ∷ nodes) i site e =
    let s = site_behind (role_of n) nodes n i site refl (λ j f. site_node nodes j site f) e in
    record { node = s.0; there = s.1; is = s.2; receives = s.3 }

-- the stage of a site is that of its node
place_stage : (r : Role) (nodes : List Node) (stage : ℕ) (stages : List ℕ) (i : ℕ) → ((j : ℕ) → j < length (sites_of nodes) → get_or (site_stages nodes stages) j 0 ≡ get_or stages (node_of_site nodes j) 0) → i < length (sites_by r (sites_of nodes))
    → get_or (with_site r stage (site_stages nodes stages)) i 0 ≡ get_or (stage ∷ stages) (place_by r (node_of_site nodes) i) 0
place_stage role.Pure nodes stage stages i rest l = rest i l
place_stage (role.Receive predicate c) nodes stage stages zero rest l = refl
place_stage (role.Receive predicate c) nodes stage stages (suc i) rest l = rest i (omega (arith, l))
place_stage (role.Send predicate c) nodes stage stages zero rest l = refl
place_stage (role.Send predicate c) nodes stage stages (suc i) rest l = rest i (omega (arith, l))

pub site_stage : (nodes : List Node) (stages : List ℕ) (i : ℕ) → length stages ≡ length nodes → i < length (sites_of nodes) → get_or (site_stages nodes stages) i 0 ≡ get_or stages (node_of_site nodes i) 0
site_stage [] stages i e l = absurd (omega (arith, l))
site_stage (n ∷ nodes) [] i e l = absurd (omega (arith, e))
site_stage (n ∷ nodes) (stage ∷ stages) i e l = let f : length stages ≡ length nodes = omega (arith, e) in place_stage (role_of n) nodes stage stages i (λ j m. site_stage nodes stages j f m) l

-- sites stand in the order of their nodes
place_order : (r : Role) (nodes : List Node) (i k : ℕ) → ((j m : ℕ) → j < m → m < length (sites_of nodes) → node_of_site nodes j < node_of_site nodes m) → i < k → k < length (sites_by r (sites_of nodes))
    → place_by r (node_of_site nodes) i < place_by r (node_of_site nodes) k
place_order role.Pure nodes i k rest l m = let h = rest i k l m in omega (arith, h)
place_order (role.Receive predicate c) nodes i zero rest l m = absurd (omega (arith, l))
place_order (role.Receive predicate c) nodes zero (suc k) rest l m = omega arith
place_order (role.Receive predicate c) nodes (suc i) (suc k) rest l m = let h = rest i k (omega (arith, l)) (omega (arith, m)) in omega (arith, h)
place_order (role.Send predicate c) nodes i zero rest l m = absurd (omega (arith, l))
place_order (role.Send predicate c) nodes zero (suc k) rest l m = omega arith
place_order (role.Send predicate c) nodes (suc i) (suc k) rest l m = let h = rest i k (omega (arith, l)) (omega (arith, m)) in omega (arith, h)

pub site_order : (nodes : List Node) (i k : ℕ) → i < k → k < length (sites_of nodes) → node_of_site nodes i < node_of_site nodes k
site_order [] i k l m = absurd (omega (arith, m))
site_order (n ∷ nodes) i k l m = place_order (role_of n) nodes i k (λ j q f g. site_order nodes j q f g) l m

-- ---- as the scheduler sees them

pub timed_role : (state : IrType) (all nodes : List Node) (a : ℕ) (n : Node) → slice_get nodes a ≡ Some n → (node_at (map (timed_node state all) nodes) a).role ≡ role_of n
timed_role state all nodes a n e =
    ap (λ (t : TimedNode). t.role) (get_or_from_slice_get (map (timed_node state all) nodes) a (timed_node state all n) no_node (slice_get-map (timed_node state all) nodes a ∙ ap (option_map (timed_node state all)) e))
