-- The sites of a proc among its nodes, and the stages in which they stand.
use Rattle.std.proofs.Common.{◌≡◌, ℕ, zero, suc, ◌+◌, ◌<◌, List, [], ◌∷◌, length, take, get_or, true, false, Some, refl, sym, ap, ◌∙◌, subst, arith}
use Rattle.std.specs.Prelude.{slice_get}
use Rattle.net_core.specs.declared.net.Site.{Site}
use Rattle.ir_tree.specs.declared.node.Node.{Node}
use Rattle.ir_tree.specs.declared.node.Role.{Role}
use Rattle.ir_tree.specs.declared.node.Role.TheVariants as role
use Rattle.ir_tree.specs.Activations.{sites_by, sites_of}
use Rattle.ir_tree.specs.NodeValues.{role_of, next_site, count_sites}
use Rattle.block_build.specs.Netlist.Nodes.{site_index, IsSiteStage}
use Rattle.block_verilog.specs.Signals.Registers.{stage_at, stage_of}
use Rattle.block_verilog.specs.Schedule.Pipelines.{with_site, site_stages}
use Rattle.block_verilog.specs.Pipelines.Nets.{place_by, site_place}

-- ---- how many there are

pub sites_counted : (i : ℕ) (nodes : List Node) → count_sites i nodes ≡ i + length (sites_of nodes)
unfolding count_sites
sites_counted i [] = omega arith
sites_counted i (n ∷ nodes) = go (role_of n) (λ k. sites_counted k nodes)
  where
    go : (r : Role) → ((k : ℕ) → count_sites k nodes ≡ k + length (sites_of nodes)) → count_sites (next_site i r) nodes ≡ i + length (sites_by r (sites_of nodes))
    go role.Pure ih = ih i
    go (role.Receive predicate c) ih = let e = ih (suc i) in omega (arith, e)
    go (role.Send predicate c) ih = let e = ih (suc i) in omega (arith, e)

counted_from : (i : ℕ) (nodes : List Node) → count_sites i nodes ≡ i + count_sites 0 nodes
counted_from i nodes = let a = sites_counted i nodes in let b = sites_counted 0 nodes in omega (arith, a, b)

-- ---- the node of each

-- the channel and the direction of a site are those of its node
abbrev pub IsSiteOf : Site → Role → Type 0
IsSiteOf site role.Pure = ⊥
IsSiteOf site (role.Receive predicate c) = site ≡ record { chan = c; sends = false }
IsSiteOf site (role.Send predicate c) = site ≡ record { chan = c; sends = true }

pub record Found (nodes : List Node) (i : ℕ) : Type 0 where
  pub line : Node
  pub there : slice_get nodes (site_place nodes i) ≡ Some line
  pub index : site_index nodes (site_place nodes i) ≡ i
  pub site : Site
  pub at : slice_get (sites_of nodes) i ≡ Some site
  pub is : IsSiteOf site (role_of line)

record FoundBy (n : Node) (nodes : List Node) (r : Role) (i : ℕ) : Type 0 where
  line : Node
  there : slice_get (n ∷ nodes) (place_by r (site_place nodes) i) ≡ Some line
  index : site_index (n ∷ nodes) (place_by r (site_place nodes) i) ≡ i
  site : Site
  at : slice_get (sites_by r (sites_of nodes)) i ≡ Some site
  is : IsSiteOf site (role_of line)

index_behind : (n : Node) (nodes : List Node) (r : Role) (k i : ℕ) → role_of n ≡ r → site_index nodes k ≡ i → site_index (n ∷ nodes) (suc k) ≡ next_site i r
unfolding count_sites
index_behind n nodes role.Pure k i is e = ap (λ s. count_sites (next_site 0 s) (take k nodes)) is ∙ e
index_behind n nodes (role.Receive predicate c) k i is e = ap (λ s. count_sites (next_site 0 s) (take k nodes)) is ∙ (let f = counted_from 1 (take k nodes) in omega (arith, f, e))
index_behind n nodes (role.Send predicate c) k i is e = ap (λ s. count_sites (next_site 0 s) (take k nodes)) is ∙ (let f = counted_from 1 (take k nodes) in omega (arith, f, e))

no_index : (nodes : List Node) → site_index nodes 0 ≡ 0
unfolding count_sites
no_index nodes = refl

found_by : (n : Node) (nodes : List Node) (r : Role) (i : ℕ) → role_of n ≡ r → i < length (sites_by r (sites_of nodes)) → ((j : ℕ) → j < length (sites_of nodes) → Found nodes j) → FoundBy n nodes r i
found_by n nodes role.Pure i is l ih =
    let f = ih i l in
    record { line = f.line; there = f.there; index = index_behind n nodes role.Pure (site_place nodes i) i is f.index; site = f.site; at = f.at; is = f.is }
found_by n nodes (role.Receive predicate c) zero is l ih =
    record { line = n; there = refl; index = no_index (n ∷ nodes); site = record { chan = c; sends = false }; at = refl; is = subst (IsSiteOf (record { chan = c; sends = false })) (sym is) refl }
found_by n nodes (role.Receive predicate c) (suc i) is l ih =
    let f = ih i (omega (arith, l)) in
    record { line = f.line; there = f.there; index = index_behind n nodes (role.Receive predicate c) (site_place nodes i) i is f.index; site = f.site; at = f.at; is = f.is }
found_by n nodes (role.Send predicate c) zero is l ih =
    record { line = n; there = refl; index = no_index (n ∷ nodes); site = record { chan = c; sends = true }; at = refl; is = subst (IsSiteOf (record { chan = c; sends = true })) (sym is) refl }
found_by n nodes (role.Send predicate c) (suc i) is l ih =
    let f = ih i (omega (arith, l)) in
    record { line = f.line; there = f.there; index = index_behind n nodes (role.Send predicate c) (site_place nodes i) i is f.index; site = f.site; at = f.at; is = f.is }

pub site_found : (nodes : List Node) (i : ℕ) → i < length (sites_of nodes) → Found nodes i
site_found [] i l = absurd (omega (arith, l))
site_found (n ∷ nodes) i l =
    let f = found_by n nodes (role_of n) i refl l (λ j m. site_found nodes j m) in
    record { line = f.line; there = f.there; index = f.index; site = f.site; at = f.at; is = f.is }

-- ---- its stage

stage_by_role : (r : Role) (nodes : List Node) (stage : ℕ) (stages : List ℕ) (i : ℕ) → ((j : ℕ) → j < length (sites_of nodes) → get_or (site_stages nodes stages) j 0 ≡ stage_at stages (site_place nodes j)) → i < length (sites_by r (sites_of nodes))
    → get_or (with_site r stage (site_stages nodes stages)) i 0 ≡ stage_at (stage ∷ stages) (place_by r (site_place nodes) i)
stage_by_role role.Pure nodes stage stages i rest l = rest i l
stage_by_role (role.Receive predicate c) nodes stage stages zero rest l = refl
stage_by_role (role.Receive predicate c) nodes stage stages (suc i) rest l = rest i (omega (arith, l))
stage_by_role (role.Send predicate c) nodes stage stages zero rest l = refl
stage_by_role (role.Send predicate c) nodes stage stages (suc i) rest l = rest i (omega (arith, l))

pub stage_of_site : (nodes : List Node) (stages : List ℕ) (i : ℕ) → length stages ≡ length nodes → i < length (sites_of nodes) → get_or (site_stages nodes stages) i 0 ≡ stage_at stages (site_place nodes i)
stage_of_site [] stages i e l = absurd (omega (arith, l))
stage_of_site (n ∷ nodes) [] i e l = absurd (omega (arith, e))
stage_of_site (n ∷ nodes) (stage ∷ stages) i e l = let f : length stages ≡ length nodes = omega (arith, e) in stage_by_role (role_of n) nodes stage stages i (λ j m. stage_of_site nodes stages j f m) l

-- that of a node is the stage of its site
abbrev StandsAt : List Node → List ℕ → ℕ → ℕ → Role → Type 0
StandsAt nodes stages stage i role.Pure = Unit {0}
StandsAt nodes stages stage i (role.Receive predicate c) = get_or (site_stages nodes stages) i 0 ≡ stage
StandsAt nodes stages stage i (role.Send predicate c) = get_or (site_stages nodes stages) i 0 ≡ stage

stands_here : (n : Node) (nodes : List Node) (stage : ℕ) (stages : List ℕ) (r : Role) → role_of n ≡ r → StandsAt (n ∷ nodes) (stage ∷ stages) stage 0 r
stands_here n nodes stage stages role.Pure is = tt
stands_here n nodes stage stages (role.Receive predicate c) is = ap (λ s. get_or (with_site s stage (site_stages nodes stages)) 0 0) is
stands_here n nodes stage stages (role.Send predicate c) is = ap (λ s. get_or (with_site s stage (site_stages nodes stages)) 0 0) is

more_stages : (r : Role) (first : ℕ) (rest : List ℕ) (i : ℕ) → get_or (with_site r first rest) (next_site i r) 0 ≡ get_or rest i 0
more_stages role.Pure first rest i = refl
more_stages (role.Receive predicate c) first rest i = refl
more_stages (role.Send predicate c) first rest i = refl

stands_behind : (n : Node) (nodes : List Node) (first : ℕ) (stages : List ℕ) (stage i : ℕ) (r : Role) → StandsAt nodes stages stage i r → StandsAt (n ∷ nodes) (first ∷ stages) stage (next_site i (role_of n)) r
stands_behind n nodes first stages stage i role.Pure h = tt
stands_behind n nodes first stages stage i (role.Receive predicate c) h = more_stages (role_of n) first (site_stages nodes stages) i ∙ h
stands_behind n nodes first stages stage i (role.Send predicate c) h = more_stages (role_of n) first (site_stages nodes stages) i ∙ h

node_stands : (nodes : List Node) (stages : List ℕ) (k : ℕ) (n : Node) → length stages ≡ length nodes → slice_get nodes k ≡ Some n → StandsAt nodes stages (stage_at stages k) (site_index nodes k) (role_of n)
node_stands [] stages k n e there = absurd (cc)
node_stands (x ∷ nodes) [] k n e there = absurd (omega (arith, e))
node_stands (x ∷ nodes) (stage ∷ stages) zero n e there =
    let same : x ≡ n = cc in
    subst (λ y. StandsAt (x ∷ nodes) (stage ∷ stages) stage (site_index (x ∷ nodes) 0) (role_of y)) same
    (subst (λ i. StandsAt (x ∷ nodes) (stage ∷ stages) stage i (role_of x)) (sym (no_index (x ∷ nodes))) (stands_here x nodes stage stages (role_of x) refl))
node_stands (x ∷ nodes) (stage ∷ stages) (suc k) n e there =
    let f : length stages ≡ length nodes = omega (arith, e) in
    subst (λ i. StandsAt (x ∷ nodes) (stage ∷ stages) (stage_at stages k) i (role_of n)) (sym (index_behind x nodes (role_of x) k (site_index nodes k) refl refl))
    (stands_behind x nodes stage stages (stage_at stages k) (site_index nodes k) (role_of n) (node_stands nodes stages k n f there))

pub site_stage_is : (nodes : List Node) (stages : List ℕ) (k : ℕ) (n : Node) → length stages ≡ length nodes → slice_get nodes k ≡ Some n
    → IsSiteStage (stage_of stages) (λ i. get_or (site_stages nodes stages) i 0) k (site_index nodes k) (role_of n)
site_stage_is nodes stages k n e there = go (role_of n) (node_stands nodes stages k n e there)
  where
    go : (r : Role) → StandsAt nodes stages (stage_at stages k) (site_index nodes k) r → IsSiteStage (stage_of stages) (λ i. get_or (site_stages nodes stages) i 0) k (site_index nodes k) r
    go role.Pure h = tt
    go (role.Receive predicate c) h = h
    go (role.Send predicate c) h = h
