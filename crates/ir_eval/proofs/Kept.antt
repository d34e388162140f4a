-- A walk and what is kept of it.
use Rattle.std.proofs.Common.{◌≡◌, ◌≤◌, ◌<◌, ◌+◌, ℕ, List, [], ◌∷◌, length, drop, take, get_or, sym, ap, ◌∙◌, subst, arith, Option, MatchOption}
use Rattle.std.proofs.lemmas.List.{drop_more}
use Rattle.xb_bits.specs.Word.{Word}
use Rattle.xb_value.specs.declared.value.Value.{Value}
use Rattle.net_core.specs.declared.activation.Activation.{Activation}
use Rattle.ir_tree.specs.declared.package.Channel.{Channel}
use Rattle.ir_tree.specs.declared.package.Proc.{Proc}
use Rattle.net_core.specs.declared.net.Site.{Site}
use Rattle.net_core.specs.declared.event.Event.{Event}
use Rattle.net_core.specs.Behavior.{next_event}
use Rattle.ir_tree.specs.declared.node.Node.{Node}
use Rattle.ir_tree.specs.declared.node.Role.{Role}
use Rattle.ir_tree.specs.declared.node.Role.TheVariants as role
use Rattle.ir_tree.specs.NodeValues.{role_of}
use Rattle.ir_tree.specs.Activations.{activation, sites_by, sites_of}
use Rattle.ir_eval.specs.Inner.Stands.{StandsBehind}
use Rattle.ir_eval.specs.Inner.Walks.{StandsFor}
use Rattle.ir_eval.specs.Inner.Keeps.{KeepsNodes}
use Rattle.ir_eval.specs.Inner.Kept.{moved}
use Rattle.ir_eval.specs.declared.walk.Walk.{Walk}

-- the fields of what is kept are those of a walk
pub keeps_walk : (channels : List Channel) (proc : Proc) (kept : Activation) (s : Value) (got : List Word) (done : ℕ) (walk : Walk) (steps : ℕ)
    → kept.values.items ≡ walk.values.items → kept.steps ≡ steps → kept.sites ≡ walk.site → kept.words ≡ walk.taken
    → walk.site + length (sites_of (drop steps proc.nodes)) ≤ length (sites_of proc.nodes) → walk.taken ≤ steps → walk.taken ≤ length got
    → StandsFor channels proc s got done walk (drop steps proc.nodes) → KeepsNodes channels proc kept s got done
keeps_walk channels proc kept s got done walk steps values same sites words few less within st = record {
  few = subst (λ k. kept.sites + length (sites_of (drop k proc.nodes)) ≤ length (sites_of proc.nodes)) (sym same) (omega (arith, few, sites));
  less = omega (arith, less, same, words);
  within = omega (arith, within, words);
  stands = λ all later h e.
      subst (λ k. StandsBehind channels proc s all later kept.values.items kept.sites kept.words (drop k proc.nodes)) (sym same)
      (moved channels proc s all later _ _ _ _ _ _ _ values sites words (st all later h (subst (λ k. take k all ≡ take k got) words e)));
}

-- and the other way round
pub walk_kept : (channels : List Channel) (proc : Proc) (kept : Activation) (s : Value) (got : List Word) (done : ℕ) (walk : Walk)
    → walk.values.items ≡ kept.values.items → walk.site ≡ kept.sites → walk.taken ≡ kept.words → KeepsNodes channels proc kept s got done
    → StandsFor channels proc s got done walk (drop kept.steps proc.nodes)
walk_kept channels proc kept s got done walk values sites words k all later h e =
    moved channels proc s all later _ _ _ _ _ _ _ values sites words (k.stands all later h (subst (λ n. take n all ≡ take n got) words e))

-- the node at an index is the first one that is left
pub node_at : (nodes : List Node) (k : ℕ) (x : Node) → k < length nodes → x ≡ get_or nodes k x → drop k nodes ≡ x ∷ drop (k + 1) nodes
node_at nodes k x within is = drop_more nodes k x within ∙ ap (λ n. n ∷ drop (k + 1) nodes) (sym is)

-- a walk before it
pub stands_before : (channels : List Channel) (proc : Proc) (s : Value) (got : List Word) (done : ℕ) (walk : Walk) (nodes : List Node) (k : ℕ) (x : Node) → nodes ≡ proc.nodes
    → k < length nodes → x ≡ get_or nodes k x → StandsFor channels proc s got done walk (drop k proc.nodes) → StandsFor channels proc s got done walk (x ∷ drop (k + 1) proc.nodes)
stands_before channels proc s got done walk nodes k x same within is st =
    let left = ap (λ ns. drop k ns) (sym same) ∙ (node_at nodes k x within is ∙ ap (λ ns. x ∷ drop (k + 1) ns) same) in
    subst (λ ns. StandsFor channels proc s got done walk ns) left st

-- the sites of the nodes that are left, one fewer
pub few_left : (proc : Proc) (nodes : List Node) (k site next : ℕ) (x : Node) → nodes ≡ proc.nodes → k < length nodes → x ≡ get_or nodes k x
    → next ≤ site + length (sites_by (role_of x) []) → site + length (sites_of (drop k proc.nodes)) ≤ length (sites_of proc.nodes)
    → next + length (sites_of (drop (k + 1) proc.nodes)) ≤ length (sites_of proc.nodes)
few_left proc nodes k site next x same within is step few =
    let left = ap (λ ns. drop k ns) (sym same) ∙ (node_at nodes k x within is ∙ ap (λ ns. x ∷ drop (k + 1) ns) same) in
    let count = ap (λ ns. length (sites_of ns)) left ∙ sites_more (role_of x) (sites_of (drop (k + 1) proc.nodes)) in
    omega (arith, step, few, count)
  where
    sites_more : (r : Role) (sites : List Site) → length (sites_by r sites) ≡ length (sites_by r []) + length sites
    sites_more role.Pure sites = omega arith
    sites_more (role.Receive predicate c) sites = omega arith
    sites_more (role.Send predicate c) sites = omega arith

-- what a walk comes to by the node at an index
pub step_from : (channels cs : List Channel) → cs ≡ channels → (proc : Proc) (s : Value) (got : List Word) (done : ℕ) (walk new : Walk) (nodes : List Node) (k : ℕ) (x : Node) → nodes ≡ proc.nodes
    → k < length nodes → x ≡ get_or nodes k x → (o : Option Event) → StandsFor channels proc s got done walk (drop k proc.nodes)
    → ((p : Proc) (left : List Node) → StandsFor cs p s got done walk (x ∷ left) → MatchOption o (StandsFor cs p s got done new left) (λ event. event ≡ next_event (activation cs p) s got done))
    → MatchOption o (StandsFor channels proc s got done new (drop (k + 1) proc.nodes)) (λ event. event ≡ next_event (activation channels proc) s got done)
step_from channels cs same proc s got done walk new nodes k x nodes_are within is o st step =
    subst (λ ch. MatchOption o (StandsFor ch proc s got done new (drop (k + 1) proc.nodes)) (λ event. event ≡ next_event (activation ch proc) s got done)) same
    (step proc (drop (k + 1) proc.nodes) (subst (λ ch. StandsFor ch proc s got done walk (x ∷ drop (k + 1) proc.nodes)) (sym same)
    (stands_before channels proc s got done walk nodes k x nodes_are within is st)))
