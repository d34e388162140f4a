-- The walk over the nodes of a proc, as the loop makes it.
use Rattle.std.proofs.Common.{◌≡◌, ℕ, ◌+◌, ◌<◌, ◌≤◌, List, [], ◌∷◌, ◌++◌, length, get_or, take, Bool, true, false, refl, sym, ap, subst, ◌∙◌}
use Rattle.std.specs.Prelude.{not, ◌||◌}
use Rattle.ir_tree.specs.declared.ir_type.IrType.{IrType}
use Rattle.ir_tree.specs.declared.node.Operand.{Operand}
use Rattle.ir_tree.specs.declared.node.Operand.TheVariants as operand
use Rattle.ir_tree.specs.declared.node.Node.{Node}
use Rattle.ir_tree.specs.declared.package.Proc.{Proc}
use Rattle.ir_rebuild.specs.Moves.{moved, moved_node}
use Rattle.ir_rebuild.specs.Kept.{AreKept, StandBefore}
use Rattle.ir_rebuild.specs.Built.{AreBuilt, FitsAt, is_plain_op, numbered}
use Rattle.ir_rebuild.specs.Fixed.{is_part_of_receive, is_fixed}
use Rattle.ir_rebuild.specs.Inner.Appended.{SimulatesInRebuild}
use Rattle.ir_rebuild.specs.Walks.{NodeRelation, RebuildsTo, dropped, copied, rewritten, ProcRebuildsTo, EachProcRebuildsTo}
use Rattle.ir_rebuild.proofs.Reading.{either}
use Rattle.ir_rebuild.proofs.Finishing.{with_nodes, take_one, all_taken, taken_count}

-- what isn't fixed is plain
is_plain : (plain part : Bool) → not plain || part ≡ false → plain ≡ true
is_plain true part h = refl
is_plain false part h = absurd (cc)

-- a node that is kept
step_kept : (state : IrType) (gives : NodeRelation) (kept : List Bool) (old new all : List Node) (places : List Operand) (n : Node) (o : Operand) → RebuildsTo state gives kept old new places → get_or kept (length old) false ≡ true → AreBuilt state new → AreBuilt state all →
    (is_plain_op n.op ≡ true → FitsAt state new (length new) (moved_node (moved places) n)) → SimulatesInRebuild state new all (moved_node (moved places) n) o → (is_fixed new (moved_node (moved places) n) ≡ false → gives state new all (moved_node (moved places) n) o) → RebuildsTo state gives kept (old ++ n ∷ []) all (places ++ o ∷ [])
step_kept state gives kept old new all places n o w marked before built fits_at stands given =
    either (is_fixed new (moved_node (moved places) n))
    (λ fixed.
    let is = stands.appends fixed in
    subst (λ ns. RebuildsTo state gives kept (old ++ n ∷ []) ns (places ++ o ∷ [])) (sym is.0)
    (subst (λ p. RebuildsTo state gives kept (old ++ n ∷ []) (new ++ numbered (length new) (moved_node (moved places) n) ∷ []) (places ++ p ∷ [])) (sym is.1)
    (copied old new places n w marked fixed (subst (AreBuilt state) is.0 built))))
    (λ free.
    let m = moved_node (moved places) n in
    rewritten old new all places n o w marked free before (fits_at (is_plain (is_plain_op n.op) (is_part_of_receive new m.attributes m.operands) free)) (stands.rewrites free) (given free))

-- one node more was read
pub walked : (state : IrType) (gives : NodeRelation) (kept : List Bool) (ns : List Node) (i : ℕ) (n : Node) (new all : List Node) (places more : List Operand) (b : Bool) (o : Operand) → i < length ns → n ≡ get_or ns i n → b ≡ get_or kept i false → AreBuilt state new → AreBuilt state all →
    (b ≡ true → is_plain_op n.op ≡ true → FitsAt state new (length new) (moved_node (moved places) n)) →
    (b ≡ true → SimulatesInRebuild state new all (moved_node (moved places) n) o) → (b ≡ true → is_fixed new (moved_node (moved places) n) ≡ false → gives state new all (moved_node (moved places) n) o) → (b ≡ false → all ≡ new) → (b ≡ false → o ≡ operand.State) → more ≡ places ++ o ∷ [] →
    RebuildsTo state gives kept (take i ns) new places → RebuildsTo state gives kept (take (i + 1) ns) all more
walked state gives kept ns i n new all places more b o h is flag before built fits_at stands given stays nothing longer w =
    subst (λ xs. RebuildsTo state gives kept xs all more) (sym (take_one ns i n h is))
    (subst (RebuildsTo state gives kept (take i ns ++ n ∷ []) all) (sym longer)
    (either b
    (λ marked. step_kept state gives kept (take i ns) new all places n o w (place ∙ (sym flag ∙ marked)) before built (fits_at marked) (stands marked) (given marked))
    (λ unmarked.
    subst (λ xs. RebuildsTo state gives kept (take i ns ++ n ∷ []) xs (places ++ o ∷ [])) (sym (stays unmarked))
    (subst (λ p. RebuildsTo state gives kept (take i ns ++ n ∷ []) new (places ++ p ∷ [])) (sym (nothing unmarked))
    (dropped (take i ns) new places n w (place ∙ (sym flag ∙ unmarked)))))))
  where
    place : get_or kept (length (take i ns)) false ≡ get_or kept i false
    place = ap (λ j. get_or kept j false) (taken_count ns i h)

-- all were read
pub became : (marks : Proc → List Bool → Type 0) (gives : NodeRelation) (proc : Proc) (kept : List Bool) (ns : List Node) (i : ℕ) (new : List Node) (places : List Operand) → ns ≡ proc.nodes → length ns ≤ i → marks proc kept → AreKept proc kept → StandBefore proc → AreBuilt proc.state new →
    RebuildsTo proc.state gives kept (take i ns) new places → ProcRebuildsTo marks gives proc (with_nodes proc new places)
became marks gives proc kept ns i new places e h m k before built w = record {
  kept = kept;
  places = places;
  marked = m;
  are_kept = k;
  before = before;
  walks = subst (λ xs. RebuildsTo proc.state gives kept xs new places) (all_taken ns i h ∙ e) w;
  built = built;
  name = refl;
  state = refl;
  init = refl;
  next = refl;
}

-- ---- procs

one_became : (marks : Proc → List Bool → Type 0) (gives : NodeRelation) (ps qs : List Proc) (p q : Proc) → EachProcRebuildsTo marks gives ps qs → ProcRebuildsTo marks gives p q → EachProcRebuildsTo marks gives (ps ++ p ∷ []) (qs ++ q ∷ [])
one_became marks gives [] [] p q h r = (r, tt)
one_became marks gives [] (x ∷ qs) p q h r = absurd h
one_became marks gives (x ∷ ps) [] p q h r = absurd h
one_became marks gives (x ∷ ps) (y ∷ qs) p q h r = (h.0, one_became marks gives ps qs p q h.1 r)

pub became_more : (marks : Proc → List Bool → Type 0) (gives : NodeRelation) (ps qs all : List Proc) (i : ℕ) (p q : Proc) → i < length ps → p ≡ get_or ps i p → all ≡ qs ++ q ∷ [] → EachProcRebuildsTo marks gives (take i ps) qs → ProcRebuildsTo marks gives p q → EachProcRebuildsTo marks gives (take (i + 1) ps) all
became_more marks gives ps qs all i p q h e longer r one =
    subst (λ xs. EachProcRebuildsTo marks gives xs all) (sym (take_one ps i p h e))
    (subst (EachProcRebuildsTo marks gives (take i ps ++ p ∷ [])) (sym longer) (one_became marks gives (take i ps) qs p q r one))

pub all_became : (marks : Proc → List Bool → Type 0) (gives : NodeRelation) (ps qs : List Proc) (i : ℕ) → length ps ≤ i → EachProcRebuildsTo marks gives (take i ps) qs → EachProcRebuildsTo marks gives ps qs
all_became marks gives ps qs i h r = subst (λ xs. EachProcRebuildsTo marks gives xs qs) (all_taken ps i h) r
