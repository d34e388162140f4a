-- One package comes of trying the rules, and of dropping what nobody needs.
use Rattle.std.proofs.Common.{◌≡◌, ℕ, suc, ◌+◌, List, [], ◌∷◌, ◌++◌, length, get_or, Bool, true, false, refl, sym, ap, ap₂, subst, ◌∙◌, arith}
use Rattle.ir_tree.specs.declared.ir_type.IrType.{IrType}
use Rattle.ir_tree.specs.declared.node.Operand.{Operand}
use Rattle.ir_tree.specs.declared.node.Operand.TheVariants as operand
use Rattle.ir_tree.specs.declared.node.Node.{Node}
use Rattle.ir_tree.specs.declared.package.Proc.{Proc}
use Rattle.ir_tree.specs.declared.package.Package.{Package}
use Rattle.ir_rebuild.specs.Moves.{moved, moved_node}
use Rattle.ir_rebuild.specs.Kept.{AreAllKept}
use Rattle.ir_rebuild.specs.Fixed.{is_fixed}
use Rattle.ir_rebuild.specs.Walks.{NodeRelation, RebuildsTo, none_read, dropped, copied, rewritten, ProcRebuildsTo, EachProcRebuildsTo}
use Rattle.ir_rebuild.specs.Normal.Normal.{AreLive}
use Rattle.pass_dead.specs.Stays.{Stays}
use Rattle.pass_narrow.specs.Narrowings.{Grown, and_node}
use Rattle.ir_passes.specs.Simplified.{IsGrown, simplify}
use Rattle.ir_passes.specs.Simplifies.{Simplifies}
use Rattle.ir_passes.specs.Optimised.{IsMade}
use Rattle.ir_passes.proofs.GivenBack.{is_marked}

-- ---- a walk, computed

-- the nodes that were built, and what stands for those that were read
record Walk : Type 0 where
  nodes : List Node
  places : List Operand

abbrev walk_of : List Node → List Operand → Walk
walk_of nodes places = record { nodes = nodes; places = places }

-- what a pass makes of a node
abbrev NodeStep : Type 0
NodeStep = IrType → List Node → Node → Grown

-- and that it makes nothing else of it
abbrev Determines : NodeRelation → NodeStep → Type 0
Determines gives f = (state : IrType) (old new : List Node) (n : Node) (o : Operand) → gives state old new n o → IsGrown new o (f state old n)

abbrev itself : List Node → Node → Grown
itself nodes n = record { nodes = and_node nodes n; operand = operand.Node (length nodes) }

abbrev rewritten_node : NodeStep → IrType → List Node → Node → Bool → Grown
rewritten_node f state nodes n true = itself nodes n
rewritten_node f state nodes n false = f state nodes n

abbrev and_place : List Operand → Grown → Walk
and_place places g = record { nodes = g.nodes; places = places ++ g.operand ∷ [] }

abbrev one_step : NodeStep → IrType → Walk → Node → Bool → Walk
one_step f state w n true = and_place w.places (rewritten_node f state w.nodes (moved_node (moved w.places) n) (is_fixed w.nodes (moved_node (moved w.places) n)))
one_step f state w n false = record { nodes = w.nodes; places = w.places ++ operand.State ∷ [] }

abbrev walk_from : NodeStep → IrType → (ℕ → Bool) → ℕ → Walk → List Node → Walk
walk_from f state mark place w [] = w
walk_from f state mark place w (n ∷ ns) = walk_from f state mark (suc place) (one_step f state w n (mark place)) ns

walk_last : (f : NodeStep) (state : IrType) (mark : ℕ → Bool) (place : ℕ) (w : Walk) (ns : List Node) (n : Node) → walk_from f state mark place w (ns ++ n ∷ []) ≡ one_step f state (walk_from f state mark place w ns) n (mark (place + length ns))
walk_last f state mark place w [] n = let e : place ≡ place + 0 = omega arith in ap (λ k. one_step f state w n (mark k)) e
walk_last f state mark place w (m ∷ ns) n =
    let e : suc place + length ns ≡ place + suc (length ns) = omega arith in
    walk_last f state mark (suc place) (one_step f state w m (mark place)) ns n
    ∙ ap (λ k. one_step f state (walk_from f state mark (suc place) (one_step f state w m (mark place)) ns) n (mark k)) e

abbrev marks_in : List Bool → ℕ → Bool
marks_in kept i = get_or kept i false

abbrev start : Walk
start = walk_of [] []

abbrev walk : NodeStep → IrType → (ℕ → Bool) → List Node → Walk
walk f state mark ns = walk_from f state mark 0 start ns

-- ---- a walk is that

-- one step more of a walk that is known
step_known : (f : NodeStep) (state : IrType) (kept : List Bool) (old : List Node) (v w : Walk) (n : Node) (b : Bool) → get_or kept (length old) false ≡ b → w ≡ one_step f state v n b → v ≡ walk f state (marks_in kept) old → w ≡ walk f state (marks_in kept) (old ++ n ∷ [])
step_known f state kept old v w n b mark e known =
    let count : 0 + length old ≡ length old = omega arith in
    e ∙ ap (one_step f state v n) (sym mark) ∙ ap (λ u. one_step f state u n (get_or kept (length old) false)) known
    ∙ sym (walk_last f state (marks_in kept) 0 start old n ∙ ap (λ k. one_step f state (walk f state (marks_in kept) old) n (marks_in kept k)) count)

walked : (gives : NodeRelation) (f : NodeStep) → Determines gives f → (state : IrType) (kept : List Bool) (old new : List Node) (places : List Operand) → RebuildsTo state gives kept old new places → walk_of new places ≡ walk f state (marks_in kept) old
walked gives f only state kept _ _ _ none_read = refl
walked gives f only state kept _ _ _ (dropped old new places n w unmarked) =
    step_known f state kept old (walk_of new places) (walk_of new (places ++ operand.State ∷ [])) n false unmarked refl (walked gives f only state kept old new places w)
walked gives f only state kept _ _ _ (copied old new places n w marked fixed built) =
    let m = moved_node (moved places) n in
    step_known f state kept old (walk_of new places) (and_place places (itself new m)) n true marked (ap (λ b. and_place places (rewritten_node f state new m b)) (sym fixed)) (walked gives f only state kept old new places w)
walked gives f only state kept _ _ _ (rewritten old new all places n o w marked free built fits_at rewrites given) =
    let m = moved_node (moved places) n in
    let is = only state new all m o given in
    let found : walk_of all (places ++ o ∷ []) ≡ and_place places (f state new m) = λ i. record { nodes = is.0 i; places = places ++ is.1 i ∷ [] } in
    step_known f state kept old (walk_of new places) (walk_of all (places ++ o ∷ [])) n true marked
    (found ∙ ap (λ b. and_place places (rewritten_node f state new m b)) (sym free)) (walked gives f only state kept old new places w)

-- ---- procs

-- that the pass marks the same nodes each time
abbrev MarksOnce : (Proc → List Bool → Type 0) → NodeRelation → Type 0
MarksOnce marks gives = (p q r : Proc) (a : ProcRebuildsTo marks gives p q) (b : ProcRebuildsTo marks gives p r) → marks_in a.kept ≡ marks_in b.kept

one_proc : (marks : Proc → List Bool → Type 0) (gives : NodeRelation) (f : NodeStep) → Determines gives f → MarksOnce marks gives → (p q r : Proc) → ProcRebuildsTo marks gives p q → ProcRebuildsTo marks gives p r → q ≡ r
one_proc marks gives f only once p q r a b =
    let first = walked gives f only p.state a.kept p.nodes q.nodes a.places a.walks in
    let second = walked gives f only p.state b.kept p.nodes r.nodes b.places b.walks in
    let same = first ∙ ap (λ mark. walk f p.state mark p.nodes) (once p q r a b) ∙ sym second in
    let next : q.next ≡ r.next = a.next ∙ ap (λ (w : Walk). moved w.places p.next) same ∙ sym b.next in
    λ i. record { name = (a.name ∙ sym b.name) i; state = (a.state ∙ sym b.state) i; init = (a.init ∙ sym b.init) i; nodes = (same i).nodes; next = next i }

all_one : (marks : Proc → List Bool → Type 0) (gives : NodeRelation) (f : NodeStep) → Determines gives f → MarksOnce marks gives → (ps qs rs : List Proc) → EachProcRebuildsTo marks gives ps qs → EachProcRebuildsTo marks gives ps rs → qs ≡ rs
all_one marks gives f only once [] [] [] a b = refl
all_one marks gives f only once [] [] (r ∷ rs) a b = absurd b
all_one marks gives f only once [] (q ∷ qs) rs a b = absurd a
all_one marks gives f only once (p ∷ ps) [] rs a b = absurd a
all_one marks gives f only once (p ∷ ps) (q ∷ qs) [] a b = absurd b
all_one marks gives f only once (p ∷ ps) (q ∷ qs) (r ∷ rs) a b = ap₂ (λ x xs. x ∷ xs) (one_proc marks gives f only once p q r a.0 b.0) (all_one marks gives f only once ps qs rs a.1 b.1)

-- ---- the two passes

all_once : (gives : NodeRelation) → MarksOnce AreAllKept gives
all_once gives p q r a b = ap marks_in (a.marked ∙ sym b.marked)

same_bool : (a b : Bool) → (a ≡ true → b ≡ true) → (b ≡ true → a ≡ true) → a ≡ b
same_bool true b f g = sym (f refl)
same_bool false true f g = g refl
same_bool false false f g = refl

needed_once : (gives : NodeRelation) → MarksOnce AreLive gives
needed_once gives p q r a b = λ t i. at i t
  where
    at : (i : ℕ) → marks_in a.kept i ≡ marks_in b.kept i
    at i = same_bool (marks_in a.kept i) (marks_in b.kept i) (λ h. is_marked p b.kept b.are_kept i (a.marked i h)) (λ h. is_marked p a.kept a.are_kept i (b.marked i h))

pub one_made : (ir a b : Package) → IsMade ir a → IsMade ir b → a ≡ b
one_made ir a b f g =
    let mid = all_one AreAllKept Simplifies simplify (λ state old new n o h. h.is) (all_once Simplifies) ir.procs f.between g.between f.first g.first in
    let procs : a.procs ≡ b.procs =
    all_one AreLive Stays (λ state old n. itself old n) (λ state old new n o h. h) (needed_once Stays) g.between a.procs b.procs (subst (λ ps. EachProcRebuildsTo AreLive Stays ps a.procs) mid f.second) g.second in
    λ i. record { name = (f.head.name ∙ sym g.head.name) i; channels = (f.head.channels ∙ sym g.head.channels) i; procs = procs i }
