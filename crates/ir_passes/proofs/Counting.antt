-- How many nodes there are after the passes.
use Rattle.std.proofs.Common.{◌≡◌, ℕ, zero, suc, ◌*◌, ◌≤◌, List, [], ◌∷◌, ◌++◌, length, Bool, Some, refl, sym, ap, subst, ◌∙◌, arith, length-append}
use Rattle.std.specs.Prelude.{slice_get}
use Rattle.ir_tree.specs.declared.ir_type.IrType.{IrType}
use Rattle.ir_tree.specs.declared.node.Operand.{Operand}
use Rattle.ir_tree.specs.declared.node.Node.{Node}
use Rattle.ir_tree.specs.declared.package.Proc.{Proc}
use Rattle.ir_rebuild.specs.Built.{numbered}
use Rattle.ir_rebuild.specs.Moves.{moved, moved_node}
use Rattle.ir_rebuild.specs.Walks.{NodeRelation, RebuildsTo, none_read, dropped, copied, rewritten, ProcRebuildsTo, EachProcRebuildsTo}
use Rattle.ir_rebuild.specs.Normal.Normal.{AreLive, AreNormal, IsNormalProc}
use Rattle.pass_dead.specs.Stays.{Stays}
use Rattle.pass_fold.specs.Settled.{IsFolded, settled_node}
use Rattle.ir_passes.specs.Simplifies.{Simplifies}
use Rattle.ir_passes.proofs.Walk.{walk_normal, walk_few}
use Rattle.ir_passes.proofs.Moved.{normal_proc}

one_more : (xs : List Node) (n : Node) → length (xs ++ n ∷ []) ≡ suc (length xs)
one_more xs n = omega (arith, length-append xs (n ∷ []))

-- a node that is settled is one more
pub settled_count : (old new : List Node) (n : Node) (o : Operand) → IsFolded old new n o → length new ≡ suc (length old)
settled_count old new n o is = ap length is.0 ∙ one_more old (numbered (length old) (settled_node old n))

no_more : (state : IrType) (kept : List Bool) (old new : List Node) (places : List Operand) → RebuildsTo state Stays kept old new places → length new ≤ length old
no_more state kept _ _ _ none_read = omega arith
no_more state kept _ _ _ (dropped old new places n w unmarked) =
    let before = no_more state kept old new places w in
    omega (arith, before, length-append old (n ∷ []))
no_more state kept _ _ _ (copied old new places n w marked fixed built) =
    let before = no_more state kept old new places w in
    omega (arith, before, length-append old (n ∷ []), length-append new (numbered (length new) (moved_node (moved places) n) ∷ []))
no_more state kept _ _ _ (rewritten old new all places n o w marked free behind fits_at rewrites given) =
    let before = no_more state kept old new places w in
    let one = ap length given.0 in
    omega (arith, before, one, length-append old (n ∷ []), length-append new (numbered (length new) (moved_node (moved places) n) ∷ []))

-- ---- procs

pub record IsFrom (marks : Proc → List Bool → Type 0) (gives : NodeRelation) (ps : List Proc) (i : ℕ) (q : Proc) : Type 0 where
  pub proc : Proc
  pub there : slice_get ps i ≡ Some proc
  pub became : ProcRebuildsTo marks gives proc q

pub became_at : (marks : Proc → List Bool → Type 0) (gives : NodeRelation) (ps qs : List Proc) → EachProcRebuildsTo marks gives ps qs → (i : ℕ) (q : Proc) → slice_get qs i ≡ Some q → IsFrom marks gives ps i q
became_at marks gives [] [] h i q e = absurd (cc)
became_at marks gives [] (y ∷ ys) h i q e = absurd h
became_at marks gives (x ∷ xs) [] h i q e = absurd h
became_at marks gives (x ∷ xs) (y ∷ ys) h zero q e =
    let same : y ≡ q = cc in record { proc = x; there = refl; became = subst (ProcRebuildsTo marks gives x) same h.0 }
became_at marks gives (x ∷ xs) (y ∷ ys) h (suc i) q e =
    let rest = became_at marks gives xs ys h.1 i q e in record { proc = rest.proc; there = rest.there; became = rest.became }

pub bounded : (marks : Proc → List Bool → Type 0) (ps qs rs : List Proc) → EachProcRebuildsTo marks Simplifies ps qs → EachProcRebuildsTo AreLive Stays qs rs → (i : ℕ) (p r : Proc) → slice_get ps i ≡ Some p → slice_get rs i ≡ Some r → length r.nodes ≤ 4 * length p.nodes
bounded marks ps qs rs h k i p r e f =
    let second = became_at AreLive Stays qs rs k i r f in
    let first = became_at marks Simplifies ps qs h i second.proc second.there in
    let one : Some first.proc ≡ Some p = sym first.there ∙ e in
    let same : first.proc ≡ p = cc in
    let a = walk_few first.proc.state first.became.kept first.proc.nodes second.proc.nodes first.became.places first.became.walks in
    let b = no_more second.proc.state second.became.kept second.proc.nodes r.nodes second.became.places second.became.walks in
    let c : length first.proc.nodes ≡ length p.nodes = ap (λ (x : Proc). length x.nodes) same in
    omega (arith, a, b, c)

pub normal : (marks : Proc → List Bool → Type 0) (ps qs rs : List Proc) → EachProcRebuildsTo marks Simplifies ps qs → EachProcRebuildsTo AreLive Stays qs rs → (i : ℕ) (r : Proc) → slice_get rs i ≡ Some r → IsNormalProc r
normal marks ps qs rs h k i r f =
    let second = became_at AreLive Stays qs rs k i r f in
    let first = became_at marks Simplifies ps qs h i second.proc second.there in
    let all = walk_normal first.proc.state first.became.kept first.proc.nodes second.proc.nodes first.became.places first.became.walks in
    normal_proc second.proc r second.became (subst (λ s. AreNormal s second.proc.nodes) (sym first.became.state) all)
