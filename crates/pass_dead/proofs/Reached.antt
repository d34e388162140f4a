-- Only what is needed is marked.
use Rattle.std.proofs.Common.{◌≡◌, ◌⊎◌, inl, inr, ℕ, zero, suc, List, [], ◌∷◌, length, get_or, Bool, true, false, Some, refl, sym, ap, subst, ◌∙◌, ⊎_elim}
use Rattle.std.specs.Prelude.{slice_set, slice_get, replicate, ◌||◌}
use Rattle.ir_tree.specs.declared.node.Operand.{Operand}
use Rattle.ir_tree.specs.declared.node.Operand.TheVariants as operand
use Rattle.ir_tree.specs.declared.node.Node.{Node}
use Rattle.ir_tree.specs.declared.package.Proc.{Proc}
use Rattle.ir_tree.specs.NodeValues.{role_of}
use Rattle.ir_rebuild.specs.Operands.{operands_in}
use Rattle.ir_rebuild.specs.Kept.{is_site}
use Rattle.ir_rebuild.specs.Normal.Normal.{IsReached, by_next, as_site, by_node, AreLive}
use Rattle.pass_dead.specs.Inner.Marks.{marked, marked_all, visited_if, visited}

-- among these operands one names the node of a place
abbrev IsNamed : List Operand → ℕ → Type 0
IsNamed os j = (k : ℕ) × (slice_get os k ≡ Some (operand.Node j))

set_only : (xs : List Bool) (i j : ℕ) → get_or (slice_set xs i true) j false ≡ true → (get_or xs j false ≡ true) ⊎ (i ≡ j)
set_only [] i j h = inl h
set_only (x ∷ xs) zero zero h = inr refl
set_only (x ∷ xs) zero (suc j) h = inl h
set_only (x ∷ xs) (suc i) zero h = inl h
set_only (x ∷ xs) (suc i) (suc j) h = ⊎_elim (λ own. inl own) (λ e. inr (ap suc e)) (set_only xs i j h)

marked_only : (kept : List Bool) (o : Operand) (j : ℕ) → get_or (marked kept o) j false ≡ true → (get_or kept j false ≡ true) ⊎ (o ≡ operand.Node j)
marked_only kept operand.State j h = inl h
marked_only kept (operand.Node i) j h = ⊎_elim (λ own. inl own) (λ e. inr (ap operand.Node e)) (set_only kept i j h)

all_only : (kept : List Bool) (os : List Operand) (j : ℕ) → get_or (marked_all kept os) j false ≡ true → (get_or kept j false ≡ true) ⊎ IsNamed os j
all_only kept [] j h = inl h
all_only kept (o ∷ os) j h =
    ⊎_elim
    (λ own. ⊎_elim (λ old. inl old) (λ e. inr (0, ap Some e)) (marked_only kept o j own))
    (λ named. inr (suc named.0, named.1))
    (all_only (marked kept o) os j h)

pub counted : (a : List Bool) (n : ℕ) → a ≡ replicate n false → length a ≡ n
counted a n e = ap length e ∙ count n
  where
    count : (n : ℕ) → length (replicate n false) ≡ n
    count zero = refl
    count (suc n) = ap suc (count n)

none_marked : (n j : ℕ) → get_or (replicate n false) j false ≡ true → ⊥
none_marked zero j h = absurd (cc)
none_marked (suc n) zero h = absurd (cc)
none_marked (suc n) (suc j) h = none_marked n j h

next_needed : (proc : Proc) (a : List Bool) → ((j : ℕ) → get_or a j false ≡ true → ⊥) → AreLive proc (marked a proc.next)
next_needed proc a none j h = ⊎_elim (λ own. absurd (none j own)) (λ e. by_next j e) (marked_only a proc.next j h)

pub first_needed : (proc : Proc) (n : ℕ) (a b : List Bool) → a ≡ replicate n false → b ≡ marked a proc.next → AreLive proc b
first_needed proc n a b e is =
    subst (AreLive proc) (sym is) (next_needed proc a (λ j h. none_marked n j (subst (λ xs. get_or xs j false ≡ true) e h)))

either_reached : (proc : Proc) (kept : List Bool) (place : ℕ) (n : Node) (a b : Bool) → AreLive proc kept → slice_get proc.nodes place ≡ Some n → get_or kept place false ≡ a → is_site (role_of n) ≡ b → a || b ≡ true → IsReached proc place
either_reached proc kept place n true b live there own site h = live place own
either_reached proc kept place n false true live there own site h = as_site place n there site
either_reached proc kept place n false false live there own site h = absurd (cc)

visit_needed : (proc : Proc) (kept : List Bool) (place : ℕ) (n : Node) (b : Bool) → AreLive proc kept → slice_get proc.nodes place ≡ Some n → (get_or kept place false || is_site (role_of n)) ≡ b → AreLive proc (visited_if b kept place n)
visit_needed proc kept place n false live there e j h = live j h
visit_needed proc kept place n true live there e j h =
    let own : IsReached proc place = either_reached proc kept place n (get_or kept place false) (is_site (role_of n)) live there refl refl e in
    ⊎_elim
    (λ marked_before. ⊎_elim (λ old. live j old) (λ same. subst (IsReached proc) same own) (set_only kept place j marked_before))
    (λ named. by_node j place named.0 n own there named.1)
    (all_only (slice_set kept place true) (operands_in n) j h)

pub visited_needed : (proc : Proc) (kept new : List Bool) (place : ℕ) (n : Node) → AreLive proc kept → slice_get proc.nodes place ≡ Some n → new ≡ visited kept place n → AreLive proc new
visited_needed proc kept new place n live there e =
    subst (AreLive proc) (sym e) (visit_needed proc kept place n (get_or kept place false || is_site (role_of n)) live there refl)
