-- A normal node, for which no rule has anything, is appended as it is.
use Rattle.std.proofs.Common.{◌≡◌, List, [], ◌∷◌, ◌++◌, length, Bool, true, false, ◌&&◌, Option, Some, None, refl, sym, ap, ◌∙◌}
use Rattle.std.specs.Prelude.{◌||◌, if◌then◌else◌}
use Rattle.std.specs.List.{list_all}
use Rattle.std.proofs.lemmas.List.Folds.{list_all-append}
use Rattle.ir_tree.specs.declared.ir_type.IrType.{IrType}
use Rattle.ir_tree.specs.declared.node.Operand.{Operand}
use Rattle.ir_tree.specs.declared.node.Node.{Node}
use Rattle.ir_tree.specs.declared.node.Attributes.{Attributes}
use Rattle.ir_tree.specs.declared.node.Attributes.TheVariants as attributes
use Rattle.ir_rebuild.specs.Operands.{node_of, optional_operand}
use Rattle.ir_rebuild.specs.Built.{AreBuilt, FitsAt}
use Rattle.ir_rebuild.specs.Normal.Normal.{names_literal, all_literals, same_operand, are_one, chooses_one, IsNormalNode}
use Rattle.pass_dead.specs.Stays.{Stays}
use Rattle.pass_narrow.specs.Narrowings.{and_node, narrowing_by}
use Rattle.pass_narrow.proofs.Lemmas.{no_right_side}
use Rattle.pass_select.specs.Choices.{is_default, one_of, literal_number, choice_by, choice_among, choice_in, choice_of}
use Rattle.ir_passes.specs.Simplified.{settle_answer, simplify_by, simplify, IsGrown}
use Rattle.ir_passes.proofs.Simplifying.{not_foldable, settled_itself}
use Rattle.ir_passes.proofs.Selects.{no_number, same_itself}

or_parts : (a b : Bool) → a || b ≡ false → (a ≡ false) × (b ≡ false)
or_parts true b h = absurd (cc)
or_parts false b h = (refl, h)

-- ---- a select that chooses no operand

-- by whether the default is the first case, the first case is itself, and the others are
not_all : (d s l e : Bool) → s ≡ true → e ≡ (d && true) → l && e ≡ false → d && (s && l) ≡ false
not_all true true true true h f g = absurd (cc)
not_all true true true false h f g = absurd (cc)
not_all true true false e h f g = refl
not_all true false l e h f g = absurd (cc)
not_all false s l e h f g = refl

default_is : (c : Operand) (default : Option Operand) → list_all (same_operand c) (optional_operand default) ≡ (is_default c default && true)
default_is c None = refl
default_is c (Some d) = refl

not_one : (cases : List Operand) (default : Option Operand) → are_one (cases ++ optional_operand default) ≡ false → one_of cases default ≡ None
not_one [] default h = refl
not_one (c ∷ cs) default h =
    ap (λ b. if b then (Some c) else None)
    (not_all (is_default c default) (same_operand c c) (list_all (same_operand c) cs) (list_all (same_operand c) (optional_operand default)) (same_itself c) (default_is c default)
    (sym (list_all-append (same_operand c) cs (optional_operand default)) ∙ h))

literal_alone : (b : Bool) → b && true ≡ false → b ≡ false
literal_alone true h = absurd (cc)
literal_alone false h = refl

among_none : (nodes : List Node) (cases : List Operand) (default : Option Operand) (os : List Operand) → all_literals nodes os || are_one (cases ++ optional_operand default) ≡ false → choice_among nodes cases default os ≡ None
among_none nodes cases default [] h = refl
among_none nodes cases default (s ∷ []) h =
    let parts = or_parts (names_literal nodes s && true) (are_one (cases ++ optional_operand default)) h in
    let number : literal_number nodes s ≡ None = no_number (node_of nodes s) (literal_alone (names_literal nodes s) parts.0) in
    ap (choice_by cases default) number ∙ not_one cases default parts.1
among_none nodes cases default (s ∷ o ∷ os) h = refl

choice_none : (nodes : List Node) (os : List Operand) (a : Attributes) → chooses_one nodes os a ≡ false → choice_in nodes os a ≡ None
choice_none nodes os (attributes.Cases cases default) h = among_none nodes cases default os h
choice_none nodes os attributes.None h = refl
choice_none nodes os (attributes.StartAndWidth start width) h = refl
choice_none nodes os (attributes.Width width) h = refl
choice_none nodes os (attributes.NewBitCount width) h = refl
choice_none nodes os (attributes.Index i) h = refl
choice_none nodes os (attributes.Indices i) h = refl
choice_none nodes os (attributes.Value c) h = refl
choice_none nodes os (attributes.Channel predicate c) h = refl

-- ---- any node

-- what the rules make of a normal node is the node
pub unchanged : (state : IrType) (old new : List Node) (n : Node) (o : Operand) → AreBuilt state old → FitsAt state old (length old) n → IsNormalNode state old n → IsGrown new o (simplify state old n) → Stays state old new n o
unchanged state old new n o built fits_at normal is =
    let choice : choice_of old n ≡ None = choice_none old n.operands n.attributes normal.chosen in
    let side = no_right_side state old n built fits_at normal.narrowed in
    let itself = settled_itself old n (not_foldable old n normal.folded) in (
      is.0 ∙ ap (λ q. (simplify_by state old n q).nodes) choice
          ∙ ap (λ r. (settle_answer (narrowing_by state old n r).nodes (narrowing_by state old n r).answer).nodes) side
          ∙ ap (and_node old) itself,
      is.1 ∙ ap (λ q. (simplify_by state old n q).operand) choice
          ∙ ap (λ r. (settle_answer (narrowing_by state old n r).nodes (narrowing_by state old n r).answer).operand) side,
    )
