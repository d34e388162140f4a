-- The value of a node over literals is the one that is folded.
use Rattle.std.proofs.Common.{◌≡◌, ℕ, zero, suc, List, [], ◌∷◌, ◌++◌, map, length, get_or, Bool, true, false, ◌&&◌, Option, Some, None, refl, sym, ap, ap₂, ◌∙◌, arith, length-append}
use Rattle.std.specs.Prelude.{slice_get}
use Rattle.std.specs.List.{list_all}
use Rattle.std.proofs.lemmas.List.{append_assoc}
use Rattle.xb_value.specs.declared.value.Value.{Value}
use Rattle.delay_model.specs.declared.op.Op.{Op}
use Rattle.delay_model.specs.declared.op.Op.TheVariants as op
use Rattle.delay_model.specs.Signatures.{is_met, count_of}
use Rattle.ir_tree.specs.declared.ir_type.IrType.{IrType}
use Rattle.ir_tree.specs.declared.node.Operand.{Operand}
use Rattle.ir_tree.specs.declared.node.Operand.TheVariants as operand
use Rattle.ir_tree.specs.declared.node.Node.{Node}
use Rattle.ir_tree.specs.declared.node.Attributes.{Attributes}
use Rattle.ir_tree.specs.declared.node.Attributes.TheVariants as attributes
use Rattle.ir_tree.specs.Constants.{no_value}
use Rattle.ir_tree.specs.Operations.{plain_value, on_word, on_words, on_tuple, of_one, of_two, slice_value, dyn_slice_value, longer_value, element_at, index_value}
use Rattle.ir_tree.specs.NodeValues.{operand_value, pure_value}
use Rattle.ir_tree.specs.Rules.Fitting.{types_behind, types_fit}
use Rattle.ir_rebuild.specs.Built.{AreBuilt, AreValues, is_plain_op}
use Rattle.ir_rebuild.specs.Normal.Patterns as normal
use Rattle.ir_rebuild.proofs.Lemmas.Normal.{op_is_literal, constant_there}
use Rattle.pass_fold.specs.Folds.{is_literal_op, is_literal_node, is_literal, are_folded, is_foldable, is_foldable_by, value_by, value_at_op, value_in, value_there, literal_value, places_from, places_to, folded_value}

both : (a b : Bool) → a && b ≡ true → (a ≡ true) × (b ≡ true)
both true true h = (refl, refl)
both true false h = absurd (cc)
both false b h = absurd (cc)

-- ---- the value of a literal

pub same_op : (o : Op) → is_literal_op o ≡ true → normal.is_literal_op o ≡ true
same_op op.Literal h = refl
same_op o h = absurd (cc)

-- what a literal writes
written : (m : Node) (s : Value) (values : List Value) (a : Attributes) → m.attributes ≡ a → (c : _) × (a ≡ attributes.Value c) → m.op ≡ op.Literal → value_in m ≡ pure_value m s values
written m s values a e (c, is) o =
    ap (value_at_op m.ty m.attributes) o
    ∙ ap (value_by m.ty) (e ∙ is)
    ∙ sym (ap (λ x. pure_value (record { id = m.id; ty = m.ty; op = m.op; operands = m.operands; attributes = x }) s values) (e ∙ is))

node_value : (state : IrType) (nodes : List Node) (s : Value) (values : List Value) → AreBuilt state nodes → AreValues state nodes s values → (i : ℕ) (x : Option Node) → slice_get nodes i ≡ x → is_literal_node x ≡ true → value_there x ≡ get_or values i no_value
node_value state nodes s values built v i None e h = absurd (cc)
node_value state nodes s values built v i (Some m) e h =
    let literal = op_is_literal m.op (same_op m.op h) in
    let plain : is_plain_op m.op ≡ true = ap is_plain_op literal in
    let fits_at = built.fits_at i m e plain in
    let scope = types_behind state nodes in
    let fits = (both (is_met (count_of m.op) (length m.operands)) (types_fit [] scope m m.attributes) fits_at.fits).1 in
    written m s values m.attributes refl (constant_there scope m m.attributes literal fits) literal
    ∙ sym (v.plain i m e plain)

literal_is : (state : IrType) (nodes : List Node) (s : Value) (values : List Value) → AreBuilt state nodes → AreValues state nodes s values → (o : Operand) → is_literal nodes o ≡ true → literal_value nodes o ≡ operand_value s values o
literal_is state nodes s values built v operand.State h = absurd (cc)
literal_is state nodes s values built v (operand.Node i) h = node_value state nodes s values built v i (slice_get nodes i) refl h

literals_are : (state : IrType) (nodes : List Node) (s : Value) (values : List Value) → AreBuilt state nodes → AreValues state nodes s values → (os : List Operand) → list_all (is_literal nodes) os ≡ true → map (literal_value nodes) os ≡ map (operand_value s values) os
literals_are state nodes s values built v [] h = refl
literals_are state nodes s values built v (o ∷ os) h =
    let parts = both (is_literal nodes o) (list_all (is_literal nodes) os) h in
    ap₂ (λ x xs. x ∷ xs) (literal_is state nodes s values built v o parts.0) (literals_are state nodes s values built v os parts.1)

-- ---- the values at the first places

place_value : (front rest : List Value) (x : Value) (k : ℕ) → k ≡ length front → get_or (front ++ x ∷ rest) k no_value ≡ x
place_value [] rest x zero e = refl
place_value [] rest x (suc k) e = absurd (omega (arith, e))
place_value (y ∷ ys) rest x zero e = absurd (omega (arith, e))
place_value (y ∷ ys) rest x (suc k) e = place_value ys rest x k (omega (arith, e))

places_values : (front xs more : List Value) (k : ℕ) → k ≡ length front → map (operand_value no_value (front ++ (xs ++ more))) (places_from k (length xs)) ≡ xs
places_values front [] more k e = refl
places_values front (x ∷ xs) more k e =
    ap₂ (λ y ys. y ∷ ys) (place_value front (xs ++ more) x k e)
    (ap (λ vs. map (operand_value no_value vs) (places_from (suc k) (length xs))) (sym (append_assoc front (x ∷ []) (xs ++ more)))
    ∙ places_values (front ++ x ∷ []) xs more (suc k) (omega (arith, e, length-append front (x ∷ []))))

map_count : (nodes : List Node) (os : List Operand) → length (map (literal_value nodes) os) ≡ length os
map_count nodes [] = refl
map_count nodes (o ∷ os) = ap suc (map_count nodes os)

shown_operands : (nodes : List Node) (os : List Operand) (more : List Value) → map (operand_value no_value (map (literal_value nodes) os ++ more)) (places_to (length os)) ≡ map (literal_value nodes) os
shown_operands nodes os more =
    ap (λ k. map (operand_value no_value (map (literal_value nodes) os ++ more)) (places_from 0 k)) (sym (map_count nodes os))
    ∙ places_values [] (map (literal_value nodes) os) more 0 refl

-- ---- a node

pub folded_all : (nodes : List Node) (os : List Operand) → are_folded nodes os ≡ true → list_all (is_literal nodes) os ≡ true
folded_all nodes [] h = refl
folded_all nodes (o ∷ os) h = h

module _ (state : IrType) (nodes : List Node) (s : Value) (values : List Value) (built : AreBuilt state nodes) (v : AreValues state nodes s values) where
  operands_are : (os : List Operand) (more : List Value) → list_all (is_literal nodes) os ≡ true → map (operand_value no_value (map (literal_value nodes) os ++ more)) (places_to (length os)) ≡ map (operand_value s values) os
  operands_are os more h = shown_operands nodes os more ∙ literals_are state nodes s values built v os h

  by_attributes : (id : ℕ) (t : IrType) (o : Op) (os : List Operand) (a : Attributes) → is_foldable_by nodes os a ≡ true → folded_value nodes (record { id = id; ty = t; op = o; operands = os; attributes = a }) ≡ pure_value (record { id = id; ty = t; op = o; operands = os; attributes = a }) s values
  by_attributes id t o os attributes.None h = ap (plain_value o) (operands_are os [] (folded_all nodes os h))
  by_attributes id t o os (attributes.StartAndWidth start width) h = ap (of_one (on_word (slice_value start width))) (operands_are os [] (folded_all nodes os h))
  by_attributes id t o os (attributes.Width width) h = ap (of_two (on_words (dyn_slice_value width))) (operands_are os [] (folded_all nodes os h))
  by_attributes id t o os (attributes.NewBitCount width) h = ap (longer_value o width) (operands_are os [] (folded_all nodes os h))
  by_attributes id t o os (attributes.Cases cases default) h = absurd (cc)
  by_attributes id t o os (attributes.Index i) h = ap (of_one (on_tuple (element_at i))) (operands_are os [] (folded_all nodes os h))
  by_attributes id t o os (attributes.Indices i) h =
      let parts = both (is_literal nodes i) (list_all (is_literal nodes) os) h in
      let index : operand_value no_value (map (literal_value nodes) os ++ literal_value nodes i ∷ []) (operand.Node (length os)) ≡ operand_value s values i =
      place_value (map (literal_value nodes) os) [] (literal_value nodes i) (length os) (sym (map_count nodes os))
      ∙ literal_is state nodes s values built v i parts.0 in
      ap₂ (index_value o) index (operands_are os (literal_value nodes i ∷ []) parts.1)
  by_attributes id t o os (attributes.Value c) h = absurd (cc)
  by_attributes id t o os (attributes.Channel predicate c) h = absurd (cc)

  pub value_folded : (n : Node) → is_foldable nodes n ≡ true → folded_value nodes n ≡ pure_value n s values
  value_folded n h = by_attributes n.id n.ty n.op n.operands n.attributes h
