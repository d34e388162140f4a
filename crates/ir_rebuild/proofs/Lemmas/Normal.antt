-- Normal nodes in lists that grow.
use Rattle.std.proofs.Common.{◌≡◌, ℕ, ◌≤◌, List, [], ◌∷◌, ◌++◌, map, length, Bool, true, false, ◌&&◌, Some, None, refl, sym, ap, ap₂, subst, ◌∙◌, arith}
use Rattle.std.specs.Prelude.{slice_get, ◌||◌}
use Rattle.std.specs.List.{list_all}
use Rattle.std.proofs.lemmas.Option.{slice_get_within}
use Rattle.delay_model.specs.declared.op.Op.{Op}
use Rattle.delay_model.specs.declared.op.Op.TheVariants as op
use Rattle.ir_tree.specs.declared.ir_type.IrType.{IrType}
use Rattle.ir_tree.specs.declared.node.Operand.{Operand}
use Rattle.ir_tree.specs.declared.node.Operand.TheVariants as operand
use Rattle.ir_tree.specs.declared.node.Node.{Node}
use Rattle.ir_tree.specs.declared.node.Attributes.{Attributes}
use Rattle.ir_tree.specs.declared.node.Attributes.TheVariants as attributes
use Rattle.ir_tree.specs.declared.constant.Constant.{Constant}
use Rattle.ir_tree.specs.Rules.Fitting.{Types, type_in, types_behind, types_fit, plain_fits, slice_fits, dynamic_fits, extend_fits, sel_fits, tuple_index_fits, index_fits, predicate_fits, first_is_token, site_fits, is_bit_slice, is_dynamic_bit_slice, is_extend, is_sel, is_tuple_index}
use Rattle.ir_tree.specs.Rules.Lines.{is_there}
use Rattle.ir_tree.specs.NodeTypes.Types.{bits_width}
use Rattle.ir_rebuild.specs.Operands.{operands_in, attribute_operands, optional_operand}
use Rattle.ir_rebuild.specs.Built.{is_plain_op, numbered}
use Rattle.ir_rebuild.proofs.Lemmas.{node_there, there_more, all_weaker, all_parts, type_more, at_place, before_more}
use Rattle.ir_rebuild.specs.Normal.Origins.{made_by, origin}
use Rattle.ir_rebuild.specs.Normal.Patterns.{is_literal_op, node_pattern, first_bit, has_pattern}
use Rattle.ir_rebuild.specs.Normal.Normal.{is_literal_node, names_literal, all_literals, are_one, chooses_one, IsNormalNode, AreNormal}

both : (a b : Bool) → a && b ≡ true → (a ≡ true) × (b ≡ true)
both true true h = (refl, refl)
both true false h = absurd (cc)
both false b h = absurd (cc)

pub map_still : {A : Type 0} (p : Operand → Bool) (g k : Operand → A) → ((o : Operand) → p o ≡ true → g o ≡ k o) → (os : List Operand) → list_all p os ≡ true → map g os ≡ map k os
map_still p g k same [] h = refl
map_still p g k same (o ∷ os) h =
    let parts = both (p o) (list_all p os) h in
    ap₂ (λ x xs. x ∷ xs) (same o parts.0) (map_still p g k same os parts.1)

pub list_all_still : (p g k : Operand → Bool) → ((o : Operand) → p o ≡ true → g o ≡ k o) → (os : List Operand) → list_all p os ≡ true → list_all g os ≡ list_all k os
list_all_still p g k same [] h = refl
list_all_still p g k same (o ∷ os) h =
    let parts = both (p o) (list_all p os) h in
    ap₂ (λ a b. a && b) (same o parts.0) (list_all_still p g k same os parts.1)

-- the operands of each node stand before it
abbrev pub AreOrdered : List Node → Type 0
AreOrdered nodes = (j : ℕ) (n : Node) → slice_get nodes j ≡ Some n → list_all (is_there j) (operands_in n) ≡ true

-- ---- what the table sees, with more nodes

made_more : (state : IrType) (xs ys : List Node) (n : Node) (i : ℕ) → i ≤ length xs → list_all (is_there i) (operands_in n) ≡ true → made_by state (xs ++ ys) (Some n) ≡ made_by state xs (Some n)
made_more state xs ys n i within there =
    let own = (all_parts (is_there i) n.operands (attribute_operands n.attributes) there).0 in
    let types = map_still (is_there i) (type_in (types_behind state (xs ++ ys))) (type_in (types_behind state xs)) (λ o h. type_more state xs ys o (there_more i (length xs) within o h)) n.operands own in
    λ k. Some (record { op = n.op; types = types k })

pub origin_more : (state : IrType) (xs ys : List Node) → AreOrdered xs → (o : Operand) → is_there (length xs) o ≡ true → origin state (xs ++ ys) o ≡ origin state xs o
origin_more state xs ys ordered operand.State h = refl
origin_more state xs ys ordered (operand.Node i) h =
    let there = node_there xs i h in
    let within = slice_get_within xs i there.0 there.1 in
    let made : made_by state (xs ++ ys) (slice_get (xs ++ ys) i) ≡ made_by state xs (slice_get xs i) =
    ap (made_by state (xs ++ ys)) (before_more xs ys i there.0 there.1)
    ∙ (made_more state xs ys there.0 i (omega (arith, within)) (ordered i there.0 there.1)
    ∙ sym (ap (made_by state xs) there.1)) in
    let typed = type_more state xs ys (operand.Node i) h in
    λ k. record { ty = typed k; made = made k }

literal_more : (xs ys : List Node) (o : Operand) → is_there (length xs) o ≡ true → names_literal (xs ++ ys) o ≡ names_literal xs o
literal_more xs ys operand.State h = refl
literal_more xs ys (operand.Node i) h =
    let there = node_there xs i h in
    ap is_literal_node (before_more xs ys i there.0 there.1 ∙ sym there.1)

pub literals_more : (xs ys : List Node) (os : List Operand) → list_all (is_there (length xs)) os ≡ true → all_literals (xs ++ ys) os ≡ all_literals xs os
literals_more xs ys [] h = refl
literals_more xs ys (o ∷ os) h = list_all_still (is_there (length xs)) (names_literal (xs ++ ys)) (names_literal xs) (literal_more xs ys) (o ∷ os) h

pub chooses_more : (xs ys : List Node) (os : List Operand) (a : Attributes) → list_all (is_there (length xs)) os ≡ true → chooses_one (xs ++ ys) os a ≡ chooses_one xs os a
chooses_more xs ys os attributes.None h = refl
chooses_more xs ys os (attributes.StartAndWidth start width) h = refl
chooses_more xs ys os (attributes.Width width) h = refl
chooses_more xs ys os (attributes.NewBitCount width) h = refl
chooses_more xs ys os (attributes.Cases cases default) h = ap (λ b. b || are_one (cases ++ optional_operand default)) (literals_more xs ys os h)
chooses_more xs ys os (attributes.Index i) h = refl
chooses_more xs ys os (attributes.Indices i) h = refl
chooses_more xs ys os (attributes.Value c) h = refl
chooses_more xs ys os (attributes.Channel predicate c) h = refl

pub side_more : (state : IrType) (xs ys : List Node) (n : Node) → AreOrdered xs → list_all (is_there (length xs)) (operands_in n) ≡ true → has_pattern state (xs ++ ys) n ≡ has_pattern state xs n
side_more state xs ys n ordered there =
    let own = (all_parts (is_there (length xs)) n.operands (attribute_operands n.attributes) there).0 in
    ap (node_pattern n.op (bits_width n.ty) (first_bit n.attributes)) (map_still (is_there (length xs)) (origin state (xs ++ ys)) (origin state xs) (origin_more state xs ys ordered) n.operands own)

-- a normal node is normal with more nodes
pub still_normal : (state : IrType) (xs ys : List Node) (n : Node) → AreOrdered xs → list_all (is_there (length xs)) (operands_in n) ≡ true → IsNormalNode state xs n → IsNormalNode state (xs ++ ys) n
still_normal state xs ys n ordered there h = record {
  folded = literals_more xs ys (operands_in n) there ∙ h.folded;
  chosen = chooses_more xs ys n.operands n.attributes (all_parts (is_there (length xs)) n.operands (attribute_operands n.attributes) there).0 ∙ h.chosen;
  narrowed = side_more state xs ys n ordered there ∙ h.narrowed;
}

-- under another id it is
pub renumbered : (state : IrType) (nodes : List Node) (n : Node) (i : ℕ) → IsNormalNode state nodes n → IsNormalNode state nodes (numbered i n)
renumbered state nodes n i h = record { folded = h.folded; chosen = h.chosen; narrowed = h.narrowed }

-- with one normal node more, all are normal
pub normal_more : (state : IrType) (xs : List Node) (n : Node) → AreOrdered xs → AreNormal state xs → list_all (is_there (length xs)) (operands_in n) ≡ true → (is_plain_op n.op ≡ true → IsNormalNode state xs n) → AreNormal state (xs ++ numbered (length xs) n ∷ [])
normal_more state xs n ordered h there own = record { each = each }
  where
    x : Node
    x = numbered (length xs) n

    each : (j : ℕ) (m : Node) → slice_get (xs ++ numbered (length xs) n ∷ []) j ≡ Some m → is_plain_op m.op ≡ true → IsNormalNode state (xs ++ numbered (length xs) n ∷ []) m
    each j m e plain =
        at_place (IsNormalNode state (xs ++ x ∷ []) m) xs x j m e
        (λ less here. still_normal state xs (x ∷ []) m ordered (all_weaker (is_there j) (is_there (length xs)) (λ o k. there_more j (length xs) (omega (arith, less)) o k) (operands_in m) (ordered j m here)) (h.each j m here plain))
        (λ l. subst (λ y. IsNormalNode state (xs ++ x ∷ []) y) l.item
        (still_normal state xs (x ∷ []) x ordered there (renumbered state xs n (length xs) (own (ap (λ (y : Node). is_plain_op y.op) l.item ∙ plain)))))

-- ---- literals

pub op_is_literal : (o : Op) → is_literal_op o ≡ true → o ≡ op.Literal
op_is_literal op.Literal h = refl
op_is_literal o h = absurd (cc)

-- a literal that fits the table has a constant
pub constant_there : (scope : Types) (n : Node) (a : Attributes) → n.op ≡ op.Literal → types_fit [] scope n a ≡ true → (c : Constant) × (a ≡ attributes.Value c)
constant_there scope n attributes.None e h = absurd (let k : plain_fits op.Literal scope n.operands n.ty ≡ true = ap (λ o. plain_fits o scope n.operands n.ty) (sym e) ∙ h in cc)
constant_there scope n (attributes.StartAndWidth start width) e h =
    absurd (let k : is_bit_slice op.Literal ≡ true = ap is_bit_slice (sym e) ∙ (both (is_bit_slice n.op) (slice_fits start width scope n.operands n.ty) h).0 in cc)
constant_there scope n (attributes.Width width) e h =
    absurd (let k : is_dynamic_bit_slice op.Literal ≡ true = ap is_dynamic_bit_slice (sym e) ∙ (both (is_dynamic_bit_slice n.op) (dynamic_fits width scope n.operands n.ty) h).0 in cc)
constant_there scope n (attributes.NewBitCount width) e h =
    absurd (let k : is_extend op.Literal ≡ true = ap is_extend (sym e) ∙ (both (is_extend n.op) (extend_fits width scope n.operands n.ty) h).0 in cc)
constant_there scope n (attributes.Cases cases default) e h =
    absurd (let k : is_sel op.Literal ≡ true = ap is_sel (sym e) ∙ (both (is_sel n.op) (sel_fits cases default scope n.operands n.ty) h).0 in cc)
constant_there scope n (attributes.Index i) e h =
    absurd (let k : is_tuple_index op.Literal ≡ true = ap is_tuple_index (sym e) ∙ (both (is_tuple_index n.op) (tuple_index_fits i scope n.operands n.ty) h).0 in cc)
constant_there scope n (attributes.Indices i) e h = absurd (let k : index_fits op.Literal i scope n.operands n.ty ≡ true = ap (λ o. index_fits o i scope n.operands n.ty) (sym e) ∙ h in cc)
constant_there scope n (attributes.Value c) e h = (c, refl)
constant_there scope n (attributes.Channel predicate c) e h =
    absurd (
    let a = both (predicate_fits scope predicate) (first_is_token scope n.operands && site_fits n.op None scope n.operands n.ty) h in
    let b = both (first_is_token scope n.operands) (site_fits n.op None scope n.operands n.ty) a.1 in
    let k : site_fits op.Literal None scope n.operands n.ty ≡ true = ap (λ o. site_fits o None scope n.operands n.ty) (sym e) ∙ b.1 in cc)
