-- What the replacement of a node says holds of it, whatever pattern it has.
use Rattle.std.proofs.Common.{◌≡◌, ℕ, zero, suc, ◌+◌, ◌*◌, ◌^◌, ◌≤◌, List, [], ◌∷◌, map, length, get_or, Bool, true, IsTrue, Option, Some, None, refl, sym, ap, subst, ◌∙◌, arith}
use Rattle.std.specs.Prelude.{slice_get, option_map}
use Rattle.std.specs.List.{list_all}
use Rattle.std.proofs.lemmas.Option.{slice_get-map, slice_get_within}
use Rattle.xb_bits.specs.Word.{Word}
use Rattle.xb_value.specs.declared.value.Value.{Value}
use Rattle.delay_model.specs.declared.op.Op.{Op}
use Rattle.delay_model.specs.declared.op.Op.TheVariants as op
use Rattle.delay_model.specs.declared.op.Binary.{Binary}
use Rattle.delay_model.specs.declared.op.Compare.{Compare}
use Rattle.delay_model.specs.declared.op.Extend.{Extend}
use Rattle.ir_tree.specs.declared.ir_type.IrType.{IrType, Tuple, Token}
use Rattle.ir_tree.specs.declared.ir_type.IrType.TheViews as ir_views
use Rattle.ir_tree.specs.declared.node.Operand.{Operand}
use Rattle.ir_tree.specs.declared.node.Operand.TheVariants as operand
use Rattle.ir_tree.specs.declared.node.Node.{Node}
use Rattle.ir_tree.specs.declared.node.Attributes.{Attributes}
use Rattle.ir_tree.specs.declared.node.Attributes.TheVariants as attributes
use Rattle.ir_tree.specs.Constants.{no_value}
use Rattle.ir_tree.specs.Operations.{element_at}
use Rattle.ir_tree.specs.NodeValues.{operand_value}
use Rattle.ir_tree.specs.NodeTypes.Types.{bits_width, is_tuple_where, passes, parts_there, same_type, each_same}
use Rattle.ir_tree.specs.Rules.Fitting.{type_in, type_or, types_behind, part_is, is_tuple_index, tuple_index_fits}
use Rattle.ir_tree.specs.Rules.Lines.{is_there}
use Rattle.ir_tree.proofs.Lemmas.Rules.Typed.Checked.{both_true}
use Rattle.ir_tree.proofs.Lemmas.Rules.Typed.Tests.{same_is, types_same, tuple_is}
use Rattle.ir_tree.proofs.Lemmas.Rules.Typed.Scopes.{on_tuple-Tuple}
use Rattle.ir_rebuild.specs.Built.{FitsAt, AreBuilt, OperandSimulates, is_plain_op}
use Rattle.ir_rebuild.proofs.Lemmas.{there_more}
use Rattle.pass_narrow.specs.declared.node_pattern.NodeReplacement.{NodeReplacement}
use Rattle.pass_narrow.specs.declared.node_pattern.NodeReplacement.TheVariants as right
use Rattle.pass_narrow.specs.Numbers.{number, IsNumber}
use Rattle.pass_narrow.specs.Views.{element_by, element_in, element_at as tuple_at, element_of}
use Rattle.pass_narrow.specs.Replacements as sides
use Rattle.pass_narrow.specs.Replacements.{replacement_of}
use Rattle.pass_narrow.specs.Inner.Meant.{IsReplacement, IsSliceOf, SaysOfSlice, slice_at}
use Rattle.pass_narrow.proofs.Numbers.{width_is, stands_of, result_as}
use Rattle.pass_narrow.proofs.Shown.{HasParts, IsWide, says_extension, SaysSlice, says_slice, says_operation, says_comparison, fitting, value_by_parts, is_named, named_value}
use Rattle.pass_narrow.proofs.Views.{none_some, SaysConcat, says_concat, joined_of, own_word}
use Rattle.pass_narrow.proofs.Rules.{slice_says, operation_says, comparison_says, extension_says}

-- ---- one number alone

one_value : (k : ℕ) → k * 2 ^ 0 + 0 ≡ k
one_value k = omega arith

one_number : (state : IrType) (nodes : List Node) (place : ℕ) (n : Node) (x : Operand) → SaysConcat state nodes place n (x ∷ []) → OperandSimulates state nodes n x
one_number state nodes place n x h =
    let all = h.numbers in
    let none = all.4 in
    let parts = all.5 in
    let same : all.0 ≡ h.total = omega (arith, none, parts) in
    stands_of state nodes n x h.total (subst (IsNumber state nodes x) same all.2)
    (result_as state nodes n h.total (λ s values. (joined_of s values (x ∷ [])).value) (λ s values. number s values x)
    (λ s values v. ap (λ (y : Word). y.value * 2 ^ 0 + 0) (own_word state nodes x all.0 all.2 s values v) ∙ one_value (number s values x))
    h.result)

-- ---- parts of tuples

value_there : (f : Operand → Value) (os : List Operand) (i : ℕ) (o : Operand) → slice_get os i ≡ Some o → get_or (map f os) i no_value ≡ f o
value_there f [] i o e = absurd (cc)
value_there f (x ∷ xs) zero o e = let same : x ≡ o = cc in ap f same
value_there f (x ∷ xs) (suc i) o e = value_there f xs i o e

passes_there : (p : Operand → Bool) (os : List Operand) (i : ℕ) (o : Operand) → IsTrue (list_all p os) → slice_get os i ≡ Some o → IsTrue (p o)
passes_there p [] i o h e = absurd (cc)
passes_there p (x ∷ xs) zero o h e = let same : x ≡ o = cc in subst (λ y. IsTrue (p y)) same (both_true (p x) (list_all p xs) h).0
passes_there p (x ∷ xs) (suc i) o h e = passes_there p xs i o (both_true (p x) (list_all p xs) h).1 e

tuple_test : (p : List IrType → Bool) (ts : List IrType) → is_tuple_where p (Tuple ts []) ≡ p ts
tuple_test p ts = ap (λ y. passes p (parts_there y)) (ir_views.outs-Tuple ts [])

part_type : (i : ℕ) (t : IrType) (ts : List IrType) (u : IrType) → slice_get ts i ≡ Some u → IsTrue (part_is i t ts) → IsTrue (same_type u t)
part_type i t ts u e h = let k = rw e at h in k

element_op : (index : ℕ) (os : List Operand) (o : Op) (x : Operand) → element_by index os o ≡ Some x → (o ≡ op.Tuple) × (slice_get os index ≡ Some x)
element_op index os op.Tuple x e = (refl, e)
element_op index os o x e = absurd (cc)

element_parts : (n : Node) (t : Attributes) (index : ℕ) (o : Operand) → n.attributes ≡ t → element_in index n.op n.operands t ≡ Some o → HasParts n op.Tuple n.operands attributes.None × (slice_get n.operands index ≡ Some o)
element_parts n attributes.None index o h e = let is = element_op index n.operands n.op o e in (record { op = is.0; operands = refl; attributes = h }, is.1)
element_parts n (attributes.StartAndWidth start width) index o h e = absurd (cc)
element_parts n (attributes.Width width) index o h e = absurd (cc)
element_parts n (attributes.NewBitCount width) index o h e = absurd (cc)
element_parts n (attributes.Cases cases default) index o h e = absurd (cc)
element_parts n (attributes.Index i) index o h e = absurd (cc)
element_parts n (attributes.Indices i) index o h e = absurd (cc)
element_parts n (attributes.Value c) index o h e = absurd (cc)
element_parts n (attributes.Channel predicate c) index o h e = absurd (cc)

element_stands : (state : IrType) (nodes : List Node) (n : Node) (x : Operand) (index : ℕ) (o : Operand) → AreBuilt state nodes → FitsAt state nodes (length nodes) n → HasParts n n.op (x ∷ []) (attributes.Index index) → element_of nodes index x ≡ Some o → OperandSimulates state nodes n o
element_stands state nodes n operand.State index o built fits_at p h = none_some (OperandSimulates state nodes n o) o h
element_stands state nodes n (operand.Node i) index o built fits_at p h = by (slice_get nodes i) refl
  where
    by : (m : Option Node) → slice_get nodes i ≡ m → OperandSimulates state nodes n o
    by None e = none_some (OperandSimulates state nodes n o) o (ap (tuple_at index) (sym e) ∙ h)
    by (Some m) e =
        let scope = types_behind state nodes in
        let q = element_parts m m.attributes index o refl (ap (tuple_at index) (sym e) ∙ h) in
        let named = is_named state nodes i m built e (ap is_plain_op q.0.op) in
        let own = built.fits_at i m e (ap is_plain_op q.0.op) in
        let less = slice_get_within nodes i m e in
        let r = tuple_is (λ ts. each_same (map same_type ts) (map (type_in scope) m.operands)) m.ty (fitting state nodes i m op.Tuple m.operands attributes.None own q.0) in
        let same : r.parts ≡ map (type_in scope) m.operands = types_same r.parts (map (type_in scope) m.operands) r.test in
        let whole : type_in scope (operand.Node i) ≡ Tuple (map (type_in scope) m.operands) [] = ap (type_or (Token [])) e ∙ r.is ∙ ap (λ ts. Tuple ts []) same in
        let fits = (both_true (is_tuple_index n.op) (tuple_index_fits index scope (operand.Node i ∷ []) n.ty) (fitting state nodes (length nodes) n n.op (operand.Node i ∷ []) (attributes.Index index) fits_at p)).1 in
        let one = (both_true (is_tuple_where (part_is index n.ty) (type_in scope (operand.Node i))) true fits).0 in
        let test : IsTrue (part_is index n.ty (map (type_in scope) m.operands)) = sym (ap (is_tuple_where (part_is index n.ty)) whole ∙ tuple_test (part_is index n.ty) (map (type_in scope) m.operands)) ∙ one in
        let there : slice_get (map (type_in scope) m.operands) index ≡ Some (type_in scope o) = slice_get-map (type_in scope) m.operands index ∙ ap (option_map (type_in scope)) q.1 in
        record {
          there = there_more i (length nodes) (omega (arith, less)) o (passes_there (is_there i) m.operands index o own.operands q.1);
          ty = same_is (type_in scope o) n.ty (part_type index n.ty (map (type_in scope) m.operands) (type_in scope o) there test);
          value = λ s values v.
              sym (value_by_parts n n.op (operand.Node i ∷ []) (attributes.Index index) s values p
              ∙ on_tuple-Tuple (element_at index) (operand_value s values (operand.Node i)) (map (operand_value s values) m.operands)
              (named_value state nodes (operand.Node i) m named s values v ∙ value_by_parts m op.Tuple m.operands attributes.None s values q.0)
              ∙ value_there (operand_value s values) m.operands index o q.1);
        }

-- ---- any node

right_of_slice : (state : IrType) (nodes : List Node) (n : Node) (x : Operand) (start w : ℕ) (r : NodeReplacement) → 1 ≤ w → w ≤ 128 → SaysOfSlice state nodes n (slice_at x start w w) r → IsReplacement state nodes n w r
right_of_slice state nodes n x start w (right.Operand o) some most h = subst (OperandSimulates state nodes n) h.2 (stands_of state nodes n x w h.0 h.1)
right_of_slice state nodes n x start w right.Zero some most h = record { some = some; most = most; result = h }
right_of_slice state nodes n x start w (right.Extension kind a) some most h = absurd h
right_of_slice state nodes n x start w (right.Slice y from) some most h = h
right_of_slice state nodes n x start w (right.LongerSlice y from width) some most h = h
right_of_slice state nodes n x start w (right.Operation o a b m) some most h = absurd h
right_of_slice state nodes n x start w (right.Comparison o a b m) some most h = absurd h

pub slice_of_node : (state : IrType) (nodes : List Node) (n : Node) (x : Operand) (start w : ℕ) → SaysSlice state nodes (length nodes) n x start w → IsSliceOf state nodes n (slice_at x start w w)
slice_of_node state nodes n x start w h = record {
  own = h.own;
  is = h.is;
  within = h.within;
  some = h.wide.some;
  longer = omega arith;
  most = h.wide.most;
  result = h.result;
}

pub right_says : (state : IrType) (nodes : List Node) (n : Node) (r : NodeReplacement) → AreBuilt state nodes → FitsAt state nodes (length nodes) n → replacement_of state nodes n ≡ Some r → IsReplacement state nodes n (bits_width n.ty) r
right_says state nodes n r built fits_at h = by n.attributes refl h
  where
    here : length nodes ≤ length nodes
    here = omega arith

    as_wide : (w : ℕ) → IsWide n.ty w → IsReplacement state nodes n w r → IsReplacement state nodes n (bits_width n.ty) r
    as_wide w wide k = subst (λ v. IsReplacement state nodes n v r) (sym (ap bits_width wide.ty ∙ width_is w)) k

    operation : (o : Binary) (os : List Operand) → n.op ≡ op.Binary o → n.operands ≡ os → n.attributes ≡ attributes.None → sides.operation_of state nodes o (bits_width n.ty) os ≡ Some r → IsReplacement state nodes n (bits_width n.ty) r
    operation o [] e f a g = none_some _ r g
    operation o (x ∷ []) e f a g = none_some _ r g
    operation o (x ∷ y ∷ []) e f a g =
        let says = says_operation state nodes (length nodes) n o x y here fits_at (record { op = e; operands = f; attributes = a }) in
        as_wide says.width says.wide
        (operation_says state nodes n o x y r built says (subst (λ k. sides.operation_of state nodes o k (x ∷ y ∷ []) ≡ Some r) (ap bits_width says.wide.ty ∙ width_is says.width) g))
    operation o (x ∷ y ∷ z ∷ os) e f a g = none_some _ r g

    comparison : (o : Compare) (os : List Operand) → n.op ≡ op.Compare o → n.operands ≡ os → n.attributes ≡ attributes.None → sides.comparison_of state nodes o os ≡ Some r → IsReplacement state nodes n (bits_width n.ty) r
    comparison o [] e f a g = none_some _ r g
    comparison o (x ∷ []) e f a g = none_some _ r g
    comparison o (x ∷ y ∷ []) e f a g =
        let says = says_comparison state nodes (length nodes) n o x y here fits_at (record { op = e; operands = f; attributes = a }) in
        comparison_says state nodes n o x y (bits_width n.ty) r built says g
    comparison o (x ∷ y ∷ z ∷ os) e f a g = none_some _ r g

    alone : (os : List Operand) → n.op ≡ op.Concat → n.operands ≡ os → n.attributes ≡ attributes.None → sides.concat_of os ≡ Some r → IsReplacement state nodes n (bits_width n.ty) r
    alone [] e f a g = none_some _ r g
    alone (x ∷ []) e f a g =
        let same : right.Operand x ≡ r = cc in
        subst (IsReplacement state nodes n (bits_width n.ty)) same (one_number state nodes (length nodes) n x (says_concat state nodes (length nodes) n (x ∷ []) here fits_at (record { op = e; operands = f; attributes = a })))
    alone (x ∷ y ∷ os) e f a g = none_some _ r g

    plain : (o : Op) → n.op ≡ o → n.attributes ≡ attributes.None → sides.plain_replacement state nodes o (bits_width n.ty) n.operands ≡ Some r → IsReplacement state nodes n (bits_width n.ty) r
    plain (op.Binary o) e a g = operation o n.operands e refl a g
    plain (op.Compare o) e a g = comparison o n.operands e refl a g
    plain op.Concat e a g = alone n.operands e refl a g
    plain o e a g = absurd (cc)

    slice : (start w : ℕ) (os : List Operand) → n.operands ≡ os → n.attributes ≡ attributes.StartAndWidth start w → sides.slice_of_one state nodes start w os ≡ Some r → IsReplacement state nodes n (bits_width n.ty) r
    slice start w [] f a g = none_some _ r g
    slice start w (x ∷ []) f a g =
        let says = says_slice state nodes (length nodes) n n.op x start w here fits_at (record { op = refl; operands = f; attributes = a }) in
        as_wide w says.wide
        (right_of_slice state nodes n x start w r says.wide.some says.wide.most ((slice_says state nodes (slice_at x start w w) r built g).1 n (slice_of_node state nodes n x start w says)))
    slice start w (x ∷ y ∷ os) f a g = none_some _ r g

    extension : (kind : Extend) (w : ℕ) (os : List Operand) → n.op ≡ op.Extend kind → n.operands ≡ os → n.attributes ≡ attributes.NewBitCount w → sides.extension_of state nodes kind w os ≡ Some r → IsReplacement state nodes n (bits_width n.ty) r
    extension kind w [] e f a g = none_some _ r g
    extension kind w (x ∷ []) e f a g =
        let says = says_extension state nodes (length nodes) n kind x w here fits_at (record { op = e; operands = f; attributes = a }) in
        as_wide w says.wide (extension_says state nodes (length nodes) n kind x w r built says g)
    extension kind w (x ∷ y ∷ os) e f a g = none_some _ r g

    extension_op : (o : Op) (w : ℕ) → n.op ≡ o → n.attributes ≡ attributes.NewBitCount w → sides.extension_by_op state nodes w n.operands o ≡ Some r → IsReplacement state nodes n (bits_width n.ty) r
    extension_op (op.Extend kind) w e a g = extension kind w n.operands e refl a g
    extension_op o w e a g = absurd (cc)

    element : (index : ℕ) (x : Operand) → HasParts n n.op (x ∷ []) (attributes.Index index) → (q : Option Operand) → element_of nodes index x ≡ q → sides.operand_if q ≡ Some r → IsReplacement state nodes n (bits_width n.ty) r
    element index x p None f g = none_some _ r g
    element index x p (Some o) f g =
        let same : right.Operand o ≡ r = cc in
        subst (IsReplacement state nodes n (bits_width n.ty)) same (element_stands state nodes n x index o built fits_at p f)

    part : (index : ℕ) (os : List Operand) → n.operands ≡ os → n.attributes ≡ attributes.Index index → sides.element_replacement nodes index os ≡ Some r → IsReplacement state nodes n (bits_width n.ty) r
    part index [] f a g = none_some _ r g
    part index (x ∷ []) f a g = element index x (record { op = refl; operands = f; attributes = a }) (element_of nodes index x) refl g
    part index (x ∷ y ∷ os) f a g = none_some _ r g

    by : (t : Attributes) → n.attributes ≡ t → sides.replacement_by state nodes n.op (bits_width n.ty) n.operands t ≡ Some r → IsReplacement state nodes n (bits_width n.ty) r
    by attributes.None a g = plain n.op refl a g
    by (attributes.StartAndWidth start width) a g = slice start width n.operands refl a g
    by (attributes.Width width) a g = none_some _ r g
    by (attributes.NewBitCount width) a g = extension_op n.op width refl a g
    by (attributes.Cases cases default) a g = none_some _ r g
    by (attributes.Index i) a g = part i n.operands refl a g
    by (attributes.Indices i) a g = none_some _ r g
    by (attributes.Value c) a g = none_some _ r g
    by (attributes.Channel predicate c) a g = none_some _ r g
