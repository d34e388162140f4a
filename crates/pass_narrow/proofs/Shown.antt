-- What nodes that stand in a list say: the numbers that they are.
use Rattle.std.proofs.Common.{◌≡◌, ℕ, ◌+◌, ◌<◌, ◌≤◌, List, [], ◌∷◌, length, Bool, true, ◌&&◌, IsTrue, Some, refl, sym, ap, subst, ◌∙◌, arith}
use Rattle.std.specs.Prelude.{slice_get, nat_eq, nat_le, nat_lt}
use Rattle.std.specs.List.{list_all}
use Rattle.std.proofs.lemmas.Bool.Decides.{nat_tests}
use Rattle.std.proofs.lemmas.Option.{slice_get_within}
use Rattle.xb_bits.specs.Parts.{slice_bits}
use Rattle.xb_value.specs.declared.value.Value.{Value}
use Rattle.delay_model.specs.declared.op.Op.{Op}
use Rattle.delay_model.specs.declared.op.Op.TheVariants as op
use Rattle.delay_model.specs.declared.op.Binary.{Binary}
use Rattle.delay_model.specs.declared.op.Compare.{Compare}
use Rattle.delay_model.specs.declared.op.Extend.{Extend}
use Rattle.delay_model.specs.Signatures.{is_met, count_of}
use Rattle.ir_tree.specs.declared.ir_type.IrType.{IrType, Bits, Token}
use Rattle.ir_tree.specs.declared.node.Operand.{Operand}
use Rattle.ir_tree.specs.declared.node.Operand.TheVariants as operand
use Rattle.ir_tree.specs.declared.node.Node.{Node}
use Rattle.ir_tree.specs.declared.node.Attributes.{Attributes}
use Rattle.ir_tree.specs.declared.node.Attributes.TheVariants as attributes
use Rattle.ir_tree.specs.NodeValues.{operand_value, pure_value}
use Rattle.ir_tree.specs.NodeTypes.Types.{is_bits_of, is_bits_where}
use Rattle.ir_tree.specs.Rules.Fitting.{type_in, type_or, types_behind, all_bits_of, is_bit_slice, slice_fits, types_fit, node_fits}
use Rattle.ir_tree.specs.Rules.Lines.{is_there, are_there, is_literal_of}
use Rattle.ir_tree.proofs.Lemmas.Rules.Typed.Checked.{both_true}
use Rattle.ir_tree.proofs.Lemmas.Rules.Typed.Tests.{IsLimited, limited, limited_bits, bits_is, nat_same}
use Rattle.ir_rebuild.specs.Built.{FitsAt, AreBuilt, AreValues, is_plain_op}
use Rattle.ir_rebuild.proofs.Lemmas.{there_more}
use Rattle.pass_narrow.specs.Numbers.{number, IsNumber}
use Rattle.pass_narrow.specs.Inner.Meant.{IsResult, extend_number, binary_number, compare_number}
use Rattle.pass_narrow.proofs.Numbers.{operand_bits}
use Rattle.pass_narrow.proofs.Made.{extend_values, slice_values, binary_values, compare_values}

-- ---- nodes by their parts

-- the node of these parts
abbrev pub parts : ℕ → IrType → Op → List Operand → Attributes → Node
parts id t o os a = record { id = id; ty = t; op = o; operands = os; attributes = a }

pub record HasParts (n : Node) (o : Op) (os : List Operand) (a : Attributes) : Type 0 where
  pub op : n.op ≡ o
  pub operands : n.operands ≡ os
  pub attributes : n.attributes ≡ a

pub by_parts : (n : Node) (o : Op) (os : List Operand) (a : Attributes) → HasParts n o os a → n ≡ parts n.id n.ty o os a
by_parts n o os a h = λ i. record { id = n.id; ty = n.ty; op = h.op i; operands = h.operands i; attributes = h.attributes i }

-- ---- widths

pub limited_node : (state : IrType) (nodes : List Node) (place : ℕ) (n : Node) → FitsAt state nodes place n → IsLimited n.ty
limited_node state nodes place n h = limited 0 n.ty 0 (both_true _ (is_literal_of n.ty n.attributes) h.typed).0 h.limits

pub record IsWide (t : IrType) (w : ℕ) : Type 0 where
  pub ty : t ≡ Bits w []
  pub some : 1 ≤ w
  pub most : w ≤ 128

pub wide_where : (p : ℕ → Bool) (t : IrType) → IsLimited t → IsTrue (is_bits_where p t) → (w : ℕ) × IsWide t w × IsTrue (p w)
wide_where p t l h =
    let b = bits_is p t h in
    let range = limited_bits b.width (subst IsLimited b.is l) in
    (b.width, record { ty = b.is; some = range.0; most = range.1 }, b.test)

pub wide_of : (w : ℕ) (t : IrType) → IsLimited t → IsTrue (is_bits_of w t) → IsWide t w
wide_of w t l h =
    let b = wide_where (nat_eq w) t l h in
    subst (IsWide t) (sym (nat_same w b.0 b.2)) b.1

-- an operand that stands before, of so many bits
pub number_where : (state : IrType) (nodes : List Node) (place : ℕ) (o : Operand) (p : ℕ → Bool) → place ≤ length nodes → IsTrue (is_there place o) → IsTrue (is_bits_where p (type_in (types_behind state nodes) o)) → (w : ℕ) × IsNumber state nodes o w × IsTrue (p w)
number_where state nodes place o p within there h =
    let b = bits_is p (type_in (types_behind state nodes) o) h in
    (b.width, record { there = there_more place (length nodes) within o there; ty = b.is }, b.test)

pub number_at : (state : IrType) (nodes : List Node) (place : ℕ) (o : Operand) (w : ℕ) → place ≤ length nodes → IsTrue (is_there place o) → IsTrue (is_bits_of w (type_in (types_behind state nodes) o)) → IsNumber state nodes o w
number_at state nodes place o w within there h =
    let b = number_where state nodes place o (nat_eq w) within there h in
    subst (IsNumber state nodes o) (sym (nat_same w b.0 b.2)) b.1

-- ---- what a node that fits says, by its parts

pub fitting : (state : IrType) (nodes : List Node) (place : ℕ) (n : Node) (o : Op) (os : List Operand) (a : Attributes) → FitsAt state nodes place n → HasParts n o os a → IsTrue (types_fit [] (types_behind state nodes) (parts n.id n.ty o os a) a)
fitting state nodes place n o os a h p =
    (both_true (is_met (count_of o) (length os)) (types_fit [] (types_behind state nodes) (parts n.id n.ty o os a) a) (subst (λ m. IsTrue (node_fits [] (types_behind state nodes) m)) (by_parts n o os a p) h.fits)).1

pub before_one : (state : IrType) (nodes : List Node) (place : ℕ) (n : Node) (x : Operand) → FitsAt state nodes place n → n.operands ≡ x ∷ [] → IsTrue (is_there place x)
before_one state nodes place n x h e = (both_true (is_there place x) true (subst (λ os. IsTrue (are_there place os)) e h.operands)).0

before_two : (state : IrType) (nodes : List Node) (place : ℕ) (n : Node) (x y : Operand) → FitsAt state nodes place n → n.operands ≡ x ∷ y ∷ [] → IsTrue (is_there place x) × IsTrue (is_there place y)
before_two state nodes place n x y h e =
    let both = both_true (is_there place x) (is_there place y && true) (subst (λ os. IsTrue (are_there place os)) e h.operands) in
    (both.0, (both_true (is_there place y) true both.1).0)

pub value_by_parts : (n : Node) (o : Op) (os : List Operand) (a : Attributes) (s : Value) (values : List Value) → HasParts n o os a → pure_value n s values ≡ pure_value (parts n.id n.ty o os a) s values
value_by_parts n o os a s values p = ap (λ m. pure_value m s values) (by_parts n o os a p)

-- ---- extensions

pub record SaysExtension (state : IrType) (nodes : List Node) (place : ℕ) (n : Node) (kind : Extend) (a : Operand) (w : ℕ) : Type 0 where
  pub own : ℕ
  pub is : IsNumber state nodes a own
  pub before : IsTrue (is_there place a)
  pub longer : own ≤ w
  pub wide : IsWide n.ty w
  pub result : IsResult state nodes n w (λ s values. extend_number kind own w (number s values a))

pub says_extension : (state : IrType) (nodes : List Node) (place : ℕ) (n : Node) (kind : Extend) (a : Operand) (w : ℕ) → place ≤ length nodes → FitsAt state nodes place n → HasParts n (op.Extend kind) (a ∷ []) (attributes.NewBitCount w) → SaysExtension state nodes place n kind a w
says_extension state nodes place n kind a w within h p =
    let scope = types_behind state nodes in
    let fits = both_true (is_bits_of w n.ty) (list_all (λ o. is_bits_where (λ v. nat_le v w) (type_in scope o)) (a ∷ [])) (fitting state nodes place n (op.Extend kind) (a ∷ []) (attributes.NewBitCount w) h p) in
    let one = both_true (is_bits_where (λ v. nat_le v w) (type_in scope a)) true fits.1 in
    let before = before_one state nodes place n a h p.operands in
    let x = number_where state nodes place a (λ v. nat_le v w) within before one.0 in
    let wide = wide_of w n.ty (limited_node state nodes place n h) fits.0 in
    let longer : x.0 ≤ w = grind (arith, nat_tests, x.2) in
    let most = wide.most in
    record {
      own = x.0;
      is = x.1;
      before = before;
      longer = longer;
      wide = wide;
      result = record {
        ty = wide.ty;
        value = λ s values v.
            value_by_parts n (op.Extend kind) (a ∷ []) (attributes.NewBitCount w) s values p
            ∙ extend_values kind x.0 w (operand_value s values a) (number s values a) longer most (operand_bits state nodes a x.0 x.1 s values v).is;
      };
    }

-- ---- slices

pub record SaysSlice (state : IrType) (nodes : List Node) (place : ℕ) (n : Node) (x : Operand) (start w : ℕ) : Type 0 where
  pub own : ℕ
  pub is : IsNumber state nodes x own
  pub before : IsTrue (is_there place x)
  pub within : start + w ≤ own
  pub wide : IsWide n.ty w
  pub result : IsResult state nodes n w (λ s values. slice_bits (number s values x) start w)

pub says_slice : (state : IrType) (nodes : List Node) (place : ℕ) (n : Node) (o : Op) (x : Operand) (start w : ℕ) → place ≤ length nodes → FitsAt state nodes place n → HasParts n o (x ∷ []) (attributes.StartAndWidth start w) → SaysSlice state nodes place n x start w
says_slice state nodes place n o x start w within h p =
    let scope = types_behind state nodes in
    let fits = both_true (is_bits_of w n.ty) (list_all (λ o. is_bits_where (nat_le (start + w)) (type_in scope o)) (x ∷ [])) (both_true (is_bit_slice o) (slice_fits start w scope (x ∷ []) n.ty) (fitting state nodes place n o (x ∷ []) (attributes.StartAndWidth start w) h p)).1 in
    let one = both_true (is_bits_where (nat_le (start + w)) (type_in scope x)) true fits.1 in
    let before = before_one state nodes place n x h p.operands in
    let y = number_where state nodes place x (nat_le (start + w)) within before one.0 in
    let wide = wide_of w n.ty (limited_node state nodes place n h) fits.0 in
    let inside : start + w ≤ y.0 = grind (arith, nat_tests, y.2) in
    let some = wide.some in
    record {
      own = y.0;
      is = y.1;
      before = before;
      within = inside;
      wide = wide;
      result = record {
        ty = wide.ty;
        value = λ s values v.
            value_by_parts n o (x ∷ []) (attributes.StartAndWidth start w) s values p
            ∙ slice_values y.0 start w (operand_value s values x) (number s values x) some inside (operand_bits state nodes x y.0 y.1 s values v).is;
      };
    }

-- ---- operations and comparisons

pub record SaysOperation (state : IrType) (nodes : List Node) (n : Node) (o : Binary) (x y : Operand) : Type 0 where
  pub width : ℕ
  pub wide : IsWide n.ty width
  pub first : IsNumber state nodes x width
  pub second : IsNumber state nodes y width
  pub result : IsResult state nodes n width (λ s values. binary_number o width (number s values x) (number s values y))

pub says_operation : (state : IrType) (nodes : List Node) (place : ℕ) (n : Node) (o : Binary) (x y : Operand) → place ≤ length nodes → FitsAt state nodes place n → HasParts n (op.Binary o) (x ∷ y ∷ []) attributes.None → SaysOperation state nodes n o x y
says_operation state nodes place n o x y within h p =
    let scope = types_behind state nodes in
    let wide = wide_where (λ w. all_bits_of w scope (x ∷ y ∷ [])) n.ty (limited_node state nodes place n h) (fitting state nodes place n (op.Binary o) (x ∷ y ∷ []) attributes.None h p) in
    let one = both_true (is_bits_of wide.0 (type_in scope x)) (is_bits_of wide.0 (type_in scope y) && true) wide.2 in
    let two = both_true (is_bits_of wide.0 (type_in scope y)) true one.1 in
    let before = before_two state nodes place n x y h p.operands in
    let a = number_at state nodes place x wide.0 within before.0 one.0 in
    let b = number_at state nodes place y wide.0 within before.1 two.0 in
    record {
      width = wide.0;
      wide = wide.1;
      first = a;
      second = b;
      result = record {
        ty = wide.1.ty;
        value = λ s values v.
            value_by_parts n (op.Binary o) (x ∷ y ∷ []) attributes.None s values p
            ∙ binary_values o wide.0 (operand_value s values x) (operand_value s values y) (number s values x) (number s values y) (operand_bits state nodes x wide.0 a s values v).is (operand_bits state nodes y wide.0 b s values v).is;
      };
    }

pub record SaysComparison (state : IrType) (nodes : List Node) (n : Node) (o : Compare) (x y : Operand) : Type 0 where
  pub width : ℕ
  pub first : IsNumber state nodes x width
  pub second : IsNumber state nodes y width
  pub result : IsResult state nodes n 1 (λ s values. compare_number o width (number s values x) (number s values y))

pub says_comparison : (state : IrType) (nodes : List Node) (place : ℕ) (n : Node) (o : Compare) (x y : Operand) → place ≤ length nodes → FitsAt state nodes place n → HasParts n (op.Compare o) (x ∷ y ∷ []) attributes.None → SaysComparison state nodes n o x y
says_comparison state nodes place n o x y within h p =
    let scope = types_behind state nodes in
    let fits = both_true (is_bits_where (λ w. all_bits_of w scope (y ∷ [])) (type_in scope x)) (is_bits_of 1 n.ty) (fitting state nodes place n (op.Compare o) (x ∷ y ∷ []) attributes.None h p) in
    let before = before_two state nodes place n x y h p.operands in
    let a = number_where state nodes place x (λ w. all_bits_of w scope (y ∷ [])) within before.0 fits.0 in
    let two = both_true (is_bits_of a.0 (type_in scope y)) true a.2 in
    let b = number_at state nodes place y a.0 within before.1 two.0 in
    let wide = wide_of 1 n.ty (limited_node state nodes place n h) fits.1 in
    record {
      width = a.0;
      first = a.1;
      second = b;
      result = record {
        ty = wide.ty;
        value = λ s values v.
            value_by_parts n (op.Compare o) (x ∷ y ∷ []) attributes.None s values p
            ∙ compare_values o a.0 (operand_value s values x) (operand_value s values y) (number s values x) (number s values y) (operand_bits state nodes x a.0 a.1 s values v).is (operand_bits state nodes y a.0 b s values v).is;
      };
    }

-- ---- a node at a place of the list

-- the operand names this node of the list, which stands there as it can
pub record IsNamed (state : IrType) (nodes : List Node) (x : Operand) (n : Node) : Type 0 where
  pub place : ℕ
  pub is : x ≡ operand.Node place
  pub there : slice_get nodes place ≡ Some n
  pub within : place < length nodes
  pub fits_at : FitsAt state nodes place n
  pub plain : is_plain_op n.op ≡ true

pub is_named : (state : IrType) (nodes : List Node) (place : ℕ) (n : Node) → AreBuilt state nodes → slice_get nodes place ≡ Some n → is_plain_op n.op ≡ true → IsNamed state nodes (operand.Node place) n
is_named state nodes place n built e plain = record { place = place; is = refl; there = e; within = slice_get_within nodes place n e; fits_at = built.fits_at place n e plain; plain = plain }

-- its value is the operand's
pub named_value : (state : IrType) (nodes : List Node) (x : Operand) (n : Node) → IsNamed state nodes x n → (s : Value) (values : List Value) → AreValues state nodes s values → operand_value s values x ≡ pure_value n s values
named_value state nodes x n h s values v = ap (operand_value s values) h.is ∙ v.plain h.place n h.there h.plain

pub named_number : (state : IrType) (nodes : List Node) (x : Operand) (n : Node) (w : ℕ) → IsNamed state nodes x n → IsWide n.ty w → IsNumber state nodes x w
named_number state nodes x n w h wide =
    let less = h.within in
    let test : nat_lt h.place (length nodes) ≡ true = grind (arith, nat_tests, less) in
    record {
      there = subst (λ o. IsTrue (is_there (length nodes) o)) (sym h.is) test;
      ty = ap (type_in (types_behind state nodes)) h.is ∙ ap (type_or (Token [])) h.there ∙ wide.ty;
    }
