-- The type of a node over literals has no token.
use Rattle.std.proofs.Common.{◌≡◌, ℕ, zero, suc, List, [], ◌∷◌, map, length, Bool, true, false, ◌&&◌, Option, Some, None, refl, sym, ap, ◌∙◌}
use Rattle.std.specs.Prelude.{slice_get, nat_eq, not, sum, ◌||◌}
use Rattle.std.specs.List.{list_all}
use Rattle.delay_model.specs.declared.op.Op.{Op}
use Rattle.delay_model.specs.declared.op.Op.TheVariants as op
use Rattle.delay_model.specs.Signatures.{is_met, count_of}
use Rattle.ir_tree.specs.declared.ir_type.IrType.{IrType, Bits, Token, Tuple, out-IrType}
use Rattle.ir_tree.specs.declared.ir_type.IrType.TheOpen.{IrType-F}
use Rattle.ir_tree.specs.declared.ir_type.IrType.TheViews.{outs-Bits, outs-Token}
use Rattle.ir_tree.specs.declared.ir_type.IrType.TheViews as views
use Rattle.ir_tree.specs.declared.node.Operand.{Operand}
use Rattle.ir_tree.specs.declared.node.Operand.TheVariants as operand
use Rattle.ir_tree.specs.declared.node.Node.{Node}
use Rattle.ir_tree.specs.declared.node.Attributes.{Attributes}
use Rattle.ir_tree.specs.declared.node.Attributes.TheVariants as attributes
use Rattle.ir_tree.specs.Types.{ty_of}
use Rattle.ir_tree.specs.NodeTypes.Types.{marks_of, any_token, same_type, each_same, is_bits_of, is_bits_where, is_tuple_where, is_array_of, is_array_sized, bits_like, token_like, tuple_like, element_like, bits_width}
use Rattle.ir_tree.specs.NodeTypes.Constants.{constant_fits}
use Rattle.ir_tree.specs.declared.node_types.types.Marks.{Marks}
use Rattle.ir_tree.proofs.Lemmas.NodeTypes.IrTypes.{type_cases}
use Rattle.ir_tree.specs.Rules.Fitting.{Types, type_in, type_or, types_behind, types_fit, plain_fits, compare_fits, all_bits, all_bits_of, is_bit_slice, is_dynamic_bit_slice, is_extend, is_tuple_index, slice_fits, dynamic_fits, extend_fits, tuple_index_fits, index_fits, update_fits, part_is}
use Rattle.ir_tree.specs.Rules.Lines.{is_literal_of}
use Rattle.ir_tree.proofs.Lemmas.Rules.Typed.Tests.{bits_is, tuple_is, types_same, same_is, marks-Bits, marks-Tuple, marks-Token}
use Rattle.ir_rebuild.specs.Built.{FitsAt, AreBuilt, is_plain_op}
use Rattle.ir_rebuild.proofs.Lemmas.Normal.{op_is_literal, constant_there}
use Rattle.pass_fold.specs.Folds.{is_literal_node, is_literal, are_folded, is_foldable, is_foldable_by}
use Rattle.pass_fold.proofs.Values.{same_op, folded_all}

both : (a b : Bool) → a && b ≡ true → (a ≡ true) × (b ≡ true)
both true true h = (refl, refl)
both true false h = absurd (cc)
both false b h = absurd (cc)

negated : (b : Bool) → not b ≡ true → b ≡ false
negated true h = absurd (cc)
negated false h = refl

abbrev has_token : IrType → Bool
has_token t = (marks_of t).token

-- ---- types

bits_have_none : (w : ℕ) (ns : List ℕ) → has_token (Bits w ns) ≡ false
bits_have_none w ns = ap (λ (m : Marks). m.token) (marks-Bits w ns)

where_bits : (p : ℕ → Bool) (t : IrType) → is_bits_where p t ≡ true → has_token t ≡ false
where_bits p t h = let is = bits_is p t h in ap has_token is.is ∙ bits_have_none is.width []

tuple_token : (ts : List IrType) (ns : List ℕ) → has_token (Tuple ts ns) ≡ any_token (map marks_of ts)
tuple_token ts ns = ap (λ (m : Marks). m.token) (marks-Tuple ts ns)

-- an array has one where its elements have
bits_element : (w v : ℕ) (ns : List ℕ) (t : IrType) → bits_like w ns (out-IrType t) ≡ true → has_token t ≡ false
bits_element w v ns = type_cases (λ t. bits_like w ns (out-IrType t) ≡ true → has_token t ≡ false)
    (λ u ms h. bits_have_none u ms)
    (λ ms h. let never : false ≡ true = sym (ap (bits_like w ns) (outs-Token ms)) ∙ h in absurd (cc))
    (λ us ms h. let never : false ≡ true = sym (ap (bits_like w ns) (views.outs-Tuple us ms)) ∙ h in absurd (cc))

token_element : (ns : List ℕ) (t : IrType) → token_like ns (out-IrType t) ≡ true → has_token t ≡ true
token_element ns = type_cases (λ t. token_like ns (out-IrType t) ≡ true → has_token t ≡ true)
    (λ v ms h. let never : false ≡ true = sym (ap (token_like ns) (outs-Bits v ms)) ∙ h in absurd (cc))
    (λ ms h. ap (λ (m : Marks). m.token) (marks-Token ms))
    (λ us ms h. let never : false ≡ true = sym (ap (token_like ns) (views.outs-Tuple us ms)) ∙ h in absurd (cc))

tuple_element : (ts : List IrType) (ns : List ℕ) (t : IrType) → tuple_like (map same_type ts) ns (out-IrType t) ≡ true → has_token t ≡ any_token (map marks_of ts)
tuple_element ts ns = type_cases (λ t. tuple_like (map same_type ts) ns (out-IrType t) ≡ true → has_token t ≡ any_token (map marks_of ts))
    (λ v ms h. let never : false ≡ true = sym (ap (tuple_like (map same_type ts) ns) (outs-Bits v ms)) ∙ h in absurd (cc))
    (λ ms h. let never : false ≡ true = sym (ap (tuple_like (map same_type ts) ns) (outs-Token ms)) ∙ h in absurd (cc))
    (λ us ms h.
    let same = types_same ts us (both (each_same (map same_type ts) us) _ (sym (ap (tuple_like (map same_type ts) ns) (views.outs-Tuple us ms)) ∙ h)).0 in
    tuple_token us ms ∙ ap (λ xs. any_token (map marks_of xs)) (sym same))

bits_array : (w : ℕ) (ns : List ℕ) (t : IrType) → element_like (IrType-F.Bits w ns) t ≡ true → has_token t ≡ has_token (Bits w ns)
bits_array w [] t h = absurd (cc)
bits_array w (n ∷ ns) t h = bits_element w 0 ns t h ∙ sym (bits_have_none w (n ∷ ns))

token_array : (ns : List ℕ) (t : IrType) → element_like (IrType-F.Token ns) t ≡ true → has_token t ≡ has_token (Token ns)
token_array [] t h = absurd (cc)
token_array (n ∷ ns) t h = token_element ns t h ∙ sym (ap (λ (m : Marks). m.token) (marks-Token (n ∷ ns)))

tuple_array : (ts : List IrType) (ns : List ℕ) (t : IrType) → element_like (IrType-F.Tuple ts ns) t ≡ true → has_token t ≡ has_token (Tuple ts ns)
tuple_array ts [] t h = absurd (cc)
tuple_array ts (n ∷ ns) t h = tuple_element ts ns t h ∙ sym (tuple_token ts (n ∷ ns))

array_token : (a t : IrType) → is_array_of a t ≡ true → has_token t ≡ has_token a
array_token = type_cases (λ a. (t : IrType) → is_array_of a t ≡ true → has_token t ≡ has_token a)
    (λ w ns t h. bits_array w ns t (sym (ap (λ y. element_like y t) (outs-Bits w ns)) ∙ h))
    (λ ns t h. token_array ns t (sym (ap (λ y. element_like y t) (outs-Token ns)) ∙ h))
    (λ ts ns t h. tuple_array ts ns t (sym (ap (λ y. element_like y t) (views.outs-Tuple ts ns)) ∙ h))

-- ---- literals

literal_free : (state : IrType) (nodes : List Node) → AreBuilt state nodes → (o : Operand) → is_literal nodes o ≡ true → has_token (type_in (types_behind state nodes) o) ≡ false
literal_free state nodes built operand.State h = absurd (cc)
literal_free state nodes built (operand.Node i) h = by (slice_get nodes i) refl h
  where
    by : (x : Option Node) → slice_get nodes i ≡ x → is_literal_node x ≡ true → has_token (type_or (Token []) (slice_get nodes i)) ≡ false
    by None e k = absurd (cc)
    by (Some m) e k =
        let literal = op_is_literal m.op (same_op m.op k) in
        let fits_at = built.fits_at i m e (ap is_plain_op literal) in
        let scope = types_behind state nodes in
        let written = constant_there scope m m.attributes literal (both (is_met (count_of m.op) (length m.operands)) (types_fit [] scope m m.attributes) fits_at.fits).1 in
        let own : is_literal_of m.ty (attributes.Value written.0) ≡ true = ap (is_literal_of m.ty) (sym written.1) ∙ (both (marks_of m.ty).sound (is_literal_of m.ty m.attributes) fits_at.typed).1 in
        ap (λ x. has_token (type_or (Token []) x)) e ∙ negated (has_token m.ty) (both (not (has_token m.ty)) (constant_fits (ty_of m.ty) written.0) own).0

or_parts : (a b : Bool) → a || b ≡ false → (a ≡ false) × (b ≡ false)
or_parts true b h = absurd (cc)
or_parts false b h = (refl, h)

or_none : (a b : Bool) → a ≡ false → b ≡ false → a || b ≡ false
or_none true b h k = absurd (cc)
or_none false b h k = k

none_free : (state : IrType) (nodes : List Node) → AreBuilt state nodes → (os : List Operand) → list_all (is_literal nodes) os ≡ true → any_token (map marks_of (map (type_in (types_behind state nodes)) os)) ≡ false
none_free state nodes built [] h = refl
none_free state nodes built (o ∷ os) h =
    let parts = both (is_literal nodes o) (list_all (is_literal nodes) os) h in
    or_none (has_token (type_in (types_behind state nodes) o)) (any_token (map marks_of (map (type_in (types_behind state nodes)) os))) (literal_free state nodes built o parts.0) (none_free state nodes built os parts.1)

part_free : (ts : List IrType) (i : ℕ) (t : IrType) → any_token (map marks_of ts) ≡ false → part_is i t ts ≡ true → has_token t ≡ false
part_free [] i t h k = absurd (cc)
part_free (u ∷ us) zero t h k = sym (ap has_token (same_is u t k)) ∙ (or_parts (has_token u) (any_token (map marks_of us)) h).0
part_free (u ∷ us) (suc i) t h k = part_free us i t (or_parts (has_token u) (any_token (map marks_of us)) h).1 k

-- ---- nodes

module _ (state : IrType) (nodes : List Node) (built : AreBuilt state nodes) where
  scope : Types
  scope = types_behind state nodes

  plain_free : (o : Op) (os : List Operand) (t : IrType) → are_folded nodes os ≡ true → plain_fits o (types_behind state nodes) os t ≡ true → is_plain_op o ≡ true → has_token t ≡ false
  plain_free (op.Binary b) os t l h p = where_bits (λ w. all_bits_of w (types_behind state nodes) os) t h
  plain_free (op.Unary b) os t l h p = where_bits (λ w. all_bits_of w (types_behind state nodes) os) t h
  plain_free (op.Compare b) os t l h p = where_bits (nat_eq 1) t (both (compare_fits (types_behind state nodes) os) (is_bits_of 1 t) h).1
  plain_free (op.Shift b) [] t l h p = absurd (cc)
  plain_free (op.Shift b) (a ∷ os) t l h p =
      where_bits (λ w. is_bits_of w (type_in (types_behind state nodes) a)) t (both (is_bits_where (λ w. is_bits_of w (type_in (types_behind state nodes) a)) t) (all_bits (types_behind state nodes) os) h).0
  plain_free (op.Reduce b) os t l h p = where_bits (nat_eq 1) t (both (all_bits (types_behind state nodes) os) (is_bits_of 1 t) h).1
  plain_free op.Concat os t l h p =
      where_bits (λ w. nat_eq (sum (map (λ o. bits_width (type_in (types_behind state nodes) o)) os)) w) t (both (all_bits (types_behind state nodes) os) (is_bits_where (λ w. nat_eq (sum (map (λ o. bits_width (type_in (types_behind state nodes) o)) os)) w) t) h).1
  plain_free op.Tuple os t l h p =
      let is = tuple_is (λ ts. each_same (map same_type ts) (map (type_in (types_behind state nodes)) os)) t h in
      let parts = types_same is.parts (map (type_in (types_behind state nodes)) os) is.test in
      ap has_token is.is ∙ tuple_token is.parts [] ∙ ap (λ ts. any_token (map marks_of ts)) parts ∙ none_free state nodes built os (folded_all nodes os l)
  plain_free op.Array [] t l h p = absurd (cc)
  plain_free op.Array (a ∷ os) t l h p =
      let array = (both (is_array_of t (type_in (types_behind state nodes) a)) _ (both (is_array_sized (length (a ∷ os)) t) _ h).1).0 in
      sym (array_token t (type_in (types_behind state nodes) a) array) ∙ literal_free state nodes built a (both (is_literal nodes a) (list_all (is_literal nodes) os) l).0
  plain_free op.AfterAll os t l h p = absurd (cc)
  plain_free o os t l h p = absurd (cc)

  index_free : (o : Op) (i : Operand) (os : List Operand) (t : IrType) (k : ℕ) → list_all (is_literal nodes) os ≡ true → is_met (count_of o) (length os) ≡ true → index_fits o i (types_behind state nodes) os t ≡ true → has_token t ≡ false
  index_free op.ArrayIndex i [] t k l m h = absurd (cc)
  index_free op.ArrayIndex i (a ∷ os) t k l m h =
      let array = (both (is_array_of (type_in (types_behind state nodes) a) t) _ (both _ (list_all (λ o. is_array_of (type_in (types_behind state nodes) o) t) (a ∷ os)) h).1).0 in
      array_token (type_in (types_behind state nodes) a) t array ∙ literal_free state nodes built a (both (is_literal nodes a) (list_all (is_literal nodes) os) l).0
  index_free op.ArrayUpdate i [] t k l m h = absurd (cc)
  index_free op.ArrayUpdate i (a ∷ os) t k l m h =
      let same = (both (same_type t (type_in (types_behind state nodes) a)) _ (both _ (update_fits (types_behind state nodes) (a ∷ os) t) h).1).0 in
      ap has_token (same_is t (type_in (types_behind state nodes) a) same) ∙ literal_free state nodes built a (both (is_literal nodes a) (list_all (is_literal nodes) os) l).0
  index_free o i os t k l m h = absurd (cc)

  element_free : (i : ℕ) (os : List Operand) (t : IrType) → are_folded nodes os ≡ true → tuple_index_fits i (types_behind state nodes) os t ≡ true → has_token t ≡ false
  element_free i [] t l h = absurd (cc)
  element_free i (a ∷ os) t l h =
      let is = tuple_is (part_is i t) (type_in (types_behind state nodes) a) (both (is_tuple_where (part_is i t) (type_in (types_behind state nodes) a)) _ h).0 in
      part_free is.parts i t
      (sym (ap has_token is.is ∙ tuple_token is.parts []) ∙ literal_free state nodes built a (both (is_literal nodes a) (list_all (is_literal nodes) os) l).0)
      is.test

  by_attributes : (n : Node) (a : Attributes) → is_plain_op n.op ≡ true → is_foldable_by nodes n.operands a ≡ true → is_met (count_of n.op) (length n.operands) ≡ true → types_fit [] (types_behind state nodes) n a ≡ true → has_token n.ty ≡ false
  by_attributes n attributes.None p h m f = plain_free n.op n.operands n.ty h f p
  by_attributes n (attributes.StartAndWidth start width) p h m f =
      where_bits (nat_eq width) n.ty (both (is_bits_of width n.ty) _ (both (is_bit_slice n.op) (slice_fits start width (types_behind state nodes) n.operands n.ty) f).1).0
  by_attributes n (attributes.Width width) p h m f =
      where_bits (nat_eq width) n.ty (both (is_bits_of width n.ty) _ (both (is_dynamic_bit_slice n.op) (dynamic_fits width (types_behind state nodes) n.operands n.ty) f).1).0
  by_attributes n (attributes.NewBitCount width) p h m f =
      where_bits (nat_eq width) n.ty (both (is_bits_of width n.ty) _ (both (is_extend n.op) (extend_fits width (types_behind state nodes) n.operands n.ty) f).1).0
  by_attributes n (attributes.Cases cases default) p h m f = absurd (cc)
  by_attributes n (attributes.Index i) p h m f = element_free i n.operands n.ty h (both (is_tuple_index n.op) (tuple_index_fits i (types_behind state nodes) n.operands n.ty) f).1
  by_attributes n (attributes.Indices i) p h m f = index_free n.op i n.operands n.ty 0 (both (is_literal nodes i) (list_all (is_literal nodes) n.operands) h).1 m f
  by_attributes n (attributes.Value c) p h m f = absurd (cc)
  by_attributes n (attributes.Channel predicate c) p h m f = absurd (cc)

pub no_token : (state : IrType) (nodes : List Node) (n : Node) → AreBuilt state nodes → FitsAt state nodes (length nodes) n → is_plain_op n.op ≡ true → is_foldable nodes n ≡ true → has_token n.ty ≡ false
no_token state nodes n built fits_at plain h =
    let parts = both (is_met (count_of n.op) (length n.operands)) (types_fit [] (types_behind state nodes) n n.attributes) fits_at.fits in
    by_attributes state nodes built n n.attributes plain h parts.0 parts.1
