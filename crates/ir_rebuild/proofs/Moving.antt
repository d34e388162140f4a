-- A node over operands that stand elsewhere fits as it did, and has the value that it had.
use Rattle.std.proofs.Common.{◌≡◌, ℕ, zero, suc, List, [], ◌∷◌, ◌++◌, map, length, sum, Bool, true, false, ◌&&◌, Option, Some, None, refl, sym, ap, ap₂, ◌∙◌}
use Rattle.std.specs.Prelude.{option_map, nat_eq, nat_le, ◌+◌}
use Rattle.std.specs.List.{list_all}
use Rattle.std.proofs.lemmas.List.{length-map}
use Rattle.std.proofs.lemmas.List.Folds.{list_all-append}
use Rattle.xb_value.specs.declared.value.Value.{Value}
use Rattle.delay_model.specs.declared.op.Op.{Op}
use Rattle.delay_model.specs.declared.op.Op.TheVariants as op
use Rattle.delay_model.specs.Signatures.{is_met, count_of}
use Rattle.ir_tree.specs.declared.ir_type.IrType.{IrType}
use Rattle.ir_tree.specs.declared.node.Operand.{Operand}
use Rattle.ir_tree.specs.declared.node.Node.{Node}
use Rattle.ir_tree.specs.declared.node.Attributes.{Attributes}
use Rattle.ir_tree.specs.declared.node.Attributes.TheVariants as attributes
use Rattle.ir_tree.specs.declared.package.Channel.{Channel}
use Rattle.ir_tree.specs.Operations.{plain_value, of_one, of_two, on_word, on_words, on_tuple, slice_value, dyn_slice_value, chosen, element_at, index_value, longer_value}
use Rattle.ir_tree.specs.NodeValues.{operand_value, optional_value, pure_value, channel_type}
use Rattle.ir_tree.specs.NodeTypes.Types.{is_token, is_bits, is_bits_of, is_bits_where, bits_width, same_type, each_same, is_array_of, is_array_sized, is_tuple_where}
use Rattle.ir_tree.specs.Rules.Fitting.{Types, type_in, compare_fits, shift_fits, concat_fits, elements_fit, parts_fit, plain_fits, cases_count, is_like, sel_fits, part_is, update_fits, index_fits, predicate_fits, first_is_token, rest_of, sends_type, site_fits, types_fit, node_fits, is_bit_slice, is_dynamic_bit_slice, is_extend, is_sel, is_tuple_index}
use Rattle.ir_rebuild.specs.Operands.{optional_operand, attribute_operands, operands_in}
use Rattle.ir_rebuild.specs.Moves.{moved_attributes, moved_node}

pub both : (a b : Bool) → a && b ≡ true → (a ≡ true) × (b ≡ true)
both true true h = (refl, refl)
both true false h = absurd (cc)
both false b h = absurd (cc)

pub and_both : (a b : Bool) → a ≡ true → b ≡ true → a && b ≡ true
and_both true b h k = k
and_both false b h k = absurd (cc)

pub all_parts : (p : Operand → Bool) (xs ys : List Operand) → list_all p (xs ++ ys) ≡ true → (list_all p xs ≡ true) × (list_all p ys ≡ true)
all_parts p xs ys h = both _ _ (sym (list_all-append p xs ys) ∙ h)

-- ---- types

-- operands that pass the test have the types that they had
abbrev pub SameTypes : (Operand → Bool) → (Operand → Operand) → Types → Types → Type 0
SameTypes p f old new = (o : Operand) → p o ≡ true → type_in new (f o) ≡ type_in old o

all_moved : (p : Operand → Bool) (f : Operand → Operand) (old new : Types) (h : SameTypes p f old new) (q : IrType → Bool) (os : List Operand) → list_all p os ≡ true → list_all (λ o. q (type_in new o)) (map f os) ≡ list_all (λ o. q (type_in old o)) os
all_moved p f old new h q [] k = refl
all_moved p f old new h q (o ∷ os) k =
    let parts = both (p o) (list_all p os) k in
    ap₂ (λ a b. a && b) (ap q (h o parts.0)) (all_moved p f old new h q os parts.1)

pub map_moved : {A : Type 0} (p : Operand → Bool) (f : Operand → Operand) (g k : Operand → A) → ((o : Operand) → p o ≡ true → g (f o) ≡ k o) → (os : List Operand) → list_all p os ≡ true → map g (map f os) ≡ map k os
map_moved p f g k h [] a = refl
map_moved p f g k h (o ∷ os) a =
    let parts = both (p o) (list_all p os) a in
    ap₂ (λ x xs. x ∷ xs) (h o parts.0) (map_moved p f g k h os parts.1)

compare_moved : (p : Operand → Bool) (f : Operand → Operand) (old new : Types) (h : SameTypes p f old new) (os : List Operand) → list_all p os ≡ true → compare_fits new (map f os) ≡ compare_fits old os
compare_moved p f old new h [] k = refl
compare_moved p f old new h (a ∷ os) k =
    let parts = both (p a) (list_all p os) k in
    ap₂ is_bits_where (λ i w. all_moved p f old new h (is_bits_of w) os parts.1 i) (h a parts.0)

shift_moved : (p : Operand → Bool) (f : Operand → Operand) (old new : Types) (h : SameTypes p f old new) (os : List Operand) (t : IrType) → list_all p os ≡ true → shift_fits new (map f os) t ≡ shift_fits old os t
shift_moved p f old new h [] t k = refl
shift_moved p f old new h (a ∷ os) t k =
    let parts = both (p a) (list_all p os) k in
    ap₂ (λ x y. x && y) (ap (λ q. is_bits_where q t) (λ i w. ap (is_bits_of w) (h a parts.0) i)) (all_moved p f old new h is_bits os parts.1)

concat_moved : (p : Operand → Bool) (f : Operand → Operand) (old new : Types) (h : SameTypes p f old new) (os : List Operand) (t : IrType) → list_all p os ≡ true → concat_fits new (map f os) t ≡ concat_fits old os t
concat_moved p f old new h os t k =
    ap₂ (λ x y. x && y) (all_moved p f old new h is_bits os k)
    (ap (λ ws. is_bits_where (λ w. nat_eq (sum ws) w) t) (map_moved p f (λ o. bits_width (type_in new o)) (λ o. bits_width (type_in old o)) (λ o a. ap bits_width (h o a)) os k))

elements_moved : (p : Operand → Bool) (f : Operand → Operand) (old new : Types) (h : SameTypes p f old new) (os : List Operand) (t : IrType) → list_all p os ≡ true → elements_fit new (map f os) t ≡ elements_fit old os t
elements_moved p f old new h os t k =
    ap₂ (λ x y. x && y) (ap (λ n. is_array_sized n t) (length-map os f)) (all_moved p f old new h (is_array_of t) os k)

parts_moved : (p : Operand → Bool) (f : Operand → Operand) (old new : Types) (h : SameTypes p f old new) (os : List Operand) (t : IrType) → list_all p os ≡ true → parts_fit new (map f os) t ≡ parts_fit old os t
parts_moved p f old new h os t k =
    ap (λ us. is_tuple_where (λ ts. each_same (map same_type ts) us) t) (map_moved p f (type_in new) (type_in old) h os k)

plain_moved : (p : Operand → Bool) (f : Operand → Operand) (old new : Types) (h : SameTypes p f old new) (o : Op) (os : List Operand) (t : IrType) → list_all p os ≡ true → plain_fits o new (map f os) t ≡ plain_fits o old os t
plain_moved p f old new h (op.Binary o) os t k = ap (λ q. is_bits_where q t) (λ i w. all_moved p f old new h (is_bits_of w) os k i)
plain_moved p f old new h (op.Unary o) os t k = ap (λ q. is_bits_where q t) (λ i w. all_moved p f old new h (is_bits_of w) os k i)
plain_moved p f old new h (op.Compare o) os t k = ap (λ b. b && is_bits_of 1 t) (compare_moved p f old new h os k)
plain_moved p f old new h (op.Shift o) os t k = shift_moved p f old new h os t k
plain_moved p f old new h (op.Reduce o) os t k = ap (λ b. b && is_bits_of 1 t) (all_moved p f old new h is_bits os k)
plain_moved p f old new h op.Concat os t k = concat_moved p f old new h os t k
plain_moved p f old new h op.Tuple os t k = parts_moved p f old new h os t k
plain_moved p f old new h op.Array os t k = elements_moved p f old new h os t k
plain_moved p f old new h op.AfterAll os t k = refl
plain_moved p f old new h (op.Extend o) os t k = refl
plain_moved p f old new h op.BitSlice os t k = refl
plain_moved p f old new h op.DynamicBitSlice os t k = refl
plain_moved p f old new h op.Sel os t k = refl
plain_moved p f old new h op.TupleIndex os t k = refl
plain_moved p f old new h op.ArrayIndex os t k = refl
plain_moved p f old new h op.ArrayUpdate os t k = refl
plain_moved p f old new h op.Literal os t k = refl
plain_moved p f old new h op.Receive os t k = refl
plain_moved p f old new h op.Send os t k = refl

like_moved : (p : Operand → Bool) (f : Operand → Operand) (old new : Types) (h : SameTypes p f old new) (t : IrType) (o : Option Operand) → list_all p (optional_operand o) ≡ true → is_like new t (option_map f o) ≡ is_like old t o
like_moved p f old new h t None k = refl
like_moved p f old new h t (Some o) k = ap (same_type t) (h o (both (p o) true k).0)

predicate_moved : (p : Operand → Bool) (f : Operand → Operand) (old new : Types) (h : SameTypes p f old new) (o : Option Operand) → list_all p (optional_operand o) ≡ true → predicate_fits new (option_map f o) ≡ predicate_fits old o
predicate_moved p f old new h None k = refl
predicate_moved p f old new h (Some o) k = ap (is_bits_of 1) (h o (both (p o) true k).0)

count_moved : (f : Operand → Operand) (cases : List Operand) (default : Option Operand) (k : ℕ) → cases_count (length (map f cases)) (option_map f default) k ≡ cases_count (length cases) default k
count_moved f cases None k = ap (λ n. cases_count n None k) (length-map cases f)
count_moved f cases (Some d) k = ap (λ n. cases_count n (Some d) k) (length-map cases f)

sel_moved : (p : Operand → Bool) (f : Operand → Operand) (old new : Types) (h : SameTypes p f old new) (cases : List Operand) (default : Option Operand) (os : List Operand) (t : IrType) → list_all p os ≡ true → list_all p (cases ++ optional_operand default) ≡ true → sel_fits (map f cases) (option_map f default) new (map f os) t ≡ sel_fits cases default old os t
sel_moved p f old new h cases default os t k l =
    let parts = all_parts p cases (optional_operand default) l in
    ap₂ (λ x y. x && y)
    (all_moved p f old new h (is_bits_where (cases_count (length (map f cases)) (option_map f default))) os k
    ∙ ap (λ (q : ℕ → Bool). list_all (λ o. is_bits_where q (type_in old o)) os) (λ i w. count_moved f cases default w i))
    (ap₂ (λ x y. x && y) (all_moved p f old new h (same_type t) cases parts.0) (like_moved p f old new h t default parts.1))

update_moved : (p : Operand → Bool) (f : Operand → Operand) (old new : Types) (h : SameTypes p f old new) (os : List Operand) (t : IrType) → list_all p os ≡ true → update_fits new (map f os) t ≡ update_fits old os t
update_moved p f old new h [] t k = refl
update_moved p f old new h (x ∷ os) t k =
    let parts = both (p x) (list_all p os) k in
    ap₂ (λ a b. a && b) (ap (same_type t) (h x parts.0)) (all_moved p f old new h (is_array_of t) os parts.1)

index_moved : (p : Operand → Bool) (f : Operand → Operand) (old new : Types) (h : SameTypes p f old new) (o : Op) (j : Operand) (os : List Operand) (t : IrType) → list_all p os ≡ true → p j ≡ true → index_fits o (f j) new (map f os) t ≡ index_fits o j old os t
index_moved p f old new h op.ArrayIndex j os t k l =
    ap₂ (λ a b. a && b) (ap is_bits (h j l)) (all_moved p f old new h (λ u. is_array_of u t) os k)
index_moved p f old new h op.ArrayUpdate j os t k l =
    ap₂ (λ a b. a && b) (ap is_bits (h j l)) (update_moved p f old new h os t k)
index_moved p f old new h o j os t k l = refl

sends_moved : (p : Operand → Bool) (f : Operand → Operand) (old new : Types) (h : SameTypes p f old new) (u : Option IrType) (os : List Operand) (t : IrType) → list_all p os ≡ true → sends_type u new (rest_of (map f os)) t ≡ sends_type u old (rest_of os) t
sends_moved p f old new h None os t k = refl
sends_moved p f old new h (Some u) [] t k = refl
sends_moved p f old new h (Some u) (o ∷ os) t k =
    let parts = both (p o) (list_all p os) k in
    ap (λ b. is_token t && b) (all_moved p f old new h (same_type u) os parts.1)

site_moved : (p : Operand → Bool) (f : Operand → Operand) (old new : Types) (h : SameTypes p f old new) (o : Op) (u : Option IrType) (os : List Operand) (t : IrType) → list_all p os ≡ true → site_fits o u new (map f os) t ≡ site_fits o u old os t
site_moved p f old new h op.Send u os t k = sends_moved p f old new h u os t k
site_moved p f old new h o u os t k = refl

token_moved : (p : Operand → Bool) (f : Operand → Operand) (old new : Types) (h : SameTypes p f old new) (os : List Operand) → list_all p os ≡ true → first_is_token new (map f os) ≡ first_is_token old os
token_moved p f old new h [] k = refl
token_moved p f old new h (o ∷ os) k = ap is_token (h o (both (p o) (list_all p os) k).0)

types_moved : (p : Operand → Bool) (f : Operand → Operand) (old new : Types) (h : SameTypes p f old new) (channels : List Channel) (id : ℕ) (t : IrType) (o : Op) (os : List Operand) (a : Attributes) → list_all p os ≡ true → list_all p (attribute_operands a) ≡ true → types_fit channels new (record { id = id; ty = t; op = o; operands = map f os; attributes = moved_attributes f a }) (moved_attributes f a) ≡ types_fit channels old (record { id = id; ty = t; op = o; operands = os; attributes = a }) a
types_moved p f old new h channels id t o os attributes.None k l = plain_moved p f old new h o os t k
types_moved p f old new h channels id t o os (attributes.StartAndWidth start width) k l =
    ap (λ b. is_bit_slice o && (is_bits_of width t && b)) (all_moved p f old new h (is_bits_where (nat_le (start + width))) os k)
types_moved p f old new h channels id t o os (attributes.Width width) k l =
    ap (λ b. is_dynamic_bit_slice o && (is_bits_of width t && b)) (all_moved p f old new h is_bits os k)
types_moved p f old new h channels id t o os (attributes.NewBitCount width) k l =
    ap (λ b. is_extend o && (is_bits_of width t && b)) (all_moved p f old new h (is_bits_where (λ v. nat_le v width)) os k)
types_moved p f old new h channels id t o os (attributes.Cases cases default) k l =
    ap (λ b. is_sel o && b) (sel_moved p f old new h cases default os t k l)
types_moved p f old new h channels id t o os (attributes.Index i) k l =
    ap (λ b. is_tuple_index o && b) (all_moved p f old new h (is_tuple_where (part_is i t)) os k)
types_moved p f old new h channels id t o os (attributes.Indices j) k l =
    index_moved p f old new h o j os t k (both (p j) true l).0
types_moved p f old new h channels id t o os (attributes.Value c) k l = refl
types_moved p f old new h channels id t o os (attributes.Channel predicate c) k l =
    ap₂ (λ a b. a && b) (predicate_moved p f old new h predicate l)
    (ap₂ (λ a b. a && b) (token_moved p f old new h os k) (site_moved p f old new h o (channel_type channels c) os t k))

pub fits_moved : (p : Operand → Bool) (f : Operand → Operand) (old new : Types) (h : SameTypes p f old new) (channels : List Channel) (n : Node) → list_all p (operands_in n) ≡ true → node_fits channels new (moved_node f n) ≡ node_fits channels old n
fits_moved p f old new h channels n k =
    let parts = all_parts p n.operands (attribute_operands n.attributes) k in
    ap₂ (λ a b. a && b) (ap (is_met (count_of n.op)) (length-map n.operands f))
    (types_moved p f old new h channels n.id n.ty n.op n.operands n.attributes parts.0 parts.1)

-- ---- values

-- operands that pass the test have the values that they had
abbrev pub SameValues : (Operand → Bool) → (Operand → Operand) → Value → List Value → List Value → Type 0
SameValues p f s old new = (o : Operand) → p o ≡ true → operand_value s new (f o) ≡ operand_value s old o

chosen_moved : (p : Operand → Bool) (f : Operand → Operand) (s : Value) (old new : List Value) (h : SameValues p f s old new) (cases : List Operand) (default : Option Operand) (k : ℕ) → list_all p cases ≡ true → list_all p (optional_operand default) ≡ true → optional_value s new (chosen (map f cases) (option_map f default) k) ≡ optional_value s old (chosen cases default k)
chosen_moved p f s old new h [] None k a b = refl
chosen_moved p f s old new h [] (Some d) k a b = h d (both (p d) true b).0
chosen_moved p f s old new h (c ∷ cs) default zero a b = h c (both (p c) (list_all p cs) a).0
chosen_moved p f s old new h (c ∷ cs) default (suc k) a b = chosen_moved p f s old new h cs default k (both (p c) (list_all p cs) a).1 b

pure_by : (p : Operand → Bool) (f : Operand → Operand) (s : Value) (old new : List Value) (h : SameValues p f s old new) (id : ℕ) (t : IrType) (o : Op) (os : List Operand) (a : Attributes) → list_all p os ≡ true → list_all p (attribute_operands a) ≡ true → pure_value (record { id = id; ty = t; op = o; operands = map f os; attributes = moved_attributes f a }) s new ≡ pure_value (record { id = id; ty = t; op = o; operands = os; attributes = a }) s old
pure_by p f s old new h id t o os attributes.None k l = ap (plain_value o) (map_moved p f (operand_value s new) (operand_value s old) h os k)
pure_by p f s old new h id t o os (attributes.StartAndWidth start width) k l = ap (of_one (on_word (slice_value start width))) (map_moved p f (operand_value s new) (operand_value s old) h os k)
pure_by p f s old new h id t o os (attributes.Width width) k l = ap (of_two (on_words (dyn_slice_value width))) (map_moved p f (operand_value s new) (operand_value s old) h os k)
pure_by p f s old new h id t o os (attributes.NewBitCount width) k l = ap (longer_value o width) (map_moved p f (operand_value s new) (operand_value s old) h os k)
pure_by p f s old new h id t o os (attributes.Cases cases default) k l =
    let parts = all_parts p cases (optional_operand default) l in
    ap₂ (λ g vs. of_one (on_word g) vs)
    (λ i x. chosen_moved p f s old new h cases default x.value parts.0 parts.1 i)
    (map_moved p f (operand_value s new) (operand_value s old) h os k)
pure_by p f s old new h id t o os (attributes.Index j) k l = ap (of_one (on_tuple (element_at j))) (map_moved p f (operand_value s new) (operand_value s old) h os k)
pure_by p f s old new h id t o os (attributes.Indices j) k l =
    ap₂ (index_value o) (h j (both (p j) true l).0) (map_moved p f (operand_value s new) (operand_value s old) h os k)
pure_by p f s old new h id t o os (attributes.Value c) k l = refl
pure_by p f s old new h id t o os (attributes.Channel predicate c) k l = refl

pub pure_moved : (p : Operand → Bool) (f : Operand → Operand) (s : Value) (old new : List Value) (h : SameValues p f s old new) (n : Node) → list_all p (operands_in n) ≡ true → pure_value (moved_node f n) s new ≡ pure_value n s old
pure_moved p f s old new h n k =
    let parts = all_parts p n.operands (attribute_operands n.attributes) k in
    pure_by p f s old new h n.id n.ty n.op n.operands n.attributes parts.0 parts.1

-- ---- the same operands

map_itself : (os : List Operand) → map (λ o. o) os ≡ os
map_itself [] = refl
map_itself (o ∷ os) = ap (λ xs. o ∷ xs) (map_itself os)

optional_itself : (o : Option Operand) → option_map (λ (o : Operand). o) o ≡ o
optional_itself None = refl
optional_itself (Some o) = refl

attributes_itself : (a : Attributes) → moved_attributes (λ o. o) a ≡ a
attributes_itself attributes.None = refl
attributes_itself (attributes.StartAndWidth start width) = refl
attributes_itself (attributes.Width width) = refl
attributes_itself (attributes.NewBitCount width) = refl
attributes_itself (attributes.Cases cases default) = ap₂ attributes.Cases (map_itself cases) (optional_itself default)
attributes_itself (attributes.Index i) = refl
attributes_itself (attributes.Indices i) = refl
attributes_itself (attributes.Value c) = refl
attributes_itself (attributes.Channel predicate c) = ap (λ p. attributes.Channel p c) (optional_itself predicate)

itself : (n : Node) → moved_node (λ o. o) n ≡ n
itself n = λ i. record { id = n.id; ty = n.ty; op = n.op; operands = map_itself n.operands i; attributes = attributes_itself n.attributes i }

pub fits_still : (p : Operand → Bool) (old new : Types) → SameTypes p (λ o. o) old new → (channels : List Channel) (n : Node) → list_all p (operands_in n) ≡ true → node_fits channels new n ≡ node_fits channels old n
fits_still p old new h channels n k = ap (node_fits channels new) (sym (itself n)) ∙ fits_moved p (λ o. o) old new h channels n k

pub pure_still : (p : Operand → Bool) (s : Value) (old new : List Value) → SameValues p (λ o. o) s old new → (n : Node) → list_all p (operands_in n) ≡ true → pure_value n s new ≡ pure_value n s old
pure_still p s old new h n k = ap (λ m. pure_value m s new) (sym (itself n)) ∙ pure_moved p (λ o. o) s old new h n k

-- ---- two moves of the same operands

optional_two : (p : Operand → Bool) (f g : Operand → Operand) → ((o : Operand) → p o ≡ true → f o ≡ g o) → (o : Option Operand) → list_all p (optional_operand o) ≡ true → option_map f o ≡ option_map g o
optional_two p f g h None k = refl
optional_two p f g h (Some o) k = ap Some (h o (both (p o) true k).0)

map_two : (p : Operand → Bool) (f g : Operand → Operand) → ((o : Operand) → p o ≡ true → f o ≡ g o) → (os : List Operand) → list_all p os ≡ true → map f os ≡ map g os
map_two p f g h [] k = refl
map_two p f g h (o ∷ os) k =
    let parts = both (p o) (list_all p os) k in
    ap₂ (λ x xs. x ∷ xs) (h o parts.0) (map_two p f g h os parts.1)

attributes_two : (p : Operand → Bool) (f g : Operand → Operand) → ((o : Operand) → p o ≡ true → f o ≡ g o) → (a : Attributes) → list_all p (attribute_operands a) ≡ true → moved_attributes f a ≡ moved_attributes g a
attributes_two p f g h attributes.None k = refl
attributes_two p f g h (attributes.StartAndWidth start width) k = refl
attributes_two p f g h (attributes.Width width) k = refl
attributes_two p f g h (attributes.NewBitCount width) k = refl
attributes_two p f g h (attributes.Cases cases default) k =
    let parts = all_parts p cases (optional_operand default) k in
    ap₂ attributes.Cases (map_two p f g h cases parts.0) (optional_two p f g h default parts.1)
attributes_two p f g h (attributes.Index i) k = refl
attributes_two p f g h (attributes.Indices i) k = ap attributes.Indices (h i (both (p i) true k).0)
attributes_two p f g h (attributes.Value c) k = refl
attributes_two p f g h (attributes.Channel predicate c) k = ap (λ q. attributes.Channel q c) (optional_two p f g h predicate k)

pub moved_two : (p : Operand → Bool) (f g : Operand → Operand) → ((o : Operand) → p o ≡ true → f o ≡ g o) → (n : Node) → list_all p (operands_in n) ≡ true → moved_node f n ≡ moved_node g n
moved_two p f g h n k =
    let parts = all_parts p n.operands (attribute_operands n.attributes) k in
    λ i. record { id = n.id; ty = n.ty; op = n.op; operands = map_two p f g h n.operands parts.0 i; attributes = attributes_two p f g h n.attributes parts.1 i }
