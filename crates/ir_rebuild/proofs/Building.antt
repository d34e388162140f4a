-- Nodes that can stand where they stand, in lists that grow.
use Rattle.std.proofs.Common.{◌≡◌, ℕ, zero, suc, ◌+◌, ◌-◌, ◌<◌, ◌≤◌, List, [], ◌∷◌, ◌++◌, length, get_or, Bool, true, false, Option, Some, None, refl, sym, ap, subst, ◌∙◌, arith, ⊎_elim, length-append}
use Rattle.std.specs.Prelude.{slice_get, nat_lt, nat_eq}
use Rattle.std.specs.List.{list_all}
use Rattle.std.proofs.lemmas.Bool.{cases_lt}
use Rattle.std.proofs.lemmas.Bool.Decides.{nat_tests}
use Rattle.std.proofs.lemmas.List.{get_or_append_left, get_or-append_right}
use Rattle.std.proofs.lemmas.List.Folds.{list_all-append}
use Rattle.std.proofs.lemmas.Option.{slice_get_within}
use Rattle.base.proofs.Lemmas.Lists.Indices.{slice_get-append_left, slice_get-append_right}
use Rattle.xb_value.specs.declared.value.Value.{Value}
use Rattle.ir_tree.specs.declared.ir_type.IrType.{IrType, Token}
use Rattle.ir_tree.specs.declared.node.Operand.{Operand}
use Rattle.ir_tree.specs.declared.node.Operand.TheVariants as operand
use Rattle.ir_tree.specs.declared.node.Node.{Node}
use Rattle.ir_tree.specs.declared.node.Attributes.{Attributes}
use Rattle.ir_tree.specs.declared.node.Attributes.TheVariants as attributes
use Rattle.ir_tree.specs.Constants.{no_value}
use Rattle.ir_tree.specs.NodeValues.{operand_value, pure_value}
use Rattle.ir_tree.specs.Rules.Fitting.{type_in, type_or, types_behind, node_fits}
use Rattle.ir_tree.specs.NodeTypes.Types.{marks_of}
use Rattle.ir_tree.specs.Rules.Lines.{is_there, are_there, is_there_if, attributes_there}
use Rattle.ir_rebuild.specs.Operands.{optional_operand, attribute_operands, operands_in}
use Rattle.ir_rebuild.specs.Built.{FitsAt, AreBuilt, AreValues, OperandSimulates, Rewrites, is_plain_op, numbered}
use Rattle.ir_rebuild.proofs.Moving.{both, and_both, all_parts, fits_still, pure_still}

-- ---- operands that are there

pub below : (i n : ℕ) → nat_lt i n ≡ true → i < n
below i n h = grind (arith, nat_tests, h)

pub is_below : (i n : ℕ) → i < n → nat_lt i n ≡ true
is_below i n h = grind (arith, nat_tests, h)

pub same_number : (i n : ℕ) → nat_eq i n ≡ true → i ≡ n
same_number i n h = grind (arith, nat_tests, h)

pub equal_number : (n : ℕ) → nat_eq n n ≡ true
equal_number n = grind (arith, nat_tests)

pub there_more : (k m : ℕ) → k ≤ m → (o : Operand) → is_there k o ≡ true → is_there m o ≡ true
there_more k m h operand.State e = refl
there_more k m h (operand.Node i) e = let less = below i k e in is_below i m (omega arith)

all_join : (p : Operand → Bool) (xs ys : List Operand) → list_all p xs ≡ true → list_all p ys ≡ true → list_all p (xs ++ ys) ≡ true
all_join p xs ys h k = list_all-append p xs ys ∙ and_both _ _ h k

if_there : (k : ℕ) (o : Option Operand) → is_there_if k o ≡ true → list_all (is_there k) (optional_operand o) ≡ true
if_there k None h = refl
if_there k (Some o) h = and_both (is_there k o) true h refl

there_if : (k : ℕ) (o : Option Operand) → list_all (is_there k) (optional_operand o) ≡ true → is_there_if k o ≡ true
there_if k None h = refl
there_if k (Some o) h = (both (is_there k o) true h).0

attributes_all : (k : ℕ) (a : Attributes) → attributes_there k a ≡ true → list_all (is_there k) (attribute_operands a) ≡ true
attributes_all k attributes.None h = refl
attributes_all k (attributes.StartAndWidth start width) h = refl
attributes_all k (attributes.Width width) h = refl
attributes_all k (attributes.NewBitCount width) h = refl
attributes_all k (attributes.Cases cases default) h =
    let parts = both (are_there k cases) (is_there_if k default) h in
    all_join (is_there k) cases (optional_operand default) parts.0 (if_there k default parts.1)
attributes_all k (attributes.Index i) h = refl
attributes_all k (attributes.Indices i) h = and_both (is_there k i) true h refl
attributes_all k (attributes.Value c) h = refl
attributes_all k (attributes.Channel predicate c) h = if_there k predicate h

pub all_attributes : (k : ℕ) (a : Attributes) → list_all (is_there k) (attribute_operands a) ≡ true → attributes_there k a ≡ true
all_attributes k attributes.None h = refl
all_attributes k (attributes.StartAndWidth start width) h = refl
all_attributes k (attributes.Width width) h = refl
all_attributes k (attributes.NewBitCount width) h = refl
all_attributes k (attributes.Cases cases default) h =
    let parts = all_parts (is_there k) cases (optional_operand default) h in
    and_both (are_there k cases) (is_there_if k default) parts.0 (there_if k default parts.1)
all_attributes k (attributes.Index i) h = refl
all_attributes k (attributes.Indices i) h = (both (is_there k i) true h).0
all_attributes k (attributes.Value c) h = refl
all_attributes k (attributes.Channel predicate c) h = there_if k predicate h

pub all_there : (k : ℕ) (n : Node) → are_there k n.operands ≡ true → attributes_there k n.attributes ≡ true → list_all (is_there k) (operands_in n) ≡ true
all_there k n h e = all_join (is_there k) n.operands (attribute_operands n.attributes) h (attributes_all k n.attributes e)

pub all_weaker : (p q : Operand → Bool) → ((o : Operand) → p o ≡ true → q o ≡ true) → (os : List Operand) → list_all p os ≡ true → list_all q os ≡ true
all_weaker p q h [] k = refl
all_weaker p q h (o ∷ os) k =
    let parts = both (p o) (list_all p os) k in
    and_both (q o) (list_all q os) (h o parts.0) (all_weaker p q h os parts.1)

-- ---- types and values of operands, before more nodes

pub type_more : (state : IrType) (xs ys : List Node) (o : Operand) → is_there (length xs) o ≡ true → type_in (types_behind state (xs ++ ys)) o ≡ type_in (types_behind state xs) o
type_more state xs ys operand.State h = refl
type_more state xs ys (operand.Node i) h = ap (type_or (Token [])) (slice_get-append_left xs ys i (below i (length xs) h))

pub value_more : (s : Value) (vs us : List Value) (o : Operand) → is_there (length vs) o ≡ true → operand_value s (vs ++ us) o ≡ operand_value s vs o
value_more s vs us operand.State h = refl
value_more s vs us (operand.Node i) h = get_or_append_left vs us no_value i (below i (length vs) h)

pub fits_more : (state : IrType) (xs ys : List Node) (place : ℕ) (n : Node) → place ≤ length xs → list_all (is_there place) (operands_in n) ≡ true → node_fits [] (types_behind state (xs ++ ys)) n ≡ node_fits [] (types_behind state xs) n
fits_more state xs ys place n within h =
    fits_still (is_there place) (types_behind state xs) (types_behind state (xs ++ ys)) (λ o e. type_more state xs ys o (there_more place (length xs) within o e)) [] n h

pub pure_more : (s : Value) (vs us : List Value) (place : ℕ) (n : Node) → place ≤ length vs → list_all (is_there place) (operands_in n) ≡ true → pure_value n s (vs ++ us) ≡ pure_value n s vs
pure_more s vs us place n within h =
    pure_still (is_there place) s vs (vs ++ us) (λ o e. value_more s vs us o (there_more place (length vs) within o e)) n h

pub placed_more : (state : IrType) (xs ys : List Node) (place : ℕ) (n : Node) → place ≤ length xs → FitsAt state xs place n → FitsAt state (xs ++ ys) place n
placed_more state xs ys place n within h = record {
  operands = h.operands;
  attributes = h.attributes;
  fits = fits_more state xs ys place n within (all_there place n h.operands h.attributes) ∙ h.fits;
  typed = h.typed;
  limits = h.limits;
}

-- ---- a place in a list with one more

pub record IsLast {A : Type 0} (xs : List A) (x : A) (j : ℕ) (y : A) : Type 0 where
  pub place : j ≡ length xs
  pub item : x ≡ y

one_is : {A : Type 0} (x y : A) (j : ℕ) → slice_get (x ∷ []) j ≡ Some y → (j ≡ 0) × (x ≡ y)
one_is x y zero e = (refl, cc)
one_is x y (suc j) e = absurd (cc)

-- what stands at a place stands before, or is the last
pub at_place : {A : Type 0} (P : Type 0) (xs : List A) (x : A) (j : ℕ) (y : A) → slice_get (xs ++ x ∷ []) j ≡ Some y → (j < length xs → slice_get xs j ≡ Some y → P) → (IsLast xs x j y → P) → P
at_place P xs x j y e before last = ⊎_elim left right (cases_lt j (length xs))
  where
    left : j < length xs → P
    left less = before less (sym (slice_get-append_left xs (x ∷ []) j less) ∙ e)

    right : length xs ≤ j → P
    right past =
        let place : j ≡ length xs + (j - length xs) = omega arith in
        let one = one_is x y (j - length xs) (sym (slice_get-append_right xs (x ∷ []) j (j - length xs) place) ∙ e) in
        last (record { place = (let none : j - length xs ≡ 0 = one.0 in omega arith); item = one.1 })

pub last_there : {A : Type 0} (xs : List A) (x : A) → slice_get (xs ++ x ∷ []) (length xs) ≡ Some x
last_there xs x = slice_get-append_right xs (x ∷ []) (length xs) 0 (omega arith)

pub last_value : (vs : List Value) (v : Value) (k : ℕ) → k ≡ length vs → get_or (vs ++ v ∷ []) k no_value ≡ v
last_value vs v k e =
    let within : length vs ≤ k = omega (arith, e) in
    let none : k - length vs ≡ 0 = omega (arith, e) in
    get_or-append_right vs (v ∷ []) (length vs) k no_value refl within ∙ ap (λ j. get_or (v ∷ []) j no_value) none

pub before_more : {A : Type 0} (xs ys : List A) (j : ℕ) (x : A) → slice_get xs j ≡ Some x → slice_get (xs ++ ys) j ≡ Some x
before_more xs ys j x e = slice_get-append_left xs ys j (slice_get_within xs j x e) ∙ e

pub one_longer : {A : Type 0} (xs : List A) (x : A) → length (xs ++ x ∷ []) ≡ suc (length xs)
one_longer xs x = omega (arith, length-append xs (x ∷ []))

-- ---- one plain node more

built_more : (state : IrType) (nodes : List Node) (n : Node) → AreBuilt state nodes → (marks_of n.ty).sound ≡ true → list_all (is_there (length nodes)) (operands_in n) ≡ true → (is_plain_op n.op ≡ true → FitsAt state nodes (length nodes) n) → AreBuilt state (nodes ++ numbered (length nodes) n ∷ [])
built_more state nodes n h t b k = record {
  sound = h.sound;
  numbered = λ j m e.
      at_place (m.id ≡ suc j) nodes (numbered (length nodes) n) j m e (λ less here. h.numbered j m here)
      (λ l. ap (λ (x : Node). x.id) (sym l.item) ∙ ap suc (sym l.place));
  types = λ j m e.
      at_place ((marks_of m.ty).sound ≡ true) nodes (numbered (length nodes) n) j m e (λ less here. h.types j m here)
      (λ l. ap (λ (x : Node). (marks_of x.ty).sound) (sym l.item) ∙ t);
  before = λ j m e.
      at_place (list_all (is_there j) (operands_in m) ≡ true) nodes (numbered (length nodes) n) j m e (λ less here. h.before j m here)
      (λ l. subst (λ i. list_all (is_there i) (operands_in m) ≡ true) (sym l.place) (ap (λ (x : Node). list_all (is_there (length nodes)) (operands_in x)) (sym l.item) ∙ b));
  fits_at = λ j m e plain.
      at_place (FitsAt state (nodes ++ numbered (length nodes) n ∷ []) j m) nodes (numbered (length nodes) n) j m e
      (λ less here. placed_more state nodes (numbered (length nodes) n ∷ []) j m (omega (arith, less)) (h.fits_at j m here plain))
      (λ l. here j m l plain);
}
  where
    x : Node
    x = numbered (length nodes) n

    here : (j : ℕ) (m : Node) → IsLast nodes (numbered (length nodes) n) j m → is_plain_op m.op ≡ true → FitsAt state (nodes ++ numbered (length nodes) n ∷ []) j m
    here j m l plain =
        let own = k (ap (λ (y : Node). is_plain_op y.op) l.item ∙ plain) in
        let numbered_one : FitsAt state nodes (length nodes) (numbered (length nodes) n) = record { operands = own.operands; attributes = own.attributes; fits = own.fits; typed = own.typed; limits = own.limits } in
        subst (λ i. FitsAt state (nodes ++ numbered (length nodes) n ∷ []) i m) (sym l.place)
        (subst (FitsAt state (nodes ++ numbered (length nodes) n ∷ []) (length nodes)) l.item
        (placed_more state nodes (numbered (length nodes) n ∷ []) (length nodes) (numbered (length nodes) n) (omega arith) numbered_one))

pub built_fixed : (state : IrType) (nodes : List Node) (n : Node) → AreBuilt state nodes → (marks_of n.ty).sound ≡ true → list_all (is_there (length nodes)) (operands_in n) ≡ true → is_plain_op n.op ≡ false → AreBuilt state (nodes ++ numbered (length nodes) n ∷ [])
built_fixed state nodes n h t b no_plain = built_more state nodes n h t b (λ plain. absurd (cc))

pub built_plain : (state : IrType) (nodes : List Node) (n : Node) → AreBuilt state nodes → FitsAt state nodes (length nodes) n → AreBuilt state (nodes ++ numbered (length nodes) n ∷ [])
built_plain state nodes n h k = built_more state nodes n h (both (marks_of n.ty).sound _ k.typed).0 (all_there (length nodes) n k.operands k.attributes) (λ plain. k)

pub stands_last : (state : IrType) (nodes : List Node) (n : Node) → is_plain_op n.op ≡ true → OperandSimulates state (nodes ++ numbered (length nodes) n ∷ []) n (operand.Node (length nodes))
stands_last state nodes n plain = record {
  there = is_below (length nodes) (length (nodes ++ numbered (length nodes) n ∷ [])) (omega (arith, one_longer nodes (numbered (length nodes) n)));
  ty = ap (type_or (Token [])) (last_there nodes (numbered (length nodes) n));
  value = λ s values v. v.plain (length nodes) (numbered (length nodes) n) (last_there nodes (numbered (length nodes) n)) plain;
}

-- a plain node that is appended stands for itself
pub appended : (state : IrType) (nodes : List Node) (n : Node) → AreBuilt state nodes → FitsAt state nodes (length nodes) n → is_plain_op n.op ≡ true → Rewrites state nodes (nodes ++ numbered (length nodes) n ∷ []) n (operand.Node (length nodes))
appended state nodes n h k plain = record {
  built = built_plain state nodes n h k;
  extends = record { more = numbered (length nodes) n ∷ []; are = refl; plain = and_both (is_plain_op n.op) true plain refl };
  stands = stands_last state nodes n plain;
}

-- ---- values of lists that grow

pub values_before : (state : IrType) (xs ys : List Node) (s : Value) (values : List Value) → AreValues state (xs ++ ys) s values → AreValues state xs s values
values_before state xs ys s values h = record {
  opened = h.opened;
  typed = λ j n e. h.typed j n (before_more xs ys j n e);
  plain = λ j n e plain. h.plain j n (before_more xs ys j n e) plain;
}

-- what stood for a node stands for it with more nodes
pub stands_more : (state : IrType) (xs ys : List Node) (n : Node) (o : Operand) → OperandSimulates state xs n o → OperandSimulates state (xs ++ ys) n o
stands_more state xs ys n o h = record {
  there = there_more (length xs) (length (xs ++ ys)) (omega (arith, length-append xs ys)) o h.there;
  ty = type_more state xs ys o h.there ∙ h.ty;
  value = λ s values v. h.value s values (values_before state xs ys s values v);
}
