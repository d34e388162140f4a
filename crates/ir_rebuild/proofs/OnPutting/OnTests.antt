-- Bits that say whether values are others.
use Rattle.std.proofs.Common.{◌≡◌, ◌↔◌, ℕ, zero, suc, ◌+◌, ◌-◌, ◌^◌, ◌<◌, ◌≤◌, min, Bool, true, false, ◌&&◌, List, [], ◌∷◌, map, length, get_or, Some, IsTrue, refl, sym, ap, ap₂, subst, ◌∙◌, arith, ⊎_elim}
use Rattle.std.specs.Prelude.{slice_get}
use Rattle.std.specs.List.{list_all}
use Rattle.std.specs.Ordering.{nat_cmp}
use Rattle.std.proofs.lemmas.Bool.{cases_lt}
use Rattle.std.proofs.lemmas.Bool.Decides.{nat_tests}
use Rattle.std.proofs.lemmas.List.{length-map}
use Rattle.xb_bits.specs.Word.{Word, word}
use Rattle.xb_value.specs.declared.ty.Ty.{Ty}
use Rattle.xb_value.specs.declared.ty.Ty as ty
use Rattle.xb_value.specs.declared.value.Value.{Value, out-Value}
use Rattle.xb_value.specs.declared.value.Value as value
use Rattle.xb_value.specs.declared.value.Value.TheOpen.{Value-F}
use Rattle.xb_value.specs.declared.value.Value.TheViews.{outs-Bits, outs-Tuple, outs-Array}
use Rattle.xb_value.specs.Typing.{IsOfType, fits, each_passes}
use Rattle.xb_value.proofs.Lemmas.Types.{ty_induction}
use Rattle.xb_value.proofs.Lemmas.Typing.{bits_of_type, tuple_of_type, array_of_type}
use Rattle.net_core.specs.Behavior.{IsWordOf}
use Rattle.delay_model.specs.declared.op.Binary.TheVariants as binary
use Rattle.delay_model.specs.declared.op.Compare.TheVariants as compare
use Rattle.ir_tree.specs.declared.ir_type.IrType.{IrType, Bits, Tuple}
use Rattle.ir_tree.specs.declared.node.Operand.{Operand}
use Rattle.ir_tree.specs.Types.{ty_of, bounded}
use Rattle.ir_tree.specs.Constants.{no_value}
use Rattle.ir_tree.specs.NodeValues.{operand_value}
use Rattle.ir_tree.specs.Operations.{binary_word, holds, is_equal, bit, on_word, on_tuple, on_array, element_at, at_index}
use Rattle.ir_tree.proofs.Lemmas.NodeTypes.IrTypes.{ty_of-Tuple}
use Rattle.ir_tree.proofs.Lemmas.Rules.Typed.Checked.{both_true, and_true}
use Rattle.ir_tree.proofs.Lemmas.Rules.Typed.Scopes.{on_word-Bits, on_words-Bits, on_tuple-Tuple, on_array-Array}
use Rattle.ir_rebuild.specs.Built.{AreValues}
use Rattle.ir_rebuild.specs.declared.putting.nodes.Nodes.{Nodes}
use Rattle.ir_rebuild.specs.Putting.Types.{array_of, ir_type_of}
use Rattle.ir_rebuild.specs.Putting.Words.{Reading, words_by}
use Rattle.ir_rebuild.specs.Putting.Given.{IsBuilt, HasType, GrowsTo, GivesValue}
use Rattle.ir_rebuild.specs.Putting.Tests.{GivesTest}
use Rattle.ir_rebuild.proofs.OnPutting.TypesOf.{array_ty}
use Rattle.ir_rebuild.proofs.Lemmas.Putting.{grows_twice, values_earlier, has_later, gives_as, gives_behind, value_typed, operand_word}
use Rattle.ir_rebuild.proofs.Lemmas.Putting.Types.{type-Bits, type-Tuple, type-Array, size_is}

-- ---- bits

and_bits : (p q : Bool) → binary_word binary.And (bit p) (bit q) ≡ bit (p && q)
and_bits true true = refl
and_bits true false = refl
and_bits false true = refl
and_bits false false = refl

-- the same said otherwise
pub test_as : (old new : Nodes) (o : Operand) (P Q : Value → List Value → Type 0) → ((s : Value) (values : List Value) → AreValues old.state old.list.items s values → P s values ↔ Q s values) → GivesTest old new o P → GivesTest old new o Q
test_as old new o P Q e h = record {
  grows = h.grows;
  has = h.has;
  says = λ s values v.
      let own = h.says s values v in
      let same = e s values (values_earlier old new h.grows s values v) in
      record { test = own.test; is = own.is; holds = (λ t. same.0 (own.holds.0 t), λ q. own.holds.1 (same.1 q)) };
}

-- a bit that is 1
pub always : (old new : Nodes) (o : Operand) (P : Value → List Value → Type 0) → GivesValue old new o (Bits 1 []) (λ s values. value.Bits (word 1 1)) → ((s : Value) (values : List Value) → P s values) → GivesTest old new o P
always old new o P h p = record {
  grows = h.grows;
  has = h.has;
  says = λ s values v. record { test = true; is = h.value s values v; holds = (λ t. p s values, λ q. refl) };
}

-- whether that held, and this of the value of one operand more
pub and_step : (s0 s1 s2 s3 s4 : Nodes) (equal part other o : Operand) (P R : Value → List Value → Type 0) (t : IrType) (f : Reading) (Q : Value → Type 0)
    → GivesTest s0 s1 equal P → GivesValue s1 s2 part t f → GivesTest s2 s3 other (λ s values. Q (operand_value s values part))
    → ((k : ℕ) → IsBuilt s3 → HasType s3 equal (Bits k []) → HasType s3 other (Bits k []) → GivesValue s3 s4 o (Bits k []) (words_by (binary_word binary.And) equal other))
    → ((s : Value) (values : List Value) → AreValues s1.state s1.list.items s values → (P s values → Q (f s values) → R s values) × (R s values → P s values × Q (f s values)))
    → GivesTest s0 s4 o R
and_step s0 s1 s2 s3 s4 equal part other o P R t f Q first next last call both = record {
  grows = grows_twice s0 s1 s4 first.grows (grows_twice s1 s3 s4 later here.grows);
  has = here.has;
  says = λ s values v.
      let v3 = values_earlier s3 s4 here.grows s values v in
      let v2 = values_earlier s2 s3 last.grows s values v3 in
      let v1 = values_earlier s1 s2 next.grows s values v2 in
      let a = first.says s values v1 in
      let b = last.says s values v3 in
      let e = next.value s values v2 in
      let all = both s values v1 in
      record {
        test = a.test && b.test;
        is = here.value s values v
            ∙ (on_words-Bits (λ x y. value.Bits (binary_word binary.And x y)) (operand_value s values equal) (operand_value s values other) (bit a.test) (bit b.test) a.is b.is
            ∙ ap value.Bits (and_bits a.test b.test));
        holds = (
          λ h. let parts = both_true a.test b.test h in all.0 (a.holds.0 parts.0) (subst Q e (b.holds.0 parts.1)),
          λ r. let parts = all.1 r in and_true a.test b.test (a.holds.1 parts.0) (b.holds.1 (subst Q (sym e) parts.1)),
        );
      };
}
  where
    later : GrowsTo s1 s3
    later = grows_twice s1 s2 s3 next.grows last.grows

    here : GivesValue s3 s4 o (Bits 1 []) (words_by (binary_word binary.And) equal other)
    here = call 1 last.grows.built (has_later s1 s3 equal (Bits 1 []) (grows_twice s1 s2 s3 next.grows last.grows) first.has) last.has

-- ---- lists

lists_same : (vs ws : List Value) → length vs ≡ length ws → ((j : ℕ) → j < length ws → get_or vs j no_value ≡ get_or ws j no_value) → vs ≡ ws
lists_same [] [] e h = refl
lists_same [] (w ∷ ws) e h = absurd (omega (arith, e))
lists_same (v ∷ vs) [] e h = absurd (omega (arith, e))
lists_same (v ∷ vs) (w ∷ ws) e h = ap₂ (λ x xs. x ∷ xs) (h 0 (omega arith)) (lists_same vs ws (omega (arith, e)) (λ j less. h (suc j) (omega (arith, less))))

get_any : (ws : List Value) (i : ℕ) (d e : Value) → i < length ws → get_or ws i d ≡ get_or ws i e
get_any [] i d e h = absurd (omega (arith, h))
get_any (w ∷ ws) zero d e h = refl
get_any (w ∷ ws) (suc i) d e h = get_any ws i d e (omega (arith, h))

pub passes_length : (ps : List (Value → Bool)) (vs : List Value) → IsTrue (each_passes ps vs) → length vs ≡ length ps
passes_length [] [] h = refl
passes_length [] (v ∷ vs) h = absurd (cc)
passes_length (p ∷ ps) [] h = absurd (cc)
passes_length (p ∷ ps) (v ∷ vs) h = ap suc (passes_length ps vs (both_true (p v) (each_passes ps vs) h).1)

record HasPart (ts : List Ty) (ws : List Value) (i : ℕ) (w : Value) : Type 0 where
  ty : Ty
  there : slice_get (map ir_type_of ts) i ≡ Some (ir_type_of ty)
  typed : IsOfType ty w

part_there : (ts : List Ty) (ws : List Value) (i : ℕ) (d : Value) → IsTrue (each_passes (map fits ts) ws) → i < length ws → HasPart ts ws i (get_or ws i d)
part_there [] [] i d h less = absurd (omega (arith, less))
part_there [] (w ∷ ws) i d h less = absurd (cc)
part_there (t ∷ ts) [] i d h less = absurd (cc)
part_there (t ∷ ts) (w ∷ ws) zero d h less = record { ty = t; there = refl; typed = (both_true (fits t w) (each_passes (map fits ts) ws) h).0 }
part_there (t ∷ ts) (w ∷ ws) (suc i) d h less =
    let rest = part_there ts ws i d (both_true (fits t w) (each_passes (map fits ts) ws) h).1 (omega (arith, less)) in
    record { ty = rest.ty; there = rest.there; typed = rest.typed }

element_there : (t : Ty) (ws : List Value) (i : ℕ) (d : Value) → IsTrue (list_all (fits t) ws) → i < length ws → IsOfType t (get_or ws i d)
element_there t [] i d h less = absurd (omega (arith, less))
element_there t (w ∷ ws) zero d h less = (both_true (fits t w) (list_all (fits t) ws) h).0
element_there t (w ∷ ws) (suc i) d h less = element_there t ws i d (both_true (fits t w) (list_all (fits t) ws) h).1 (omega (arith, less))

-- the values that are read off up to one of them are these
abbrev pub AreEqual : (ℕ → Reading) → List Value → ℕ → Value → List Value → Type 0
AreEqual read ws i s values = (j : ℕ) → j < i → read j s values ≡ get_or ws j no_value

one_more : (read : ℕ → Value) (ws : List Value) (i : ℕ) (w : Value) → w ≡ get_or ws i no_value
    → (((j : ℕ) → j < i → read j ≡ get_or ws j no_value) → read i ≡ w → (j : ℕ) → j < i + 1 → read j ≡ get_or ws j no_value)
    × (((j : ℕ) → j < i + 1 → read j ≡ get_or ws j no_value) → ((j : ℕ) → j < i → read j ≡ get_or ws j no_value) × (read i ≡ w))
one_more read ws i w is = (more, fewer)
  where
    more : ((j : ℕ) → j < i → read j ≡ get_or ws j no_value) → read i ≡ w → (j : ℕ) → j < i + 1 → read j ≡ get_or ws j no_value
    more p e j h =
        ⊎_elim (λ less. p j less)
        (λ past. let same : i ≡ j = omega (arith, h, past) in subst (λ k. read k ≡ get_or ws k no_value) same (e ∙ is))
        (cases_lt j i)

    fewer : ((j : ℕ) → j < i + 1 → read j ≡ get_or ws j no_value) → ((j : ℕ) → j < i → read j ≡ get_or ws j no_value) × (read i ≡ w)
    fewer r = (λ j h. r j (omega (arith, h)), r i (omega arith) ∙ sym is)

-- ---- parts of tuples

abbrev pub read_part : Operand → ℕ → Reading
read_part a j = λ s values. on_tuple (element_at j) (operand_value s values a)

abbrev pub PartsSo : Nodes → Nodes → List Value → ℕ → Operand → Operand → Type 0
PartsSo old new ws i a o = (ts : List Ty) → IsBuilt old → HasType old a (Tuple (map ir_type_of ts) []) → IsTrue (each_passes (map fits ts) ws) → GivesTest old new o (AreEqual (read_part a) ws i)

none_first : (read : ℕ → Reading) (ws : List Value) (s : Value) (values : List Value) → AreEqual read ws 0 s values
none_first read ws s values j h = absurd (omega (arith, h))

pub parts_first : (old new : Nodes) (ws : List Value) (a o : Operand) → (IsBuilt old → 1 ≤ 1 → 1 ≤ 128 → 1 < 2 ^ 1 → GivesValue old new o (Bits 1 []) (λ s values. value.Bits (word 1 1))) → PartsSo old new ws 0 a o
parts_first old new ws a o call ts built h p = always old new o (AreEqual (read_part a) ws 0) (call built (omega arith) (omega arith) (omega arith)) (none_first (read_part a) ws)

pub parts_step : (s0 s1 s2 s3 s4 : Nodes) (ws : List Value) (i : ℕ) (w : Value) (a equal part other o : Operand) → i < length ws → w ≡ get_or ws i w → PartsSo s0 s1 ws i a equal
    → ((ts : List IrType) (t : IrType) → IsBuilt s1 → HasType s1 a (Tuple ts []) → slice_get ts i ≡ Some t → GivesValue s1 s2 part t (λ s values. on_tuple (element_at i) (operand_value s values a)))
    → ((t : Ty) → IsBuilt s2 → HasType s2 part (ir_type_of t) → IsOfType t w → GivesTest s2 s3 other (λ s values. operand_value s values part ≡ w))
    → ((k : ℕ) → IsBuilt s3 → HasType s3 equal (Bits k []) → HasType s3 other (Bits k []) → GivesValue s3 s4 o (Bits k []) (words_by (binary_word binary.And) equal other))
    → PartsSo s0 s4 ws (i + 1) a o
parts_step s0 s1 s2 s3 s4 ws i w a equal part other o less is before element equals and ts built h p =
    let first = before ts built h p in
    let own = part_there ts ws i w p less in
    let next = element (map ir_type_of ts) (ir_type_of own.ty) first.grows.built (has_later s0 s1 a (Tuple (map ir_type_of ts) []) first.grows h) own.there in
    let last = equals own.ty next.grows.built next.has (subst (IsOfType own.ty) (sym is) own.typed) in
    and_step s0 s1 s2 s3 s4 equal part other o (AreEqual (read_part a) ws i) (AreEqual (read_part a) ws (i + 1)) (ir_type_of own.ty) (read_part a i) (λ x. x ≡ w) first next last and
    (λ s values v. one_more (λ j. read_part a j s values) ws i w (is ∙ get_any ws i w no_value less))

pub parts_last : (old new : Nodes) (ws : List Value) (i : ℕ) (a o : Operand) → i ≡ length ws → PartsSo old new ws i a o
    → (ts : List Ty) → IsBuilt old → HasType old a (Tuple (map ir_type_of ts) []) → IsTrue (each_passes (map fits ts) ws) → GivesTest old new o (λ s values. operand_value s values a ≡ value.Tuple ws)
parts_last old new ws i a o e h ts built k p =
    test_as old new o (AreEqual (read_part a) ws i) (λ s values. operand_value s values a ≡ value.Tuple ws)
    (λ s values v.
    let f = tuple_of_type (map ty_of (map ir_type_of ts)) (operand_value s values a) (subst (λ u. IsOfType u (operand_value s values a)) (ty_of-Tuple (map ir_type_of ts) []) (value_typed old a (Tuple (map ir_type_of ts) []) k s values v)) in
    let here = passes_length (map fits (map ty_of (map ir_type_of ts))) f.parts f.each in
    let there = passes_length (map fits ts) ws p in
    let count : length f.parts ≡ length ws = here ∙ (length-map (map ty_of (map ir_type_of ts)) fits ∙ (length-map (map ir_type_of ts) ty_of ∙ (length-map ts ir_type_of ∙ (sym (length-map ts fits) ∙ sym there)))) in (
      λ q. f.is ∙ ap value.Tuple (lists_same f.parts ws count (λ j less. sym (on_tuple-Tuple (element_at j) (operand_value s values a) f.parts f.is) ∙ q j (subst (λ n. j < n) (sym e) less))),
      λ q j less. on_tuple-Tuple (element_at j) (operand_value s values a) ws q,
    ))
    (h ts built k p)

-- ---- elements of arrays

abbrev pub read_element : Operand → ℕ → Reading
read_element a j = λ s values. on_array (element_at j) (operand_value s values a)

abbrev pub ElementsSo : Nodes → Nodes → List Value → ℕ → Operand → Operand → Type 0
ElementsSo old new ws i a o = (t : Ty) → IsBuilt old → HasType old a (array_of (length ws) (ir_type_of t)) → IsTrue (list_all (fits t) ws) → GivesTest old new o (AreEqual (read_element a) ws i)

record HasElements (ws : List Value) (v : Value) : Type 0 where
  values : List Value
  is : v ≡ value.Array values
  count : length values ≡ length ws

elements_in : (nodes : Nodes) (a : Operand) (t : Ty) (ws : List Value) → HasType nodes a (array_of (length ws) (ir_type_of t)) → (s : Value) (values : List Value) → AreValues nodes.state nodes.list.items s values → HasElements ws (operand_value s values a)
elements_in nodes a t ws h s values v =
    let f = array_of_type (ty_of (ir_type_of t)) (bounded (length ws)) (operand_value s values a) (subst (λ u. IsOfType u (operand_value s values a)) (array_ty (length ws) (ir_type_of t)) (value_typed nodes a (array_of (length ws) (ir_type_of t)) h s values v)) in
    record { values = f.parts; is = f.is; count = f.count ∙ size_is (length ws) (ir_type_of t) h.within }

pub elements_first : (old new : Nodes) (ws : List Value) (a o : Operand) → (IsBuilt old → 1 ≤ 1 → 1 ≤ 128 → 1 < 2 ^ 1 → GivesValue old new o (Bits 1 []) (λ s values. value.Bits (word 1 1))) → ElementsSo old new ws 0 a o
elements_first old new ws a o call t built h p = always old new o (AreEqual (read_element a) ws 0) (call built (omega arith) (omega arith) (omega arith)) (none_first (read_element a) ws)

inside : (i n : ℕ) → i < n → min i (n - 1) ≡ i
inside i n h = omega (arith, h)

pub elements_step : (s0 s1 s2 s3 s4 s5 : Nodes) (ws : List Value) (i : ℕ) (w : Value) (a equal index element other o : Operand) → i < length ws → i < 2 ^ 64 → w ≡ get_or ws i w → ElementsSo s0 s1 ws i a equal
    → (IsBuilt s1 → 1 ≤ 64 → 64 ≤ 128 → i < 2 ^ 64 → GivesValue s1 s2 index (Bits 64 []) (λ s values. value.Bits (word 64 i)))
    → ((n k : ℕ) (t : IrType) → IsBuilt s2 → HasType s2 a (array_of n t) → HasType s2 index (Bits k []) → GivesValue s2 s3 element t (λ s values. on_array (λ vs. on_word (at_index vs) (operand_value s values index)) (operand_value s values a)))
    → ((t : Ty) → IsBuilt s3 → HasType s3 element (ir_type_of t) → IsOfType t w → GivesTest s3 s4 other (λ s values. operand_value s values element ≡ w))
    → ((k : ℕ) → IsBuilt s4 → HasType s4 equal (Bits k []) → HasType s4 other (Bits k []) → GivesValue s4 s5 o (Bits k []) (words_by (binary_word binary.And) equal other))
    → ElementsSo s0 s5 ws (i + 1) a o
elements_step s0 s1 s2 s3 s4 s5 ws i w a equal index element other o less small is before number at equals and t built h p =
    and_step s0 s1 s3 s4 s5 equal element other o (AreEqual (read_element a) ws i) (AreEqual (read_element a) ws (i + 1)) (ir_type_of t) (read_element a i) (λ x. x ≡ w) first next last and
    (λ s values v. one_more (λ j. read_element a j s values) ws i w (is ∙ get_any ws i w no_value less))
  where
    first : GivesTest s0 s1 equal (AreEqual (read_element a) ws i)
    first = before t built h p

    literal : GivesValue s1 s2 index (Bits 64 []) (λ s values. value.Bits (word 64 i))
    literal = number first.grows.built (omega arith) (omega arith) small

    array : HasType s2 a (array_of (length ws) (ir_type_of t))
    array = has_later s0 s2 a (array_of (length ws) (ir_type_of t)) (grows_twice s0 s1 s2 first.grows literal.grows) h

    there : GivesValue s2 s3 element (ir_type_of t) (λ s values. on_array (λ vs. on_word (at_index vs) (operand_value s values index)) (operand_value s values a))
    there = at (length ws) 64 (ir_type_of t) literal.grows.built array literal.has

    next : GivesValue s1 s3 element (ir_type_of t) (read_element a i)
    next =
        gives_behind s1 s2 s3 element (ir_type_of t) (read_element a i) literal.grows
        (gives_as s2 s3 element (ir_type_of t) (λ s values. on_array (λ vs. on_word (at_index vs) (operand_value s values index)) (operand_value s values a)) (read_element a i)
        (λ s values v.
        let f = elements_in s2 a t ws array s values v in
        let place : min i (length f.values - 1) ≡ i = inside i (length f.values) (subst (λ n. i < n) (sym f.count) less) in
        on_array-Array (λ vs. on_word (at_index vs) (operand_value s values index)) (operand_value s values a) f.values f.is
        ∙ (on_word-Bits (at_index f.values) (operand_value s values index) (word 64 i) (literal.value s values v)
        ∙ (ap (λ k. element_at k f.values) place
        ∙ sym (on_array-Array (element_at i) (operand_value s values a) f.values f.is))))
        there)

    last : GivesTest s3 s4 other (λ s values. operand_value s values element ≡ w)
    last = equals t next.grows.built next.has (subst (IsOfType t) (sym is) (element_there t ws i w p less))

pub elements_last : (old new : Nodes) (ws : List Value) (i : ℕ) (a o : Operand) → i ≡ length ws → ElementsSo old new ws i a o
    → (t : Ty) → IsBuilt old → HasType old a (array_of (length ws) (ir_type_of t)) → IsTrue (list_all (fits t) ws) → GivesTest old new o (λ s values. operand_value s values a ≡ value.Array ws)
elements_last old new ws i a o e h t built k p =
    test_as old new o (AreEqual (read_element a) ws i) (λ s values. operand_value s values a ≡ value.Array ws)
    (λ s values v.
    let f = elements_in old a t ws k s values v in (
      λ q. f.is ∙ ap value.Array (lists_same f.values ws f.count (λ j less. sym (on_array-Array (element_at j) (operand_value s values a) f.values f.is) ∙ q j (subst (λ n. j < n) (sym e) less))),
      λ q j less. on_array-Array (element_at j) (operand_value s values a) ws q,
    ))
    (h t built k p)

-- ---- numbers

record IsNumberOf (t : Ty) (x : Word) : Type 0 where
  is : t ≡ ty.Bits x.width
  some : 1 ≤ x.width
  most : x.width ≤ 128
  range : x.value < 2 ^ x.width

word_same : (x y : Word) → value.Bits x ≡ value.Bits y → x ≡ y
word_same x y e = let open_same : Value-F.Bits x ≡ Value-F.Bits y = sym (outs-Bits x) ∙ (ap out-Value e ∙ outs-Bits y) in cc

number_of : (t : Ty) (x : Word) → IsOfType t (value.Bits x) → IsNumberOf t x
number_of = ty_induction (λ t. (x : Word) → IsOfType t (value.Bits x) → IsNumberOf t x)
    (λ w x h.
    let f = bits_of_type w (value.Bits x) h in
    let same = word_same x f.word f.is in
    let width : x.width ≡ w = ap (λ (y : Word). y.width) same ∙ f.width in
    record {
      is = ap ty.Bits (sym width);
      some = subst (λ k. 1 ≤ k) (sym width) f.some_width;
      most = subst (λ k. k ≤ 128) (sym width) f.most_width;
      range = subst (λ k. x.value < 2 ^ k) (sym width) (subst (λ (y : Word). y.value < 2 ^ w) (sym same) f.in_range);
    })
    (λ ts each x h. let f = tuple_of_type ts (value.Bits x) h in let never : Value-F.Bits x ≡ Value-F.Tuple f.parts = sym (outs-Bits x) ∙ (ap out-Value f.is ∙ outs-Tuple f.parts) in absurd (cc))
    (λ t n one x h. let f = array_of_type t n (value.Bits x) h in let never : Value-F.Bits x ≡ Value-F.Array f.parts = sym (outs-Bits x) ∙ (ap out-Value f.is ∙ outs-Array f.parts) in absurd (cc))

-- words of one width are equal where their numbers are
equal_words : (w : ℕ) (x y : Word) → IsWordOf w x → y.width ≡ w → IsTrue (is_equal (nat_cmp x.value y.value)) ↔ (value.Bits x ≡ value.Bits y)
equal_words w x y h e = (to, from)
  where
    numbers : IsTrue (is_equal (nat_cmp x.value y.value)) → x.value ≡ y.value
    numbers t = grind (arith, nat_tests, t)

    to : IsTrue (is_equal (nat_cmp x.value y.value)) → value.Bits x ≡ value.Bits y
    to t = let n = numbers t in let m = h.fits ∙ sym e in λ i. value.Bits (record { width = m i; value = n i })

    same : (n : ℕ) → IsTrue (is_equal (nat_cmp n n))
    same n = grind (arith, nat_tests)

    from : value.Bits x ≡ value.Bits y → IsTrue (is_equal (nat_cmp x.value y.value))
    from q = subst (λ n. IsTrue (is_equal (nat_cmp x.value n))) (ap (λ (z : Word). z.value) (word_same x y q)) (same x.value)

pub number_equals : (s0 s1 s2 : Nodes) (a number o : Operand) (x : Word) (v : Value) (w n : ℕ) → v ≡ value.Bits x → w ≡ x.width → n ≡ x.value
    → (IsBuilt s0 → 1 ≤ w → w ≤ 128 → n < 2 ^ w → GivesValue s0 s1 number (Bits w []) (λ s values. value.Bits (word w n)))
    → ((k : ℕ) → IsBuilt s1 → HasType s1 a (Bits k []) → HasType s1 number (Bits k []) → GivesValue s1 s2 o (Bits 1 []) (words_by (λ y z. bit (holds compare.Eq y z)) a number))
    → (t : Ty) → IsBuilt s0 → HasType s0 a (ir_type_of t) → IsOfType t v → GivesTest s0 s2 o (λ s values. operand_value s values a ≡ v)
number_equals s0 s1 s2 a number o x v w n e f g put call t built h p = record {
  grows = grows_twice s0 s1 s2 literal.grows here.grows;
  has = here.has;
  says = λ s values u.
      let u1 = values_earlier s1 s2 here.grows s values u in
      let y = operand_word s1 a w later s values u1 in
      let same = equal_words w y.word x y.of (sym f) in
      let wanted : value.Bits (word w n) ≡ value.Bits x = λ i. value.Bits (record { width = f i; value = g i }) in
      record {
        test = is_equal (nat_cmp y.word.value x.value);
        is = here.value s values u
            ∙ on_words-Bits (λ y z. value.Bits (bit (holds compare.Eq y z))) (operand_value s values a) (operand_value s values number) y.word x y.is (literal.value s values u1 ∙ wanted);
        holds = (λ q. y.is ∙ (same.0 q ∙ sym e), λ q. same.1 (sym y.is ∙ (q ∙ e)));
      };
}
  where
    number_is : IsNumberOf t x
    number_is = number_of t x (subst (IsOfType t) e p)

    own : HasType s0 a (Bits w [])
    own = subst (HasType s0 a) (ap ir_type_of number_is.is ∙ (type-Bits x.width ∙ ap (λ k. Bits k []) (sym f))) h

    literal : GivesValue s0 s1 number (Bits w []) (λ s values. value.Bits (word w n))
    literal =
        put built (subst (λ k. 1 ≤ k) (sym f) number_is.some) (subst (λ k. k ≤ 128) (sym f) number_is.most)
        (subst (λ m. m < 2 ^ w) (sym g) (subst (λ k. x.value < 2 ^ k) (sym f) number_is.range))

    later : HasType s1 a (Bits w [])
    later = has_later s0 s1 a (Bits w []) literal.grows own

    here : GivesValue s1 s2 o (Bits 1 []) (words_by (λ y z. bit (holds compare.Eq y z)) a number)
    here = call w literal.grows.built later literal.has

-- ---- tuples and arrays

record IsTupleFor (t : Ty) (ws : List Value) : Type 0 where
  types : List Ty
  is : t ≡ ty.Tuple types
  each : IsTrue (each_passes (map fits types) ws)

tuple_for : (t : Ty) (ws : List Value) → IsOfType t (value.Tuple ws) → IsTupleFor t ws
tuple_for = ty_induction (λ t. (ws : List Value) → IsOfType t (value.Tuple ws) → IsTupleFor t ws)
    (λ w ws h. let f = bits_of_type w (value.Tuple ws) h in let never : Value-F.Tuple ws ≡ Value-F.Bits f.word = sym (outs-Tuple ws) ∙ (ap out-Value f.is ∙ outs-Bits f.word) in absurd (cc))
    (λ ts each ws h.
    let f = tuple_of_type ts (value.Tuple ws) h in
    let open_same : Value-F.Tuple ws ≡ Value-F.Tuple f.parts = sym (outs-Tuple ws) ∙ (ap out-Value f.is ∙ outs-Tuple f.parts) in
    let same : f.parts ≡ ws = cc in
    record { types = ts; is = refl; each = subst (λ vs. IsTrue (each_passes (map fits ts) vs)) same f.each })
    (λ t n one ws h. let f = array_of_type t n (value.Tuple ws) h in let never : Value-F.Tuple ws ≡ Value-F.Array f.parts = sym (outs-Tuple ws) ∙ (ap out-Value f.is ∙ outs-Array f.parts) in absurd (cc))

record IsArrayFor (t : Ty) (ws : List Value) : Type 0 where
  element : Ty
  is : t ≡ ty.Array element (length ws)
  all : IsTrue (list_all (fits element) ws)

array_for : (t : Ty) (ws : List Value) → IsOfType t (value.Array ws) → IsArrayFor t ws
array_for = ty_induction (λ t. (ws : List Value) → IsOfType t (value.Array ws) → IsArrayFor t ws)
    (λ w ws h. let f = bits_of_type w (value.Array ws) h in let never : Value-F.Array ws ≡ Value-F.Bits f.word = sym (outs-Array ws) ∙ (ap out-Value f.is ∙ outs-Bits f.word) in absurd (cc))
    (λ ts each ws h. let f = tuple_of_type ts (value.Array ws) h in let never : Value-F.Array ws ≡ Value-F.Tuple f.parts = sym (outs-Array ws) ∙ (ap out-Value f.is ∙ outs-Tuple f.parts) in absurd (cc))
    (λ t n one ws h.
    let f = array_of_type t n (value.Array ws) h in
    let open_same : Value-F.Array ws ≡ Value-F.Array f.parts = sym (outs-Array ws) ∙ (ap out-Value f.is ∙ outs-Array f.parts) in
    let same : f.parts ≡ ws = cc in
    record { element = t; is = ap (ty.Array t) (sym f.count ∙ ap length same); all = subst (λ vs. IsTrue (list_all (fits t) vs)) same f.all })

pub tuple_equals : (old new : Nodes) (a o : Operand) (v : Value) (ws : List Value) → v ≡ value.Tuple ws
    → ((ts : List Ty) → IsBuilt old → HasType old a (Tuple (map ir_type_of ts) []) → IsTrue (each_passes (map fits ts) ws) → GivesTest old new o (λ s values. operand_value s values a ≡ value.Tuple ws))
    → (t : Ty) → IsBuilt old → HasType old a (ir_type_of t) → IsOfType t v → GivesTest old new o (λ s values. operand_value s values a ≡ v)
tuple_equals old new a o v ws e call t built h p =
    let f = tuple_for t ws (subst (IsOfType t) e p) in
    subst (λ u. GivesTest old new o (λ s values. operand_value s values a ≡ u)) (sym e)
    (call f.types built (subst (HasType old a) (ap ir_type_of f.is ∙ type-Tuple f.types) h) f.each)

pub array_equals : (old new : Nodes) (a o : Operand) (v : Value) (ws : List Value) → v ≡ value.Array ws
    → ((t : Ty) → IsBuilt old → HasType old a (array_of (length ws) (ir_type_of t)) → IsTrue (list_all (fits t) ws) → GivesTest old new o (λ s values. operand_value s values a ≡ value.Array ws))
    → (t : Ty) → IsBuilt old → HasType old a (ir_type_of t) → IsOfType t v → GivesTest old new o (λ s values. operand_value s values a ≡ v)
array_equals old new a o v ws e call t built h p =
    let f = array_for t ws (subst (IsOfType t) e p) in
    subst (λ u. GivesTest old new o (λ s values. operand_value s values a ≡ u)) (sym e)
    (call f.element built (subst (HasType old a) (ap ir_type_of f.is ∙ type-Array f.element (length ws)) h) f.all)
