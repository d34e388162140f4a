-- The text of a value is a value text, whose numbers and brackets are the value's.
use Rattle.std.proofs.Common.{◌≡◌, ℕ, ◌+◌, ◌/◌, ◌^◌, ◌<◌, ◌≤◌, nat_le, List, [], ◌∷◌, ◌++◌, append-nil, length, map, codes, IsTrue, refl, sym, ap, ap₂, subst, ◌∙◌, arith}
use Rattle.std.specs.List.{list_all}
use Rattle.std.proofs.lemmas.Bool.Decides.{nat_tests}
use Rattle.std.proofs.lemmas.List.{map-append}
use Rattle.xb_bits.specs.Word.{Word}
use Rattle.xb_value.specs.declared.ty.Ty.{Ty}
use Rattle.xb_value.specs.declared.token.Bracket.{Bracket}
use Rattle.xb_value.specs.declared.token.Bracket.TheVariants.{Round, Square}
use Rattle.xb_value.specs.declared.token.Token.TheVariants.{Number, Open, Close}
use Rattle.xb_value.specs.declared.value.Value.{Value, Bits, Tuple, Array}
use Rattle.xb_value.specs.declared.value.Value.TheOpen.{Value-F}
use Rattle.xb_value.specs.declared.value.Value.TheFolds.{fold-Value}
use Rattle.xb_value.specs.Form.{Form, Items, number, empty, group, last, next, form_text, items_text, is_form, are_forms, opening, closing, spaces, form_tokens, items_tokens}
use Rattle.xb_value.specs.Reads.{Reads}
use Rattle.xb_value.specs.Shape.{unplaced, shape_of, all_of}
use Rattle.xb_value.specs.Text.{listed, text_step, text_of}
use Rattle.base.specs.Texts.Hexadecimal.{hex_digits}
use Rattle.base.proofs.Lemmas.Texts.Hexadecimal.{digits_value-of_width, hex_digits-all, length-hex_digits}
use Rattle.xb_value.specs.Typing.{IsOfType, fits, each_passes}
use Rattle.xb_value.proofs.Lemmas.Types.{EachHas, ty_induction}
use Rattle.xb_value.proofs.Lemmas.Typing.{bits_of_type, tuple_of_type, array_of_type}
use Rattle.xb_value.proofs.Lemmas.Values as values
use Rattle.xb_value.proofs.Lemmas.Values.{value_induction, shape_of-Bits, shape_of-Tuple, shape_of-Array}
use Rattle.xb_value.proofs.Widths.{both_true, and_true}

-- ---- the form that is written

itemized : ℕ → Form → List Form → Items
itemized k f [] = last k f 0
itemized k f (g ∷ gs) = next k f 0 (itemized 1 g gs)

grouped : Bracket → List Form → Form
unfolding itemized
grouped b [] = empty b 0
grouped b (f ∷ fs) = group b (itemized 0 f fs)

abbrev form_step : Value-F Form → Form
form_step (Value-F.Bits x) = number (hex_digits ((x.width + 3) / 4) x.value)
form_step (Value-F.Tuple fs) = grouped Round fs
form_step (Value-F.Array fs) = grouped Square fs

abbrev form_of : Value → Form
form_of = fold-Value Form form_step

form_of-Bits : (x : Word) → form_of (Bits x) ≡ number (hex_digits ((x.width + 3) / 4) x.value)
form_of-Bits = values.fold-Bits Form form_step

form_of-Tuple : (vs : List Value) → form_of (Tuple vs) ≡ grouped Round (map form_of vs)
form_of-Tuple = values.fold-Tuple Form form_step

form_of-Array : (vs : List Value) → form_of (Array vs) ≡ grouped Square (map form_of vs)
form_of-Array = values.fold-Array Form form_step

-- ---- its text

itemized_text : (k : ℕ) (f : Form) (fs : List Form) → items_text (itemized k f fs) ≡ spaces k ++ (form_text f ++ listed (codes ", ") (map form_text fs))
unfolding itemized
itemized_text k f [] = refl
itemized_text k f (g ∷ gs) = ap (λ t. spaces k ++ (form_text f ++ 44 ∷ t)) (itemized_text 1 g gs)

grouped_text : (b : Bracket) (fs : List Form) → form_text (grouped b fs) ≡ opening b ∷ (listed [] (map form_text fs) ++ closing b ∷ [])
unfolding grouped
grouped_text b [] = refl
grouped_text b (f ∷ fs) = ap (λ t. opening b ∷ (t ++ closing b ∷ [])) (itemized_text 0 f fs)

IsWritten : Value → Type 0
IsWritten v = form_text (form_of v) ≡ text_of v

texts_of : (vs : List Value) → EachHas IsWritten vs → map form_text (map form_of vs) ≡ map text_of vs
unfolding IsWritten
texts_of [] each = refl
texts_of (v ∷ vs) each = ap₂ (λ t ts. t ∷ ts) each.0 (texts_of vs each.1)

is_written : (v : Value) → form_text (form_of v) ≡ text_of v
unfolding IsWritten
is_written = value_induction IsWritten
    (λ x. ap form_text (form_of-Bits x) ∙ sym (values.fold-Bits (List ℕ) text_step x))
    (λ vs each.
    ap form_text (form_of-Tuple vs) ∙ grouped_text Round (map form_of vs) ∙ ap (λ ts. 40 ∷ (listed [] ts ++ 41 ∷ [])) (texts_of vs each)
    ∙ sym (values.fold-Tuple (List ℕ) text_step vs))
    (λ vs each.
    ap form_text (form_of-Array vs) ∙ grouped_text Square (map form_of vs) ∙ ap (λ ts. 91 ∷ (listed [] ts ++ 93 ∷ [])) (texts_of vs each)
    ∙ sym (values.fold-Array (List ℕ) text_step vs))

-- ---- what it says

-- the form of the value is a form, whose numbers and brackets are the value's
record IsWellWritten (v : Value) : Type 0 where
  formed : IsTrue (is_form (form_of v))
  says : (at : ℕ) → map unplaced (form_tokens at (form_of v)) ≡ shape_of v

items_written : (k : ℕ) (v : Value) (vs : List Value) → IsWellWritten v → EachHas IsWellWritten vs
    → IsTrue (are_forms (itemized k (form_of v) (map form_of vs)))
    × ((at : ℕ) → map unplaced (items_tokens at (itemized k (form_of v) (map form_of vs))) ≡ all_of (map shape_of (v ∷ vs)))
unfolding itemized
items_written k v [] one each = (one.formed, λ at. one.says (at + k) ∙ sym (append-nil (shape_of v)))
items_written k v (u ∷ us) one each =
    let later = items_written 1 u us each.0 each.1 in (
      and_true _ _ one.formed later.0,
      λ at.
          let offset = at + k + length (form_text (form_of v)) + 0 + 1 in
          map-append unplaced (form_tokens (at + k) (form_of v)) (items_tokens offset (itemized 1 (form_of u) (map form_of us)))
          ∙ ap₂ (λ xs ys. xs ++ ys) (one.says (at + k)) (later.1 offset),
    )

group_written : (b : Bracket) (vs : List Value) → EachHas IsWellWritten vs
    → IsTrue (is_form (grouped b (map form_of vs)))
    × ((at : ℕ) → map unplaced (form_tokens at (grouped b (map form_of vs))) ≡ Open 0 b ∷ (all_of (map shape_of vs) ++ Close ∷ []))
unfolding grouped
group_written b [] each = (refl, λ at. refl)
group_written b (v ∷ vs) each =
    let items = items_written 0 v vs each.0 each.1 in (
      items.0,
      λ at.
          ap (λ xs. Open 0 b ∷ xs)
          (map-append unplaced (items_tokens (at + 1) (itemized 0 (form_of v) (map form_of vs))) (Close ∷ [])
          ∙ ap (λ xs. xs ++ Close ∷ []) (items.1 (at + 1))),
    )

abbrev WritesTyped : Ty → Type 0
WritesTyped t = (v : Value) → IsOfType t v → IsWellWritten v

each_written : (ps : List Ty) (vs : List Value) → EachHas WritesTyped ps → IsTrue (each_passes (map fits ps) vs) → EachHas IsWellWritten vs
each_written [] [] each pass = tt
each_written [] (v ∷ vs) each pass = absurd (cc)
each_written (t ∷ ps) [] each pass = absurd (cc)
each_written (t ∷ ps) (v ∷ vs) each pass =
    let both = both_true (fits t v) (each_passes (map fits ps) vs) pass in
    (each.0 v both.0, each_written ps vs each.1 both.1)

all_written : (t : Ty) (vs : List Value) → WritesTyped t → IsTrue (list_all (fits t) vs) → EachHas IsWellWritten vs
all_written t [] writes pass = tt
all_written t (v ∷ vs) writes pass =
    let both = both_true (fits t v) (list_all (fits t) vs) pass in
    (writes v both.0, all_written t vs writes both.1)

bits_written : (x : Word) → 1 ≤ x.width → x.width ≤ 128 → x.value < 2 ^ x.width → IsWellWritten (Bits x)
bits_written x some most below =
    let k = (x.width + 3) / 4 in
    let digits = hex_digits k x.value in
    let count : length digits ≡ (x.width + 3) / 4 = length-hex_digits k x.value in
    let least : IsTrue (nat_le 1 (length digits)) = let one : 1 ≤ (x.width + 3) / 4 = omega arith in grind (arith, nat_tests) in
    let greatest : IsTrue (nat_le (length digits) 32) = let few : (x.width + 3) / 4 ≤ 32 = omega arith in grind (arith, nat_tests) in
    record {
      formed = subst (λ f. IsTrue (is_form f)) (sym (form_of-Bits x)) (and_true _ _ (and_true _ _ (hex_digits-all k x.value) least) greatest);
      says = λ at.
          ap (λ f. map unplaced (form_tokens at f)) (form_of-Bits x) ∙ ap (λ n. Number 0 n ∷ []) (digits_value-of_width x.width x.value below) ∙ sym (shape_of-Bits x);
    }

well_written : (t : Ty) → WritesTyped t
well_written = ty_induction WritesTyped
    (λ w v of.
    let b = bits_of_type w v of in
    let x = b.word in
    let some : 1 ≤ x.width = subst (λ k. 1 ≤ k) (sym b.width) b.some_width in
    let most : x.width ≤ 128 = subst (λ k. k ≤ 128) (sym b.width) b.most_width in
    let below : x.value < 2 ^ x.width = subst (λ k. x.value < 2 ^ k) (sym b.width) b.in_range in
    subst IsWellWritten (sym b.is) (bits_written x some most below))
    (λ ps each v of.
    let b = tuple_of_type ps v of in
    let group = group_written Round b.parts (each_written ps b.parts each b.each) in
    subst IsWellWritten (sym b.is)
    (record {
      formed = subst (λ f. IsTrue (is_form f)) (sym (form_of-Tuple b.parts)) group.0;
      says = λ at. ap (λ f. map unplaced (form_tokens at f)) (form_of-Tuple b.parts) ∙ group.1 at ∙ sym (shape_of-Tuple b.parts);
    }))
    (λ t n writes v of.
    let b = array_of_type t n v of in
    let group = group_written Square b.parts (all_written t b.parts writes b.all) in
    subst IsWellWritten (sym b.is)
    (record {
      formed = subst (λ f. IsTrue (is_form f)) (sym (form_of-Array b.parts)) group.0;
      says = λ at. ap (λ f. map unplaced (form_tokens at f)) (form_of-Array b.parts) ∙ group.1 at ∙ sym (shape_of-Array b.parts);
    }))

-- the text of a value reads as the value, at each of its types
pub reads_back : (t : Ty) (v : Value) → IsOfType t v → Reads (text_of v) t v
reads_back t v of =
    let written = well_written t v of in
    let ts = form_tokens 0 (form_of v) in
    (ts, (form_of v, written.formed, is_written v, refl), of, written.says 0)
