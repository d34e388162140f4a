-- The numbers in a value of a type: how many there are, and what their literals are worth.
use Rattle.std.proofs.Common.{◌≡◌, ℕ, ◌<◌, ◌≤◌, ◌^◌, min, max, List, [], ◌∷◌, ◌++◌, length, map, IsTrue, cond, true, refl, sym, ap, ap₂, ◌∙◌, subst, arith}
use Rattle.std.specs.Prelude.{nat_lt}
use Rattle.std.specs.List.{AllByRecursion, list_all}
use Rattle.std.proofs.lemmas.Bool.Decides.{nat_tests}
use Rattle.std.proofs.lemmas.List.{length-append}
use Rattle.xb_bits.specs.Word.{Word, IsWord, word}
use Rattle.xb_value.specs.declared.ty.Ty.{Ty}
use Rattle.xb_value.specs.declared.ty.Ty as ty
use Rattle.xb_value.specs.declared.value.Value.{Value, Bits, Tuple, Array}
use Rattle.xb_value.specs.Typing.{IsOfType, fits, each_passes}
use Rattle.xb_value.proofs.Lemmas.Types as types
use Rattle.xb_value.proofs.Lemmas.Types.{EachHas, ty_induction}
use Rattle.xb_value.proofs.Lemmas.Typing.{bits_of_type, tuple_of_type, array_of_type}
use Rattle.xb_value.proofs.Lemmas.Values as values
use Rattle.ir_tree.proofs.Lemmas.Rules.Typed.Checked.{both_true}
use Rattle.vlog_tree.specs.Value.{Values, atom_value}
use Rattle.block_build.specs.Netlist.Leaves.{all_leaves, leaves_step, leaves_of, ShowsValue, repeated, leaf_widths_step, leaf_widths, word_atom, literals_of}
use Rattle.block_build.specs.Netlist.Literals.{literal_atom}

leaves-Bits : (x : Word) → leaves_of (Bits x) ≡ x ∷ []
leaves-Bits = values.fold-Bits (List Word) leaves_step

leaves-Tuple : (vs : List Value) → leaves_of (Tuple vs) ≡ all_leaves (map leaves_of vs)
leaves-Tuple = values.fold-Tuple (List Word) leaves_step

leaves-Array : (vs : List Value) → leaves_of (Array vs) ≡ all_leaves (map leaves_of vs)
leaves-Array = values.fold-Array (List Word) leaves_step

leaf_widths-Bits : (w : ℕ) → leaf_widths (ty.Bits w) ≡ w ∷ []
leaf_widths-Bits = types.fold-Bits (List ℕ) leaf_widths_step

leaf_widths-Tuple : (ts : List Ty) → leaf_widths (ty.Tuple ts) ≡ all_leaves (map leaf_widths ts)
leaf_widths-Tuple = types.fold-Tuple (List ℕ) leaf_widths_step

leaf_widths-Array : (t : Ty) (n : ℕ) → leaf_widths (ty.Array t n) ≡ repeated n (leaf_widths t)
leaf_widths-Array = types.fold-Array (List ℕ) leaf_widths_step

-- what is so of the numbers in a value of a type: there are so many, and they are words
record AreLeaves (xs : List Word) (ws : List ℕ) : Type 0 where
  count : length xs ≡ length ws
  words : AllByRecursion IsWord xs

abbrev HasLeaves : Ty → Type 0
HasLeaves t = (value : Value) → IsOfType t value → AreLeaves (leaves_of value) (leaf_widths t)

words_behind : (xs ys : List Word) → AllByRecursion IsWord xs → AllByRecursion IsWord ys → AllByRecursion IsWord (xs ++ ys)
words_behind [] ys a b = b
words_behind (x ∷ xs) ys a b = (a.0, words_behind xs ys a.1 b)

leaves_behind : (xs ys : List Word) (us ws : List ℕ) → AreLeaves xs us → AreLeaves ys ws → AreLeaves (xs ++ ys) (us ++ ws)
leaves_behind xs ys us ws a b =
    let one = length-append xs ys in
    let two = length-append us ws in
    let first = a.count in
    let rest = b.count in
    record { count = omega (arith, one, two, first, rest); words = words_behind xs ys a.words b.words }

leaves_each : (ts : List Ty) (vs : List Value) → EachHas HasLeaves ts → IsTrue (each_passes (map fits ts) vs) → AreLeaves (all_leaves (map leaves_of vs)) (all_leaves (map leaf_widths ts))
leaves_each [] [] each pass = record { count = refl; words = tt }
leaves_each [] (v ∷ vs) each pass = absurd (cc)
leaves_each (t ∷ ts) [] each pass = absurd (cc)
leaves_each (t ∷ ts) (v ∷ vs) each pass =
    let both = both_true (fits t v) (each_passes (map fits ts) vs) pass in
    leaves_behind (leaves_of v) (all_leaves (map leaves_of vs)) (leaf_widths t) (all_leaves (map leaf_widths ts)) (each.0 v both.0) (leaves_each ts vs each.1 both.1)

leaves_times : (t : Ty) (vs : List Value) → HasLeaves t → IsTrue (list_all (fits t) vs) → AreLeaves (all_leaves (map leaves_of vs)) (repeated (length vs) (leaf_widths t))
leaves_times t [] one pass = record { count = refl; words = tt }
leaves_times t (v ∷ vs) one pass =
    let both = both_true (fits t v) (list_all (fits t) vs) pass in
    leaves_behind (leaves_of v) (all_leaves (map leaves_of vs)) (leaf_widths t) (repeated (length vs) (leaf_widths t)) (one v both.0) (leaves_times t vs one both.1)

leaves_are : (t : Ty) → HasLeaves t
leaves_are = ty_induction HasLeaves
    (λ w v of.
    let b = bits_of_type w v of in
    let own : IsWord b.word = record {
      some_width = subst (λ k. 1 ≤ k) (sym b.width) b.some_width;
      most_width = subst (λ k. k ≤ 128) (sym b.width) b.most_width;
      in_range = subst (λ k. b.word.value < 2 ^ k) (sym b.width) b.in_range;
    } in
    subst (λ ws. AreLeaves (leaves_of v) ws) (sym (leaf_widths-Bits w))
    (subst (λ u. AreLeaves (leaves_of u) (w ∷ [])) (sym b.is) (subst (λ xs. AreLeaves xs (w ∷ [])) (sym (leaves-Bits b.word)) (record { count = refl; words = (own, tt) }))))
    (λ ts each v of.
    let b = tuple_of_type ts v of in
    subst (λ ws. AreLeaves (leaves_of v) ws) (sym (leaf_widths-Tuple ts))
    (subst (λ u. AreLeaves (leaves_of u) (all_leaves (map leaf_widths ts))) (sym b.is)
    (subst (λ xs. AreLeaves xs (all_leaves (map leaf_widths ts))) (sym (leaves-Tuple b.parts)) (leaves_each ts b.parts each b.each))))
    (λ t n one v of.
    let b = array_of_type t n v of in
    subst (λ ws. AreLeaves (leaves_of v) ws) (sym (leaf_widths-Array t n))
    (subst (λ u. AreLeaves (leaves_of u) (repeated n (leaf_widths t))) (sym b.is)
    (subst (λ xs. AreLeaves xs (repeated n (leaf_widths t))) (sym (leaves-Array b.parts))
    (subst (λ k. AreLeaves (all_leaves (map leaves_of b.parts)) (repeated k (leaf_widths t))) b.count (leaves_times t b.parts one b.all)))))

pub leaf_count : (t : Ty) (value : Value) → IsOfType t value → length (leaves_of value) ≡ length (leaf_widths t)
leaf_count t value of = (leaves_are t value of).count

-- ---- literals

pub literal_value : (v : Values) (w n : ℕ) → 1 ≤ w → w ≤ 128 → n < 2 ^ w → atom_value v (literal_atom w n) ≡ word w n
literal_value v w n some most fits_in =
    let wide : max 1 w ≡ w = omega (arith, some) in
    let least : min (max 1 w) 128 ≡ w = omega (arith, some, most) in
    ap₂ word wide (ap (λ k. cond (nat_lt n (2 ^ k)) n 0) least ∙ ap (λ t. cond t n 0) (below (2 ^ w) n fits_in))
  where
    below : (m n : ℕ) → n < m → nat_lt n m ≡ true
    below m n l = grind (arith, nat_tests)

words_shown : (v : Values) (xs : List Word) → AllByRecursion IsWord xs → map (atom_value v) (map word_atom xs) ≡ xs
words_shown v [] h = refl
words_shown v (x ∷ xs) h = ap₂ (λ y ys. y ∷ ys) (literal_value v x.width x.value h.0.some_width h.0.most_width h.0.in_range) (words_shown v xs h.1)

pub literals_shown : (v : Values) (t : Ty) (value : Value) → IsOfType t value → ShowsValue v (literals_of value) value
literals_shown v t value of = words_shown v (leaves_of value) (leaves_are t value of).words
