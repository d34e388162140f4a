-- The numbers in types and values, put one behind another, and literals of them.
use Rattle.std.proofs.Common.{◌≡◌, ℕ, zero, suc, ◌+◌, ◌-◌, ◌<◌, ◌≤◌, ◌^◌, List, [], ◌∷◌, ◌++◌, map, length, take, drop, get_or, IsTrue, Result, Ok, Err, refl, sym, ap, ap₂, ◌∙◌, subst, arith}
use Rattle.std.specs.Prelude.{OnOk}
use Rattle.std.specs.List.{AllByRecursion, list_all}
use Rattle.std.proofs.Math.Seq.{drop-cons}
use Rattle.std.proofs.lemmas.List.{append_assoc, append-nil, map-append}
use Rattle.xb_bits.specs.Word.{Word, IsWord}
use Rattle.xb_value.specs.declared.ty.Ty.{Ty}
use Rattle.xb_value.specs.declared.value.Value.{Value, Bits, Tuple, Array}
use Rattle.xb_value.specs.Typing.{IsOfType, fits, each_passes}
use Rattle.xb_value.proofs.Lemmas.Types.{EachHas, ty_induction}
use Rattle.xb_value.proofs.Lemmas.Typing.{bits_of_type, tuple_of_type, array_of_type}
use Rattle.ir_tree.specs.declared.ir_type.IrType.{Token}
use Rattle.ir_tree.specs.Types.{ty_of}
use Rattle.ir_tree.proofs.Lemmas.NodeTypes.IrTypes.{ty_of-Token}
use Rattle.ir_tree.proofs.Lemmas.Rules.Typed.Checked.{both_true}
use Rattle.vlog_tree.specs.declared.expression.Atom.{Atom}
use Rattle.vlog_tree.specs.Value.{Values, atom_value}
use Rattle.block_build.specs.Netlist.Gates.{net}
use Rattle.block_build.specs.Netlist.Leaves.{all_leaves, leaves_of, ShowsValue, leaf_widths, nets, parts_of, repeated, word_atom, literals_of}
use Rattle.block_build.proofs.OnNetlist.OnAdded.{literal_value}
use Rattle.block_build.proofs.OnNetlist.OnLeaves.{leaf_widths-Tuple, leaves-Bits, leaves-Tuple, leaves-Array}
use Rattle.block_build.proofs.OnNetlist.OnOperating.{nets_more}

-- ---- one part behind another

-- what was there and a part, and the rest
pub part_behind : {A : Type 0} (old new part rest whole : List A) → new ≡ old ++ part → old ++ (part ++ rest) ≡ whole → new ++ rest ≡ whole
part_behind old new part rest whole e h = ap (λ xs. xs ++ rest) e ∙ append_assoc old part rest ∙ h

-- the first of what is left, and what is left behind it
pub left_of : {A B : Type 0} (f : A → List B) (xs : List A) (i : ℕ) (x : A) → i < length xs → x ≡ get_or xs i x → all_leaves (map f (drop i xs)) ≡ f x ++ all_leaves (map f (drop (i + 1) xs))
left_of f xs i x l is =
    let one : suc i ≡ i + 1 = omega arith in
    ap (λ ys. all_leaves (map f ys)) (drop-cons xs i x l) ∙ ap (λ y. f y ++ all_leaves (map f (drop (suc i) xs))) (sym is) ∙ ap (λ k. f x ++ all_leaves (map f (drop k xs))) one

pub none_left : {A B : Type 0} (f : A → List B) (xs : List A) (i : ℕ) → length xs ≤ i → all_leaves (map f (drop i xs)) ≡ []
none_left f [] zero l = refl
none_left f [] (suc i) l = refl
none_left f (x ∷ xs) zero l = absurd (omega (arith, l))
none_left f (x ∷ xs) (suc i) l = none_left f xs i (omega (arith, l))

pub parts_more : {A B : Type 0} (f : A → List B) (xs : List A) (i : ℕ) (x : A) (old new whole : List B) → i < length xs → x ≡ get_or xs i x → new ≡ old ++ f x
    → old ++ all_leaves (map f (drop i xs)) ≡ whole → new ++ all_leaves (map f (drop (i + 1) xs)) ≡ whole
parts_more f xs i x old new whole l is e h = part_behind old new (f x) (all_leaves (map f (drop (i + 1) xs))) whole e (ap (λ ys. old ++ ys) (sym (left_of f xs i x l is)) ∙ h)

pub parts_done : {A B : Type 0} (f : A → List B) (xs : List A) (i : ℕ) (old whole : List B) → length xs ≤ i → old ++ all_leaves (map f (drop i xs)) ≡ whole → old ≡ whole
parts_done f xs i old whole l h = sym (append-nil old) ∙ ap (λ ys. old ++ ys) (sym (none_left f xs i l)) ∙ h

-- one of those that are the same
pub times_more : {A : Type 0} (n i : ℕ) (xs old new whole : List A) → i < n → new ≡ old ++ xs → old ++ repeated (n - i) xs ≡ whole → new ++ repeated (n - (i + 1)) xs ≡ whole
times_more n i xs old new whole l e h =
    let one : n - i ≡ suc (n - (i + 1)) = omega (arith, l) in
    part_behind old new xs (repeated (n - (i + 1)) xs) whole e (ap (λ k. old ++ repeated k xs) (sym one) ∙ h)

pub times_done : {A : Type 0} (n i : ℕ) (xs old whole : List A) → n ≤ i → old ++ repeated (n - i) xs ≡ whole → old ≡ whole
times_done n i xs old whole l h =
    let none : n - i ≡ 0 = omega (arith, l) in
    sym (append-nil old) ∙ ap (λ k. old ++ repeated k xs) (sym none) ∙ h

-- one element of an array more
pub elements_more : (n i each : ℕ) (rest left : List Atom) (old new whole : List (List Atom)) (x : List Atom) → i < n → x ≡ take each rest → left ≡ drop each rest → new ≡ old ++ x ∷ []
    → old ++ parts_of (repeated (n - i) (each ∷ [])) rest ≡ whole → new ++ parts_of (repeated (n - (i + 1)) (each ∷ [])) left ≡ whole
elements_more n i each rest left old new whole x l is e grown h =
    let one : n - i ≡ suc (n - (i + 1)) = omega (arith, l) in
    part_behind old new (x ∷ []) (parts_of (repeated (n - (i + 1)) (each ∷ [])) left) whole grown
    (ap₂ (λ y r. old ++ (y ∷ parts_of (repeated (n - (i + 1)) (each ∷ [])) r)) is e ∙ ap (λ k. old ++ parts_of (repeated k (each ∷ [])) rest) (sym one) ∙ h)

-- a token has no numbers
pub token_widths : leaf_widths (ty_of (Token [])) ≡ []
token_widths = ap leaf_widths (ty_of-Token []) ∙ leaf_widths-Tuple []

-- one signal more
pub signals_more : (first i number : ℕ) (a : Atom) (old new start : List Atom) → number ≡ first + i → a ≡ net number → old ≡ start ++ nets first i → new ≡ old ++ a ∷ [] → new ≡ start ++ nets first (i + 1)
signals_more first i number a old new start n is h e =
    let one : suc i ≡ i + 1 = omega arith in
    e ∙ ap (λ xs. xs ++ a ∷ []) h ∙ append_assoc start (nets first i) (a ∷ []) ∙ ap (λ t. start ++ (nets first i ++ t ∷ [])) (is ∙ ap net n) ∙ ap (λ xs. start ++ xs) (sym (nets_more first i))
    ∙ ap (λ k. start ++ nets first k) one

-- ---- the literals of values

pub literals-all : (vs : List Value) → map word_atom (all_leaves (map leaves_of vs)) ≡ all_leaves (map literals_of vs)
literals-all [] = refl
literals-all (x ∷ vs) = map-append word_atom (leaves_of x) (all_leaves (map leaves_of vs)) ∙ ap (λ ys. literals_of x ++ ys) (literals-all vs)

pub literals-Bits : (x : Word) → literals_of (Bits x) ≡ word_atom x ∷ []
literals-Bits x = ap (map word_atom) (leaves-Bits x)

pub literals-Tuple : (vs : List Value) → literals_of (Tuple vs) ≡ all_leaves (map literals_of vs)
literals-Tuple vs = ap (map word_atom) (leaves-Tuple vs) ∙ literals-all vs

pub literals-Array : (vs : List Value) → literals_of (Array vs) ≡ all_leaves (map literals_of vs)
literals-Array vs = ap (map word_atom) (leaves-Array vs) ∙ literals-all vs

pub literals_tuple : {A E : Type 0} (o : Result A E) (old new : List Atom) (value : Value) (parts ps : List Value) → value ≡ Tuple ps → parts ≡ ps → OnOk o (new ≡ old ++ all_leaves (map literals_of parts)) → OnOk o (new ≡ old ++ literals_of value)
literals_tuple (Ok u) old new value parts ps is same p = p ∙ ap (λ ys. old ++ ys) (ap (λ qs. all_leaves (map literals_of qs)) same ∙ sym (ap literals_of is ∙ literals-Tuple ps))
literals_tuple (Err z) old new value parts ps is same p = tt

pub literals_array : {A E : Type 0} (o : Result A E) (old new : List Atom) (value : Value) (parts ps : List Value) → value ≡ Array ps → parts ≡ ps → OnOk o (new ≡ old ++ all_leaves (map literals_of parts)) → OnOk o (new ≡ old ++ literals_of value)
literals_array (Ok u) old new value parts ps is same p = p ∙ ap (λ ys. old ++ ys) (ap (λ qs. all_leaves (map literals_of qs)) same ∙ sym (ap literals_of is ∙ literals-Array ps))
literals_array (Err z) old new value parts ps is same p = tt

-- the numbers in a value of a type are words
abbrev HasWords : Ty → Type 0
HasWords t = (value : Value) → IsOfType t value → AllByRecursion IsWord (leaves_of value)

words-append : (xs ys : List Word) → AllByRecursion IsWord xs → AllByRecursion IsWord ys → AllByRecursion IsWord (xs ++ ys)
words-append [] ys a b = b
words-append (x ∷ xs) ys a b = (a.0, words-append xs ys a.1 b)

words_each : (ts : List Ty) (vs : List Value) → EachHas HasWords ts → IsTrue (each_passes (map fits ts) vs) → AllByRecursion IsWord (all_leaves (map leaves_of vs))
words_each [] [] each pass = tt
words_each [] (v ∷ vs) each pass = absurd (cc)
words_each (t ∷ ts) [] each pass = absurd (cc)
words_each (t ∷ ts) (v ∷ vs) each pass =
    let both = both_true (fits t v) (each_passes (map fits ts) vs) pass in
    words-append (leaves_of v) (all_leaves (map leaves_of vs)) (each.0 v both.0) (words_each ts vs each.1 both.1)

words_all : (t : Ty) (vs : List Value) → HasWords t → IsTrue (list_all (fits t) vs) → AllByRecursion IsWord (all_leaves (map leaves_of vs))
words_all t [] one pass = tt
words_all t (v ∷ vs) one pass =
    let both = both_true (fits t v) (list_all (fits t) vs) pass in
    words-append (leaves_of v) (all_leaves (map leaves_of vs)) (one v both.0) (words_all t vs one both.1)

leaves_are_words : (t : Ty) → HasWords t
leaves_are_words = ty_induction HasWords
    (λ w v of.
    let b = bits_of_type w v of in
    subst (λ u. AllByRecursion IsWord (leaves_of u)) (sym b.is)
    (subst (AllByRecursion IsWord) (sym (leaves-Bits b.word)) (
      record {
        some_width = subst (λ k. 1 ≤ k) (sym b.width) b.some_width;
        most_width = subst (λ k. k ≤ 128) (sym b.width) b.most_width;
        in_range = subst (λ k. b.word.value < 2 ^ k) (sym b.width) b.in_range;
      },
      tt,
    )))
    (λ ts each v of.
    let b = tuple_of_type ts v of in
    subst (λ u. AllByRecursion IsWord (leaves_of u)) (sym b.is) (subst (AllByRecursion IsWord) (sym (leaves-Tuple b.parts)) (words_each ts b.parts each b.each)))
    (λ t n one v of.
    let b = array_of_type t n v of in
    subst (λ u. AllByRecursion IsWord (leaves_of u)) (sym b.is) (subst (AllByRecursion IsWord) (sym (leaves-Array b.parts)) (words_all t b.parts one b.all)))

words_shown : (v : Values) (xs : List Word) → AllByRecursion IsWord xs → map (atom_value v) (map word_atom xs) ≡ xs
words_shown v [] h = refl
words_shown v (x ∷ xs) h = ap₂ (λ y ys. y ∷ ys) (literal_value v x.width x.value h.0.some_width h.0.most_width h.0.in_range) (words_shown v xs h.1)

-- the literals of a value of a type show it
pub literals_shown : (v : Values) (t : Ty) (value : Value) → IsOfType t value → ShowsValue v (literals_of value) value
literals_shown v t value of = words_shown v (leaves_of value) (leaves_are_words t value of)
