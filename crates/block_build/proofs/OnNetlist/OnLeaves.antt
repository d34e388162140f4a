-- The numbers in values, by types, and values on signals.
use Rattle.std.proofs.Common.{◌≡◌, ℕ, zero, suc, ◌+◌, ◌*◌, ◌/◌, ◌%◌, ◌<◌, ◌^◌, List, [], ◌∷◌, ◌++◌, map, length, take, drop, get_or, sum, Bool, IsTrue, ◌≤◌, nat_le, refl, sym, ap, ap₂, ◌∙◌, subst, arith}
use Rattle.std.specs.List.{list_all}
use Rattle.std.proofs.Math.Nat.{div-one}
use Rattle.std.proofs.lemmas.List.{map-append, length-map, take_at}
use Rattle.std.proofs.lemmas.Bool.Decides.{nat_tests}
use Rattle.std.proofs.lemmas.List.Sums.{sum_by-cons}
use Rattle.std.proofs.lemmas.Nat.{shr-shr}
use Rattle.xb_bits.specs.Word.{Word, word}
use Rattle.xb_value.specs.declared.ty.Ty.{Ty}
use Rattle.xb_value.specs.declared.ty.Ty as ty
use Rattle.xb_value.specs.declared.value.Value.{Value, Bits, Tuple, Array}
use Rattle.xb_value.specs.Typing.{IsOfType, fits, each_passes}
use Rattle.xb_value.specs.Unflat.{Taker, taken_by, taken_times, take_step, taken_low, unflat_of}
use Rattle.xb_value.specs.Width.{width_of, HasWidths, HasAllWidths, widths_step}
use Rattle.xb_value.proofs.Lemmas.Types as types
use Rattle.xb_value.proofs.Lemmas.Types.{EachHas, ty_induction}
use Rattle.xb_value.proofs.Lemmas.Typing.{bits_of_type, tuple_of_type, array_of_type}
use Rattle.xb_value.proofs.Lemmas.Values as values
use Rattle.net_core.specs.Behavior.{IsWordOf}
use Rattle.ir_tree.specs.Constants.{no_value}
use Rattle.ir_tree.proofs.Lemmas.Rules.Typed.Checked.{both_true}
use Rattle.vlog_tree.specs.declared.expression.Atom.{Atom}
use Rattle.vlog_tree.specs.Value.{Values, atom_value}
use Rattle.block_build.specs.Netlist.Leaves.{all_leaves, leaves_step, leaves_of, ShowsValue, repeated, leaf_widths_step, leaf_widths, widths_of_words, total_width, cut_into, ShowAll, parts_of, leaf_counts, AreSome, first_or}

-- ---- equations

pub leaves-Bits : (x : Word) → leaves_of (Bits x) ≡ x ∷ []
leaves-Bits = values.fold-Bits (List Word) leaves_step

pub leaves-Tuple : (vs : List Value) → leaves_of (Tuple vs) ≡ all_leaves (map leaves_of vs)
leaves-Tuple = values.fold-Tuple (List Word) leaves_step

pub leaves-Array : (vs : List Value) → leaves_of (Array vs) ≡ all_leaves (map leaves_of vs)
leaves-Array = values.fold-Array (List Word) leaves_step

pub leaf_widths-Bits : (w : ℕ) → leaf_widths (ty.Bits w) ≡ w ∷ []
leaf_widths-Bits = types.fold-Bits (List ℕ) leaf_widths_step

pub leaf_widths-Tuple : (ts : List Ty) → leaf_widths (ty.Tuple ts) ≡ all_leaves (map leaf_widths ts)
leaf_widths-Tuple = types.fold-Tuple (List ℕ) leaf_widths_step

pub leaf_widths-Array : (t : Ty) (n : ℕ) → leaf_widths (ty.Array t n) ≡ repeated n (leaf_widths t)
leaf_widths-Array = types.fold-Array (List ℕ) leaf_widths_step

-- ---- bits

pub shown_bits : (v : Values) (a : Atom) (x : Word) → atom_value v a ≡ x → ShowsValue v (a ∷ []) (Bits x)
shown_bits v a x e = ap (λ z. z ∷ []) e ∙ sym (leaves-Bits x)

pub word_shown : (v : Values) (a : Atom) (x : Word) → ShowsValue v (a ∷ []) (Bits x) → atom_value v a ≡ x
word_shown v a x h = let e : ◌≡◌ {A = List Word} (atom_value v a ∷ []) (x ∷ []) = h ∙ leaves-Bits x in cc

-- a value of w bits that a signal shows
pub record HasSignal (v : Values) (w : ℕ) (a : Atom) (value : Value) : Type 0 where
  pub word : Word
  pub is : value ≡ Bits word
  pub of : IsWordOf w word
  pub carries : atom_value v a ≡ word

pub has_signal : (v : Values) (w : ℕ) (a : Atom) (value : Value) → IsOfType (ty.Bits w) value → ShowsValue v (a ∷ []) value → HasSignal v w a value
has_signal v w a value t h =
    let b = bits_of_type w value t in
    record {
      word = b.word;
      is = b.is;
      of = record {
        word = record {
          some_width = subst (λ k. 1 ≤ k) (sym b.width) b.some_width;
          most_width = subst (λ k. k ≤ 128) (sym b.width) b.most_width;
          in_range = subst (λ k. b.word.value < 2 ^ k) (sym b.width) b.in_range;
        };
        fits = b.width;
      };
      carries = word_shown v a b.word (subst (ShowsValue v (a ∷ [])) b.is h);
    }

-- ---- how many there are, and how wide

abbrev HasLeaves : Ty → Type 0
HasLeaves t = (value : Value) → IsOfType t value → widths_of_words (leaves_of value) ≡ leaf_widths t

widths_each : (ts : List Ty) (vs : List Value) → EachHas HasLeaves ts → IsTrue (each_passes (map fits ts) vs) → widths_of_words (all_leaves (map leaves_of vs)) ≡ all_leaves (map leaf_widths ts)
widths_each [] [] each pass = refl
widths_each [] (v ∷ vs) each pass = absurd (cc)
widths_each (t ∷ ts) [] each pass = absurd (cc)
widths_each (t ∷ ts) (v ∷ vs) each pass =
    let both = both_true (fits t v) (each_passes (map fits ts) vs) pass in
    map-append (λ (x : Word). x.width) (leaves_of v) (all_leaves (map leaves_of vs)) ∙ ap₂ (λ a b. a ++ b) (each.0 v both.0) (widths_each ts vs each.1 both.1)

widths_all : (t : Ty) (vs : List Value) → HasLeaves t → IsTrue (list_all (fits t) vs) → widths_of_words (all_leaves (map leaves_of vs)) ≡ repeated (length vs) (leaf_widths t)
widths_all t [] one pass = refl
widths_all t (v ∷ vs) one pass =
    let both = both_true (fits t v) (list_all (fits t) vs) pass in
    map-append (λ (x : Word). x.width) (leaves_of v) (all_leaves (map leaves_of vs)) ∙ ap₂ (λ a b. a ++ b) (one v both.0) (widths_all t vs one both.1)

pub leaves_are_wide : (t : Ty) → HasLeaves t
leaves_are_wide = ty_induction HasLeaves
    (λ w v of. let b = bits_of_type w v of in ap (λ u. widths_of_words (leaves_of u)) b.is ∙ ap widths_of_words (leaves-Bits b.word) ∙ ap (λ n. n ∷ []) b.width ∙ sym (leaf_widths-Bits w))
    (λ ts each v of.
    let b = tuple_of_type ts v of in
    ap (λ u. widths_of_words (leaves_of u)) b.is ∙ ap widths_of_words (leaves-Tuple b.parts) ∙ widths_each ts b.parts each b.each ∙ sym (leaf_widths-Tuple ts))
    (λ t n one v of.
    let b = array_of_type t n v of in
    ap (λ u. widths_of_words (leaves_of u)) b.is ∙ ap widths_of_words (leaves-Array b.parts) ∙ widths_all t b.parts one b.all
    ∙ ap (λ k. repeated k (leaf_widths t)) b.count ∙ sym (leaf_widths-Array t n))

pub leaf_count_is : (t : Ty) (value : Value) → IsOfType t value → length (leaves_of value) ≡ length (leaf_widths t)
leaf_count_is t value of = sym (length-map (leaves_of value) (λ (x : Word). x.width)) ∙ ap length (leaves_are_wide t value of)

pub signal_count_is : (v : Values) (t : Ty) (atoms : List Atom) (value : Value) → IsOfType t value → ShowsValue v atoms value → length atoms ≡ length (leaf_widths t)
signal_count_is v t atoms value of h = sym (length-map atoms (atom_value v)) ∙ ap length h ∙ leaf_count_is t value of

-- a number has one signal
pub only_signal : (v : Values) (w : ℕ) (atoms : List Atom) (value : Value) → IsOfType (ty.Bits w) value → ShowsValue v atoms value → atoms ≡ first_or atoms ∷ []
only_signal v w atoms value of h = one atoms (signal_count_is v (ty.Bits w) atoms value of h ∙ ap length (leaf_widths-Bits w))
  where
    one : (atoms : List Atom) → length atoms ≡ 1 → atoms ≡ first_or atoms ∷ []
    one [] e = absurd (omega (arith, e))
    one (a ∷ []) e = refl
    one (a ∷ b ∷ atoms) e = absurd (omega (arith, e))

-- ---- numbers in a flat number

total-append : (xs ys : List ℕ) → total_width (xs ++ ys) ≡ total_width xs + total_width ys
total-append [] ys = omega arith
total-append (x ∷ xs) ys = let rest = total-append xs ys in omega (arith, rest)

pub cut-append : (xs ys : List ℕ) (n : ℕ) → cut_into (xs ++ ys) n ≡ cut_into xs (n / 2 ^ total_width ys) ++ cut_into ys n
cut-append [] ys n = refl
cut-append (w ∷ xs) ys n =
    let both : total_width (xs ++ ys) ≡ total_width ys + total_width xs = let e = total-append xs ys in omega (arith, e) in
    let high : n / 2 ^ total_width (xs ++ ys) ≡ n / 2 ^ total_width ys / 2 ^ total_width xs = ap (λ k. n / 2 ^ k) both ∙ sym (shr-shr n (total_width ys) (total_width xs)) in
    ap₂ (λ m rest. word w (m % 2 ^ w) ∷ rest) high (cut-append xs ys n)

-- what is taken at a type
abbrev IsCut : Ty → Taker → Type 0
IsCut t p = (n : ℕ) → (leaves_of (p n).0 ≡ cut_into (leaf_widths t) n) × ((p n).1 ≡ n / 2 ^ total_width (leaf_widths t))

abbrev CutAll : List ℕ → List Value × ℕ → ℕ → Type 0
CutAll ws taken n = (all_leaves (map leaves_of taken.0) ≡ cut_into ws n) × (taken.1 ≡ n / 2 ^ total_width ws)

none_cut : (n : ℕ) → CutAll [] ([], n) n
none_cut n = (refl, sym (div-one n))

more_cut : (t : Ty) (p : Taker) (ws : List ℕ) (later : List Value × ℕ) (n : ℕ) → IsCut t p → CutAll ws later n
    → CutAll (leaf_widths t ++ ws) ((p later.1).0 ∷ later.0, (p later.1).1) n
more_cut t p ws later n one all =
    let first = one later.1 in
    let sum : total_width ws + total_width (leaf_widths t) ≡ total_width (leaf_widths t ++ ws) = let e = total-append (leaf_widths t) ws in omega (arith, e) in (
      ap₂ (λ a b. a ++ b) (first.0 ∙ ap (cut_into (leaf_widths t)) all.1) all.0 ∙ sym (cut-append (leaf_widths t) ws n),
      first.1 ∙ ap (λ m. m / 2 ^ total_width (leaf_widths t)) all.1 ∙ shr-shr n (total_width ws) (total_width (leaf_widths t)) ∙ ap (λ k. n / 2 ^ k) sum,
    )

cut_each : (ts : List Ty) → EachHas (λ t. IsCut t (taken_low t)) ts → (n : ℕ) → CutAll (all_leaves (map leaf_widths ts)) (taken_by (map taken_low ts) n) n
cut_each [] each n = none_cut n
cut_each (t ∷ ts) each n = more_cut t (taken_low t) (all_leaves (map leaf_widths ts)) (taken_by (map taken_low ts) n) n each.0 (cut_each ts each.1 n)

cut_times : (k : ℕ) (t : Ty) → IsCut t (taken_low t) → (n : ℕ) → CutAll (repeated k (leaf_widths t)) (taken_times k (taken_low t) n) n
cut_times zero t one n = none_cut n
cut_times (suc k) t one n = more_cut t (taken_low t) (repeated k (leaf_widths t)) (taken_times k (taken_low t) n) n one (cut_times k t one n)

-- a value taken all in all
whole : (ws : List ℕ) (value : Value) (rest n : ℕ) → leaves_of value ≡ cut_into ws n → rest ≡ n / 2 ^ total_width ws → (us : List ℕ) → us ≡ ws
    → (leaves_of value ≡ cut_into us n) × (rest ≡ n / 2 ^ total_width us)
whole ws value rest n h r us e = subst (λ xs. (leaves_of value ≡ cut_into xs n) × (rest ≡ n / 2 ^ total_width xs)) (sym e) (h, r)

pub taken_is_cut : (t : Ty) → IsCut t (taken_low t)
taken_is_cut = ty_induction (λ t. IsCut t (taken_low t))
    (λ w n.
    let one : word w (n % 2 ^ w) ≡ word w (n / 2 ^ 0 % 2 ^ w) = ap (λ m. word w (m % 2 ^ w)) (sym (div-one n)) in
    let wide : w ≡ w + 0 = omega arith in
    subst (λ (r : Value × ℕ). (leaves_of r.0 ≡ cut_into (leaf_widths (ty.Bits w)) n) × (r.1 ≡ n / 2 ^ total_width (leaf_widths (ty.Bits w))))
    (sym (ap (λ (p : Taker). p n) (types.fold-Bits Taker take_step w)))
    (whole (w ∷ []) (Bits (word w (n % 2 ^ w))) (n / 2 ^ w) n (leaves-Bits (word w (n % 2 ^ w)) ∙ ap (λ x. x ∷ []) one) (ap (λ k. n / 2 ^ k) wide) (leaf_widths (ty.Bits w)) (leaf_widths-Bits w)))
    (λ ts each n.
    let all = taken_by (map taken_low ts) n in
    let cut = cut_each ts each n in
    subst (λ (r : Value × ℕ). (leaves_of r.0 ≡ cut_into (leaf_widths (ty.Tuple ts)) n) × (r.1 ≡ n / 2 ^ total_width (leaf_widths (ty.Tuple ts))))
    (sym (ap (λ (p : Taker). p n) (types.fold-Tuple Taker take_step ts)))
    (whole (all_leaves (map leaf_widths ts)) (Tuple all.0) all.1 n (leaves-Tuple all.0 ∙ cut.0) cut.1 (leaf_widths (ty.Tuple ts)) (leaf_widths-Tuple ts)))
    (λ t k one n.
    let all = taken_times k (taken_low t) n in
    let cut = cut_times k t one n in
    subst (λ (r : Value × ℕ). (leaves_of r.0 ≡ cut_into (leaf_widths (ty.Array t k)) n) × (r.1 ≡ n / 2 ^ total_width (leaf_widths (ty.Array t k))))
    (sym (ap (λ (p : Taker). p n) (types.fold-Array Taker take_step t k)))
    (whole (repeated k (leaf_widths t)) (Array all.0) all.1 n (leaves-Array all.0 ∙ cut.0) cut.1 (leaf_widths (ty.Array t k)) (leaf_widths-Array t k)))

pub unflat_is_cut : (t : Ty) (n : ℕ) → leaves_of (unflat_of t n) ≡ cut_into (leaf_widths t) n
unflat_is_cut t n = (taken_is_cut t n).0

-- all numbers are as wide as the type
abbrev IsTotal : Ty → Type 0
IsTotal t = total_width (leaf_widths t) ≡ width_of t

total_each : (ts : List Ty) → EachHas IsTotal ts → total_width (all_leaves (map leaf_widths ts)) ≡ sum (map width_of ts)
total_each [] each = refl
total_each (t ∷ ts) each =
    total-append (leaf_widths t) (all_leaves (map leaf_widths ts)) ∙ ap₂ (λ a b. a + b) each.0 (total_each ts each.1)
    ∙ sym (sum_by-cons (λ x. x) (width_of t) (map width_of ts))

total_times : (n : ℕ) (ws : List ℕ) → total_width (repeated n ws) ≡ n * total_width ws
total_times zero ws = omega arith
total_times (suc n) ws = let e = total-append ws (repeated n ws) in let rest = total_times n ws in let m : suc n * total_width ws ≡ n * total_width ws + total_width ws = omega arith in omega (arith, e, rest, m)

pub total_is : (t : Ty) → IsTotal t
total_is = ty_induction IsTotal
    (λ w. ap total_width (leaf_widths-Bits w) ∙ (let e : w + 0 ≡ w = omega arith in e) ∙ sym (types.width_of-Bits w))
    (λ ts each. ap total_width (leaf_widths-Tuple ts) ∙ total_each ts each ∙ sym (types.width_of-Tuple ts))
    (λ t n one. ap total_width (leaf_widths-Array t n) ∙ total_times n (leaf_widths t) ∙ ap (λ k. n * k) one ∙ sym (types.width_of-Array t n))

-- ---- values of parts

pub nothing_shown : (v : Values) → ShowsValue v [] (Tuple [])
nothing_shown v = sym (leaves-Tuple [])

all_shown : (v : Values) (atoms : List (List Atom)) (vs : List Value) → ShowAll v atoms vs → map (atom_value v) (all_leaves atoms) ≡ all_leaves (map leaves_of vs)
all_shown v [] [] h = refl
all_shown v [] (x ∷ vs) h = absurd h
all_shown v (a ∷ atoms) [] h = absurd h
all_shown v (a ∷ atoms) (x ∷ vs) h = map-append (atom_value v) a (all_leaves atoms) ∙ ap₂ (λ xs ys. xs ++ ys) h.0 (all_shown v atoms vs h.1)

pub tuple_shown : (v : Values) (atoms : List (List Atom)) (vs : List Value) → ShowAll v atoms vs → ShowsValue v (all_leaves atoms) (Tuple vs)
tuple_shown v atoms vs h = all_shown v atoms vs h ∙ sym (leaves-Tuple vs)

pub array_shown : (v : Values) (atoms : List (List Atom)) (vs : List Value) → ShowAll v atoms vs → ShowsValue v (all_leaves atoms) (Array vs)
array_shown v atoms vs h = all_shown v atoms vs h ∙ sym (leaves-Array vs)

-- the parts of a tuple and of an array
take-map : {A B : Type 0} (f : A → B) (n : ℕ) (xs : List A) → map f (take n xs) ≡ take n (map f xs)
take-map f zero xs = refl
take-map f (suc n) [] = refl
take-map f (suc n) (x ∷ xs) = ap (λ ys. f x ∷ ys) (take-map f n xs)

drop-map : {A B : Type 0} (f : A → B) (n : ℕ) (xs : List A) → map f (drop n xs) ≡ drop n (map f xs)
drop-map f zero xs = refl
drop-map f (suc n) [] = refl
drop-map f (suc n) (x ∷ xs) = drop-map f n xs

drop_at : {A : Type 0} (xs ys : List A) (n : ℕ) → length xs ≡ n → drop n (xs ++ ys) ≡ ys
drop_at [] ys zero e = refl
drop_at [] ys (suc n) e = absurd (omega (arith, e))
drop_at (x ∷ xs) ys zero e = absurd (omega (arith, e))
drop_at (x ∷ xs) ys (suc n) e = drop_at xs ys n (omega (arith, e))

one_part : (v : Values) (n : ℕ) (atoms : List Atom) (xs rest : List Word) → length xs ≡ n → map (atom_value v) atoms ≡ xs ++ rest
    → (map (atom_value v) (take n atoms) ≡ xs) × (map (atom_value v) (drop n atoms) ≡ rest)
one_part v n atoms xs rest l e = (
  take-map (atom_value v) n atoms ∙ ap (take n) e ∙ take_at xs rest n l,
  drop-map (atom_value v) n atoms ∙ ap (drop n) e ∙ drop_at xs rest n l,
)

parts_shown : (v : Values) (ts : List Ty) (vs : List Value) (atoms : List Atom) → IsTrue (each_passes (map fits ts) vs) → map (atom_value v) atoms ≡ all_leaves (map leaves_of vs)
    → ShowAll v (parts_of (leaf_counts ts) atoms) vs
parts_shown v [] [] atoms pass e = tt
parts_shown v [] (x ∷ vs) atoms pass e = absurd (cc)
parts_shown v (t ∷ ts) [] atoms pass e = absurd (cc)
parts_shown v (t ∷ ts) (x ∷ vs) atoms pass e =
    let both = both_true (fits t x) (each_passes (map fits ts) vs) pass in
    let part = one_part v (length (leaf_widths t)) atoms (leaves_of x) (all_leaves (map leaves_of vs)) (leaf_count_is t x both.0) e in
    (part.0, parts_shown v ts vs (drop (length (leaf_widths t)) atoms) both.1 part.1)

pub tuple_parts_shown : (v : Values) (ts : List Ty) (vs : List Value) (atoms : List Atom) → IsTrue (each_passes (map fits ts) vs) → ShowsValue v atoms (Tuple vs) → ShowAll v (parts_of (leaf_counts ts) atoms) vs
tuple_parts_shown v ts vs atoms pass h = parts_shown v ts vs atoms pass (h ∙ leaves-Tuple vs)

elements_shown : (v : Values) (t : Ty) (vs : List Value) (atoms : List Atom) → IsTrue (list_all (fits t) vs) → map (atom_value v) atoms ≡ all_leaves (map leaves_of vs)
    → ShowAll v (parts_of (repeated (length vs) (length (leaf_widths t) ∷ [])) atoms) vs
elements_shown v t [] atoms pass e = tt
elements_shown v t (x ∷ vs) atoms pass e =
    let both = both_true (fits t x) (list_all (fits t) vs) pass in
    let part = one_part v (length (leaf_widths t)) atoms (leaves_of x) (all_leaves (map leaves_of vs)) (leaf_count_is t x both.0) e in
    (part.0, elements_shown v t vs (drop (length (leaf_widths t)) atoms) both.1 part.1)

pub array_parts_shown : (v : Values) (t : Ty) (vs : List Value) (atoms : List Atom) → IsTrue (list_all (fits t) vs) → ShowsValue v atoms (Array vs)
    → ShowAll v (parts_of (repeated (length vs) (length (leaf_widths t) ∷ [])) atoms) vs
array_parts_shown v t vs atoms pass h = elements_shown v t vs atoms pass (h ∙ leaves-Array vs)

pub shown_at : (v : Values) (atoms : List (List Atom)) (vs : List Value) (i : ℕ) → ShowAll v atoms vs → ShowsValue v (get_or atoms i []) (get_or vs i no_value)
shown_at v [] [] i h = nothing_shown v
shown_at v [] (x ∷ vs) i h = absurd h
shown_at v (a ∷ atoms) [] i h = absurd h
shown_at v (a ∷ atoms) (x ∷ vs) zero h = h.0
shown_at v (a ∷ atoms) (x ∷ vs) (suc i) h = shown_at v atoms vs i h.1

-- ---- widths of numbers are some

some-append : (ws us : List ℕ) → AreSome ws → AreSome us → AreSome (ws ++ us)
some-append [] us a b = b
some-append (w ∷ ws) us a b = (a.0, some-append ws us a.1 b)

abbrev HasSome : Ty → Type 0
HasSome t = HasWidths t → AreSome (leaf_widths t)

some_each : (ts : List Ty) → EachHas HasSome ts → HasAllWidths ts → AreSome (all_leaves (map leaf_widths ts))
some_each [] each h = tt
some_each (t ∷ ts) each h = let both = both_true _ _ h in some-append (leaf_widths t) (all_leaves (map leaf_widths ts)) (each.0 both.0) (some_each ts each.1 both.1)

some_times : (n : ℕ) (ws : List ℕ) → AreSome ws → AreSome (repeated n ws)
some_times zero ws a = tt
some_times (suc n) ws a = some-append ws (repeated n ws) a (some_times n ws a)

pub leaves_are_some : (t : Ty) → HasSome t
leaves_are_some = ty_induction HasSome
    (λ w h.
    let both = both_true (nat_le 1 w) (nat_le w 128) (sym (types.fold-Bits Bool widths_step w) ∙ h) in
    let some : 1 ≤ w = grind (arith, nat_tests, both.0) in
    subst AreSome (sym (leaf_widths-Bits w)) (some, tt))
    (λ ts each h. subst AreSome (sym (leaf_widths-Tuple ts)) (some_each ts each (sym (types.fold-Tuple Bool widths_step ts) ∙ h)))
    (λ t n one h. subst AreSome (sym (leaf_widths-Array t n)) (some_times n (leaf_widths t) (one (sym (types.fold-Array Bool widths_step t n) ∙ h))))
