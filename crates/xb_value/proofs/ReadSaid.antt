-- Tokens that are those of a value of the type read as that value.
use Rattle.std.proofs.Common.{◌≡◌, ℕ, suc, ◌^◌, ◌<◌, ◌≤◌, ◌==◌, nat_le, nat_lt, List, [], ◌∷◌, ◌++◌, append_assoc, length, map, true, if◌then◌else◌, IsTrue, Ok, Err, refl, sym, ap, ◌∙◌, arith}
use Rattle.std.specs.List.{list_all}
use Rattle.std.proofs.lemmas.Bool.Decides.{nat_tests}
use Rattle.xb_bits.specs.Word.{word}
use Rattle.xb_value.specs.declared.ty.Ty.{Ty}
use Rattle.xb_value.specs.declared.ty.Ty as ty
use Rattle.xb_value.specs.declared.token.Bracket.TheVariants.{Round, Square}
use Rattle.xb_value.specs.declared.token.Token.{Token}
use Rattle.xb_value.specs.declared.token.Token.TheVariants.{Number, Open, Close}
use Rattle.xb_value.specs.declared.value.Value.{Value, Bits, Tuple, Array}
use Rattle.xb_value.specs.Inner.Reading.{Answer, ListAnswer, Reader, and_more, more_than, read_each, read_times, read_as, read_step, bracketed, parts_at}
use Rattle.xb_value.specs.Shape.{unplaced, shape_of, all_of, Says}
use Rattle.xb_value.specs.Typing.{IsOfType, fits, is_word_of, each_passes}
use Rattle.xb_value.proofs.Shapes.{parted, number_of, group_of, counts_values}
use Rattle.xb_value.proofs.Lemmas.Types as types
use Rattle.xb_value.proofs.Lemmas.Types.{EachHas, ty_induction}
use Rattle.xb_value.proofs.Lemmas.Typing.{bits_of_type, tuple_of_type, array_of_type}
use Rattle.xb_value.proofs.Lemmas.Values.{shape_of-Bits, shape_of-Tuple, shape_of-Array}
use Rattle.xb_value.proofs.Widths.{both_true, and_true}

abbrev pub ReadsSaid : Ty → Type 0
ReadsSaid t = (v : Value) → IsOfType t v → (ts us : List Token) → Says ts v → read_as t (ts ++ us) ≡ Ok (v, us)

is_word : (w n : ℕ) → 1 ≤ w → w ≤ 128 → n < 2 ^ w → is_word_of w (word w n) ≡ true
is_word w n some most below =
    let same : IsTrue (w == w) = grind (arith, nat_tests) in
    let least : IsTrue (nat_le 1 w) = grind (arith, nat_tests) in
    let greatest : IsTrue (nat_le w 128) = grind (arith, nat_tests) in
    let range : IsTrue (nat_lt n (2 ^ w)) = grind (arith, nat_tests) in
    and_true _ _ (and_true _ _ (and_true _ _ same least) greatest) range

-- a value, and values behind it
said_more : (r : Reader) (later : List Token → ListAnswer) (v : Value) (vs : List Value) (ts xs ys us : List Token)
    → ts ≡ xs ++ ys → ((zs : List Token) → r (xs ++ zs) ≡ Ok (v, zs)) → later (ys ++ us) ≡ Ok (vs, us) → and_more later (r (ts ++ us)) ≡ Ok (v ∷ vs, us)
said_more r later v vs ts xs ys us is one all =
    ap (λ zs. and_more later (r (zs ++ us))) is
    ∙ ap (λ zs. and_more later (r zs)) (append_assoc xs ys us)
    ∙ ap (and_more later) (one (ys ++ us))
    ∙ ap (more_than v) all

said_each : (ps : List Ty) (vs : List Value) → EachHas ReadsSaid ps → IsTrue (each_passes (map fits ps) vs) → (ts us : List Token) → map unplaced ts ≡ all_of (map shape_of vs)
    → read_each (map read_as ps) (ts ++ us) ≡ Ok (vs, us)
said_each [] [] each pass [] us h = refl
said_each [] [] each pass (t ∷ ts) us h = absurd (cc)
said_each [] (v ∷ vs) each pass ts us h = absurd (cc)
said_each (t ∷ ps) [] each pass ts us h = absurd (cc)
said_each (t ∷ ps) (v ∷ vs) each pass ts us h =
    let both = both_true (fits t v) (each_passes (map fits ps) vs) pass in
    let parts = parted ts (shape_of v) (all_of (map shape_of vs)) h in
    said_more (read_as t) (read_each (map read_as ps)) v vs ts parts.front parts.back us parts.is
    (λ xs. each.0 v both.0 parts.front xs parts.prefix_is)
    (said_each ps vs each.1 both.1 parts.back us parts.back_is)

said_times : (t : Ty) (vs : List Value) → ReadsSaid t → IsTrue (list_all (fits t) vs) → (ts us : List Token) → map unplaced ts ≡ all_of (map shape_of vs)
    → read_times (length vs) (read_as t) (ts ++ us) ≡ Ok (vs, us)
said_times t [] said pass [] us h = refl
said_times t [] said pass (x ∷ ts) us h = absurd (cc)
said_times t (v ∷ vs) said pass ts us h =
    let both = both_true (fits t v) (list_all (fits t) vs) pass in
    let parts = parted ts (shape_of v) (all_of (map shape_of vs)) h in
    said_more (read_as t) (read_times (length vs) (read_as t)) v vs ts parts.front parts.back us parts.is
    (λ xs. said v both.0 parts.front xs parts.prefix_is)
    (said_times t vs said both.1 parts.back us parts.back_is)

same_length : (ps : List Ty) (vs : List Value) → IsTrue (each_passes (map fits ps) vs) → length vs ≡ length (map read_as ps)
same_length [] [] pass = refl
same_length [] (v ∷ vs) pass = absurd (cc)
same_length (t ∷ ps) [] pass = absurd (cc)
same_length (t ∷ ps) (v ∷ vs) pass = ap suc (same_length ps vs (both_true (fits t v) (each_passes (map fits ps) vs) pass).1)

chosen : (a : Answer) (at m n : ℕ) → m ≡ n → (if m == n then a else (Err at)) ≡ a
chosen a at m n e = let test : (m == n) ≡ true = grind (arith, nat_tests) in ap (λ b. if b then a else (Err at)) test

-- tokens in brackets and others behind them
behind : (ts inner us : List Token) (t : Token) → ts ≡ t ∷ (inner ++ Close ∷ []) → ts ++ us ≡ t ∷ (inner ++ Close ∷ us)
behind ts inner us t is = ap (λ xs. xs ++ us) is ∙ ap (λ xs. t ∷ xs) (append_assoc inner (Close ∷ []) us)

pub reads_said : (t : Ty) → ReadsSaid t
reads_said = ty_induction ReadsSaid bits tuple array
  where
    bits : (w : ℕ) → ReadsSaid (ty.Bits w)
    bits w v of ts us says =
        let b = bits_of_type w v of in
        let x = b.word in
        let number = number_of ts x.value (says ∙ ap shape_of b.is ∙ shape_of-Bits x) in
        ap (read_as (ty.Bits w)) (ap (λ xs. xs ++ us) number.is)
        ∙ ap (λ (r : Reader). r (Number number.at x.value ∷ us)) (types.fold-Bits Reader read_step w)
        ∙ ap (λ c. if c then (Ok (Bits (word w x.value), us)) else (Err number.at)) (is_word w x.value b.some_width b.most_width b.in_range)
        ∙ ap (λ k. Ok (Bits (word k x.value), us)) (sym b.width)
        ∙ ap (λ u. Ok (u, us)) (sym b.is)

    tuple : (ps : List Ty) → EachHas ReadsSaid ps → ReadsSaid (ty.Tuple ps)
    tuple ps each v of ts us says =
        let b = tuple_of_type ps v of in
        let group = group_of ts Round (all_of (map shape_of b.parts)) (says ∙ ap shape_of b.is ∙ shape_of-Tuple b.parts) in
        let inner = group.inner ++ Close ∷ us in
        ap (read_as (ty.Tuple ps)) (behind ts group.inner us (Open group.at Round) group.is)
        ∙ ap (λ (r : Reader). r (Open group.at Round ∷ inner)) (types.fold-Tuple Reader read_step ps)
        ∙ chosen (bracketed group.at Tuple (read_each (map read_as ps) inner)) group.at (parts_at 0 inner) (length (map read_as ps))
        (counts_values b.parts group.inner us group.inside ∙ same_length ps b.parts b.each)
        ∙ ap (bracketed group.at Tuple) (said_each ps b.parts each b.each group.inner (Close ∷ us) group.inside)
        ∙ ap (λ u. Ok (u, us)) (sym b.is)

    array : (t : Ty) (n : ℕ) → ReadsSaid t → ReadsSaid (ty.Array t n)
    array t n said v of ts us says =
        let b = array_of_type t n v of in
        let group = group_of ts Square (all_of (map shape_of b.parts)) (says ∙ ap shape_of b.is ∙ shape_of-Array b.parts) in
        let inner = group.inner ++ Close ∷ us in
        let count = counts_values b.parts group.inner us group.inside in
        ap (read_as (ty.Array t n)) (behind ts group.inner us (Open group.at Square) group.is)
        ∙ ap (λ (r : Reader). r (Open group.at Square ∷ inner)) (types.fold-Array Reader read_step t n)
        ∙ chosen (bracketed group.at Array (read_times (parts_at 0 inner) (read_as t) inner)) group.at (parts_at 0 inner) n (count ∙ b.count)
        ∙ ap (λ k. bracketed group.at Array (read_times k (read_as t) inner)) count
        ∙ ap (bracketed group.at Array) (said_times t b.parts said b.all group.inner (Close ∷ us) group.inside)
        ∙ ap (λ u. Ok (u, us)) (sym b.is)
