-- What is read has the numbers and brackets that were taken.
use Rattle.std.proofs.Common.{◌≡◌, ℕ, zero, suc, ◌==◌, List, [], ◌∷◌, ◌++◌, append_assoc, append-nil, length, map, Bool, true, false, if◌then◌else◌, Result, Ok, Err, refl, sym, ap, ap₂, subst, ◌∙◌, arith}
use Rattle.std.proofs.lemmas.Bool.Decides.{nat_tests}
use Rattle.std.proofs.lemmas.List.{map-append}
use Rattle.xb_bits.specs.Word.{word}
use Rattle.xb_value.specs.declared.ty.Ty.{Ty}
use Rattle.xb_value.specs.declared.token.Bracket.{Bracket}
use Rattle.xb_value.specs.declared.token.Bracket.TheVariants.{Round, Square}
use Rattle.xb_value.specs.declared.token.Token.{Token}
use Rattle.xb_value.specs.declared.token.Token.TheVariants.{Number, Open, Close}
use Rattle.xb_value.specs.declared.value.Value.{Value, Bits, Tuple, Array}
use Rattle.xb_value.specs.Inner.Reading.{Answer, ListAnswer, Reader, more_than, and_more, read_each, read_times, read_bits, read_tuple, read_array, read_as, read_step, left, bracketed, parts_at, reading, value_in}
use Rattle.xb_value.specs.Shape.{unplaced, shape_of, all_of, Says}
use Rattle.xb_value.specs.Typing.{IsOfType, is_word_of}
use Rattle.xb_value.proofs.ReadSaid.{reads_said}
use Rattle.xb_value.proofs.Lemmas.Types as types
use Rattle.xb_value.proofs.Lemmas.Types.{EachHas, ty_induction}
use Rattle.xb_value.proofs.Lemmas.Values.{shape_of-Bits, shape_of-Tuple, shape_of-Array}

-- the front that was taken is, without places, what `shape` says
abbrev Takes : {A : Type 0} → (A → List Token) → List Token → Result (A × List Token) ℕ → Type 0
Takes shape ts (Ok r) = (front : List Token) × (ts ≡ front ++ r.1) × (map unplaced front ≡ shape r.0)
Takes shape ts (Err at) = Unit {0}

abbrev shapes_of : List Value → List Token
shapes_of vs = all_of (map shape_of vs)

abbrev pub TakesSaid : Ty → Type 0
TakesSaid t = (ts : List Token) → Takes shape_of ts (read_as t ts)

takes_bits : (w : ℕ) (ts : List Token) → Takes shape_of ts (read_bits w ts)
takes_bits w [] = tt
takes_bits w (Number at n ∷ ts) = by_case (is_word_of w (word w n))
  where
    by_case : (b : Bool) → Takes shape_of (Number at n ∷ ts) (if b then (Ok (Bits (word w n), ts)) else (Err at))
    by_case true = (Number at n ∷ [], refl, sym (shape_of-Bits (word w n)))
    by_case false = tt
takes_bits w (Open at b ∷ ts) = tt
takes_bits w (Close ∷ ts) = tt

takes_more : (later : List Token → ListAnswer) (ts : List Token) (first : Answer) → Takes shape_of ts first → ((us : List Token) → Takes shapes_of us (later us)) → Takes shapes_of ts (and_more later first)
takes_more later ts (Err at) one all = tt
takes_more later ts (Ok r) one all = by_case (later r.1) (all r.1)
  where
    by_case : (a : ListAnswer) → Takes shapes_of r.1 a → Takes shapes_of ts (more_than r.0 a)
    by_case (Err at) h = tt
    by_case (Ok s) h = (
      one.0 ++ h.0,
      one.1 ∙ ap (λ us. one.0 ++ us) h.1 ∙ sym (append_assoc one.0 h.0 s.1),
      map-append unplaced one.0 h.0 ∙ ap₂ (λ xs ys. xs ++ ys) one.2 h.2,
    )

takes_each : (ps : List Ty) → EachHas TakesSaid ps → (ts : List Token) → Takes shapes_of ts (read_each (map read_as ps) ts)
takes_each [] each ts = ([], refl, refl)
takes_each (t ∷ ps) each ts = takes_more (read_each (map read_as ps)) ts (read_as t ts) (each.0 ts) (takes_each ps each.1)

takes_times : (n : ℕ) (t : Ty) → TakesSaid t → (ts : List Token) → Takes shapes_of ts (read_times n (read_as t) ts)
takes_times zero t takes ts = ([], refl, refl)
takes_times (suc n) t takes ts = takes_more (read_times n (read_as t)) ts (read_as t ts) (takes ts) (takes_times n t takes)

takes_bracketed : (at : ℕ) (b : Bracket) (make : List Value → Value) (ts : List Token) (a : ListAnswer)
    → ((vs : List Value) → shape_of (make vs) ≡ Open 0 b ∷ (shapes_of vs ++ Close ∷ [])) → Takes shapes_of ts a → Takes shape_of (Open at b ∷ ts) (bracketed at make a)
takes_bracketed at b make ts (Err fault) made all = tt
takes_bracketed at b make ts (Ok r) made all = by_case r.1 all.1
  where
    by_case : (us : List Token) → ts ≡ all.0 ++ us → Takes shape_of (Open at b ∷ ts) (left at make r.0 us)
    by_case [] is = tt
    by_case (Number p n ∷ us) is = tt
    by_case (Open p k ∷ us) is = tt
    by_case (Close ∷ us) is = (
      Open at b ∷ (all.0 ++ Close ∷ []),
      ap (λ xs. Open at b ∷ xs) (is ∙ sym (append_assoc all.0 (Close ∷ []) us)),
      ap (λ xs. Open 0 b ∷ xs) (map-append unplaced all.0 (Close ∷ []) ∙ ap (λ xs. xs ++ Close ∷ []) all.2) ∙ sym (made r.0),
    )

takes_if : (ts : List Token) (b : Bool) (a : Answer) (at : ℕ) → Takes shape_of ts a → Takes shape_of ts (if b then a else (Err at))
takes_if ts true a at h = h
takes_if ts false a at h = tt

takes_tuple : (ps : List Ty) → EachHas TakesSaid ps → (ts : List Token) → Takes shape_of ts (read_tuple (map read_as ps) ts)
takes_tuple ps each [] = tt
takes_tuple ps each (Number at n ∷ ts) = tt
takes_tuple ps each (Open at Square ∷ ts) = tt
takes_tuple ps each (Open at Round ∷ ts) =
    takes_if (Open at Round ∷ ts) (parts_at 0 ts == length (map read_as ps)) (bracketed at Tuple (read_each (map read_as ps) ts)) at
    (takes_bracketed at Round Tuple ts (read_each (map read_as ps) ts) shape_of-Tuple (takes_each ps each ts))
takes_tuple ps each (Close ∷ ts) = tt

takes_array : (t : Ty) (n : ℕ) → TakesSaid t → (ts : List Token) → Takes shape_of ts (read_array (read_as t) n ts)
takes_array t n takes [] = tt
takes_array t n takes (Number at k ∷ ts) = tt
takes_array t n takes (Open at Round ∷ ts) = tt
takes_array t n takes (Open at Square ∷ ts) =
    takes_if (Open at Square ∷ ts) (parts_at 0 ts == n) (bracketed at Array (read_times (parts_at 0 ts) (read_as t) ts)) at
    (takes_bracketed at Square Array ts (read_times (parts_at 0 ts) (read_as t) ts) shape_of-Array (takes_times (parts_at 0 ts) t takes ts))
takes_array t n takes (Close ∷ ts) = tt

takes_said : (t : Ty) → TakesSaid t
takes_said = ty_induction TakesSaid
    (λ w ts. subst (Takes shape_of ts) (sym (ap (λ (r : Reader). r ts) (types.fold-Bits Reader read_step w))) (takes_bits w ts))
    (λ ps each ts. subst (Takes shape_of ts) (sym (ap (λ (r : Reader). r ts) (types.fold-Tuple Reader read_step ps))) (takes_tuple ps each ts))
    (λ t n takes ts. subst (Takes shape_of ts) (sym (ap (λ (r : Reader). r ts) (types.fold-Array Reader read_step t n))) (takes_array t n takes ts))

-- all the tokens that were read are those of the value
pub read_says : (t : Ty) (ts us : List Token) (v : Value) → read_as t ts ≡ Ok (v, us) → us ≡ [] → Says ts v
read_says t ts us v e none =
    let took = subst (Takes shape_of ts) e (takes_said t ts) in
    ap (map unplaced) (took.1 ∙ ap (λ xs. took.0 ++ xs) none ∙ append-nil took.0) ∙ took.2

-- tokens that are those of a value of the type read as the value
pub reading_said : (t : Ty) (ts : List Token) (v : Value) → IsOfType t v → Says ts v → reading t ts ≡ Ok v
reading_said t ts v of says =
    ap (λ xs. value_in (read_as t xs)) (sym (append-nil ts)) ∙ ap value_in (reads_said t v of ts [] says)

zero_of : (n : ℕ) → (n == 0) ≡ true → n ≡ 0
zero_of n h = grind (arith, nat_tests)

-- a list without length is empty
pub empty_of : (ts : List Token) (b : Bool) → b ≡ (length ts == 0) → b ≡ true → ts ≡ []
empty_of [] b e h = refl
empty_of (t ∷ ts) b e h = let none : suc (length ts) ≡ 0 = zero_of (suc (length ts)) (sym e ∙ h) in absurd (omega arith)
