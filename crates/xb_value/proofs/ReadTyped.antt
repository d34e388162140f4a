-- What is read at a type is of the type, and a text says one thing.
use Rattle.std.proofs.Common.{◌≡◌, ℕ, zero, suc, ◌==◌, List, [], ◌∷◌, length, map, Bool, true, false, if◌then◌else◌, IsTrue, Result, Ok, Err, Some, MatchResult, refl, sym, ap, subst, ◌∙◌, ◌++◌, append-nil, Option, None, ap₂, IfOk}
use Rattle.std.specs.List.{list_all}
use Rattle.xb_bits.specs.Word.{word}
use Rattle.xb_value.specs.declared.ty.Ty.{Ty}
use Rattle.xb_value.specs.declared.ty.Ty as ty
use Rattle.xb_value.specs.declared.token.Bracket.TheVariants.{Round, Square}
use Rattle.xb_value.specs.declared.token.Token.{Token}
use Rattle.xb_value.specs.declared.token.Token.TheVariants.{Number, Open, Close}
use Rattle.xb_value.specs.declared.reader.ValueError.{ValueError}
use Rattle.xb_value.specs.declared.reader.ValueError.TheVariants.{Syntax, Shape, OutOfMemory}
use Rattle.xb_value.specs.declared.value.Value.{Value, Bits, Tuple, Array}
use Rattle.xb_value.specs.declared.value.Value.TheViews.{outs-Bits, outs-Tuple, outs-Array}
use Rattle.xb_value.specs.Form.{Spells, form_tokens}
use Rattle.xb_value.specs.Inner.Scanner.{started}
use Rattle.xb_value.specs.Reads.{Reads}
use Rattle.xb_value.specs.Inner.Reading.{Answer, ListAnswer, Reader, more_than, and_more, read_each, read_times, read_bits, read_tuple, read_array, read_as, read_step, left, bracketed, parts_at, reading, value_in, whole}
use Rattle.xb_value.specs.Refusal.{IsRefusal}
use Rattle.xb_value.specs.Misfit.{Misfits, parts_of, first_misfit}
use Rattle.xb_value.proofs.Misfits.{Tells, tells}
use Rattle.xb_value.proofs.ReadSays.{read_says}
use Rattle.xb_value.specs.Inner.Answers.{IsAnswer}
use Rattle.xb_value.specs.Typing.{IsOfType, fits, bits_fit, tuple_fits, array_fits, is_word_of, each_passes}
use Rattle.xb_value.proofs.Found.{outcome}
use Rattle.xb_value.proofs.Taken.{taken}
use Rattle.xb_value.proofs.Lemmas.Types as types
use Rattle.xb_value.proofs.Lemmas.Types.{EachHas, ty_induction}
use Rattle.xb_value.proofs.Lemmas.Typing.{fits-Bits, fits-Tuple, fits-Array}
use Rattle.xb_value.proofs.Widths.{and_true}

-- the claim holds of what was read
abbrev IfRead : {A : Type 0} → (A → Type 0) → Result (A × List Token) ℕ → Type 0
IfRead P (Ok r) = P r.0
IfRead P (Err at) = Unit {0}

abbrev pub ReadsTyped : Ty → Type 0
ReadsTyped t = (ts : List Token) → IfRead (IsOfType t) (read_as t ts)

typed_Bits : (w n : ℕ) → IsTrue (is_word_of w (word w n)) → IsOfType (ty.Bits w) (Bits (word w n))
typed_Bits w n h = fits-Bits w (Bits (word w n)) ∙ ap (bits_fit w) (outs-Bits (word w n)) ∙ h

read_bits_typed : (w : ℕ) (ts : List Token) → IfRead (IsOfType (ty.Bits w)) (read_bits w ts)
read_bits_typed w [] = tt
read_bits_typed w (Number at n ∷ ts) = by_case (is_word_of w (word w n)) refl
  where
    by_case : (b : Bool) → is_word_of w (word w n) ≡ b → IfRead (IsOfType (ty.Bits w)) (if b then (Ok (Bits (word w n), ts)) else (Err at))
    by_case true e = typed_Bits w n e
    by_case false e = tt
read_bits_typed w (Open at b ∷ ts) = tt
read_bits_typed w (Close ∷ ts) = tt

-- one more value
more_read : (P : Value → Type 0) (Q R : List Value → Type 0) (later : List Token → ListAnswer) (first : Answer)
    → ((v : Value) (vs : List Value) → P v → Q vs → R (v ∷ vs)) → IfRead P first → ((ts : List Token) → IfRead Q (later ts)) → IfRead R (and_more later first)
more_read P Q R later (Err at) join one all = tt
more_read P Q R later (Ok r) join one all = by_case (later r.1) (all r.1)
  where
    by_case : (a : ListAnswer) → IfRead Q a → IfRead R (more_than r.0 a)
    by_case (Ok s) h = join r.0 s.0 one h
    by_case (Err at) h = tt

each_typed : (ps : List Ty) → EachHas ReadsTyped ps → (ts : List Token) → IfRead (λ vs. IsTrue (each_passes (map fits ps) vs)) (read_each (map read_as ps) ts)
each_typed [] each ts = refl
each_typed (t ∷ ps) each ts =
    more_read (IsOfType t) (λ vs. IsTrue (each_passes (map fits ps) vs)) (λ vs. IsTrue (each_passes (map fits (t ∷ ps)) vs))
    (read_each (map read_as ps)) (read_as t ts) (λ v vs h k. and_true _ _ h k) (each.0 ts) (each_typed ps each.1)

times_typed : (n : ℕ) (t : Ty) → ReadsTyped t → (ts : List Token) → IfRead (λ vs. (length vs ≡ n) × IsTrue (list_all (fits t) vs)) (read_times n (read_as t) ts)
times_typed zero t typed ts = (refl, refl)
times_typed (suc n) t typed ts =
    more_read (IsOfType t) (λ vs. (length vs ≡ n) × IsTrue (list_all (fits t) vs)) (λ vs. (length vs ≡ suc n) × IsTrue (list_all (fits t) vs))
    (read_times n (read_as t)) (read_as t ts) (λ v vs h k. (ap suc k.0, and_true _ _ h k.1)) (typed ts) (times_typed n t typed)

-- the values in brackets
bracketed_typed : (P : Value → Type 0) (Q : List Value → Type 0) (at : ℕ) (make : List Value → Value) (a : ListAnswer)
    → ((vs : List Value) → Q vs → P (make vs)) → IfRead Q a → IfRead P (bracketed at make a)
bracketed_typed P Q at make (Err fault) join all = tt
bracketed_typed P Q at make (Ok r) join all = by_case r.1
  where
    by_case : (ts : List Token) → IfRead P (left at make r.0 ts)
    by_case [] = tt
    by_case (Number p n ∷ ts) = tt
    by_case (Open p b ∷ ts) = tt
    by_case (Close ∷ ts) = join r.0 all

if_typed : (P : Value → Type 0) (b : Bool) (a : Answer) (at : ℕ) → (IsTrue b → IfRead P a) → IfRead P (if b then a else (Err at))
if_typed P true a at h = h refl
if_typed P false a at h = tt

read_tuple_typed : (ps : List Ty) → EachHas ReadsTyped ps → (ts : List Token) → IfRead (IsOfType (ty.Tuple ps)) (read_tuple (map read_as ps) ts)
read_tuple_typed ps each [] = tt
read_tuple_typed ps each (Number at n ∷ ts) = tt
read_tuple_typed ps each (Open at Square ∷ ts) = tt
read_tuple_typed ps each (Open at Round ∷ ts) =
    if_typed (IsOfType (ty.Tuple ps)) (parts_at 0 ts == length (map read_as ps)) (bracketed at Tuple (read_each (map read_as ps) ts)) at
    (λ _. bracketed_typed (IsOfType (ty.Tuple ps)) (λ vs. IsTrue (each_passes (map fits ps) vs)) at Tuple (read_each (map read_as ps) ts)
    (λ vs h. fits-Tuple ps (Tuple vs) ∙ ap (tuple_fits (map fits ps)) (outs-Tuple vs) ∙ h) (each_typed ps each ts))
read_tuple_typed ps each (Close ∷ ts) = tt

read_array_typed : (t : Ty) (n : ℕ) → ReadsTyped t → (ts : List Token) → IfRead (IsOfType (ty.Array t n)) (read_array (read_as t) n ts)
read_array_typed t n typed [] = tt
read_array_typed t n typed (Number at k ∷ ts) = tt
read_array_typed t n typed (Open at Round ∷ ts) = tt
read_array_typed t n typed (Open at Square ∷ ts) =
    if_typed (IsOfType (ty.Array t n)) (parts_at 0 ts == n) (bracketed at Array (read_times (parts_at 0 ts) (read_as t) ts)) at
    (λ same. bracketed_typed (IsOfType (ty.Array t n)) (λ vs. (length vs ≡ parts_at 0 ts) × IsTrue (list_all (fits t) vs)) at Array (read_times (parts_at 0 ts) (read_as t) ts)
    (λ vs h.
    let counted : IsTrue (length vs == n) = subst (λ k. IsTrue (k == n)) (sym h.0) same in
    fits-Array t n (Array vs) ∙ ap (array_fits (fits t) n) (outs-Array vs) ∙ and_true _ _ counted h.1)
    (times_typed (parts_at 0 ts) t typed ts))
read_array_typed t n typed (Close ∷ ts) = tt

pub reads_typed : (t : Ty) → ReadsTyped t
reads_typed = ty_induction ReadsTyped
    (λ w ts. subst (IfRead (IsOfType (ty.Bits w))) (sym (ap (λ (r : Reader). r ts) (types.fold-Bits Reader read_step w))) (read_bits_typed w ts))
    (λ ps each ts. subst (IfRead (IsOfType (ty.Tuple ps))) (sym (ap (λ (r : Reader). r ts) (types.fold-Tuple Reader read_step ps))) (read_tuple_typed ps each ts))
    (λ t n typed ts. subst (IfRead (IsOfType (ty.Array t n))) (sym (ap (λ (r : Reader). r ts) (types.fold-Array Reader read_step t n))) (read_array_typed t n typed ts))

-- what was read is of the type
pub read_typed : (t : Ty) (ts us : List Token) (v : Value) → read_as t ts ≡ Ok (v, us) → IsOfType t v
read_typed t ts us v e = subst (IfRead (IsOfType t)) e (reads_typed t ts)

-- ---- a text says one thing

pub spells_one : (text : List ℕ) (us vs : List Token) → Spells text us → Spells text vs → us ≡ vs
spells_one text us vs h k =
    let first : outcome started 0 text ≡ Some us = ap (outcome started 0) (sym h.2) ∙ taken h.0 h.1 ∙ ap Some h.3 in
    let second : outcome started 0 text ≡ Some vs = ap (outcome started 0) (sym k.2) ∙ taken k.0 k.1 ∙ ap Some k.3 in
    let both : Some us ≡ Some vs = sym first ∙ second in
    (cc)

-- what is read to its end
reading_is : (t : Ty) (ts : List Token) (v : Value) → reading t ts ≡ Ok v → read_as t ts ≡ Ok (v, [])
reading_is t ts v h = by_case (read_as t ts) refl h
  where
    by_case : (a : Answer) → read_as t ts ≡ a → value_in a ≡ Ok v → read_as t ts ≡ Ok (v, [])
    by_case (Ok x) e k = behind x.1 refl
      where
        behind : (us : List Token) → x.1 ≡ us → read_as t ts ≡ Ok (v, [])
        behind [] f =
            let one : ◌≡◌ {A = Result Value ℕ} (Ok x.0) (Ok v) = ap (whole x.0) (sym f) ∙ k in
            let same : x.0 ≡ v = (cc) in
            e ∙ ap₂ (λ u us. Ok (u, us)) same f
        behind (u ∷ us) f = let bad : ◌≡◌ {A = Result Value ℕ} (Err 0) (Ok v) = ap (whole x.0) (sym f) ∙ k in absurd (cc)
    by_case (Err at) e k = absurd (cc)

-- the place that the reader answers is that of the first misfit
pub misfit_of : (text : List ℕ) (t : Ty) (ts : List Token) (at : ℕ) → Spells text ts → reading t ts ≡ Err at → Misfits text t at
misfit_of text t ts at h k = by_case (first_misfit (parts_of t 0 h.0)) refl (tells t 0 h.0 [])
  where
    whole_text : read_as t (form_tokens 0 h.0 ++ []) ≡ read_as t ts
    whole_text = ap (read_as t) (append-nil (form_tokens 0 h.0) ∙ h.3)

    by_case : (o : Option ℕ) → first_misfit (parts_of t 0 h.0) ≡ o → Tells [] o (read_as t (form_tokens 0 h.0 ++ [])) → Misfits text t at
    by_case None e f =
        let read : ◌≡◌ {A = Result Value ℕ} (Ok f.0) (Err at) = sym (ap value_in (sym whole_text ∙ f.1)) ∙ k in
        absurd (cc)
    by_case (Some p) e f =
        let read : ◌≡◌ {A = Result Value ℕ} (Err p) (Err at) = sym (ap value_in (sym whole_text ∙ f)) ∙ k in
        let same : p ≡ at = (cc) in
        record { form = h.0; formed = h.1; spells = h.2; first = e ∙ ap Some same }

-- and at a misfit the reader answers its place
pub misfit_read : (text : List ℕ) (t : Ty) (at : ℕ) → (m : Misfits text t at) → reading t (form_tokens 0 m.form) ≡ Err at
misfit_read text t at m =
    let told = subst (λ o. Tells [] o (read_as t (form_tokens 0 m.form ++ []))) m.first (tells t 0 m.form []) in
    ap (λ xs. value_in (read_as t xs)) (sym (append-nil (form_tokens 0 m.form))) ∙ ap value_in told

pub answer_of : (text : List ℕ) (t : Ty) (ts : List Token) (r : Result Value ValueError) → Spells text ts → IsAnswer r (reading t ts) → MatchResult r (Reads text t) (IsRefusal text t)
answer_of text t ts r h k = by_case r (reading t ts) refl k
  where
    by_case : (r : Result Value ValueError) (a : Result Value ℕ) → reading t ts ≡ a → IsAnswer r a → MatchResult r (Reads text t) (IsRefusal text t)
    by_case (Ok v) (Ok w) e k =
        let read = reading_is t ts v (e ∙ ap Ok (sym k)) in
        (ts, h, read_typed t ts [] v read, read_says t ts [] v read refl)
    by_case (Ok v) (Err at) e k = absurd k
    by_case (Err OutOfMemory) a e k = tt
    by_case (Err (Shape p)) (Err q) e k = misfit_of text t ts p h (e ∙ ap Err (sym k))
    by_case (Err (Shape p)) (Ok w) e k = absurd k
    by_case (Err (Syntax p)) a e k = absurd k

-- a value that was read is of the type
pub answer_typed : (text : List ℕ) (t : Ty) (r : Result Value ValueError) → MatchResult r (Reads text t) (IsRefusal text t) → IfOk r (IsOfType t)
answer_typed text t (Ok v) h = h.2
answer_typed text t (Err e) h = tt
