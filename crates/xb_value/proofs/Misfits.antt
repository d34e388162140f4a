-- The reader answers the first part of a text that misfits the type.
use Rattle.std.proofs.Common.{◌≡◌, ℕ, suc, ◌+◌, ◌==◌, List, [], ◌∷◌, ◌++◌, length, map, append_assoc, Bool, true, false, if◌then◌else◌, Option, Some, None, Ok, Err, refl, sym, ap, subst, ◌∙◌, arith}
use Rattle.std.proofs.lemmas.Bool.Decides.{nat_tests}
use Rattle.std.proofs.lemmas.List.{length-map}
use Rattle.std.specs.Str.Parse.{digits_value}
use Rattle.xb_bits.specs.Word.{word}
use Rattle.xb_value.specs.declared.token.Bracket.TheVariants.{Round, Square}
use Rattle.xb_value.specs.declared.token.Token.{Token}
use Rattle.xb_value.specs.declared.token.Token.TheVariants.{Open, Close}
use Rattle.xb_value.specs.declared.ty.Ty.{Ty}
use Rattle.xb_value.specs.declared.ty.Ty as ty
use Rattle.xb_value.specs.declared.ty.Ty.TheOpen.{Ty-F}
use Rattle.xb_value.specs.declared.value.Value.{Value, Bits, Tuple, Array}
use Rattle.xb_value.specs.Form.{Form, Items, number, empty, group, last, next, form_text, form_tokens, items_tokens}
use Rattle.xb_value.specs.Misfit.{Part, Parts, positioned_items, inside, number_fits, brackets_fit, each_part, all_parts, with_parts, parts_step, parts_of, first_misfit}
use Rattle.xb_value.specs.Inner.Reading.{Answer, ListAnswer, Reader, parts_at, more_than, and_more, read_each, read_times, bracketed, read_bits, read_tuple, read_array, read_step, read_as}
use Rattle.xb_value.specs.Typing.{is_word_of}
use Rattle.xb_value.proofs.Lemmas.Types as types
use Rattle.xb_value.proofs.Lemmas.Types.{EachHas, ty_induction}

-- ---- how many items stand before a closing bracket

count_positioned : (is : Items) (at b : ℕ) → length (positioned_items at is) ≡ length (positioned_items b is)
count_positioned (last k f m) at b = refl
count_positioned (next k f m is) at b = ap suc (count_positioned is (at + k + length (form_text f) + m + 1) (b + k + length (form_text f) + m + 1))

mutual
  parts_deep : (d at : ℕ) (f : Form) (us : List Token) → parts_at (suc d) (form_tokens at f ++ us) ≡ parts_at (suc d) us
  parts_deep d at (number ds) us = refl
  parts_deep d at (empty b k) us = refl
  parts_deep d at (group b is) us =
      ap (parts_at (suc (suc d))) (append_assoc (items_tokens (at + 1) is) (Close ∷ []) us) ∙ items_deep (suc d) (at + 1) is (Close ∷ us)

  items_deep : (d at : ℕ) (is : Items) (us : List Token) → parts_at (suc d) (items_tokens at is ++ us) ≡ parts_at (suc d) us
  items_deep d at (last k f m) us = parts_deep d (at + k) f us
  items_deep d at (next k f m is) us =
      ap (parts_at (suc d)) (append_assoc (form_tokens (at + k) f) (items_tokens (at + k + length (form_text f) + m + 1) is) us)
      ∙ parts_deep d (at + k) f _ ∙ items_deep d (at + k + length (form_text f) + m + 1) is us

parts_one : (at : ℕ) (f : Form) (us : List Token) → parts_at 0 (form_tokens at f ++ us) ≡ suc (parts_at 0 us)
parts_one at (number ds) us = refl
parts_one at (empty b k) us = refl
parts_one at (group b is) us =
    ap (λ x. suc (parts_at 1 x)) (append_assoc (items_tokens (at + 1) is) (Close ∷ []) us) ∙ ap suc (items_deep 0 (at + 1) is (Close ∷ us))

parts_items : (at : ℕ) (is : Items) (us : List Token) → parts_at 0 (items_tokens at is ++ Close ∷ us) ≡ length (positioned_items at is)
parts_items at (last k f m) us = parts_one (at + k) f (Close ∷ us)
parts_items at (next k f m is) us =
    ap (parts_at 0) (append_assoc (form_tokens (at + k) f) (items_tokens (at + k + length (form_text f) + m + 1) is) (Close ∷ us))
    ∙ parts_one (at + k) f _ ∙ ap suc (parts_items (at + k + length (form_text f) + m + 1) is us)

-- ---- what the reader answers

-- the answer is a value, or the place of the misfit
abbrev pub Tells : List Token → Option ℕ → Answer → Type 0
Tells us None a = (v : Value) × (a ≡ Ok (v, us))
Tells us (Some p) a = a ≡ Err p

abbrev TellsAll : List Token → Option ℕ → ListAnswer → Type 0
TellsAll us None a = (vs : List Value) × (a ≡ Ok (vs, us))
TellsAll us (Some p) a = a ≡ Err p

abbrev pub ReadsForms : Ty → Type 0
ReadsForms t = (at : ℕ) (f : Form) (us : List Token) → Tells us (first_misfit (parts_of t at f)) (read_as t (form_tokens at f ++ us))

-- the first of two, or else the second
abbrev or_else : Option ℕ → Option ℕ → Option ℕ
or_else None o = o
or_else (Some p) o = Some p

first_misfit-append : (xs ys : List Part) → first_misfit (xs ++ ys) ≡ or_else (first_misfit xs) (first_misfit ys)
first_misfit-append [] ys = refl
first_misfit-append ((at, true) ∷ xs) ys = first_misfit-append xs ys
first_misfit-append ((at, false) ∷ xs) ys = refl

-- a value and then more
tells_more : (us vs : List Token) (o p : Option ℕ) (a : Answer) (later : List Token → ListAnswer) → Tells vs o a → TellsAll us p (later vs)
    → TellsAll us (or_else o p) (and_more later a)
tells_more us vs None None a later h k =
    (h.0 ∷ k.0, ap (and_more later) h.1 ∙ ap (more_than h.0) k.1)
tells_more us vs None (Some q) a later h k = ap (and_more later) h.1 ∙ ap (more_than h.0) k
tells_more us vs (Some q) p a later h k = ap (and_more later) h

each_tells : (at : ℕ) (is : Items) (ps : List Ty) (us : List Token) → EachHas ReadsForms ps → length (positioned_items at is) ≡ length ps
    → TellsAll us (first_misfit (each_part (map parts_of ps) (positioned_items at is))) (read_each (map read_as ps) (items_tokens at is ++ us))
each_tells at (last k f m) [] us each e = absurd (omega arith)
each_tells at (last k f m) (t ∷ []) us each e =
    subst (λ o. TellsAll us o (read_each (map read_as (t ∷ [])) (form_tokens (at + k) f ++ us)))
    (sym (first_misfit-append (parts_of t (at + k) f) []))
    (tells_more us us (first_misfit (parts_of t (at + k) f)) None (read_as t (form_tokens (at + k) f ++ us)) (read_each []) (each.0 (at + k) f us) ([], refl))
each_tells at (last k f m) (t ∷ u ∷ ps) us each e = absurd (omega arith)
each_tells at (next k f m is) [] us each e = absurd (omega arith)
each_tells at (next k f m is) (t ∷ ps) us each e =
    let offset = at + k + length (form_text f) + m + 1 in
    let rest = items_tokens offset is ++ us in
    let later = each_tells offset is ps us each.1 (omega arith) in
    subst (λ o. TellsAll us o (read_each (map read_as (t ∷ ps)) ((form_tokens (at + k) f ++ items_tokens offset is) ++ us)))
    (sym (first_misfit-append (parts_of t (at + k) f) (each_part (map parts_of ps) (positioned_items offset is))))
    (subst (λ ts. TellsAll us (or_else (first_misfit (parts_of t (at + k) f)) (first_misfit (each_part (map parts_of ps) (positioned_items offset is)))) (read_each (map read_as (t ∷ ps)) ts))
    (sym (append_assoc (form_tokens (at + k) f) (items_tokens offset is) us))
    (tells_more us rest (first_misfit (parts_of t (at + k) f)) _ (read_as t (form_tokens (at + k) f ++ rest)) (read_each (map read_as ps)) (each.0 (at + k) f rest) later))

times_tells : (at : ℕ) (is : Items) (t : Ty) (us : List Token) → ReadsForms t
    → TellsAll us (first_misfit (all_parts (parts_of t) (positioned_items at is))) (read_times (length (positioned_items at is)) (read_as t) (items_tokens at is ++ us))
times_tells at (last k f m) t us reads =
    subst (λ o. TellsAll us o (read_times 1 (read_as t) (form_tokens (at + k) f ++ us)))
    (sym (first_misfit-append (parts_of t (at + k) f) []))
    (tells_more us us (first_misfit (parts_of t (at + k) f)) None (read_as t (form_tokens (at + k) f ++ us)) (read_times 0 (read_as t)) (reads (at + k) f us) ([], refl))
times_tells at (next k f m is) t us reads =
    let offset = at + k + length (form_text f) + m + 1 in
    let rest = items_tokens offset is ++ us in
    let n = length (positioned_items offset is) in
    let later = times_tells offset is t us reads in
    subst (λ o. TellsAll us o (read_times (suc n) (read_as t) ((form_tokens (at + k) f ++ items_tokens offset is) ++ us)))
    (sym (first_misfit-append (parts_of t (at + k) f) (all_parts (parts_of t) (positioned_items offset is))))
    (subst (λ ts. TellsAll us (or_else (first_misfit (parts_of t (at + k) f)) (first_misfit (all_parts (parts_of t) (positioned_items offset is)))) (read_times (suc n) (read_as t) ts))
    (sym (append_assoc (form_tokens (at + k) f) (items_tokens offset is) us))
    (tells_more us rest (first_misfit (parts_of t (at + k) f)) _ (read_as t (form_tokens (at + k) f ++ rest)) (read_times n (read_as t)) (reads (at + k) f rest) later))

-- the values in brackets
tells_bracketed : (us : List Token) (at : ℕ) (o : Option ℕ) (make : List Value → Value) (a : ListAnswer) → TellsAll (Close ∷ us) o a → Tells us o (bracketed at make a)
tells_bracketed us at None make a h = (make h.0, ap (bracketed at make) h.1)
tells_bracketed us at (Some p) make a h = ap (bracketed at make) h

-- ---- the three kinds of types

bits_tell : (w at : ℕ) (f : Form) (us : List Token) → Tells us (first_misfit (with_parts (number_fits w f) at [])) (read_bits w (form_tokens at f ++ us))
bits_tell w at (number ds) us = by_case (is_word_of w (word w (digits_value 16 ds)))
  where
    by_case : (t : Bool) → Tells us (first_misfit (with_parts t at [])) (if t then (Ok (Bits (word w (digits_value 16 ds)), us)) else (Err at))
    by_case true = (Bits (word w (digits_value 16 ds)), refl)
    by_case false = refl
bits_tell w at (empty b k) us = refl
bits_tell w at (group b is) us = refl

-- brackets of the right kind, by whether the count is right
counted : (us : List Token) (at n k : ℕ) (inner : List Part) (a : Answer) → (n ≡ k → Tells us (first_misfit inner) a)
    → Tells us (first_misfit (with_parts (n == k) at inner)) (if n == k then a else (Err at))
counted us at n k inner a same = by_case (n == k) refl
  where
    by_case : (t : Bool) → (n == k) ≡ t → Tells us (first_misfit (with_parts t at inner)) (if t then a else (Err at))
    by_case true e = same (grind (arith, nat_tests))
    by_case false e = refl

no_types : (ps : List Ty) → 0 ≡ length ps → ps ≡ []
no_types [] e = refl
no_types (t ∷ ps) e = absurd (omega arith)

tuple_tell : (ps : List Ty) → EachHas ReadsForms ps → (at : ℕ) (f : Form) (us : List Token)
    → Tells us (first_misfit (with_parts (brackets_fit Round (length (map parts_of ps)) f) at (each_part (map parts_of ps) (inside at f)))) (read_tuple (map read_as ps) (form_tokens at f ++ us))
tuple_tell ps each at (number ds) us = refl
tuple_tell ps each at (empty Square k) us = refl
tuple_tell ps each at (empty Round k) us =
    subst (λ n. Tells us (first_misfit (with_parts (0 == n) at (each_part (map parts_of ps) []))) (read_tuple (map read_as ps) (Open at Round ∷ Close ∷ us)))
    (length-map ps read_as ∙ sym (length-map ps parts_of))
    (counted us at 0 (length (map read_as ps)) (each_part (map parts_of ps) []) (bracketed at Tuple (read_each (map read_as ps) (Close ∷ us)))
    (λ e.
    let none : ps ≡ [] = no_types ps (e ∙ length-map ps read_as) in
    subst (λ (qs : List Ty). Tells us (first_misfit (each_part (map parts_of qs) [])) (bracketed at Tuple (read_each (map read_as qs) (Close ∷ us)))) (sym none) (Tuple [], refl)))
tuple_tell ps each at (group Square is) us = refl
tuple_tell ps each at (group Round is) us =
    let inner = each_part (map parts_of ps) (positioned_items (at + 1) is) in
    let tokens = items_tokens (at + 1) is ++ Close ∷ us in
    let found : parts_at 0 tokens ≡ length (positioned_items 0 is) = parts_items (at + 1) is us ∙ count_positioned is (at + 1) 0 in
    let counts = length-map ps read_as ∙ sym (length-map ps parts_of) in
    subst (λ ts. Tells us (first_misfit (with_parts (length (positioned_items 0 is) == length (map parts_of ps)) at inner)) (read_tuple (map read_as ps) (Open at Round ∷ ts)))
    (sym (append_assoc (items_tokens (at + 1) is) (Close ∷ []) us))
    (subst (λ n. Tells us (first_misfit (with_parts (length (positioned_items 0 is) == n) at inner)) (read_tuple (map read_as ps) (Open at Round ∷ tokens))) counts
    (subst (λ n. Tells us (first_misfit (with_parts (n == length (map read_as ps)) at inner)) (read_tuple (map read_as ps) (Open at Round ∷ tokens))) found
    (counted us at (parts_at 0 tokens) (length (map read_as ps)) inner (bracketed at Tuple (read_each (map read_as ps) tokens))
    (λ e. tells_bracketed us at (first_misfit inner) Tuple (read_each (map read_as ps) tokens)
    (each_tells (at + 1) is ps (Close ∷ us) each (sym (parts_items (at + 1) is us) ∙ e ∙ length-map ps read_as))))))

array_tell : (t : Ty) (n : ℕ) → ReadsForms t → (at : ℕ) (f : Form) (us : List Token)
    → Tells us (first_misfit (with_parts (brackets_fit Square n f) at (all_parts (parts_of t) (inside at f)))) (read_array (read_as t) n (form_tokens at f ++ us))
array_tell t n reads at (number ds) us = refl
array_tell t n reads at (empty Round k) us = refl
array_tell t n reads at (empty Square k) us =
    counted us at 0 n [] (bracketed at Array (read_times 0 (read_as t) (Close ∷ us))) (λ e. (Array [], refl))
array_tell t n reads at (group Round is) us = refl
array_tell t n reads at (group Square is) us =
    let inner = all_parts (parts_of t) (positioned_items (at + 1) is) in
    let tokens = items_tokens (at + 1) is ++ Close ∷ us in
    let here = parts_items (at + 1) is us in
    let found : parts_at 0 tokens ≡ length (positioned_items 0 is) = here ∙ count_positioned is (at + 1) 0 in
    subst (λ ts. Tells us (first_misfit (with_parts (length (positioned_items 0 is) == n) at inner)) (read_array (read_as t) n (Open at Square ∷ ts)))
    (sym (append_assoc (items_tokens (at + 1) is) (Close ∷ []) us))
    (subst (λ k. Tells us (first_misfit (with_parts (k == n) at inner)) (read_array (read_as t) n (Open at Square ∷ tokens))) found
    (counted us at (parts_at 0 tokens) n inner (bracketed at Array (read_times (parts_at 0 tokens) (read_as t) tokens))
    (λ e. tells_bracketed us at (first_misfit inner) Array (read_times (parts_at 0 tokens) (read_as t) tokens)
    (subst (λ k. TellsAll (Close ∷ us) (first_misfit inner) (read_times k (read_as t) tokens)) (sym here) (times_tells (at + 1) is t (Close ∷ us) reads)))))

-- the reader's answer to the tokens of a form
pub tells : (t : Ty) → ReadsForms t
tells = ty_induction ReadsForms
    (λ w at f us.
    subst (λ (p : Parts). Tells us (first_misfit (p at f)) (read_as (ty.Bits w) (form_tokens at f ++ us))) (sym (types.fold-Bits Parts parts_step w))
    (subst (λ (r : Reader). Tells us (first_misfit (with_parts (number_fits w f) at [])) (r (form_tokens at f ++ us))) (sym (types.fold-Bits Reader read_step w)) (bits_tell w at f us)))
    (λ ps each at f us.
    subst (λ (p : Parts). Tells us (first_misfit (p at f)) (read_as (ty.Tuple ps) (form_tokens at f ++ us))) (sym (types.fold-Tuple Parts parts_step ps))
    (subst (λ (r : Reader). Tells us (first_misfit (parts_step (Ty-F.Tuple (map parts_of ps)) at f)) (r (form_tokens at f ++ us))) (sym (types.fold-Tuple Reader read_step ps)) (tuple_tell ps each at f us)))
    (λ t n reads at f us.
    subst (λ (p : Parts). Tells us (first_misfit (p at f)) (read_as (ty.Array t n) (form_tokens at f ++ us))) (sym (types.fold-Array Parts parts_step t n))
    (subst (λ (r : Reader). Tells us (first_misfit (parts_step (Ty-F.Array (parts_of t) n) at f)) (r (form_tokens at f ++ us))) (sym (types.fold-Array Reader read_step t n)) (array_tell t n reads at f us)))
