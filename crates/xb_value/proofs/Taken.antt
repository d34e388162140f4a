-- The reader takes every text that a form spells, and gives the form's numbers and brackets.
use Rattle.std.proofs.Common.{◌≡◌, ℕ, zero, suc, ◌+◌, ◌*◌, ◌≤◌, nat_le, nat_lt, List, [], ◌∷◌, ◌++◌, length, length-append, append_assoc, append-nil, Bool, true, false, ◌&&◌, IsTrue, if◌then◌else◌, Option, Some, None, refl, sym, ap, ◌∙◌, arith}
use Rattle.std.specs.List.{list_all}
use Rattle.std.proofs.lemmas.Bool.Decides.{nat_tests}
use Rattle.xb_value.specs.declared.token.Bracket.{Bracket}
use Rattle.xb_value.specs.declared.token.Bracket.TheVariants.{Round, Square}
use Rattle.xb_value.specs.declared.token.Token.{Token}
use Rattle.xb_value.specs.declared.token.Token.TheVariants.{Number, Open, Close}
use Rattle.xb_value.specs.declared.scan.Class.{Class}
use Rattle.xb_value.specs.declared.scan.Class.TheVariants.{Space, Comma, Ex, Opens, Closes, Digit, Other}
use Rattle.xb_value.specs.declared.scan.Mode.{Mode}
use Rattle.xb_value.specs.declared.scan.Mode.TheVariants.{Start, First, Next, Zero, Hex, Digits, After}
use Rattle.xb_value.specs.Form.{Form, Items, number, empty, group, last, next, form_text, items_text, is_form, are_forms, opening, closing, spaces, form_tokens, items_tokens}
use Rattle.std.specs.Char.{is_ascii_hexdigit, digit_value}
use Rattle.std.specs.Str.Parse.{digits_value_after}
use Rattle.xb_value.specs.Inner.Scanner.{class_of, Scan, scan, close, follow, digits, step_in, started}
use Rattle.xb_value.proofs.Widths.{both_true}
use Rattle.xb_value.proofs.Classes.{class_of-hex}
use Rattle.xb_value.proofs.Found.{outcome, and_then}

abbrev can_begin : Mode → Bool
can_begin Start = true
can_begin First = true
can_begin Next = true
can_begin _ = false

-- a mode inside brackets, in which spaces change nothing
abbrev is_inner : Mode → Bool
is_inner First = true
is_inner Next = true
is_inner _ = false

abbrev pub is_digit : Class → Bool
is_digit (Digit d) = true
is_digit _ = false

-- what may stand behind a number
abbrev pub Clean : List ℕ → Type 0
Clean [] = Unit {0}
Clean (c ∷ cs) = is_digit (class_of c) ≡ false

-- ---- a step by the class of a byte

pub step_on : (s : Scan) (p b : ℕ) (t : List ℕ) (c : Class) (r : Option Scan) → class_of b ≡ c → step_in s.mode s.stack s.tokens p c ≡ r
    → outcome s p (b ∷ t) ≡ and_then (λ u. outcome u (p + 1) t) r
step_on s p b t c r e f =
    ap (λ x. and_then (λ u. outcome u (p + 1) t) (step_in s.mode s.stack s.tokens p x)) e ∙ ap (and_then (λ u. outcome u (p + 1) t)) f

begin_zero : (m : Mode) (ks : List Bracket) (ts : List Token) (p : ℕ) → IsTrue (can_begin m) → step_in m ks ts p (Digit 0) ≡ Some (scan ks ts (Zero p))
begin_zero Start ks ts p h = refl
begin_zero First ks ts p h = refl
begin_zero Next ks ts p h = refl
begin_zero (Zero a) ks ts p h = absurd (cc)
begin_zero (Hex a) ks ts p h = absurd (cc)
begin_zero (Digits a n v) ks ts p h = absurd (cc)
begin_zero After ks ts p h = absurd (cc)

begin_open : (m : Mode) (ks : List Bracket) (ts : List Token) (p : ℕ) (b : Bracket) → IsTrue (can_begin m) → step_in m ks ts p (Opens b) ≡ Some (scan (b ∷ ks) (ts ++ Open p b ∷ []) First)
begin_open Start ks ts p b h = refl
begin_open First ks ts p b h = refl
begin_open Next ks ts p b h = refl
begin_open (Zero a) ks ts p b h = absurd (cc)
begin_open (Hex a) ks ts p b h = absurd (cc)
begin_open (Digits a n v) ks ts p b h = absurd (cc)
begin_open After ks ts p b h = absurd (cc)

inner_begins : (m : Mode) → IsTrue (is_inner m) → IsTrue (can_begin m)
inner_begins First h = refl
inner_begins Next h = refl
inner_begins Start h = absurd (cc)
inner_begins (Zero a) h = absurd (cc)
inner_begins (Hex a) h = absurd (cc)
inner_begins (Digits a n v) h = absurd (cc)
inner_begins After h = absurd (cc)

inner_space : (m : Mode) (k : Bracket) (ks : List Bracket) (ts : List Token) (p : ℕ) → IsTrue (is_inner m) → step_in m (k ∷ ks) ts p Space ≡ Some (scan (k ∷ ks) ts m)
inner_space First k ks ts p h = refl
inner_space Next k ks ts p h = refl
inner_space Start k ks ts p h = absurd (cc)
inner_space (Zero a) k ks ts p h = absurd (cc)
inner_space (Hex a) k ks ts p h = absurd (cc)
inner_space (Digits a n v) k ks ts p h = absurd (cc)
inner_space After k ks ts p h = absurd (cc)

-- the same outcome from an equal place
at_place : (s : Scan) (p q : ℕ) (t : List ℕ) → p ≡ q → outcome s p t ≡ outcome s q t
at_place s p q t e = ap (λ x. outcome s x t) e

-- ---- spaces

take_spaces : (n : ℕ) (m : Mode) (k : Bracket) (ks : List Bracket) (ts : List Token) (p : ℕ) (t : List ℕ)
    → ((q : ℕ) → step_in m (k ∷ ks) ts q Space ≡ Some (scan (k ∷ ks) ts m))
    → outcome (scan (k ∷ ks) ts m) p (spaces n ++ t) ≡ outcome (scan (k ∷ ks) ts m) (p + n) t
take_spaces zero m k ks ts p t stays = at_place (scan (k ∷ ks) ts m) p (p + 0) t (omega arith)
take_spaces (suc n) m k ks ts p t stays =
    step_on (scan (k ∷ ks) ts m) p 32 (spaces n ++ t) Space (Some (scan (k ∷ ks) ts m)) refl (stays p)
    ∙ take_spaces n m k ks ts (p + 1) t stays
    ∙ at_place (scan (k ∷ ks) ts m) (p + 1 + n) (p + suc n) t (omega arith)

length_spaces : (n : ℕ) → length (spaces n) ≡ n
length_spaces zero = refl
length_spaces (suc n) = ap suc (length_spaces n)

clean_spaces : (n : ℕ) (c : ℕ) (t : List ℕ) → is_digit (class_of c) ≡ false → Clean (spaces n ++ c ∷ t)
clean_spaces zero c t h = h
clean_spaces (suc n) c t h = refl

-- ---- numbers

-- behind the last digit a number is done
pub number_done : (t : List ℕ) (ks : List Bracket) (ts : List Token) (at n v p : ℕ) → Clean t
    → outcome (scan ks ts (Digits at n v)) p t ≡ outcome (scan ks (ts ++ Number at v ∷ []) After) p t
number_done [] [] ts at n v p clean = refl
number_done [] (k ∷ ks) ts at n v p clean = refl
number_done (c ∷ cs) ks ts at n v p clean = ap (and_then (λ u. outcome u (p + 1) cs)) (by_class (class_of c) clean)
  where
    by_class : (x : Class) → is_digit x ≡ false → digits ks ts at n v x ≡ follow ks (ts ++ Number at v ∷ []) x
    by_class Space h = refl
    by_class Comma h = refl
    by_class Ex h = refl
    by_class (Opens k) h = refl
    by_class (Closes k) h = refl
    by_class (Digit d) h = absurd (cc)
    by_class Other h = refl

take_digits : (ds t : List ℕ) (ks : List Bracket) (ts : List Token) (at n v p : ℕ) → IsTrue (list_all is_ascii_hexdigit ds) → n + length ds ≤ 32 → Clean t
    → outcome (scan ks ts (Digits at n v)) p (ds ++ t) ≡ outcome (scan ks (ts ++ Number at (digits_value_after 16 v ds) ∷ []) After) (p + length ds) t
take_digits [] t ks ts at n v p all most clean =
    number_done t ks ts at n v p clean ∙ at_place (scan ks (ts ++ Number at v ∷ []) After) p (p + 0) t (omega arith)
take_digits (d ∷ ds) t ks ts at n v p all most clean =
    let both = both_true (is_ascii_hexdigit d) (list_all is_ascii_hexdigit ds) all in
    let room : nat_lt n 32 ≡ true = grind (arith, nat_tests, most) in
    let w = v * 16 + digit_value d in
    step_on (scan ks ts (Digits at n v)) p d (ds ++ t) (Digit (digit_value d)) (Some (scan ks ts (Digits at (n + 1) w)))
    (class_of-hex d both.0) (ap (λ x. if x then (Some (scan ks ts (Digits at (n + 1) w))) else None) room)
    ∙ take_digits ds t ks ts at (n + 1) w (p + 1) both.1 (omega (arith, most)) clean
    ∙ at_place (scan ks (ts ++ Number at (digits_value_after 16 w ds) ∷ []) After) (p + 1 + length ds) (p + suc (length ds)) t (omega arith)

take_number : (ds t : List ℕ) (m : Mode) (ks : List Bracket) (ts : List Token) (p : ℕ) → IsTrue (is_form (number ds)) → IsTrue (can_begin m) → Clean t
    → outcome (scan ks ts m) p (form_text (number ds) ++ t) ≡ outcome (scan ks (ts ++ form_tokens p (number ds)) After) (p + length (form_text (number ds))) t
take_number [] t m ks ts p formed begins clean = absurd (cc)
take_number (d ∷ ds) t m ks ts p formed begins clean =
    let parts = both_true (list_all is_ascii_hexdigit (d ∷ ds) && nat_le 1 (length (d ∷ ds))) (nat_le (length (d ∷ ds)) 32) formed in
    let all = (both_true (list_all is_ascii_hexdigit (d ∷ ds)) (nat_le 1 (length (d ∷ ds))) parts.0).0 in
    let hex = both_true (is_ascii_hexdigit d) (list_all is_ascii_hexdigit ds) all in
    let most : 1 + length ds ≤ 32 = grind (arith, nat_tests, parts.1) in
    let v = digit_value d in
    let first : v ≡ 0 * 16 + v = omega arith in
    step_on (scan ks ts m) p 48 (120 ∷ d ∷ ds ++ t) (Digit 0) (Some (scan ks ts (Zero p))) refl (begin_zero m ks ts p begins)
    ∙ step_on (scan ks ts (Zero p)) (p + 1) 120 (d ∷ ds ++ t) Ex (Some (scan ks ts (Hex p))) refl refl
    ∙ step_on (scan ks ts (Hex p)) (p + 1 + 1) d (ds ++ t) (Digit v) (Some (scan ks ts (Digits p 1 v))) (class_of-hex d hex.0) refl
    ∙ take_digits ds t ks ts p 1 v (p + 1 + 1 + 1) hex.1 most clean
    ∙ ap (λ w. outcome (scan ks (ts ++ Number p (digits_value_after 16 w ds) ∷ []) After) (p + 1 + 1 + 1 + length ds) t) first
    ∙ at_place (scan ks (ts ++ Number p (digits_value_after 16 (0 * 16 + v) ds) ∷ []) After) (p + 1 + 1 + 1 + length ds) (p + suc (suc (suc (length ds)))) t (omega arith)

-- ---- brackets

opens : (b : Bracket) → class_of (opening b) ≡ Opens b
opens Round = refl
opens Square = refl

pub closes : (b : Bracket) → class_of (closing b) ≡ Closes b
closes Round = refl
closes Square = refl

pub closes_same : (b : Bracket) (ks : List Bracket) (ts : List Token) → close (b ∷ ks) ts b ≡ Some (scan ks (ts ++ Close ∷ []) After)
closes_same Round ks ts = refl
closes_same Square ks ts = refl

pub not_digit : (b : Bracket) → is_digit (class_of (closing b)) ≡ false
not_digit b = ap is_digit (closes b)

take_empty : (b : Bracket) (n : ℕ) (t : List ℕ) (m : Mode) (ks : List Bracket) (ts : List Token) (p : ℕ) → IsTrue (can_begin m)
    → outcome (scan ks ts m) p (form_text (empty b n) ++ t) ≡ outcome (scan ks (ts ++ form_tokens p (empty b n)) After) (p + length (form_text (empty b n))) t
take_empty b n t m ks ts p begins =
    let us = ts ++ Open p b ∷ [] in
    let size : p + 1 + n + 1 ≡ p + length (form_text (empty b n)) = omega (arith, length-append (spaces n) (closing b ∷ []), length_spaces n) in
    step_on (scan ks ts m) p (opening b) ((spaces n ++ closing b ∷ []) ++ t) (Opens b) (Some (scan (b ∷ ks) us First)) (opens b) (begin_open m ks ts p b begins)
    ∙ ap (outcome (scan (b ∷ ks) us First) (p + 1)) (append_assoc (spaces n) (closing b ∷ []) t)
    ∙ take_spaces n First b ks us (p + 1) (closing b ∷ t) (λ q. refl)
    ∙ step_on (scan (b ∷ ks) us First) (p + 1 + n) (closing b) t (Closes b) (Some (scan ks (us ++ Close ∷ []) After)) (closes b) (closes_same b ks us)
    ∙ ap (λ vs. outcome (scan ks vs After) (p + 1 + n + 1) t) (append_assoc ts (Open p b ∷ []) (Close ∷ []))
    ∙ at_place (scan ks (ts ++ form_tokens p (empty b n)) After) (p + 1 + n + 1) (p + length (form_text (empty b n))) t size

abbrev TakesForm : Form → Type 0
TakesForm f = (t : List ℕ) (m : Mode) (ks : List Bracket) (ts : List Token) (p : ℕ) → IsTrue (is_form f) → IsTrue (can_begin m) → Clean t
    → outcome (scan ks ts m) p (form_text f ++ t) ≡ outcome (scan ks (ts ++ form_tokens p f) After) (p + length (form_text f)) t

abbrev TakesItems : Items → Type 0
TakesItems is = (t : List ℕ) (m : Mode) (k : Bracket) (ks : List Bracket) (ts : List Token) (p : ℕ) → IsTrue (are_forms is) → IsTrue (is_inner m)
    → outcome (scan (k ∷ ks) ts m) p (items_text is ++ closing k ∷ t) ≡ outcome (scan ks (ts ++ items_tokens p is ++ Close ∷ []) After) (p + length (items_text is) + 1) t

take_group : (b : Bracket) (is : Items) → TakesItems is → TakesForm (group b is)
take_group b is items t m ks ts p formed begins clean =
    let us = ts ++ Open p b ∷ [] in
    let vs = items_tokens (p + 1) is in
    step_on (scan ks ts m) p (opening b) ((items_text is ++ closing b ∷ []) ++ t) (Opens b) (Some (scan (b ∷ ks) us First)) (opens b) (begin_open m ks ts p b begins)
    ∙ ap (outcome (scan (b ∷ ks) us First) (p + 1)) (append_assoc (items_text is) (closing b ∷ []) t)
    ∙ items t First b ks us (p + 1) formed refl
    ∙ ap (λ xs. outcome (scan ks xs After) (p + 1 + length (items_text is) + 1) t) (append_assoc us vs (Close ∷ []) ∙ append_assoc ts (Open p b ∷ []) (vs ++ Close ∷ []))
    ∙ at_place (scan ks (ts ++ form_tokens p (group b is)) After) (p + 1 + length (items_text is) + 1) (p + length (form_text (group b is))) t
    (omega (arith, length-append (items_text is) (closing b ∷ [])))

-- an item and what follows it, up to a byte that ends the spaces behind it
take_item : (f : Form) → TakesForm f → (a c : ℕ) (x : ℕ) (t : List ℕ) (m : Mode) (k : Bracket) (ks : List Bracket) (ts : List Token) (p : ℕ)
    → IsTrue (is_form f) → IsTrue (is_inner m) → is_digit (class_of x) ≡ false
    → outcome (scan (k ∷ ks) ts m) p (spaces a ++ (form_text f ++ (spaces c ++ x ∷ t)))
    ≡ outcome (scan (k ∷ ks) (ts ++ form_tokens (p + a) f) After) (p + a + length (form_text f) + c) (x ∷ t)
take_item f takes a c x t m k ks ts p formed inner clean =
    take_spaces a m k ks ts p (form_text f ++ (spaces c ++ x ∷ t)) (λ q. inner_space m k ks ts q inner)
    ∙ takes (spaces c ++ x ∷ t) m (k ∷ ks) ts (p + a) formed (inner_begins m inner) (clean_spaces c x t clean)
    ∙ take_spaces c After k ks (ts ++ form_tokens (p + a) f) (p + a + length (form_text f)) (x ∷ t) (λ q. refl)

take_last : (f : Form) → TakesForm f → (a c : ℕ) → TakesItems (last a f c)
take_last f takes a c t m k ks ts p formed inner =
    let us = ts ++ form_tokens (p + a) f in
    let q = p + a + length (form_text f) + c in
    ap (outcome (scan (k ∷ ks) ts m) p)
    (append_assoc (spaces a) (form_text f ++ spaces c) (closing k ∷ t) ∙ ap (λ u. spaces a ++ u) (append_assoc (form_text f) (spaces c) (closing k ∷ t)))
    ∙ take_item f takes a c (closing k) t m k ks ts p formed inner (not_digit k)
    ∙ step_on (scan (k ∷ ks) us After) q (closing k) t (Closes k) (Some (scan ks (us ++ Close ∷ []) After)) (closes k) (closes_same k ks us)
    ∙ at_place (scan ks (us ++ Close ∷ []) After) (q + 1) (p + length (items_text (last a f c)) + 1) t
    (omega (arith, length-append (spaces a) (form_text f ++ spaces c), length-append (form_text f) (spaces c), length_spaces a, length_spaces c))

take_next : (f : Form) → TakesForm f → (is : Items) → TakesItems is → (a c : ℕ) → TakesItems (next a f c is)
take_next f takes is items a c t m k ks ts p formed inner =
    let both = both_true (is_form f) (are_forms is) formed in
    let us = ts ++ form_tokens (p + a) f in
    let q = p + a + length (form_text f) + c in
    let vs = items_tokens (q + 1) is in
    ap (outcome (scan (k ∷ ks) ts m) p)
    (append_assoc (spaces a) (form_text f ++ (spaces c ++ 44 ∷ items_text is)) (closing k ∷ t)
    ∙ ap (λ u. spaces a ++ u) (append_assoc (form_text f) (spaces c ++ 44 ∷ items_text is) (closing k ∷ t)
    ∙ ap (λ u. form_text f ++ u) (append_assoc (spaces c) (44 ∷ items_text is) (closing k ∷ t))))
    ∙ take_item f takes a c 44 (items_text is ++ closing k ∷ t) m k ks ts p both.0 inner refl
    ∙ step_on (scan (k ∷ ks) us After) q 44 (items_text is ++ closing k ∷ t) Comma (Some (scan (k ∷ ks) us Next)) refl refl
    ∙ items t Next k ks us (q + 1) both.1 refl
    ∙ ap (λ xs. outcome (scan ks (xs ++ Close ∷ []) After) (q + 1 + length (items_text is) + 1) t) (append_assoc ts (form_tokens (p + a) f) vs)
    ∙ at_place (scan ks (ts ++ items_tokens p (next a f c is) ++ Close ∷ []) After) (q + 1 + length (items_text is) + 1) (p + length (items_text (next a f c is)) + 1) t
    (omega (
      arith,
      length-append (spaces a) (form_text f ++ (spaces c ++ 44 ∷ items_text is)),
      length-append (form_text f) (spaces c ++ 44 ∷ items_text is),
      length-append (spaces c) (44 ∷ items_text is),
      length_spaces a,
      length_spaces c,
    ))

mutual
  take_form : (f : Form) → TakesForm f
  take_form (number ds) = λ t m ks ts p formed begins clean. take_number ds t m ks ts p formed begins clean
  take_form (empty b n) = λ t m ks ts p formed begins clean. take_empty b n t m ks ts p begins
  take_form (group b is) = take_group b is (take_items is)

  take_items : (is : Items) → TakesItems is
  take_items (last a f c) = take_last f (take_form f) a c
  take_items (next a f c is) = take_next f (take_form f) is (take_items is) a c

-- the reader takes the whole text of a form
pub taken : (f : Form) → IsTrue (is_form f) → outcome started 0 (form_text f) ≡ Some (form_tokens 0 f)
taken f formed = ap (outcome started 0) (sym (append-nil (form_text f))) ∙ take_form f [] Start [] [] 0 formed refl tt
