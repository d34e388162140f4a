-- What the reader's answer says of texts.
use Rattle.std.proofs.Common.{◌≡◌, ℕ, ◌+◌, ◌<◌, ◌≤◌, List, [], ◌∷◌, ◌++◌, length, length-append, take, drop, get_or, map, append_assoc, append-nil, true, false, IsTrue, Option, Some, None, refl, sym, ap, subst, ◌∙◌, arith}
use Rattle.std.proofs.lemmas.List.{take_more, length-take-le, take-append-drop}
use Rattle.std.proofs.Math.Seq.{take-length}
use Rattle.base.specs.Lists.Fault.{IsViablePrefix, IsFirstFault}
use Rattle.xb_value.specs.declared.token.Bracket.{Bracket}
use Rattle.xb_value.specs.declared.token.Token.{Token}
use Rattle.xb_value.specs.declared.token.Token.TheVariants.{Number, Close}
use Rattle.xb_value.specs.declared.scan.Class.TheVariants.{Closes}
use Rattle.xb_value.specs.declared.scan.Mode.{Mode}
use Rattle.xb_value.specs.declared.scan.Mode.TheVariants.{Start, First, Next, Zero, Hex, Digits, After}
use Rattle.xb_value.specs.Form.{Form, form_text, form_tokens, is_form, closing, IsValueText, Spells}
use Rattle.xb_value.specs.Inner.Scanner.{class_of, Scan, scan, step, ended, started}
use Rattle.xb_value.specs.Inner.ScannerState.{Stepped}
use Rattle.xb_value.proofs.Found.{outcome, and_then, Ends, found}
use Rattle.xb_value.proofs.Taken.{Clean, step_on, closes, closes_same, not_digit, number_done, taken}

-- ---- every state goes on to some end

close_all : (ks : List Bracket) (ts : List Token) (p : ℕ) → Ends (scan ks ts After) p (map closing ks)
close_all [] ts p = (ts, refl)
close_all (k ∷ ks) ts p =
    let later = close_all ks (ts ++ Close ∷ []) (p + 1) in
    (later.0, step_on (scan (k ∷ ks) ts After) p (closing k) (map closing ks) (Closes k) (Some (scan ks (ts ++ Close ∷ []) After)) (closes k) (closes_same k ks ts) ∙ later.1)

clean_closings : (ks : List Bracket) → Clean (map closing ks)
clean_closings [] = tt
clean_closings (k ∷ ks) = not_digit k

from_digits : (ks : List Bracket) (ts : List Token) (at n v p : ℕ) → Ends (scan ks ts (Digits at n v)) p (map closing ks)
from_digits ks ts at n v p =
    let later = close_all ks (ts ++ Number at v ∷ []) p in
    (later.0, number_done (map closing ks) ks ts at n v p (clean_closings ks) ∙ later.1)

from_hex : (ks : List Bracket) (ts : List Token) (at p : ℕ) → Ends (scan ks ts (Hex at)) p (48 ∷ map closing ks)
from_hex ks ts at p = from_digits ks ts at 1 0 (p + 1)

from_zero : (ks : List Bracket) (ts : List Token) (at p : ℕ) → Ends (scan ks ts (Zero at)) p (120 ∷ 48 ∷ map closing ks)
from_zero ks ts at p = from_hex ks ts at (p + 1)

-- a text that ends what is open
some_end : (m : Mode) (ks : List Bracket) (ts : List Token) (p : ℕ) → (t : List ℕ) × Ends (scan ks ts m) p t
some_end Start ks ts p = (48 ∷ 120 ∷ 48 ∷ map closing ks, from_zero ks ts p (p + 1))
some_end First ks ts p = (48 ∷ 120 ∷ 48 ∷ map closing ks, from_zero ks ts p (p + 1))
some_end Next ks ts p = (48 ∷ 120 ∷ 48 ∷ map closing ks, from_zero ks ts p (p + 1))
some_end (Zero at) ks ts p = (120 ∷ 48 ∷ map closing ks, from_zero ks ts at p)
some_end (Hex at) ks ts p = (48 ∷ map closing ks, from_hex ks ts at p)
some_end (Digits at n v) ks ts p = (map closing ks, from_digits ks ts at n v p)
some_end After ks ts p = (map closing ks, close_all ks ts p)

-- ---- what has been read

-- the reader stands in the state `s` behind the text
abbrev pub StandsBehind : Scan → List ℕ → Type 0
StandsBehind s t = (rest : List ℕ) → outcome started 0 (t ++ rest) ≡ outcome s (length t) rest

pub stands_begins : (s : Scan) (t : List ℕ) → StandsBehind s t → IsViablePrefix IsValueText t
stands_begins s t stands =
    let more = some_end s.mode s.stack s.tokens (length t) in
    let whole = found (t ++ more.0) (more.1.0, stands more.0 ∙ more.1.1) in
    (more.0, whole)

pub refused_never : (s : Scan) (t : List ℕ) (b : ℕ) → StandsBehind s t → step s (length t) (class_of b) ≡ None → IsViablePrefix IsValueText (t ++ b ∷ []) → ⊥
refused_never s t b stands refused (rest, whole) =
    let read : Some (form_tokens 0 whole.0) ≡ None =
    sym (taken whole.0 whole.1) ∙ ap (outcome started 0) (whole.2 ∙ append_assoc t (b ∷ []) rest) ∙ stands (b ∷ rest)
    ∙ ap (and_then (λ u. outcome u (length t + 1) rest)) refused in
    absurd (cc)

pub stands_more : (s u : Scan) (t : List ℕ) (b : ℕ) → StandsBehind s t → step s (length t) (class_of b) ≡ Some u → StandsBehind u (t ++ b ∷ [])
stands_more s u t b stands went rest =
    ap (outcome started 0) (append_assoc t (b ∷ []) rest) ∙ stands (b ∷ rest)
    ∙ ap (and_then (λ w. outcome w (length t + 1) rest)) went
    ∙ ap (λ p. outcome u p rest) (sym (length-append t (b ∷ [])))

pub stands_none : StandsBehind started []
stands_none rest = refl

at_end : (s : Scan) (t : List ℕ) → StandsBehind s t → outcome started 0 t ≡ ended s
at_end s t stands = ap (outcome started 0) (sym (append-nil t)) ∙ stands []

pub ended_spells : (s : Scan) (t : List ℕ) (us : List Token) → StandsBehind s t → ended s ≡ Some us → Spells t us
ended_spells s t us stands end =
    let whole = found t (us, at_end s t stands ∙ end) in
    let same : Some (form_tokens 0 whole.0) ≡ Some us = sym (taken whole.0 whole.1) ∙ ap (outcome started 0) whole.2 ∙ at_end s t stands ∙ end in
    (whole.0, whole.1, whole.2, (cc))

pub unended_none : (s : Scan) (t : List ℕ) → StandsBehind s t → ended s ≡ None → (f : Form) → IsTrue (is_form f) → form_text f ≡ t → ⊥
unended_none s t stands end f formed is =
    let read : Some (form_tokens 0 f) ≡ None = sym (taken f formed) ∙ ap (outcome started 0) is ∙ at_end s t stands ∙ end in
    absurd (cc)

-- ---- where the reading stops

pub stepped_refused : (r : Option Scan) (t : Scan) → Stepped r false t → r ≡ None
stepped_refused None t h = refl
stepped_refused (Some s) t h = absurd h

pub stepped_went : (r : Option Scan) (t : Scan) → Stepped r true t → r ≡ Some t
stepped_went None t h = absurd h
stepped_went (Some s) t h = ap Some (sym h)

prefix_length : (t : List ℕ) (i : ℕ) → i ≤ length t → length (take i t) ≡ i
prefix_length t i h = length-take-le i t h

-- a byte behind the front, by its place
step_at : (s : Scan) (t : List ℕ) (i b : ℕ) (r : Option Scan) → i ≤ length t → step s i (class_of b) ≡ r → step s (length (take i t)) (class_of b) ≡ r
step_at s t i b r h e = ap (λ p. step s p (class_of b)) (prefix_length t i h) ∙ e

pub fault_at : (s : Scan) (t : List ℕ) (i b : ℕ) → i < length t → b ≡ get_or t i 0 → StandsBehind s (take i t) → step s i (class_of b) ≡ None → IsFirstFault IsValueText t i
fault_at s t i b h is stands refused =
    let front : take (i + 1) t ≡ take i t ++ b ∷ [] = take_more t i 0 h ∙ ap (λ c. take i t ++ c ∷ []) (sym is) in
    let never : IsViablePrefix IsValueText (take (i + 1) t) → ⊥ =
    subst (λ u. IsViablePrefix IsValueText u → ⊥) (sym front) (refused_never s (take i t) b stands (step_at s t i b None (omega arith) refused)) in
    record {
      within = omega arith;
      before = stands_begins s (take i t) stands;
      never = λ _. never;
      none = λ r. never (drop (i + 1) t, (r.0, r.1, r.2 ∙ sym (take-append-drop (i + 1) t)));
    }

pub stands_next : (s u : Scan) (t : List ℕ) (i b : ℕ) → i < length t → b ≡ get_or t i 0 → StandsBehind s (take i t) → step s i (class_of b) ≡ Some u → StandsBehind u (take (i + 1) t)
stands_next s u t i b h is stands went =
    let front : take (i + 1) t ≡ take i t ++ b ∷ [] = take_more t i 0 h ∙ ap (λ c. take i t ++ c ∷ []) (sym is) in
    subst (StandsBehind u) (sym front) (stands_more s u (take i t) b stands (step_at s t i b (Some u) (omega arith) went))

take_whole : (t : List ℕ) (i : ℕ) → length t ≤ i → i ≤ length t → take i t ≡ t
take_whole t i h k = let same : i ≡ length t = omega arith in ap (λ j. take j t) same ∙ take-length t

pub fault_at_end : (s : Scan) (t : List ℕ) (i : ℕ) → length t ≤ i → i ≤ length t → StandsBehind s (take i t) → ended s ≡ None → IsFirstFault IsValueText t i
fault_at_end s t i h k stands end =
    let whole : take i t ≡ t = take_whole t i h k in
    record {
      within = k;
      before = stands_begins s (take i t) stands;
      never = λ less. absurd (omega arith);
      none = λ r. unended_none s t (subst (StandsBehind s) whole stands) end r.0 r.1 r.2;
    }

pub spelled_at_end : (s : Scan) (t : List ℕ) (i : ℕ) (us : List Token) → length t ≤ i → i ≤ length t → StandsBehind s (take i t) → ended s ≡ Some us → Spells t us
spelled_at_end s t i us h k stands end =
    let whole : take i t ≡ t = take_whole t i h k in
    ended_spells s t us (subst (StandsBehind s) whole stands) end
