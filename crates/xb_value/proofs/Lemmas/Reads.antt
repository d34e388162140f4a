-- What texts say: one thing at a type, and a value of it.
use Rattle.std.specs.Char.{is_ascii_hexdigit}
use Rattle.std.specs.List.{list_all}
use Rattle.std.specs.Str.{IsAscii}
use Rattle.std.proofs.lemmas.Bool.Decides.{nat_tests}
use Rattle.std.proofs.lemmas.Str.{IsAscii-append}
use Rattle.std.proofs.lemmas.Str.Ascii.{IsAscii-nil}
use Rattle.std.proofs.Common.{◌≡◌, ℕ, zero, suc, ◌<◌, List, [], ◌∷◌, ◌++◌, Result, Ok, Err, IsTrue, sym, ap, subst, refl, ◌∙◌, arith}
use Rattle.xb_value.specs.declared.token.Bracket.{Bracket}
use Rattle.xb_value.specs.declared.token.Bracket.TheVariants.{Round, Square}
use Rattle.xb_value.specs.declared.token.Token.{Token}
use Rattle.xb_value.specs.declared.ty.Ty.{Ty}
use Rattle.xb_value.specs.declared.value.Value.{Value}
use Rattle.xb_value.specs.Form.{Form, Items, number, empty, group, last, next, form_text, form_tokens, items_text, is_form, are_forms, opening, closing, spaces, Spells}
use Rattle.xb_value.specs.Reads.{Reads}
use Rattle.xb_value.specs.Misfit.{Misfits}
use Rattle.xb_value.specs.Inner.Reading.{reading}
use Rattle.xb_value.specs.Typing.{IsOfType}
use Rattle.xb_value.proofs.ReadSays.{reading_said}
use Rattle.xb_value.proofs.ReadTyped.{spells_one, misfit_read}
use Rattle.xb_value.proofs.Widths.{both_true}

-- a text that reads as a value, or misfits, is a value text
pub Reads-spells : (text : List ℕ) (t : Ty) (v : Value) → Reads text t v → (ts : List Token) × Spells text ts
Reads-spells text t v r = (r.0, r.1)

pub Misfits-spells : (text : List ℕ) (t : Ty) (at : ℕ) → Misfits text t at → (ts : List Token) × Spells text ts
Misfits-spells text t at m = (form_tokens 0 m.form, (m.form, m.formed, m.spells, refl))

-- one value, one place, and not both
pub Reads-unique : (text : List ℕ) (t : Ty) (v w : Value) → Reads text t v → Reads text t w → v ≡ w
Reads-unique text t v w r s =
    let same = spells_one text r.0 s.0 r.1 s.1 in
    let both : ◌≡◌ {A = Result Value ℕ} (Ok v) (Ok w) = sym (reading_said t r.0 v r.2 r.3) ∙ ap (reading t) same ∙ reading_said t s.0 w s.2 s.3 in
    (cc)

pub Misfits-unique : (text : List ℕ) (t : Ty) (p q : ℕ) → Misfits text t p → Misfits text t q → p ≡ q
Misfits-unique text t p q m n =
    let same = spells_one text (form_tokens 0 m.form) (form_tokens 0 n.form) (m.form, m.formed, m.spells, refl) (n.form, n.formed, n.spells, refl) in
    let both : ◌≡◌ {A = Result Value ℕ} (Err p) (Err q) = sym (misfit_read text t p m) ∙ ap (reading t) same ∙ misfit_read text t q n in
    (cc)

pub Reads-fits : (text : List ℕ) (t : Ty) (v : Value) (at : ℕ) → Reads text t v → Misfits text t at → ⊥
Reads-fits text t v at r m =
    let same = spells_one text r.0 (form_tokens 0 m.form) r.1 (m.form, m.formed, m.spells, refl) in
    let both : ◌≡◌ {A = Result Value ℕ} (Ok v) (Err at) = sym (reading_said t r.0 v r.2 r.3) ∙ ap (reading t) same ∙ misfit_read text t at m in
    (cc)

-- the value is of the type
pub Reads-typed : (text : List ℕ) (t : Ty) (v : Value) → Reads text t v → IsOfType t v
Reads-typed text t v r = r.2

-- ---- a value text is ASCII

bytes_ascii : (bs : List ℕ) → IsTrue (list_all is_ascii_hexdigit bs) → IsAscii bs
bytes_ascii [] all i = omega arith
bytes_ascii (b ∷ bs) all zero = let h : IsTrue (is_ascii_hexdigit b) = (both_true (is_ascii_hexdigit b) (list_all is_ascii_hexdigit bs) all).0 in grind (arith, nat_tests, h)
bytes_ascii (b ∷ bs) all (suc i) = bytes_ascii bs (both_true (is_ascii_hexdigit b) (list_all is_ascii_hexdigit bs) all).1 i

spaces_ascii : (k : ℕ) → IsAscii (spaces k)
spaces_ascii zero i = omega arith
spaces_ascii (suc k) zero = omega arith
spaces_ascii (suc k) (suc i) = spaces_ascii k i

one_ascii : (b : ℕ) (bs : List ℕ) → b < 128 → IsAscii bs → IsAscii (b ∷ bs)
one_ascii b bs h all zero = h
one_ascii b bs h all (suc i) = all i

opening_ascii : (b : Bracket) → opening b < 128
opening_ascii Round = omega arith
opening_ascii Square = omega arith

closing_ascii : (b : Bracket) → IsAscii (closing b ∷ [])
closing_ascii Round = one_ascii 41 [] (omega arith) IsAscii-nil
closing_ascii Square = one_ascii 93 [] (omega arith) IsAscii-nil

mutual
  form_ascii : (f : Form) → IsTrue (is_form f) → IsAscii (form_text f)
  form_ascii (number ds) h =
      let digits = (both_true _ _ (both_true _ _ h).0).0 in
      one_ascii 48 (120 ∷ ds) (omega arith) (one_ascii 120 ds (omega arith) (bytes_ascii ds digits))
  form_ascii (empty b k) h = one_ascii (opening b) _ (opening_ascii b) (IsAscii-append (spaces k) (closing b ∷ []) (spaces_ascii k) (closing_ascii b))
  form_ascii (group b is) h = one_ascii (opening b) _ (opening_ascii b) (IsAscii-append (items_text is) (closing b ∷ []) (items_ascii is h) (closing_ascii b))

  items_ascii : (is : Items) → IsTrue (are_forms is) → IsAscii (items_text is)
  items_ascii (last k f m) h =
      IsAscii-append (spaces k) (form_text f ++ spaces m) (spaces_ascii k) (IsAscii-append (form_text f) (spaces m) (form_ascii f h) (spaces_ascii m))
  items_ascii (next k f m is) h =
      let both = both_true _ _ h in
      let behind = one_ascii 44 (items_text is) (omega arith) (items_ascii is both.1) in
      IsAscii-append (spaces k) (form_text f ++ (spaces m ++ 44 ∷ items_text is)) (spaces_ascii k)
      (IsAscii-append (form_text f) (spaces m ++ 44 ∷ items_text is) (form_ascii f both.0) (IsAscii-append (spaces m) (44 ∷ items_text is) (spaces_ascii m) behind))

pub Spells-ascii : (text : List ℕ) (ts : List Token) → Spells text ts → IsAscii text
Spells-ascii text ts s = subst IsAscii s.2 (form_ascii s.0 s.1)
