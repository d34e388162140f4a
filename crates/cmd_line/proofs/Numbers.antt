-- A number of the command line.
use Rattle.std.proofs.Common.{◌≡◌, ◌<◌, ◌≤◌, ◌⊎◌, inl, inr, ℕ, List, Bool, true, false, Some, None, Result, Ok, Err, refl, sym, ap, ◌∙◌, arith}
use Rattle.std.specs.Prelude.{if◌then◌else◌}
use Rattle.std.specs.Str.Parse.{ParsesUnsigned, IsNumeral, digits_value, without_leading_plus}
use Rattle.clap.specs.Words.{Accepts}
use Rattle.clap.specs.ValueTests.{is_unsigned_in}
use Rattle.clap.specs.declared.builder.ValueParser.TheVariants as vp
use Rattle.clap.proofs.ValueTestLemmas.{accepts-Accepts, Accepts-accepts}
use Rattle.cmd_line.specs.CommandLine.{number_in}

at_test : (least most : ℕ) (text : List ℕ) (t : Bool) → is_unsigned_in least most text ≡ t → number_in least most text ≡ (if t then Some (digits_value 10 (without_leading_plus text)) else None)
at_test least most text t e = ap (λ test. if test then Some (digits_value 10 (without_leading_plus text)) else None) e

no_number : (least most : ℕ) (text : List ℕ) → (Accepts false (vp.Unsigned least most) text → ⊥) → None ≡ number_in least most text
no_number least most text none = by_case (is_unsigned_in least most text) refl
  where
    by_case : (t : Bool) → is_unsigned_in least most text ≡ t → None ≡ number_in least most text
    by_case true e = absurd (none (accepts-Accepts false (vp.Unsigned least most) text e))
    by_case false e = sym (at_test least most text false e)

module _ {E : Type 0} where
  parsed : (text : List ℕ) (r : Result ℕ E) (n : ℕ) → ParsesUnsigned 32 10 text r → r ≡ Ok n → IsNumeral 10 (without_leading_plus text) × (n ≡ digits_value 10 (without_leading_plus text))
  parsed text (Ok x) n is e =
      let same : x ≡ n = cc in
      (is.0.0, sym same ∙ is.1)
  parsed text (Err x) n is e = absurd (let bad : ◌≡◌ {A = Result ℕ E} (Err x) (Ok n) = e in cc)

  pub number_read : (least most : ℕ) (text : List ℕ) (r : Result ℕ E) (n : ℕ) → ParsesUnsigned 32 10 text r → r ≡ Ok n → n < 4294967296 → least ≤ n → n ≤ most → Some n ≡ number_in least most text
  number_read least most text r n is e fits low high =
      let p = parsed text r n is e in
      let test = Accepts-accepts false (vp.Unsigned least most) text (p.0, omega (arith, p.1), omega (arith, p.1), omega (arith, p.1)) in
      ap Some p.1 ∙ sym (at_test least most text true test)

  pub number_out : (least most : ℕ) (text : List ℕ) (r : Result ℕ E) (n : ℕ) → ParsesUnsigned 32 10 text r → r ≡ Ok n → ((n < least) ⊎ (most < n)) → None ≡ number_in least most text
  number_out least most text r n is e out =
      let p = parsed text r n is e in
      no_number least most text (λ a. elim out [ inl low ↦ omega (arith, a.2, p.1) | inr high ↦ omega (arith, a.3, p.1) ])

  pub number_none : (least most : ℕ) (text : List ℕ) (r : Result ℕ E) (x : E) → ParsesUnsigned 32 10 text r → r ≡ Err x → most < 4294967296 → None ≡ number_in least most text
  number_none least most text (Ok n) x is e fits = absurd (let bad : ◌≡◌ {A = Result ℕ E} (Ok n) (Err x) = e in cc)
  number_none least most text (Err y) x is e fits = no_number least most text (λ a. is (a.0, omega (arith, a.3)))
