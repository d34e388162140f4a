-- A file that is loaded, and the text that its bytes are.
use Rattle.std.proofs.Common.{◌≡◌, ◌<◌, ◌≤◌, ℕ, List, length, Bool, true, false, Option, Some, None, Ok, Err, refl, ap}
use Rattle.std.specs.Prelude.{IfSome, IsSomeAnd, if◌then◌else◌}
use Rattle.std.specs.Str.{IsUtf8, is_utf8}
use Rattle.std.specs.Str.Lossy.{utf8_valid_len}
use Rattle.std.proofs.lemmas.Str.{is_utf8-from_IsUtf8, IsUtf8-from_is_utf8}
use Rattle.xb_io.specs.Contents.{Contents}
use Rattle.xb_io.specs.declared.files.TheConstants.{FILE_LIMIT}
use Rattle.xb_span.specs.declared.read_error.ReadError.TheVariants.{Syntax}
use Rattle.xls_cmd.specs.declared.shared.fault.Fault.TheVariants.{TooBig, Text}
use Rattle.xls_cmd.specs.Shared.Loads.{Loads, whole, past_limit, text_of}

pub loaded_whole : (known_contents : Option Contents) (name bytes : List ℕ) → IfSome known_contents (λ holds. holds name ≡ Some bytes) → length bytes ≤ FILE_LIMIT → IfSome known_contents (λ holds. Loads holds name (Ok bytes))
loaded_whole None name bytes held within = tt
loaded_whole (Some holds) name bytes held within = whole bytes held within

past : (holds : Contents) (name : List ℕ) (o : Option (List ℕ)) → holds name ≡ o → IsSomeAnd o (λ bytes. FILE_LIMIT < length bytes) → Loads holds name (Err (TooBig name))
past holds name None e more = absurd more
past holds name (Some bytes) e more = past_limit bytes e more

pub loaded_past_limit : (known_contents : Option Contents) (name : List ℕ) → IfSome known_contents (λ holds. IsSomeAnd (holds name) (λ bytes. FILE_LIMIT < length bytes)) → IfSome known_contents (λ holds. Loads holds name (Err (TooBig name)))
loaded_past_limit None name more = tt
loaded_past_limit (Some holds) name more = past holds name (holds name) refl more

at_test : (name bytes : List ℕ) (t : Bool) → is_utf8 bytes ≡ t → text_of name bytes ≡ (if t then Ok bytes else Err (Text name (Syntax (utf8_valid_len bytes))))
at_test name bytes t e = ap (λ test. if test then Ok bytes else Err (Text name (Syntax (utf8_valid_len bytes)))) e

pub text_is_whole : (name bytes : List ℕ) → IsUtf8 bytes → text_of name bytes ≡ Ok bytes
text_is_whole name bytes is = at_test name bytes true (is_utf8-from_IsUtf8 bytes is)

pub text_is_odd : (name bytes : List ℕ) → ¬ IsUtf8 bytes → text_of name bytes ≡ Err (Text name (Syntax (utf8_valid_len bytes)))
text_is_odd name bytes not = by_case (is_utf8 bytes) refl
  where
    by_case : (t : Bool) → is_utf8 bytes ≡ t → text_of name bytes ≡ Err (Text name (Syntax (utf8_valid_len bytes)))
    by_case true e = absurd (not (IsUtf8-from_is_utf8 bytes e))
    by_case false e = at_test name bytes false e
