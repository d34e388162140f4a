-- The first steps of every command: a file's bytes, the text that they are, and what its reader gives.
use Rattle.std.specs.Prelude.{◌≡◌, ◌<◌, ◌≤◌, ℕ, List, length, Some, Result, Ok, Err, if◌then◌else◌}
use Rattle.std.specs.Str.{is_utf8}
use Rattle.std.specs.Str.Lossy.{utf8_valid_len}
use Rattle.xb_io.specs.Contents.{Contents}
use Rattle.xb_io.specs.declared.files.TheConstants.{FILE_LIMIT}
use Rattle.xb_span.specs.declared.read_error.ReadError.{ReadError}
use Rattle.xb_span.specs.declared.read_error.ReadError.TheVariants.{Syntax}
use Rattle.xls_cmd.specs.declared.shared.fault.Fault.TheVariants.{TooBig, Text}
use Rattle.xls_cmd.specs.Shared.Fault.{Fault}

-- The file of that name is loaded, where there is one; no file is a fault of the outside.
pub data Loads (holds : Contents) (name : List ℕ) : Result (List ℕ) Fault → Type 0 where
  whole : (bytes : List ℕ) → holds name ≡ Some bytes → length bytes ≤ FILE_LIMIT → Loads holds name (Ok bytes)
  past_limit : (bytes : List ℕ) → holds name ≡ Some bytes → FILE_LIMIT < length bytes → Loads holds name (Err (TooBig name))

-- a file's bytes as a text, which is UTF-8
abbrev pub text_of : List ℕ → List ℕ → Result (List ℕ) Fault
text_of name bytes = if is_utf8 bytes then Ok bytes else Err (Text name (Syntax (utf8_valid_len bytes)))

-- What a reader gives of the text of this file, its refusals with the name of the file.
pub data OfText {A : Type 0} (name : List ℕ) (reader : Result A ReadError → Type 0) : Result A Fault → Type 0 where
  accepts : (x : A) → reader (Ok x) → OfText name reader (Ok x)
  rejects : (error : ReadError) → reader (Err error) → OfText name reader (Err (Text name error))
