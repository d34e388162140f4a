-- The steps of the commands, one after the other.
use Rattle.std.proofs.Common.{◌≡◌, ◌⊎◌, inl, inr, ℕ, Bool, true, false, List, Result, Ok, Err}
use Rattle.std.specs.Prelude.{if◌then◌else◌}
use Rattle.std.specs.Str.{is_utf8}
use Rattle.std.specs.Str.Lossy.{utf8_valid_len}
use Rattle.std.specs.Borrow.{Bor}
use Rattle.xb_io.specs.Contents.{Contents}
use Rattle.xb_span.specs.declared.read_error.ReadError.{ReadError}
use Rattle.xb_span.specs.declared.read_error.ReadError.TheVariants.{Syntax, Broken, Over, OutOfMemory}
use Rattle.net_core.specs.declared.net.Net.{Net}
use Rattle.net_core.specs.declared.net.Inputs.{Inputs}
use Rattle.xls_cmd.specs.declared.shared.fault.Fault.TheVariants.{Text}
use Rattle.xls_cmd.specs.Shared.Done.{RefusesFor, StopsBy, text_refusal}
use Rattle.xls_cmd.specs.Shared.Fault.{Fault}
use Rattle.xls_cmd.specs.Shared.Loads.{Loads, OfText, accepts, text_of}
use Rattle.xls_cmd.specs.Shared.Step.{Gives, IsOne, Then, goes_on}
use Rattle.xls_cmd.proofs.Lemmas.Shared.{gives_is_one, loads_is_one, of_text_is_one, stops_at_text, stops_in_next, then_is_one}
use Rattle.cmd_line.specs.declared.request.Run.{Run}
use Rattle.xls_cmd.specs.Design.Commands.{ReadsInputs}
use Rattle.xls_cmd.specs.Design.Written.{depths_by, run_text}
use Rattle.ir_tree.specs.declared.package.Package.{Package}
use Rattle.ir_tree.specs.Networks.{network_of, behaviors_of}
use Rattle.ir_text.specs.Parser.Texts.{GivesPackage}
use Rattle.xls_cmd.specs.Ir.Commands.{ReadsPackage, run_texts}

-- ---- reading a package

text_case : (name bytes text : List ℕ) (b : Bool) → ◌≡◌ {A = Result (List ℕ) Fault} (Ok text) (if b then Ok bytes else Err (Text name (Syntax (utf8_valid_len bytes)))) → text ≡ bytes
text_case name bytes text true e = cc
text_case name bytes text false e = absurd (cc)

-- a text is the bytes of its file
pub text_is_bytes : (name bytes text : List ℕ) → Ok text ≡ text_of name bytes → text ≡ bytes
text_is_bytes name bytes text e = text_case name bytes text (is_utf8 bytes) e

pub package_read : (name bytes text : List ℕ) (ir : Package) → Ok text ≡ text_of name bytes → GivesPackage text (Ok ir) → ReadsPackage name bytes (Ok ir)
package_read name bytes text ir found gives = goes_on text (Ok ir) found (accepts ir gives)

refuses : (text : List ℕ) (e : ReadError) → (e ≡ OutOfMemory) ⊎ GivesPackage text (Err e) → RefusesFor (GivesPackage text) e
refuses text (Syntax at) (inl memory) = absurd (cc)
refuses text (Syntax at) (inr gives) = gives
refuses text (Broken rule span) (inl memory) = absurd (cc)
refuses text (Broken rule span) (inr gives) = gives
refuses text (Over limit) (inl memory) = absurd (cc)
refuses text (Over limit) (inr gives) = gives
refuses text OutOfMemory either = tt

pub stops_at_package : (name : Bor (List ℕ)) (bytes text : List ℕ) (e : ReadError) → Ok text ≡ text_of name.now bytes → (e ≡ OutOfMemory) ⊎ GivesPackage text (Err e) → StopsBy (ReadsPackage name.now bytes) (text_refusal name e)
stops_at_package name bytes text e found either =
    stops_in_next (Gives (text_of name.now bytes)) (λ t. OfText name.now (GivesPackage t)) text (text_refusal name e) found
    (stops_at_text name (GivesPackage text) e (refuses text e either))

-- ---- one answer

abbrev pub OnePackage : Type 0
OnePackage = (text : List ℕ) (a b : Result Package ReadError) → GivesPackage text a → GivesPackage text b → a ≡ b

abbrev pub OneInput : Type 0
OneInput = (name file : List ℕ) (net : Net) → IsOne (ReadsInputs name file net)

package_is_one : OnePackage → (name bytes : List ℕ) → IsOne (ReadsPackage name bytes)
package_is_one law name bytes =
    then_is_one (Gives (text_of name bytes)) (λ text. OfText name (GivesPackage text)) (gives_is_one (text_of name bytes)) (λ text. of_text_is_one name (GivesPackage text) (law text))

-- what stands behind the network's inputs
abbrev pub shown_by : Run (List ℕ) → Package → Inputs → Result (List ℕ) Fault
shown_by arguments ir words = Ok (run_text (network_of ir) (behaviors_of ir) words arguments.how.activations (depths_by arguments.how.depth (network_of ir)))

pub texts_are_one : OnePackage → OneInput → (arguments : Run (List ℕ)) (design inputs : List ℕ) → IsOne (run_texts arguments design inputs)
texts_are_one law one_input arguments design inputs =
    then_is_one (ReadsPackage arguments.design design) (λ ir. Then (ReadsInputs arguments.inputs inputs (network_of ir)) (λ words. Gives (shown_by arguments ir words)))
    (package_is_one law arguments.design design)
    (λ ir. then_is_one (ReadsInputs arguments.inputs inputs (network_of ir)) (λ words. Gives (shown_by arguments ir words))
    (one_input arguments.inputs inputs (network_of ir)) (λ words. gives_is_one (shown_by arguments ir words)))
