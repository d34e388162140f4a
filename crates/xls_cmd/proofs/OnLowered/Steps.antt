-- The steps of the command agree.
use Rattle.std.proofs.Common.{◌≡◌, ℕ, true, false, List, Option, Result, Ok, Err, refl, sym, ap, subst, ◌∙◌}
use Rattle.xb_io.specs.Contents.{Contents}
use Rattle.xb_span.specs.declared.read_error.ReadError.{ReadError}
use Rattle.xb_span.specs.declared.read_error.ReadError.TheVariants.{Broken, OutOfMemory, Over, Syntax}
use Rattle.dslx_meaning.specs.Network.{network_of}
use Rattle.dslx_core.specs.Designs.{core_network}
use Rattle.dslx_core.specs.declared.design.Design.{Design}
use Rattle.ir_lower.specs.Deep.{deep_limit, receives_deep}
use Rattle.ir_lower.specs.Lowered.{RefusesLowering}
use Rattle.cmd_line.specs.declared.request.Ir.{Ir as Said}
use Rattle.cmd_line.specs.declared.request.Source.{Source}
use Rattle.cmd_line.specs.declared.request.Source.TheVariants.{Dslx, Ir}
use Rattle.dslx_tree.specs.declared.item.Module.{Module}
use Rattle.ir_tree.specs.declared.package.Package.{Package}
use Rattle.ir_text.specs.Parser.Texts.{GivesPackage}
use Rattle.xls_cmd.specs.Shared.Agrees.{AreAlike, Agrees}
use Rattle.xls_cmd.specs.Shared.Fault.{Fault}
use Rattle.xls_cmd.specs.Shared.Done.{RefusesFor}
use Rattle.xls_cmd.specs.Shared.Loads.{Loads, OfText, accepts, rejects, text_of}
use Rattle.xls_cmd.specs.declared.shared.fault.Fault.TheVariants.{Text}
use Rattle.xls_cmd.specs.Shared.Step.{Gives, IsOne}
use Rattle.xls_cmd.specs.Design.Commands.{ReadsModule}
use Rattle.xls_cmd.specs.Ir.Commands.{ReadsPackage}
use Rattle.xls_cmd.specs.Lowered.Commands.{GivesPackageBy, GivesText, LowersModule, LowersText, ir_loaded, ir_of_design, lowers, too_deep, written}
use Rattle.xls_cmd.proofs.Lemmas.Shared.{gives_is_one, loads_is_one, of_text_is_one, one_agrees, then_agrees, then_alike, then_is_one}
use Rattle.xls_cmd.proofs.OnDesign.Steps.{OneModule, module_is_one}

abbrev pub OnePackage : Type 0
OnePackage = (text : List ℕ) (a b : Result Package ReadError) → GivesPackage text a → GivesPackage text b → a ≡ b

pub package_is_one : OnePackage → (name bytes : List ℕ) → IsOne (ReadsPackage name bytes)
package_is_one law name bytes =
    then_is_one (Gives (text_of name bytes)) (λ text. OfText name (GivesPackage text)) (gives_is_one (text_of name bytes)) (λ text. of_text_is_one name (GivesPackage text) (law text))

-- a text has a package, or a word that is too deep
either : (m : Module) (top : Option (List ℕ)) (x : Package) (e : ReadError) → LowersModule m top (Ok x) → LowersModule m top (Err e) → ⊥
either m top x e (lowers y shallow verified same) (too_deep deep) = let no : false ≡ true = sym shallow ∙ deep in cc

one_limit : (m : Module) (top : Option (List ℕ)) (e : ReadError) → LowersModule m top (Err e) → e ≡ Over deep_limit
one_limit m top e (too_deep deep) = refl

lowers_alike : (name : List ℕ) (m : Module) (top : Option (List ℕ)) → Agrees (OfText name (LowersModule m top))
lowers_alike name m top a b (accepts x is) (accepts y also) = tt
lowers_alike name m top a b (accepts x is) (rejects f also) = either m top x f is also
lowers_alike name m top a b (rejects e is) (accepts y also) = either m top y e also is
lowers_alike name m top a b (rejects e is) (rejects f also) = ap (Text name) (one_limit m top e is ∙ sym (one_limit m top f also))

-- the lowering of a checked text refuses as the text's does
pub refuses_lowering : (m : Module) (top : Option (List ℕ)) (design : Design) (e : ReadError) → core_network design ≡ network_of m top → RefusesLowering design e → RefusesFor (LowersModule m top) e
refuses_lowering m top design (Syntax at) network h = absurd h
refuses_lowering m top design (Broken rule span) network h = absurd h
refuses_lowering m top design (Over limit) network h = subst (λ l. LowersModule m top (Err (Over l))) (sym h.1) (too_deep (ap receives_deep (sym network) ∙ h.0))
refuses_lowering m top design OutOfMemory network h = tt

pub lowered_agrees : OneModule → (name : List ℕ) (top : Option (List ℕ)) (bytes : List ℕ) → Agrees (LowersText name top bytes)
lowered_agrees law name top bytes = then_agrees (ReadsModule name top bytes) (λ m. OfText name (LowersModule m top)) (module_is_one law name top bytes) (λ m. lowers_alike name m top)

-- a package is read or lowered
pub package_agrees : OneModule → OnePackage → (source : Source) (name : List ℕ) (top : Option (List ℕ)) (bytes : List ℕ) → Agrees (GivesPackageBy source name top bytes)
package_agrees module_law package_law Dslx name top bytes = lowered_agrees module_law name top bytes
package_agrees module_law package_law Ir name top bytes = one_agrees (ReadsPackage name bytes) (package_is_one package_law name bytes)

texts_alike : (x y : Package) (a b : Result (List ℕ) Fault) → GivesText x a → GivesText y b → AreAlike a b
texts_alike x y a b (written text is again) (written other also back) = tt

pub ir_agrees : OneModule → (holds : Contents) (arguments : Said (List ℕ)) → Agrees (ir_of_design holds arguments)
ir_agrees law holds arguments =
    then_agrees (Loads holds arguments.design) (λ bytes. ir_loaded arguments bytes) (loads_is_one holds arguments.design)
    (λ bytes. then_alike (LowersText arguments.design arguments.top bytes) (λ made. GivesText made) (lowered_agrees law arguments.design arguments.top bytes) texts_alike)
