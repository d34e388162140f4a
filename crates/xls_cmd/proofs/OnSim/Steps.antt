-- The steps of the command, one after the other.
use Rattle.std.proofs.Common.{◌≡◌, ◌≤◌, ℕ, Bool, true, false, List, Result, Ok, Err, refl, sym, ap, ◌∙◌, subst, nat_lt}
use Rattle.std.specs.Prelude.{if◌then◌else◌}
use Rattle.std.specs.Str.{is_utf8}
use Rattle.std.specs.Str.Lossy.{utf8_valid_len}
use Rattle.std.specs.Borrow.{Bor}
use Rattle.std.proofs.lemmas.Bool.{ltb-false}
use Rattle.xb_io.specs.Contents.{Contents}
use Rattle.xb_span.specs.declared.read_error.ReadError.{ReadError}
use Rattle.xb_span.specs.declared.read_error.ReadError.TheVariants.{Syntax, Broken, Over, OutOfMemory}
use Rattle.xls_cmd.specs.declared.shared.fault.Fault.TheVariants.{Text, Input}
use Rattle.xls_cmd.specs.Shared.Done.{RefusesFor, StopsBy, text_refusal}
use Rattle.xls_cmd.specs.Shared.Fault.{Fault}
use Rattle.xls_cmd.specs.Shared.Loads.{Loads, OfText, accepts, text_of}
use Rattle.xls_cmd.specs.Shared.Step.{Gives, IsOne, Then, goes_on}
use Rattle.xls_cmd.proofs.Lemmas.Shared.{gives_is_one, loads_is_one, of_text_is_one, stops_at_text, stops_in_next, then_is_one}
use Rattle.cmd_line.specs.declared.request.Sim.{Sim}
use Rattle.vlog_tree.specs.declared.module.VModule.{VModule}
use Rattle.vlog_tree.specs.declared.row.Row.{Row}
use Rattle.vlog_text.specs.Reader.Given.{GivesModule, IsRefusal}
use Rattle.cycle_sim.specs.Rows.Forms.{most_rows}
use Rattle.cycle_sim.specs.Rows.RowFile.{Reads, RowLines, all_rows, count_rows, cycles_limit, limited}
use Rattle.cycle_sim.specs.declared.rows.refusal.RowError.{RowError}
use Rattle.cycle_sim.specs.declared.rows.refusal.RowError.TheVariants as refused
use Rattle.cycle_sim.specs.declared.rows.rows.Repeated.{Repeated}
use Rattle.cycle_sim.specs.Cycles.Simulated.{IsSimulated}
use Rattle.xls_cmd.specs.Sim.Simulation.{ReadsModule, ReadsRows, Simulates, at_fault, says, shows, sim, sim_texts, too_many}

-- ---- reading a module

text_case : (name bytes text : List ℕ) (b : Bool) → ◌≡◌ {A = Result (List ℕ) Fault} (Ok text) (if b then Ok bytes else Err (Text name (Syntax (utf8_valid_len bytes)))) → text ≡ bytes
text_case name bytes text true e = cc
text_case name bytes text false e = absurd (cc)

-- a text is the bytes of its file
pub text_is_bytes : (name bytes text : List ℕ) → Ok text ≡ text_of name bytes → text ≡ bytes
text_is_bytes name bytes text e = text_case name bytes text (is_utf8 bytes) e

pub is_read : (name bytes text : List ℕ) (m : VModule) → Ok text ≡ text_of name bytes → GivesModule text (Ok m) → ReadsModule name bytes (Ok m)
is_read name bytes text m found is = goes_on text (Ok m) found (accepts m is)

refuses : (text : List ℕ) (e : ReadError) → IsRefusal text e → RefusesFor (GivesModule text) e
refuses text (Syntax at) is = is
refuses text (Broken rule span) is = is
refuses text (Over limit) is = is
refuses text OutOfMemory is = tt

pub stops_at_module : (name : Bor (List ℕ)) (bytes text : List ℕ) (e : ReadError) → Ok text ≡ text_of name.now bytes → IsRefusal text e → StopsBy (ReadsModule name.now bytes) (text_refusal name e)
stops_at_module name bytes text e found is =
    stops_in_next (Gives (text_of name.now bytes)) (λ t. OfText name.now (GivesModule t)) text (text_refusal name e) found
    (stops_at_text name (GivesModule text) e (refuses text e is))

-- ---- rows

-- rows that are read are no more than a file may have
few_of : (b : Bool) (xs ys : List Repeated) → nat_lt most_rows (count_rows xs) ≡ b → ◌≡◌ {A = Result (List Repeated) RowError} (Ok ys) (if b then Err (refused.Over cycles_limit) else Ok xs) → count_rows ys ≤ most_rows
few_of true xs ys t e = absurd (cc)
few_of false xs ys t e =
    let same : ys ≡ xs = cc in
    subst (λ zs. count_rows zs ≤ most_rows) (sym same) (ltb-false most_rows (count_rows xs) t)

few_by : (lines : RowLines) (ys : List Repeated) → ◌≡◌ {A = Result (List Repeated) RowError} (Ok ys) (limited lines) → count_rows ys ≤ most_rows
few_by (Ok xs) ys e = few_of (nat_lt most_rows (count_rows xs)) xs ys refl e
few_by (Err x) ys e = absurd (cc)

pub few_rows : (m : VModule) (file : List ℕ) (rows : List Repeated) → Reads m file (Ok rows) → count_rows rows ≤ most_rows
few_rows m file rows is = few_by is.lines rows is.is

-- ---- one answer

abbrev pub OneModule : Type 0
OneModule = (text : List ℕ) (a b : Result VModule ReadError) → GivesModule text a → GivesModule text b → a ≡ b

abbrev pub OneReading : Type 0
OneReading = (m : VModule) (text : List ℕ) (a b : Result (List Repeated) RowError) → Reads m text a → Reads m text b → a ≡ b

abbrev pub OneText : Type 0
OneText = (m : VModule) (rows : List Row) (a b : List ℕ) → IsSimulated m rows a → IsSimulated m rows b → a ≡ b

module_is_one : OneModule → (name bytes : List ℕ) → IsOne (ReadsModule name bytes)
module_is_one law name bytes =
    then_is_one (Gives (text_of name bytes)) (λ text. OfText name (GivesModule text)) (gives_is_one (text_of name bytes)) (λ text. of_text_is_one name (GivesModule text) (law text))

-- what is answered for a row file
abbrev row_answer : List ℕ → Result (List Repeated) RowError → Result (List Repeated) Fault
row_answer name (Ok rows) = Ok rows
row_answer name (Err (refused.Input cause at)) = Err (Input name cause at)
row_answer name (Err (refused.Over limit)) = Err (Text name (Over limit))
row_answer name (Err refused.OutOfMemory) = Err (Text name OutOfMemory)

record IsAnswerTo (name file : List ℕ) (m : VModule) (given : Result (List Repeated) Fault) : Type 0 where
  read : Result (List Repeated) RowError
  reads : Reads m file read
  is : given ≡ row_answer name read

answered : (name file : List ℕ) (m : VModule) (given : Result (List Repeated) Fault) → ReadsRows name file m given → IsAnswerTo name file m given
answered name file m _ (says rows r) = record { read = Ok rows; reads = r; is = refl }
answered name file m _ (at_fault cause at r) = record { read = Err (refused.Input cause at); reads = r; is = refl }
answered name file m _ (too_many limit r) = record { read = Err (refused.Over limit); reads = r; is = refl }

rows_are_one : OneReading → (name file : List ℕ) (m : VModule) → IsOne (ReadsRows name file m)
rows_are_one law name file m a b x y =
    let one = answered name file m a x in
    let other = answered name file m b y in
    one.is ∙ ap (row_answer name) (law m file one.read other.read one.reads other.reads) ∙ sym other.is

simulation_is_one : OneText → (m : VModule) (rows : List Repeated) → IsOne (Simulates m rows)
simulation_is_one law m rows a b (shows text is) (shows other also) = ap Ok (law m (all_rows rows) text other is also)

texts_are_one : OneModule → OneReading → OneText → (arguments : Sim (List ℕ)) (design rows : List ℕ) → IsOne (sim_texts arguments design rows)
texts_are_one modules readings texts arguments design rows =
    then_is_one (ReadsModule arguments.design design) (λ m. Then (ReadsRows arguments.rows rows m) (λ listed. Simulates m listed)) (module_is_one modules arguments.design design)
    (λ m. then_is_one (ReadsRows arguments.rows rows m) (λ listed. Simulates m listed) (rows_are_one readings arguments.rows rows m) (λ listed. simulation_is_one texts m listed))

pub sim_is_one : OneModule → OneReading → OneText → (holds : Contents) (arguments : Sim (List ℕ)) → IsOne (sim holds arguments)
sim_is_one modules readings texts holds arguments =
    then_is_one (Loads holds arguments.design) (λ design. Then (Loads holds arguments.rows) (λ rows. sim_texts arguments design rows)) (loads_is_one holds arguments.design)
    (λ design. then_is_one (Loads holds arguments.rows) (λ rows. sim_texts arguments design rows) (loads_is_one holds arguments.rows) (λ rows. texts_are_one modules readings texts arguments design rows))
