-- The steps of the commands, one after the other.
use Rattle.std.proofs.Common.{◌≡◌, ◌<◌, ◌≤◌, ◌^◌, ℕ, zero, suc, Bool, true, false, List, [], ◌∷◌, length, map, get_or, Option, Some, None, Result, Ok, Err, ap, sym, subst, ◌∙◌, arith}
use Rattle.std.specs.Prelude.{if◌then◌else◌}
use Rattle.std.specs.Str.{is_utf8}
use Rattle.std.specs.Str.Lossy.{utf8_valid_len}
use Rattle.std.specs.Borrow.{Bor}
use Rattle.std.proofs.lemmas.List.{length-map}
use Rattle.xb_io.specs.Contents.{Contents}
use Rattle.xb_span.specs.declared.read_error.ReadError.{ReadError}
use Rattle.xb_span.specs.declared.read_error.ReadError.TheVariants.{Syntax, Broken, Over, OutOfMemory}
use Rattle.net_core.specs.declared.net.Net.{Net}
use Rattle.net_core.specs.declared.net.Chan.{Chan}
use Rattle.net_core.specs.declared.net.Inputs.{Inputs}
use Rattle.net_core.specs.declared.net.Kind.{Kind}
use Rattle.net_core.specs.declared.net.Kind.TheVariants.{Input as AtInput, Output as AtOutput, Inner as AtInner}
use Rattle.net_core.specs.Behavior.{Behavior}
use Rattle.net_core.specs.Cuts.{final_cut}
use Rattle.net_core.specs.Outcomes.{outcome_of}
use Rattle.net_core.specs.WellFormed.{IsDepths, IsInputs, run_of}
use Rattle.chan_file.specs.OutcomeText.{outcome_text}
use Rattle.chan_file.specs.declared.refusal.Cause.{Cause}
use Rattle.chan_file.proofs.Lemmas.Reading.{one_reading}
use Rattle.xls_cmd.specs.declared.shared.fault.Fault.TheVariants.{Text, Input}
use Rattle.xls_cmd.specs.Shared.Done.{RefusesFor, StopsBy, text_refusal}
use Rattle.xls_cmd.specs.Shared.Fault.{Fault}
use Rattle.xls_cmd.specs.Shared.Loads.{Loads, OfText, accepts, text_of}
use Rattle.xls_cmd.specs.Shared.Step.{Gives, IsOne, Then, goes_on}
use Rattle.xls_cmd.proofs.Lemmas.Shared.{gives_is_one, loads_is_one, of_text_is_one, stops_at_text, stops_in_next, then_is_one}
use Rattle.cmd_line.specs.declared.request.Check.{Check}
use Rattle.cmd_line.specs.declared.request.How.{How}
use Rattle.cmd_line.specs.declared.request.Run.{Run}
use Rattle.dslx_tree.specs.declared.item.Module.{Module}
use Rattle.dslx_meaning.specs.Network.{behaviors_of, network_of}
use Rattle.dslx_core.specs.Designs.{core_behaviors, core_network}
use Rattle.dslx_core.specs.declared.design.Design.{Design}
use Rattle.dslx.specs.declared.count.size.NetworkSize.{NetworkSize}
use Rattle.dslx_elab.specs.Runs.{IsAcceptedText, IsMadeOfChecked, IsOfAccepted, RunsText}
use Rattle.dslx.specs.Texts.{GivesTree, HasCheckedText, HasNetworkSize, RefusesText}
use Rattle.xls_cmd.specs.Design.Commands.{ReadsInputs, ReadsModule, says, at_fault, check, check_text, run_texts}
use Rattle.xls_cmd.specs.Design.Inner.{IsDesignRead, IsSizeRead, RunsDesign}
use Rattle.xls_cmd.specs.Design.Written.{accepted, depth_by, depths_by, run_text}

-- ---- reading a design

text_case : (name bytes text : List ℕ) (b : Bool) → ◌≡◌ {A = Result (List ℕ) Fault} (Ok text) (if b then Ok bytes else Err (Text name (Syntax (utf8_valid_len bytes)))) → text ≡ bytes
text_case name bytes text true e = cc
text_case name bytes text false e = absurd (cc)

-- a text is the bytes of its file
pub text_is_bytes : (name bytes text : List ℕ) → Ok text ≡ text_of name bytes → text ≡ bytes
text_is_bytes name bytes text e = text_case name bytes text (is_utf8 bytes) e

pub design_is_read : (name : List ℕ) (t : Option (List ℕ)) (bytes text : List ℕ) (design : Design) → Ok text ≡ text_of name bytes → HasCheckedText text t design → IsDesignRead name t bytes design
design_is_read name t bytes text design found is = record { tree = is.tree; reads = goes_on text (Ok is.tree) found (accepts is.tree is.given); accepted = is.accepted; is = is.is }

pub size_is_read : (name : List ℕ) (t : Option (List ℕ)) (bytes text : List ℕ) (size : NetworkSize) → Ok text ≡ text_of name bytes → HasNetworkSize text t size → IsSizeRead name t bytes size
size_is_read name t bytes text size found is = record { tree = is.tree; reads = goes_on text (Ok is.tree) found (accepts is.tree is.given); is = is.is }

refuses_module : (text : List ℕ) (t : Option (List ℕ)) (e : ReadError) → RefusesText text t e → RefusesFor (GivesTree text t) e
refuses_module text t (Syntax at) is = is
refuses_module text t (Broken rule span) is = is
refuses_module text t (Over limit) is = is
refuses_module text t OutOfMemory is = tt

pub stops_at_module : (name : Bor (List ℕ)) (t : Option (List ℕ)) (bytes text : List ℕ) (e : ReadError) → Ok text ≡ text_of name.now bytes → RefusesText text t e → StopsBy (ReadsModule name.now t bytes) (text_refusal name e)
stops_at_module name t bytes text e found is =
    stops_in_next (Gives (text_of name.now bytes)) (λ x. OfText name.now (GivesTree x t)) text (text_refusal name e) found
    (stops_at_text name (GivesTree text t) e (refuses_module text t e is))

-- ---- a run

by_some : (arguments : Option ℕ) (kind : Kind) (depth : ℕ) → 1 ≤ depth_by arguments kind depth
by_some None kind depth = omega arith
by_some (Some d) AtInput depth = omega arith
by_some (Some d) AtOutput depth = omega arith
by_some (Some d) AtInner depth = omega arith

some_depths : (arguments : Option ℕ) (chans : List Chan) → (c : ℕ) → c < length (map (λ (chan : Chan). depth_by arguments chan.kind chan.depth) chans) → 1 ≤ get_or (map (λ (chan : Chan). depth_by arguments chan.kind chan.depth) chans) c 0
some_depths arguments [] c h = absurd (omega arith)
some_depths arguments (chan ∷ chans) zero h = by_some arguments chan.kind chan.depth
some_depths arguments (chan ∷ chans) (suc c) h = some_depths arguments chans c (omega arith)

-- such depths are those of a run
pub own_depths : (arguments : Option ℕ) (net : Net) → IsDepths net (depths_by arguments net)
own_depths arguments net = record { count = length-map net.chans (λ (chan : Chan). depth_by arguments chan.kind chan.depth); some = some_depths arguments net.chans }

-- what a run of a network shows
abbrev pub shown_of : Net → List Behavior → Inputs → How → List ℕ
shown_of net behaviors inputs how = run_text net behaviors inputs how.activations (depths_by how.depth net)

-- a network by which a text is run shows what the text's own shows
pub text_runs : (m : Module) (t : Option (List ℕ)) (net : Net) (behaviors : List Behavior) (inputs : Inputs) (how : How) → RunsText m t net behaviors → IsInputs net inputs.words → how.activations < 2 ^ 32
    → shown_of (network_of m t) (behaviors_of m t) inputs how ≡ shown_of net behaviors inputs how
text_runs m t net behaviors inputs how runs fit few =
    let outcome = λ (depths : List ℕ). outcome_of (run_of (network_of m t) (behaviors_of m t) inputs.words how.activations depths) (final_cut (run_of (network_of m t) (behaviors_of m t) inputs.words how.activations depths)) in
    ap (λ (x : Net). outcome_text x (outcome (depths_by how.depth x))) (sym runs.network) ∙ ap (outcome_text net) (runs.outcomes inputs.words how.activations (depths_by how.depth net) fit few)

-- so two of them show the same
pub design_runs : (design : Design) (net : Net) (behaviors : List Behavior) (is : IsOfAccepted design) → RunsText is.text is.top (core_network design) (core_behaviors design)
    → ((m : Module) (t : Option (List ℕ)) → IsAcceptedText m t → IsMadeOfChecked m t design → RunsText m t net behaviors) → RunsDesign design net behaviors
design_runs design net behaviors is core each =
    let runs = each is.text is.top is.accepted (record { made = is.made; checked = is.checked }) in
    let same = runs.network ∙ sym core.network in
    record {
      network = same;
      fits = runs.fits;
      of_net = runs.of_net;
      shows = λ inputs how fit few. sym (text_runs is.text is.top net behaviors inputs how runs fit few)
          ∙ text_runs is.text is.top (core_network design) (core_behaviors design) inputs how core (subst (λ n. IsInputs n inputs.words) same fit) few;
      texts = each;
    }

-- ---- one answer

pub inputs_is_one : (name file : List ℕ) (net : Net) → IsOne (ReadsInputs name file net)
inputs_is_one name file net a b (says x is) (says y also) = let same : x ≡ y = let e = one_reading net file (Ok x) (Ok y) is also in cc in ap Ok same
inputs_is_one name file net a b (says x is) (at_fault cause at also) = let no : ◌≡◌ {A = Result Inputs (Cause × ℕ)} (Ok x) (Err (cause, at)) = one_reading net file (Ok x) (Err (cause, at)) is also in absurd (cc)
inputs_is_one name file net a b (at_fault cause at is) (says x also) = let no : ◌≡◌ {A = Result Inputs (Cause × ℕ)} (Ok x) (Err (cause, at)) = one_reading net file (Ok x) (Err (cause, at)) also is in absurd (cc)
inputs_is_one name file net a b (at_fault cause at is) (at_fault other place also) =
    let same : ◌≡◌ {A = Cause × ℕ} (cause, at) (other, place) = let e = one_reading net file (Err (cause, at)) (Err (other, place)) is also in cc in
    ap (λ (x : Cause × ℕ). Err (Input name x.0 x.1)) same

abbrev pub OneModule : Type 0
OneModule = (text : List ℕ) (t : Option (List ℕ)) (a b : Result Module ReadError) → GivesTree text t a → GivesTree text t b → a ≡ b

pub module_is_one : OneModule → (name : List ℕ) (t : Option (List ℕ)) (bytes : List ℕ) → IsOne (ReadsModule name t bytes)
module_is_one law name t bytes =
    then_is_one (Gives (text_of name bytes)) (λ text. OfText name (GivesTree text t)) (gives_is_one (text_of name bytes)) (λ text. of_text_is_one name (GivesTree text t) (law text t))

pub check_is_one : OneModule → (holds : Contents) (arguments : Check (List ℕ)) → IsOne (check holds arguments)
check_is_one law holds arguments =
    then_is_one (Loads holds arguments.design) (λ design. check_text arguments design) (loads_is_one holds arguments.design)
    (λ design. then_is_one (ReadsModule arguments.design arguments.top design) (λ m. Gives (Ok (accepted (network_of m arguments.top)))) (module_is_one law arguments.design arguments.top design) (λ m. gives_is_one (Ok (accepted (network_of m arguments.top)))))

-- what stands behind the network's inputs
abbrev pub shown_by : Run (List ℕ) → Module → Inputs → Result (List ℕ) Fault
shown_by arguments m words = Ok (shown_of (network_of m arguments.top) (behaviors_of m arguments.top) words arguments.how)

-- what stands behind the design
abbrev pub inputs_then : Run (List ℕ) → List ℕ → Module → Result (List ℕ) Fault → Type 0
inputs_then arguments inputs m = Then (ReadsInputs arguments.inputs inputs (network_of m arguments.top)) (λ words. Gives (shown_by arguments m words))

pub texts_are_one : OneModule → (arguments : Run (List ℕ)) (design inputs : List ℕ) → IsOne (run_texts arguments design inputs)
texts_are_one law arguments design inputs =
    then_is_one (ReadsModule arguments.design arguments.top design) (inputs_then arguments inputs) (module_is_one law arguments.design arguments.top design)
    (λ m. then_is_one (ReadsInputs arguments.inputs inputs (network_of m arguments.top)) (λ words. Gives (shown_by arguments m words))
    (inputs_is_one arguments.inputs inputs (network_of m arguments.top)) (λ words. gives_is_one (shown_by arguments m words)))
