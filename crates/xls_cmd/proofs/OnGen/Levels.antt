-- The first four levels tell the same words.
use Rattle.std.proofs.Common.{◌≡◌, ◌<◌, ◌^◌, ◌∙◌, ℕ, List, [], Option, Some, None, Result, Ok, arith, ap, refl, sym, subst}
use Rattle.xb_bits.specs.Word.{Word}
use Rattle.xb_span.specs.declared.fault.Fault.{Fault as TreeFault}
use Rattle.xb_span.specs.declared.read_error.ReadError.{ReadError}
use Rattle.net_core.specs.Behavior.{Behavior}
use Rattle.net_core.specs.Cuts.{final_cut}
use Rattle.net_core.specs.Outcomes.{outcome_of}
use Rattle.net_core.specs.WellFormed.{AreBehaviorsOf, EachKeepsTypes, IsInputs, IsNet, run_of}
use Rattle.net_core.specs.declared.net.Net.{Net}
use Rattle.net_core.specs.declared.outcome.Outcome.{Outcome}
use Rattle.dslx.specs.Texts.{GivesTree, judged, unread, unless_refused}
use Rattle.dslx_meaning.specs.Network as source
use Rattle.dslx_meaning.specs.Rules.ModuleRules.{faults_of}
use Rattle.dslx_meaning.specs.Rules.NetworkLimits.{refusal_of}
use Rattle.dslx_tree.specs.declared.item.Module.{Module}
use Rattle.ir_tree.proofs.Lemmas.Rules.Typed.{network_fits}
use Rattle.ir_tree.specs.Networks.{behaviors_of, network_of}
use Rattle.ir_tree.specs.Rules.Verified.{IsVerified}
use Rattle.ir_tree.specs.SameBehavior.{IsDenotedBy, SameBehavior}
use Rattle.ir_tree.specs.declared.package.Package.{Package}
use Rattle.pipe_schedule.specs.declared.schedule.Schedule.{Schedule}
use Rattle.vlog_tree.specs.declared.module.VModule.{VModule}
use Rattle.xls_gen.specs.Design.Words.{design_words}
use Rattle.xls_gen.specs.Level.{level_line}
use Rattle.xls_gen.specs.declared.level.Level.{Level}
use Rattle.xls_gen.specs.declared.level.Level.TheVariants as level
use Rattle.cmd_line.specs.declared.request.Gen.{Gen}
use Rattle.xls_cmd.specs.Design.Commands.{ReadsModule}
use Rattle.xls_cmd.specs.Design.Written.{depths_by}
use Rattle.xls_cmd.specs.Gen.Agreed.{AreLevelLines}
use Rattle.xls_cmd.specs.Gen.Commands.{TellsLevels, gen, gen_name, levels}
use Rattle.xls_cmd.specs.Gen.Inner.{StepsOfModule, StepsOfOptimised, StepsOfPackage}
use Rattle.xls_cmd.specs.Gen.Told.{made_outcome, words_of_b}
use Rattle.xls_cmd.specs.Lowered.Commands.{lowers, optimises}
use Rattle.xls_cmd.specs.Shared.Fault.{Fault}
use Rattle.xls_cmd.specs.Shared.Loads.{accepts}
use Rattle.xls_cmd.specs.Shared.Step.{goes_on}
use Rattle.xls_cmd.proofs.OnGen.Steps.{five}

abbrev OneOutcome : Net → List Behavior → Net → List Behavior → List (List Word) → ℕ → List ℕ → Type 0
OneOutcome net behaviors other others inputs n depths = outcome_of (run_of net behaviors inputs n depths) (final_cut (run_of net behaviors inputs n depths)) ≡ outcome_of (run_of other others inputs n depths) (final_cut (run_of other others inputs n depths))

-- the laws below
pub record TheLaws : Type 0 where
  pub faultless : (m : Module) (top : Option (List ℕ)) → refusal_of m top ≡ None → faults_of m top ≡ []
  pub keep_types : (m : Module) (top : Option (List ℕ)) → faults_of m top ≡ [] → EachKeepsTypes (source.behaviors_of m top)
  pub of_nets : (m : Module) (top : Option (List ℕ)) → AreBehaviorsOf (source.network_of m top) (source.behaviors_of m top)
  pub network : (net : Net) (behaviors : List Behavior) (ir : Package) (inputs : List (List Word)) (n : ℕ) (depths : List ℕ) → IsDenotedBy net behaviors ir → IsNet net → AreBehaviorsOf net behaviors → EachKeepsTypes behaviors → IsInputs net inputs → n < 2 ^ 32
      → OneOutcome net behaviors (network_of ir) (behaviors_of ir) inputs n depths
  pub packages : (p q : Package) (inputs : List (List Word)) (n : ℕ) (depths : List ℕ) → SameBehavior p q → IsVerified p → IsInputs (network_of p) inputs → n < 2 ^ 32
      → OneOutcome (network_of p) (behaviors_of p) (network_of q) (behaviors_of q) inputs n depths

few : 64 < 2 ^ 32
few = omega arith

-- ---- a text that is read isn't refused

without_refusal : (m x : Module) (o : Option TreeFault) → unless_refused m o ≡ Ok x → (m ≡ x) × (o ≡ None)
without_refusal m x None e = let same : m ≡ x = cc in (same, refl)
without_refusal m x (Some fault) e = absurd (cc)

given_is_accepted : (text : List ℕ) (top : Option (List ℕ)) (given : Result Module ReadError) (x : Module) → GivesTree text top given → given ≡ Ok x → refusal_of x top ≡ None
given_is_accepted text top given x (judged m is) e =
    let same = without_refusal m x (refusal_of m top) e in
    subst (λ (y : Module). refusal_of y top ≡ None) same.0 same.1
given_is_accepted text top given x (unread error is) e = absurd (cc)

read_is_accepted : (name : List ℕ) (top : Option (List ℕ)) (bytes : List ℕ) (m : Module) → ReadsModule name top bytes (Ok m) → refusal_of m top ≡ None
read_is_accepted name top bytes m (goes_on text given found (accepts x is)) = given_is_accepted text top (Ok x) x is refl

-- ---- one outcome

module _ (laws : TheLaws) (words : List (List Word)) where
  of_package : (m : Module) (ir : Package) → refusal_of m None ≡ None → IsVerified ir → IsDenotedBy (source.network_of m None) (source.behaviors_of m None) ir → IsInputs (source.network_of m None) words
      → made_outcome words (source.network_of m None) (source.behaviors_of m None) ≡ made_outcome words (network_of ir) (behaviors_of ir)
  of_package m ir accepted verified same takes =
      let outcome = λ (depths : List ℕ). outcome_of (run_of (network_of ir) (behaviors_of ir) words 64 depths) (final_cut (run_of (network_of ir) (behaviors_of ir) words 64 depths)) in
      laws.network (source.network_of m None) (source.behaviors_of m None) ir words 64 (depths_by None (source.network_of m None)) same (subst IsNet (sym same.network) (network_fits ir verified)) (laws.of_nets m None)
      (laws.keep_types m None (laws.faultless m None accepted)) takes few
      ∙ ap (λ (n : Net). outcome (depths_by None n)) same.network

  of_optimised : (ir new : Package) → IsVerified ir → SameBehavior ir new → IsInputs (network_of ir) words → made_outcome words (network_of ir) (behaviors_of ir) ≡ made_outcome words (network_of new) (behaviors_of new)
  of_optimised ir new verified same takes =
      let outcome = λ (depths : List ℕ). outcome_of (run_of (network_of new) (behaviors_of new) words 64 depths) (final_cut (run_of (network_of new) (behaviors_of new) words 64 depths)) in
      laws.packages ir new words 64 (depths_by None (network_of ir)) same verified takes few ∙ ap (λ (n : Net). outcome (depths_by None n)) same.network

  of_levels : (m : Module) (ir new : Package) (schedules : List Schedule) (design : VModule) (given : Result (List ℕ) Fault) (text : List ℕ) → refusal_of m None ≡ None → IsVerified ir
      → IsDenotedBy (source.network_of m None) (source.behaviors_of m None) ir → SameBehavior ir new → TellsLevels m ir new schedules design words given → given ≡ Ok text → AreLevelLines text
  of_levels m ir new schedules design given text accepted verified denotes same (levels moved takes feedable feeds) e =
      let sent = words_of_b (made_outcome words (source.network_of m None) (source.behaviors_of m None)) in
      let second = of_package m ir accepted verified denotes takes.inputs in
      let third = second ∙ of_optimised ir new verified same (subst (λ (n : Net). IsInputs n words) denotes.network takes.inputs) in
      let line = λ (at : Level) (o : Outcome). level_line at (words_of_b o) in
      let dslx : level_line level.Dslx sent ≡ level_line level.Dslx sent = refl in
      let threads : level_line level.Threads sent ≡ level_line level.Threads sent = refl in
      let verilog : level_line level.Verilog moved ≡ level_line level.Verilog moved = refl in
      let lines = five dslx (ap (line level.Ir) second) (ap (line level.Opt) third) threads verilog in
      record { sent = sent; moved = moved; is = text_is _ text e ∙ sym lines }
    where
      text_is : (found wanted : List ℕ) → ◌≡◌ {A = Result (List ℕ) Fault} (Ok found) (Ok wanted) → wanted ≡ found
      text_is found wanted e = cc

  of_optimised_steps : (m : Module) (ir new : Package) (text : List ℕ) → refusal_of m None ≡ None → IsVerified ir → IsDenotedBy (source.network_of m None) (source.behaviors_of m None) ir → SameBehavior ir new
      → StepsOfOptimised words m ir new (Ok text) → AreLevelLines text
  of_optimised_steps m ir new text accepted verified denotes same (goes_on schedules given scheduled (goes_on design last built told)) =
      of_levels m ir new schedules design (Ok text) text accepted verified denotes same told refl

  of_package_steps : (m : Module) (ir : Package) (text : List ℕ) → refusal_of m None ≡ None → IsVerified ir → IsDenotedBy (source.network_of m None) (source.behaviors_of m None) ir → StepsOfPackage words m ir (Ok text) → AreLevelLines text
  of_package_steps m ir text accepted verified denotes (goes_on new given (optimises made optimised) more) = of_optimised_steps m ir new text accepted verified denotes optimised.same more

  of_module_steps : (m : Module) (text : List ℕ) → refusal_of m None ≡ None → StepsOfModule words m (Ok text) → AreLevelLines text
  of_module_steps m text accepted (goes_on ir given (accepts x (lowers made shallow verified denotes)) more) = of_package_steps m ir text accepted verified denotes more

pub levels_agree : TheLaws → (arguments : Gen) (text : List ℕ) → gen arguments (Ok text) → AreLevelLines text
levels_agree laws arguments text (goes_on m given reads more) = of_module_steps laws (design_words arguments.procs) m text (read_is_accepted gen_name None _ m reads) more
