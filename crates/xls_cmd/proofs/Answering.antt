-- What is answered to words, by what their command gives.
use Rattle.std.proofs.Common.{◌≡◌, ◌⊎◌, inl, inr, ◌++◌, ℕ, true, List, [], Option, Some, None, Result, Ok, Err, refl, sym, ap, ◌∙◌, subst}
use Rattle.std.specs.Prelude.{IfSome}
use Rattle.std.proofs.lemmas.List.{append-nil}
use Rattle.xb_io.specs.Contents.{Contents}
use Rattle.xls_cmd.specs.Shared.Answered.{Answers, wrote, refused, no_memory, unread, unwritten}
use Rattle.xls_cmd.specs.declared.shared.refusal.Refusal.{Refusal}
use Rattle.xls_cmd.specs.Shared.Done.{IsDone, GivesExpected}
use Rattle.xls_cmd.specs.Shared.Events.{FileEvents, SinkEvents}
use Rattle.xls_cmd.specs.Shared.Fault.{Fault}
use Rattle.xls_cmd.specs.Shared.Loads.{Loads}
use Rattle.xls_cmd.specs.Shared.Step.{IsOne, ExpectedBy, Then}
use Rattle.xls_cmd.specs.Run.Commands.{run_by, run_texts}
use Rattle.cmd_line.specs.CommandLine.{arguments_of}
use Rattle.cmd_line.specs.declared.request.Request.{Request}
use Rattle.cmd_line.specs.declared.request.Request.TheVariants.{Check, Run, Sim, Schedule, Opt, Verilog, Gen, Ir as SaysIr}
use Rattle.cmd_line.specs.declared.request.Source.{Source}
use Rattle.cmd_line.specs.declared.request.Source.TheVariants.{Dslx, Ir}
use Rattle.xls_cmd.specs.Design.Commands as design
use Rattle.xls_cmd.specs.Ir.Commands as ir
use Rattle.xls_cmd.specs.Schedule.Commands as schedules
use Rattle.xls_cmd.specs.Lowered.Commands as lowered
use Rattle.xls_cmd.specs.Opt.Commands as optimising
use Rattle.xls_cmd.specs.Verilog.Commands as printing
use Rattle.xls_cmd.specs.Shared.Agrees.{AreAlike, Agrees}
use Rattle.xls_cmd.specs.Sim.Simulation as simulation
use Rattle.xls_cmd.proofs.Lemmas.Shared.{loads_is_one, one_agrees, then_is_one}
use Rattle.cmd_line.specs.declared.request.Check.{Check as SaidCheck}
use Rattle.cmd_line.specs.declared.request.Run.{Run as SaidRun}
use Rattle.cmd_line.specs.declared.request.Schedule.{Schedule as SaidSchedule}
use Rattle.cmd_line.specs.declared.request.Opt.{Opt as SaidOpt}
use Rattle.cmd_line.specs.declared.request.Ir.{Ir as SaidIr}
use Rattle.cmd_line.specs.declared.request.Sim.{Sim as SaidSim}
use Rattle.cmd_line.specs.declared.request.Verilog.{Verilog as SaidVerilog}
use Rattle.xls_cmd.specs.Answer.{by_workers, expected, expected_for, expected_of, files_of, is_exact, is_exact_for, is_read_by, is_settled, is_settled_for, named_files, named_for, status_for}

-- each command gives one thing, or answers that may differ in their text alone
pub record TheLaws : Type 0 where
  pub check : (holds : Contents) (arguments : SaidCheck (List ℕ)) → IsOne (design.check holds arguments)
  pub run : (arguments : SaidRun (List ℕ)) (file inputs : List ℕ) → IsOne (design.run_texts arguments file inputs)
  pub run_ir : (arguments : SaidRun (List ℕ)) (file inputs : List ℕ) → IsOne (ir.run_texts arguments file inputs)
  pub sim : (holds : Contents) (arguments : SaidSim (List ℕ)) → IsOne (simulation.sim holds arguments)
  pub schedule_ir : (holds : Contents) (arguments : SaidSchedule (List ℕ)) → arguments.source ≡ Ir → IsOne (schedules.schedule holds arguments)
  pub opt : (holds : Contents) (arguments : SaidOpt (List ℕ)) → Agrees (optimising.opt holds arguments)
  pub verilog_ir : (holds : Contents) (arguments : SaidVerilog (List ℕ)) → arguments.source ≡ Ir → Agrees (printing.verilog holds arguments)
  pub ir : (holds : Contents) (arguments : SaidIr (List ℕ)) → Agrees (lowered.ir_of_design holds arguments)

texts_are_one : TheLaws → (source : Source) (arguments : SaidRun (List ℕ)) (file inputs : List ℕ) → IsOne (run_texts source arguments file inputs)
texts_are_one laws Dslx arguments file inputs = laws.run arguments file inputs
texts_are_one laws Ir arguments file inputs = laws.run_ir arguments file inputs

run_is_one : TheLaws → (source : Source) (arguments : SaidRun (List ℕ)) (holds : Contents) → IsOne (run_by source holds arguments)
run_is_one laws source arguments holds =
    then_is_one (Loads holds arguments.design) (λ file. Then (Loads holds arguments.inputs) (λ inputs. run_texts source arguments file inputs)) (loads_is_one holds arguments.design)
    (λ file. then_is_one (Loads holds arguments.inputs) (λ inputs. run_texts source arguments file inputs) (loads_is_one holds arguments.inputs) (λ inputs. texts_are_one laws source arguments file inputs))

-- what a run gives is the same by any number of workers
pub any_workers : (source : Source) (holds : Contents) (arguments : SaidRun (List ℕ)) (count : ℕ) (given : Result (List ℕ) Fault) →
    (run_by source holds (by_workers count arguments) given → run_by source holds arguments given) × (run_by source holds arguments given → run_by source holds (by_workers count arguments) given)
any_workers Dslx holds arguments count given = (λ is. is, λ is. is)
any_workers Ir holds arguments count given = (λ is. is, λ is. is)

read_is : (source : Source) → is_read_by source ≡ true → source ≡ Ir
read_is Dslx h = absurd (cc)
read_is Ir h = refl

expected_of_is_one : TheLaws → (arguments : Request (List ℕ)) (holds : Contents) → is_exact_for (Some arguments) ≡ true → IsOne (expected_of arguments (Some holds))
expected_of_is_one laws (Check arguments) holds exact a b is also = laws.check holds arguments a b is.1 also.1
expected_of_is_one laws (Run arguments) holds exact a b is also = run_is_one laws arguments.how.source arguments holds a b is.1 also.1
expected_of_is_one laws (Sim arguments) holds exact a b is also = laws.sim holds arguments a b is.1 also.1
expected_of_is_one laws (Schedule arguments) holds exact a b is also = laws.schedule_ir holds arguments (read_is arguments.source exact) a b is.1 also.1
expected_of_is_one laws (Opt arguments) holds exact a b is also = absurd (cc)
expected_of_is_one laws (Verilog arguments) holds exact a b is also = absurd (cc)
expected_of_is_one laws (SaysIr arguments) holds exact a b is also = absurd (cc)
expected_of_is_one laws (Gen arguments) holds exact a b is also = absurd (cc)

expected_for_is_one : TheLaws → (arguments : Option (Request (List ℕ))) (holds : Contents) → is_exact_for arguments ≡ true → IsOne (expected_for arguments (Some holds))
expected_for_is_one laws None holds exact a b is also = is ∙ sym also
expected_for_is_one laws (Some arguments) holds exact a b is also = expected_of_is_one laws arguments holds exact a b is also

pub expected_is_one : TheLaws → (words : List (List ℕ)) (holds : Contents) → is_exact words ≡ true → IsOne (expected words (Some holds))
expected_is_one laws words holds exact = expected_for_is_one laws (arguments_of words) holds exact

-- ---- what is expected agrees

expected_for_agrees : TheLaws → (arguments : Option (Request (List ℕ))) (holds : Contents) → is_settled_for arguments ≡ true → Agrees (expected_for arguments (Some holds))
expected_for_agrees laws None holds settled = one_agrees (expected_for None (Some holds)) (expected_for_is_one laws None holds refl)
expected_for_agrees laws (Some (Check arguments)) holds settled = one_agrees (expected_of (Check arguments) (Some holds)) (expected_of_is_one laws (Check arguments) holds refl)
expected_for_agrees laws (Some (Run arguments)) holds settled = one_agrees (expected_of (Run arguments) (Some holds)) (expected_of_is_one laws (Run arguments) holds refl)
expected_for_agrees laws (Some (Sim arguments)) holds settled = one_agrees (expected_of (Sim arguments) (Some holds)) (expected_of_is_one laws (Sim arguments) holds refl)
expected_for_agrees laws (Some (Schedule arguments)) holds settled = one_agrees (expected_of (Schedule arguments) (Some holds)) (expected_of_is_one laws (Schedule arguments) holds settled)
expected_for_agrees laws (Some (Opt arguments)) holds settled = λ a b is also. laws.opt holds arguments a b is.1 also.1
expected_for_agrees laws (Some (Verilog arguments)) holds settled = λ a b is also. laws.verilog_ir holds arguments (read_is arguments.source settled) a b is.1 also.1
expected_for_agrees laws (Some (SaysIr arguments)) holds settled = λ a b is also. laws.ir holds arguments a b is.1 also.1
expected_for_agrees laws (Some (Gen arguments)) holds settled = absurd (cc)

pub expected_agrees : TheLaws → (words : List (List ℕ)) (holds : Contents) → is_settled words ≡ true → Agrees (expected words (Some holds))
expected_agrees laws words holds settled = expected_for_agrees laws (arguments_of words) holds settled

same_status : (a b : Result (List ℕ) Fault) → AreAlike a b → status_for a ≡ status_for b
same_status (Ok a) (Ok b) h = refl
same_status (Ok a) (Err g) h = absurd h
same_status (Err f) (Ok b) h = absurd h
same_status (Err f) (Err g) h = ap (λ (r : Fault). status_for (Err r)) h

-- ---- the command of the words

module _ {V : Type 0} (items : V → List ℕ) (words : List (List ℕ)) (known_contents : Option Contents) (files : FileEvents) (given : Result V Refusal) where
  -- what the words' command did is what is expected for the words
  pub done_by_command : (arguments : Request (List ℕ)) → Some arguments ≡ arguments_of words → IsDone items (expected_of arguments known_contents) (files_of arguments) files given → IsDone items (expected words known_contents) (named_files words) files given
  done_by_command arguments is done = subst (λ (s : Option (Request (List ℕ))). IsDone items (expected_for s known_contents) (named_for s) files given) is done

  -- where they say nothing, the refusal is expected
  pub done_without_command : None ≡ arguments_of words → GivesExpected items (expected_for None known_contents) files [] given → files.asks [] → IsDone items (expected words known_contents) (named_files words) files given
  done_without_command is gives asks =
      let done : IsDone items (expected_for None known_contents) [] files given = record { names = []; in_order = tt; asked = asks; gives = gives } in
      subst (λ (s : Option (Request (List ℕ))). IsDone items (expected_for s known_contents) (named_for s) files given) is done

-- nothing was loaded
pub nothing_asked : (names : List (List ℕ)) → names ≡ names ++ []
nothing_asked names = sym (append-nil names)

-- ---- completeness

complete_at : (expected' : Result (List ℕ) Fault → Type 0) (files : FileEvents) (names : List (List ℕ)) (out err : SinkEvents) (status : ℕ) (faulted broken : Type 0) (given : Result (List ℕ) Fault) → Agrees expected' → expected' given →
    (files.faulted → faulted) → ((bytes : List ℕ) → out.breaks_off bytes → broken) → Answers expected' files names out err status → (faulted → ⊥) → (broken → ⊥) → (status ≡ status_for given) ⊎ (status ≡ 3)
complete_at expected' files names out err status faulted broken given one is risen breaks (wrote text expected sound puts untouched) no_fault whole = inl (same_status (Ok text) given (one (Ok text) given expected is))
complete_at expected' files names out err status faulted broken given one is risen breaks (refused fault expected sound counted untouched shows) no_fault whole = inl (same_status (Err fault) given (one (Err fault) given expected is))
complete_at expected' files names out err status faulted broken given one is risen breaks (no_memory sound untouched shows) no_fault whole = inr refl
complete_at expected' files names out err status faulted broken given one is risen breaks (unread name last faulted' untouched shows) no_fault whole = absurd (no_fault (risen faulted'))
complete_at expected' files names out err status faulted broken given one is risen breaks (unwritten text expected sound broke shows) no_fault whole = absurd (whole (breaks text broke))

pub completely : ((words : List (List ℕ)) (holds : Contents) → is_settled words ≡ true → Agrees (expected words (Some holds))) → (words : List (List ℕ)) (known_contents : Option Contents) (files : FileEvents) (names : List (List ℕ)) (out err : SinkEvents) (status : ℕ) (faulted broken : Type 0) →
    (files.faulted → faulted) → ((bytes : List ℕ) → out.breaks_off bytes → broken) → Answers (expected words known_contents) files names out err status →
    IfSome known_contents (λ holds. (given : Result (List ℕ) Fault) → is_settled words ≡ true → expected words (Some holds) given → ¬ faulted → ¬ broken → (status ≡ status_for given) ⊎ (status ≡ 3))
completely one words None files names out err status faulted broken risen breaks answers = tt
completely one words (Some holds) files names out err status faulted broken risen breaks answers = λ given settled is no_fault whole.
    complete_at (expected words (Some holds)) files names out err status faulted broken given (one words holds settled) is risen breaks answers no_fault whole
