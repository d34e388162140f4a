-- The steps of the command, one after the other.
use Rattle.std.proofs.Common.{◌≡◌, ◌<◌, ◌^◌, ◌++◌, ◌⊎◌, inl, inr, ℕ, suc, List, [], ◌∷◌, None, Ok, Err, refl, sym, ap, ◌∙◌, subst, arith}
use Rattle.std.specs.Borrow.{Bor}
use Rattle.xb_bits.specs.Word.{Word}
use Rattle.xb_span.specs.declared.limit.Limit.{Limit}
use Rattle.xb_span.specs.declared.read_error.ReadError.TheVariants.{Over}
use Rattle.net_core.specs.Behavior.{Behavior}
use Rattle.net_core.specs.Cuts.{final_cut}
use Rattle.net_core.specs.Outcomes.{outcome_of}
use Rattle.net_core.specs.WellFormed.{run_of}
use Rattle.net_core.specs.declared.net.Net.{Net}
use Rattle.net_core.specs.declared.outcome.Outcome.{Outcome}
use Rattle.dslx_core.specs.declared.design.Design.{Design}
use Rattle.dslx_elab.specs.Runs.{IsOfAccepted, RunsText}
use Rattle.dslx_meaning.specs.Network as source
use Rattle.dslx_tree.specs.declared.item.Module.{Module}
use Rattle.ir_tree.specs.Networks.{network_of}
use Rattle.ir_tree.specs.SameBehavior.{IsDenotedBy}
use Rattle.ir_tree.specs.declared.package.Package.{Package}
use Rattle.ir_tree.specs.declared.package.Proc.{Proc}
use Rattle.pipe_schedule.specs.Packages.{AreSchedules}
use Rattle.pipe_schedule.specs.declared.schedule.Demands.{Demands}
use Rattle.pipe_schedule.specs.declared.schedule.Schedule.{Schedule}
use Rattle.block_verilog.specs.Modules.{AreScheduled, IsFirstTooDeep}
use Rattle.block_verilog.specs.declared.build.BuildError.{BuildError}
use Rattle.block_verilog.specs.declared.build.BuildError.TheVariants as build
use Rattle.xls_gen.specs.Events.{total_events}
use Rattle.xls_gen.specs.Level.{level_line}
use Rattle.xls_gen.specs.declared.level.Level.{Level}
use Rattle.xls_gen.specs.declared.level.Level.TheVariants as level
use Rattle.xls_cmd.specs.Design.Inner.{IsDesignRead}
use Rattle.xls_cmd.specs.Design.Written.{depths_by}
use Rattle.xls_cmd.specs.Gen.Commands.{BuildsModule, TellsLevels, gen_name, levels, too_deep}
use Rattle.xls_cmd.specs.Gen.Inner.{IsMadeOfText, StepsOfModule, TellsNetwork, TellsPackage, TellsRun, TellsSource}
use Rattle.xls_cmd.specs.Gen.Told.{TakesItsWords, run_line, words_of_b}
use Rattle.xls_cmd.specs.Lowered.Commands.{LowersModule, lowers, optimises}
use Rattle.xls_cmd.specs.Schedule.Commands.{fits}
use Rattle.xls_cmd.specs.Shared.Done.{StopsBy, text_refusal}
use Rattle.xls_cmd.specs.Shared.Loads.{accepts}
use Rattle.xls_cmd.specs.Shared.Step.{goes_on}
use Rattle.xls_cmd.specs.declared.shared.fault.Fault.TheVariants.{Text}
use Rattle.xls_cmd.specs.declared.shared.refusal.Refusal.{Refusal}
use Rattle.xls_cmd.specs.declared.generate.packages.PackageLines.{PackageLines}
use Rattle.xls_cmd.specs.declared.generate.running.Told.{Told}
use Rattle.xls_cmd.specs.declared.generate.source.SourceLines.{SourceLines}

-- ---- runs

-- the line of an outcome is that of the run
pub line_is : (at : Level) (words : List (List Word)) (net : Net) (behaviors : List Behavior) (depths : List ℕ) (outcome : Outcome) (text : List ℕ) → depths ≡ depths_by None net
    → outcome ≡ outcome_of (run_of net behaviors words 64 depths) (final_cut (run_of net behaviors words 64 depths)) → text ≡ level_line at (words_of_b outcome) → text ≡ run_line at words net behaviors
line_is at words net behaviors depths outcome text deep run is =
    is ∙ ap (λ (o : Outcome). level_line at (words_of_b o)) (run ∙ ap (λ (d : List ℕ). outcome_of (run_of net behaviors words 64 d) (final_cut (run_of net behaviors words 64 d))) deep)

pub tells_run : (at : Level) (words : List (List Word)) (net : Net) (behaviors : List Behavior) (depths : List ℕ) (outcome : Outcome) (told : Told) → depths ≡ depths_by None net
    → outcome ≡ outcome_of (run_of net behaviors words 64 depths) (final_cut (run_of net behaviors words 64 depths)) → told.line.items ≡ level_line at (words_of_b outcome)
    → told.events ≡ total_events (run_of net behaviors words 64 depths) (final_cut (run_of net behaviors words 64 depths)) → TellsRun at words net behaviors told
tells_run at words net behaviors depths outcome told deep run is events = record {
  line = line_is at words net behaviors depths outcome told.line.items deep run is;
  events = events ∙ ap (λ (d : List ℕ). total_events (run_of net behaviors words 64 d) (final_cut (run_of net behaviors words 64 d))) deep;
}

-- ---- the text

few_activations : 64 < 2 ^ 32
few_activations = omega arith

-- a network by which a text is run has the text's line
same_line : (at : Level) (m : Module) (net : Net) (behaviors : List Behavior) (words : List (List Word)) → RunsText m None net behaviors → TakesItsWords net words
    → run_line at words net behaviors ≡ run_line at words (source.network_of m None) (source.behaviors_of m None)
same_line at m net behaviors words runs takes =
    let outcome = λ (depths : List ℕ). outcome_of (run_of (source.network_of m None) (source.behaviors_of m None) words 64 depths) (final_cut (run_of (source.network_of m None) (source.behaviors_of m None) words 64 depths)) in
    ap (λ (o : Outcome). level_line at (words_of_b o)) (sym (runs.outcomes words 64 (depths_by None net) takes.inputs few_activations))
    ∙ ap (λ (n : Net). level_line at (words_of_b (outcome (depths_by None n)))) runs.network

pub source_told : (m : Module) (net : Net) (behaviors : List Behavior) (words : List (List Word)) (lines : SourceLines) → RunsText m None net behaviors → TakesItsWords net words → TellsNetwork words net behaviors lines → TellsSource m words lines
source_told m net behaviors words lines runs takes is = record {
  takes = subst (λ (n : Net). TakesItsWords n words) runs.network takes;
  tells = record {
    dslx = is.dslx ∙ same_line level.Dslx m net behaviors words runs takes;
    threads = is.threads ∙ same_line level.Threads m net behaviors words runs takes;
  };
}

pub is_made_of : (text : List ℕ) (design : Design) (is : IsDesignRead gen_name None text design) → IsMadeOfText is.tree design
is_made_of text design is = record { accepted = is.accepted; is = is.is }

pub is_of_accepted : (text : List ℕ) (design : Design) → IsDesignRead gen_name None text design → IsOfAccepted design
is_of_accepted text design is = record { text = is.tree; top = None; accepted = is.accepted; made = is.is.made; checked = is.is.checked }

-- ---- the package

-- it means what the text means
pub denoted : (m : Module) (ir : Package) → LowersModule m None (Ok ir) → IsDenotedBy (source.network_of m None) (source.behaviors_of m None) ir
denoted m ir (lowers made shallow verified same) = same

-- ---- the module

pub are_scheduled : (procs : List Proc) (demands : Demands) (schedules : List Schedule) → AreSchedules procs demands schedules → AreScheduled demands.clock procs schedules
are_scheduled [] demands [] h = tt
are_scheduled [] demands (s ∷ ss) h = let e = h.count in absurd (omega (arith, e))
are_scheduled (p ∷ ps) demands [] h = let e = h.count in absurd (omega (arith, e))
are_scheduled (p ∷ ps) demands (s ∷ ss) h =
    let e = h.count in
    let one = h.each 0 p s refl refl in
    let rest : AreSchedules ps demands ss = record { count = omega (arith, e); each = λ i q t a b. h.each (suc i) q t a b } in
    (one.least.legal.at, one.stages, one.interval, are_scheduled ps demands ss rest)

-- the first FIFO that is too deep is refused
pub refuses_depth : (name : Bor (List ℕ)) (ir : Package) (depths : List ℕ) (schedules : List Schedule) (limit : Limit) (r : Refusal) → r ≡ text_refusal name (Over limit) → name.now ≡ gen_name → depths ≡ depths_by None (network_of ir)
    → (build.Over limit ≡ build.OutOfMemory) ⊎ ((first : Limit) × IsFirstTooDeep ir.channels depths first × (build.Over limit ≡ build.Over first)) → StopsBy (BuildsModule ir schedules) r
refuses_depth name ir depths schedules limit r refused is deep (inl memory) = absurd (let no : ◌≡◌ {A = BuildError} (build.Over limit) build.OutOfMemory = memory in cc)
refuses_depth name ir depths schedules limit r refused is deep (inr found) =
    let same : limit ≡ found.0 = let e : ◌≡◌ {A = BuildError} (build.Over limit) (build.Over found.0) = found.2 in cc in
    let first : IsFirstTooDeep ir.channels (depths_by None (network_of ir)) limit = subst (IsFirstTooDeep ir.channels (depths_by None (network_of ir))) (sym same) (subst (λ (d : List ℕ). IsFirstTooDeep ir.channels d found.0) deep found.1) in
    subst (StopsBy (BuildsModule ir schedules)) (sym refused) (subst (λ (n : List ℕ). BuildsModule ir schedules (Err (Text n (Over limit)))) (sym is) (too_deep limit first), tt)

-- ---- all lines

pub five : {a b c d e v w x y z : List ℕ} → a ≡ v → b ≡ w → c ≡ x → d ≡ y → e ≡ z → a ++ b ++ c ++ d ++ e ≡ v ++ w ++ x ++ y ++ z
five p q r s t = λ i. p i ++ q i ++ r i ++ s i ++ t i

pub levels_given : (m : Module) (ir : Package) (words : List (List Word)) (source : SourceLines) (made : PackageLines) (text : List ℕ) → LowersModule m None (Ok ir) → TellsSource m words source → TellsPackage ir words made
    → text ≡ source.dslx.items ++ made.ir.items ++ made.opt.items ++ source.threads.items ++ made.verilog.items → StepsOfModule words m (Ok text)
levels_given m ir words source made text lowered told is joined =
    let hardware = is.hardware in
    let fed = hardware.fed in
    let lines = joined ∙ five told.tells.dslx is.lowered is.same told.tells.threads fed.is in
    goes_on ir (Ok text) (accepts ir lowered)
    (goes_on is.new (Ok text) (optimises is.new is.optimised)
    (goes_on hardware.schedules (Ok text) (fits hardware.schedules hardware.scheduled)
    (goes_on hardware.design (Ok text) hardware.built
    (subst (λ (t : List ℕ). TellsLevels m ir is.new hardware.schedules hardware.design words (Ok t)) (sym lines) (levels fed.moved told.takes fed.takes fed.feeds)))))
