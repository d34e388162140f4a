-- The steps of the command, one after the other.
use Rattle.std.proofs.Common.{◌≡◌, ◌<◌, ◌⊎◌, inl, inr, ℕ, Bool, true, false, List, length, map, Result, Ok, Err, refl, sym, ap, ◌∙◌, subst, arith}
use Rattle.std.specs.Prelude.{get_or, nat_lt}
use Rattle.std.proofs.lemmas.Bool.{ltb-false, ltb-true}
use Rattle.std.specs.Borrow.{Bor}
use Rattle.std.proofs.lemmas.List.{length-map}
use Rattle.std.proofs.lemmas.Option.{slice_get_within}
use Rattle.xb_io.specs.Contents.{Contents}
use Rattle.xb_span.specs.declared.limit.Limit.{Limit}
use Rattle.xb_span.specs.declared.read_error.ReadError.TheVariants.{Over}
use Rattle.net_core.specs.declared.net.Net.{Net}
use Rattle.net_core.specs.WellFormed.{IsDepths}
use Rattle.ir_tree.specs.declared.package.Channel.{Channel}
use Rattle.ir_tree.specs.declared.package.Package.{Package}
use Rattle.ir_tree.specs.Networks.{chan_of, network_of}
use Rattle.pipe_schedule.specs.declared.schedule.Demands.{Demands}
use Rattle.pipe_schedule.specs.declared.schedule.Schedule.{Schedule}
use Rattle.pipe_schedule.specs.Packages.{AreSchedules}
use Rattle.block_verilog.specs.declared.build.BuildError.{BuildError}
use Rattle.block_verilog.specs.declared.build.BuildError.TheVariants as build
use Rattle.block_verilog.specs.Modules.{HaveSlots, IsFirstTooDeep, NoneTooDeep, is_deep, limit_of}
use Rattle.cmd_line.specs.declared.request.Source.TheVariants.{Ir}
use Rattle.cmd_line.specs.declared.request.Verilog.{Verilog}
use Rattle.xls_cmd.specs.declared.shared.refusal.Refusal.{Refusal}
use Rattle.xls_cmd.specs.declared.shared.fault.Fault.TheVariants.{Text}
use Rattle.xls_cmd.specs.Design.Written.{depths_by}
use Rattle.xls_cmd.specs.Lowered.Commands.{GivesScheduledBy}
use Rattle.xls_cmd.specs.Schedule.Commands.{HasSchedules, fits, demands_of}
use Rattle.xls_cmd.specs.Shared.Agrees.{Agrees}
use Rattle.xls_cmd.specs.Shared.Done.{StopsBy, text_refusal}
use Rattle.xls_cmd.specs.Shared.Fault.{Fault}
use Rattle.xls_cmd.specs.Shared.Loads.{Loads}
use Rattle.xls_cmd.specs.Shared.Step.{goes_on}
use Rattle.xls_cmd.specs.Verilog.Commands.{GivesVerilog, PrintsModule, prints, too_deep, verilog, verilog_loaded}
use Rattle.xls_cmd.proofs.Lemmas.Shared.{loads_is_one, stops_in_first, stops_in_next, then_agrees}
use Rattle.xls_cmd.proofs.OnSchedule.Steps.{TheLaws, scheduled_is_one, schedules_are_one}

-- ---- depths

-- depths of the package's network hold a word at least
pub have_slots : (ir : Package) (net : Net) (depths : List ℕ) → net ≡ network_of ir → IsDepths net depths → HaveSlots ir.channels depths
have_slots ir net depths same fit = λ i channel there inner.
    let within = slice_get_within ir.channels i channel there in
    let chans : length net.chans ≡ length (map chan_of ir.channels) = ap (λ (n : Net). length n.chans) same in
    let mapped = length-map ir.channels chan_of in
    let count = fit.count in
    fit.some i (omega (arith, within, chans, mapped, count))

-- ---- what is printed

-- the first FIFO that is too deep is refused
pub refuses_depth : (name : Bor (List ℕ)) (ir : Package) (depths : List ℕ) (schedules : List Schedule) (limit : Limit) →
    (build.Over limit ≡ build.OutOfMemory) ⊎ ((first : Limit) × IsFirstTooDeep ir.channels depths first × (build.Over limit ≡ build.Over first)) → StopsBy (PrintsModule name.now ir depths schedules) (text_refusal name (Over limit))
refuses_depth name ir depths schedules limit (inl memory) = absurd (let no : ◌≡◌ {A = BuildError} (build.Over limit) build.OutOfMemory = memory in cc)
refuses_depth name ir depths schedules limit (inr found) =
    let same : limit ≡ found.0 = let e : ◌≡◌ {A = BuildError} (build.Over limit) (build.Over found.0) = found.2 in cc in
    (subst (λ (l : Limit). PrintsModule name.now ir depths schedules (Err (Text name.now (Over l)))) (sym same) (too_deep found.0 found.1), tt)

abbrev printed_by : Verilog (List ℕ) → Package → List Schedule → Result (List ℕ) Fault → Type 0
printed_by arguments ir = λ schedules. PrintsModule arguments.design ir (depths_by arguments.depth (network_of ir)) schedules

module _ (arguments : Verilog (List ℕ)) (ir : Package) where
  pub stops_at_schedules : (r : Refusal) → StopsBy (HasSchedules ir (demands_of arguments.timing)) r → StopsBy (GivesVerilog arguments ir) r
  stops_at_schedules r stop = stops_in_first (HasSchedules ir (demands_of arguments.timing)) (printed_by arguments ir) r stop

  -- the schedules and the depths, as they were handed on
  module _ (schedules handed : List Schedule) (depths : List ℕ) where
    pub has_printed : (text : List ℕ) → handed ≡ schedules → depths ≡ depths_by arguments.depth (network_of ir) → AreSchedules ir.procs (demands_of arguments.timing) schedules →
        ((demands : Demands) → AreSchedules ir.procs demands handed → PrintsModule arguments.design ir depths handed (Ok text)) → GivesVerilog arguments ir (Ok text)
    has_printed text same are scheduled is =
        let printed = is (demands_of arguments.timing) (subst (AreSchedules ir.procs (demands_of arguments.timing)) (sym same) scheduled) in
        let by = subst (λ (d : List ℕ). PrintsModule arguments.design ir d handed (Ok text)) are printed in
        goes_on schedules (Ok text) (fits schedules scheduled) (subst (λ (s : List Schedule). printed_by arguments ir s (Ok text)) same by)

    pub stops_at_depth : (r : Refusal) → handed ≡ schedules → depths ≡ depths_by arguments.depth (network_of ir) → AreSchedules ir.procs (demands_of arguments.timing) schedules → StopsBy (PrintsModule arguments.design ir depths handed) r
        → StopsBy (GivesVerilog arguments ir) r
    stops_at_depth r same are scheduled stop =
        let by = subst (λ (d : List ℕ). StopsBy (PrintsModule arguments.design ir d handed) r) are stop in
        stops_in_next (HasSchedules ir (demands_of arguments.timing)) (printed_by arguments ir) schedules r (fits schedules scheduled) (subst (λ (s : List Schedule). StopsBy (printed_by arguments ir s) r) same by)

-- ---- answers agree

true_is_no_false : (b : Bool) → b ≡ true → b ≡ false → ⊥
true_is_no_false b e f = let no : true ≡ false = sym e ∙ f in cc

none_and_some : (channels : List Channel) (depths : List ℕ) (limit : Limit) → NoneTooDeep channels depths → IsFirstTooDeep channels depths limit → ⊥
none_and_some channels depths limit none first = true_is_no_false (is_deep first.channel.ends (get_or depths first.at 0)) first.deep (none first.at first.channel first.there)

-- no first one stands before another
not_before : (channels : List Channel) (depths : List ℕ) (a b : Limit) (x : IsFirstTooDeep channels depths a) (y : IsFirstTooDeep channels depths b) → x.at < y.at → ⊥
not_before channels depths a b x y sooner = true_is_no_false (is_deep x.channel.ends (get_or depths x.at 0)) x.deep (y.before x.at x.channel sooner x.there)

one_limit : (channels : List Channel) (depths : List ℕ) (a b : Limit) → IsFirstTooDeep channels depths a → IsFirstTooDeep channels depths b → a ≡ b
one_limit channels depths a b x y =
    let no = not_before channels depths a b x y in
    let nor = not_before channels depths b a y x in
    let same : x.at ≡ y.at = by_tests x.at y.at no nor (nat_lt x.at y.at) (nat_lt y.at x.at) refl refl in
    x.is ∙ ap (λ i. limit_of (get_or depths i 0)) same ∙ sym y.is
  where
    by_tests : (m n : ℕ) → (m < n → ⊥) → (n < m → ⊥) → (s t : Bool) → nat_lt m n ≡ s → nat_lt n m ≡ t → m ≡ n
    by_tests m n h g true t e f = absurd (h (ltb-true m n e))
    by_tests m n h g false true e f = absurd (g (ltb-true n m f))
    by_tests m n h g false false e f =
        let one = ltb-false m n e in
        let other = ltb-false n m f in
        omega (arith, one, other)

prints_agree : (name : List ℕ) (ir : Package) (depths : List ℕ) (schedules : List Schedule) → Agrees (PrintsModule name ir depths schedules)
prints_agree name ir depths schedules a b (prints text none is) (prints other free also) = tt
prints_agree name ir depths schedules a b (prints text none is) (too_deep limit first) = absurd (none_and_some ir.channels depths limit none first)
prints_agree name ir depths schedules a b (too_deep limit first) (prints text none is) = absurd (none_and_some ir.channels depths limit none first)
prints_agree name ir depths schedules a b (too_deep limit first) (too_deep other found) =
    ap (λ (l : Limit). Text name (Over l)) (one_limit ir.channels depths limit other first found)

package_agrees : TheLaws → (arguments : Verilog (List ℕ)) (ir : Package) → Agrees (GivesVerilog arguments ir)
package_agrees laws arguments ir =
    then_agrees (HasSchedules ir (demands_of arguments.timing)) (printed_by arguments ir) (schedules_are_one laws ir (demands_of arguments.timing))
    (λ schedules. prints_agree arguments.design ir (depths_by arguments.depth (network_of ir)) schedules)

pub verilog_agrees : TheLaws → (holds : Contents) (arguments : Verilog (List ℕ)) → arguments.source ≡ Ir → Agrees (verilog holds arguments)
verilog_agrees laws holds arguments is =
    then_agrees (Loads holds arguments.design) (λ bytes. verilog_loaded arguments bytes) (loads_is_one holds arguments.design)
    (λ bytes. then_agrees (GivesScheduledBy arguments.source arguments.design arguments.top bytes) (λ ir. GivesVerilog arguments ir)
    (scheduled_is_one laws arguments.source arguments.design arguments.top bytes is) (package_agrees laws arguments))
