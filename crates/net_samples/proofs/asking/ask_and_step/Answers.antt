use Rattle.std.proofs.Common.{◌∙◌, sym, map}
use Rattle.net_core.specs.Cuts.{empty_cut}
use Rattle.net_core.specs.WellFormed.{run_of}
use Rattle.net_core.proofs.Lemmas.{behavior_there, each_keeps, behaviors_zipped}
use Rattle.net_samples.specs.Behaviors.{behavior_of}
use Rattle.net_samples.specs.Inner.Keeps.{sample_keeps_types}
use Rattle.net_samples.proofs.asking.ask_and_step.Goals as goal

pub can-requires : goal.can-requires
can-requires c =
    let bs = map behavior_of c.args.samples.now in
    let run = run_of c.args.net.now bs c.args.inputs.now.words 1 c.args.depths.now in
    let keep = each_keeps behavior_of sample_keeps_types c.args.samples.now in
    let same = behaviors_zipped c.args.net.now.procs bs c.requires.samples.count in
    (run, empty_cut, c.in_ok-config.ensures bs c.requires.samples keep, behavior_there behavior_of run c.args.samples.now 0 c.index-samples-0.result same c.requires.some c.index-samples-0.is)

pub step-requires-clause-asked : goal.step-requires-clause-asked
step-requires-clause-asked c =
    let bs = map behavior_of c.args.samples.now in
    let run = run_of c.args.net.now bs c.args.inputs.now.words 1 c.args.depths.now in
    let keep = each_keeps behavior_of sample_keeps_types c.args.samples.now in
    let same = behaviors_zipped c.args.net.now.procs bs c.requires.samples.count in
    (run, empty_cut, c.in_ok-config.ensures bs c.requires.samples keep, behavior_there behavior_of run c.args.samples.now 0 c.index-samples-0-2.result same c.requires.some c.index-samples-0-2.is)

pub step-requires-clause-keeps : goal.step-requires-clause-keeps
step-requires-clause-keeps c progress e = tt

pub returns : goal.returns
returns c =
    let bs = map behavior_of c.args.samples.now in
    let run = run_of c.args.net.now bs c.args.inputs.now.words 1 c.args.depths.now in
    let keep = each_keeps behavior_of sample_keeps_types c.args.samples.now in
    let same = behaviors_zipped c.args.net.now.procs bs c.requires.samples.count in
    let shown = c.in_ok-config.ensures bs c.requires.samples keep in
    let asked = c.in_ok-can.ensures run empty_cut shown (behavior_there behavior_of run c.args.samples.now 0 c.index-samples-0.result same c.requires.some c.index-samples-0.is) in
    let made = c.in_ok-made.ensures.ok run empty_cut shown (behavior_there behavior_of run c.args.samples.now 0 c.index-samples-0-2.result same c.requires.some c.index-samples-0-2.is) in
    asked ∙ sym made.0
