use Rattle.std.proofs.Common.{◌≡◌, map, sym, subst}
use Rattle.xb_span.specs.declared.read_error.ReadError.{ReadError}
use Rattle.xb_span.specs.declared.read_error.ReadError.TheVariants.{OutOfMemory}
use Rattle.net_core.specs.declared.net.Net.{Net}
use Rattle.dslx_core.specs.Designs.{core_network}
use Rattle.dslx_interp.specs.Network.DslxBodies.{behavior_of}
use Rattle.dslx_elab.specs.Runs.{RunsText}
use Rattle.dslx_elab.proofs.OnRuns.{err_handed, only_memory}
use Rattle.dslx_elab.proofs.network.network_there.Goals as goal

pub elaborate-requires : goal.elaborate-requires
elaborate-requires c = c.accepted_texts_run.ensures.linked c.requires.text c.requires.top c.args.design.now c.requires.made

pub returns-in_err-net-clause-refused : goal.returns-in_err-net-clause-refused
returns-in_err-net-clause-refused c =
    err_handed c.from_residual.result c.in_err-net.field-0.0 (λ (e : ReadError). e ≡ OutOfMemory) c.from_residual.ensures.1
    (only_memory (core_network c.args.design.now) c.in_err-net.field-0.0 c.in_err-net.ensures.refused (c.accepted_texts_run.ensures.limits c.requires.text c.requires.top c.args.design.now c.requires.accepted c.requires.made c.requires.checked))

pub bodies_of-requires-clause-words : goal.bodies_of-requires-clause-words
bodies_of-requires-clause-words c = c.accepted_texts_run.ensures.words c.requires.text c.requires.top c.args.design.now c.requires.made

pub bodies_of-requires-clause-keep : goal.bodies_of-requires-clause-keep
bodies_of-requires-clause-keep c = (c.accepted_texts_run.ensures.runs c.requires.text c.requires.top c.args.design.now c.requires.accepted c.requires.made c.requires.checked).keep

pub returns : goal.returns
returns c = record {
  runs = λ m top a from checked.
      subst (λ (net : Net). RunsText m top net (map behavior_of c.in_ok-bodies.bodies.items)) (sym c.in_ok-net.ensures.net)
      (subst (RunsText m top (core_network c.args.design.now)) (sym c.in_ok-bodies.ensures) (c.accepted_texts_run.ensures.runs m top c.args.design.now a from checked));
  refused = tt;
}
