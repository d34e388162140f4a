use Rattle.std.proofs.Common.{◌≡◌, ◌<◌, [], ℕ, List, take, length, get_or, ap, ◌∙◌, arith, subst}
use Rattle.std.specs.Prelude.{not, ◌||◌}
use Rattle.std.specs.Str.{bytes_eq}
use Rattle.ir_tree.specs.Rules.Checks.{noted}
use Rattle.ir_tree.specs.Rules.Lines.{is_among}
use Rattle.ir_tree.specs.Rules.Verified.{procs_checks, proc_checks, nothing_seen}
use Rattle.ir_tree.specs.Rules.Inner.Seen.{has}
use Rattle.ir_tree.specs.Rules.Inner.Scopes.{seen_by}
use Rattle.ir_tree.proofs.OnRules.Walks.{proc_names, proc_seen, procs_step}
use Rattle.ir_tree.proofs.rules.verified.note_procs.Goals as goal

pub procs-preserved : goal.procs-preserved
procs-preserved c =
    let channels = c.args.channels.now in
    let line_spans = c.args.line_spans.now in
    let ps = c.args.procs.now in
    let i = c.procs.i in
    let here = c.index-procs-i.result in
    let names = proc_names (take i ps) in
    let seen = seen_by c.procs.seen in
    let below : i < length ps = omega arith in
    let is_new : c.in_ok-is_new.is_new ≡ not (is_among names here.name) =
    c.in_ok-is_new.ensures.is_new ∙ ap (λ n. not (has c.procs.names n)) c.as_str.ensures ∙ ap not (c.procs.invariant.seen here.name) in
    record {
      elsewhere = c.procs.invariant.elsewhere;
      seen = proc_seen ps i here (has c.procs.names) (has c.insert.new.self) below c.index-procs-i.is
          (subst (λ n. (q : List ℕ) → has c.insert.new.self q ≡ (bytes_eq n q || has c.procs.names q)) c.as_str.ensures c.in_ok-is_new.ensures.names)
          c.procs.invariant.seen;
      faults = procs_step channels line_spans ps i here seen (seen_by c.note_proc-held.new.seen) c.procs.held c.note_proc-held.result (noted c.args.held (procs_checks channels line_spans [] 0 (nothing_seen channels) ps)) below c.index-procs-i.is c.note_proc-held.ensures.seen
          (c.note_proc-held.ensures.fault names is_new
          ∙ ap (λ z. noted c.procs.held (proc_checks channels z names seen here)) (c.spans_at-place.ensures ∙ ap (λ e. get_or line_spans i e) c.procs.invariant.elsewhere))
          c.procs.invariant.faults;
    }
