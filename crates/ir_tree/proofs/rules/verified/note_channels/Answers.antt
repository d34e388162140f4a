use Rattle.std.proofs.Common.{◌≡◌, ◌<◌, [], take, length, ap, ◌∙◌, arith, subst, ℕ, List}
use Rattle.std.specs.Str.{bytes_eq}
use Rattle.std.specs.Prelude.{not, ◌||◌}
use Rattle.ir_tree.specs.Rules.Checks.{noted}
use Rattle.ir_tree.specs.Rules.Lines.{is_among, channel_checks}
use Rattle.ir_tree.specs.Rules.Verified.{channels_checks}
use Rattle.ir_tree.specs.Rules.Inner.Seen.{has}
use Rattle.ir_tree.proofs.OnRules.Walks.{channel_names, channel_seen, channels_step}
use Rattle.ir_tree.proofs.rules.verified.note_channels.Goals as goal

pub channels-preserved : goal.channels-preserved
channels-preserved c =
    let cs = c.args.channels.now in
    let i = c.channels.i in
    let here = c.index-channels-i.result in
    let names = channel_names (take i cs) in
    let below : i < length cs = omega arith in
    let is_new : c.in_ok-is_new.is_new ≡ not (is_among names here.name) =
    c.in_ok-is_new.ensures.is_new ∙ ap (λ n. not (has c.channels.names n)) c.as_str.ensures ∙ ap not (c.channels.invariant.seen here.name) in
    record {
      seen = channel_seen cs i here (has c.channels.names) (has c.insert.new.self) below c.index-channels-i.is
          (subst (λ n. (q : List ℕ) → has c.insert.new.self q ≡ (bytes_eq n q || has c.channels.names q)) c.as_str.ensures c.in_ok-is_new.ensures.names)
          c.channels.invariant.seen;
      faults = channels_step c.args.spans.now cs i here c.channels.held c.note_channel-held.result (noted c.args.held (channels_checks c.args.spans.now [] 0 cs)) below c.index-channels-i.is
          (c.note_channel-held.ensures names is_new ∙ ap (λ s. noted c.channels.held (channel_checks s names i here)) c.span_at.ensures)
          c.channels.invariant.faults;
    }
