use Rattle.std.proofs.Common.{◌≡◌, ℕ, List, [], take, drop}
use Rattle.ir_tree.specs.Rules.Checks.{noted}
use Rattle.ir_tree.specs.Rules.Lines.{is_among}
use Rattle.ir_tree.specs.Rules.Verified.{channels_checks}
use Rattle.ir_tree.specs.Rules.Inner.Seen.{has}
use Rattle.ir_tree.proofs.OnRules.Walks.{channel_names}
use Rattle.ir_tree.proofs.rules.verified.note_channels.Given as goal

abbrev pub invariant-channels : goal.invariant-channels
invariant-channels l =
    record {
      seen : (q : List ℕ) → has l.names q ≡ is_among (channel_names (take l.i l.channels)) q;
      faults : noted l.held (channels_checks l.spans (channel_names (take l.i l.channels)) l.i (drop l.i l.channels)) ≡ noted l.fn.held (channels_checks l.spans [] 0 l.channels);
    }
