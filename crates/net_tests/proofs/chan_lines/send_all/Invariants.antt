use Rattle.std.proofs.Common.{◌≡◌, ◌≤◌, length}
use Rattle.chan_queue.specs.Passes.{IsSender, sender_knows, sender_of}
use Rattle.net_tests.proofs.chan_lines.send_all.Given as goal

abbrev pub invariant-loop : goal.invariant-loop
invariant-loop g l = IsSender l.line l.sender × (sender_knows l.sender ≡ sender_of (record { words = l.words; received = length l.words }) 2 l.next 0) × (l.next ≤ length l.words)
