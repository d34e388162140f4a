use Rattle.std.proofs.Common.{◌≡◌, ◌≤◌, length, take}
use Rattle.chan_queue.specs.Passes.{IsReceiver, receiver_knows, receiver_of}
use Rattle.net_tests.proofs.chan_lines.receive_all.Given as goal

abbrev pub invariant-loop : goal.invariant-loop
invariant-loop g l =
    IsReceiver l.line l.receiver
    × (receiver_knows l.receiver ≡ receiver_of (record { words = l.words; received = length l.words }) 2 (length l.got.items) 0)
    × (l.got.items ≡ take (length l.got.items) l.words)
    × (length l.got.items ≤ length l.words)
