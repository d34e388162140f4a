use Rattle.std.proofs.Common.{◌≡◌, ℕ, ◌-◌, List, length, drop}
use Rattle.std.specs.BTreeMap.{get_by}
use Rattle.std.specs.Cmp.Lexicographic.{slice_cmp}
use Rattle.std.specs.Ordering.{nat_cmp}
use Rattle.chan_file.specs.ChannelFile.{input_from}
use Rattle.chan_file.proofs.named.input_numbers.Given as goal

abbrev pub invariant-chans : goal.invariant-chans
invariant-chans l =
    (name : List ℕ) → get_by (λ k. slice_cmp nat_cmp name k.now) l.numbers ≡ input_from (length l.chans - l.i) (drop (length l.chans - l.i) l.chans) name
