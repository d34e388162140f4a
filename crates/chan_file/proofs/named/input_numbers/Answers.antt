use Rattle.std.proofs.Common.{◌≡◌, ◌+◌, ◌-◌, ◌<◌, length, get_or, ap, subst, sym, ◌∙◌, arith}
use Rattle.chan_file.proofs.Names.{KnowsFrom, knows_past, knows_more}
use Rattle.chan_file.proofs.named.input_numbers.Goals as goal
use Rattle.chan_file.proofs.named.input_numbers.Goals.{then-is_input+in_ok-insert, else-is_input}

pub chans-preserved : goal.chans-preserved
chans-preserved c =
    let chans = c.as_slice-chans.result.now in
    let place : length chans - 1 - c.chans.i ≡ length chans - (c.chans.i + 1) = omega arith in
    let next : length chans - c.chans.i ≡ length chans - (c.chans.i + 1) + 1 = omega arith in
    let within : length chans - (c.chans.i + 1) < length chans = omega arith in
    let known = subst (λ k. KnowsFrom chans k c.chans.numbers) next c.chans.invariant in
    let there = c.index-chans-c.is ∙ ap (λ k. get_or chans k c.index-chans-c.result) place in
    elim c.if-is_input.branch [
      | then-is_input+in_ok-insert w ↦
          let some = sym c.is_input.ensures ∙ w.if-is_input.true in
          let key = w.as_bytes.ensures.value ∙ w.as_str.ensures in
          subst (λ m. KnowsFrom chans (length chans - (c.chans.i + 1)) m) (sym w.numbers-is)
          (knows_more chans _ c.index-chans-c.result c.chans.numbers w.insert.new.self _ _ within there some key place w.in_ok-insert.ensures.updates known)
      | else-is_input w ↦
          let none = sym c.is_input.ensures ∙ w.if-is_input.false in
          subst (λ m. KnowsFrom chans (length chans - (c.chans.i + 1)) m) (sym w.numbers-is) (knows_past chans _ c.index-chans-c.result c.chans.numbers within there none known)
    ]
