use Rattle.std.proofs.Common.{◌≡◌, ◌-◌, ◌≤◌, ◌++◌, Bool, get_or, length, take, drop, map, sym, subst, cond}
use Rattle.std.specs.Prelude.{OnOk}
use Rattle.xb_bits.specs.Word.{Word}
use Rattle.net_core.specs.Behavior.{IsWordOf}
use Rattle.vlog_tree.specs.Value.{bit, atom_value}
use Rattle.block_build.specs.Netlist.Added.{AddsWires}
use Rattle.block_build.specs.Netlist.Leaves.{AreSome, cut_into, total_width}
use Rattle.block_build.proofs.OnNetlist.OnChoosing.{first_rest, receive_rest}
use Rattle.block_build.proofs.netlist.choices.+receive.Goals as goal

pub returns-in_ok-push-in-len1-up : goal.returns-in_ok-push-in-len1-up
returns-in_ok-push-in-len1-up t c =
    let ws = c.args.widths.now in
    subst (λ us. OnOk c.receive.result (AddsWires c.args.wires.now c.receive.new.wires (λ v. (b : Bool) (x : Word) → v c.args.word.0 ≡ x → IsWordOf c.args.all x → total_width us ≡ c.args.left → c.args.left ≤ c.args.all → AreSome us
    → atom_value v c.args.on ≡ bit b → map (atom_value v) c.receive.new.numbers.items ≡ map (atom_value v) c.args.numbers.now.items ++ cut_into us (cond b x.value 0))))
    (sym (first_rest ws 0 c.in-len1-up.len_at_least))
    (receive_rest c.receive.result c.args.wires.now c.driven.new.self c.receive.new.wires c.args.all c.args.left c.saturating_sub-low.result (get_or ws 0 0) c.args.word c.args.on c.zeros.result c.in_ok-driven-in-len1-up.field-0 c.part-here.result
    (take (length ws - 1) (drop 1 ws)) c.args.numbers.now.items c.push.new.self.items c.receive.new.numbers.items
    c.part-here.ensures c.ranges.all.fits c.saturating_sub-low.ensures c.zeros.ensures c.in_ok-driven-in-len1-up.ensures c.in_ok-push-in-len1-up.ensures.items c.receive.ensures)
