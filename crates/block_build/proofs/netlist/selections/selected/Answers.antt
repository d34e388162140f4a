use Rattle.std.proofs.Common.{◌-◌, length, arith}
use Rattle.block_build.proofs.OnNetlist.OnRequests.{get_same}
use Rattle.block_build.proofs.OnNetlist.OnSelections.{selected_given, selected_by_last, no_cases}
use Rattle.block_build.proofs.netlist.selections.selected.Goals as goal

pub returns-in-Some : goal.returns-in-Some
returns-in-Some c =
    selected_given c.one_of.result c.args.wires.now c.one_of.new.wires c.args.scope c.args.selector c.args.ty.now c.args.cases.now c.args.default c.in-Some.default c.in_ok-number.number c.deref.result.now c.in_ok-widths.widths.items
    c.in-Some.is c.in_ok-number.ensures c.deref.ensures.value c.in_ok-widths.ensures c.one_of.ensures

pub returns-in-empty : goal.returns-in-empty
returns-in-empty c = no_cases c.args.wires.now c.args.scope c.args.selector c.args.ty.now c.args.cases.now c.args.default c.new.result c.in-None.is c.in-empty.len_below

pub returns : goal.returns
returns c =
    selected_by_last c.one_of-in-len1-up.result c.args.wires.now c.one_of-in-len1-up.new.wires c.args.scope c.args.selector c.args.ty.now c.args.cases.now c.args.default _ c.in_ok-number.number c.deref-in-len1-up.result.now
    c.in_ok-widths.widths.items c.in-None.is c.in-len1-up.len_at_least (get_same c.args.cases.now (length c.args.cases.now - 1) _ _ (omega (arith, c.in-len1-up.len_at_least))) c.in_ok-number.ensures c.deref-in-len1-up.ensures.value c.in_ok-widths.ensures c.one_of-in-len1-up.ensures
