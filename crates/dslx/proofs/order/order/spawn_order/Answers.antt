use Rattle.std.proofs.Common.{◌≡◌, ◌∙◌, ℕ, List, Option, Some, true, false, sym}
use mathlib.Core.Bool.{true≢false}
use Rattle.dslx_tree.specs.declared.item.Definition.TheVariants as d
use Rattle.dslx_core.specs.Lowering.Functions.{Instantiated}
use Rattle.dslx.proofs.OnOrder.OnTop.{ordered, top_within}
use Rattle.dslx.proofs.order.order.spawn_order.Goals as goal

pub returns-then-branch : goal.returns-then-branch
returns-then-branch c = λ name faults is.
    let m = c.args.text.now in
    let p = c.args.top.now in
    let top = c.lower_total_configs.ensures.tops m name faults p is in
    let ends = c.checked_items_mention_such.ensures.ends m name faults p.name.name (d.Proc p) top.checked.named (c.what_is_checked_is_known.ensures.tops m name faults p is) in
    let first : Instantiated = record { name = c.in_ok-copy_name.field-0; parametric_args = c.in_ok-top_parametric_args.field-0 } in
    let within = top_within m name p first c.in_ok-copy_name.ensures c.in_ok-top_parametric_args.ensures c.len.result c.len.ensures top ends in
    ordered m name p first c.in_ok-copy_name.ensures c.in_ok-top_parametric_args.ensures c.new-order.result.items c.add_instance.new.order.items c.new-order.ensures.items (c.in_ok-add_instance.ensures name faults within).1

pub returns : goal.returns
returns c = λ name faults is.
    let m = c.args.text.now in
    let p = c.args.top.now in
    let top = c.lower_total_configs.ensures.tops m name faults p is in
    let ends = c.checked_items_mention_such.ensures.ends m name faults p.name.name (d.Proc p) top.checked.named (c.what_is_checked_is_known.ensures.tops m name faults p is) in
    let first : Instantiated = record { name = c.in_ok-copy_name.field-0; parametric_args = c.in_ok-top_parametric_args.field-0 } in
    let within = top_within m name p first c.in_ok-copy_name.ensures c.in_ok-top_parametric_args.ensures c.len.result c.len.ensures top ends in
    true≢false (sym (c.in_ok-add_instance.ensures name faults within).0 ∙ c.if-branch.false)
