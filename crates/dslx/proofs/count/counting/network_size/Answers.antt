use Rattle.std.proofs.Common.{◌∙◌, ap}
use Rattle.dslx_tree.specs.declared.item.Definition.TheVariants as d
use Rattle.dslx.specs.Count.Counting.{last_of}
use Rattle.dslx.specs.Count.Sizes.{both_sizes, size_of_count}
use Rattle.dslx.proofs.OnCount.OnCounting.{network_sized}
use Rattle.dslx.proofs.count.counting.network_size.Goals as goal

pub returns : goal.returns
returns c = λ name faults top order last.
    let m = c.args.text.now in
    let p = c.args.top.now in
    let checked = c.lower_total_configs.ensures.tops m name faults p top in
    let ends = c.checked_items_mention_such.ensures.ends m name faults p.name.name (d.Proc p) checked.checked.named (c.what_is_checked_is_known.ensures.tops m name faults p top) in
    let outer = c.outer_channels-outer.ensures ∙ ap (λ n. size_of_count (record { procs = 0; channels = n })) c.len.ensures in
    let size = c.last_size.ensures ∙ ap last_of (c.as_slice.ensures.value ∙ c.in_ok-sizes.ensures) in
    c.and.ensures ∙ (λ i. both_sizes (outer i) (size i)) ∙ network_sized m name (c.lower_total_configs.ensures.configs m name faults) p c.args.order.now order last ends
