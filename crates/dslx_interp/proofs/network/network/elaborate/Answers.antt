use Rattle.std.proofs.Common.{◌≡◌, ◌∙◌, ◌+◌, min, [], length, get_or, None, refl, ap, sym, inr}
use Rattle.dslx_core.specs.Designs.{core_network, last_index}
use Rattle.dslx_interp.specs.Network.Limits.{limit_passed, network_limit}
use Rattle.dslx_interp.specs.Network.Inner.Counts.{counts_from, most, nothing}
use Rattle.dslx_interp.specs.declared.network.count.Count.{Count}
use Rattle.dslx_interp.proofs.OnNetwork.OnCount.Limits.{exact_count, limit_counted, top_count, within_limits}
use Rattle.dslx_interp.proofs.network.network.elaborate.Goals as goal

pub returns-in-Some-clause-refused : goal.returns-in-Some-clause-refused
returns-in-Some-clause-refused c =
    let design = c.args.design.now in
    let count = c.count_at-count.result in
    let all : c.as_slice.result.now ≡ counts_from [] design.procs = c.as_slice.ensures.value ∙ c.in_ok-counts.ensures ∙ ap (counts_from []) c.as_slice-instances.ensures in
    let last : c.saturating_sub-top.result ≡ last_index design.procs = c.saturating_sub-top.ensures ∙ ap last_index c.as_slice-instances.ensures in
    let counted : count ≡ top_count design =
    c.count_at-count.ensures ∙ ap (λ cs. get_or cs c.saturating_sub-top.result nothing) all ∙ ap (λ k. get_or (counts_from [] design.procs) k nothing) last in
    let chans : c.saturating_add-chans.result ≡ min ((top_count design).chans + length design.outer) most =
    c.saturating_add-chans.ensures ∙ ap (λ (n : Count). min (n.chans + c.len.result) most) counted ∙ ap (λ n. min ((top_count design).chans + n) most) c.len.ensures in
    let limits : limit_passed count.procs c.saturating_add-chans.result ≡ network_limit (core_network design) =
    limit_counted design count.procs c.saturating_add-chans.result (ap (λ (n : Count). n.procs) counted) chans in
    inr (c.in-Some.limit, sym limits ∙ sym c.limit_passed.ensures ∙ c.in-Some.is, refl)

pub made-requires-clause-count : goal.made-requires-clause-count
made-requires-clause-count c =
    let design = c.args.design.now in
    let count = c.count_at-count.result in
    let all : c.as_slice.result.now ≡ counts_from [] design.procs = c.as_slice.ensures.value ∙ c.in_ok-counts.ensures ∙ ap (counts_from []) c.as_slice-instances.ensures in
    let last : c.saturating_sub-top.result ≡ last_index design.procs = c.saturating_sub-top.ensures ∙ ap last_index c.as_slice-instances.ensures in
    let counted : count ≡ top_count design =
    c.count_at-count.ensures ∙ ap (λ cs. get_or cs c.saturating_sub-top.result nothing) all ∙ ap (λ k. get_or (counts_from [] design.procs) k nothing) last in
    let chans : c.saturating_add-chans.result ≡ min ((top_count design).chans + length design.outer) most =
    c.saturating_add-chans.ensures ∙ ap (λ (n : Count). min (n.chans + c.len.result) most) counted ∙ ap (λ n. min ((top_count design).chans + n) most) c.len.ensures in
    let limits : limit_passed count.procs c.saturating_add-chans.result ≡ network_limit (core_network design) =
    limit_counted design count.procs c.saturating_add-chans.result (ap (λ (n : Count). n.procs) counted) chans in
    let none : network_limit (core_network design) ≡ None = sym limits ∙ sym c.limit_passed.ensures ∙ c.in_default.is in
    let few = within_limits (length (core_network design).procs) (length (core_network design).chans) none in
    exact_count design count.procs (ap (λ (n : Count). n.procs) counted) few.0

pub made-requires-clause-few : goal.made-requires-clause-few
made-requires-clause-few c =
    let design = c.args.design.now in
    let count = c.count_at-count.result in
    let all : c.as_slice.result.now ≡ counts_from [] design.procs = c.as_slice.ensures.value ∙ c.in_ok-counts.ensures ∙ ap (counts_from []) c.as_slice-instances.ensures in
    let last : c.saturating_sub-top.result ≡ last_index design.procs = c.saturating_sub-top.ensures ∙ ap last_index c.as_slice-instances.ensures in
    let counted : count ≡ top_count design =
    c.count_at-count.ensures ∙ ap (λ cs. get_or cs c.saturating_sub-top.result nothing) all ∙ ap (λ k. get_or (counts_from [] design.procs) k nothing) last in
    let chans : c.saturating_add-chans.result ≡ min ((top_count design).chans + length design.outer) most =
    c.saturating_add-chans.ensures ∙ ap (λ (n : Count). min (n.chans + c.len.result) most) counted ∙ ap (λ n. min ((top_count design).chans + n) most) c.len.ensures in
    let limits : limit_passed count.procs c.saturating_add-chans.result ≡ network_limit (core_network design) =
    limit_counted design count.procs c.saturating_add-chans.result (ap (λ (n : Count). n.procs) counted) chans in
    let none : network_limit (core_network design) ≡ None = sym limits ∙ sym c.limit_passed.ensures ∙ c.in_default.is in
    let few = within_limits (length (core_network design).procs) (length (core_network design).chans) none in
    few.1

pub returns-clause-within : goal.returns-clause-within
returns-clause-within c =
    let design = c.args.design.now in
    let count = c.count_at-count.result in
    let all : c.as_slice.result.now ≡ counts_from [] design.procs = c.as_slice.ensures.value ∙ c.in_ok-counts.ensures ∙ ap (counts_from []) c.as_slice-instances.ensures in
    let last : c.saturating_sub-top.result ≡ last_index design.procs = c.saturating_sub-top.ensures ∙ ap last_index c.as_slice-instances.ensures in
    let counted : count ≡ top_count design =
    c.count_at-count.ensures ∙ ap (λ cs. get_or cs c.saturating_sub-top.result nothing) all ∙ ap (λ k. get_or (counts_from [] design.procs) k nothing) last in
    let chans : c.saturating_add-chans.result ≡ min ((top_count design).chans + length design.outer) most =
    c.saturating_add-chans.ensures ∙ ap (λ (n : Count). min (n.chans + c.len.result) most) counted ∙ ap (λ n. min ((top_count design).chans + n) most) c.len.ensures in
    let limits : limit_passed count.procs c.saturating_add-chans.result ≡ network_limit (core_network design) =
    limit_counted design count.procs c.saturating_add-chans.result (ap (λ (n : Count). n.procs) counted) chans in
    let none : network_limit (core_network design) ≡ None = sym limits ∙ sym c.limit_passed.ensures ∙ c.in_default.is in
    ap network_limit c.in_ok-made.ensures.net ∙ none
