-- The limits of a network by what is counted.
use Rattle.std.proofs.Common.{◌≡◌, ◌+◌, ◌≤◌, ℕ, min, Bool, true, false, if◌then◌else◌, [], length, map, get_or, Some, None, refl, sym, ap, ◌∙◌, arith}
use Rattle.std.specs.Prelude.{Option, nat_lt}
use Rattle.std.proofs.lemmas.Bool.{ltb-false}
use Rattle.std.proofs.lemmas.List.{length-append, length-map}
use Rattle.xb_span.specs.declared.limit.Limit.{Limit}
use Rattle.xb_span.specs.declared.limit.What.TheVariants as what
use Rattle.dslx_core.specs.Designs.{chan_of_outer, core_family, core_head, core_network, last_index, numbers_from}
use Rattle.dslx_core.specs.declared.design.Design.{Design}
use Rattle.dslx_interp.specs.Network.Limits.{limit_passed, network_limit}
use Rattle.dslx_interp.specs.Network.Inner.Counts.{counts_from, most, nothing}
use Rattle.dslx_interp.specs.declared.network.count.Count.{Count}
use Rattle.dslx_interp.proofs.OnNetwork.OnCount.Counted.{Counts, instances_counted, same_limit}

-- the count of the top is that of the whole family
abbrev pub top_count : Design → Count
top_count design = get_or (counts_from [] design.procs) (last_index design.procs) nothing

top_counted : (design : Design) → Counts (top_count design) (length (core_family design).procs) (length (core_family design).chans)
top_counted design = instances_counted design.procs design.name (last_index design.procs) (numbers_from 0 design.outer) (length design.outer)

head_count : (design : Design) → length (core_network design).procs ≡ length (core_family design).procs
head_count design = length-map (core_family design).procs core_head

chan_count : (design : Design) → length (core_network design).chans ≡ length design.outer + length (core_family design).chans
chan_count design = length-append (map chan_of_outer design.outer) (core_family design).chans ∙ ap (λ n. n + length (core_family design).chans) (length-map design.outer chan_of_outer)

-- the limit that is passed by the counts is the network's
pub limit_counted : (design : Design) (procs chans : ℕ) → procs ≡ (top_count design).procs → chans ≡ min ((top_count design).chans + length design.outer) most
    → limit_passed procs chans ≡ network_limit (core_network design)
limit_counted design procs chans same_procs same_chans =
    let c = top_counted design in
    let p = length (core_family design).procs in
    let n = length (core_family design).chans in
    let all : chans ≡ min (length design.outer + n) most = omega (arith, same_chans, c.chans) in
    ap (λ k. limit_passed k chans) (same_procs ∙ c.procs)
    ∙ ap (limit_passed (min p most)) all
    ∙ same_limit p (length design.outer + n)
    ∙ ap (λ k. limit_passed k (length design.outer + n)) (sym (head_count design))
    ∙ ap (limit_passed (length (core_network design).procs)) (sym (chan_count design))

-- where none is passed
pub within_limits : (p n : ℕ) → limit_passed p n ≡ None → (p ≤ 256) × (n ≤ 1024)
within_limits p n none = by_tests (nat_lt 256 p) (nat_lt 1024 n) refl refl none
  where
    limit_by : Bool → Bool → Option Limit
    limit_by a b = if a then Some (record { what = what.Procs; found = 257; most = 256 }) else if b then Some (record { what = what.Channels; found = 1025; most = 1024 }) else None

    by_tests : (a b : Bool) → nat_lt 256 p ≡ a → nat_lt 1024 n ≡ b → limit_by a b ≡ None → (p ≤ 256) × (n ≤ 1024)
    by_tests true b first second passed = absurd (cc)
    by_tests false true first second passed = absurd (cc)
    by_tests false false first second passed = (ltb-false 256 p first, ltb-false 1024 n second)

-- then the count is exact
pub exact_count : (design : Design) (procs : ℕ) → procs ≡ (top_count design).procs → length (core_network design).procs ≤ 256 → length (core_network design).procs ≡ procs
exact_count design procs same few = omega (arith, same, (top_counted design).procs, head_count design, few)
