use Rattle.std.proofs.Common.{◌≡◌, ◌∙◌, length, ap, sym, subst, map}
use Rattle.std.specs.Prelude.{slice_get}
use Rattle.std.proofs.lemmas.List.{length-map}
use Rattle.dslx_core.specs.Designs.{chan_of_outer}
use Rattle.dslx_interp.specs.Network.Inner.Pending.{ArePending, all_chans, all_instances, all_procs}
use Rattle.dslx_interp.specs.declared.network.family.Family.{Family}
use Rattle.dslx_interp.proofs.OnNetwork.OnFamily.Bounds.{top_is_pending}
use Rattle.dslx_interp.proofs.OnNetwork.OnFamily.Families.{instances_are, network_is}
use Rattle.dslx_interp.proofs.network.network.made.Goals as goal

pub place_all-requires-clause-pending : goal.place_all-requires-clause-pending
place_all-requires-clause-pending c =
    let procs = c.args.design.now.procs in
    let pending = c.in_ok-pending.pending in
    let chans = c.in_ok-outer_chans.field-0.items in
    let count : length chans ≡ length c.args.design.now.outer =
    ap length c.in_ok-outer_chans.ensures ∙ length-map c.as_slice.result.now chan_of_outer ∙ ap length c.as_slice.ensures in
    let top = top_is_pending c.args.design.now c.requires.linked in
    subst (λ is. ArePending is (length chans) pending) (sym c.as_slice-instances.ensures)
    (subst (λ n. ArePending procs n pending) (sym count) (subst (ArePending procs (length c.args.design.now.outer)) (sym c.in_ok-pending.ensures) top))

pub returns-clause-net : goal.returns-clause-net
returns-clause-net c =
    let family : Family = record { procs = c.new.result; instances = c.new-2.result; chans = c.in_ok-outer_chans.field-0 } in
    let pending = c.in_ok-pending.pending in
    let outer : c.in_ok-outer_chans.field-0.items ≡ map chan_of_outer c.args.design.now.outer = c.in_ok-outer_chans.ensures ∙ ap (map chan_of_outer) c.as_slice.ensures in
    network_is c.args.design.now family pending c.in_ok-name_copy.field-0 c.from_vec.result c.from_vec-2.result c.new.ensures.items outer c.in_ok-pending.ensures c.in_ok-name_copy.ensures
    (c.from_vec.ensures ∙ c.in_ok-place_all.ensures.procs ∙ ap (λ is. all_procs is family pending) c.as_slice-instances.ensures)
    (c.from_vec-2.ensures ∙ c.in_ok-place_all.ensures.chans ∙ ap (λ is. all_chans is family pending) c.as_slice-instances.ensures)

pub returns-clause-instances : goal.returns-clause-instances
returns-clause-instances c =
    let design = c.args.design.now in
    let family : Family = record { procs = c.new.result; instances = c.new-2.result; chans = c.in_ok-outer_chans.field-0 } in
    let pending = c.in_ok-pending.pending in
    let outer : c.in_ok-outer_chans.field-0.items ≡ map chan_of_outer design.outer = c.in_ok-outer_chans.ensures ∙ ap (map chan_of_outer) c.as_slice.ensures in
    instances_are design family pending (map (slice_get design.procs) c.place_all.new.family.instances.items) c.new-2.ensures.items outer c.in_ok-pending.ensures
    (ap (λ is. map (slice_get is) c.place_all.new.family.instances.items) (sym c.as_slice-instances.ensures) ∙ c.in_ok-place_all.ensures.instances ∙ ap (λ is. all_instances is family pending) c.as_slice-instances.ensures)
