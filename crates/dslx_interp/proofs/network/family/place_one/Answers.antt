use Rattle.std.proofs.Common.{◌≡◌, ◌+◌, ◌++◌, ◌∙◌, length, ap, sym, subst, arith}
use Rattle.dslx_interp.specs.Network.Linked.{AreChildren}
use Rattle.dslx_interp.specs.Network.Inner.Pending.{ArePending, children_pending}
use Rattle.dslx_interp.proofs.OnNetwork.OnFamily.Bounds.{children_are_pending, children_linked, found_at, pending_joined, pending_more}
use Rattle.dslx_interp.proofs.OnNetwork.OnFamily.Families.{channels_then, own_fit, placed_chans, placed_instances, placed_procs}
use Rattle.dslx_interp.proofs.network.family.place_one.Goals as goal

pub place_own-requires-clause-few : goal.place_own-requires-clause-few
place_own-requires-clause-few c =
    let there = found_at c.args.instances.now c.args.next.instance c.requires.next.instance c.index-instances-next.result c.requires.next.there c.index-instances-next.is in
    own_fit c.args.instances.now c.args.next c.args.pending.now c.index-instances-next.result c.args.family.now 1024 there c.requires.few

pub push_children-requires : goal.push_children-requires
push_children-requires c =
    let is = c.args.instances.now in
    let i = c.index-instances-next.result in
    let there = found_at is c.args.next.instance c.requires.next.instance i c.requires.next.there c.index-instances-next.is in
    let fits = own_fit is c.args.next c.args.pending.now i c.args.family.now 1024 there c.requires.few in
    let linked = children_linked is (length c.args.family.now.chans.items) c.args.next i c.requires.next there (c.requires.linked c.args.next.instance i there) in
    (length i.made, is, omega (arith, fits, c.in_ok-number.ensures.number), subst (AreChildren is (length c.args.next.given + length i.made)) (sym c.as_slice.ensures) linked)

pub returns-clause-procs : goal.returns-clause-procs
returns-clause-procs c =
    let is = c.args.instances.now in
    let i = c.index-instances-next.result in
    let next = c.args.next in
    let number = length c.args.family.now.chans.items in
    let there = found_at is next.instance c.requires.next.instance i c.requires.next.there c.index-instances-next.is in
    let behind : c.push_children.new.pending ≡ children_pending next.path next.instance next.given number 0 i.children ++ c.args.pending.now =
    c.in_ok-push_children.ensures
    ∙ ap (λ cs. children_pending next.path next.instance next.given c.in_ok-number.number 0 cs ++ c.args.pending.now) c.as_slice.ensures
    ∙ ap (λ n. children_pending next.path next.instance next.given n 0 i.children ++ c.args.pending.now) c.in_ok-number.ensures.number in
    placed_procs is next c.args.pending.now c.push_children.new.pending i c.args.family.now c.place_own.new.family there c.in_ok-number.ensures.procs c.in_ok-number.ensures.chans behind

pub returns-clause-instances : goal.returns-clause-instances
returns-clause-instances c =
    let is = c.args.instances.now in
    let i = c.index-instances-next.result in
    let next = c.args.next in
    let number = length c.args.family.now.chans.items in
    let there = found_at is next.instance c.requires.next.instance i c.requires.next.there c.index-instances-next.is in
    let behind : c.push_children.new.pending ≡ children_pending next.path next.instance next.given number 0 i.children ++ c.args.pending.now =
    c.in_ok-push_children.ensures
    ∙ ap (λ cs. children_pending next.path next.instance next.given c.in_ok-number.number 0 cs ++ c.args.pending.now) c.as_slice.ensures
    ∙ ap (λ n. children_pending next.path next.instance next.given n 0 i.children ++ c.args.pending.now) c.in_ok-number.ensures.number in
    placed_instances is next c.args.pending.now c.push_children.new.pending i c.args.family.now c.place_own.new.family there c.in_ok-number.ensures.instances c.in_ok-number.ensures.chans behind

pub returns-clause-chans : goal.returns-clause-chans
returns-clause-chans c =
    let is = c.args.instances.now in
    let i = c.index-instances-next.result in
    let next = c.args.next in
    let number = length c.args.family.now.chans.items in
    let there = found_at is next.instance c.requires.next.instance i c.requires.next.there c.index-instances-next.is in
    let behind : c.push_children.new.pending ≡ children_pending next.path next.instance next.given number 0 i.children ++ c.args.pending.now =
    c.in_ok-push_children.ensures
    ∙ ap (λ cs. children_pending next.path next.instance next.given c.in_ok-number.number 0 cs ++ c.args.pending.now) c.as_slice.ensures
    ∙ ap (λ n. children_pending next.path next.instance next.given n 0 i.children ++ c.args.pending.now) c.in_ok-number.ensures.number in
    placed_chans is next c.args.pending.now c.push_children.new.pending i c.args.family.now c.place_own.new.family there c.in_ok-number.ensures.chans behind

pub returns-clause-pending : goal.returns-clause-pending
returns-clause-pending c =
    let is = c.args.instances.now in
    let i = c.index-instances-next.result in
    let next = c.args.next in
    let number = length c.args.family.now.chans.items in
    let there = found_at is next.instance c.requires.next.instance i c.requires.next.there c.index-instances-next.is in
    let behind : c.push_children.new.pending ≡ children_pending next.path next.instance next.given number 0 i.children ++ c.args.pending.now =
    c.in_ok-push_children.ensures
    ∙ ap (λ cs. children_pending next.path next.instance next.given c.in_ok-number.number 0 cs ++ c.args.pending.now) c.as_slice.ensures
    ∙ ap (λ n. children_pending next.path next.instance next.given n 0 i.children ++ c.args.pending.now) c.in_ok-number.ensures.number in
    let linked = children_linked is number next i c.requires.next there (c.requires.linked next.instance i there) in
    let starts = children_are_pending is next.path next.instance next.given number (length i.made) 0 i.children i there c.requires.next.below linked in
    let others = pending_more is number (number + length i.made) c.args.pending.now (omega arith) c.requires.pending in
    let all = pending_joined is (number + length i.made) (children_pending next.path next.instance next.given number 0 i.children) c.args.pending.now starts others in
    subst (ArePending is (length c.place_own.new.family.chans.items)) (sym behind)
    (subst (λ n. ArePending is n (children_pending next.path next.instance next.given number 0 i.children ++ c.args.pending.now))
    (sym (channels_then next i c.args.family.now.chans.items c.place_own.new.family.chans.items c.in_ok-number.ensures.chans)) all)
