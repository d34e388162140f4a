use Rattle.std.proofs.Common.{◌≡◌, ◌∙◌, length, drop, subst, sym, refl}
use Rattle.xb_bits.specs.Word.{Word}
use Rattle.vlog_tree.specs.Rows.{IsRowOf, outs_of}
use Rattle.vlog_tree.specs.Settled.{values_of}
use Rattle.cycle_sim.specs.Sim.{IsRunning, StandsAfter}
use Rattle.cycle_sim.specs.Stored.{cycled}
use Rattle.cycle_sim.proofs.Cycling.{runs_on, stands_on, whole}
use Rattle.cycle_sim.proofs.sim.Sim.cycle.Goals as goal

pub invariant_of-self : goal.invariant_of-self
invariant_of-self c =
    let fits : IsRowOf c.self.inside.design c.args.row.now = subst (λ now. IsRowOf now.design c.args.row.now) (sym c.self.view_is) c.requires in
    let values_whole = whole c.advance.new.values (drop (length c.advance.new.values) c.self.inside.values.items) c.self.inside.values.len (c.advance.auto.values ∙ c.deref_mut.ensures.len) in
    let before_whole = whole c.advance.new.before (drop (length c.advance.new.before) c.self.inside.before.items) c.self.inside.before.len (c.advance.auto.before ∙ c.deref_mut-2.ensures.len) in
    let made : c.advance.new.values ≡ cycled c.self.inside.design c.self.inside.indices.items c.args.row.now c.self.inside.values.items =
    rw (c.advance.ensures.values, c.deref.ensures.value, c.deref_mut.ensures.value) refl in
    let same_room : length c.advance.new.before ≡ length c.self.inside.before.items = rw (← c.deref_mut-2.ensures.value) c.advance.ensures.room in
    rw (values_whole, before_whole, made)
    (runs_on c.self.inside.design c.self.inside.indices.items c.self.inside.values.items c.self.inside.before.items c.advance.new.before c.args.row.now c.self.invariant fits same_room)

pub returns-clause-stands : goal.returns-clause-stands
returns-clause-stands c = λ rows outs stood.
    let fits : IsRowOf c.self.inside.design c.args.row.now = subst (λ now. IsRowOf now.design c.args.row.now) (sym c.self.view_is) c.requires in
    let values_whole = whole c.advance.new.values (drop (length c.advance.new.values) c.self.inside.values.items) c.self.inside.values.len (c.advance.auto.values ∙ c.deref_mut.ensures.len) in
    let made : c.advance.new.values ≡ cycled c.self.inside.design c.self.inside.indices.items c.args.row.now c.self.inside.values.items =
    rw (c.advance.ensures.values, c.deref.ensures.value, c.deref_mut.ensures.value) refl in
    rw (values_whole, made)
    (stands_on c.self.inside.design c.self.inside.indices.items c.self.inside.values.items c.self.inside.before.items c.args.row.now c.self.invariant fits rows outs
    (subst (λ now. StandsAfter now rows outs) (sym c.self.view_is) stood))
