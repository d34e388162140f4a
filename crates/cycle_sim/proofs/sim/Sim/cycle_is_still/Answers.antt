use Rattle.std.proofs.Common.{◌≡◌, ◌∙◌, length, drop, subst, sym, refl}
use Rattle.std.specs.Prelude.{IsTrue, ◌↔◌}
use Rattle.vlog_tree.specs.Rows.{IsRowOf}
use Rattle.vlog_tree.specs.Settled.{values_of}
use Rattle.cycle_sim.specs.Sim.{SameRegisters, StandsAfter}
use Rattle.cycle_sim.specs.Stored.{cycled, evaluated}
use Rattle.cycle_sim.proofs.Cycling.{runs_on, stands_on, whole}
use Rattle.cycle_sim.proofs.Stillness.{held_where_same, same_where_held, stands_still}
use Rattle.cycle_sim.proofs.sim.Sim.cycle_is_still.Goals as goal

pub invariant_of-self : goal.invariant_of-self
invariant_of-self c =
    let fits : IsRowOf c.self.inside.design c.args.row.now = subst (λ now. IsRowOf now.design c.args.row.now) (sym c.self.view_is) c.requires in
    let values_whole = whole c.advance.new.values (drop (length c.advance.new.values) c.self.inside.values.items) c.self.inside.values.len (c.advance.auto.values ∙ c.deref_mut.ensures.len) in
    let before_whole = whole c.advance.new.before (drop (length c.advance.new.before) c.self.inside.before.items) c.self.inside.before.len (c.advance.auto.before ∙ c.deref_mut-2.ensures.len) in
    let made : c.advance.new.values ≡ cycled c.self.inside.design c.self.inside.indices.items c.args.row.now c.self.inside.values.items =
    rw (c.advance.ensures.values, c.deref.ensures.value, c.deref_mut.ensures.value) refl in
    let same_room : length c.advance.new.before ≡ length c.self.inside.before.items = rw (← c.deref_mut-2.ensures.value) c.advance.ensures.room in
    rw (values_whole, before_whole, made)
    (runs_on c.self.inside.design c.self.inside.indices.items c.self.inside.values.items c.self.inside.before.items c.advance.new.before c.args.row.now c.self.invariant fits same_room)

pub returns-clause-stands : goal.returns-clause-stands
returns-clause-stands c = λ rows outs stood.
    let fits : IsRowOf c.self.inside.design c.args.row.now = subst (λ now. IsRowOf now.design c.args.row.now) (sym c.self.view_is) c.requires in
    let values_whole = whole c.advance.new.values (drop (length c.advance.new.values) c.self.inside.values.items) c.self.inside.values.len (c.advance.auto.values ∙ c.deref_mut.ensures.len) in
    let made : c.advance.new.values ≡ cycled c.self.inside.design c.self.inside.indices.items c.args.row.now c.self.inside.values.items =
    rw (c.advance.ensures.values, c.deref.ensures.value, c.deref_mut.ensures.value) refl in
    rw (values_whole, made)
    (stands_on c.self.inside.design c.self.inside.indices.items c.self.inside.values.items c.self.inside.before.items c.args.row.now c.self.invariant fits rows outs
    (subst (λ now. StandsAfter now rows outs) (sym c.self.view_is) stood))

before_is : (c : goal.After-are_same) → c.deref-2.result.now ≡ evaluated c.self.inside.design c.self.inside.indices.items c.args.row.now c.self.inside.values.items
before_is c =
    let before_whole = whole c.advance.new.before (drop (length c.advance.new.before) c.self.inside.before.items) c.self.inside.before.len (c.advance.auto.before ∙ c.deref_mut-2.ensures.len) in
    let made : c.advance.new.before ≡ evaluated c.self.inside.design c.self.inside.indices.items c.args.row.now c.self.inside.values.items =
    rw (c.advance.ensures.before, c.deref.ensures.value, c.deref_mut.ensures.value) refl in
    c.deref-2.ensures.value ∙ before_whole ∙ made

values_is : (c : goal.After-are_same) → c.deref-3.result.now ≡ cycled c.self.inside.design c.self.inside.indices.items c.args.row.now c.self.inside.values.items
values_is c =
    let values_whole = whole c.advance.new.values (drop (length c.advance.new.values) c.self.inside.values.items) c.self.inside.values.len (c.advance.auto.values ∙ c.deref_mut.ensures.len) in
    let made : c.advance.new.values ≡ cycled c.self.inside.design c.self.inside.indices.items c.args.row.now c.self.inside.values.items =
    rw (c.advance.ensures.values, c.deref.ensures.value, c.deref_mut.ensures.value) refl in
    c.deref-3.ensures.value ∙ values_whole ∙ made

pub returns-clause-same : goal.returns-clause-same
returns-clause-same c =
    let m = c.self.inside.design in
    let indices = c.self.inside.indices.items in
    let words = c.self.inside.values.items in
    let fits : IsRowOf m c.args.row.now = subst (λ now. IsRowOf now.design c.args.row.now) (sym c.self.view_is) c.requires in
    let values_now = sym c.deref-3.ensures.value ∙ values_is c in
    rw values_now
    (subst (λ now. IsTrue c.are_same.result ↔ SameRegisters m (values_of now.words) (values_of (cycled m indices c.args.row.now words))) c.self.view_is (
      λ told. held_where_same m indices words c.self.inside.before.items c.args.row.now c.self.invariant fits (sym (before_is c) ∙ c.are_same.ensures.0 told ∙ values_is c),
      λ held. c.are_same.ensures.1 (before_is c ∙ same_where_held m indices words c.self.inside.before.items c.args.row.now c.self.invariant fits held ∙ sym (values_is c)),
    ))

pub returns-clause-still : goal.returns-clause-still
returns-clause-still c = λ told.
    let m = c.self.inside.design in
    let fits : IsRowOf m c.args.row.now = subst (λ now. IsRowOf now.design c.args.row.now) (sym c.self.view_is) c.requires in
    let values_now = sym c.deref-3.ensures.value ∙ values_is c in
    rw values_now
    (stands_still m c.self.inside.indices.items c.self.inside.values.items c.self.inside.before.items c.args.row.now c.self.invariant fits (sym (before_is c) ∙ c.are_same.ensures.0 told ∙ values_is c))
