use Rattle.std.proofs.Common.{◌<◌, ◌≤◌, ◌+◌, arith, get_or, length, min, subst, sym, take}
use Rattle.dslx_check_uses.specs.Inner.Fields.{AreFields}
use Rattle.dslx_check_uses.proofs.OnFields.{field_next, fields_all, no_field_yet, same_get}
use Rattle.dslx_check_uses.proofs.structs.fields_with.Goals as goal

pub fields-init : goal.fields-init
fields-init c =
    subst (AreFields c.args.f.now c.args.types.now c.args.ty (take 0 c.args.fields.now) c.args.values.now) (sym c.new-all.ensures.items) (no_field_yet c.args.f.now c.args.types.now c.args.ty c.args.fields.now c.args.values.now)

pub fields-preserved : goal.fields-preserved
fields-preserved c =
    let within : c.fields.i < length c.args.fields.now = omega arith in
    let inside : c.fields.i < length c.args.values.now = omega arith in
    subst (λ l. AreFields c.args.f.now c.args.types.now c.args.ty (take (c.fields.i + 1) c.args.fields.now) c.args.values.now l) (sym c.in_ok-push.ensures.items)
    (field_next c.args.f.now c.args.types.now c.args.ty c.args.fields.now c.args.values.now c.fields.all.items c.fields.i c.index-fields-i.result (get_or c.args.values.now c.fields.i _) c.field_of-wanted.result within inside c.index-fields-i.is
    (same_get c.args.values.now c.fields.i _ inside)
    c.fields.invariant c.field_of-wanted.ensures.row c.field_of-wanted.ensures.is)

pub returns : goal.returns
returns c =
    let past : min (length c.args.fields.now) (length c.args.values.now) ≤ c.fields.i = omega arith in
    fields_all c.args.f.now c.args.types.now c.args.ty c.args.fields.now c.args.values.now c.fields.all.items c.fields.i past c.fields.invariant
