use Rattle.std.proofs.Common.{◌≡◌, ◌∙◌, ◌<◌, arith, false, length, sym, true}
use Rattle.std.specs.Str.{bytes_eq}
use Rattle.dslx_meaning.specs.Items.{name_of_field}
use Rattle.dslx_check_uses.proofs.OnFields.{found_at, passed_at}
use Rattle.dslx_check_uses.proofs.structs.field_place.Goals as goal

pub returns-then-eq : goal.returns-then-eq
returns-then-eq c =
    let within : c.fields.i < length c.args.fields.now = omega arith in
    let field = c.index-fields-i.result in
    let same : bytes_eq c.args.name.now (name_of_field field) ≡ true = sym c.eq.ensures ∙ c.if-eq.true in
    sym (found_at c.args.name.now c.args.fields.now c.fields.i field within c.index-fields-i.is same) ∙ c.fields.invariant

pub fields-preserved : goal.fields-preserved
fields-preserved c =
    let within : c.fields.i < length c.args.fields.now = omega arith in
    let field = c.index-fields-i.result in
    let other : bytes_eq c.args.name.now (name_of_field field) ≡ false = sym c.eq.ensures ∙ c.if-eq.false in
    sym (passed_at c.args.name.now c.args.fields.now c.fields.i field within c.index-fields-i.is other) ∙ c.fields.invariant
