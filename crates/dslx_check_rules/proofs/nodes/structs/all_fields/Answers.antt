use Rattle.std.proofs.Common.{map, take, arith, ◌<◌, ◌≤◌, length, subst}
use Rattle.dslx_meaning.specs.declared.ty.DslxType.{DslxType}
use Rattle.std.proofs.Common.{Option}
use Rattle.dslx_check_rules.specs.Nodes.Parts.{IsPart}
use Rattle.dslx_check_rules.specs.Nodes.Nodes.Lists.{IsList, fitted}
use Rattle.dslx_check_rules.specs.Nodes.Nodes.Structs.{IsField, field_of}
use Rattle.dslx_check_rules.proofs.Lemmas.Nodes.Lists.{all_pairs, next_pair}
use Rattle.dslx_check_rules.proofs.nodes.structs.all_fields.Goals as goal

pub fields-preserved : goal.fields-preserved
fields-preserved c = λ names later xs distinct p parts.
    let within : c.fields.field-index < length c.args.fields.now = omega arith in
    next_pair field_of (IsList c.and-all.result) (IsField names c.args.types.now later) c.args.fields.now xs c.fields.field-index _ parts within
    (λ x is. c.and-all.ensures names c.args.types.now later (take c.fields.field-index (map field_of xs)) (field_of x) (c.fields.invariant names later xs distinct p parts)
    (subst (λ (t : Option DslxType). IsPart names c.args.types.now later c.fitted-value.result (fitted t x.value)) is.wanted (c.fitted-value.ensures names later x.value distinct p is.row is.value)))

pub returns : goal.returns
returns c = λ names later xs distinct p parts.
    let past : length c.args.fields.now ≤ c.fields.field-index = omega arith in
    all_pairs field_of (IsList c.fields.all) (IsField names c.args.types.now later) c.args.fields.now xs c.fields.field-index parts past (c.fields.invariant names later xs distinct p parts)
