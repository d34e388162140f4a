use Rattle.std.proofs.Common.{◌≡◌, ◌∙◌, ◌<◌, not, length, map, take, get_or, arith, sym, ap}
use Rattle.std.proofs.lemmas.List.{map_more}
use Rattle.dslx_tree.specs.declared.expr.FieldValue.{FieldValue}
use Rattle.dslx_meaning.specs.Lists.{is_in}
use Rattle.dslx_meaning.specs.Rules.TypeEnvs.{breaks_if}
use Rattle.dslx_meaning.specs.Rules.RuleNumbers as rule
use Rattle.dslx_check_rules.specs.Seen.{seen}
use Rattle.dslx_check_rules.specs.Nodes.Nodes.Structs.{ident_of, unknown_idents}
use Rattle.dslx_check_rules.proofs.OnNodes.OnFields.{unknown_next}
use Rattle.dslx_check_rules.proofs.nodes.structs.unknown_faults.Goals as goal

pub fields-preserved : goal.fields-preserved
fields-preserved c = λ declared same.
    let within : c.fields.field-index < length c.args.fields.now = omega arith in
    let f : FieldValue = get_or c.args.fields.now c.fields.field-index c.field-item.result in
    let known : c.has-is_known.result ≡ is_in (ident_of f).name declared =
    c.has-is_known.ensures ∙ same c.as_str.result.now ∙ ap (λ n. is_in n declared) (c.as_str.ensures ∙ ap (λ (x : FieldValue). (ident_of x).name) c.field-item.is) in
    c.and-faults.ensures (unknown_idents declared (map ident_of (take c.fields.field-index c.args.fields.now))) (breaks_if (not (is_in (ident_of f).name declared)) rule.NAME_IS_DECLARED (ident_of f).span)
    (c.fields.invariant declared same)
    (c.breaks_if-own.ensures ∙ (λ i. seen (breaks_if (not (known i)) rule.NAME_IS_DECLARED (ident_of (c.field-item.is i)).span)))
    ∙ ap seen (sym (ap (unknown_idents declared) (map_more ident_of c.args.fields.now c.fields.field-index c.field-item.result within)
    ∙ unknown_next declared (map ident_of (take c.fields.field-index c.args.fields.now)) (ident_of f)))
