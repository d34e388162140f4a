use Rattle.std.proofs.Common.{◌≡◌, ◌∙◌, ◌<◌, ◌||◌, ℕ, List, [], ◌∷◌, ◌++◌, ◌+◌, true, is_some, length, take, get_or, arith, sym, ap}
use Rattle.std.specs.Str.{bytes_eq}
use Rattle.std.proofs.lemmas.List.{map_more}
use Rattle.dslx_tree.specs.declared.expr.FieldValue.{FieldValue}
use Rattle.base.specs.NameTable.Found.{found}
use Rattle.dslx_meaning.specs.Lists.{is_in}
use Rattle.dslx_meaning.specs.Rules.AggregateRules.{has_twice}
use Rattle.dslx_check_rules.specs.Nodes.Nodes.Structs.{ident_of, written_names}
use Rattle.dslx_check_rules.proofs.OnNodes.OnFields.{is_in_next, seen_next, twice_next}
use Rattle.dslx_check_rules.proofs.nodes.structs.put_all.Goals as goal

pub fields-preserved : goal.fields-preserved
fields-preserved c =
    let within : c.fields.field-index < length c.args.fields.now = omega arith in
    let named : FieldValue → List ℕ = λ (x : FieldValue). (ident_of x).name in
    let f : FieldValue = get_or c.args.fields.now c.fields.field-index c.field-item.result in
    let key : c.as_str-name.result.now ≡ named f = c.as_str-name.ensures ∙ ap named c.field-item.is in
    let next : written_names (take (c.fields.field-index + 1) c.args.fields.now) ≡ written_names (take c.fields.field-index c.args.fields.now) ++ named f ∷ [] =
    map_more named c.args.fields.now c.fields.field-index c.field-item.result within in
    record {
      twice = λ empty.
          c.either-is_twice.ensures
          ∙ (λ i. c.fields.invariant.twice empty i || (c.has.ensures ∙ c.fields.invariant.put empty c.as_str-name.result.now ∙ ap (λ n. is_in n (written_names (take c.fields.field-index c.args.fields.now))) key) i)
          ∙ sym (ap has_twice next ∙ twice_next (written_names (take c.fields.field-index c.args.fields.now)) (named f));
      put = λ empty name.
          ap is_some (c.in_ok-put_new.ensures name) ∙ seen_next (found c.fields.written name) (bytes_eq name c.as_str-name.result.now) true
          ∙ (λ i. c.fields.invariant.put empty name i || bytes_eq name (key i))
          ∙ sym (ap (is_in name) next ∙ is_in_next name (written_names (take c.fields.field-index c.args.fields.now)) (named f));
    }
