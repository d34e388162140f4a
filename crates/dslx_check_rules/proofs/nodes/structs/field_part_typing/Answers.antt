use Rattle.std.proofs.Common.{◌∙◌, ◌++◌, List, Some, ap}
use Rattle.xb_span.specs.declared.fault.Fault.{Fault}
use Rattle.dslx_meaning.specs.Rules.TypeEnvs.{one_and}
use Rattle.dslx_meaning.specs.Rules.AggregateRules.{field_type}
use Rattle.dslx_check_rules.specs.Seen.{seen}
use Rattle.dslx_check_rules.specs.Interned.{type_if}
use Rattle.dslx_check_rules.specs.Nodes.Nodes.Aggregates.{lacks}
use Rattle.dslx_check_rules.proofs.Lemmas.Nodes.Rows.{field_then}
use Rattle.dslx_check_rules.proofs.nodes.structs.field_part_typing.Goals as goal

pub returns : goal.returns
returns c = record {
  typed = λ names later distinct p name x a row is.
      let own : List Fault = lacks (λ t. field_type (Some t) name) c.args.span x.ty in
      c.settle.ensures.typed names later p row (field_type x.ty name) (x.faults ++ own) x.reached (one_and x.size) (is ∙ ap (λ o. field_type o name) a.ty)
      (c.and-faults.ensures x.faults own a.faults
      (c.lacks-own.ensures names later (λ t. field_type (Some t) name) (is ∙ field_then (type_if names later c.args.whole.ty) name)
      ∙ ap (λ o. seen (lacks (λ t. field_type (Some t) name) c.args.span o)) a.ty))
      (c.one_and-size.ensures x.size a.size);
}
