use Rattle.std.proofs.Common.{◌∙◌, ◌++◌, List, ap}
use Rattle.xb_span.specs.declared.fault.Fault.{Fault}
use Rattle.dslx_meaning.specs.Rules.AggregateRules.{wanted_faults}
use Rattle.dslx_check_rules.specs.declared.table.row.TypeRow.{TypeRow}
use Rattle.dslx_check_rules.specs.Interned.{type_if}
use Rattle.dslx_check_facts.specs.Known.{item_names}
use Rattle.std.proofs.lemmas.Result.{IfOk-weaker}
use Rattle.dslx_check_uses.proofs.parametrics.note_default.Goals as goal

pub returns : goal.returns
returns c =
    let note = c.in_ok-note_there.ensures in
    let names = item_names c.args.f.now in
    let own_faults : List TypeRow → List Fault = λ later. wanted_faults c.args.at (type_if names later c.args.ty) (type_if names later c.args.default.now.typing.ty) in
    IfOk-weaker c.of_type.result _ _ (λ r g. record {
      value = g;
      declared = λ later a b distinct p h own e is. note.declared a (b ++ own_faults later) e (c.and.ensures b (own_faults later) is (c.wanted_faults-own.ensures names later distinct p h own));
      reaches = note.reaches ∙ ap (λ l. c.args.seen.now.reached.items ++ l) c.as_slice.ensures.value;
      rest = note.rest;
    }) c.of_type.ensures
