use Rattle.std.proofs.Common.{[], Some, refl, ap}
use Rattle.dslx_check_rules.proofs.Lemmas.Nodes.Lists.{with_row_kept}
use Rattle.dslx_check_rules.specs.declared.table.row.TypeRow.TheVariants as row
use Rattle.dslx_check_rules.proofs.control.control.no_value.Goals as goal

pub returns-clause-typed : goal.returns-clause-typed
returns-clause-typed c = record {
  typed = λ names later distinct p. record {
    row = c.in_ok-unit.ensures.there;
    ty = ap Some (c.in_ok-unit.ensures.is names later p);
    faults = c.none.ensures;
    size = refl;
  };
}

pub returns-clause-items : goal.returns-clause-items
returns-clause-items c = with_row_kept c.args.types.now c.unit.new.self (row.Tuple []) refl c.in_ok-unit.ensures.rows
