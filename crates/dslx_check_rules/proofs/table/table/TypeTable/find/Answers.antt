use Rattle.std.proofs.Common.{◌∙◌, ap}
use Rattle.std.specs.List.{list_any}
use Rattle.dslx_check_rules.specs.Rows.{same_row}
use Rattle.dslx_check_rules.proofs.OnTable.Puts.{found_if, is_among}
use Rattle.dslx_check_rules.proofs.table.table.TypeTable.find.Goals as goal

pub returns-clause-found : goal.returns-clause-found
returns-clause-found c =
    c.get_index_of.ensures.found ∙ is_among (same_row c.args.row.now) c.self.inside.rows.entries ∙ ap (list_any (same_row c.args.row.now)) c.self.view_is

pub returns-clause-number : goal.returns-clause-number
returns-clause-number c = found_if c.self.inside.rows.entries c.args.self.now c.self.view_is c.self.invariant c.args.row.now c.get_index_of.result c.get_index_of.ensures.index
