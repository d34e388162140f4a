use Rattle.std.proofs.Common.{◌+◌, ◌∙◌, ℕ, List, Option, Some, ap, drop, map, refl, sym, arith}
use Rattle.dslx_tree.specs.declared.ident.Ident.{Ident}
use Rattle.dslx_meaning.specs.Network.{Held}
use Rattle.dslx_core.specs.Networks.Ends.{end_number, end_numbers}
use Rattle.dslx_config.specs.Configs.Shown.{held}
use Rattle.dslx_scope_names.proofs.Lemmas.Numbers.InOrder.{behind}
use Rattle.dslx_config.proofs.OnConfigs.InOrder.{all_made, next_made, next_missing, none_first, some_first}
use Rattle.dslx_config.proofs.configs.end.end_numbers.Goals as goal

abbrev number_at : List Held → Ident → Option ℕ
number_at ends i = end_number i.name ends

pub returns-in-None : goal.returns-in-None
returns-in-None c =
    next_missing (end_numbers (map held c.args.ends.now)) c.args.names.now c.names.name-index c.name-item.result c.names.parametric_args.items (omega arith) c.name-item.is
    (none_first (number_at (map held c.args.ends.now)) c.name-item.result (sym c.end_number.ensures ∙ c.in-None.is)) ∙ c.names.invariant

pub names-preserved : goal.names-preserved
names-preserved c =
    ap (λ (ns : List ℕ). behind ns (end_numbers (map held c.args.ends.now) (drop (c.names.name-index + 1) c.args.names.now))) c.in_ok-push-in-Some.ensures.items
    ∙ next_made (end_numbers (map held c.args.ends.now)) c.args.names.now c.names.name-index c.name-item.result c.names.parametric_args.items c.in-Some.number (omega arith) c.name-item.is
    (some_first (number_at (map held c.args.ends.now)) c.name-item.result c.in-Some.number (sym c.end_number.ensures ∙ c.in-Some.is)) ∙ c.names.invariant

pub returns : goal.returns
returns c =
    ap Some c.from_vec.ensures ∙ all_made (end_numbers (map held c.args.ends.now)) c.args.names.now c.names.name-index c.names.parametric_args.items (omega arith) refl ∙ c.names.invariant
