use Rattle.std.proofs.Common.{map, ap, ◌∙◌, arith}
use Rattle.std.proofs.lemmas.List.{length-map}
use Rattle.dslx_check_items.specs.Items.{definition_of}
use Rattle.dslx_check_items.specs.Reaching.{definition_needs}
use Rattle.dslx_check_items.proofs.OnReaching.Reached.{one_after, taken_all}
use Rattle.dslx_check_items.proofs.reaching.needs_of.Goals as goal

pub each-preserved : goal.each-preserved
each-preserved c =
    one_after (definition_needs c.args.items.now.text.now) (map definition_of c.args.items.now.text.now.items) c.each.item c.get-definition.result.now c.each.needs.items c.push.new.self.items
    c.in_ok-needed.needed c.get-definition.ensures c.each.invariant c.in_ok-needed.ensures c.in_ok-push.ensures.items

pub returns : goal.returns
returns c =
    c.each.invariant
    ∙ ap (map (definition_needs c.args.items.now.text.now))
    (taken_all (map definition_of c.args.items.now.text.now.items) c.each.item (omega (arith, length-map c.args.items.now.text.now.items definition_of)))
