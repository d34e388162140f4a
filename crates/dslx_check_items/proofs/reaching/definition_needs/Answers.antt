use Rattle.std.proofs.Common.{List, map, ap, ◌∙◌, arith}
use Rattle.std.specs.Prelude.{flat_map}
use Rattle.dslx_meaning.specs.Rules.Mentions.{Mention as Mentioned, names_mentioned}
use Rattle.dslx_check_items.specs.Reaching.{numbers_named}
use Rattle.dslx_check_items.specs.Shown.{mention_shown}
use Rattle.dslx_check_items.specs.Inner.Targets.{targets_of}
use Rattle.dslx_check_items.specs.declared.mention.Mention.{Mention}
use Rattle.dslx_check_items.proofs.OnReaching.Reached.{all_pushed, flat_of_map, pushed, targets_are}
use Rattle.dslx_check_items.proofs.reaching.definition_needs.Goals as goal

pub each-preserved : goal.each-preserved
each-preserved c =
    pushed (λ (x : Mention). targets_of c.args.items.now.text.now (mention_shown x)) c.in_ok-mentions.mentions.items c.each.i c.index-mention.result.now c.each.needs c.push_target.new.needs
    (flat_map (λ (x : Mention). targets_of c.args.items.now.text.now (mention_shown x)) c.in_ok-mentions.mentions.items) (omega arith) c.index-mention.ensures c.each.invariant c.in_ok-push_target.ensures

pub returns : goal.returns
returns c =
    all_pushed (λ (x : Mention). targets_of c.args.items.now.text.now (mention_shown x)) c.in_ok-mentions.mentions.items c.each.i c.each.needs (omega arith) c.each.invariant
    ∙ flat_of_map (targets_of c.args.items.now.text.now) mention_shown c.in_ok-mentions.mentions.items
    ∙ targets_are c.args.items.now.text.now (map mention_shown c.in_ok-mentions.mentions.items)
    ∙ ap (λ (ms : List Mentioned). numbers_named c.args.items.now.text.now.items (names_mentioned c.args.items.now.text.now ms)) c.in_ok-mentions.ensures
