use Rattle.std.proofs.Common.{◌∙◌, [], ap}
use Rattle.std.proofs.lemmas.Result.{IfOk-weaker}
use Rattle.std.specs.Option.{option_copied}
use Rattle.dslx_meaning.specs.Rules.ModuleRules.{item_names}
use Rattle.dslx_check_rules.specs.Seen.{seen}
use Rattle.dslx_check_facts.specs.Known.{text_of}
use Rattle.dslx_check.proofs.OnWhole.{settled_text, told_all}
use Rattle.dslx_check.proofs.checking.check.Goals as goal

pub returns : goal.returns
returns c =
    let made = c.in_ok-work.ensures in
    let text = text_of c.in_ok-work.work.facts in
    let distinct = c.items_have_names_of_their_own.ensures text made.plain in
    let right = made.right (c.texts_are_known.ensures text c.in_ok-work.work.facts.reaching made.plain made.reached)
    (settled_text text distinct c.items_settle.ensures.items c.items_settle.ensures.functions c.declarations_settle.ensures) in
    IfOk-weaker c.tell.result _ _
    (λ v tells. told_all (option_copied c.args.top) c.args.text.now c.in_ok-work.work c.find_broken.new.work made.text c.what_is_found_names_the_first_fault.ensures.few c.what_is_found_names_the_first_fault.ensures.many
    c.accepted_without_faults.ensures distinct right c.in_ok-broken.ensures.goes c.in_ok-own.own c.in_ok-own.ensures c.in_ok-broken.broken c.in_ok-broken.ensures.found
    c.in_ok-names.names c.and.result c.and-outside.result (c.in_ok-names.ensures ∙ ap (λ l. seen (item_names [] l)) c.as_slice.ensures) c.and.ensures c.and-outside.ensures
    c.first_fault-first.result c.first_fault-first.ensures v tells)
    c.tell.ensures
