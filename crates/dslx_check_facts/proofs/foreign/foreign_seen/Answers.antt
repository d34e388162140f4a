use Rattle.std.proofs.Common.{◌≡◌, List, Some, subst, slice_get}
use Rattle.std.specs.Option.{option_copied}
use Rattle.base.specs.Lists.Prefix.{IsPrefix}
use Rattle.dslx_check_rules.proofs.Lemmas.Types.{get_in_prefix}
use Rattle.dslx_check_facts.specs.Known.{foreign_at, item_names}
use Rattle.dslx_check_facts.specs.Typings.{IsForeign}
use Rattle.dslx_check_facts.specs.Walks.{WalkShown, shown}
use Rattle.dslx_check_facts.specs.declared.asked.ForeignKey.{ForeignKey}
use Rattle.dslx_check_facts.proofs.Lemmas.Walks.{asked_grows, grows_trans, misses_grows}
use Rattle.dslx_check_facts.proofs.OnForeign.{has_weaker}
use Rattle.dslx_check_facts.proofs.foreign.foreign_seen.Goals as goal

pub returns-clause-grows : goal.returns-clause-grows
returns-clause-grows c =
    let old : WalkShown = shown c.args.w.now in
    let mid : WalkShown = record old { asked = c.number_of.new.self } in
    grows_trans old mid (shown c.seen_at.new.w) (asked_grows old c.number_of.new.self c.in_ok-number.ensures.grows) (misses_grows mid (shown c.seen_at.new.w) c.in_ok-there.ensures.misses)

pub returns-clause-seen : goal.returns-clause-seen
returns-clause-seen c = λ known later tables agrees missing.
    let asked : List ForeignKey = c.number_of.new.self in
    let grows : IsPrefix asked later.asked = subst (λ (l : List ForeignKey). IsPrefix l later.asked) c.in_ok-there.ensures.misses.asked tables.asked in
    let at : slice_get later.asked c.in_ok-number.number ≡ Some c.args.key = get_in_prefix asked later.asked c.in_ok-number.number c.args.key grows c.in_ok-number.ensures.number in
    has_weaker (option_copied c.in_ok-there.there) (λ t. foreign_at c.args.f.now c.in_ok-number.number ≡ Some t) (IsForeign (item_names c.args.f.now) known later c.args.key)
    (λ t e. agrees.foreign c.in_ok-number.number c.args.key t at e) (c.in_ok-there.ensures.there missing)
