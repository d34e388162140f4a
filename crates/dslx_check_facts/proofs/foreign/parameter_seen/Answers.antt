use Rattle.std.proofs.Common.{◌≡◌, ◌∙◌, sym, ap}
use Rattle.std.specs.Option.{option_copied}
use Rattle.dslx_check_facts.specs.Known.{item_names}
use Rattle.dslx_check_facts.specs.Typings.{HasForeignRows, IsForeign}
use Rattle.dslx_check_facts.specs.Walks.{shown}
use Rattle.dslx_check_facts.specs.declared.asked.ForeignPart.TheVariants as part
use Rattle.dslx_check_facts.proofs.Lemmas.Walks.{grows_trans, misses_grows, misses_noted}
use Rattle.dslx_check_facts.proofs.OnForeign.{parameter_claim}
use Rattle.dslx_check_facts.proofs.foreign.parameter_seen.Goals as goal

pub returns-in-Some-clause-rows : goal.returns-in-Some-clause-rows
returns-in-Some-clause-rows c = λ rows h missing.
    parameter_claim (HasForeignRows rows) (option_copied c.in_ok-seen.seen) c.in-Some.there.now (sym c.parameter_in.ensures ∙ ap option_copied c.in-Some.is) (c.in_ok-seen.ensures.rows rows h missing)

pub returns-in-Some-clause-seen : goal.returns-in-Some-clause-seen
returns-in-Some-clause-seen c = λ known later tables agrees missing.
    parameter_claim (IsForeign (item_names c.args.f.now) known later (record { part = part.Parameter; item = c.args.item; prefix = c.args.prefix; is_refused = c.args.is_refused })) (option_copied c.in_ok-seen.seen) c.in-Some.there.now (sym c.parameter_in.ensures ∙ ap option_copied c.in-Some.is)
    (c.in_ok-seen.ensures.seen known later tables agrees missing)

pub returns-in_ok-need-in-None-clause-grows : goal.returns-in_ok-need-in-None-clause-grows
returns-in_ok-need-in-None-clause-grows c =
    grows_trans (shown c.args.w.now) (shown c.foreign_seen.new.w) (shown c.need.new.self) c.in_ok-seen.ensures.grows
    (misses_grows (shown c.foreign_seen.new.w) (shown c.need.new.self) (misses_noted (shown c.foreign_seen.new.w) (shown c.need.new.self) _ c.in_ok-need-in-None.ensures))
