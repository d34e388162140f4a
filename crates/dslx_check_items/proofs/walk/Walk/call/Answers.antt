use Rattle.std.proofs.Common.{Bool, if◌then◌else◌, sym, ap, ◌∙◌}
use Rattle.dslx_meaning.specs.Callees.{is_text_function}
use Rattle.dslx_meaning.specs.Rules.Mentions.{AsFunction}
use Rattle.dslx_check_items.specs.Inner.Walks.{naming}
use Rattle.dslx_check_items.specs.Inner.Plain.{walk_shown}
use Rattle.dslx_check_items.proofs.OnMentions.Bindings.{no_function}
use Rattle.dslx_check_items.proofs.walk.Walk.call.Goals as goal

pub returns-in_default : goal.returns-in_default
returns-in_default c =
    sym (ap (λ (b : Bool). if b then naming AsFunction c.args.name.now (walk_shown c.args.self.now) else walk_shown c.args.self.now)
    (sym (ap is_text_function c.callee_of.ensures) ∙ no_function c.callee_of.result c.in_default.not-Function))
