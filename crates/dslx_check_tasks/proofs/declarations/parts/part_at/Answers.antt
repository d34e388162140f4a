use Rattle.std.proofs.Common.{sym, subst}
use Rattle.std.proofs.lemmas.Result.{IfOk-weaker}
use Rattle.std.specs.Option.{option_copied}
use Rattle.dslx_check_facts.specs.declared.asked.ForeignPart.{ForeignPart}
use Rattle.dslx_check_facts.specs.Walks.{shown}
use Rattle.dslx_check_tasks.specs.Declarations.Inner.Foreign.{GivesPart}
use Rattle.dslx_check_tasks.proofs.declarations.parts.part_at.Goals as goal

pub returns-in-Parameter : goal.returns-in-Parameter
returns-in-Parameter c = IfOk-weaker c.parameter_seen.result _ _
    (λ there h. subst (λ (p : ForeignPart). GivesPart c.args.f.now c.args.s.now c.parameter_seen.new.s (shown c.args.w.now) (shown c.parameter_seen.new.w) there p c.args.own.now (option_copied c.args.next)) (sym c.in-Parameter.is) h) c.parameter_seen.ensures

pub returns-in-Default : goal.returns-in-Default
returns-in-Default c = IfOk-weaker c.default_seen.result _ _
    (λ there h. subst (λ (p : ForeignPart). GivesPart c.args.f.now c.args.s.now c.default_seen.new.s (shown c.args.w.now) (shown c.default_seen.new.w) there p c.args.own.now (option_copied c.args.next)) (sym c.in-Default.is) h) c.default_seen.ensures

pub returns-in-Signature : goal.returns-in-Signature
returns-in-Signature c = IfOk-weaker c.signature_seen.result _ _
    (λ there h. subst (λ (p : ForeignPart). GivesPart c.args.f.now c.args.s.now c.signature_seen.new.s (shown c.args.w.now) (shown c.signature_seen.new.w) there p c.args.own.now (option_copied c.args.next)) (sym c.in-Signature.is) h) c.signature_seen.ensures
