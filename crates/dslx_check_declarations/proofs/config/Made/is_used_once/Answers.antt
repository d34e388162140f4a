use Rattle.std.proofs.Common.{◌∙◌, Bool, Option, sym, ap, subst}
use Rattle.base.specs.NameTable.Found.{found}
use Rattle.dslx_meaning.specs.Rules.ProcRules.{times_in}
use Rattle.dslx_check_declarations.specs.Config.{IsUsed}
use Rattle.dslx_check_declarations.proofs.OnConfig.{never_is, once_is}
use Rattle.dslx_check_declarations.proofs.config.Made.is_used_once.Goals as goal

pub returns-in-Some : goal.returns-in-Some
returns-in-Some c = λ used are.
    let n = times_in c.args.name.now used in
    once_is c.in-Some.is_once n (subst (λ (o : Option Bool). IsUsed o n) (sym (ap (found c.args.self.now.uses) c.as_str.ensures) ∙ sym c.get.ensures ∙ c.in-Some.is) (are c.args.name.now))

pub returns-in-None : goal.returns-in-None
returns-in-None c = λ used are.
    let n = times_in c.args.name.now used in
    never_is n (subst (λ (o : Option Bool). IsUsed o n) (sym (ap (found c.args.self.now.uses) c.as_str.ensures) ∙ sym c.get.ensures ∙ c.in-None.is) (are c.args.name.now))
