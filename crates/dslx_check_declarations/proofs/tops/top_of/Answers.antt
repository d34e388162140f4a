use Rattle.std.proofs.Common.{ℕ, List, Option, Some, sym, ap, subst}
use Rattle.std.specs.Option.{option_copied}
use Rattle.dslx_check_declarations.specs.Tops.{IsTop}
use Rattle.dslx_check_declarations.proofs.tops.top_of.Goals as goal

pub returns-in-None : goal.returns-in-None
returns-in-None c = subst (λ (o : Option (List ℕ)). IsTop c.args.f.now o c.default_top.result) (sym (ap option_copied c.in-None.is)) c.default_top.ensures

pub returns-in_ok-name-in-Some : goal.returns-in_ok-name-in-Some
returns-in_ok-name-in-Some c = subst (λ (o : Option (List ℕ)). IsTop c.args.f.now o c.named_top.result) (sym (ap option_copied c.in-Some.is))
    (subst (λ (n : List ℕ). IsTop c.args.f.now (Some n) c.named_top.result) c.in_ok-name-in-Some.ensures c.named_top.ensures)
