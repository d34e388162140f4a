use Rattle.std.proofs.Common.{◌≡◌, ◌∙◌, sym, ap}
use Rattle.dslx_meaning.specs.Rules.ProcRules as procs
use Rattle.dslx_check_rules.specs.Measures.{measures_of}
use Rattle.dslx_check_rules.specs.Seen.{seen}
use Rattle.dslx_check_rules.specs.Interned.{HasRowIf, type_at, type_if}
use Rattle.dslx_check_rules.proofs.Lemmas.Types.{types_stay}
use Rattle.dslx_check_rules.proofs.OnLimits.{where_there}
use Rattle.dslx_check_rules.proofs.limits.word_limit.Goals as goal

pub returns-in-Some : goal.returns-in-Some
returns-in-Some c = λ names later p.
    where_there (λ o. HasRowIf c.args.types.now o → c.word_passed.result ≡ seen (procs.word_limit c.args.end (type_if names later o))) c.args.ty c.in-Some.ty c.in-Some.is
    (λ h. c.word_passed.ensures (type_at names later c.in-Some.ty)
    (c.measures.ensures names ∙ ap measures_of (sym (types_stay names c.args.types.now later c.in-Some.ty p h))))
