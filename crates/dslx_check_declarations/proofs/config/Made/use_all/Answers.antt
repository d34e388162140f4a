use Rattle.std.proofs.Common.{◌≡◌, ◌∙◌, ℕ, List, [], ◌∷◌, ◌++◌, take, arith, append_assoc, sym, ap, subst}
use Rattle.dslx_meaning.specs.Rules.ProcRules.{ident_names}
use Rattle.dslx_check_declarations.specs.Config.{AreUsed, UsesNames}
use Rattle.dslx_check_declarations.proofs.Lemmas.Listed.{take_all, take_next}
use Rattle.dslx_check_declarations.proofs.Using.{uses_more, uses_none}
use Rattle.dslx_check_declarations.proofs.OnConfig.{names-append}
use Rattle.dslx_check_declarations.proofs.config.Made.use_all.Goals as goal

pub idents-init : goal.idents-init
idents-init c = uses_none c.args.self.now

pub idents-preserved : goal.idents-preserved
idents-preserved c =
    let x = c.ident-item.result in
    subst (UsesNames c.args.self.now c.use_end.new.self)
    (sym (names-append (take c.idents.ident-index c.args.idents.now) x) ∙ ap ident_names (sym (take_next c.args.idents.now c.idents.ident-index x (omega arith) c.ident-item.is)))
    (uses_more c.idents.invariant c.in_ok-use_end.ensures)

pub returns : goal.returns
returns c = subst (UsesNames c.args.self.now c.idents.self) (ap ident_names (take_all c.args.idents.now c.idents.ident-index (omega arith))) c.idents.invariant
