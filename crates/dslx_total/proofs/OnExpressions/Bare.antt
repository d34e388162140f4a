-- A number without a type names nothing.
use Rattle.std.proofs.Common.{◌≡◌, [], Some, ap}
use Rattle.dslx_tree.specs.declared.expr.Expr.{Expr}
use Rattle.dslx_meaning.specs.Meaning.{denotation}
use Rattle.dslx_meaning.specs.declared.value.UntypedLiteral.{UntypedLiteral}
use Rattle.dslx_meaning.specs.Rules.Mentions.{free_names, value_names}
use Rattle.dslx_core.proofs.Lemmas.Typing.TypingRelations.{bare_mentions_nothing}

pub bare_names_nothing : (e : Expr) (number : UntypedLiteral) → (denotation e).bare ≡ Some number → free_names e ≡ []
bare_names_nothing e number q = ap value_names (bare_mentions_nothing e number q [])
