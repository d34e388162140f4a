-- A whole text.
use Rattle.std.proofs.Common.{◌≡◌, ◌∙◌, ℕ, List, [], ◌∷◌, ◌++◌, map, ap, sym, refl, subst}
use Rattle.std.proofs.lemmas.List.{append-nil}
use Rattle.base.specs.declared.grammar.bottom_up.Step.{Step}
use Rattle.base.specs.declared.grammar.table.Symbol.TheVariants.{Terminal, Nonterminal}
use Rattle.base.specs.Grammar.Derivation.{start_of}
use Rattle.base.specs.Grammar.Steps.{steps_of}
use Rattle.base.specs.Grammar.Tree.{Forest, Grows, IsParseTree, productions_of}
use Rattle.dslx_token.specs.Rules.Dslx.{dslx}
use Rattle.dslx_token.specs.declared.rules.generated.kind.TheConstants.{END}
use Rattle.dslx_token.specs.declared.rules.generated.nonterminal.TheConstants.{MODULE}
use Rattle.dslx_token.specs.Lexeme.{Lexeme}
use Rattle.dslx_tree.specs.declared.item.Module.{Module}
use Rattle.dslx_actions.specs.declared.parts.SemanticStacks.{SemanticStacks}
use Rattle.dslx_actions.specs.Empty as parts
use Rattle.dslx_parser.specs.Builder.Building.{built, module_of}
use Rattle.dslx_parser.specs.Syntax.Trees.{IsTextOf, Makes, semantic_actions, rule_of}
use Rattle.dslx_parser.proofs.OnBuilt.Growing.{IsMade, grown_is_made, kinds_of, made_grows, made_kinds}
use Rattle.dslx_parser.proofs.OnBuilt.Onto.{reversed}
use Rattle.dslx_parser.proofs.OnBuilt.Putting.{put_all}
use Rattle.dslx_parser.proofs.OnBuilt.Stepping.{steps_put}

built_all : (ls : List Lexeme) (s : SemanticStacks) → built [] ls s ≡ s
unfolding built
built_all ls s = refl

-- the steps of a text leave its tree
built_is : (ls : List Lexeme) (f : Forest) (m : Module) (end : Lexeme) → Makes (Nonterminal MODULE ∷ Terminal END ∷ []) f ls (m, (end, tt)) → module_of (built (steps_of f) ls parts.empty) ≡ m
built_is ls f m end makes =
    ap (λ (steps : List Step). module_of (built steps ls parts.empty)) (sym (append-nil (steps_of f)))
    ∙ ap (λ (tokens : List Lexeme). module_of (built (steps_of f ++ []) tokens parts.empty)) (sym (append-nil ls))
    ∙ ap module_of (steps_put makes [] [] parts.empty ∙ built_all [] (put_all (Nonterminal MODULE ∷ Terminal END ∷ []) (m, (end, tt)) parts.empty))
    ∙ ap (λ items. record { items = items }) (reversed m.items)

-- it starts with the module and ends with the mark
start_is : start_of dslx ≡ Nonterminal MODULE ∷ Terminal END ∷ []
unfolding dslx
start_is = refl

pub text_is_made : map rule_of semantic_actions ≡ dslx.rules → (ls : List Lexeme) (ps : List ℕ) (f : Forest) → IsParseTree dslx ps (kinds_of ls) f → IsTextOf ls (module_of (built (steps_of f) ls parts.empty))
text_is_made same ls ps f tree =
    let grown = subst (λ symbols. Grows dslx.rules symbols f) start_is tree.grows in
    let made : IsMade (Nonterminal MODULE ∷ Terminal END ∷ []) f ls = grown_is_made dslx.rules same grown ls (sym tree.tokens) in
    subst (IsTextOf ls) (sym (built_is ls f made.0.0 made.0.1.0 made.1)) (record { forest = f; end = made.0.1.0; makes = made.1 })

pub text_is_built : map rule_of semantic_actions ≡ dslx.rules → (ls : List Lexeme) (m : Module) → (text : IsTextOf ls m) → IsParseTree dslx (productions_of text.forest) (kinds_of ls) text.forest × (m ≡ module_of (built (steps_of text.forest) ls parts.empty))
text_is_built same ls m text = (
  record { grows = subst (λ symbols. Grows dslx.rules symbols text.forest) (sym start_is) (made_grows dslx.rules same text.makes); productions = refl; tokens = made_kinds text.makes },
  sym (built_is ls text.forest m text.end text.makes),
)
