-- The steps of trees put the parts that the trees make.
use Rattle.std.proofs.Common.{◌≡◌, ◌∙◌, ℕ, List, ◌∷◌, ◌++◌, ap, refl}
use Rattle.std.proofs.lemmas.List.{append_assoc}
use Rattle.std.specs.Prelude.{Some, slice_get}
use Rattle.base.specs.declared.grammar.bottom_up.Step.{Step}
use Rattle.base.specs.declared.grammar.bottom_up.Step.TheVariants.{Shift, Reduce}
use Rattle.base.specs.declared.grammar.table.Symbol.{Symbol}
use Rattle.base.specs.Grammar.Steps.{steps_of}
use Rattle.base.specs.Grammar.Tree.{Forest}
use Rattle.dslx_token.specs.Lexeme.{Lexeme}
use Rattle.dslx_actions.specs.declared.parts.SemanticStacks.{SemanticStacks}
use Rattle.dslx_actions.specs.Tokens.{shifted}
use Rattle.dslx_parser.specs.Builder.Building.{built, reduced, rule_of}
use Rattle.dslx_parser.specs.Syntax.Sorts.{sort_of}
use Rattle.dslx_parser.specs.Syntax.SymbolParts.{SemanticAction, PartsOf, made_from}
use Rattle.dslx_parser.specs.Syntax.Trees.{Makes, empty, leaf, branch, semantic_actions}
use Rattle.dslx_parser.specs.Syntax.Atoms as atoms
use Rattle.dslx_parser.specs.Syntax.Blocks as blocks
use Rattle.dslx_parser.specs.Syntax.Items as items
use Rattle.dslx_parser.specs.Syntax.Operators as operators
use Rattle.dslx_parser.specs.Syntax.Procs as procs
use Rattle.dslx_parser.specs.Syntax.Statements as statements
use Rattle.dslx_parser.specs.Syntax.Types as types
use Rattle.dslx_parser.proofs.OnBuilt.FitsAtoms as fits_atoms
use Rattle.dslx_parser.proofs.OnBuilt.FitsBlocks as fits_blocks
use Rattle.dslx_parser.proofs.OnBuilt.FitsItems as fits_items
use Rattle.dslx_parser.proofs.OnBuilt.FitsOperators as fits_operators
use Rattle.dslx_parser.proofs.OnBuilt.FitsProcs as fits_procs
use Rattle.dslx_parser.proofs.OnBuilt.FitsStatements as fits_statements
use Rattle.dslx_parser.proofs.OnBuilt.FitsTypes as fits_types
use Rattle.dslx_parser.proofs.OnBuilt.Fitting.{AllFit, Fit, all_fit, behind, fit_at}
use Rattle.dslx_parser.proofs.OnBuilt.Putting.{put, put_all}

-- every rule
every_rule : AllFit rule_of semantic_actions
unfolding semantic_actions
every_rule =
    let a = behind items.rules rule_of in
    let b = behind procs.rules a in
    let c = behind types.rules b in
    let d = behind statements.rules c in
    let e = behind operators.rules d in
    all_fit rule_of items.rules (procs.rules ++ (types.rules ++ (statements.rules ++ (operators.rules ++ (atoms.rules ++ blocks.rules))))) fits_items.fit
    (all_fit a procs.rules (types.rules ++ (statements.rules ++ (operators.rules ++ (atoms.rules ++ blocks.rules)))) fits_procs.fit
    (all_fit b types.rules (statements.rules ++ (operators.rules ++ (atoms.rules ++ blocks.rules))) fits_types.fit
    (all_fit c statements.rules (operators.rules ++ (atoms.rules ++ blocks.rules)) fits_statements.fit
    (all_fit d operators.rules (atoms.rules ++ blocks.rules) fits_operators.fit
    (all_fit e atoms.rules blocks.rules fits_atoms.fit fits_blocks.fit)))))

fits : (p : ℕ) (r : SemanticAction) → slice_get semantic_actions p ≡ Some r → Fit (rule_of p) r
fits p r found = fit_at rule_of semantic_actions p r every_rule found

built_reduce : (p : ℕ) (steps : List Step) (ls : List Lexeme) (s t : SemanticStacks) → reduced (rule_of p) s ≡ t → built (Reduce p ∷ steps) ls s ≡ built steps ls t
unfolding built
built_reduce p steps ls s t e = ap (λ (u : SemanticStacks). built steps ls u) e

built_shift : (steps : List Step) (l : Lexeme) (ls : List Lexeme) (s : SemanticStacks) → built (Shift ∷ steps) (l ∷ ls) s ≡ built steps ls (shifted l s)
unfolding built
built_shift steps l ls s = refl

pub steps_put : {symbols : List Symbol} {f : Forest} {ls : List Lexeme} {parts : PartsOf symbols} → Makes symbols f ls parts → (rest : List Step) (others : List Lexeme) (s : SemanticStacks) → built (steps_of f ++ rest) (ls ++ others) s ≡ built rest others (put_all symbols parts s)
steps_put empty rest others s = refl
steps_put (leaf {right = right} {ls = ls} l makes) rest others s =
    built_shift (steps_of right ++ rest) l (ls ++ others) s ∙ steps_put makes rest others (shifted l s)
steps_put (branch {p = p} {below = below} {right = right} {own = own} {others = behind_own} r inner found makes more) rest others s =
    ap (λ (steps : List Step). built steps ((own ++ behind_own) ++ others) s) (append_assoc (steps_of below) (Reduce p ∷ steps_of right) rest)
    ∙ ap (λ (tokens : List Lexeme). built (steps_of below ++ Reduce p ∷ (steps_of right ++ rest)) tokens s) (append_assoc own behind_own others)
    ∙ steps_put makes (Reduce p ∷ (steps_of right ++ rest)) (behind_own ++ others) s
    ∙ built_reduce p (steps_of right ++ rest) (behind_own ++ others) (put_all r.body inner s) (put (sort_of r.head) (made_from r.body r.part inner) s) (fits p r found inner s)
    ∙ steps_put more rest others (put (sort_of r.head) (made_from r.body r.part inner) s)
