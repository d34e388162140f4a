-- Step by step.
use Rattle.std.proofs.Common.{◌≡◌, ◌<◌, ◌≤◌, ◌+◌, ℕ, suc, List, [], ◌∷◌, drop, length, get_or, ap, sym, ◌∙◌, add-one, refl}
use Rattle.std.proofs.Math.Seq.{drop-cons}
use Rattle.std.proofs.Math.ListN.{drop_of_length-le}
use Rattle.base.specs.declared.grammar.bottom_up.Step.{Step}
use Rattle.base.specs.declared.grammar.bottom_up.Step.TheVariants.{Shift, Reduce}
use Rattle.dslx_token.specs.Lexeme.{Lexeme}
use Rattle.dslx_actions.specs.Tokens.{shifted}
use Rattle.dslx_parser.specs.Builder.Building.{built, reduced, rule_of}
use Rattle.dslx_actions.specs.declared.parts.SemanticStacks.{SemanticStacks}

-- a token is added
pub shift_some : (rest : List Step) (ls : List Lexeme) (next : ℕ) (l : Lexeme) (old new : SemanticStacks) → next < length ls → l ≡ get_or ls next l → new ≡ shifted l old → built (Shift ∷ rest) (drop next ls) old ≡ built rest (drop (next + 1) ls) new
unfolding built
shift_some rest ls next l old new within item is =
    let split : drop next ls ≡ l ∷ drop (suc next) ls = drop-cons ls next l within ∙ ap (λ x. x ∷ drop (suc next) ls) (sym item) in
    ap (λ t. built (Shift ∷ rest) t old) split ∙ ap (λ s. built rest (drop (suc next) ls) s) (sym is) ∙ ap (λ j. built rest (drop j ls) new) (sym (add-one next))

-- there is none
pub shift_none : (rest : List Step) (ls : List Lexeme) (next : ℕ) (old : SemanticStacks) → length ls ≤ next → built (Shift ∷ rest) (drop next ls) old ≡ built rest (drop next ls) old
unfolding built
shift_none rest ls next old past =
    let none = drop_of_length-le ls past in
    ap (λ t. built (Shift ∷ rest) t old) none ∙ ap (λ t. built rest t old) (sym none)

-- a tree is complete
pub reduce_one : (rest : List Step) (ls : List Lexeme) (p : ℕ) (old new : SemanticStacks) → new ≡ reduced (rule_of p) old → built (Reduce p ∷ rest) ls old ≡ built rest ls new
unfolding built
reduce_one rest ls p old new is = ap (λ s. built rest ls s) (sym is)

-- no step is left
pub nothing_left : (ls : List Lexeme) (s : SemanticStacks) → built [] ls s ≡ s
unfolding built
nothing_left ls s = refl

-- all steps are taken
pub all_done : (steps : List Step) (i : ℕ) (ls : List Lexeme) (s whole : SemanticStacks) → length steps ≤ i → built (drop i steps) ls s ≡ whole → s ≡ whole
all_done steps i ls s whole past so_far = sym (nothing_left ls s) ∙ ap (λ ss. built ss ls s) (sym (drop_of_length-le steps past)) ∙ so_far
