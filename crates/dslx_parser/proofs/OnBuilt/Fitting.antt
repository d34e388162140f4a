-- What the builder does where a rule is complete puts the part that the rule makes.
use Rattle.std.proofs.Common.{◌≡◌, ℕ, zero, suc, List, [], ◌∷◌, ◌++◌, subst}
use Rattle.std.specs.Prelude.{Some, slice_get}
use Rattle.dslx_actions.specs.declared.parts.SemanticStacks.{SemanticStacks}
use Rattle.dslx_parser.specs.declared.builder.rule.Rule.{Rule}
use Rattle.dslx_parser.specs.Builder.Building.{reduced}
use Rattle.dslx_parser.specs.Syntax.Sorts.{sort_of}
use Rattle.dslx_parser.specs.Syntax.SymbolParts.{SemanticAction, PartsOf, made_from}
use Rattle.dslx_parser.proofs.OnBuilt.Putting.{put, put_all}

-- done behind the parts of the body, the rule of the builder leaves the part of the head
abbrev pub Fit : Rule → SemanticAction → Type 0
Fit rule r = (parts : PartsOf r.body) (s : SemanticStacks) → reduced rule (put_all r.body parts s) ≡ put (sort_of r.head) (made_from r.body r.part parts) s

-- each rule, where the builder's rules are given by their numbers
abbrev pub AllFit : (ℕ → Rule) → List SemanticAction → Type 0
AllFit at [] = Unit {0}
AllFit at (r ∷ rs) = Fit (at 0) r × AllFit (λ n. at (suc n)) rs

-- the builder's rules behind these
abbrev pub behind : List SemanticAction → (ℕ → Rule) → ℕ → Rule
behind [] at = at
behind (r ∷ rs) at = behind rs (λ n. at (suc n))

pub all_fit : (at : ℕ → Rule) (rs others : List SemanticAction) → AllFit at rs → AllFit (behind rs at) others → AllFit at (rs ++ others)
all_fit at [] others fit more = more
all_fit at (r ∷ rs) others fit more = (fit.0, all_fit (λ n. at (suc n)) rs others fit.1 more)

found_first : (r q : SemanticAction) → Some r ≡ Some q → r ≡ q
found_first r q e = cc

pub fit_at : (at : ℕ → Rule) (rs : List SemanticAction) (p : ℕ) (r : SemanticAction) → AllFit at rs → slice_get rs p ≡ Some r → Fit (at p) r
fit_at at [] p r fit found = absurd (none_there p found)
  where
    none_there : (n : ℕ) → slice_get {X = SemanticAction} [] n ≡ Some r → ⊥
    none_there n e = cc
fit_at at (q ∷ rs) zero r fit found = subst (λ x. Fit (at 0) x) (found_first q r found) fit.0
fit_at at (q ∷ rs) (suc p) r fit found = fit_at (λ n. at (suc n)) rs p r fit.1 found
