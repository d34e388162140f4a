-- Derivations by any context-free grammar. Its language is `IsSentence y`; where a list of tokens leaves that is
-- `IsFirstFault (IsSentence y)`, of `base::lists`.
use Rattle.std.specs.Prelude.{◌≡◌, ℕ, suc, ◌==◌, ◌⊎◌, MatchBool, List, [], ◌∷◌, ◌++◌, Some, slice_get}
use Rattle.base.specs.declared.grammar.table.Symbol.{Symbol}
use Rattle.base.specs.declared.grammar.table.Symbol.TheVariants.{Terminal, Nonterminal}
use Rattle.base.specs.Grammar.Syntax.{Rule, Syntax}

-- the rule with this number rewrites the nonterminal to the body
abbrev pub IsRule : List Rule → ℕ → ℕ → List Symbol → Type 0
IsRule rules number head body = slice_get rules number ≡ Some (record { head = head; body = body })

-- The symbols derive the terminals, where the rules with these numbers rewrite the leftmost nonterminal in turn.
pub data Derives (rules : List Rule) : List Symbol → List ℕ → List ℕ → Type 0 where
  done : Derives rules [] [] []
  shift : {t : ℕ} {s : List Symbol} {ps ts : List ℕ} → Derives rules s ps ts → Derives rules (Terminal t ∷ s) ps (t ∷ ts)
  expand : {p n : ℕ} (b : List Symbol) {s : List Symbol} {ps ts : List ℕ} → IsRule rules p n b → Derives rules (b ++ s) ps ts → Derives rules (Nonterminal n ∷ s) (p ∷ ps) ts

-- what each list of tokens is derived from: the start symbol, and behind it the end mark
abbrev pub start_of : Syntax → List Symbol
start_of y = Nonterminal 0 ∷ Terminal y.end ∷ []

-- The rules with these numbers derive these tokens, leftmost first.
abbrev pub IsDerivation : Syntax → List ℕ → List ℕ → Type 0
IsDerivation y ps ts = Derives y.rules (start_of y) ps ts

-- some rules derive these tokens
abbrev pub IsSentence : Syntax → List ℕ → Type 0
IsSentence y ts = (ps : List ℕ) × IsDerivation y ps ts

-- By these rules, leftmost first and no more than the tokens need, the symbols lead to the tokens and then to the
-- symbols that are left: the last step reads the last token.
pub data ReadsTo (rules : List Rule) : List Symbol → List ℕ → List ℕ → List Symbol → Type 0 where
  stop : {s : List Symbol} → ReadsTo rules s [] [] s
  read : {t : ℕ} {s left : List Symbol} {ps ts : List ℕ} → ReadsTo rules s ps ts left → ReadsTo rules (Terminal t ∷ s) ps (t ∷ ts) left
  rewrite : {p n t : ℕ} (b : List Symbol) {s left : List Symbol} {ps ts : List ℕ} → IsRule rules p n b → ReadsTo rules (b ++ s) ps (t ∷ ts) left → ReadsTo rules (Nonterminal n ∷ s) (p ∷ ps) (t ∷ ts) left

-- The rules that lead to these tokens as the beginning of a sentence, up to the last of the tokens.
abbrev pub IsBeginning : Syntax → List ℕ → List ℕ → Type 0
IsBeginning y ps ts = (left : List Symbol) × ReadsTo y.rules (start_of y) ps ts left

-- The list has the prefix.
abbrev pub StartsWith : List ℕ → List ℕ → Type 0
StartsWith xs front = (rest : List ℕ) × (xs ≡ front ++ rest)

-- The rule is one of the nonterminal's rules in this list, of which the first one has the given number. At a list of
-- rules that is written out it computes to what the number and the body may be.
abbrev pub IsAlternative : ℕ → List Rule → ℕ → ℕ → List Symbol → Type 0
IsAlternative from [] head number body = ⊥
IsAlternative from (r ∷ rules) head number body =
    MatchBool (r.head == head) (((number ≡ from) × (body ≡ r.body)) ⊎ IsAlternative (suc from) rules head number body) (IsAlternative (suc from) rules head number body)
