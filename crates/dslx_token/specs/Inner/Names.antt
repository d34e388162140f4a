-- Sets of names.
use Rattle.std.specs.Prelude.{◌≡◌, ◌&&◌, ◌||◌, ℕ, Bool, List, bytes_eq}
use Rattle.std.specs.HashSet.{HashSet, contains_by}
use denote.Ref.{Bor}
use Rattle.dslx_token.specs.declared.rules.generated.kind.TheConstants.{END}
use Rattle.dslx_token.specs.Kinds.{declares, kind_declared}
use Rattle.dslx_token.specs.Lexeme.{Lexeme}

-- the set has a name of these bytes
abbrev pub has_name : {S : Type 0} → HashSet (Bor (List ℕ)) S → List ℕ → Bool
has_name names q = contains_by (λ k. bytes_eq q k.now) names

-- the kind of a name by three sets: of types, of functions and procs, of structs
abbrev pub kind_by : {S : Type 0} → HashSet (Bor (List ℕ)) S → HashSet (Bor (List ℕ)) S → HashSet (Bor (List ℕ)) S → List ℕ → ℕ
kind_by types callables structs name = kind_declared (has_name types name) (has_name callables name) (has_name structs name)

-- the set has one name more, if the test passes
abbrev pub IsNoted : {S : Type 0} → Bool → List ℕ → HashSet (Bor (List ℕ)) S → HashSet (Bor (List ℕ)) S → Type 0
IsNoted passes name old new = (q : List ℕ) → has_name new q ≡ ((passes && bytes_eq name q) || has_name old q)

-- the set has the names that the tokens declare behind such keywords
abbrev pub AreDeclared : {S : Type 0} → (ℕ → Bool) → List Lexeme → HashSet (Bor (List ℕ)) S → Type 0
AreDeclared heads all names = (q : List ℕ) → has_name names q ≡ declares heads END all q
