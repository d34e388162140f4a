-- Every rule of the grammar keeps the depths of parts, and each symbol of its body may stand where it does.
use Rattle.std.proofs.Common.{◌≡◌, ◌+◌, ℕ, zero, suc, Bool, true, false, List, [], ◌∷◌, ◌++◌, refl, subst, arith}
use Rattle.std.specs.Prelude.{Some, slice_get, ◌&&◌}
use Rattle.dslx_token.specs.declared.rules.generated.production.TheConstants.{ARGS_MORE__COMMA, ATOM__NUMBER, BLOCK, EXPR, IF, PROC}
use Rattle.dslx_parser.specs.Syntax.SymbolParts.{SemanticAction}
use Rattle.dslx_parser.specs.Syntax.Trees.{semantic_actions}
use Rattle.dslx_parser.specs.Syntax.Atoms as atoms
use Rattle.dslx_parser.specs.Syntax.Blocks as blocks
use Rattle.dslx_parser.specs.Syntax.Items as items
use Rattle.dslx_parser.specs.Syntax.Operators as operators
use Rattle.dslx_parser.specs.Syntax.Procs as procs
use Rattle.dslx_parser.specs.Syntax.Statements as statements
use Rattle.dslx_parser.specs.Syntax.Types as types
use Rattle.dslx_parser.proofs.OnDepths.Effects.{effect_of}
use Rattle.dslx_parser.proofs.OnDepths.Fits.{AllKeep, none, ◌&◌, Keeps}
use Rattle.dslx_parser.proofs.OnDepths.KeepsAtoms as keeps_atoms
use Rattle.dslx_parser.proofs.OnDepths.KeepsBlocks as keeps_blocks
use Rattle.dslx_parser.proofs.OnDepths.KeepsItems as keeps_items
use Rattle.dslx_parser.proofs.OnDepths.KeepsOperators as keeps_operators
use Rattle.dslx_parser.proofs.OnDepths.KeepsProcs as keeps_procs
use Rattle.dslx_parser.proofs.OnDepths.KeepsStatements as keeps_statements
use Rattle.dslx_parser.proofs.OnDepths.KeepsTypes as keeps_types
use Rattle.dslx_parser.proofs.OnDepths.Ready.{begins, is_ready}

-- the number behind those of these rules
abbrev number_behind : ℕ → List SemanticAction → ℕ
number_behind p [] = p
number_behind p (r ∷ rs) = number_behind (suc p) rs

all_keep : {p q : ℕ} {rs others : List SemanticAction} → AllKeep p rs → q ≡ number_behind p rs → AllKeep q others → AllKeep p (rs ++ others)
all_keep {q = q} {others = others} none e more = subst (λ (n : ℕ). AllKeep n others) e more
all_keep (keep & keeps) e more = keep & all_keep keeps e more

every_rule : AllKeep 0 semantic_actions
unfolding semantic_actions atoms.rules blocks.rules items.rules operators.rules procs.rules statements.rules types.rules
every_rule = all_keep {q = PROC} keeps_items.keep refl (all_keep {q = ARGS_MORE__COMMA} keeps_procs.keep refl (all_keep {q = BLOCK} keeps_types.keep refl (all_keep {q = EXPR} keeps_statements.keep refl (all_keep {q = ATOM__NUMBER} keeps_operators.keep refl (all_keep {q = IF} keeps_atoms.keep refl keeps_blocks.keep)))))

found_first : (r q : SemanticAction) → Some r ≡ Some q → r ≡ q
found_first r q e = cc

none_there : (r : SemanticAction) (n : ℕ) → slice_get {X = SemanticAction} [] n ≡ Some r → ⊥
none_there r n e = cc

-- so many behind this number
abbrev counted : ℕ → ℕ → ℕ
counted zero p = p
counted (suc n) p = counted n (suc p)

counts : (n p : ℕ) → counted n p ≡ n + p
counts zero p = omega arith
counts (suc n) p = let rest = counts n (suc p) in omega (arith, rest)

keeps_in : (rs : List SemanticAction) (n p : ℕ) (r : SemanticAction) → AllKeep p rs → slice_get rs n ≡ Some r → Keeps (counted n p) r
keeps_in [] n p r keep found = absurd (none_there r n found)
keeps_in (q ∷ rs) zero p r (keep & keeps) found = subst (Keeps p) (found_first q r found) keep
keeps_in (q ∷ rs) (suc n) p r (keep & keeps) found = keeps_in rs n (suc p) r keeps found

itself : (n : ℕ) → counted n 0 ≡ n
itself n = let all = counts n 0 in omega (arith, all)

pub keeps_at : (n : ℕ) (r : SemanticAction) → slice_get semantic_actions n ≡ Some r → Keeps n r
keeps_at n r found = subst (λ (p : ℕ). Keeps p r) (itself n) (keeps_in semantic_actions n 0 r every_rule found)

-- ---- the test of all rules

abbrev are_ready : ℕ → List SemanticAction → Bool
are_ready p [] = true
are_ready p (r ∷ rs) = is_ready (begins (effect_of r.head)) p r.body && are_ready (suc p) rs

all_ready : are_ready 0 semantic_actions ≡ true
unfolding semantic_actions atoms.rules blocks.rules items.rules operators.rules procs.rules statements.rules types.rules
all_ready = refl

first_of : (a b : Bool) → (a && b) ≡ true → a ≡ true
first_of true b e = refl
first_of false b e = absurd (cc)

rest_of : (a b : Bool) → (a && b) ≡ true → b ≡ true
rest_of true b e = e
rest_of false b e = absurd (cc)

ready_in : (rs : List SemanticAction) (n p : ℕ) (r : SemanticAction) → are_ready p rs ≡ true → slice_get rs n ≡ Some r → is_ready (begins (effect_of r.head)) (counted n p) r.body ≡ true
ready_in [] n p r ready found = absurd (none_there r n found)
ready_in (q ∷ rs) zero p r ready found = subst (λ (x : SemanticAction). is_ready (begins (effect_of x.head)) p x.body ≡ true) (found_first q r found) (first_of (is_ready (begins (effect_of q.head)) p q.body) (are_ready (suc p) rs) ready)
ready_in (q ∷ rs) (suc n) p r ready found = ready_in rs n (suc p) r (rest_of (is_ready (begins (effect_of q.head)) p q.body) (are_ready (suc p) rs) ready) found

pub rules_ready : (n : ℕ) (r : SemanticAction) → slice_get semantic_actions n ≡ Some r → is_ready (begins (effect_of r.head)) n r.body ≡ true
rules_ready n r found = subst (λ (p : ℕ). is_ready (begins (effect_of r.head)) p r.body ≡ true) (itself n) (ready_in semantic_actions n 0 r all_ready found)
