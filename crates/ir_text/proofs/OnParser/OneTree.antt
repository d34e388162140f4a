-- Tokens are those of one package at most.
use Rattle.std.proofs.Common.{◌≡◌, ℕ, zero, suc, ◌<◌, ◌≤◌, Option, length, arith, ◌∷◌, List, ◌++◌, [], refl, ap, sym, ◌∙◌, subst}
use Rattle.std.specs.Prelude.{Result, Ok, Err, None, Some, IfOk, IfSome, slice_get}
use Rattle.base.specs.declared.grammar.table.Symbol.{Symbol}
use Rattle.base.specs.Grammar.Derivation.{Derives, IsDerivation, IsSentence, start_of}
use Rattle.base.specs.Grammar.Steps.{steps_of}
use Rattle.base.specs.declared.grammar.bottom_up.Step.{Step}
use Rattle.base.specs.Grammar.Syntax.{Rule}
use Rattle.base.specs.Grammar.Tree.{Forest, Grows, IsParseTree, leaves_of, productions_of}
use Rattle.ir_builder.specs.Token.Rules.Ir.{ir}
use Rattle.dslx_token.specs.Lexeme.{Lexeme}
use Rattle.xb_span.specs.declared.limit.Limit.{Limit}
use Rattle.xb_span.specs.declared.limit.What.TheVariants.{Nesting}
use Rattle.xb_span.specs.Nesting.Nesting.{first_past}
use Rattle.base.proofs.Lemmas.Lists.Faults.{IsFirstFault-unique}
use Rattle.ir_builder.specs.declared.builder.Spanned.{Spanned}
use Rattle.ir_builder.specs.Building.{built, spanned_of}
use Rattle.ir_builder.specs.Empty.{empty}
use Rattle.ir_text.specs.Parser.Reads.{AreDeep, AreShallow, IsMisplaced, LeaveGrammarAt, Reads, kinds_of, bracket_classes_of}

-- what the laws of grammars say
pub record TheGrammarLaws : Type 0 where
  pub one_derivation : (ps qs ts : List ℕ) → IsDerivation ir ps ts → IsDerivation ir qs ts → ps ≡ qs
  pub derives : (rules : List Rule) (s : List Symbol) (f : Forest) → Grows rules s f → Derives rules s (productions_of f) (leaves_of f)
  pub one_forest : (rules : List Rule) (s : List Symbol) (f g : Forest) (xs ys : List ℕ) → Grows rules s f → Grows rules s g → productions_of f ++ xs ≡ productions_of g ++ ys → (f ≡ g) × (xs ≡ ys)

derivation_of : TheGrammarLaws → (ls : List Lexeme) (m : Spanned) → (r : Reads ls m) → IsDerivation ir r.productions (kinds_of ls)
derivation_of laws ls m r =
    subst (λ ts. IsDerivation ir r.productions ts) r.derived.tokens
    (subst (λ ps. IsDerivation ir ps (leaves_of r.forest)) r.derived.productions (laws.derives ir.rules (start_of ir) r.forest r.derived.grows))

pub one_spanned : TheGrammarLaws → (ls : List Lexeme) (m n : Spanned) → Reads ls m → Reads ls n → m ≡ n
one_spanned laws ls m n r s =
    let same = laws.one_derivation r.productions s.productions (kinds_of ls) (derivation_of laws ls m r) (derivation_of laws ls n s) in
    let lists : productions_of r.forest ≡ productions_of s.forest = r.derived.productions ∙ same ∙ sym s.derived.productions in
    let forests = laws.one_forest ir.rules (start_of ir) r.forest s.forest [] [] r.derived.grows s.derived.grows (ap (λ ps. ps ++ []) lists) in
    r.spanned_is ∙ ap (λ f. spanned_of (built (steps_of f) ls empty)) forests.0 ∙ sym s.spanned_is

none_within : {T : Type 0} (xs : List T) (i : ℕ) → i < length xs → slice_get xs i ≡ None → ⊥
none_within [] i within e = omega arith
none_within (x ∷ xs) zero within e = cc
none_within (x ∷ xs) (suc i) within e = none_within xs i (omega arith) e

-- what the steps of the tokens' derivation build is what they are
pub tree_reads : {E : Type 0} (ls : List Lexeme) (ps : List ℕ) (steps : List Step) (f : Forest) (r : Result Spanned E) → IsParseTree ir ps (kinds_of ls) f → steps ≡ steps_of f → IfOk r (λ m. m ≡ spanned_of (built steps ls empty)) → IfOk r (λ m. Reads ls m)
tree_reads ls ps steps f (Ok m) tree e is = record { productions = ps; forest = f; derived = tree; spanned_is = is ∙ ap (λ s. spanned_of (built s ls empty)) e }
tree_reads ls ps steps f (Err x) tree e is = tt

-- a sentence with a token that is nested too deep
pub deep_sentence : (ls : List Lexeme) (ps : List ℕ) (deep : ℕ) → IsDerivation ir ps (kinds_of ls) → first_past (bracket_classes_of ls) ≡ Some deep → AreDeep ls (record { what = Nesting; found = 129; most = 128 })
deep_sentence ls ps deep derived passed = record {
  deep = deep;
  passed = passed;
  limit_is = refl;
  first = λ place fault. absurd (fault.none (ps, derived));
}

-- a token that is nested too deep before the first fault
pub deep_before : (ls : List Lexeme) (deep place : ℕ) → LeaveGrammarAt ls place → first_past (bracket_classes_of ls) ≡ Some deep → deep < place → AreDeep ls (record { what = Nesting; found = 129; most = 128 })
deep_before ls deep place fault passed before = record {
  deep = deep;
  passed = passed;
  limit_is = refl;
  first = λ other also. subst (λ p. deep < p) (IsFirstFault-unique (IsSentence ir) (kinds_of ls) place other fault also) before;
}

-- the fault at a token of which the beginning is known
pub fault_at : (ls : List Lexeme) (place at : ℕ) → (token : Option Lexeme) → slice_get ls place ≡ token → place < length ls → IfSome token (λ t. at ≡ t.span.from) → LeaveGrammarAt ls place → ((deep : ℕ) → first_past (bracket_classes_of ls) ≡ Some deep → place ≤ deep) → IsMisplaced ls at
fault_at ls place at None e within starts fault first = absurd (none_within ls place within e)
fault_at ls place at (Some t) e within starts fault first = record { place = place; token = t; fault = fault; here = e; starts = starts; first = first }

pub kinds_length : (ls : List Lexeme) → length (kinds_of ls) ≡ length ls
kinds_length [] = refl
kinds_length (l ∷ ls) = ap suc (kinds_length ls)

-- ---- one cause

pub same_place : (ls : List Lexeme) (at also : ℕ) → IsMisplaced ls at → IsMisplaced ls also → at ≡ also
same_place ls at also a b =
    let place = IsFirstFault-unique (IsSentence ir) (kinds_of ls) a.place b.place a.fault b.fault in
    let one : Some a.token ≡ Some b.token = sym a.here ∙ (ap (slice_get ls) place ∙ b.here) in
    let same : a.token ≡ b.token = cc in
    a.starts ∙ (ap (λ (t : Lexeme). t.span.from) same ∙ sym b.starts)

pub misplaced_or_deep : (ls : List Lexeme) (at : ℕ) (limit : Limit) → IsMisplaced ls at → AreDeep ls limit → ⊥
misplaced_or_deep ls at limit a b =
    let before = b.first a.place a.fault in
    let behind = a.first b.deep b.passed in
    omega (arith, before, behind)

pub deep_or_shallow : (ls : List Lexeme) (limit : Limit) → AreShallow ls → AreDeep ls limit → ⊥
deep_or_shallow ls limit within deep = let both : None ≡ Some deep.deep = sym within ∙ deep.passed in cc

pub reads_or_misplaced : TheGrammarLaws → (ls : List Lexeme) (m : Spanned) (at : ℕ) → Reads ls m → IsMisplaced ls at → ⊥
reads_or_misplaced laws ls m at is fault = fault.fault.none (is.productions, derivation_of laws ls m is)
