-- Tokens read as one module at most.
use Rattle.std.proofs.Common.{◌≡◌, ℕ, zero, suc, ◌<◌, ◌≤◌, Option, length, arith, ◌∷◌, List, ◌++◌, [], refl, ap, sym, ◌∙◌, subst}
use Rattle.std.specs.Prelude.{Result, Ok, Err, None, Some, IfErr, IfOk, IfSome, MatchResult, slice_get}
use Rattle.base.specs.declared.grammar.table.Symbol.{Symbol}
use Rattle.base.specs.Grammar.Derivation.{Derives, IsDerivation, IsSentence, start_of}
use Rattle.base.specs.Grammar.Steps.{steps_of}
use Rattle.base.specs.declared.grammar.bottom_up.Step.{Step}
use Rattle.base.specs.Grammar.Syntax.{Rule}
use Rattle.base.specs.Grammar.Tree.{Forest, Grows, IsParseTree, leaves_of, productions_of}
use Rattle.base.specs.Lists.Fault.{IsFirstFault}
use Rattle.base.proofs.Lemmas.Lists.Faults.{IsFirstFault-unique}
use Rattle.vlog_text.specs.Token.Rules.Verilog.{verilog}
use Rattle.dslx_token.specs.Lexeme.{Lexeme}
use Rattle.xb_span.specs.declared.read_error.ReadError.{ReadError}
use Rattle.xb_span.specs.declared.read_error.ReadError.TheVariants.{Syntax, Broken, Over, OutOfMemory}
use Rattle.vlog_text.specs.declared.builder.parsed.Parsed.{Parsed}
use Rattle.vlog_text.specs.Builder.Building.{built, parsed_of}
use Rattle.vlog_text.specs.Builder.Empty.{empty}
use Rattle.vlog_text.specs.Parser.Reads.{IsUnexpectedToken, IsParsing, IsRefusal, Reads, kinds_of, misplaced, whole}

-- what the laws of grammars say
pub record GrammarLaws : Type 0 where
  pub one_derivation : (ps qs ts : List ℕ) → IsDerivation verilog ps ts → IsDerivation verilog qs ts → ps ≡ qs
  pub derives : (rules : List Rule) (s : List Symbol) (f : Forest) → Grows rules s f → Derives rules s (productions_of f) (leaves_of f)
  pub one_forest : (rules : List Rule) (s : List Symbol) (f g : Forest) (xs ys : List ℕ) → Grows rules s f → Grows rules s g → productions_of f ++ xs ≡ productions_of g ++ ys → (f ≡ g) × (xs ≡ ys)

derivation_of : GrammarLaws → (ls : List Lexeme) (p : Parsed) → (r : Reads ls p) → IsDerivation verilog r.productions (kinds_of ls)
derivation_of laws ls p r =
    subst (λ ts. IsDerivation verilog r.productions ts) r.derived.tokens
    (subst (λ ps. IsDerivation verilog ps (leaves_of r.forest)) r.derived.productions (laws.derives verilog.rules (start_of verilog) r.forest r.derived.grows))

pub one_module : GrammarLaws → (ls : List Lexeme) (p q : Parsed) → Reads ls p → Reads ls q → p ≡ q
one_module laws ls p q r s =
    let same = laws.one_derivation r.productions s.productions (kinds_of ls) (derivation_of laws ls p r) (derivation_of laws ls q s) in
    let lists : productions_of r.forest ≡ productions_of s.forest = r.derived.productions ∙ same ∙ sym s.derived.productions in
    let forests = laws.one_forest verilog.rules (start_of verilog) r.forest s.forest [] [] r.derived.grows s.derived.grows (ap (λ ps. ps ++ []) lists) in
    r.parsed_is ∙ ap (λ f. parsed_of (built (steps_of f) ls empty)) forests.0 ∙ sym s.parsed_is

-- what is answered for tokens that read as a module
pub only_answer : GrammarLaws → (ls : List Lexeme) (r : Result Parsed ReadError) → IfOk r (λ p. Reads ls p) → IfErr r (λ e. IsRefusal ls e) → (p : Parsed) → Reads ls p → MatchResult r (λ found. found ≡ p) (λ e. e ≡ OutOfMemory)
only_answer laws ls (Ok found) reads refused p is = one_module laws ls found p reads is
only_answer laws ls (Err (Syntax at)) reads refused p is = absurd (refused.fault.none (is.productions, derivation_of laws ls p is))
only_answer laws ls (Err (Broken rule span)) reads refused p is = absurd refused
only_answer laws ls (Err (Over limit)) reads refused p is = absurd refused
only_answer laws ls (Err OutOfMemory) reads refused p is = refl

none_within : {T : Type 0} (xs : List T) (i : ℕ) → i < length xs → slice_get xs i ≡ None → ⊥
none_within [] i within e = omega arith
none_within (x ∷ xs) zero within e = cc
none_within (x ∷ xs) (suc i) within e = none_within xs i (omega arith) e

-- what the steps of the tokens' derivation build is what they read as
pub tree_reads : {E : Type 0} (ls : List Lexeme) (ps : List ℕ) (steps : List Step) (f : Forest) (r : Result Parsed E) → IsParseTree verilog ps (kinds_of ls) f → steps ≡ steps_of f → IfOk r (λ p. p ≡ parsed_of (built steps ls empty)) → IfOk r (λ p. Reads ls p)
tree_reads ls ps steps f (Ok p) tree e is = record { productions = ps; forest = f; derived = tree; parsed_is = is ∙ ap (λ s. parsed_of (built s ls empty)) e }
tree_reads ls ps steps f (Err x) tree e is = tt

-- the fault at a token of which the beginning is known
pub fault_at : (ls : List Lexeme) (place at : ℕ) → (token : Option Lexeme) → slice_get ls place ≡ token → place < length ls → IfSome token (λ t. at ≡ t.span.from) → IsFirstFault (IsSentence verilog) (kinds_of ls) place → IsUnexpectedToken ls at
fault_at ls place at None e within starts fault = absurd (none_within ls place within e)
fault_at ls place at (Some t) e within starts fault = record { place = place; token = t; fault = fault; here = e; starts = starts }

pub kinds_length : (ls : List Lexeme) → length (kinds_of ls) ≡ length ls
kinds_length [] = refl
kinds_length (l ∷ ls) = ap suc (kinds_length ls)

-- ---- one parsing

same_place : (ls : List Lexeme) (at also : ℕ) → IsUnexpectedToken ls at → IsUnexpectedToken ls also → at ≡ also
same_place ls at also a b =
    let place = IsFirstFault-unique (IsSentence verilog) (kinds_of ls) a.place b.place a.fault b.fault in
    let one : Some a.token ≡ Some b.token = sym a.here ∙ (ap (slice_get ls) place ∙ b.here) in
    let same : a.token ≡ b.token = cc in
    a.starts ∙ (ap (λ (t : Lexeme). t.span.from) same ∙ sym b.starts)

pub one_answer : GrammarLaws → (ls : List Lexeme) (a b : Result Parsed ReadError) → IsParsing ls a → IsParsing ls b → a ≡ b
one_answer laws ls a b (whole p is) (whole q also) = ap Ok (one_module laws ls p q is also)
one_answer laws ls a b (whole p is) (misplaced at fault) = absurd (fault.fault.none (is.productions, derivation_of laws ls p is))
one_answer laws ls a b (misplaced at fault) (whole q also) = absurd (fault.fault.none (also.productions, derivation_of laws ls q also))
one_answer laws ls a b (misplaced at fault) (misplaced also other) = ap (λ n. Err (Syntax n)) (same_place ls at also fault other)
