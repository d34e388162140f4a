-- Tokens read as one tree at most.
use Rattle.std.proofs.Common.{◌≡◌, ℕ, zero, suc, ◌<◌, Option, length, arith, ◌∷◌, List, ◌++◌, [], refl, ap, sym, ◌∙◌, subst}
use Rattle.std.specs.Prelude.{Result, Ok, Err, None, Some, IfErr, IfOk, IfSome, MatchResult, slice_get}
use Rattle.base.specs.declared.grammar.table.Symbol.{Symbol}
use Rattle.base.specs.Grammar.Derivation.{Derives, IsBeginning, IsDerivation, IsSentence, start_of}
use Rattle.base.specs.Grammar.Steps.{steps_of}
use Rattle.base.specs.declared.grammar.bottom_up.Step.{Step}
use Rattle.base.specs.Grammar.Syntax.{Rule}
use Rattle.base.specs.Grammar.Tree.{Forest, Grows, IsParseTree, leaves_of, productions_of}
use Rattle.dslx_token.specs.Rules.Dslx.{dslx}
use Rattle.dslx_tree.specs.declared.item.Module.{Module}
use Rattle.dslx_token.specs.Lexeme.{Lexeme}
use Rattle.xb_span.specs.declared.read_error.ReadError.{ReadError}
use Rattle.xb_span.specs.declared.read_error.ReadError.TheVariants.{Syntax, Broken, Over, OutOfMemory}
use Rattle.dslx_parser.specs.Builder.Building.{built, module_of}
use Rattle.dslx_parser.specs.Syntax.Trees.{IsTextOf}
use Rattle.dslx_actions.specs.Empty.{empty}
use Rattle.dslx_parser.specs.Reads.{HasDeep, deep_in_text, deep_before_fault, FaultsAt, IsRefusal, HasFaultAt, HasTooDeep, NestsWithin, Reads, before, kinds_of}
use Rattle.dslx_token.specs.BracketClasses.BracketClasses.{bracket_classes_of}
use Rattle.xb_span.specs.Nesting.Nesting.{first_past}
use Rattle.xb_span.specs.declared.limit.What.TheVariants.{Nesting}
use Rattle.base.proofs.Lemmas.Lists.Faults.{IsFirstFault-unique}

-- what the laws of grammars say
pub record TheLaws : Type 0 where
  pub one_derivation : (ps qs ts : List ℕ) → IsDerivation dslx ps ts → IsDerivation dslx qs ts → ps ≡ qs
  pub derives : (rules : List Rule) (s : List Symbol) (f : Forest) → Grows rules s f → Derives rules s (productions_of f) (leaves_of f)
  pub one_forest : (rules : List Rule) (s : List Symbol) (f g : Forest) (xs ys : List ℕ) → Grows rules s f → Grows rules s g → productions_of f ++ xs ≡ productions_of g ++ ys → (f ≡ g) × (xs ≡ ys)
  pub made : (ls : List Lexeme) (ps : List ℕ) (f : Forest) → IsParseTree dslx ps (kinds_of ls) f → IsTextOf ls (module_of (built (steps_of f) ls empty))
  pub are_built : (ls : List Lexeme) (m : Module) → (text : IsTextOf ls m) → IsParseTree dslx (productions_of text.forest) (kinds_of ls) text.forest × (m ≡ module_of (built (steps_of text.forest) ls empty))

parsed : TheLaws → (ls : List Lexeme) (m : Module) → (r : Reads ls m) → IsParseTree dslx (productions_of r.forest) (kinds_of ls) r.forest
parsed laws ls m r = (laws.are_built ls m r).0

pub derivation_of : TheLaws → (ls : List Lexeme) (m : Module) → (r : Reads ls m) → IsDerivation dslx (productions_of r.forest) (kinds_of ls)
derivation_of laws ls m r =
    let tree = parsed laws ls m r in
    subst (λ ts. IsDerivation dslx (productions_of r.forest) ts) tree.tokens (laws.derives dslx.rules (start_of dslx) r.forest tree.grows)

pub one_module : TheLaws → (ls : List Lexeme) (m n : Module) → Reads ls m → Reads ls n → m ≡ n
one_module laws ls m n r s =
    let same = laws.one_derivation (productions_of r.forest) (productions_of s.forest) (kinds_of ls) (derivation_of laws ls m r) (derivation_of laws ls n s) in
    let forests = laws.one_forest dslx.rules (start_of dslx) r.forest s.forest [] [] (parsed laws ls m r).grows (parsed laws ls n s).grows (ap (λ (ps : List ℕ). ps ++ []) same) in
    (laws.are_built ls m r).1 ∙ ap (λ (f : Forest). module_of (built (steps_of f) ls empty)) forests.0 ∙ sym (laws.are_built ls n s).1

-- no place is none
none_or_some : (o : Option ℕ) (deep : ℕ) → o ≡ None → o ≡ Some deep → ⊥
none_or_some o deep none some = let both : None ≡ Some deep = sym none ∙ some in absurd (cc)

-- tokens within the limit have none that is nested too deep
pub deep_or_within : (ls : List Lexeme) → HasDeep ls → NestsWithin ls → ⊥
deep_or_within ls (deep_in_text ps deep derived passed) within =
    none_or_some (first_past (bracket_classes_of ps (kinds_of ls))) deep (within.in_text ps derived) passed
deep_or_within ls (deep_before_fault place ps deep fault beginning passed) within =
    none_or_some (first_past (bracket_classes_of ps (before place ls))) deep (within.before_fault place ps fault beginning) passed

-- what is answered for tokens that read as a tree
pub only_answer : TheLaws → (ls : List Lexeme) (r : Result Module ReadError) → IfOk r (λ m. Reads ls m) → IfErr r (λ e. IsRefusal ls e) → (m : Module) → Reads ls m → NestsWithin ls → MatchResult r (λ found. found ≡ m) (λ e. e ≡ OutOfMemory)
only_answer laws ls (Ok found) reads refused m is within = one_module laws ls found m reads is
only_answer laws ls (Err (Syntax at)) reads refused m is within = absurd (refused.fault.none (productions_of is.forest, derivation_of laws ls m is))
only_answer laws ls (Err (Broken rule span)) reads refused m is within = absurd refused
only_answer laws ls (Err (Over limit)) reads refused m is within = absurd (deep_or_within ls refused.deep within)
only_answer laws ls (Err OutOfMemory) reads refused m is within = refl

abbrev pub WhatIsBuilt : Type 0
WhatIsBuilt = (ls : List Lexeme) (ps : List ℕ) (f : Forest) → IsParseTree dslx ps (kinds_of ls) f → IsTextOf ls (module_of (built (steps_of f) ls empty))

-- what the steps of the tokens' derivation build is what they read as
pub tree_reads : {E : Type 0} → WhatIsBuilt → (ls : List Lexeme) (ps : List ℕ) (steps : List Step) (f : Forest) (r : Result Module E) → IsParseTree dslx ps (kinds_of ls) f → steps ≡ steps_of f → IfOk r (λ m. m ≡ module_of (built steps ls empty)) → IfOk r (λ m. Reads ls m)
tree_reads made ls ps steps f (Ok m) tree e is = subst (Reads ls) (sym (is ∙ ap (λ (s : List Step). module_of (built s ls empty)) e)) (made ls ps f tree)
tree_reads made ls ps steps f (Err x) tree e is = tt

-- ---- sentences

abbrev pub OneDerivation : Type 0
OneDerivation = (ps qs ts : List ℕ) → IsDerivation dslx ps ts → IsDerivation dslx qs ts → ps ≡ qs

pub sentence_within : OneDerivation → (ls : List Lexeme) (ps kinds : List ℕ) → kinds ≡ kinds_of ls → IsDerivation dslx ps (kinds_of ls) → None ≡ first_past (bracket_classes_of ps kinds) → NestsWithin ls
sentence_within one ls ps kinds same derived none =
    let here : first_past (bracket_classes_of ps (kinds_of ls)) ≡ None = sym (none ∙ ap (λ (ks : List ℕ). first_past (bracket_classes_of ps ks)) same) in
    record {
      in_text = λ qs also. subst (λ rs. first_past (bracket_classes_of rs (kinds_of ls)) ≡ None) (one ps qs (kinds_of ls) derived also) here;
      before_fault = λ place qs fault beginning. absurd (fault.none (ps, derived));
    }

pub sentence_deep : (ls : List Lexeme) (ps kinds : List ℕ) (deep : ℕ) → kinds ≡ kinds_of ls → IsDerivation dslx ps (kinds_of ls) → Some deep ≡ first_past (bracket_classes_of ps kinds) → HasTooDeep ls (record { what = Nesting; found = 129; most = 128 })
sentence_deep ls ps kinds deep same derived some = record {
  deep = deep_in_text ps deep derived (sym (some ∙ ap (λ (ks : List ℕ). first_past (bracket_classes_of ps ks)) same));
  limit_is = refl;
}

-- ---- faults

abbrev pub OneBeginning : Type 0
OneBeginning = (ps qs ts : List ℕ) → IsBeginning dslx ps ts → IsBeginning dslx qs ts → ps ≡ qs

pub fault_within : OneBeginning → (ls : List Lexeme) (place : ℕ) (ps kinds : List ℕ) → kinds ≡ before place ls → FaultsAt ls place → IsBeginning dslx ps (before place ls) → None ≡ first_past (bracket_classes_of ps kinds) → NestsWithin ls
fault_within one ls place ps kinds same fault beginning none =
    let here : first_past (bracket_classes_of ps (before place ls)) ≡ None = sym (none ∙ ap (λ (ks : List ℕ). first_past (bracket_classes_of ps ks)) same) in
    record {
      in_text = λ qs derived. absurd (fault.none (qs, derived));
      before_fault = λ other qs also begins.
          let at : place ≡ other = IsFirstFault-unique (IsSentence dslx) (kinds_of ls) place other fault also in
          let begun : IsBeginning dslx qs (before place ls) = subst (λ p. IsBeginning dslx qs (before p ls)) (sym at) begins in
          subst (λ p. first_past (bracket_classes_of qs (before p ls)) ≡ None) at
          (subst (λ rs. first_past (bracket_classes_of rs (before place ls)) ≡ None) (one ps qs (before place ls) beginning begun) here);
    }

pub fault_deep : (ls : List Lexeme) (place : ℕ) (ps kinds : List ℕ) (deep : ℕ) → kinds ≡ before place ls → FaultsAt ls place → IsBeginning dslx ps (before place ls) → Some deep ≡ first_past (bracket_classes_of ps kinds) → HasTooDeep ls (record { what = Nesting; found = 129; most = 128 })
fault_deep ls place ps kinds deep same fault beginning some = record {
  deep = deep_before_fault place ps deep fault beginning (sym (some ∙ ap (λ (ks : List ℕ). first_past (bracket_classes_of ps ks)) same));
  limit_is = refl;
}

none_within : {T : Type 0} (xs : List T) (i : ℕ) → i < length xs → slice_get xs i ≡ None → ⊥
none_within [] i within e = omega arith
none_within (x ∷ xs) zero within e = cc
none_within (x ∷ xs) (suc i) within e = none_within xs i (omega arith) e

-- the fault at a token of which the beginning is known
pub fault_at : (ls : List Lexeme) (place at : ℕ) → (token : Option Lexeme) → slice_get ls place ≡ token → place < length ls → IfSome token (λ t. at ≡ t.span.from) → FaultsAt ls place → NestsWithin ls → HasFaultAt ls at
fault_at ls place at None e inside starts fault within = absurd (none_within ls place inside e)
fault_at ls place at (Some t) e inside starts fault within = record { place = place; token = t; fault = fault; here = e; starts = starts; within = within }

pub kinds_length : (ls : List Lexeme) → length (kinds_of ls) ≡ length ls
kinds_length [] = refl
kinds_length (l ∷ ls) = ap suc (kinds_length ls)
