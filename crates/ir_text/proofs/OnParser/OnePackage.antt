-- A text is one package at most, or refused for one cause.
use Rattle.std.proofs.Common.{◌≡◌, ◌⊎◌, inl, inr, ℕ, List, Option, None, Some, Result, Ok, Err, refl, sym, ap, ◌∙◌, subst}
use Rattle.std.specs.Prelude.{IfErr, IfOk, OnOk, option_map}
use Rattle.dslx_token.specs.Lexeme.{Lexeme}
use Rattle.ir_builder.specs.Token.Tokens.{AreIrTokens, IsCutOffAt, IsTokenRefusal}
use Rattle.ir_tree.specs.declared.package.Package.{Package}
use Rattle.ir_tree.specs.Rules.Verified.{IsVerified, first_fault}
use Rattle.xb_span.specs.Fault.{error_of}
use Rattle.xb_span.specs.declared.fault.Fault.{Fault}
use Rattle.xb_span.specs.declared.limit.Limit.{Limit}
use Rattle.xb_span.specs.declared.read_error.ReadError.{ReadError}
use Rattle.xb_span.specs.declared.read_error.ReadError.TheVariants.{Syntax, Broken, Over, OutOfMemory}
use Rattle.ir_builder.specs.declared.builder.Spanned.{Spanned}
use Rattle.ir_text.specs.Parser.Reads.{AreDeep, AreShallow, IsMisplaced, IsRefusal, Reads}
use Rattle.ir_text.specs.Parser.Texts.{GivesPackage, IsIrTextOf, accepted, cut_off, misplaced, too_deep, faulty}
use Rattle.ir_text.proofs.OnParser.OneTree.{TheGrammarLaws, one_spanned, same_place, misplaced_or_deep, deep_or_shallow, reads_or_misplaced}

-- what the laws of tokens and grammars say
pub record TheLaws : Type 0 where
  pub grammar : TheGrammarLaws
  pub one : (text : List ℕ) (ls ms : List Lexeme) → AreIrTokens text ls → AreIrTokens text ms → ls ≡ ms
  pub place : (text : List ℕ) (i j : ℕ) → IsCutOffAt text text i → IsCutOffAt text text j → i ≡ j
  pub either : (text : List ℕ) (ls : List Lexeme) (at : ℕ) → AreIrTokens text ls → IsCutOffAt text text at → ⊥

module _ (laws : TheLaws) (text : List ℕ) where
  same_shown : (a b : Spanned) → IsIrTextOf text a → IsIrTextOf text b → a ≡ b
  same_shown a b is also =
      let same = laws.one text is.tokens also.tokens is.cut also.cut in
      one_spanned laws.grammar also.tokens a b (subst (λ ls. Reads ls a) same is.reads) also.reads

  shown_or_misplaced : (a : Spanned) (tokens : List Lexeme) (at : ℕ) → IsIrTextOf text a → AreIrTokens text tokens → IsMisplaced tokens at → ⊥
  shown_or_misplaced a tokens at is cut fault =
      reads_or_misplaced laws.grammar tokens a at (subst (λ ls. Reads ls a) (laws.one text is.tokens tokens is.cut cut) is.reads) fault

  shown_or_deep : (a : Spanned) (tokens : List Lexeme) (limit : Limit) → IsIrTextOf text a → AreIrTokens text tokens → AreDeep tokens limit → ⊥
  shown_or_deep a tokens limit is cut deep =
      deep_or_shallow tokens limit (subst (λ ls. AreShallow ls) (laws.one text is.tokens tokens is.cut cut) is.shallow) deep

  shown_or_cut_off : (a : Spanned) (at : ℕ) → IsIrTextOf text a → IsCutOffAt text text at → ⊥
  shown_or_cut_off a at is odd = laws.either text is.tokens at is.cut odd

  sound_or_faulty : (a b : Spanned) (error : ReadError) → IsIrTextOf text a → IsIrTextOf text b → first_fault a.tree a.line_spans ≡ None → option_map error_of (first_fault b.tree b.line_spans) ≡ Some error → ⊥
  sound_or_faulty a b error is also sound fault =
      let none : first_fault b.tree b.line_spans ≡ None = subst (λ (p : Spanned). first_fault p.tree p.line_spans ≡ None) (same_shown a b is also) sound in
      let e : option_map error_of None ≡ Some error = ap (option_map error_of) (sym none) ∙ fault in
      cc

  same_faulty : (a b : Spanned) (e f : ReadError) → IsIrTextOf text a → IsIrTextOf text b → option_map error_of (first_fault a.tree a.line_spans) ≡ Some e → option_map error_of (first_fault b.tree b.line_spans) ≡ Some f → e ≡ f
  same_faulty a b e f is also fault other =
      let same : option_map error_of (first_fault a.tree a.line_spans) ≡ option_map error_of (first_fault b.tree b.line_spans) =
      ap (λ (p : Spanned). option_map error_of (first_fault p.tree p.line_spans)) (same_shown a b is also) in
      let some : Some e ≡ Some f = sym fault ∙ (same ∙ other) in
      cc

  pub one_answer : (a b : Result Package ReadError) → GivesPackage text a → GivesPackage text b → a ≡ b
  one_answer a b (accepted p is sound) (accepted q also sounds) = ap (λ (x : Spanned). Ok x.tree) (same_shown p q is also)
  one_answer a b (accepted p is sound) (cut_off at odd) = absurd (shown_or_cut_off p at is odd)
  one_answer a b (accepted p is sound) (misplaced tokens at cut fault) = absurd (shown_or_misplaced p tokens at is cut fault)
  one_answer a b (accepted p is sound) (too_deep tokens limit cut deep) = absurd (shown_or_deep p tokens limit is cut deep)
  one_answer a b (accepted p is sound) (faulty q error also fault) = absurd (sound_or_faulty p q error is also sound fault)
  one_answer a b (cut_off at odd) (accepted q also sounds) = absurd (shown_or_cut_off q at also odd)
  one_answer a b (cut_off at odd) (cut_off place other) = ap (λ i. Err (Syntax i)) (laws.place text at place odd other)
  one_answer a b (cut_off at odd) (misplaced tokens place cut fault) = absurd (laws.either text tokens at cut odd)
  one_answer a b (cut_off at odd) (too_deep tokens limit cut deep) = absurd (laws.either text tokens at cut odd)
  one_answer a b (cut_off at odd) (faulty q error also fault) = absurd (shown_or_cut_off q at also odd)
  one_answer a b (misplaced tokens at cut fault) (accepted q also sounds) = absurd (shown_or_misplaced q tokens at also cut fault)
  one_answer a b (misplaced tokens at cut fault) (cut_off place odd) = absurd (laws.either text tokens place cut odd)
  one_answer a b (misplaced tokens at cut fault) (misplaced others place cuts other) =
      ap (λ i. Err (Syntax i)) (same_place others at place (subst (λ ls. IsMisplaced ls at) (laws.one text tokens others cut cuts) fault) other)
  one_answer a b (misplaced tokens at cut fault) (too_deep others limit cuts deep) =
      absurd (misplaced_or_deep others at limit (subst (λ ls. IsMisplaced ls at) (laws.one text tokens others cut cuts) fault) deep)
  one_answer a b (misplaced tokens at cut fault) (faulty q error also other) = absurd (shown_or_misplaced q tokens at also cut fault)
  one_answer a b (too_deep tokens limit cut deep) (accepted q also sounds) = absurd (shown_or_deep q tokens limit also cut deep)
  one_answer a b (too_deep tokens limit cut deep) (cut_off place odd) = absurd (laws.either text tokens place cut odd)
  one_answer a b (too_deep tokens limit cut deep) (misplaced others place cuts fault) =
      absurd (misplaced_or_deep others place limit fault (subst (λ ls. AreDeep ls limit) (laws.one text tokens others cut cuts) deep))
  one_answer a b (too_deep tokens limit cut deep) (too_deep others most cuts also) = ap (λ l. Err (Over l)) (deep.limit_is ∙ sym also.limit_is)
  one_answer a b (too_deep tokens limit cut deep) (faulty q error also fault) = absurd (shown_or_deep q tokens limit also cut deep)
  one_answer a b (faulty p error is fault) (accepted q also sounds) = absurd (sound_or_faulty q p error also is sounds fault)
  one_answer a b (faulty p error is fault) (cut_off place odd) = absurd (shown_or_cut_off p place is odd)
  one_answer a b (faulty p error is fault) (misplaced tokens place cut other) = absurd (shown_or_misplaced p tokens place is cut other)
  one_answer a b (faulty p error is fault) (too_deep tokens limit cut deep) = absurd (shown_or_deep p tokens limit is cut deep)
  one_answer a b (faulty p error is fault) (faulty q other also faults) = ap Err (same_faulty p q error other is also fault faults)

-- ---- what the reader answers

pub whole_answer : ((text : List ℕ) (a b : Result Package ReadError) → GivesPackage text a → GivesPackage text b → a ≡ b) → (text : List ℕ) (r : Result Package ReadError) → IfOk r (λ p. GivesPackage text (Ok p)) → IfErr r (λ e. (e ≡ OutOfMemory) ⊎ GivesPackage text (Err e)) → (given : Result Package ReadError) → GivesPackage text given → (r ≡ given) ⊎ (r ≡ Err OutOfMemory)
whole_answer one text (Ok p) gives refused given is = inl (one text (Ok p) given gives is)
whole_answer one text (Err e) gives (inl memory) given is = inr (ap Err memory)
whole_answer one text (Err e) gives (inr cause) given is = inl (one text (Err e) given cause is)

-- tokens that are refused
pub tokens_refused : (text : List ℕ) (e : ReadError) → IsTokenRefusal text e → (e ≡ OutOfMemory) ⊎ GivesPackage text (Err e)
tokens_refused text (Syntax at) is = inr (cut_off at is)
tokens_refused text (Broken rule span) is = absurd is
tokens_refused text (Over limit) is = absurd is
tokens_refused text OutOfMemory is = inl refl

refusal_given : (text : List ℕ) (ls : List Lexeme) → AreIrTokens text ls → (e : ReadError) → IsRefusal ls e → (e ≡ OutOfMemory) ⊎ GivesPackage text (Err e)
refusal_given text ls cut (Syntax at) is = inr (misplaced ls at cut is)
refusal_given text ls cut (Broken rule span) is = absurd is
refusal_given text ls cut (Over limit) is = inr (too_deep ls limit cut is)
refusal_given text ls cut OutOfMemory is = inl refl

pub reading_refused : (text : List ℕ) (ls : List Lexeme) → AreIrTokens text ls → (r : Result Spanned ReadError) → IfErr r (λ e. IsRefusal ls e) → IfErr r (λ e. (e ≡ OutOfMemory) ⊎ GivesPackage text (Err e))
reading_refused text ls cut (Ok p) is = tt
reading_refused text ls cut (Err e) is = refusal_given text ls cut e is

pub reading_shows : (text : List ℕ) (ls : List Lexeme) → AreIrTokens text ls → (r : Result Spanned ReadError) → IfOk r (λ p. Reads ls p) → IfOk r (λ _. AreShallow ls) → IfOk r (λ p. IsIrTextOf text p)
reading_shows text ls cut (Ok p) reads shallow = record { tokens = ls; cut = cut; reads = reads; shallow = shallow }
reading_shows text ls cut (Err e) reads shallow = tt

-- rules and limits that refuse
pub fault_given : (text : List ℕ) (spanned : Spanned) (e : ReadError) → IsIrTextOf text spanned → (e ≡ OutOfMemory) ⊎ (option_map error_of (first_fault spanned.tree spanned.line_spans) ≡ Some e) → (e ≡ OutOfMemory) ⊎ GivesPackage text (Err e)
fault_given text spanned e is (inl memory) = inl memory
fault_given text spanned e is (inr fault) = inr (faulty spanned e is fault)
