-- A text gives one module, or is refused for one cause.
use Rattle.std.proofs.Common.{◌≡◌, ◌-◌, ℕ, suc, List, [], ◌∷◌, length, take, drop, Option, Some, None, Result, Ok, Err, inl, inr, refl, ap, sym, ◌∙◌, subst, arith}
use Rattle.std.specs.Prelude.{slice_get, ◌⊎◌}
use Rattle.base.specs.Grammar.Answer.{EndsWith}
use Rattle.vlog_text.specs.declared.token.rules.generated.kind.TheConstants.{END}
use Rattle.dslx_token.specs.Blank.{after_blank}
use Rattle.dslx_token.specs.Tokens.{offset_of}
use Rattle.xb_span.specs.Fault.{error_of}
use Rattle.xb_span.specs.declared.fault.Fault.{Fault}
use Rattle.xb_span.specs.declared.fault.Fault.TheVariants as faults
use Rattle.xb_span.specs.declared.read_error.ReadError.{ReadError}
use Rattle.xb_span.specs.declared.read_error.ReadError.TheVariants.{Syntax, Broken, Over, OutOfMemory}
use Rattle.dslx_token.specs.Lexeme.{Lexeme}
use Rattle.vlog_tree.specs.declared.module.VModule.{VModule}
use Rattle.vlog_text.specs.Token.Tokens.{BreaksAt, HasTokens, IsBroken, ends, goes, verilog_lexeme_at}
use Rattle.vlog_text.specs.declared.builder.parsed.Parsed.{Parsed}
use Rattle.vlog_text.specs.Parser.Reads.{IsParsing, kinds_of, misplaced, whole}
use Rattle.vlog_text.specs.Parser.Reads as parses
use Rattle.vlog_tree.specs.declared.verifier.part_spans.PartSpans.{PartSpans}
use Rattle.vlog_tree.specs.Verifier.Verified.{IsVerdict}
use Rattle.vlog_text.specs.Reader.Given.{GivesModule, IsRefusal, faulty, no_sentence, no_token, sound}

-- what the laws of the layers below say
pub record LayerLaws : Type 0 where
  pub one_list : (text : List ℕ) (ls ms : List Lexeme) → HasTokens text text ls → HasTokens text text ms → ls ≡ ms
  pub one_place : (text : List ℕ) (i j : ℕ) → BreaksAt text text i → BreaksAt text text j → i ≡ j
  pub not_both : (text : List ℕ) (ls : List Lexeme) (at : ℕ) → HasTokens text text ls → BreaksAt text text at → ⊥
  pub one_parsing : (ls : List Lexeme) (a b : Result Parsed ReadError) → IsParsing ls a → IsParsing ls b → a ≡ b
  pub one_judgement : (m : VModule) (part_spans : PartSpans) (one other : Option Fault) → IsVerdict m part_spans one → IsVerdict m part_spans other → one ≡ other

-- what tokens give is what other tokens of the text give
same_parsing : LayerLaws → (text : List ℕ) (ls ms : List Lexeme) (a b : Result Parsed ReadError) → HasTokens text text ls → HasTokens text text ms → IsParsing ls a → IsParsing ms b → a ≡ b
same_parsing laws text ls ms a b h k p q = laws.one_parsing ls a b p (subst (λ x. IsParsing x b) (sym (laws.one_list text ls ms h k)) q)

one_fault : LayerLaws → (p q : Parsed) (a b : Option Fault) → p ≡ q → IsVerdict p.design p.part_spans a → IsVerdict q.design q.part_spans b → a ≡ b
one_fault laws p q a b e h k = laws.one_judgement p.design p.part_spans a b h (subst (λ (x : Parsed). IsVerdict x.design x.part_spans b) (sym e) k)

pub one_given : LayerLaws → (text : List ℕ) (a b : Result VModule ReadError) → GivesModule text a → GivesModule text b → a ≡ b
one_given laws text a b (no_token at odd) (no_token place also) = ap (λ n. Err (Syntax n)) (laws.one_place text at place odd also)
one_given laws text a b (no_token at odd) (no_sentence ls error h p) = absurd (laws.not_both text ls at h odd)
one_given laws text a b (no_token at odd) (faulty ls p fault h q j) = absurd (laws.not_both text ls at h odd)
one_given laws text a b (no_token at odd) (sound ls p h q j) = absurd (laws.not_both text ls at h odd)
one_given laws text a b (no_sentence ls error h p) (no_token at odd) = absurd (laws.not_both text ls at h odd)
one_given laws text a b (no_sentence ls error h p) (no_sentence ms other k q) =
    let same : ◌≡◌ {A = Result Parsed ReadError} (Err error) (Err other) = same_parsing laws text ls ms (Err error) (Err other) h k p q in
    let equal : error ≡ other = cc in ap Err equal
one_given laws text a b (no_sentence ls error h p) (faulty ms q fault k r j) =
    let no : ◌≡◌ {A = Result Parsed ReadError} (Err error) (Ok q) = same_parsing laws text ls ms (Err error) (Ok q) h k p r in absurd (cc)
one_given laws text a b (no_sentence ls error h p) (sound ms q k r j) =
    let no : ◌≡◌ {A = Result Parsed ReadError} (Err error) (Ok q) = same_parsing laws text ls ms (Err error) (Ok q) h k p r in absurd (cc)
one_given laws text a b (faulty ls p fault h r j) (no_token at odd) = absurd (laws.not_both text ls at h odd)
one_given laws text a b (faulty ls p fault h r j) (no_sentence ms error k q) =
    let no : ◌≡◌ {A = Result Parsed ReadError} (Ok p) (Err error) = same_parsing laws text ls ms (Ok p) (Err error) h k r q in absurd (cc)
one_given laws text a b (faulty ls p fault h r j) (faulty ms q other k s i) =
    let same : ◌≡◌ {A = Result Parsed ReadError} (Ok p) (Ok q) = same_parsing laws text ls ms (Ok p) (Ok q) h k r s in
    let equal : p ≡ q = cc in
    let faults : Some fault ≡ Some other = one_fault laws p q (Some fault) (Some other) equal j i in
    let one : fault ≡ other = cc in
    ap (λ f. Err (error_of f)) one
one_given laws text a b (faulty ls p fault h r j) (sound ms q k s i) =
    let same : ◌≡◌ {A = Result Parsed ReadError} (Ok p) (Ok q) = same_parsing laws text ls ms (Ok p) (Ok q) h k r s in
    let equal : p ≡ q = cc in
    let no : ◌≡◌ {A = Option Fault} (Some fault) None = one_fault laws p q (Some fault) None equal j i in absurd (cc)
one_given laws text a b (sound ls p h r j) (no_token at odd) = absurd (laws.not_both text ls at h odd)
one_given laws text a b (sound ls p h r j) (no_sentence ms error k q) =
    let no : ◌≡◌ {A = Result Parsed ReadError} (Ok p) (Err error) = same_parsing laws text ls ms (Ok p) (Err error) h k r q in absurd (cc)
one_given laws text a b (sound ls p h r j) (faulty ms q fault k s i) =
    let same : ◌≡◌ {A = Result Parsed ReadError} (Ok p) (Ok q) = same_parsing laws text ls ms (Ok p) (Ok q) h k r s in
    let equal : p ≡ q = cc in
    let no : ◌≡◌ {A = Option Fault} None (Some fault) = one_fault laws p q None (Some fault) equal j i in absurd (cc)
one_given laws text a b (sound ls p h r j) (sound ms q k s i) =
    let same : ◌≡◌ {A = Result Parsed ReadError} (Ok p) (Ok q) = same_parsing laws text ls ms (Ok p) (Ok q) h k r s in
    let equal : p ≡ q = cc in
    ap (λ (x : Parsed). Ok x.design) equal

-- ---- why a text is refused

pub by_fault : (text : List ℕ) (fault : Fault) → GivesModule text (Err (error_of fault)) → IsRefusal text (error_of fault)
by_fault text (faults.Whole limit) is = is
by_fault text (faults.Broken rule span) is = is
by_fault text (faults.Passed at limit) is = is

-- ---- tokens end with the mark at the text's end

last_more : (x y : ℕ) (ys : List ℕ) (k : ℕ) → slice_get (y ∷ ys) (length (y ∷ ys) - 1) ≡ Some k → slice_get (x ∷ y ∷ ys) (length (x ∷ y ∷ ys) - 1) ≡ Some k
last_more x y ys k e =
    let place : length (x ∷ y ∷ ys) - 1 ≡ suc (length (y ∷ ys) - 1) = omega arith in
    ap (slice_get (x ∷ y ∷ ys)) place ∙ e

behind_one : (l : Lexeme) (ls : List Lexeme) → EndsWith (kinds_of ls) END → EndsWith (kinds_of (l ∷ ls)) END
behind_one l [] e = absurd (cc)
behind_one l (m ∷ ls) e = last_more l.kind m.kind (kinds_of ls) END e

pub ended : (text rest : List ℕ) (ls : List Lexeme) → HasTokens text rest ls → EndsWith (kinds_of ls) END
ended text rest _ (ends r blank) = refl
ended text rest _ (goes r len more some front tail) = behind_one (verilog_lexeme_at (offset_of text (after_blank r)) (take len (after_blank r))) more (ended text (drop len (after_blank r)) more tail)

-- ---- what is answered at each step

pub refused_tokens : (text : List ℕ) (e : ReadError) → IsBroken text e → IsRefusal text e
refused_tokens text (Syntax at) is = no_token at is
refused_tokens text (Broken rule span) is = absurd is
refused_tokens text (Over limit) is = absurd is
refused_tokens text OutOfMemory is = tt

pub refused_parsing : (text : List ℕ) (ls : List Lexeme) (e : ReadError) → HasTokens text text ls → parses.IsRefusal ls e → IsRefusal text e
refused_parsing text ls (Syntax at) tokens is = no_sentence ls (Syntax at) tokens (misplaced at is)
refused_parsing text ls (Broken rule span) tokens is = absurd is
refused_parsing text ls (Over limit) tokens is = absurd is
refused_parsing text ls OutOfMemory tokens is = tt

pub refused_checking : (text : List ℕ) (ls : List Lexeme) (p : Parsed) (e : ReadError) → HasTokens text text ls → IsParsing ls (Ok p)
    → (e ≡ OutOfMemory) ⊎ ((fault : Fault) × IsVerdict p.design p.part_spans (Some fault) × (e ≡ error_of fault)) → IsRefusal text e
refused_checking text ls p e tokens parsed (inl memory) = subst (IsRefusal text) (sym memory) tt
refused_checking text ls p e tokens parsed (inr (fault, judged, is)) = subst (IsRefusal text) (sym is) (by_fault text fault (faulty ls p fault tokens parsed judged))
