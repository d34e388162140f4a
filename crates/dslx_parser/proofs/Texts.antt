-- What the tokens of a text read as is what the text does.
use Rattle.std.proofs.Common.{◌≡◌, ◌∙◌, ℕ, List, inl, inr, refl, sym, subst}
use Rattle.std.specs.Prelude.{Result, Ok, Err, IfErr, IfOk, MatchResult}
use Rattle.dslx_token.specs.Lexeme.{Lexeme}
use Rattle.dslx_token.specs.Tokens.{Tokens}
use Rattle.dslx_tree.specs.declared.item.Module.{Module}
use Rattle.xb_span.specs.declared.read_error.ReadError.{ReadError}
use Rattle.xb_span.specs.declared.read_error.ReadError.TheVariants.{OutOfMemory}
use Rattle.dslx_parser.specs.Reads.{IsRefusal, IsTextRefusal, NestsWithin, Reads, TextReads}

pub text_reads : (text : List ℕ) (ls : List Lexeme) → Tokens text ls → (r : Result Module ReadError) → IfOk r (λ m. Reads ls m) → IfOk r (λ m. NestsWithin ls) → IfOk r (λ m. TextReads text m)
text_reads text ls cut (Ok m) reads within = record { tokens = ls; cut = cut; reads = reads; within = within }
text_reads text ls cut (Err e) reads within = tt

pub text_refused : (text : List ℕ) (ls : List Lexeme) → Tokens text ls → (r : Result Module ReadError) → IfErr r (λ e. IsRefusal ls e) → IfErr r (λ e. IsTextRefusal text e)
text_refused text ls cut (Ok m) refused = tt
text_refused text ls cut (Err e) refused = inr (record { tokens = ls; cut = cut; refusal = refused })

pub text_only : (text : List ℕ) (ls : List Lexeme) (r : Result Module ReadError) → ((ks : List Lexeme) → Tokens text ks → ls ≡ ks) → ((m : Module) → Reads ls m → NestsWithin ls → MatchResult r (λ found. found ≡ m) (λ e. e ≡ OutOfMemory)) → (m : Module) → TextReads text m → MatchResult r (λ found. found ≡ m) (λ e. e ≡ OutOfMemory)
text_only text ls r one only m t =
    let same = one t.tokens t.cut in
    only m (subst (λ ks. Reads ks m) (sym same) t.reads) (subst NestsWithin (sym same) t.within)

-- where there are no tokens the text reads as no tree
pub text_lacks : (text : List ℕ) (e : ReadError) → ((ks : List Lexeme) → Tokens text ks → e ≡ OutOfMemory) → (m : Module) → TextReads text m → e ≡ OutOfMemory
text_lacks text e lacks m t = lacks t.tokens t.cut
