-- The tokens of a text stand in it one behind the other.
use Rattle.std.proofs.Common.{◌≡◌, ◌≢◌, ◌≤◌, ◌<◌, ◌+◌, ◌-◌, ◌^◌, ◌==◌, ◌&&◌, nat_lt, ℕ, suc, Bool, true, false, Option, None, Some, List, [], ◌∷◌, ◌++◌, length, drop, take, refl, sym, ap, subst, ◌∙◌, arith, append_assoc}
use Rattle.std.specs.Prelude.{not, if◌then◌else◌, slice_index}
use Rattle.std.specs.List.{prefix_len}
use Rattle.std.specs.Char.{is_ascii_digit, is_ascii_hexdigit}
use Rattle.std.proofs.lemmas.Bool.Decides.{nat_tests}
use Rattle.std.proofs.lemmas.List.{drop_at, length-append, take-append-drop, take_at}
use Rattle.base.specs.Texts.Words.{begins_word}
use Rattle.dslx_token.specs.Blank.{after_blank, behind_blank}
use Rattle.dslx_token.specs.Characters.{is_white}
use Rattle.dslx_token.specs.Lexeme.{Lexeme}
use Rattle.dslx_token.specs.Tokens.{offset_of}
use Rattle.ir_builder.specs.declared.token.rules.generated.kind.TheConstants.{END}
use Rattle.ir_builder.specs.Token.TokenPrefixes.{begins_hexadecimal, digits_len, mark_kind, name_len, number_prefix, token_prefix, value_of_number, word_goes_on}
use Rattle.ir_builder.specs.Token.Kinds.{Context, context_behind, kind_in, no_context, settled_in}
use Rattle.ir_builder.specs.Token.Tokens.{ends, goes, ir_lexeme_at, AreIrTokens, IsCutInto}
use Rattle.ir_text.specs.Parser.Spans.Along.{AreTokensAlong, AreTokensIn}

-- ---- the end of a text

-- a text ends with this rest, behind this front
record EndsIn (text rest : List ℕ) : Type 0 where
  front : List ℕ
  is : text ≡ front ++ rest

ends_all : (text : List ℕ) → EndsIn text text
ends_all text = record { front = []; is = refl }

ends_more : (c : ℕ) (text rest : List ℕ) → EndsIn text rest → EndsIn (c ∷ text) rest
ends_more c text rest e = record { front = c ∷ e.front; is = ap (λ x. c ∷ x) e.is }

ends_in : (text middle rest : List ℕ) → EndsIn text middle → EndsIn middle rest → EndsIn text rest
ends_in text middle rest a b = record { front = a.front ++ b.front; is = a.is ∙ ap (λ x. a.front ++ x) b.is ∙ sym (append_assoc a.front b.front rest) }

ends_if : (test : Bool) (text xs ys : List ℕ) → EndsIn text xs → EndsIn text ys → EndsIn text (if test then xs else ys)
ends_if true text xs ys a b = a
ends_if false text xs ys a b = b

blank_ends : (in_comment : Bool) (cs : List ℕ) → EndsIn cs (behind_blank in_comment cs)
blank_ends in_comment [] = ends_all []
blank_ends true (c ∷ cs) = ends_more c cs (behind_blank (not (c == 10)) cs) (blank_ends (not (c == 10)) cs)
blank_ends false (c ∷ cs) =
    ends_if (is_white c) (c ∷ cs) (behind_blank false cs) (if (c == 47) && (slice_index cs 0 == 47) then behind_blank true cs else (c ∷ cs))
    (ends_more c cs (behind_blank false cs) (blank_ends false cs))
    (ends_if ((c == 47) && (slice_index cs 0 == 47)) (c ∷ cs) (behind_blank true cs) (c ∷ cs) (ends_more c cs (behind_blank true cs) (blank_ends true cs)) (ends_all (c ∷ cs)))

-- ---- a token has a length

begins_goes : (c d : ℕ) → begins_word c ≡ true → word_goes_on c d ≡ true
begins_goes c d h = grind (arith, nat_tests)

if_true : (b : Bool) (m : ℕ) → b ≡ true → 0 < (if b then suc m else 0)
if_true true m h = omega arith
if_true false m h = absurd (cc)

if_one : (b : Bool) (m : ℕ) → b ≡ true → 0 < (if b then (1 + m) else 0)
if_one true m h = omega arith
if_one false m h = absurd (cc)

if_long : (b : Bool) (m n : ℕ) → (b ≡ false → 0 < n) → 0 < (if b then (2 + m) else n)
if_long true m n h = omega arith
if_long false m n h = h refl

either_some : (b : Bool) (x y : Option ℕ) (P : ℕ → Type 0) → (b ≡ true → (n : ℕ) → x ≡ Some n → P n) → (b ≡ false → (n : ℕ) → y ≡ Some n → P n) → (n : ℕ) → (if b then x else y) ≡ Some n → P n
either_some true x y P f g n e = f refl n e
either_some false x y P f g n e = g refl n e

some_long : (m n : ℕ) → Some m ≡ Some n → 0 < m → 0 < n
some_long m n e h = let same : m ≡ n = cc in omega (arith, same, h)

none_gives : (n : ℕ) → None ≡ Some n → 0 < n
none_gives n e = absurd (cc)

prefix_long : (c : ℕ) (cs : List ℕ) (len : ℕ) → token_prefix (c ∷ cs) ≡ Some len → 0 < len
prefix_long c cs =
    either_some (begins_word c) (Some (name_len (c ∷ cs))) _ (λ n. 0 < n)
    (λ h n e. some_long (name_len (c ∷ cs)) n e (if_true (word_goes_on c (slice_index cs 0)) (name_len cs) (begins_goes c (slice_index cs 0) h)))
    (λ other.
    either_some (is_ascii_digit c) (number_prefix (c ∷ cs)) _ (λ n. 0 < n)
    (λ h.
    either_some (nat_lt (value_of_number (take (digits_len (c ∷ cs)) (c ∷ cs))) (2 ^ 128)) (Some (digits_len (c ∷ cs))) None (λ n. 0 < n)
    (λ small n e. some_long (digits_len (c ∷ cs)) n e (if_long (begins_hexadecimal (c ∷ cs)) (prefix_len is_ascii_hexdigit (drop 2 (c ∷ cs))) (prefix_len is_ascii_digit (c ∷ cs)) (λ decimal. if_one (is_ascii_digit c) (prefix_len is_ascii_digit cs) h)))
    (λ large n e. none_gives n e))
    (λ no_digit.
    either_some (mark_kind c == END) None (Some 1) (λ n. 0 < n)
    (λ none n e. none_gives n e)
    (λ mark n e. some_long 1 n e (omega arith))))

long_take : (n : ℕ) (c : ℕ) (cs : List ℕ) → 0 < n → 0 < length (take n (c ∷ cs))
long_take n c cs h = let e : n ≡ suc (n - 1) = omega (arith, h) in subst (λ m. 0 < length (take m (c ∷ cs))) (sym e) (omega arith)

token_long : (rest : List ℕ) (len : ℕ) → rest ≢ [] → token_prefix rest ≡ Some len → 0 < length (take len rest)
token_long [] len some front = absurd (some refl)
token_long (c ∷ cs) len some front = long_take len c cs (prefix_long c cs len front)

-- ---- where it stands

offset_is : (text rest : List ℕ) → (e : EndsIn text rest) → offset_of text rest ≡ length e.front
offset_is text rest e = let a = ap length e.is in let b = length-append e.front rest in omega (arith, a, b)

drop_front : (text rest : List ℕ) → EndsIn text rest → drop (offset_of text rest) text ≡ rest
drop_front text rest e = ap (λ n. drop n text) (offset_is text rest e) ∙ ap (λ x. drop (length e.front) x) e.is ∙ drop_at e.front rest (length e.front) refl

token_there : (from : ℕ) (token behind : List ℕ) (text : List ℕ) → drop from text ≡ token ++ behind → take (from + length token - from) (drop from text) ≡ token
token_there from token behind text e =
    let n : from + length token - from ≡ length token = omega arith in
    ap (λ k. take k (drop from text)) n ∙ ap (λ x. take (length token) x) e ∙ take_at token behind (length token) refl

-- ---- one behind the other

-- what is so of the tokens that are left: these, and the mark
record Left (text : List ℕ) (from : ℕ) (ls : List Lexeme) : Type 0 where
  words : List Lexeme
  mark : Lexeme
  ls_are : ls ≡ words ++ mark ∷ []
  along : AreTokensAlong text words from (length text)
  marked : mark.span ≡ record { from = length text; to = length text }

no_word : (text rest : List ℕ) (kind : ℕ) → Left text (offset_of text rest) (record (ir_lexeme_at (length text) []) { kind = kind } ∷ [])
no_word text rest kind = record {
  words = [];
  mark = record (ir_lexeme_at (length text) []) { kind = kind };
  ls_are = refl;
  along = omega arith;
  marked = λ i. record { from = length text; to = (all i) };
}
  where
    all : length text + 0 ≡ length text
    all = omega arith

module _ (text rest : List ℕ) (len kind : ℕ) (more : List Lexeme) (e : EndsIn text rest) (some : after_blank rest ≢ []) (front : token_prefix (after_blank rest) ≡ Some len) where
  token : List ℕ
  token = take len (after_blank rest)

  behind : List ℕ
  behind = drop len (after_blank rest)

  here : EndsIn text (after_blank rest)
  here = ends_in text rest (after_blank rest) e (blank_ends false rest)

  parts : after_blank rest ≡ token ++ behind
  unfolding token behind
  parts = sym (take-append-drop len (after_blank rest))

  rest_ends : EndsIn text (drop len (after_blank rest))
  unfolding behind token
  rest_ends = ends_in text (after_blank rest) behind here (record { front = token; is = parts })

  lexeme : Lexeme
  lexeme = record (ir_lexeme_at (offset_of text (after_blank rest)) (take len (after_blank rest))) { kind = kind }

  starts : offset_of text rest ≤ offset_of text (after_blank rest)
  starts =
      let b = blank_ends false rest in
      let l = ap length b.is in let m = length-append b.front (after_blank rest) in
      omega (arith, l, m)

  ends_at : offset_of text (after_blank rest) + length (take len (after_blank rest)) ≡ offset_of text (drop len (after_blank rest))
  unfolding behind token
  ends_at =
      let a = ap length parts in let b = length-append token behind in
      let c = ap length here.is in let d = length-append here.front (after_blank rest) in
      omega (arith, a, b, c, d)

  one_word : Left text (offset_of text (drop len (after_blank rest))) more → Left text (offset_of text rest) (record (ir_lexeme_at (offset_of text (after_blank rest)) (take len (after_blank rest))) { kind = kind } ∷ more)
  unfolding lexeme behind token
  one_word left = record {
    words = lexeme ∷ left.words;
    mark = left.mark;
    ls_are = ap (λ (x : List Lexeme). lexeme ∷ x) left.ls_are;
    along = (
      starts,
      (let some_bytes = token_long (after_blank rest) len some front in omega (arith, some_bytes)),
      token_there (offset_of text (after_blank rest)) token behind text (drop_front text (after_blank rest) here ∙ parts),
      subst (λ n. AreTokensAlong text left.words n (length text)) (sym ends_at) left.along,
    );
    marked = left.marked;
  }

cut_along : (text rest : List ℕ) (ls : List Lexeme) (before : Context) → EndsIn text rest → IsCutInto text rest ls → Left text (offset_of text rest) (settled_in before ls)
cut_along text rest ls before e (ends r blank) = no_word text r (kind_in before END [])
cut_along text rest ls before e (goes r len more some front tail) =
    let l = ir_lexeme_at (offset_of text (after_blank r)) (take len (after_blank r)) in
    let kind = kind_in before l.kind l.bytes in
    one_word text r len kind (settled_in (context_behind before kind l.bytes) more) e some front
    (cut_along text (drop len (after_blank r)) more (context_behind before kind l.bytes) (rest_ends text r len kind more e some front) tail)

pub tokens_along : (text : List ℕ) (ls : List Lexeme) → AreIrTokens text ls → AreTokensIn text ls
tokens_along text ls tokens =
    let left = cut_along text text tokens.plain no_context (ends_all text) tokens.cut in
    let zero_is : offset_of text text ≡ 0 = omega arith in
    record {
      words = left.words;
      mark = left.mark;
      ls_are = tokens.settled ∙ left.ls_are;
      along = subst (λ n. AreTokensAlong text left.words n (length text)) zero_is left.along;
      marked = left.marked;
    }
