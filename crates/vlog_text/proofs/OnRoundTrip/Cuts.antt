-- How parts of a printed text are cut into words.
use Rattle.std.proofs.Common.{◌≡◌, ◌<◌, ◌≤◌, ◌==◌, ◌&&◌, ◌∙◌, ℕ, Bool, true, false, List, [], ◌∷◌, ◌++◌, drop, take, length, Option, Some, refl, sym, ap, subst, append_assoc, nat_lt, arith}
use Rattle.std.specs.Prelude.{codes, decimal, slice_index, if◌then◌else◌}
use Rattle.std.specs.Char.{is_ascii_digit}
use Rattle.std.specs.List.{list_all}
use Rattle.std.proofs.lemmas.Bool.Decides.{nat_tests}
use Rattle.base.specs.Texts.Words.{begins_word, is_word, is_word_byte}
use Rattle.dslx_token.specs.Blank.{after_blank, behind_blank}
use Rattle.dslx_token.specs.Characters.{is_white}
use Rattle.dslx_token.specs.Lexeme.{Lexeme}
use Rattle.dslx_token.specs.Tokens.{offset_of}
use Rattle.vlog_text.specs.declared.token.rules.generated.kind.TheConstants.{END}
use Rattle.vlog_tree.specs.declared.expression.Literal.{Literal}
use Rattle.vlog_text.specs.Token.TokenPrefixes.{token_prefix_len, mark_len, number_len}
use Rattle.vlog_text.specs.Token.Tokens.{HasTokens, ends, goes, verilog_lexeme_at}
use Rattle.vlog_text.specs.Printer.Parts.{literal_text}
use Rattle.vlog_text.proofs.OnRoundTrip.Says.{AreOf, are-append}
use Rattle.vlog_text.proofs.OnRoundTrip.Spelling.{AreDigits, and_first, decimal_digits, drop_prefix, if_false, literal-len, literal_prefix, number-len, stops, take_prefix, word-len}

-- ---- cutting

-- the text is these words, and then the tokens that are left
pub record CutSo (whole text : List ℕ) (words : List (List ℕ)) (more : List Lexeme) : Type 0 where
  pub lexemes : List Lexeme
  pub are : AreOf lexemes words
  pub cuts : HasTokens whole text (lexemes ++ more)

-- the part is these words, whatever stands behind it
pub record Opens (part : List ℕ) (words : List (List ℕ)) : Type 0 where
  pub cut : (whole rest : List ℕ) (more : List Lexeme) → HasTokens whole rest more → CutSo whole (part ++ rest) words more

-- the part is these words, where what stands behind it goes on no word
pub record Cuts (part : List ℕ) (words : List (List ℕ)) : Type 0 where
  pub cut : (whole rest : List ℕ) (more : List Lexeme) → stops rest ≡ true → HasTokens whole rest more → CutSo whole (part ++ rest) words more

pub as_cuts : {part : List ℕ} {words : List (List ℕ)} → Opens part words → Cuts part words
as_cuts x = record { cut = λ whole rest more stop h. x.cut whole rest more h }

-- one part behind the other
joined : (whole a b rest : List ℕ) (ws vs : List (List ℕ)) (more : List Lexeme) (y : CutSo whole (b ++ rest) vs more) → CutSo whole (a ++ (b ++ rest)) ws (y.lexemes ++ more) → CutSo whole ((a ++ b) ++ rest) (ws ++ vs) more
joined whole a b rest ws vs more y x = record {
  lexemes = x.lexemes ++ y.lexemes;
  are = are-append x.lexemes y.lexemes ws vs x.are y.are;
  cuts = subst (λ t. HasTokens whole t ((x.lexemes ++ y.lexemes) ++ more)) (sym (append_assoc a b rest))
      (subst (λ ls. HasTokens whole (a ++ (b ++ rest)) ls) (sym (append_assoc x.lexemes y.lexemes more)) x.cuts);
}

pub opens_opens : {a b : List ℕ} {ws vs : List (List ℕ)} → Opens a ws → Opens b vs → Opens (a ++ b) (ws ++ vs)
opens_opens {a} {b} {ws} {vs} x y = record {
  cut = λ whole rest more h.
      let second = y.cut whole rest more h in
      joined whole a b rest ws vs more second (x.cut whole (b ++ rest) (second.lexemes ++ more) second.cuts);
}

pub opens_cuts : {a b : List ℕ} {ws vs : List (List ℕ)} → Opens a ws → Cuts b vs → Cuts (a ++ b) (ws ++ vs)
opens_cuts {a} {b} {ws} {vs} x y = record {
  cut = λ whole rest more stop h.
      let second = y.cut whole rest more stop h in
      joined whole a b rest ws vs more second (x.cut whole (b ++ rest) (second.lexemes ++ more) second.cuts);
}

pub cuts_opens : {a b : List ℕ} {ws vs : List (List ℕ)} → Cuts a ws → Opens b vs → ((rest : List ℕ) → stops (b ++ rest) ≡ true) → Opens (a ++ b) (ws ++ vs)
cuts_opens {a} {b} {ws} {vs} x y begins = record {
  cut = λ whole rest more h.
      let second = y.cut whole rest more h in
      joined whole a b rest ws vs more second (x.cut whole (b ++ rest) (second.lexemes ++ more) (begins rest) second.cuts);
}

pub cuts_cuts : {a b : List ℕ} {ws vs : List (List ℕ)} → Cuts a ws → Cuts b vs → ((rest : List ℕ) → stops rest ≡ true → stops (b ++ rest) ≡ true) → Cuts (a ++ b) (ws ++ vs)
cuts_cuts {a} {b} {ws} {vs} x y begins = record {
  cut = λ whole rest more stop h.
      let second = y.cut whole rest more stop h in
      joined whole a b rest ws vs more second (x.cut whole (b ++ rest) (second.lexemes ++ more) (begins rest stop) second.cuts);
}

pub opens_nothing : Opens [] []
opens_nothing = record { cut = λ whole rest more h. record { lexemes = []; are = tt; cuts = h } }

-- ---- blanks

behind_space : (whole rest : List ℕ) (more : List Lexeme) → HasTokens whole rest more → HasTokens whole (32 ∷ rest) more
behind_space whole rest _ (ends _ e) = ends (32 ∷ rest) e
behind_space whole rest _ (goes _ len more some len_is h) = goes (32 ∷ rest) len more some len_is h

behind_line : (whole rest : List ℕ) (more : List Lexeme) → HasTokens whole rest more → HasTokens whole (10 ∷ rest) more
behind_line whole rest _ (ends _ e) = ends (10 ∷ rest) e
behind_line whole rest _ (goes _ len more some len_is h) = goes (10 ∷ rest) len more some len_is h

pub opens_space : Opens (codes " ") []
opens_space = record { cut = λ whole rest more h. record { lexemes = []; are = tt; cuts = behind_space whole rest more h } }

pub opens_line : Opens (codes "\n") []
opens_line = record { cut = λ whole rest more h. record { lexemes = []; are = tt; cuts = behind_line whole rest more h } }

-- ---- one token

nothing_there : (w rest : List ℕ) → 0 < length w → w ++ rest ≡ [] → ⊥
nothing_there [] rest some e = omega (arith, some)
nothing_there (c ∷ cs) rest some e = cc

cut_token : (whole w rest : List ℕ) (more : List Lexeme) → 0 < length w → after_blank (w ++ rest) ≡ w ++ rest → token_prefix_len (w ++ rest) ≡ Some (length w) → HasTokens whole rest more → CutSo whole (w ++ rest) (w ∷ []) more
cut_token whole w rest more some blank len h = record {
  lexemes = verilog_lexeme_at (offset_of whole (w ++ rest)) w ∷ [];
  are = ((offset_of whole (w ++ rest), refl), tt);
  cuts =
      subst (λ v. HasTokens whole (w ++ rest) (verilog_lexeme_at (offset_of whole (w ++ rest)) v ∷ more)) (take_prefix w rest)
      (subst (λ t. HasTokens whole (w ++ rest) (verilog_lexeme_at (offset_of whole t) (take (length w) t) ∷ more)) blank
      (goes (w ++ rest) (length w) more (λ none. nothing_there w rest some (sym blank ∙ none)) (ap token_prefix_len blank ∙ len)
      (subst (λ t. HasTokens whole (drop (length w) t) more) (sym blank) (subst (λ t. HasTokens whole t more) (sym (drop_prefix w rest)) h))));
}

-- no blank begins here
stays : (c : ℕ) (cs : List ℕ) → is_white c ≡ false → (c == 47) ≡ false → after_blank (c ∷ cs) ≡ c ∷ cs
stays c cs white slash =
    if_false (is_white c) (behind_blank false cs) _ white
    ∙ if_false ((c == 47) && (slice_index cs 0 == 47)) (behind_blank true cs) (c ∷ cs) (ap (λ b. b && (slice_index cs 0 == 47)) slash)

-- ---- words, numbers and literals

word_stays : (c : ℕ) → begins_word c ≡ true → (is_white c ≡ false) × ((c == 47) ≡ false)
word_stays c h = (grind (arith, nat_tests), grind (arith, nat_tests))

digit_stays : (c : ℕ) → is_ascii_digit c ≡ true → (is_white c ≡ false) × ((c == 47) ≡ false)
digit_stays c h = (grind (arith, nat_tests), grind (arith, nat_tests))

pub cuts_word : (w : List ℕ) → is_word w ≡ true → Cuts w (w ∷ [])
cuts_word [] h = let no : false ≡ true = h in absurd (cc)
cuts_word (c ∷ cs) h =
    let both = word_stays c (and_first (begins_word c) (list_all is_word_byte cs) h) in
    record { cut = λ whole rest more stop k. cut_token whole (c ∷ cs) rest more (omega arith) (stays c (cs ++ rest) both.0 both.1) (word-len (c ∷ cs) rest h stop) k }

pub spaced_word : (w : List ℕ) → is_word w ≡ true → Opens (w ++ codes " ") (w ∷ [])
spaced_word w h = cuts_opens (cuts_word w h) opens_space (λ rest. refl)

digits_stay : (ds rest : List ℕ) → AreDigits ds → after_blank (ds ++ rest) ≡ ds ++ rest
digits_stay [] rest d = absurd (omega (arith, d.some))
digits_stay (c ∷ cs) rest d = let both = digit_stays c (and_first (is_ascii_digit c) (list_all is_ascii_digit cs) d.all) in stays c (cs ++ rest) both.0 both.1

pub cuts_number : (n : ℕ) → n ≤ 128 → Cuts (decimal n) (decimal n ∷ [])
cuts_number n h =
    let ds = decimal_digits n (omega (arith, h)) in
    record { cut = λ whole rest more stop k. cut_token whole (decimal n) rest more ds.some (digits_stay (decimal n) rest ds) (number-len n rest h stop) k }

pub cuts_literal : (l : Literal) → l.width ≤ 128 → Cuts (literal_text l) (literal_text l ∷ [])
cuts_literal l h =
    let front = literal_prefix l h in
    record {
      cut = λ whole rest more stop k.
          cut_token whole (literal_text l) rest more front.some
          (ap (λ t. after_blank (t ++ rest)) front.is ∙ ap after_blank (append_assoc front.digits front.behind rest)
          ∙ digits_stay front.digits (front.behind ++ rest) front.are ∙ sym (append_assoc front.digits front.behind rest) ∙ ap (λ t. t ++ rest) (sym front.is))
          (literal-len l rest h stop) k;
    }

-- ---- marks

abbrev chosen : Bool → Option ℕ
chosen double = if double then Some 2 else Some 1

abbrev no_double : Bool → Bool → Bool → ℕ
no_double a b c = if a then END else if b then END else if c then END else END

single : (a b c : Bool) → chosen (nat_lt (no_double a b c) END) ≡ Some 1
single true b c = refl
single false true c = refl
single false false true = refl
single false false false = refl

mark : (c : ℕ) → ((rest : List ℕ) → after_blank (c ∷ rest) ≡ c ∷ rest) → ((rest : List ℕ) → token_prefix_len (c ∷ rest) ≡ Some 1) → Opens (c ∷ []) ((c ∷ []) ∷ [])
mark c blank len = record { cut = λ whole rest more h. cut_token whole (c ∷ []) rest more (omega arith) (blank rest) (len rest) h }

pub mark_LPAREN : Opens (codes "(") (codes "(" ∷ [])
unfolding token_prefix_len mark_len
mark_LPAREN = mark 40 (λ rest. refl) (λ rest. single (slice_index rest 0 == 61) (slice_index rest 0 == 60) (slice_index rest 0 == 62))

pub mark_RPAREN : Opens (codes ")") (codes ")" ∷ [])
unfolding token_prefix_len mark_len
mark_RPAREN = mark 41 (λ rest. refl) (λ rest. single (slice_index rest 0 == 61) (slice_index rest 0 == 60) (slice_index rest 0 == 62))

pub mark_SEMI : Opens (codes ";") (codes ";" ∷ [])
unfolding token_prefix_len mark_len
mark_SEMI = mark 59 (λ rest. refl) (λ rest. single (slice_index rest 0 == 61) (slice_index rest 0 == 60) (slice_index rest 0 == 62))

pub mark_COMMA : Opens (codes ",") (codes "," ∷ [])
unfolding token_prefix_len mark_len
mark_COMMA = mark 44 (λ rest. refl) (λ rest. single (slice_index rest 0 == 61) (slice_index rest 0 == 60) (slice_index rest 0 == 62))

pub mark_LBRACKET : Opens (codes "[") (codes "[" ∷ [])
unfolding token_prefix_len mark_len
mark_LBRACKET = mark 91 (λ rest. refl) (λ rest. single (slice_index rest 0 == 61) (slice_index rest 0 == 60) (slice_index rest 0 == 62))

pub mark_RBRACKET : Opens (codes "]") (codes "]" ∷ [])
unfolding token_prefix_len mark_len
mark_RBRACKET = mark 93 (λ rest. refl) (λ rest. single (slice_index rest 0 == 61) (slice_index rest 0 == 60) (slice_index rest 0 == 62))

pub mark_COLON : Opens (codes ":") (codes ":" ∷ [])
unfolding token_prefix_len mark_len
mark_COLON = mark 58 (λ rest. refl) (λ rest. single (slice_index rest 0 == 61) (slice_index rest 0 == 60) (slice_index rest 0 == 62))

pub mark_LBRACE : Opens (codes "{") (codes "{" ∷ [])
unfolding token_prefix_len mark_len
mark_LBRACE = mark 123 (λ rest. refl) (λ rest. single (slice_index rest 0 == 61) (slice_index rest 0 == 60) (slice_index rest 0 == 62))

pub mark_RBRACE : Opens (codes "}") (codes "}" ∷ [])
unfolding token_prefix_len mark_len
mark_RBRACE = mark 125 (λ rest. refl) (λ rest. single (slice_index rest 0 == 61) (slice_index rest 0 == 60) (slice_index rest 0 == 62))

pub mark_AT : Opens (codes "@") (codes "@" ∷ [])
unfolding token_prefix_len mark_len
mark_AT = mark 64 (λ rest. refl) (λ rest. single (slice_index rest 0 == 61) (slice_index rest 0 == 60) (slice_index rest 0 == 62))

pub mark_MINUS : Opens (codes "-") (codes "-" ∷ [])
unfolding token_prefix_len mark_len
mark_MINUS = mark 45 (λ rest. refl) (λ rest. single (slice_index rest 0 == 61) (slice_index rest 0 == 60) (slice_index rest 0 == 62))

pub mark_TILDE : Opens (codes "~") (codes "~" ∷ [])
unfolding token_prefix_len mark_len
mark_TILDE = mark 126 (λ rest. refl) (λ rest. single (slice_index rest 0 == 61) (slice_index rest 0 == 60) (slice_index rest 0 == 62))

pub mark_AMP : Opens (codes "&") (codes "&" ∷ [])
unfolding token_prefix_len mark_len
mark_AMP = mark 38 (λ rest. refl) (λ rest. single (slice_index rest 0 == 61) (slice_index rest 0 == 60) (slice_index rest 0 == 62))

pub mark_PIPE : Opens (codes "|") (codes "|" ∷ [])
unfolding token_prefix_len mark_len
mark_PIPE = mark 124 (λ rest. refl) (λ rest. single (slice_index rest 0 == 61) (slice_index rest 0 == 60) (slice_index rest 0 == 62))

pub mark_CARET : Opens (codes "^") (codes "^" ∷ [])
unfolding token_prefix_len mark_len
mark_CARET = mark 94 (λ rest. refl) (λ rest. single (slice_index rest 0 == 61) (slice_index rest 0 == 60) (slice_index rest 0 == 62))

-- with a space on each side
spaced : (w : List ℕ) → 0 < length w → ((rest : List ℕ) → after_blank (w ++ 32 ∷ rest) ≡ w ++ 32 ∷ rest) → ((rest : List ℕ) → token_prefix_len (w ++ 32 ∷ rest) ≡ Some (length w)) → Opens (32 ∷ (w ++ 32 ∷ [])) (w ∷ [])
spaced w some blank len = record {
  cut = λ whole rest more h.
      let cut = cut_token whole w (32 ∷ rest) more some (blank rest) (len rest) (behind_space whole rest more h) in
      record {
        lexemes = cut.lexemes;
        are = cut.are;
        cuts = subst (λ t. HasTokens whole (32 ∷ t) (cut.lexemes ++ more)) (sym (append_assoc w (32 ∷ []) rest)) (behind_space whole (w ++ 32 ∷ rest) (cut.lexemes ++ more) cut.cuts);
      };
}

pub spaced_PLUS : Opens (codes " + ") (codes "+" ∷ [])
unfolding token_prefix_len mark_len
spaced_PLUS = spaced (codes "+") (omega arith) (λ rest. refl) (λ rest. refl)

pub spaced_MINUS : Opens (codes " - ") (codes "-" ∷ [])
unfolding token_prefix_len mark_len
spaced_MINUS = spaced (codes "-") (omega arith) (λ rest. refl) (λ rest. refl)

pub spaced_STAR : Opens (codes " * ") (codes "*" ∷ [])
unfolding token_prefix_len mark_len
spaced_STAR = spaced (codes "*") (omega arith) (λ rest. refl) (λ rest. refl)

pub spaced_SLASH : Opens (codes " / ") (codes "/" ∷ [])
unfolding token_prefix_len mark_len
spaced_SLASH = spaced (codes "/") (omega arith) (λ rest. refl) (λ rest. refl)

pub spaced_PERCENT : Opens (codes " % ") (codes "%" ∷ [])
unfolding token_prefix_len mark_len
spaced_PERCENT = spaced (codes "%") (omega arith) (λ rest. refl) (λ rest. refl)

pub spaced_AMP : Opens (codes " & ") (codes "&" ∷ [])
unfolding token_prefix_len mark_len
spaced_AMP = spaced (codes "&") (omega arith) (λ rest. refl) (λ rest. refl)

pub spaced_PIPE : Opens (codes " | ") (codes "|" ∷ [])
unfolding token_prefix_len mark_len
spaced_PIPE = spaced (codes "|") (omega arith) (λ rest. refl) (λ rest. refl)

pub spaced_CARET : Opens (codes " ^ ") (codes "^" ∷ [])
unfolding token_prefix_len mark_len
spaced_CARET = spaced (codes "^") (omega arith) (λ rest. refl) (λ rest. refl)

pub spaced_EQ : Opens (codes " == ") (codes "==" ∷ [])
unfolding token_prefix_len mark_len
spaced_EQ = spaced (codes "==") (omega arith) (λ rest. refl) (λ rest. refl)

pub spaced_NE : Opens (codes " != ") (codes "!=" ∷ [])
unfolding token_prefix_len mark_len
spaced_NE = spaced (codes "!=") (omega arith) (λ rest. refl) (λ rest. refl)

pub spaced_SHL : Opens (codes " << ") (codes "<<" ∷ [])
unfolding token_prefix_len mark_len
spaced_SHL = spaced (codes "<<") (omega arith) (λ rest. refl) (λ rest. refl)

pub spaced_SHR : Opens (codes " >> ") (codes ">>" ∷ [])
unfolding token_prefix_len mark_len
spaced_SHR = spaced (codes ">>") (omega arith) (λ rest. refl) (λ rest. refl)

pub spaced_LT : Opens (codes " < ") (codes "<" ∷ [])
unfolding token_prefix_len mark_len
spaced_LT = spaced (codes "<") (omega arith) (λ rest. refl) (λ rest. refl)

pub spaced_LE : Opens (codes " <= ") (codes "<=" ∷ [])
unfolding token_prefix_len mark_len
spaced_LE = spaced (codes "<=") (omega arith) (λ rest. refl) (λ rest. refl)

pub spaced_GT : Opens (codes " > ") (codes ">" ∷ [])
unfolding token_prefix_len mark_len
spaced_GT = spaced (codes ">") (omega arith) (λ rest. refl) (λ rest. refl)

pub spaced_GE : Opens (codes " >= ") (codes ">=" ∷ [])
unfolding token_prefix_len mark_len
spaced_GE = spaced (codes ">=") (omega arith) (λ rest. refl) (λ rest. refl)

pub spaced_EQUALS : Opens (codes " = ") (codes "=" ∷ [])
unfolding token_prefix_len mark_len
spaced_EQUALS = spaced (codes "=") (omega arith) (λ rest. refl) (λ rest. refl)

pub spaced_QUESTION : Opens (codes " ? ") (codes "?" ∷ [])
unfolding token_prefix_len mark_len
spaced_QUESTION = spaced (codes "?") (omega arith) (λ rest. refl) (λ rest. refl)

pub spaced_COLON : Opens (codes " : ") (codes ":" ∷ [])
unfolding token_prefix_len mark_len
spaced_COLON = spaced (codes ":") (omega arith) (λ rest. refl) (λ rest. refl)

pub spaced_ASHR : Opens (codes " >>> ") (codes ">>>" ∷ [])
unfolding token_prefix_len mark_len
spaced_ASHR = spaced (codes ">>>") (omega arith) (λ rest. refl) (λ rest. refl)

pub signed_word : Opens (codes "$signed(") (codes "$signed" ∷ codes "(" ∷ [])
unfolding token_prefix_len
signed_word = record {
  cut = λ whole rest more h.
      let second = mark_LPAREN.cut whole rest more h in
      joined whole (codes "$signed") (codes "(") rest (codes "$signed" ∷ []) (codes "(" ∷ []) more second
      (cut_token whole (codes "$signed") (codes "(" ++ rest) (second.lexemes ++ more) (omega arith) refl refl second.cuts);
}

-- `0]`
pub zero_end : Opens (codes "0]") (codes "0" ∷ codes "]" ∷ [])
unfolding token_prefix_len number_len
zero_end = record {
  cut = λ whole rest more h.
      let second = mark_RBRACKET.cut whole rest more h in
      joined whole (codes "0") (codes "]") rest (codes "0" ∷ []) (codes "]" ∷ []) more second
      (cut_token whole (codes "0") (codes "]" ++ rest) (second.lexemes ++ more) (omega arith) refl refl second.cuts);
}
