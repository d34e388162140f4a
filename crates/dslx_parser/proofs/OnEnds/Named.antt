-- A token that the grammar takes for a name is a word.
use Rattle.std.proofs.Common.{◌≡◌, ◌==◌, ◌||◌, ℕ, Bool, true, false, inl, inr, List, [], ◌∷◌, ◌++◌, if◌then◌else◌, refl, ap, sym, subst, ◌∙◌, arith}
use Rattle.std.proofs.lemmas.Bool.{false≢true, and_parts, or_cases}
use Rattle.std.proofs.lemmas.Bool.Decides.{nat_tests}
use Rattle.std.proofs.lemmas.Slice.Eq.{bytes_eq-Decides}
use Rattle.std.specs.Prelude.{codes, bytes_eq, not, drop}
use Rattle.std.specs.List.{list_all, list_any}
use Rattle.std.specs.Char.{is_ascii_digit, is_ascii_hexdigit}
use Rattle.base.specs.Texts.Words.{begins_word, is_word}
use Rattle.dslx_token.specs.declared.rules.generated.kind.TheConstants.{ARGS, BOTHNAME, END, FIELDS, FUNNAME, LBRACE, LT, NAME, NUMBER, STRING, STRUCTNAME, TYPENAME}
use Rattle.dslx_token.specs.Characters.{is_binary_digit}
use Rattle.dslx_token.specs.Kinds.{hides, kind_behind, name_kind, plain_kind, settled, word_kind}
use Rattle.dslx_token.specs.Lexeme.{Lexeme}
use Rattle.dslx_token.specs.Lexical.{has_prefix, is_binary, is_decimal, is_grouped, is_hexadecimal, is_mark, is_number, IsString, IsToken}
use Rattle.dslx_token.specs.Spelling.{Spelling, kind_among, marks}
use Rattle.dslx_token.specs.Tokens.{PlainTokens, next, at_end, Tokens}

-- the kinds of names
abbrev pub is_name : ℕ → Bool
is_name kind = (kind == NAME) || ((kind == TYPENAME) || ((kind == FUNNAME) || ((kind == STRUCTNAME) || (kind == BOTHNAME))))

-- ---- by their bytes

-- what is found among spellings of which none is a name, is what stands for another one
among : (bytes : List ℕ) (other : ℕ) (ms : List Spelling) → list_all (λ (s : Spelling). not (is_name s.1)) ms ≡ true → is_name (kind_among ms bytes other) ≡ true → kind_among ms bytes other ≡ other
among bytes other [] all h = refl
among bytes other (m ∷ ms) all h =
    let parts = and_parts (not (is_name m.1)) (list_all (λ (s : Spelling). not (is_name s.1)) ms) all in
    by (bytes_eq m.0 bytes) parts.0 (among bytes other ms parts.1) h
  where
    by : (b : Bool) → not (is_name m.1) ≡ true → (is_name (kind_among ms bytes other) ≡ true → kind_among ms bytes other ≡ other)
        → is_name (if b then m.1 else kind_among ms bytes other) ≡ true → (if b then m.1 else kind_among ms bytes other) ≡ other
    by true none later k = absurd (false≢true (ap not (sym k) ∙ none))
    by false none later k = later k

-- no mark, number or string begins as a word does
passes : (p : List ℕ → Bool) (bytes : List ℕ) (ms : List Spelling) → list_all (λ (s : Spelling). p s.0) ms ≡ true → list_any (λ (s : Spelling). bytes_eq s.0 bytes) ms ≡ true → p bytes ≡ true
passes p bytes [] all any = absurd (false≢true any)
passes p bytes (m ∷ ms) all any =
    let parts = and_parts (p m.0) (list_all (λ (s : Spelling). p s.0) ms) all in
    elim (or_cases (bytes_eq m.0 bytes) (list_any (λ (s : Spelling). bytes_eq s.0 bytes) ms) any) [
      | inl e ↦ let same : m.0 ≡ bytes = (bytes_eq-Decides m.0 bytes).0 e in subst (λ b. p b ≡ true) same parts.0
      | inr later ↦ passes p bytes ms parts.1 later
    ]

abbrev begins_otherwise : List ℕ → Bool
begins_otherwise [] = true
begins_otherwise (c ∷ cs) = not (begins_word c)

no_digit : (c : ℕ) → begins_word c ≡ true → is_ascii_digit c ≡ true → ⊥
no_digit c h k = grind (arith, nat_tests)

no_zero : (c second : ℕ) (cs : List ℕ) → begins_word c ≡ true → has_prefix (48 ∷ second ∷ []) (c ∷ cs) ≡ true → ⊥
no_zero c second [] h k = let e : c ∷ [] ≡ 48 ∷ second ∷ [] = (bytes_eq-Decides (c ∷ []) (48 ∷ second ∷ [])).0 k in cc
no_zero c second (b ∷ cs) h k =
    let e : c ∷ b ∷ [] ≡ 48 ∷ second ∷ [] = (bytes_eq-Decides (c ∷ b ∷ []) (48 ∷ second ∷ [])).0 k in
    let first : c ≡ 48 = cc in
    false≢true (subst (λ x. begins_word x ≡ true) first h)

no_number : (c : ℕ) (cs : List ℕ) → begins_word c ≡ true → is_number (c ∷ cs) ≡ true → ⊥
no_number c cs h k =
    elim (or_cases (is_decimal (c ∷ cs) || is_hexadecimal (c ∷ cs)) (is_binary (c ∷ cs)) k) [
      | inl e ↦ elim (or_cases (is_decimal (c ∷ cs)) (is_hexadecimal (c ∷ cs)) e) [
        | inl decimal ↦ no_digit c h (and_parts (is_ascii_digit c) (list_all (λ (d : ℕ). is_ascii_digit d || (d == 95)) cs) decimal).0
        | inr hexadecimal ↦ no_zero c 120 cs h (and_parts (has_prefix (codes "0x") (c ∷ cs)) (is_grouped is_ascii_hexdigit (drop 2 (c ∷ cs))) hexadecimal).0
      ]
      | inr binary ↦ no_zero c 98 cs h (and_parts (has_prefix (codes "0b") (c ∷ cs)) (is_grouped is_binary_digit (drop 2 (c ∷ cs))) binary).0
    ]

no_string : (c : ℕ) (cs : List ℕ) → begins_word c ≡ true → IsString (c ∷ cs) → ⊥
no_string c cs h s = let e : c ∷ cs ≡ 34 ∷ (s.0 ++ 34 ∷ []) = s.2 in let first : c ≡ 34 = cc in false≢true (subst (λ x. begins_word x ≡ true) first h)

no_mark : (c : ℕ) (cs : List ℕ) → begins_word c ≡ true → is_mark (c ∷ cs) ≡ true → ⊥
no_mark c cs h k = let e : not (begins_word c) ≡ true = passes begins_otherwise (c ∷ cs) marks refl k in false≢true (ap not (sym h) ∙ e)

word_of : (c : ℕ) (cs : List ℕ) → begins_word c ≡ true → IsToken (c ∷ cs) → is_word (c ∷ cs) ≡ true
word_of c cs h (inl word) = word
word_of c cs h (inr (inl number)) = absurd (no_number c cs h number)
word_of c cs h (inr (inr (inl string))) = absurd (no_string c cs h string)
word_of c cs h (inr (inr (inr mark))) = absurd (no_mark c cs h mark)

-- a token whose kind by itself is a name's is a word, and only a name
pub name_is_word : (bytes : List ℕ) → IsToken bytes → is_name (plain_kind bytes) ≡ true → is_word bytes ≡ true
name_is_word [] token h = absurd (false≢true h)
name_is_word (c ∷ cs) token h = by (begins_word c) (word_of c cs) h
  where
    other : (b s : Bool) → is_name (if b then NUMBER else if s then STRING else kind_among marks (c ∷ cs) END) ≡ true → ⊥
    other true s k = false≢true k
    other false true k = false≢true k
    other false false k = let e : kind_among marks (c ∷ cs) END ≡ END = among (c ∷ cs) END marks refl k in false≢true (subst (λ kind. is_name kind ≡ true) e k)

    by : (b : Bool) → (b ≡ true → IsToken (c ∷ cs) → is_word (c ∷ cs) ≡ true)
        → is_name (if b then word_kind (c ∷ cs) else if is_ascii_digit c then NUMBER else if c == 34 then STRING else kind_among marks (c ∷ cs) END) ≡ true → is_word (c ∷ cs) ≡ true
    by true word k = word refl token
    by false word k = absurd (other (is_ascii_digit c) (c == 34) k)

-- ---- behind other tokens

-- each name is a word
abbrev pub NamesAreWords : List Lexeme → Type 0
NamesAreWords [] = Unit {0}
NamesAreWords (l ∷ ls) = (is_name l.kind ≡ true → is_word l.bytes ≡ true) × NamesAreWords ls

-- where a name has whatever kind of name, nothing else becomes one
behind_word : (named : List ℕ → ℕ) (before : ℕ) (l : Lexeme) → (is_name l.kind ≡ true → is_word l.bytes ≡ true) → is_name (kind_behind named before l.kind l.bytes) ≡ true → is_word l.bytes ≡ true
behind_word named before l word h = by (l.kind == NAME) (λ e. word (ap (λ b. b || ((l.kind == TYPENAME) || ((l.kind == FUNNAME) || ((l.kind == STRUCTNAME) || (l.kind == BOTHNAME))))) e)) h
  where
    calls : (b : Bool) → is_name (if b then ARGS else LT) ≡ true → ⊥
    calls true k = false≢true k
    calls false k = false≢true k

    opens : (b : Bool) → is_name (if b then FIELDS else LBRACE) ≡ true → ⊥
    opens true k = false≢true k
    opens false k = false≢true k

    other : (lt brace : Bool)
        → is_name (if lt then (if (before == FUNNAME) || (before == BOTHNAME) then ARGS else LT) else if brace then (if (before == STRUCTNAME) || (before == BOTHNAME) then FIELDS else LBRACE) else l.kind) ≡ true
        → is_word l.bytes ≡ true
    other true brace k = absurd (calls ((before == FUNNAME) || (before == BOTHNAME)) k)
    other false true k = absurd (opens ((before == STRUCTNAME) || (before == BOTHNAME)) k)
    other false false k = word k

    by : (b : Bool) → (b ≡ true → is_word l.bytes ≡ true)
        → is_name (if b then (if hides before then NAME else named l.bytes)
        else if l.kind == LT then (if (before == FUNNAME) || (before == BOTHNAME) then ARGS else LT)
        else if l.kind == LBRACE then (if (before == STRUCTNAME) || (before == BOTHNAME) then FIELDS else LBRACE)
        else l.kind) ≡ true
        → is_word l.bytes ≡ true
    by true is k = is refl
    by false is k = other (l.kind == LT) (l.kind == LBRACE) k

settled_words : (named : List ℕ → ℕ) (before : ℕ) (ls : List Lexeme) → NamesAreWords ls → NamesAreWords (settled named before ls)
settled_words named before [] h = tt
settled_words named before (l ∷ ls) h = (behind_word named before l h.0, settled_words named (kind_behind named before l.kind l.bytes) ls h.1)

plain_words : (text rest : List ℕ) (ls : List Lexeme) → PlainTokens text rest ls → NamesAreWords ls
plain_words text rest ls (at_end rest' end) = (λ h. absurd (false≢true h), tt)
plain_words text rest ls (next rest' token behind more at is others) = (name_is_word token is.longest.is_token, plain_words text behind more others)

-- of a text's tokens each name is a word
pub names_are_words : (text : List ℕ) (ls : List Lexeme) → Tokens text ls → NamesAreWords ls
names_are_words text ls t = subst NamesAreWords (sym t.settled_so) (settled_words (name_kind t.plain) END t.plain (plain_words text text t.plain t.plainly))
