-- A token of the kind of an `OP.ID` names an operation.
use Rattle.std.proofs.Common.{◌≡◌, ◌^◌, ◌==◌, ◌&&◌, ◌||◌, nat_lt, not, ℕ, Bool, true, false, Option, None, Some, List, [], ◌∷◌, ◌++◌, bytes_eq, drop, take, refl, sym, subst}
use Rattle.std.specs.Prelude.{if◌then◌else◌, is_some, slice_get}
use Rattle.std.specs.Char.{is_ascii_digit}
use Rattle.std.specs.List.{list_all}
use Rattle.std.proofs.lemmas.Bool.{and_parts, cond_both}
use Rattle.base.specs.Texts.Words.{begins_word}
use Rattle.delay_model.specs.Names.{op_named}
use Rattle.delay_model.specs.Signatures.{attribute_kind_of}
use Rattle.delay_model.specs.declared.op.Op.{Op}
use Rattle.delay_model.specs.declared.signature.AttributeKind.{AttributeKind}
use Rattle.delay_model.specs.declared.signature.AttributeKind.TheVariants as attributes
use Rattle.dslx_token.specs.Blank.{after_blank}
use Rattle.dslx_token.specs.Lexeme.{Lexeme}
use Rattle.dslx_token.specs.Spelling.{Spelling, kind_among}
use Rattle.ir_builder.specs.declared.token.rules.generated.kind.TheConstants.{ASSIGN, COLON, COMMA, END, ID, LARGE, LBRACE, LBRACKET, LPAREN, NAME, OPID, OWN, RBRACE, RBRACKET, RPAREN, SMALL}
use Rattle.ir_builder.specs.Token.TokenPrefixes.{mark_kind, value_of_number}
use Rattle.ir_builder.specs.Token.Kinds.{Context, class_by, class_of, context_behind, id_part, ir_number_kind, ir_plain_kind, ir_word_kind, ir_words, is_op_id, kind_in, no_context, op_part, settled_in}
use Rattle.ir_builder.specs.Token.Tokens.{ends, goes, AreIrTokens, IsCutInto}
use Rattle.ir_builder.specs.Rules.{op_or}

-- ---- kinds

-- where the kind is that of an `OP.ID`, the word is one
abbrev pub NamesItsOp : List ℕ → ℕ → Type 0
NamesItsOp word kind = kind ≡ OPID → is_op_id word ≡ true

other_kind : (word : List ℕ) (kind : ℕ) → (kind == OPID) ≡ false → NamesItsOp word kind
other_kind word kind h e =
    let never : (OPID == OPID) ≡ false = subst (λ k. (k == OPID) ≡ false) e h in
    absurd (cc)

among_words : (ss : List Spelling) (word : List ℕ) → list_all (λ s. not (s.1 == OPID)) ss ≡ true → NamesItsOp word (kind_among ss word NAME)
among_words [] word h = other_kind word NAME refl
among_words (s ∷ ss) word h =
    let parts = and_parts (not (s.1 == OPID)) (list_all (λ t. not (t.1 == OPID)) ss) h in
    cond_both (bytes_eq s.0 word) s.1 (kind_among ss word NAME) (NamesItsOp word)
    (λ same. other_kind word s.1 (turned (s.1 == OPID) parts.0))
    (λ differs. among_words ss word parts.1)
  where
    turned : (b : Bool) → not b ≡ true → b ≡ false
    turned true e = absurd (cc)
    turned false e = refl

word_kind : (word : List ℕ) → NamesItsOp word (ir_word_kind word)
unfolding ir_word_kind
word_kind word = cond_both (is_op_id word) OPID (kind_among ir_words word NAME) (NamesItsOp word) (λ is e. is) (λ other. among_words ir_words word refl)

one_mark : (word : List ℕ) (test : Bool) (kind other : ℕ) → (kind == OPID) ≡ false → NamesItsOp word other → NamesItsOp word (if test then kind else other)
one_mark word test kind other differs rest = cond_both test kind other (NamesItsOp word) (λ is. other_kind word kind differs) (λ not_this. rest)

marks_kind : (word : List ℕ) (c : ℕ) → NamesItsOp word (mark_kind c)
marks_kind word c =
    one_mark word (c == 40) LPAREN _ refl
    (one_mark word (c == 41) RPAREN _ refl
    (one_mark word (c == 91) LBRACKET _ refl
    (one_mark word (c == 93) RBRACKET _ refl
    (one_mark word (c == 123) LBRACE _ refl
    (one_mark word (c == 125) RBRACE _ refl
    (one_mark word (c == 58) COLON _ refl
    (one_mark word (c == 61) ASSIGN _ refl
    (one_mark word (c == 44) COMMA END refl (other_kind word END refl)))))))))

plain_kind : (word : List ℕ) → NamesItsOp word (ir_plain_kind word)
plain_kind [] = other_kind [] END refl
plain_kind (c ∷ cs) =
    cond_both (begins_word c) (ir_word_kind (c ∷ cs)) _ (NamesItsOp (c ∷ cs)) (λ begins. word_kind (c ∷ cs))
    (λ no_word.
    cond_both (is_ascii_digit c) (ir_number_kind (c ∷ cs)) (mark_kind c) (NamesItsOp (c ∷ cs))
    (λ digit. one_mark (c ∷ cs) (nat_lt (value_of_number (c ∷ cs)) (2 ^ 32)) SMALL LARGE refl (other_kind (c ∷ cs) LARGE refl))
    (λ no_digit. marks_kind (c ∷ cs) c))

no_class : (k : AttributeKind) → (class_by k == OPID) ≡ false
no_class attributes.None = refl
no_class attributes.StartAndWidth = refl
no_class attributes.Width = refl
no_class attributes.NewBitCount = refl
no_class attributes.Cases = refl
no_class attributes.Index = refl
no_class attributes.Indices = refl
no_class attributes.Value = refl
no_class attributes.Channel = refl

class_kind : (word : List ℕ) (o : Option Op) → NamesItsOp word (class_of o)
class_kind word None = other_kind word NAME refl
class_kind word (Some o) = other_kind word (class_by (attribute_kind_of o)) (no_class (attribute_kind_of o))

settled_kind : (before : Context) (word : List ℕ) → NamesItsOp word (kind_in before (ir_plain_kind word) word)
settled_kind before word =
    cond_both ((ir_plain_kind word == NAME) && ((before.last == ASSIGN) && bytes_eq word (op_part before.node))) (class_of (op_named word)) _ (NamesItsOp word)
    (λ own. class_kind word (op_named word))
    (λ no_own. one_mark word (((ir_plain_kind word == SMALL) || (ir_plain_kind word == LARGE)) && ((before.last == ASSIGN) && ((before.second == ID) && bytes_eq word (id_part before.node)))) OWN (ir_plain_kind word) refl (plain_kind word))

-- ---- lists of tokens

abbrev pub NameTheirOps : List Lexeme → Type 0
NameTheirOps [] = Unit {0}
NameTheirOps (l ∷ ls) = (NamesItsOp l.bytes l.kind) × (NameTheirOps ls)

pub first_named : (own others : List Lexeme) → NameTheirOps (own ++ others) → NameTheirOps own
first_named [] others h = tt
first_named (l ∷ own) others h = (h.0, first_named own others h.1)

pub others_named : (own others : List Lexeme) → NameTheirOps (own ++ others) → NameTheirOps others
others_named [] others h = h
others_named (l ∷ own) others h = others_named own others h.1

some_same : (l token : Lexeme) → Some l ≡ Some token → l ≡ token
some_same l token e = cc

pub token_named : (own : List Lexeme) (token : Lexeme) → NameTheirOps own → slice_get own 0 ≡ Some token → token.kind ≡ OPID → is_op_id token.bytes ≡ true
token_named [] token h e kind = absurd (cc)
token_named (l ∷ own) token h e kind = subst (λ (x : Lexeme). NamesItsOp x.bytes x.kind) (some_same l token e) h.0 kind

pub op_there : (word : List ℕ) (rest : Bool) → (is_some (op_named word) && rest) ≡ true → op_named word ≡ Some (op_or (op_named word))
op_there word rest h = there (op_named word) (and_parts (is_some (op_named word)) rest h).0
  where
    there : (o : Option Op) → is_some o ≡ true → o ≡ Some (op_or o)
    there None e = absurd (cc)
    there (Some o) e = refl

cut_named : (text rest : List ℕ) (ls : List Lexeme) (before : Context) → IsCutInto text rest ls → NameTheirOps (settled_in before ls)
cut_named text rest ls before (ends r blank) = (settled_kind before [], tt)
cut_named text rest ls before (goes r len more some front tail) =
    let word = take len (after_blank r) in
    let kind = kind_in before (ir_plain_kind word) word in
    (settled_kind before word, cut_named text (drop len (after_blank r)) more (context_behind before kind word) tail)

pub tokens_named : (text : List ℕ) (ls : List Lexeme) → AreIrTokens text ls → NameTheirOps ls
tokens_named text ls tokens = subst (λ (x : List Lexeme). NameTheirOps x) (sym tokens.settled) (cut_named text text tokens.plain no_context tokens.cut)
