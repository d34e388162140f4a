-- The words and marks that have a kind of their own.
use Rattle.std.specs.Prelude.{ℕ, List, [], ◌∷◌, codes, bytes_eq, if◌then◌else◌}
use Rattle.dslx_token.specs.declared.rules.generated.kind.TheConstants.{AMP, ANDAND, ARROW, AS, ASSIGN, BANG, BOOL, CARET, CHAN, COLON, COMMA, CONCAT, CONFIG, CONST, DARROW, DOT, DOTS, ELSE, ENUM, EQ, FALSE, FN, FOR, GE, GT, IF, IN, INIT, LBRACE, LBRACKET, LE, LET, LPAREN, LT, MATCH, MINUS, NE, NEXT, OROR, OUT, PATH, PERCENT, PIPE, PLUS, PLUSCOLON, PROC, PUB, RBRACE, RBRACKET, REST, RPAREN, SEMI, SHL, SHR, SLASH, SPAWN, STAR, STRUCT, TRUE, TYPE, WIDE, WILD}

-- how a token is spelled, and its kind
abbrev pub Spelling : Type 0
Spelling = List ℕ × ℕ

-- the keywords, but for `u1` to `u128` and `s1` to `s128`, and the wildcard
abbrev pub keywords : List Spelling
keywords =
    (codes "_", WILD) ∷ (codes "as", AS) ∷ (codes "bits", WIDE) ∷ (codes "bool", BOOL) ∷ (codes "chan", CHAN)
    ∷ (codes "config", CONFIG) ∷ (codes "const", CONST) ∷ (codes "else", ELSE) ∷ (codes "enum", ENUM)
    ∷ (codes "false", FALSE) ∷ (codes "fn", FN) ∷ (codes "for", FOR) ∷ (codes "if", IF) ∷ (codes "in", IN)
    ∷ (codes "init", INIT) ∷ (codes "let", LET) ∷ (codes "match", MATCH) ∷ (codes "next", NEXT) ∷ (codes "out", OUT)
    ∷ (codes "proc", PROC) ∷ (codes "pub", PUB) ∷ (codes "spawn", SPAWN) ∷ (codes "struct", STRUCT)
    ∷ (codes "true", TRUE) ∷ (codes "type", TYPE) ∷ (codes "uN", WIDE) ∷ (codes "sN", WIDE) ∷ []

-- the marks, the longer ones first
abbrev pub marks : List Spelling
marks =
    (codes "...", DOTS)
    ∷ (codes "::", PATH) ∷ (codes "..", REST) ∷ (codes "+:", PLUSCOLON) ∷ (codes "++", CONCAT) ∷ (codes "->", ARROW)
    ∷ (codes "&&", ANDAND) ∷ (codes "||", OROR) ∷ (codes "==", EQ) ∷ (codes "!=", NE) ∷ (codes "<=", LE)
    ∷ (codes ">=", GE) ∷ (codes "<<", SHL) ∷ (codes ">>", SHR) ∷ (codes "=>", DARROW)
    ∷ (codes "(", LPAREN) ∷ (codes ")", RPAREN) ∷ (codes "[", LBRACKET) ∷ (codes "]", RBRACKET) ∷ (codes "{", LBRACE)
    ∷ (codes "}", RBRACE) ∷ (codes "<", LT) ∷ (codes ">", GT) ∷ (codes ",", COMMA) ∷ (codes ";", SEMI)
    ∷ (codes ":", COLON) ∷ (codes ".", DOT) ∷ (codes "+", PLUS) ∷ (codes "-", MINUS) ∷ (codes "*", STAR)
    ∷ (codes "/", SLASH) ∷ (codes "%", PERCENT) ∷ (codes "&", AMP) ∷ (codes "|", PIPE) ∷ (codes "^", CARET)
    ∷ (codes "!", BANG) ∷ (codes "=", ASSIGN) ∷ []

-- the kind of what is spelled so, or another one where it isn't among these
abbrev pub kind_among : List Spelling → List ℕ → ℕ → ℕ
kind_among [] bytes other = other
kind_among (s ∷ ss) bytes other = if bytes_eq s.0 bytes then s.1 else kind_among ss bytes other
