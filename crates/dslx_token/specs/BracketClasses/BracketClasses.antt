-- What each token of a DSLX text does to the nesting of those behind it.
use Rattle.std.specs.Prelude.{◌==◌, ℕ, Bool, if◌then◌else◌, List, [], ◌∷◌}
use Rattle.std.specs.List.{list_any}
use Rattle.dslx_token.specs.declared.rules.generated.kind.TheConstants.{AMP, ANDAND, AS, BANG, CARET, COMMA, CONCAT, CONST, DARROW, DOT, ELSE, ENUM, EQ, FIELDS, FN, FOR, GE, GT, IF, LBRACE, LBRACKET, LE, LPAREN, LT, MATCH, MINUS, NE, OROR, PERCENT, PIPE, PLUS, PROC, PUB, RBRACE, RBRACKET, RPAREN, SEMI, SHL, SHR, SLASH, STAR, STRUCT, TYPE}
use Rattle.dslx_token.specs.declared.rules.generated.production.TheConstants as production
use Rattle.xb_span.specs.declared.nesting.bracket_class.BracketClass.{BracketClass}
use Rattle.xb_span.specs.declared.nesting.bracket_class.BracketClass.TheVariants.{Open, OpenMark, OpenBody, Close, Mark, Stop, Item, Head, Plain}
use Rattle.dslx_token.specs.BracketClasses.Takers.{takers_of}

-- The kinds of token that are one of these.
abbrev pub is_one : List ℕ → ℕ → Bool
is_one kinds kind = list_any (λ k. kind == k) kinds

-- the signs that are an operator wherever they stand
abbrev pub signs : List ℕ
signs = AMP ∷ ANDAND ∷ BANG ∷ CARET ∷ CONCAT ∷ EQ ∷ GE ∷ LE ∷ NE ∷ OROR ∷ PERCENT ∷ PLUS ∷ SHL ∷ SHR ∷ SLASH ∷ STAR ∷ []

-- the signs that are an operator only in some rules: `-` and `|`, `<` and `>`
abbrev pub signs_at_times : List ℕ
signs_at_times = MINUS ∷ PIPE ∷ LT ∷ GT ∷ []

-- the rules in which these are an operator or a prefix
abbrev pub operator_rules : List ℕ
operator_rules = production.BINARY__MINUS ∷ production.PREFIXED__MINUS ∷ production.BINARY__PIPE ∷ production.BINARY__LT ∷ production.BINARY__GT ∷ []

-- the rules in which `{` ends the head of an `if`, a `match` or a `for`
abbrev pub headed_rules : List ℕ
headed_rules = production.HEADED_BLOCK ∷ production.MATCH ∷ []

-- what a token of this kind does that is in the body of this rule
abbrev pub bracket_class_of : ℕ → ℕ → BracketClass
bracket_class_of rule kind =
    if kind == LBRACE then (if is_one headed_rules rule then OpenBody else Open)
    else if is_one (LPAREN ∷ FIELDS ∷ []) kind then Open
    else if kind == LBRACKET then OpenMark
    else if is_one (RPAREN ∷ RBRACE ∷ RBRACKET ∷ []) kind then Close
    else if is_one (AS ∷ DOT ∷ ELSE ∷ []) kind then Mark
    else if is_one signs kind then Mark
    else if is_one signs_at_times kind then (if is_one operator_rules rule then Mark else Plain)
    else if kind == COMMA then (if rule == production.ARGS_MORE__COMMA then Plain else Stop)
    else if is_one (SEMI ∷ DARROW ∷ []) kind then Stop
    else if is_one (CONST ∷ ENUM ∷ FN ∷ PROC ∷ PUB ∷ STRUCT ∷ TYPE ∷ []) kind then Item
    else if is_one (FOR ∷ IF ∷ MATCH ∷ []) kind then Head
    else Plain

abbrev pub bracket_classes_by : List ℕ → List ℕ → List BracketClass
bracket_classes_by [] kinds = []
bracket_classes_by (rule ∷ rules) [] = []
bracket_classes_by (rule ∷ rules) (kind ∷ kinds) = bracket_class_of rule kind ∷ bracket_classes_by rules kinds

-- what each of these tokens does, where these productions lead to them
abbrev pub bracket_classes_of : List ℕ → List ℕ → List BracketClass
bracket_classes_of productions kinds = bracket_classes_by (takers_of productions) kinds
