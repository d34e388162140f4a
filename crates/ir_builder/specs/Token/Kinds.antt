-- The kinds of an IR text's tokens, as the grammar has them: what a word or a number is depends on the node that it stands in.
use Rattle.std.specs.Prelude.{ℕ, ◌+◌, ◌^◌, ◌==◌, ◌&&◌, ◌||◌, not, nat_lt, if◌then◌else◌, Bool, false, List, [], ◌∷◌, codes, bytes_eq, drop, take, length, Option, Some, None, is_some}
use Rattle.std.specs.List.{list_all, prefix_len}
use Rattle.std.specs.Char.{is_ascii_digit}
use Rattle.std.specs.Str.Parse.{digits_value}
use Rattle.base.specs.Texts.Words.{begins_word}
use Rattle.dslx_token.specs.Lexeme.{Lexeme}
use Rattle.dslx_token.specs.Spelling.{Spelling, kind_among}
use Rattle.delay_model.specs.declared.op.Op.{Op}
use Rattle.delay_model.specs.declared.signature.AttributeKind.{AttributeKind}
use Rattle.delay_model.specs.declared.signature.AttributeKind.TheVariants as attributes
use Rattle.delay_model.specs.Names.{op_named}
use Rattle.delay_model.specs.Signatures.{attribute_kind_of}
use Rattle.ir_builder.specs.declared.token.rules.generated.kind.TheConstants.{ARRAYAT, ASSIGN, BITS, CASES, CHAN, CHANNEL, COUNT, DEFAULT, DEPTH, DYNAMIC, END, EXTEND, ID, INDEX, INDICES, INIT, INNER, INPUT, KIND, LARGE, LBRACE, LITERAL, NAME, NEXT, OPID, OUTPUT, OWN, PACKAGE, PLAIN, PREDICATE, PROC, RPAREN, SEL, SITE, SLICE, SMALL, ST, START, TOKEN, TUPLEINDEX, VALUE, WIDTH}
use Rattle.ir_builder.specs.Token.TokenPrefixes.{value_of_number, mark_kind}

-- the words that have a kind of their own. None of them is reserved
abbrev pub ir_words : List Spelling
ir_words =
    (codes "package", PACKAGE) ∷ (codes "chan", CHAN) ∷ (codes "proc", PROC) ∷ (codes "st", ST) ∷ (codes "init", INIT)
    ∷ (codes "next", NEXT) ∷ (codes "id", ID) ∷ (codes "kind", KIND) ∷ (codes "input", INPUT) ∷ (codes "output", OUTPUT)
    ∷ (codes "inner", INNER) ∷ (codes "depth", DEPTH) ∷ (codes "bits", BITS) ∷ (codes "token", TOKEN)
    ∷ (codes "predicate", PREDICATE) ∷ (codes "channel", CHANNEL) ∷ (codes "cases", CASES) ∷ (codes "default", DEFAULT)
    ∷ (codes "indices", INDICES) ∷ (codes "index", INDEX) ∷ (codes "start", START) ∷ (codes "width", WIDTH)
    ∷ (codes "new_bit_count", COUNT) ∷ (codes "value", VALUE) ∷ []

-- ---- `OP.ID`

abbrev pub is_no_dot : ℕ → Bool
is_no_dot c = not (c == 46)

-- what stands before the first `.`, and what stands behind it
abbrev pub op_part : List ℕ → List ℕ
op_part word = take (prefix_len is_no_dot word) word

abbrev pub id_part : List ℕ → List ℕ
id_part word = drop (prefix_len is_no_dot word + 1) word

-- the digits of a number below 2^32, without leading zeros
abbrev pub is_id : List ℕ → Bool
is_id [] = false
is_id (c ∷ cs) =
    list_all is_ascii_digit (c ∷ cs)
    && ((not (c == 48) || (length cs == 0)) && nat_lt (digits_value 10 (c ∷ cs)) (2 ^ 32))

-- an operation, a `.`, and an id
abbrev pub is_op_id : List ℕ → Bool
is_op_id word = is_some (op_named (op_part word)) && is_id (id_part word)

-- ---- kinds by themselves

unfoldable pub ir_word_kind : List ℕ → ℕ
ir_word_kind word = if is_op_id word then OPID else kind_among ir_words word NAME

abbrev pub ir_number_kind : List ℕ → ℕ
ir_number_kind number = if nat_lt (value_of_number number) (2 ^ 32) then SMALL else LARGE

-- the kind of a token by itself; the mark at the end of a text has no bytes
abbrev pub ir_plain_kind : List ℕ → ℕ
ir_plain_kind [] = END
ir_plain_kind (c ∷ cs) =
    if begins_word c then ir_word_kind (c ∷ cs)
    else if is_ascii_digit c then ir_number_kind (c ∷ cs)
    else mark_kind c

-- ---- kinds in a text

-- the class of an operation, by the kind of its attributes
abbrev pub class_by : AttributeKind → ℕ
class_by attributes.None = PLAIN
class_by attributes.StartAndWidth = SLICE
class_by attributes.Width = DYNAMIC
class_by attributes.NewBitCount = EXTEND
class_by attributes.Cases = SEL
class_by attributes.Index = TUPLEINDEX
class_by attributes.Indices = ARRAYAT
class_by attributes.Value = LITERAL
class_by attributes.Channel = SITE

abbrev pub class_of : Option Op → ℕ
class_of None = NAME
class_of (Some o) = class_by (attribute_kind_of o)

-- what stands before a token: the last kind, the one before, and the `OP.ID` of the node
pub record Context : Type 0 where
  pub last : ℕ
  pub second : ℕ
  pub node : List ℕ

abbrev pub no_context : Context
no_context = record { last = END; second = END; node = [] }

-- behind `=` the node's own operation has the kind of its class, and behind `id=` its own id, as it is written there, is OWN
abbrev pub kind_in : Context → ℕ → List ℕ → ℕ
kind_in before kind bytes =
    if (kind == NAME) && ((before.last == ASSIGN) && bytes_eq bytes (op_part before.node)) then class_of (op_named bytes)
    else if ((kind == SMALL) || (kind == LARGE)) && ((before.last == ASSIGN) && ((before.second == ID) && bytes_eq bytes (id_part before.node))) then OWN
    else kind

-- an `OP.ID` directly behind `{` or `)` begins a node
abbrev pub begins_node : Context → ℕ → Bool
begins_node before kind = (kind == OPID) && ((before.last == LBRACE) || (before.last == RPAREN))

abbrev pub context_behind : Context → ℕ → List ℕ → Context
context_behind before kind bytes =
    record { last = kind; second = before.last; node = if begins_node before kind then bytes else before.node }

-- the tokens with their kinds, behind such a context
abbrev pub settled_in : Context → List Lexeme → List Lexeme
settled_in before [] = []
settled_in before (l ∷ ls) =
    let kind = kind_in before l.kind l.bytes in
    record l { kind = kind } ∷ settled_in (context_behind before kind l.bytes) ls
