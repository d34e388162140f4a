-- What each token adds to the parts.
use Rattle.std.specs.Prelude.{◌==◌, ◌||◌, ◌-◌, ℕ, Bool, true, false, if◌then◌else◌, List, ◌∷◌, length, take, drop, codes, bytes_eq}
use Rattle.dslx_token.specs.declared.rules.generated.kind.TheConstants.{BOOL, BOTHNAME, FUNNAME, NAME, NUMBER, SIGNED, STRING, STRUCTNAME, TYPENAME, UNSIGNED, WIDE}
use Rattle.xb_span.specs.declared.span.Span.{Span}
use Rattle.dslx_tree.specs.declared.type_expr.TypeExpr.{roll-TypeExpr}
use Rattle.dslx_tree.specs.declared.type_expr.TypeNode as types
use Rattle.dslx_token.specs.Lexeme.{Lexeme}
use Rattle.dslx_token.specs.Lexical.{number_value, width_of}
use Rattle.dslx_actions.specs.declared.parts.SemanticStacks.{SemanticStacks}

abbrev pub is_name : ℕ → Bool
is_name kind = (kind == NAME) || ((kind == TYPENAME) || ((kind == FUNNAME) || ((kind == STRUCTNAME) || (kind == BOTHNAME))))

-- of the words `uN`, `bits` and `sN` the one that says a signed type
abbrev pub is_signed_word : List ℕ → Bool
is_signed_word bytes = bytes_eq bytes (codes "sN")

-- what stands between the quotes
abbrev pub unquoted : List ℕ → List ℕ
unquoted bytes = drop 1 (take (length bytes - 1) bytes)

abbrev pub shifted_name : Span → List ℕ → SemanticStacks → SemanticStacks
shifted_name span bytes s = record s { idents = record { span = span; name = bytes } ∷ s.idents }

abbrev pub shifted_number : Span → ℕ → SemanticStacks → SemanticStacks
shifted_number span value s = record s { numbers = record { span = span; is_negative = false; value = value } ∷ s.numbers }

-- `u8` and its kin
abbrev pub shifted_bits : Span → Bool → ℕ → SemanticStacks → SemanticStacks
shifted_bits span is_signed width s = record s { types = roll-TypeExpr (record { span = span; node = types.Bits is_signed width }) ∷ s.types }

abbrev pub shifted_bool : Span → SemanticStacks → SemanticStacks
shifted_bool span s = record s { types = roll-TypeExpr (record { span = span; node = types.Bool }) ∷ s.types }

-- `uN`, `bits` and `sN`
abbrev pub shifted_wide : Span → Bool → SemanticStacks → SemanticStacks
shifted_wide span is_signed s = record s { token_spans = span ∷ s.token_spans; flags = is_signed ∷ s.flags }

-- what a token adds
abbrev pub shifted : Lexeme → SemanticStacks → SemanticStacks
shifted l s =
    if is_name l.kind then shifted_name l.span l.bytes s
    else if l.kind == STRING then shifted_name l.span (unquoted l.bytes) s
    else if l.kind == NUMBER then shifted_number l.span (number_value l.bytes) s
    else if l.kind == UNSIGNED then shifted_bits l.span false (width_of l.bytes) s
    else if l.kind == SIGNED then shifted_bits l.span true (width_of l.bytes) s
    else if l.kind == BOOL then shifted_bool l.span s
    else if l.kind == WIDE then shifted_wide l.span (is_signed_word l.bytes) s
    else record s { token_spans = l.span ∷ s.token_spans }
