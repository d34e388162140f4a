-- The kind of a token, which its own text says.
use Rattle.std.specs.Prelude.{ℕ, ◌==◌, if◌then◌else◌, List, [], ◌∷◌, codes, length, slice_index}
use Rattle.std.specs.Char.{is_ascii_digit}
use Rattle.base.specs.Texts.Words.{begins_word}
use Rattle.dslx_token.specs.Spelling.{Spelling, kind_among}
use Rattle.vlog_text.specs.declared.token.rules.generated.kind.TheConstants.{ALWAYS, ASHR, ASSIGN, BEGIN, CLK, ELSE, END, ENDBLOCK, ENDMODULE, IF, INPUT, LITERAL, MODULE, NAME, NUMBER, OUTPUT, POSEDGE, REG, RST, SIGNED, WIRE, ZERO}
use Rattle.vlog_text.specs.Token.TokenPrefixes.{begins_literal, double_kind, single_kind, width_said}

-- the reserved words, and the two names that have a kind of their own
abbrev pub verilog_words : List Spelling
verilog_words =
    (codes "assign", ASSIGN) ∷ (codes "wire", WIRE) ∷ (codes "reg", REG) ∷ (codes "clk", CLK) ∷ (codes "rst", RST)
    ∷ (codes "input", INPUT) ∷ (codes "output", OUTPUT) ∷ (codes "module", MODULE) ∷ (codes "endmodule", ENDMODULE)
    ∷ (codes "always", ALWAYS) ∷ (codes "posedge", POSEDGE) ∷ (codes "begin", BEGIN) ∷ (codes "end", ENDBLOCK)
    ∷ (codes "if", IF) ∷ (codes "else", ELSE) ∷ []

-- a literal, or digits of value 0, or other digits
unfoldable pub digits_kind : List ℕ → ℕ
digits_kind bytes = if begins_literal bytes then LITERAL else if width_said bytes == 0 then ZERO else NUMBER

unfoldable pub mark_kind : List ℕ → ℕ
mark_kind bytes =
    if length bytes == 1 then single_kind (slice_index bytes 0)
    else if length bytes == 2 then double_kind (slice_index bytes 0) (slice_index bytes 1)
    else ASHR

-- the kind of a token; the mark at the end of a text has no bytes
abbrev pub verilog_kind : List ℕ → ℕ
verilog_kind [] = END
verilog_kind (c ∷ cs) =
    if begins_word c then kind_among verilog_words (c ∷ cs) NAME
    else if is_ascii_digit c then digits_kind (c ∷ cs)
    else if c == 36 then SIGNED
    else mark_kind (c ∷ cs)
