-- The rules of the grammar and the words that are spelled one way, each with what it does to what is being built.
use Rattle.std.proofs.Common.{ℕ, List, [], ◌∷◌, refl}
use Rattle.std.specs.Prelude.{codes}
use Rattle.base.specs.declared.grammar.table.Symbol.TheVariants.{Terminal, Nonterminal}
use Rattle.base.specs.Grammar.Derivation.{IsRule}
use Rattle.vlog_text.specs.declared.token.rules.generated.kind.TheConstants as kind
use Rattle.vlog_text.specs.declared.token.rules.generated.nonterminal.TheConstants as nonterminal
use Rattle.vlog_text.specs.declared.token.rules.generated.production.TheConstants as production
use Rattle.vlog_text.specs.Token.Rules.Rules.{named_rules}
use Rattle.vlog_text.specs.Token.Rules.Verilog.{verilog}
use Rattle.vlog_tree.specs.declared.module.Direction.TheVariants as directions
use Rattle.vlog_tree.specs.declared.module.Storage.TheVariants as storages
use Rattle.vlog_tree.specs.declared.expression.Binary.TheVariants as binary
use Rattle.vlog_tree.specs.declared.expression.Order.TheVariants as order
use Rattle.vlog_tree.specs.declared.expression.Unary.TheVariants as unary
use Rattle.vlog_text.specs.Token.Kinds.{mark_kind}
use Rattle.vlog_text.specs.declared.builder.rule.Rule.TheVariants.{Keep, RangeOf, NoRange, PortOf, DirectionOf, DeclarationOf, StorageOf, AssignmentOf, SkipIdent, ResetsOf, ClocksOf, SetOf, NameAtom, LiteralAtom, NameExpr, LiteralExpr, SimpleExpr, SignedExpr, NameSimple, LiteralSimple, UnaryOf, ConcatOf, More, Start, BinaryTail, NoTail, ChoiceTail, SliceTail, OrderTail, ShiftTail, UnaryIs, BinaryIs, OrderedBinary, OrderIs}
use Rattle.vlog_text.proofs.OnRoundTrip.Core.{Core, reduced_core}
use Rattle.vlog_text.proofs.OnRoundTrip.Says.{Says, says_is, says_rule, says_token}

-- ---- rules

rule_MODULE : IsRule verilog.rules production.MODULE nonterminal.MODULE (Terminal kind.MODULE ∷ Nonterminal nonterminal.NAME ∷ Terminal kind.LPAREN ∷ Nonterminal nonterminal.PORT ∷ Nonterminal nonterminal.PORTS_MORE ∷ Terminal kind.RPAREN ∷ Terminal kind.SEMI ∷ Nonterminal nonterminal.ITEMS ∷ [])
unfolding verilog named_rules
rule_MODULE = refl

pub by_MODULE : {ws : List (List ℕ)} {f : Core → Core} → Says (Terminal kind.MODULE ∷ Nonterminal nonterminal.NAME ∷ Terminal kind.LPAREN ∷ Nonterminal nonterminal.PORT ∷ Nonterminal nonterminal.PORTS_MORE ∷ Terminal kind.RPAREN ∷ Terminal kind.SEMI ∷ Nonterminal nonterminal.ITEMS ∷ []) ws f → Says (Nonterminal nonterminal.MODULE ∷ []) ws (λ c. reduced_core Keep (f c))
by_MODULE x = says_rule production.MODULE nonterminal.MODULE Keep rule_MODULE refl x

rule_ITEMS : IsRule verilog.rules production.ITEMS nonterminal.ITEMS (Nonterminal nonterminal.DECLARATIONS ∷ Nonterminal nonterminal.ASSIGNMENTS ∷ Nonterminal nonterminal.CLOCKED ∷ Terminal kind.ENDMODULE ∷ [])
unfolding verilog named_rules
rule_ITEMS = refl

pub by_ITEMS : {ws : List (List ℕ)} {f : Core → Core} → Says (Nonterminal nonterminal.DECLARATIONS ∷ Nonterminal nonterminal.ASSIGNMENTS ∷ Nonterminal nonterminal.CLOCKED ∷ Terminal kind.ENDMODULE ∷ []) ws f → Says (Nonterminal nonterminal.ITEMS ∷ []) ws (λ c. reduced_core Keep (f c))
by_ITEMS x = says_rule production.ITEMS nonterminal.ITEMS Keep rule_ITEMS refl x

rule_NAME__NAME : IsRule verilog.rules production.NAME__NAME nonterminal.NAME (Terminal kind.NAME ∷ [])
unfolding verilog named_rules
rule_NAME__NAME = refl

pub by_NAME__NAME : {ws : List (List ℕ)} {f : Core → Core} → Says (Terminal kind.NAME ∷ []) ws f → Says (Nonterminal nonterminal.NAME ∷ []) ws (λ c. reduced_core Keep (f c))
by_NAME__NAME x = says_rule production.NAME__NAME nonterminal.NAME Keep rule_NAME__NAME refl x

rule_NAME__CLK : IsRule verilog.rules production.NAME__CLK nonterminal.NAME (Terminal kind.CLK ∷ [])
unfolding verilog named_rules
rule_NAME__CLK = refl

pub by_NAME__CLK : {ws : List (List ℕ)} {f : Core → Core} → Says (Terminal kind.CLK ∷ []) ws f → Says (Nonterminal nonterminal.NAME ∷ []) ws (λ c. reduced_core Keep (f c))
by_NAME__CLK x = says_rule production.NAME__CLK nonterminal.NAME Keep rule_NAME__CLK refl x

rule_NAME__RST : IsRule verilog.rules production.NAME__RST nonterminal.NAME (Terminal kind.RST ∷ [])
unfolding verilog named_rules
rule_NAME__RST = refl

pub by_NAME__RST : {ws : List (List ℕ)} {f : Core → Core} → Says (Terminal kind.RST ∷ []) ws f → Says (Nonterminal nonterminal.NAME ∷ []) ws (λ c. reduced_core Keep (f c))
by_NAME__RST x = says_rule production.NAME__RST nonterminal.NAME Keep rule_NAME__RST refl x

rule_NUMBER__NUMBER : IsRule verilog.rules production.NUMBER__NUMBER nonterminal.NUMBER (Terminal kind.NUMBER ∷ [])
unfolding verilog named_rules
rule_NUMBER__NUMBER = refl

pub by_NUMBER__NUMBER : {ws : List (List ℕ)} {f : Core → Core} → Says (Terminal kind.NUMBER ∷ []) ws f → Says (Nonterminal nonterminal.NUMBER ∷ []) ws (λ c. reduced_core Keep (f c))
by_NUMBER__NUMBER x = says_rule production.NUMBER__NUMBER nonterminal.NUMBER Keep rule_NUMBER__NUMBER refl x

rule_NUMBER__ZERO : IsRule verilog.rules production.NUMBER__ZERO nonterminal.NUMBER (Terminal kind.ZERO ∷ [])
unfolding verilog named_rules
rule_NUMBER__ZERO = refl

pub by_NUMBER__ZERO : {ws : List (List ℕ)} {f : Core → Core} → Says (Terminal kind.ZERO ∷ []) ws f → Says (Nonterminal nonterminal.NUMBER ∷ []) ws (λ c. reduced_core Keep (f c))
by_NUMBER__ZERO x = says_rule production.NUMBER__ZERO nonterminal.NUMBER Keep rule_NUMBER__ZERO refl x

rule_RANGE__LBRACKET : IsRule verilog.rules production.RANGE__LBRACKET nonterminal.RANGE (Terminal kind.LBRACKET ∷ Nonterminal nonterminal.NUMBER ∷ Terminal kind.COLON ∷ Terminal kind.ZERO ∷ Terminal kind.RBRACKET ∷ [])
unfolding verilog named_rules
rule_RANGE__LBRACKET = refl

pub by_RANGE__LBRACKET : {ws : List (List ℕ)} {f : Core → Core} → Says (Terminal kind.LBRACKET ∷ Nonterminal nonterminal.NUMBER ∷ Terminal kind.COLON ∷ Terminal kind.ZERO ∷ Terminal kind.RBRACKET ∷ []) ws f → Says (Nonterminal nonterminal.RANGE ∷ []) ws (λ c. reduced_core RangeOf (f c))
by_RANGE__LBRACKET x = says_rule production.RANGE__LBRACKET nonterminal.RANGE RangeOf rule_RANGE__LBRACKET refl x

rule_RANGE__NONE : IsRule verilog.rules production.RANGE__NONE nonterminal.RANGE []
unfolding verilog named_rules
rule_RANGE__NONE = refl

pub by_RANGE__NONE : {ws : List (List ℕ)} {f : Core → Core} → Says [] ws f → Says (Nonterminal nonterminal.RANGE ∷ []) ws (λ c. reduced_core NoRange (f c))
by_RANGE__NONE x = says_rule production.RANGE__NONE nonterminal.RANGE NoRange rule_RANGE__NONE refl x

rule_PORT : IsRule verilog.rules production.PORT nonterminal.PORT (Nonterminal nonterminal.DIRECTION ∷ Terminal kind.WIRE ∷ Nonterminal nonterminal.RANGE ∷ Nonterminal nonterminal.NAME ∷ [])
unfolding verilog named_rules
rule_PORT = refl

pub by_PORT : {ws : List (List ℕ)} {f : Core → Core} → Says (Nonterminal nonterminal.DIRECTION ∷ Terminal kind.WIRE ∷ Nonterminal nonterminal.RANGE ∷ Nonterminal nonterminal.NAME ∷ []) ws f → Says (Nonterminal nonterminal.PORT ∷ []) ws (λ c. reduced_core PortOf (f c))
by_PORT x = says_rule production.PORT nonterminal.PORT PortOf rule_PORT refl x

rule_DIRECTION__INPUT : IsRule verilog.rules production.DIRECTION__INPUT nonterminal.DIRECTION (Terminal kind.INPUT ∷ [])
unfolding verilog named_rules
rule_DIRECTION__INPUT = refl

pub by_DIRECTION__INPUT : {ws : List (List ℕ)} {f : Core → Core} → Says (Terminal kind.INPUT ∷ []) ws f → Says (Nonterminal nonterminal.DIRECTION ∷ []) ws (λ c. reduced_core (DirectionOf directions.Input) (f c))
by_DIRECTION__INPUT x = says_rule production.DIRECTION__INPUT nonterminal.DIRECTION (DirectionOf directions.Input) rule_DIRECTION__INPUT refl x

rule_DIRECTION__OUTPUT : IsRule verilog.rules production.DIRECTION__OUTPUT nonterminal.DIRECTION (Terminal kind.OUTPUT ∷ [])
unfolding verilog named_rules
rule_DIRECTION__OUTPUT = refl

pub by_DIRECTION__OUTPUT : {ws : List (List ℕ)} {f : Core → Core} → Says (Terminal kind.OUTPUT ∷ []) ws f → Says (Nonterminal nonterminal.DIRECTION ∷ []) ws (λ c. reduced_core (DirectionOf directions.Output) (f c))
by_DIRECTION__OUTPUT x = says_rule production.DIRECTION__OUTPUT nonterminal.DIRECTION (DirectionOf directions.Output) rule_DIRECTION__OUTPUT refl x

rule_PORTS_MORE__COMMA : IsRule verilog.rules production.PORTS_MORE__COMMA nonterminal.PORTS_MORE (Terminal kind.COMMA ∷ Nonterminal nonterminal.PORT ∷ Nonterminal nonterminal.PORTS_MORE ∷ [])
unfolding verilog named_rules
rule_PORTS_MORE__COMMA = refl

pub by_PORTS_MORE__COMMA : {ws : List (List ℕ)} {f : Core → Core} → Says (Terminal kind.COMMA ∷ Nonterminal nonterminal.PORT ∷ Nonterminal nonterminal.PORTS_MORE ∷ []) ws f → Says (Nonterminal nonterminal.PORTS_MORE ∷ []) ws (λ c. reduced_core Keep (f c))
by_PORTS_MORE__COMMA x = says_rule production.PORTS_MORE__COMMA nonterminal.PORTS_MORE Keep rule_PORTS_MORE__COMMA refl x

rule_PORTS_MORE__NONE : IsRule verilog.rules production.PORTS_MORE__NONE nonterminal.PORTS_MORE []
unfolding verilog named_rules
rule_PORTS_MORE__NONE = refl

pub by_PORTS_MORE__NONE : {ws : List (List ℕ)} {f : Core → Core} → Says [] ws f → Says (Nonterminal nonterminal.PORTS_MORE ∷ []) ws (λ c. reduced_core Keep (f c))
by_PORTS_MORE__NONE x = says_rule production.PORTS_MORE__NONE nonterminal.PORTS_MORE Keep rule_PORTS_MORE__NONE refl x

rule_DECLARATIONS__DECLARATION : IsRule verilog.rules production.DECLARATIONS__DECLARATION nonterminal.DECLARATIONS (Nonterminal nonterminal.DECLARATION ∷ Nonterminal nonterminal.DECLARATIONS ∷ [])
unfolding verilog named_rules
rule_DECLARATIONS__DECLARATION = refl

pub by_DECLARATIONS__DECLARATION : {ws : List (List ℕ)} {f : Core → Core} → Says (Nonterminal nonterminal.DECLARATION ∷ Nonterminal nonterminal.DECLARATIONS ∷ []) ws f → Says (Nonterminal nonterminal.DECLARATIONS ∷ []) ws (λ c. reduced_core Keep (f c))
by_DECLARATIONS__DECLARATION x = says_rule production.DECLARATIONS__DECLARATION nonterminal.DECLARATIONS Keep rule_DECLARATIONS__DECLARATION refl x

rule_DECLARATIONS__NONE : IsRule verilog.rules production.DECLARATIONS__NONE nonterminal.DECLARATIONS []
unfolding verilog named_rules
rule_DECLARATIONS__NONE = refl

pub by_DECLARATIONS__NONE : {ws : List (List ℕ)} {f : Core → Core} → Says [] ws f → Says (Nonterminal nonterminal.DECLARATIONS ∷ []) ws (λ c. reduced_core Keep (f c))
by_DECLARATIONS__NONE x = says_rule production.DECLARATIONS__NONE nonterminal.DECLARATIONS Keep rule_DECLARATIONS__NONE refl x

rule_DECLARATION : IsRule verilog.rules production.DECLARATION nonterminal.DECLARATION (Nonterminal nonterminal.STORAGE ∷ Nonterminal nonterminal.RANGE ∷ Nonterminal nonterminal.NAME ∷ Terminal kind.SEMI ∷ [])
unfolding verilog named_rules
rule_DECLARATION = refl

pub by_DECLARATION : {ws : List (List ℕ)} {f : Core → Core} → Says (Nonterminal nonterminal.STORAGE ∷ Nonterminal nonterminal.RANGE ∷ Nonterminal nonterminal.NAME ∷ Terminal kind.SEMI ∷ []) ws f → Says (Nonterminal nonterminal.DECLARATION ∷ []) ws (λ c. reduced_core DeclarationOf (f c))
by_DECLARATION x = says_rule production.DECLARATION nonterminal.DECLARATION DeclarationOf rule_DECLARATION refl x

rule_STORAGE__WIRE : IsRule verilog.rules production.STORAGE__WIRE nonterminal.STORAGE (Terminal kind.WIRE ∷ [])
unfolding verilog named_rules
rule_STORAGE__WIRE = refl

pub by_STORAGE__WIRE : {ws : List (List ℕ)} {f : Core → Core} → Says (Terminal kind.WIRE ∷ []) ws f → Says (Nonterminal nonterminal.STORAGE ∷ []) ws (λ c. reduced_core (StorageOf storages.Wire) (f c))
by_STORAGE__WIRE x = says_rule production.STORAGE__WIRE nonterminal.STORAGE (StorageOf storages.Wire) rule_STORAGE__WIRE refl x

rule_STORAGE__REG : IsRule verilog.rules production.STORAGE__REG nonterminal.STORAGE (Terminal kind.REG ∷ [])
unfolding verilog named_rules
rule_STORAGE__REG = refl

pub by_STORAGE__REG : {ws : List (List ℕ)} {f : Core → Core} → Says (Terminal kind.REG ∷ []) ws f → Says (Nonterminal nonterminal.STORAGE ∷ []) ws (λ c. reduced_core (StorageOf storages.Register) (f c))
by_STORAGE__REG x = says_rule production.STORAGE__REG nonterminal.STORAGE (StorageOf storages.Register) rule_STORAGE__REG refl x

rule_ASSIGNMENTS__ASSIGNMENT : IsRule verilog.rules production.ASSIGNMENTS__ASSIGNMENT nonterminal.ASSIGNMENTS (Nonterminal nonterminal.ASSIGNMENT ∷ Nonterminal nonterminal.ASSIGNMENTS ∷ [])
unfolding verilog named_rules
rule_ASSIGNMENTS__ASSIGNMENT = refl

pub by_ASSIGNMENTS__ASSIGNMENT : {ws : List (List ℕ)} {f : Core → Core} → Says (Nonterminal nonterminal.ASSIGNMENT ∷ Nonterminal nonterminal.ASSIGNMENTS ∷ []) ws f → Says (Nonterminal nonterminal.ASSIGNMENTS ∷ []) ws (λ c. reduced_core Keep (f c))
by_ASSIGNMENTS__ASSIGNMENT x = says_rule production.ASSIGNMENTS__ASSIGNMENT nonterminal.ASSIGNMENTS Keep rule_ASSIGNMENTS__ASSIGNMENT refl x

rule_ASSIGNMENTS__NONE : IsRule verilog.rules production.ASSIGNMENTS__NONE nonterminal.ASSIGNMENTS []
unfolding verilog named_rules
rule_ASSIGNMENTS__NONE = refl

pub by_ASSIGNMENTS__NONE : {ws : List (List ℕ)} {f : Core → Core} → Says [] ws f → Says (Nonterminal nonterminal.ASSIGNMENTS ∷ []) ws (λ c. reduced_core Keep (f c))
by_ASSIGNMENTS__NONE x = says_rule production.ASSIGNMENTS__NONE nonterminal.ASSIGNMENTS Keep rule_ASSIGNMENTS__NONE refl x

rule_ASSIGNMENT : IsRule verilog.rules production.ASSIGNMENT nonterminal.ASSIGNMENT (Terminal kind.ASSIGN ∷ Nonterminal nonterminal.NAME ∷ Terminal kind.EQUALS ∷ Nonterminal nonterminal.EXPR ∷ Terminal kind.SEMI ∷ [])
unfolding verilog named_rules
rule_ASSIGNMENT = refl

pub by_ASSIGNMENT : {ws : List (List ℕ)} {f : Core → Core} → Says (Terminal kind.ASSIGN ∷ Nonterminal nonterminal.NAME ∷ Terminal kind.EQUALS ∷ Nonterminal nonterminal.EXPR ∷ Terminal kind.SEMI ∷ []) ws f → Says (Nonterminal nonterminal.ASSIGNMENT ∷ []) ws (λ c. reduced_core AssignmentOf (f c))
by_ASSIGNMENT x = says_rule production.ASSIGNMENT nonterminal.ASSIGNMENT AssignmentOf rule_ASSIGNMENT refl x

rule_CLOCKED__ALWAYS : IsRule verilog.rules production.CLOCKED__ALWAYS nonterminal.CLOCKED (Terminal kind.ALWAYS ∷ Nonterminal nonterminal.EDGE ∷ Terminal kind.BEGIN ∷ Nonterminal nonterminal.RESET_BRANCH ∷ Nonterminal nonterminal.CLOCK_BRANCH ∷ Terminal kind.ENDBLOCK ∷ [])
unfolding verilog named_rules
rule_CLOCKED__ALWAYS = refl

pub by_CLOCKED__ALWAYS : {ws : List (List ℕ)} {f : Core → Core} → Says (Terminal kind.ALWAYS ∷ Nonterminal nonterminal.EDGE ∷ Terminal kind.BEGIN ∷ Nonterminal nonterminal.RESET_BRANCH ∷ Nonterminal nonterminal.CLOCK_BRANCH ∷ Terminal kind.ENDBLOCK ∷ []) ws f → Says (Nonterminal nonterminal.CLOCKED ∷ []) ws (λ c. reduced_core Keep (f c))
by_CLOCKED__ALWAYS x = says_rule production.CLOCKED__ALWAYS nonterminal.CLOCKED Keep rule_CLOCKED__ALWAYS refl x

rule_CLOCKED__NONE : IsRule verilog.rules production.CLOCKED__NONE nonterminal.CLOCKED []
unfolding verilog named_rules
rule_CLOCKED__NONE = refl

pub by_CLOCKED__NONE : {ws : List (List ℕ)} {f : Core → Core} → Says [] ws f → Says (Nonterminal nonterminal.CLOCKED ∷ []) ws (λ c. reduced_core Keep (f c))
by_CLOCKED__NONE x = says_rule production.CLOCKED__NONE nonterminal.CLOCKED Keep rule_CLOCKED__NONE refl x

rule_EDGE : IsRule verilog.rules production.EDGE nonterminal.EDGE (Terminal kind.AT ∷ Terminal kind.LPAREN ∷ Terminal kind.POSEDGE ∷ Terminal kind.CLK ∷ Terminal kind.RPAREN ∷ [])
unfolding verilog named_rules
rule_EDGE = refl

pub by_EDGE : {ws : List (List ℕ)} {f : Core → Core} → Says (Terminal kind.AT ∷ Terminal kind.LPAREN ∷ Terminal kind.POSEDGE ∷ Terminal kind.CLK ∷ Terminal kind.RPAREN ∷ []) ws f → Says (Nonterminal nonterminal.EDGE ∷ []) ws (λ c. reduced_core SkipIdent (f c))
by_EDGE x = says_rule production.EDGE nonterminal.EDGE SkipIdent rule_EDGE refl x

rule_RESET_BRANCH : IsRule verilog.rules production.RESET_BRANCH nonterminal.RESET_BRANCH (Terminal kind.IF ∷ Terminal kind.LPAREN ∷ Terminal kind.RST ∷ Terminal kind.RPAREN ∷ Terminal kind.BEGIN ∷ Nonterminal nonterminal.SETS ∷ Terminal kind.ENDBLOCK ∷ [])
unfolding verilog named_rules
rule_RESET_BRANCH = refl

pub by_RESET_BRANCH : {ws : List (List ℕ)} {f : Core → Core} → Says (Terminal kind.IF ∷ Terminal kind.LPAREN ∷ Terminal kind.RST ∷ Terminal kind.RPAREN ∷ Terminal kind.BEGIN ∷ Nonterminal nonterminal.SETS ∷ Terminal kind.ENDBLOCK ∷ []) ws f → Says (Nonterminal nonterminal.RESET_BRANCH ∷ []) ws (λ c. reduced_core ResetsOf (f c))
by_RESET_BRANCH x = says_rule production.RESET_BRANCH nonterminal.RESET_BRANCH ResetsOf rule_RESET_BRANCH refl x

rule_CLOCK_BRANCH : IsRule verilog.rules production.CLOCK_BRANCH nonterminal.CLOCK_BRANCH (Terminal kind.ELSE ∷ Terminal kind.BEGIN ∷ Nonterminal nonterminal.SETS ∷ Terminal kind.ENDBLOCK ∷ [])
unfolding verilog named_rules
rule_CLOCK_BRANCH = refl

pub by_CLOCK_BRANCH : {ws : List (List ℕ)} {f : Core → Core} → Says (Terminal kind.ELSE ∷ Terminal kind.BEGIN ∷ Nonterminal nonterminal.SETS ∷ Terminal kind.ENDBLOCK ∷ []) ws f → Says (Nonterminal nonterminal.CLOCK_BRANCH ∷ []) ws (λ c. reduced_core ClocksOf (f c))
by_CLOCK_BRANCH x = says_rule production.CLOCK_BRANCH nonterminal.CLOCK_BRANCH ClocksOf rule_CLOCK_BRANCH refl x

rule_SETS__SET : IsRule verilog.rules production.SETS__SET nonterminal.SETS (Nonterminal nonterminal.SET ∷ Nonterminal nonterminal.SETS ∷ [])
unfolding verilog named_rules
rule_SETS__SET = refl

pub by_SETS__SET : {ws : List (List ℕ)} {f : Core → Core} → Says (Nonterminal nonterminal.SET ∷ Nonterminal nonterminal.SETS ∷ []) ws f → Says (Nonterminal nonterminal.SETS ∷ []) ws (λ c. reduced_core Keep (f c))
by_SETS__SET x = says_rule production.SETS__SET nonterminal.SETS Keep rule_SETS__SET refl x

rule_SETS__NONE : IsRule verilog.rules production.SETS__NONE nonterminal.SETS []
unfolding verilog named_rules
rule_SETS__NONE = refl

pub by_SETS__NONE : {ws : List (List ℕ)} {f : Core → Core} → Says [] ws f → Says (Nonterminal nonterminal.SETS ∷ []) ws (λ c. reduced_core Keep (f c))
by_SETS__NONE x = says_rule production.SETS__NONE nonterminal.SETS Keep rule_SETS__NONE refl x

rule_SET : IsRule verilog.rules production.SET nonterminal.SET (Nonterminal nonterminal.NAME ∷ Terminal kind.LE ∷ Nonterminal nonterminal.ATOM ∷ Terminal kind.SEMI ∷ [])
unfolding verilog named_rules
rule_SET = refl

pub by_SET : {ws : List (List ℕ)} {f : Core → Core} → Says (Nonterminal nonterminal.NAME ∷ Terminal kind.LE ∷ Nonterminal nonterminal.ATOM ∷ Terminal kind.SEMI ∷ []) ws f → Says (Nonterminal nonterminal.SET ∷ []) ws (λ c. reduced_core SetOf (f c))
by_SET x = says_rule production.SET nonterminal.SET SetOf rule_SET refl x

rule_ATOM__NAME : IsRule verilog.rules production.ATOM__NAME nonterminal.ATOM (Nonterminal nonterminal.NAME ∷ [])
unfolding verilog named_rules
rule_ATOM__NAME = refl

pub by_ATOM__NAME : {ws : List (List ℕ)} {f : Core → Core} → Says (Nonterminal nonterminal.NAME ∷ []) ws f → Says (Nonterminal nonterminal.ATOM ∷ []) ws (λ c. reduced_core NameAtom (f c))
by_ATOM__NAME x = says_rule production.ATOM__NAME nonterminal.ATOM NameAtom rule_ATOM__NAME refl x

rule_ATOM__LITERAL : IsRule verilog.rules production.ATOM__LITERAL nonterminal.ATOM (Terminal kind.LITERAL ∷ [])
unfolding verilog named_rules
rule_ATOM__LITERAL = refl

pub by_ATOM__LITERAL : {ws : List (List ℕ)} {f : Core → Core} → Says (Terminal kind.LITERAL ∷ []) ws f → Says (Nonterminal nonterminal.ATOM ∷ []) ws (λ c. reduced_core LiteralAtom (f c))
by_ATOM__LITERAL x = says_rule production.ATOM__LITERAL nonterminal.ATOM LiteralAtom rule_ATOM__LITERAL refl x

rule_EXPR__NAME : IsRule verilog.rules production.EXPR__NAME nonterminal.EXPR (Nonterminal nonterminal.NAME ∷ Nonterminal nonterminal.NAME_WHOLE ∷ [])
unfolding verilog named_rules
rule_EXPR__NAME = refl

pub by_EXPR__NAME : {ws : List (List ℕ)} {f : Core → Core} → Says (Nonterminal nonterminal.NAME ∷ Nonterminal nonterminal.NAME_WHOLE ∷ []) ws f → Says (Nonterminal nonterminal.EXPR ∷ []) ws (λ c. reduced_core NameExpr (f c))
by_EXPR__NAME x = says_rule production.EXPR__NAME nonterminal.EXPR NameExpr rule_EXPR__NAME refl x

rule_EXPR__LITERAL : IsRule verilog.rules production.EXPR__LITERAL nonterminal.EXPR (Terminal kind.LITERAL ∷ Nonterminal nonterminal.LITERAL_WHOLE ∷ [])
unfolding verilog named_rules
rule_EXPR__LITERAL = refl

pub by_EXPR__LITERAL : {ws : List (List ℕ)} {f : Core → Core} → Says (Terminal kind.LITERAL ∷ Nonterminal nonterminal.LITERAL_WHOLE ∷ []) ws f → Says (Nonterminal nonterminal.EXPR ∷ []) ws (λ c. reduced_core LiteralExpr (f c))
by_EXPR__LITERAL x = says_rule production.EXPR__LITERAL nonterminal.EXPR LiteralExpr rule_EXPR__LITERAL refl x

rule_EXPR__OTHER : IsRule verilog.rules production.EXPR__OTHER nonterminal.EXPR (Nonterminal nonterminal.OTHER ∷ [])
unfolding verilog named_rules
rule_EXPR__OTHER = refl

pub by_EXPR__OTHER : {ws : List (List ℕ)} {f : Core → Core} → Says (Nonterminal nonterminal.OTHER ∷ []) ws f → Says (Nonterminal nonterminal.EXPR ∷ []) ws (λ c. reduced_core SimpleExpr (f c))
by_EXPR__OTHER x = says_rule production.EXPR__OTHER nonterminal.EXPR SimpleExpr rule_EXPR__OTHER refl x

rule_EXPR__SIGNED : IsRule verilog.rules production.EXPR__SIGNED nonterminal.EXPR (Terminal kind.SIGNED ∷ Terminal kind.LPAREN ∷ Nonterminal nonterminal.NAME ∷ Terminal kind.RPAREN ∷ Nonterminal nonterminal.SIGNED_END ∷ [])
unfolding verilog named_rules
rule_EXPR__SIGNED = refl

pub by_EXPR__SIGNED : {ws : List (List ℕ)} {f : Core → Core} → Says (Terminal kind.SIGNED ∷ Terminal kind.LPAREN ∷ Nonterminal nonterminal.NAME ∷ Terminal kind.RPAREN ∷ Nonterminal nonterminal.SIGNED_END ∷ []) ws f → Says (Nonterminal nonterminal.EXPR ∷ []) ws (λ c. reduced_core SignedExpr (f c))
by_EXPR__SIGNED x = says_rule production.EXPR__SIGNED nonterminal.EXPR SignedExpr rule_EXPR__SIGNED refl x

rule_SIMPLE__NAME : IsRule verilog.rules production.SIMPLE__NAME nonterminal.SIMPLE (Nonterminal nonterminal.NAME ∷ Nonterminal nonterminal.NAME_END ∷ [])
unfolding verilog named_rules
rule_SIMPLE__NAME = refl

pub by_SIMPLE__NAME : {ws : List (List ℕ)} {f : Core → Core} → Says (Nonterminal nonterminal.NAME ∷ Nonterminal nonterminal.NAME_END ∷ []) ws f → Says (Nonterminal nonterminal.SIMPLE ∷ []) ws (λ c. reduced_core NameSimple (f c))
by_SIMPLE__NAME x = says_rule production.SIMPLE__NAME nonterminal.SIMPLE NameSimple rule_SIMPLE__NAME refl x

rule_SIMPLE__LITERAL : IsRule verilog.rules production.SIMPLE__LITERAL nonterminal.SIMPLE (Terminal kind.LITERAL ∷ Nonterminal nonterminal.LITERAL_END ∷ [])
unfolding verilog named_rules
rule_SIMPLE__LITERAL = refl

pub by_SIMPLE__LITERAL : {ws : List (List ℕ)} {f : Core → Core} → Says (Terminal kind.LITERAL ∷ Nonterminal nonterminal.LITERAL_END ∷ []) ws f → Says (Nonterminal nonterminal.SIMPLE ∷ []) ws (λ c. reduced_core LiteralSimple (f c))
by_SIMPLE__LITERAL x = says_rule production.SIMPLE__LITERAL nonterminal.SIMPLE LiteralSimple rule_SIMPLE__LITERAL refl x

rule_SIMPLE__OTHER : IsRule verilog.rules production.SIMPLE__OTHER nonterminal.SIMPLE (Nonterminal nonterminal.OTHER ∷ [])
unfolding verilog named_rules
rule_SIMPLE__OTHER = refl

pub by_SIMPLE__OTHER : {ws : List (List ℕ)} {f : Core → Core} → Says (Nonterminal nonterminal.OTHER ∷ []) ws f → Says (Nonterminal nonterminal.SIMPLE ∷ []) ws (λ c. reduced_core Keep (f c))
by_SIMPLE__OTHER x = says_rule production.SIMPLE__OTHER nonterminal.SIMPLE Keep rule_SIMPLE__OTHER refl x

rule_OTHER__UNARY : IsRule verilog.rules production.OTHER__UNARY nonterminal.OTHER (Nonterminal nonterminal.UNARY ∷ Nonterminal nonterminal.ATOM ∷ [])
unfolding verilog named_rules
rule_OTHER__UNARY = refl

pub by_OTHER__UNARY : {ws : List (List ℕ)} {f : Core → Core} → Says (Nonterminal nonterminal.UNARY ∷ Nonterminal nonterminal.ATOM ∷ []) ws f → Says (Nonterminal nonterminal.OTHER ∷ []) ws (λ c. reduced_core UnaryOf (f c))
by_OTHER__UNARY x = says_rule production.OTHER__UNARY nonterminal.OTHER UnaryOf rule_OTHER__UNARY refl x

rule_OTHER__LBRACE : IsRule verilog.rules production.OTHER__LBRACE nonterminal.OTHER (Terminal kind.LBRACE ∷ Nonterminal nonterminal.ATOM ∷ Nonterminal nonterminal.ATOMS_MORE ∷ Terminal kind.RBRACE ∷ [])
unfolding verilog named_rules
rule_OTHER__LBRACE = refl

pub by_OTHER__LBRACE : {ws : List (List ℕ)} {f : Core → Core} → Says (Terminal kind.LBRACE ∷ Nonterminal nonterminal.ATOM ∷ Nonterminal nonterminal.ATOMS_MORE ∷ Terminal kind.RBRACE ∷ []) ws f → Says (Nonterminal nonterminal.OTHER ∷ []) ws (λ c. reduced_core ConcatOf (f c))
by_OTHER__LBRACE x = says_rule production.OTHER__LBRACE nonterminal.OTHER ConcatOf rule_OTHER__LBRACE refl x

rule_ATOMS_MORE__COMMA : IsRule verilog.rules production.ATOMS_MORE__COMMA nonterminal.ATOMS_MORE (Terminal kind.COMMA ∷ Nonterminal nonterminal.ATOM ∷ Nonterminal nonterminal.ATOMS_MORE ∷ [])
unfolding verilog named_rules
rule_ATOMS_MORE__COMMA = refl

pub by_ATOMS_MORE__COMMA : {ws : List (List ℕ)} {f : Core → Core} → Says (Terminal kind.COMMA ∷ Nonterminal nonterminal.ATOM ∷ Nonterminal nonterminal.ATOMS_MORE ∷ []) ws f → Says (Nonterminal nonterminal.ATOMS_MORE ∷ []) ws (λ c. reduced_core More (f c))
by_ATOMS_MORE__COMMA x = says_rule production.ATOMS_MORE__COMMA nonterminal.ATOMS_MORE More rule_ATOMS_MORE__COMMA refl x

rule_ATOMS_MORE__NONE : IsRule verilog.rules production.ATOMS_MORE__NONE nonterminal.ATOMS_MORE []
unfolding verilog named_rules
rule_ATOMS_MORE__NONE = refl

pub by_ATOMS_MORE__NONE : {ws : List (List ℕ)} {f : Core → Core} → Says [] ws f → Says (Nonterminal nonterminal.ATOMS_MORE ∷ []) ws (λ c. reduced_core Start (f c))
by_ATOMS_MORE__NONE x = says_rule production.ATOMS_MORE__NONE nonterminal.ATOMS_MORE Start rule_ATOMS_MORE__NONE refl x

rule_NAME_WHOLE__CONDITION : IsRule verilog.rules production.NAME_WHOLE__CONDITION nonterminal.NAME_WHOLE (Nonterminal nonterminal.CONDITION ∷ [])
unfolding verilog named_rules
rule_NAME_WHOLE__CONDITION = refl

pub by_NAME_WHOLE__CONDITION : {ws : List (List ℕ)} {f : Core → Core} → Says (Nonterminal nonterminal.CONDITION ∷ []) ws f → Says (Nonterminal nonterminal.NAME_WHOLE ∷ []) ws (λ c. reduced_core Keep (f c))
by_NAME_WHOLE__CONDITION x = says_rule production.NAME_WHOLE__CONDITION nonterminal.NAME_WHOLE Keep rule_NAME_WHOLE__CONDITION refl x

rule_NAME_WHOLE__NAME_END : IsRule verilog.rules production.NAME_WHOLE__NAME_END nonterminal.NAME_WHOLE (Nonterminal nonterminal.NAME_END ∷ [])
unfolding verilog named_rules
rule_NAME_WHOLE__NAME_END = refl

pub by_NAME_WHOLE__NAME_END : {ws : List (List ℕ)} {f : Core → Core} → Says (Nonterminal nonterminal.NAME_END ∷ []) ws f → Says (Nonterminal nonterminal.NAME_WHOLE ∷ []) ws (λ c. reduced_core Keep (f c))
by_NAME_WHOLE__NAME_END x = says_rule production.NAME_WHOLE__NAME_END nonterminal.NAME_WHOLE Keep rule_NAME_WHOLE__NAME_END refl x

rule_LITERAL_WHOLE__CONDITION : IsRule verilog.rules production.LITERAL_WHOLE__CONDITION nonterminal.LITERAL_WHOLE (Nonterminal nonterminal.CONDITION ∷ [])
unfolding verilog named_rules
rule_LITERAL_WHOLE__CONDITION = refl

pub by_LITERAL_WHOLE__CONDITION : {ws : List (List ℕ)} {f : Core → Core} → Says (Nonterminal nonterminal.CONDITION ∷ []) ws f → Says (Nonterminal nonterminal.LITERAL_WHOLE ∷ []) ws (λ c. reduced_core Keep (f c))
by_LITERAL_WHOLE__CONDITION x = says_rule production.LITERAL_WHOLE__CONDITION nonterminal.LITERAL_WHOLE Keep rule_LITERAL_WHOLE__CONDITION refl x

rule_LITERAL_WHOLE__LITERAL_END : IsRule verilog.rules production.LITERAL_WHOLE__LITERAL_END nonterminal.LITERAL_WHOLE (Nonterminal nonterminal.LITERAL_END ∷ [])
unfolding verilog named_rules
rule_LITERAL_WHOLE__LITERAL_END = refl

pub by_LITERAL_WHOLE__LITERAL_END : {ws : List (List ℕ)} {f : Core → Core} → Says (Nonterminal nonterminal.LITERAL_END ∷ []) ws f → Says (Nonterminal nonterminal.LITERAL_WHOLE ∷ []) ws (λ c. reduced_core Keep (f c))
by_LITERAL_WHOLE__LITERAL_END x = says_rule production.LITERAL_WHOLE__LITERAL_END nonterminal.LITERAL_WHOLE Keep rule_LITERAL_WHOLE__LITERAL_END refl x

rule_NAME_END__SLICE : IsRule verilog.rules production.NAME_END__SLICE nonterminal.NAME_END (Nonterminal nonterminal.SLICE ∷ [])
unfolding verilog named_rules
rule_NAME_END__SLICE = refl

pub by_NAME_END__SLICE : {ws : List (List ℕ)} {f : Core → Core} → Says (Nonterminal nonterminal.SLICE ∷ []) ws f → Says (Nonterminal nonterminal.NAME_END ∷ []) ws (λ c. reduced_core Keep (f c))
by_NAME_END__SLICE x = says_rule production.NAME_END__SLICE nonterminal.NAME_END Keep rule_NAME_END__SLICE refl x

rule_NAME_END__LITERAL_END : IsRule verilog.rules production.NAME_END__LITERAL_END nonterminal.NAME_END (Nonterminal nonterminal.LITERAL_END ∷ [])
unfolding verilog named_rules
rule_NAME_END__LITERAL_END = refl

pub by_NAME_END__LITERAL_END : {ws : List (List ℕ)} {f : Core → Core} → Says (Nonterminal nonterminal.LITERAL_END ∷ []) ws f → Says (Nonterminal nonterminal.NAME_END ∷ []) ws (λ c. reduced_core Keep (f c))
by_NAME_END__LITERAL_END x = says_rule production.NAME_END__LITERAL_END nonterminal.NAME_END Keep rule_NAME_END__LITERAL_END refl x

rule_LITERAL_END__BINARY : IsRule verilog.rules production.LITERAL_END__BINARY nonterminal.LITERAL_END (Nonterminal nonterminal.BINARY ∷ Nonterminal nonterminal.ATOM ∷ [])
unfolding verilog named_rules
rule_LITERAL_END__BINARY = refl

pub by_LITERAL_END__BINARY : {ws : List (List ℕ)} {f : Core → Core} → Says (Nonterminal nonterminal.BINARY ∷ Nonterminal nonterminal.ATOM ∷ []) ws f → Says (Nonterminal nonterminal.LITERAL_END ∷ []) ws (λ c. reduced_core BinaryTail (f c))
by_LITERAL_END__BINARY x = says_rule production.LITERAL_END__BINARY nonterminal.LITERAL_END BinaryTail rule_LITERAL_END__BINARY refl x

rule_LITERAL_END__NONE : IsRule verilog.rules production.LITERAL_END__NONE nonterminal.LITERAL_END []
unfolding verilog named_rules
rule_LITERAL_END__NONE = refl

pub by_LITERAL_END__NONE : {ws : List (List ℕ)} {f : Core → Core} → Says [] ws f → Says (Nonterminal nonterminal.LITERAL_END ∷ []) ws (λ c. reduced_core NoTail (f c))
by_LITERAL_END__NONE x = says_rule production.LITERAL_END__NONE nonterminal.LITERAL_END NoTail rule_LITERAL_END__NONE refl x

rule_CONDITION : IsRule verilog.rules production.CONDITION nonterminal.CONDITION (Terminal kind.QUESTION ∷ Nonterminal nonterminal.SIMPLE ∷ Terminal kind.COLON ∷ Nonterminal nonterminal.SIMPLE ∷ [])
unfolding verilog named_rules
rule_CONDITION = refl

pub by_CONDITION : {ws : List (List ℕ)} {f : Core → Core} → Says (Terminal kind.QUESTION ∷ Nonterminal nonterminal.SIMPLE ∷ Terminal kind.COLON ∷ Nonterminal nonterminal.SIMPLE ∷ []) ws f → Says (Nonterminal nonterminal.CONDITION ∷ []) ws (λ c. reduced_core ChoiceTail (f c))
by_CONDITION x = says_rule production.CONDITION nonterminal.CONDITION ChoiceTail rule_CONDITION refl x

rule_SLICE : IsRule verilog.rules production.SLICE nonterminal.SLICE (Terminal kind.LBRACKET ∷ Nonterminal nonterminal.NUMBER ∷ Terminal kind.COLON ∷ Nonterminal nonterminal.NUMBER ∷ Terminal kind.RBRACKET ∷ [])
unfolding verilog named_rules
rule_SLICE = refl

pub by_SLICE : {ws : List (List ℕ)} {f : Core → Core} → Says (Terminal kind.LBRACKET ∷ Nonterminal nonterminal.NUMBER ∷ Terminal kind.COLON ∷ Nonterminal nonterminal.NUMBER ∷ Terminal kind.RBRACKET ∷ []) ws f → Says (Nonterminal nonterminal.SLICE ∷ []) ws (λ c. reduced_core SliceTail (f c))
by_SLICE x = says_rule production.SLICE nonterminal.SLICE SliceTail rule_SLICE refl x

rule_SIGNED_END__COMPARISON : IsRule verilog.rules production.SIGNED_END__COMPARISON nonterminal.SIGNED_END (Nonterminal nonterminal.COMPARISON ∷ Terminal kind.SIGNED ∷ Terminal kind.LPAREN ∷ Nonterminal nonterminal.NAME ∷ Terminal kind.RPAREN ∷ [])
unfolding verilog named_rules
rule_SIGNED_END__COMPARISON = refl

pub by_SIGNED_END__COMPARISON : {ws : List (List ℕ)} {f : Core → Core} → Says (Nonterminal nonterminal.COMPARISON ∷ Terminal kind.SIGNED ∷ Terminal kind.LPAREN ∷ Nonterminal nonterminal.NAME ∷ Terminal kind.RPAREN ∷ []) ws f → Says (Nonterminal nonterminal.SIGNED_END ∷ []) ws (λ c. reduced_core OrderTail (f c))
by_SIGNED_END__COMPARISON x = says_rule production.SIGNED_END__COMPARISON nonterminal.SIGNED_END OrderTail rule_SIGNED_END__COMPARISON refl x

rule_SIGNED_END__ASHR : IsRule verilog.rules production.SIGNED_END__ASHR nonterminal.SIGNED_END (Terminal kind.ASHR ∷ Nonterminal nonterminal.ATOM ∷ [])
unfolding verilog named_rules
rule_SIGNED_END__ASHR = refl

pub by_SIGNED_END__ASHR : {ws : List (List ℕ)} {f : Core → Core} → Says (Terminal kind.ASHR ∷ Nonterminal nonterminal.ATOM ∷ []) ws f → Says (Nonterminal nonterminal.SIGNED_END ∷ []) ws (λ c. reduced_core ShiftTail (f c))
by_SIGNED_END__ASHR x = says_rule production.SIGNED_END__ASHR nonterminal.SIGNED_END ShiftTail rule_SIGNED_END__ASHR refl x

rule_UNARY__MINUS : IsRule verilog.rules production.UNARY__MINUS nonterminal.UNARY (Terminal kind.MINUS ∷ [])
unfolding verilog named_rules
rule_UNARY__MINUS = refl

pub by_UNARY__MINUS : {ws : List (List ℕ)} {f : Core → Core} → Says (Terminal kind.MINUS ∷ []) ws f → Says (Nonterminal nonterminal.UNARY ∷ []) ws (λ c. reduced_core (UnaryIs unary.Negate) (f c))
by_UNARY__MINUS x = says_rule production.UNARY__MINUS nonterminal.UNARY (UnaryIs unary.Negate) rule_UNARY__MINUS refl x

rule_UNARY__TILDE : IsRule verilog.rules production.UNARY__TILDE nonterminal.UNARY (Terminal kind.TILDE ∷ [])
unfolding verilog named_rules
rule_UNARY__TILDE = refl

pub by_UNARY__TILDE : {ws : List (List ℕ)} {f : Core → Core} → Says (Terminal kind.TILDE ∷ []) ws f → Says (Nonterminal nonterminal.UNARY ∷ []) ws (λ c. reduced_core (UnaryIs unary.Complement) (f c))
by_UNARY__TILDE x = says_rule production.UNARY__TILDE nonterminal.UNARY (UnaryIs unary.Complement) rule_UNARY__TILDE refl x

rule_UNARY__AMP : IsRule verilog.rules production.UNARY__AMP nonterminal.UNARY (Terminal kind.AMP ∷ [])
unfolding verilog named_rules
rule_UNARY__AMP = refl

pub by_UNARY__AMP : {ws : List (List ℕ)} {f : Core → Core} → Says (Terminal kind.AMP ∷ []) ws f → Says (Nonterminal nonterminal.UNARY ∷ []) ws (λ c. reduced_core (UnaryIs unary.AllOnes) (f c))
by_UNARY__AMP x = says_rule production.UNARY__AMP nonterminal.UNARY (UnaryIs unary.AllOnes) rule_UNARY__AMP refl x

rule_UNARY__PIPE : IsRule verilog.rules production.UNARY__PIPE nonterminal.UNARY (Terminal kind.PIPE ∷ [])
unfolding verilog named_rules
rule_UNARY__PIPE = refl

pub by_UNARY__PIPE : {ws : List (List ℕ)} {f : Core → Core} → Says (Terminal kind.PIPE ∷ []) ws f → Says (Nonterminal nonterminal.UNARY ∷ []) ws (λ c. reduced_core (UnaryIs unary.SomeOne) (f c))
by_UNARY__PIPE x = says_rule production.UNARY__PIPE nonterminal.UNARY (UnaryIs unary.SomeOne) rule_UNARY__PIPE refl x

rule_UNARY__CARET : IsRule verilog.rules production.UNARY__CARET nonterminal.UNARY (Terminal kind.CARET ∷ [])
unfolding verilog named_rules
rule_UNARY__CARET = refl

pub by_UNARY__CARET : {ws : List (List ℕ)} {f : Core → Core} → Says (Terminal kind.CARET ∷ []) ws f → Says (Nonterminal nonterminal.UNARY ∷ []) ws (λ c. reduced_core (UnaryIs unary.Parity) (f c))
by_UNARY__CARET x = says_rule production.UNARY__CARET nonterminal.UNARY (UnaryIs unary.Parity) rule_UNARY__CARET refl x

rule_BINARY__PLUS : IsRule verilog.rules production.BINARY__PLUS nonterminal.BINARY (Terminal kind.PLUS ∷ [])
unfolding verilog named_rules
rule_BINARY__PLUS = refl

pub by_BINARY__PLUS : {ws : List (List ℕ)} {f : Core → Core} → Says (Terminal kind.PLUS ∷ []) ws f → Says (Nonterminal nonterminal.BINARY ∷ []) ws (λ c. reduced_core (BinaryIs binary.Add) (f c))
by_BINARY__PLUS x = says_rule production.BINARY__PLUS nonterminal.BINARY (BinaryIs binary.Add) rule_BINARY__PLUS refl x

rule_BINARY__MINUS : IsRule verilog.rules production.BINARY__MINUS nonterminal.BINARY (Terminal kind.MINUS ∷ [])
unfolding verilog named_rules
rule_BINARY__MINUS = refl

pub by_BINARY__MINUS : {ws : List (List ℕ)} {f : Core → Core} → Says (Terminal kind.MINUS ∷ []) ws f → Says (Nonterminal nonterminal.BINARY ∷ []) ws (λ c. reduced_core (BinaryIs binary.Subtract) (f c))
by_BINARY__MINUS x = says_rule production.BINARY__MINUS nonterminal.BINARY (BinaryIs binary.Subtract) rule_BINARY__MINUS refl x

rule_BINARY__STAR : IsRule verilog.rules production.BINARY__STAR nonterminal.BINARY (Terminal kind.STAR ∷ [])
unfolding verilog named_rules
rule_BINARY__STAR = refl

pub by_BINARY__STAR : {ws : List (List ℕ)} {f : Core → Core} → Says (Terminal kind.STAR ∷ []) ws f → Says (Nonterminal nonterminal.BINARY ∷ []) ws (λ c. reduced_core (BinaryIs binary.Multiply) (f c))
by_BINARY__STAR x = says_rule production.BINARY__STAR nonterminal.BINARY (BinaryIs binary.Multiply) rule_BINARY__STAR refl x

rule_BINARY__SLASH : IsRule verilog.rules production.BINARY__SLASH nonterminal.BINARY (Terminal kind.SLASH ∷ [])
unfolding verilog named_rules
rule_BINARY__SLASH = refl

pub by_BINARY__SLASH : {ws : List (List ℕ)} {f : Core → Core} → Says (Terminal kind.SLASH ∷ []) ws f → Says (Nonterminal nonterminal.BINARY ∷ []) ws (λ c. reduced_core (BinaryIs binary.Divide) (f c))
by_BINARY__SLASH x = says_rule production.BINARY__SLASH nonterminal.BINARY (BinaryIs binary.Divide) rule_BINARY__SLASH refl x

rule_BINARY__PERCENT : IsRule verilog.rules production.BINARY__PERCENT nonterminal.BINARY (Terminal kind.PERCENT ∷ [])
unfolding verilog named_rules
rule_BINARY__PERCENT = refl

pub by_BINARY__PERCENT : {ws : List (List ℕ)} {f : Core → Core} → Says (Terminal kind.PERCENT ∷ []) ws f → Says (Nonterminal nonterminal.BINARY ∷ []) ws (λ c. reduced_core (BinaryIs binary.Remainder) (f c))
by_BINARY__PERCENT x = says_rule production.BINARY__PERCENT nonterminal.BINARY (BinaryIs binary.Remainder) rule_BINARY__PERCENT refl x

rule_BINARY__AMP : IsRule verilog.rules production.BINARY__AMP nonterminal.BINARY (Terminal kind.AMP ∷ [])
unfolding verilog named_rules
rule_BINARY__AMP = refl

pub by_BINARY__AMP : {ws : List (List ℕ)} {f : Core → Core} → Says (Terminal kind.AMP ∷ []) ws f → Says (Nonterminal nonterminal.BINARY ∷ []) ws (λ c. reduced_core (BinaryIs binary.And) (f c))
by_BINARY__AMP x = says_rule production.BINARY__AMP nonterminal.BINARY (BinaryIs binary.And) rule_BINARY__AMP refl x

rule_BINARY__PIPE : IsRule verilog.rules production.BINARY__PIPE nonterminal.BINARY (Terminal kind.PIPE ∷ [])
unfolding verilog named_rules
rule_BINARY__PIPE = refl

pub by_BINARY__PIPE : {ws : List (List ℕ)} {f : Core → Core} → Says (Terminal kind.PIPE ∷ []) ws f → Says (Nonterminal nonterminal.BINARY ∷ []) ws (λ c. reduced_core (BinaryIs binary.Or) (f c))
by_BINARY__PIPE x = says_rule production.BINARY__PIPE nonterminal.BINARY (BinaryIs binary.Or) rule_BINARY__PIPE refl x

rule_BINARY__CARET : IsRule verilog.rules production.BINARY__CARET nonterminal.BINARY (Terminal kind.CARET ∷ [])
unfolding verilog named_rules
rule_BINARY__CARET = refl

pub by_BINARY__CARET : {ws : List (List ℕ)} {f : Core → Core} → Says (Terminal kind.CARET ∷ []) ws f → Says (Nonterminal nonterminal.BINARY ∷ []) ws (λ c. reduced_core (BinaryIs binary.Xor) (f c))
by_BINARY__CARET x = says_rule production.BINARY__CARET nonterminal.BINARY (BinaryIs binary.Xor) rule_BINARY__CARET refl x

rule_BINARY__EQ : IsRule verilog.rules production.BINARY__EQ nonterminal.BINARY (Terminal kind.EQ ∷ [])
unfolding verilog named_rules
rule_BINARY__EQ = refl

pub by_BINARY__EQ : {ws : List (List ℕ)} {f : Core → Core} → Says (Terminal kind.EQ ∷ []) ws f → Says (Nonterminal nonterminal.BINARY ∷ []) ws (λ c. reduced_core (BinaryIs binary.Equal) (f c))
by_BINARY__EQ x = says_rule production.BINARY__EQ nonterminal.BINARY (BinaryIs binary.Equal) rule_BINARY__EQ refl x

rule_BINARY__NE : IsRule verilog.rules production.BINARY__NE nonterminal.BINARY (Terminal kind.NE ∷ [])
unfolding verilog named_rules
rule_BINARY__NE = refl

pub by_BINARY__NE : {ws : List (List ℕ)} {f : Core → Core} → Says (Terminal kind.NE ∷ []) ws f → Says (Nonterminal nonterminal.BINARY ∷ []) ws (λ c. reduced_core (BinaryIs binary.NotEqual) (f c))
by_BINARY__NE x = says_rule production.BINARY__NE nonterminal.BINARY (BinaryIs binary.NotEqual) rule_BINARY__NE refl x

rule_BINARY__SHL : IsRule verilog.rules production.BINARY__SHL nonterminal.BINARY (Terminal kind.SHL ∷ [])
unfolding verilog named_rules
rule_BINARY__SHL = refl

pub by_BINARY__SHL : {ws : List (List ℕ)} {f : Core → Core} → Says (Terminal kind.SHL ∷ []) ws f → Says (Nonterminal nonterminal.BINARY ∷ []) ws (λ c. reduced_core (BinaryIs binary.ShiftLeft) (f c))
by_BINARY__SHL x = says_rule production.BINARY__SHL nonterminal.BINARY (BinaryIs binary.ShiftLeft) rule_BINARY__SHL refl x

rule_BINARY__SHR : IsRule verilog.rules production.BINARY__SHR nonterminal.BINARY (Terminal kind.SHR ∷ [])
unfolding verilog named_rules
rule_BINARY__SHR = refl

pub by_BINARY__SHR : {ws : List (List ℕ)} {f : Core → Core} → Says (Terminal kind.SHR ∷ []) ws f → Says (Nonterminal nonterminal.BINARY ∷ []) ws (λ c. reduced_core (BinaryIs binary.ShiftRight) (f c))
by_BINARY__SHR x = says_rule production.BINARY__SHR nonterminal.BINARY (BinaryIs binary.ShiftRight) rule_BINARY__SHR refl x

rule_BINARY__COMPARISON : IsRule verilog.rules production.BINARY__COMPARISON nonterminal.BINARY (Nonterminal nonterminal.COMPARISON ∷ [])
unfolding verilog named_rules
rule_BINARY__COMPARISON = refl

pub by_BINARY__COMPARISON : {ws : List (List ℕ)} {f : Core → Core} → Says (Nonterminal nonterminal.COMPARISON ∷ []) ws f → Says (Nonterminal nonterminal.BINARY ∷ []) ws (λ c. reduced_core OrderedBinary (f c))
by_BINARY__COMPARISON x = says_rule production.BINARY__COMPARISON nonterminal.BINARY OrderedBinary rule_BINARY__COMPARISON refl x

rule_COMPARISON__LT : IsRule verilog.rules production.COMPARISON__LT nonterminal.COMPARISON (Terminal kind.LT ∷ [])
unfolding verilog named_rules
rule_COMPARISON__LT = refl

pub by_COMPARISON__LT : {ws : List (List ℕ)} {f : Core → Core} → Says (Terminal kind.LT ∷ []) ws f → Says (Nonterminal nonterminal.COMPARISON ∷ []) ws (λ c. reduced_core (OrderIs order.Less) (f c))
by_COMPARISON__LT x = says_rule production.COMPARISON__LT nonterminal.COMPARISON (OrderIs order.Less) rule_COMPARISON__LT refl x

rule_COMPARISON__LE : IsRule verilog.rules production.COMPARISON__LE nonterminal.COMPARISON (Terminal kind.LE ∷ [])
unfolding verilog named_rules
rule_COMPARISON__LE = refl

pub by_COMPARISON__LE : {ws : List (List ℕ)} {f : Core → Core} → Says (Terminal kind.LE ∷ []) ws f → Says (Nonterminal nonterminal.COMPARISON ∷ []) ws (λ c. reduced_core (OrderIs order.LessOrEqual) (f c))
by_COMPARISON__LE x = says_rule production.COMPARISON__LE nonterminal.COMPARISON (OrderIs order.LessOrEqual) rule_COMPARISON__LE refl x

rule_COMPARISON__GT : IsRule verilog.rules production.COMPARISON__GT nonterminal.COMPARISON (Terminal kind.GT ∷ [])
unfolding verilog named_rules
rule_COMPARISON__GT = refl

pub by_COMPARISON__GT : {ws : List (List ℕ)} {f : Core → Core} → Says (Terminal kind.GT ∷ []) ws f → Says (Nonterminal nonterminal.COMPARISON ∷ []) ws (λ c. reduced_core (OrderIs order.Greater) (f c))
by_COMPARISON__GT x = says_rule production.COMPARISON__GT nonterminal.COMPARISON (OrderIs order.Greater) rule_COMPARISON__GT refl x

rule_COMPARISON__GE : IsRule verilog.rules production.COMPARISON__GE nonterminal.COMPARISON (Terminal kind.GE ∷ [])
unfolding verilog named_rules
rule_COMPARISON__GE = refl

pub by_COMPARISON__GE : {ws : List (List ℕ)} {f : Core → Core} → Says (Terminal kind.GE ∷ []) ws f → Says (Nonterminal nonterminal.COMPARISON ∷ []) ws (λ c. reduced_core (OrderIs order.GreaterOrEqual) (f c))
by_COMPARISON__GE x = says_rule production.COMPARISON__GE nonterminal.COMPARISON (OrderIs order.GreaterOrEqual) rule_COMPARISON__GE refl x

-- ---- words

pub word_MODULE : Says (Terminal kind.MODULE ∷ []) (codes "module" ∷ []) (λ c. c)
unfolding mark_kind
word_MODULE = says_is (says_token (codes "module")) (λ c. refl)

pub word_ENDMODULE : Says (Terminal kind.ENDMODULE ∷ []) (codes "endmodule" ∷ []) (λ c. c)
unfolding mark_kind
word_ENDMODULE = says_is (says_token (codes "endmodule")) (λ c. refl)

pub word_INPUT : Says (Terminal kind.INPUT ∷ []) (codes "input" ∷ []) (λ c. c)
unfolding mark_kind
word_INPUT = says_is (says_token (codes "input")) (λ c. refl)

pub word_OUTPUT : Says (Terminal kind.OUTPUT ∷ []) (codes "output" ∷ []) (λ c. c)
unfolding mark_kind
word_OUTPUT = says_is (says_token (codes "output")) (λ c. refl)

pub word_WIRE : Says (Terminal kind.WIRE ∷ []) (codes "wire" ∷ []) (λ c. c)
unfolding mark_kind
word_WIRE = says_is (says_token (codes "wire")) (λ c. refl)

pub word_REG : Says (Terminal kind.REG ∷ []) (codes "reg" ∷ []) (λ c. c)
unfolding mark_kind
word_REG = says_is (says_token (codes "reg")) (λ c. refl)

pub word_ASSIGN : Says (Terminal kind.ASSIGN ∷ []) (codes "assign" ∷ []) (λ c. c)
unfolding mark_kind
word_ASSIGN = says_is (says_token (codes "assign")) (λ c. refl)

pub word_ALWAYS : Says (Terminal kind.ALWAYS ∷ []) (codes "always" ∷ []) (λ c. c)
unfolding mark_kind
word_ALWAYS = says_is (says_token (codes "always")) (λ c. refl)

pub word_POSEDGE : Says (Terminal kind.POSEDGE ∷ []) (codes "posedge" ∷ []) (λ c. c)
unfolding mark_kind
word_POSEDGE = says_is (says_token (codes "posedge")) (λ c. refl)

pub word_BEGIN : Says (Terminal kind.BEGIN ∷ []) (codes "begin" ∷ []) (λ c. c)
unfolding mark_kind
word_BEGIN = says_is (says_token (codes "begin")) (λ c. refl)

pub word_IF : Says (Terminal kind.IF ∷ []) (codes "if" ∷ []) (λ c. c)
unfolding mark_kind
word_IF = says_is (says_token (codes "if")) (λ c. refl)

pub word_ELSE : Says (Terminal kind.ELSE ∷ []) (codes "else" ∷ []) (λ c. c)
unfolding mark_kind
word_ELSE = says_is (says_token (codes "else")) (λ c. refl)

pub word_ENDBLOCK : Says (Terminal kind.ENDBLOCK ∷ []) (codes "end" ∷ []) (λ c. c)
unfolding mark_kind
word_ENDBLOCK = says_is (says_token (codes "end")) (λ c. refl)

pub word_SIGNED : Says (Terminal kind.SIGNED ∷ []) (codes "$signed" ∷ []) (λ c. c)
unfolding mark_kind
word_SIGNED = says_is (says_token (codes "$signed")) (λ c. refl)

pub word_LPAREN : Says (Terminal kind.LPAREN ∷ []) (codes "(" ∷ []) (λ c. c)
unfolding mark_kind
word_LPAREN = says_is (says_token (codes "(")) (λ c. refl)

pub word_RPAREN : Says (Terminal kind.RPAREN ∷ []) (codes ")" ∷ []) (λ c. c)
unfolding mark_kind
word_RPAREN = says_is (says_token (codes ")")) (λ c. refl)

pub word_SEMI : Says (Terminal kind.SEMI ∷ []) (codes ";" ∷ []) (λ c. c)
unfolding mark_kind
word_SEMI = says_is (says_token (codes ";")) (λ c. refl)

pub word_COMMA : Says (Terminal kind.COMMA ∷ []) (codes "," ∷ []) (λ c. c)
unfolding mark_kind
word_COMMA = says_is (says_token (codes ",")) (λ c. refl)

pub word_LBRACKET : Says (Terminal kind.LBRACKET ∷ []) (codes "[" ∷ []) (λ c. c)
unfolding mark_kind
word_LBRACKET = says_is (says_token (codes "[")) (λ c. refl)

pub word_RBRACKET : Says (Terminal kind.RBRACKET ∷ []) (codes "]" ∷ []) (λ c. c)
unfolding mark_kind
word_RBRACKET = says_is (says_token (codes "]")) (λ c. refl)

pub word_COLON : Says (Terminal kind.COLON ∷ []) (codes ":" ∷ []) (λ c. c)
unfolding mark_kind
word_COLON = says_is (says_token (codes ":")) (λ c. refl)

pub word_LBRACE : Says (Terminal kind.LBRACE ∷ []) (codes "{" ∷ []) (λ c. c)
unfolding mark_kind
word_LBRACE = says_is (says_token (codes "{")) (λ c. refl)

pub word_RBRACE : Says (Terminal kind.RBRACE ∷ []) (codes "}" ∷ []) (λ c. c)
unfolding mark_kind
word_RBRACE = says_is (says_token (codes "}")) (λ c. refl)

pub word_QUESTION : Says (Terminal kind.QUESTION ∷ []) (codes "?" ∷ []) (λ c. c)
unfolding mark_kind
word_QUESTION = says_is (says_token (codes "?")) (λ c. refl)

pub word_EQUALS : Says (Terminal kind.EQUALS ∷ []) (codes "=" ∷ []) (λ c. c)
unfolding mark_kind
word_EQUALS = says_is (says_token (codes "=")) (λ c. refl)

pub word_LE : Says (Terminal kind.LE ∷ []) (codes "<=" ∷ []) (λ c. c)
unfolding mark_kind
word_LE = says_is (says_token (codes "<=")) (λ c. refl)

pub word_AT : Says (Terminal kind.AT ∷ []) (codes "@" ∷ []) (λ c. c)
unfolding mark_kind
word_AT = says_is (says_token (codes "@")) (λ c. refl)

pub word_ASHR : Says (Terminal kind.ASHR ∷ []) (codes ">>>" ∷ []) (λ c. c)
unfolding mark_kind
word_ASHR = says_is (says_token (codes ">>>")) (λ c. refl)

pub word_PLUS : Says (Terminal kind.PLUS ∷ []) (codes "+" ∷ []) (λ c. c)
unfolding mark_kind
word_PLUS = says_is (says_token (codes "+")) (λ c. refl)

pub word_MINUS : Says (Terminal kind.MINUS ∷ []) (codes "-" ∷ []) (λ c. c)
unfolding mark_kind
word_MINUS = says_is (says_token (codes "-")) (λ c. refl)

pub word_STAR : Says (Terminal kind.STAR ∷ []) (codes "*" ∷ []) (λ c. c)
unfolding mark_kind
word_STAR = says_is (says_token (codes "*")) (λ c. refl)

pub word_SLASH : Says (Terminal kind.SLASH ∷ []) (codes "/" ∷ []) (λ c. c)
unfolding mark_kind
word_SLASH = says_is (says_token (codes "/")) (λ c. refl)

pub word_PERCENT : Says (Terminal kind.PERCENT ∷ []) (codes "%" ∷ []) (λ c. c)
unfolding mark_kind
word_PERCENT = says_is (says_token (codes "%")) (λ c. refl)

pub word_AMP : Says (Terminal kind.AMP ∷ []) (codes "&" ∷ []) (λ c. c)
unfolding mark_kind
word_AMP = says_is (says_token (codes "&")) (λ c. refl)

pub word_PIPE : Says (Terminal kind.PIPE ∷ []) (codes "|" ∷ []) (λ c. c)
unfolding mark_kind
word_PIPE = says_is (says_token (codes "|")) (λ c. refl)

pub word_CARET : Says (Terminal kind.CARET ∷ []) (codes "^" ∷ []) (λ c. c)
unfolding mark_kind
word_CARET = says_is (says_token (codes "^")) (λ c. refl)

pub word_TILDE : Says (Terminal kind.TILDE ∷ []) (codes "~" ∷ []) (λ c. c)
unfolding mark_kind
word_TILDE = says_is (says_token (codes "~")) (λ c. refl)

pub word_EQ : Says (Terminal kind.EQ ∷ []) (codes "==" ∷ []) (λ c. c)
unfolding mark_kind
word_EQ = says_is (says_token (codes "==")) (λ c. refl)

pub word_NE : Says (Terminal kind.NE ∷ []) (codes "!=" ∷ []) (λ c. c)
unfolding mark_kind
word_NE = says_is (says_token (codes "!=")) (λ c. refl)

pub word_SHL : Says (Terminal kind.SHL ∷ []) (codes "<<" ∷ []) (λ c. c)
unfolding mark_kind
word_SHL = says_is (says_token (codes "<<")) (λ c. refl)

pub word_SHR : Says (Terminal kind.SHR ∷ []) (codes ">>" ∷ []) (λ c. c)
unfolding mark_kind
word_SHR = says_is (says_token (codes ">>")) (λ c. refl)

pub word_LT : Says (Terminal kind.LT ∷ []) (codes "<" ∷ []) (λ c. c)
unfolding mark_kind
word_LT = says_is (says_token (codes "<")) (λ c. refl)

pub word_GT : Says (Terminal kind.GT ∷ []) (codes ">" ∷ []) (λ c. c)
unfolding mark_kind
word_GT = says_is (says_token (codes ">")) (λ c. refl)

pub word_GE : Says (Terminal kind.GE ∷ []) (codes ">=" ∷ []) (λ c. c)
unfolding mark_kind
word_GE = says_is (says_token (codes ">=")) (λ c. refl)
