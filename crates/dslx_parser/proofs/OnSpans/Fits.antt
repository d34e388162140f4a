-- Where the part of each sort stands.
use Rattle.std.proofs.Common.{◌≡◌, ◌≤◌, ℕ, List, [], ◌∷◌, ◌++◌, map}
use Rattle.std.specs.Prelude.{◌≢◌, ◌⊎◌, Option, true}
use Rattle.base.specs.declared.grammar.table.Symbol.{Symbol}
use Rattle.base.specs.declared.grammar.table.Symbol.TheVariants.{Terminal, Nonterminal}
use Rattle.xb_span.specs.declared.span.Span.{Span}
use Rattle.dslx_token.specs.Lexeme.{Lexeme}
use Rattle.dslx_tree.specs.declared.block.Block.{Block, out-Block}
use Rattle.dslx_tree.specs.declared.block.Stmt.{Stmt}
use Rattle.dslx_tree.specs.declared.expr.Expr.{Expr}
use Rattle.dslx_tree.specs.declared.ident.Ident.{Ident}
use Rattle.dslx_tree.specs.declared.pattern.Pattern.{Pattern}
use Rattle.dslx_tree.specs.declared.process.Config.{Config}
use Rattle.dslx_tree.specs.declared.process.Next.{Next}
use Rattle.dslx_tree.specs.declared.type_expr.TypeExpr.{TypeExpr, out-TypeExpr}
use Rattle.dslx_tree.specs.declared.operators.chain.Link.{Link}
use Rattle.dslx_tree.specs.declared.operators.chain.Operand.{Operand}
use Rattle.dslx_actions.specs.Tokens.{is_name}
use Rattle.dslx_parser.specs.Syntax.Nodes.{LoopRange, exprs_of, in_turn}
use Rattle.dslx_parser.specs.Syntax.Sorts.{OfSort, Sort, sort_of}
use Rattle.dslx_parser.specs.Syntax.SymbolParts.{SemanticAction, PartOf, PartsOf, made_from}
use Rattle.dslx_parser.specs.Spans.Places.{Thing, InSomeOrder, LieBetween}
use Rattle.dslx_parser.specs.Spans.Places as things
use Rattle.dslx_parser.proofs.OnSpans.Standing.{IsOperand, StandsAt, Within}

-- one part, or a list of parts of one sort
abbrev pub One : Thing → ℕ → ℕ → Type 0
One x from to = LieBetween (x ∷ []) from to

abbrev pub All : {T : Type 0} → (T → Thing) → List T → ℕ → ℕ → Type 0
All kind xs from to = LieBetween (map kind xs) from to

abbrev pub a_type : TypeExpr → ℕ → ℕ → Type 0
a_type ty from to = StandsAt (things.type_expr ty) (out-TypeExpr ty).span from to

abbrev pub a_block : Block → ℕ → ℕ → Type 0
a_block b from to = StandsAt (things.block b) (out-Block b).span from to

abbrev pub a_name : Ident → ℕ → ℕ → Type 0
a_name name from to = StandsAt (things.ident name) name.span from to

-- statements and the value of a block
abbrev pub Statements : List Stmt × Option Expr → ℕ → ℕ → Type 0
Statements p from to = LieBetween (map things.statement p.0 ++ things.maybe_expr p.1) from to

-- a pattern and its type
abbrev pub Bound : Pattern × Option TypeExpr → ℕ → ℕ → Type 0
Bound b from to = LieBetween (things.pattern b.0 ∷ things.maybe_type b.1) from to

-- operands, each with the operator before it
abbrev pub Links : List Link → ℕ → ℕ → Type 0
Links [] from to = from ≤ to
Links (l ∷ ls) from to = (mid : ℕ) × IsOperand l.operand from mid × Links ls mid to

-- what stands behind an operand, and takes it in
abbrev pub Post : (Operand → Operand) → ℕ → ℕ → Type 0
Post f from to = (o : Operand) (start : ℕ) → IsOperand o start from → IsOperand (f o) start to

-- `config`, `init` and `next` in some order
pub record ProcParts (c : Config) (i : Block) (n : Next) (from to : ℕ) : Type 0 where
  pub parts : List Thing
  pub order : InSomeOrder (things.config c) (things.block i) (things.next n) parts
  pub there : LieBetween parts from to

abbrev pub InEitherOrder : Thing → Thing → ℕ → ℕ → Type 0
InEitherOrder x y from to = LieBetween (x ∷ y ∷ []) from to ⊎ LieBetween (y ∷ x ∷ []) from to

-- what stands behind the patterns and the type of a loop
abbrev pub Range : LoopRange → ℕ → ℕ → Type 0
Range r from to = LieBetween (things.expr r.first.expr ∷ things.expr r.end.expr ∷ things.block r.body ∷ things.expr r.start.expr ∷ []) from r.closing.from × (r.closing.from ≤ r.closing.to) × (r.closing.to ≤ to)

abbrev pub Fits : (kind : Sort) → OfSort kind → ℕ → ℕ → Type 0
Fits Sort.nothing p from to = from ≤ to
Fits Sort.mark span from to = Within span from to
Fits Sort.whole m from to = All things.item m.items from to
Fits Sort.items xs from to = All things.item xs from to
Fits Sort.item x from to = One (things.item x) from to
Fits Sort.definition x from to = One (things.definition x) from to
Fits Sort.ident x from to = a_name x from to
Fits Sort.idents xs from to = All things.ident xs from to
Fits Sort.annotation x from to = LieBetween (things.maybe_type x) from to
Fits Sort.parametric x from to = One (things.parametric x) from to
Fits Sort.parametrics xs from to = All things.parametric xs from to
Fits Sort.given x from to = LieBetween (things.maybe_expr x) from to
Fits Sort.field x from to = One (things.field x) from to
Fits Sort.fields xs from to = All things.field xs from to
Fits Sort.member x from to = One (things.member x) from to
Fits Sort.members xs from to = All things.member xs from to
Fits Sort.end x from to = One (things.end x) from to
Fits Sort.ends xs from to = All things.end xs from to
Fits Sort.word w from to = One (things.type_expr w.0) from to
Fits Sort.direction x from to = from ≤ to
Fits Sort.config x from to = One (things.config x) from to
Fits Sort.next x from to = One (things.next x) from to
Fits Sort.proc_parts p from to = ProcParts p.0 p.1 p.2 from to
Fits Sort.init_and_next p from to = InEitherOrder (things.block p.0) (things.next p.1) from to
Fits Sort.config_and_next p from to = InEitherOrder (things.config p.0) (things.next p.1) from to
Fits Sort.config_and_init p from to = InEitherOrder (things.config p.0) (things.block p.1) from to
Fits Sort.config_statement x from to = One (things.config_statement x) from to
Fits Sort.config_statements xs from to = All things.config_statement xs from to
Fits Sort.made m from to = LieBetween (things.type_expr m.0 ∷ (things.maybe_arg m.1 ++ things.spot m.2.span ∷ [])) from m.3.from × (m.3.from ≤ m.3.to) × (m.3.to ≤ to)
Fits Sort.depth x from to = LieBetween (things.maybe_arg x) from to
Fits Sort.arg x from to = One (things.arg x) from to
Fits Sort.args xs from to = All things.arg xs from to
Fits Sort.named_arg f from to = (name : Ident) (start : ℕ) → a_name name start from → One (things.arg (f name)) start to
Fits Sort.number n from to = Within n.span from to
Fits Sort.type_expr x from to = a_type x from to
Fits Sort.types xs from to = All things.type_expr xs from to
Fits Sort.size f from to = (ty : TypeExpr) (start : ℕ) → a_type ty start from → a_type (f ty) start to
Fits Sort.sizes fs from to = (ty : TypeExpr) (start : ℕ) → a_type ty start from → a_type (in_turn fs ty) start to
Fits Sort.named_size f from to = (name : Ident) (start : ℕ) → a_name name start from → a_type (f name) start to
Fits Sort.block x from to = a_block x from to
Fits Sort.statement x from to = One (things.statement x) from to
Fits Sort.statements p from to = Statements p from to
Fits Sort.statement_end f from to = (o : Operand) (start : ℕ) → IsOperand o start from → Statements (f o) start to
Fits Sort.bare f from to = (o : Operand) (start : ℕ) → IsOperand o start from → One (things.statement (f o)) start to
Fits Sort.bound b from to = Bound b from to
Fits Sort.named_bound f from to = (name : Ident) (start : ℕ) → a_name name start from → Bound (f name) start to
Fits Sort.colon_bound f from to = (name : Ident) (start : ℕ) → a_name name start from → Bound (f name) start to
Fits Sort.pattern x from to = One (things.pattern x) from to
Fits Sort.patterns xs from to = All things.pattern xs from to
Fits Sort.named_pattern f from to = (name : Ident) (start : ℕ) → a_name name start from → One (things.pattern (f name)) start to
Fits Sort.operand o from to = IsOperand o from to
Fits Sort.operands xs from to = All things.expr (exprs_of xs) from to
Fits Sort.operator x from to = from ≤ to
Fits Sort.links ls from to = Links ls from to
Fits Sort.post f from to = Post f from to
Fits Sort.posts fs from to = Post (in_turn fs) from to
Fits Sort.part f from to = Post f from to
Fits Sort.index_end f from to = (o index : Operand) (start mid : ℕ) → IsOperand o start mid → IsOperand index mid from → IsOperand (f index o) start to
Fits Sort.parenthesis f from to = (opening : Span) (start : ℕ) → Within opening start from → IsOperand (f opening) start to
Fits Sort.parenthesis_end f from to = (opening : Span) (o : Operand) (start mid : ℕ) → Within opening start mid → IsOperand o mid from → IsOperand (f opening o) start to
Fits Sort.typed f from to = (ty : TypeExpr) (start : ℕ) → a_type ty start from → IsOperand (f ty) start to
Fits Sort.named_operand f from to = (name : Ident) (start : ℕ) → a_name name start from → IsOperand (f name) start to
Fits Sort.named_field f from to = (name : Ident) (start : ℕ) → a_name name start from → One (things.field_value (f name)) start to
Fits Sort.field_values p from to = LieBetween (map things.field_value p.0 ++ things.maybe_expr p.1) from to
Fits Sort.elements e from to = Within e.0 from e.0.to × All things.expr (exprs_of e.2) e.0.to e.1.from × Within e.1 e.1.from to
Fits Sort.more_elements e from to = All things.expr (exprs_of e.0) from to
Fits Sort.arm x from to = One (things.arm x) from to
Fits Sort.arms xs from to = All things.arm xs from to
Fits Sort.range r from to = Range r from to

-- a token of this kind, and the name that it says
pub record IsTokenAt (kind : ℕ) (l : Lexeme) (from to : ℕ) : Type 0 where
  pub within : Within l.span from to
  pub name : is_name kind ≡ true → l.bytes ≢ []

abbrev pub PartFits : (x : Symbol) → PartOf x → ℕ → ℕ → Type 0
PartFits (Terminal kind) part from to = IsTokenAt kind part from to
PartFits (Nonterminal n) part from to = Fits (sort_of n) part from to

-- the parts of this symbol and of those behind it stand one behind the other
abbrev pub FirstFit : (x : Symbol) (symbols : List Symbol) → PartOf x → PartsOf symbols → ℕ → ℕ → Type 0
FirstFit x [] part parts from to = PartFits x part from to
FirstFit x (y ∷ symbols) part parts from to = (mid : ℕ) × PartFits x part from mid × FirstFit y symbols parts.0 parts.1 mid to

abbrev pub PartsFit : (symbols : List Symbol) → PartsOf symbols → ℕ → ℕ → Type 0
PartsFit [] parts from to = from ≤ to
PartsFit (x ∷ symbols) parts from to = FirstFit x symbols parts.0 parts.1 from to

-- where the parts of the body stand, the part that the rule makes does
abbrev pub Keeps : SemanticAction → Type 0
Keeps r = (parts : PartsOf r.body) (from to : ℕ) → PartsFit r.body parts from to → Fits (sort_of r.head) (made_from r.body r.part parts) from to

-- each of these rules does
pub data AllKeep : List SemanticAction → Type 0 where
  none : AllKeep []
  ◌&◌ : {r : SemanticAction} {rs : List SemanticAction} → Keeps r → AllKeep rs → AllKeep (r ∷ rs)

infixr 40 ◌&◌
