-- How high the part of each sort is.
use Rattle.std.proofs.Common.{◌≡◌, ◌≤◌, ◌+◌, ℕ, suc, List, [], ◌∷◌, ◌++◌, map}
use Rattle.std.specs.Prelude.{◌-◌}
use Rattle.base.specs.declared.grammar.table.Symbol.{Symbol}
use Rattle.base.specs.declared.grammar.table.Symbol.TheVariants.{Terminal, Nonterminal}
use Rattle.xb_span.specs.declared.span.Span.{Span}
use Rattle.dslx_tree.specs.declared.ident.Ident.{Ident}
use Rattle.dslx_tree.specs.declared.type_expr.TypeExpr.{TypeExpr}
use Rattle.dslx_tree.specs.declared.operators.chain.Link.{Link}
use Rattle.dslx_tree.specs.declared.operators.chain.Operand.{Operand}
use Rattle.dslx_token.specs.BracketClasses.BracketClasses.{bracket_class_of}
use Rattle.dslx_parser.specs.Syntax.Nodes.{exprs_of, in_turn}
use Rattle.dslx_parser.specs.Syntax.Sorts.{OfSort, Sort, sort_of}
use Rattle.dslx_parser.specs.Syntax.SymbolParts.{SemanticAction, PartsOf, made_from}
use Rattle.dslx_parser.specs.Spans.Places.{Thing}
use Rattle.dslx_parser.specs.Spans.Places as things
use Rattle.dslx_parser.specs.Depths.TreeDepths.{depth_within}
use Rattle.dslx_parser.proofs.OnDepths.NoHigher.{AreNoHigher}
use Rattle.dslx_parser.proofs.OnDepths.Effects.{after, begin_at, began_with, effect_of}
use Rattle.dslx_parser.proofs.OnDepths.States.{Low, State, deep, step}

-- how many brackets and marks more may be open at a place with so many
abbrev pub room : ℕ → ℕ
room d = 129 - d

-- the depth of what stands in brackets there; of types and of expressions without marks; and of all that stands there
abbrev pub inner : ℕ → ℕ
inner d = depth_within (room d)

abbrev pub typed : ℕ → ℕ
typed d = suc (inner d)

abbrev pub argument : ℕ → ℕ
argument d = suc (suc (typed d))

abbrev pub plain : ℕ → ℕ
plain d = inner d + 4

abbrev pub whole : ℕ → ℕ
whole d = depth_within (suc (room d))

-- The parts are no higher than this number and the marks that are read in them.
pub record Rises (height : ℕ) (xs : List Thing) (from to : ℕ) : Type 0 where
  pub goes : from ≤ to
  pub high : (n : ℕ) → height + to ≤ n + from → AreNoHigher n xs

abbrev pub AnExpr : ℕ → Operand → ℕ → ℕ → Type 0
AnExpr d o from to = Rises (plain d) (things.expr o.expr ∷ []) from to

abbrev pub AType : ℕ → TypeExpr → ℕ → ℕ → Type 0
AType d ty from to = Rises (typed d) (things.type_expr ty ∷ []) from to

-- operands, each with the operator before it
abbrev pub Links : ℕ → List Link → ℕ → ℕ → Type 0
Links d [] from to = from ≤ to
Links d (l ∷ ls) from to = (mid : ℕ) × AnExpr d l.operand (suc from) mid × Links d ls mid to

-- what stands behind an operand, and takes it in
abbrev pub Post : ℕ → (Operand → Operand) → ℕ → ℕ → Type 0
Post d f from to = (o : Operand) (start : ℕ) → AnExpr d o start from → AnExpr d (f o) start to

abbrev pub Fits : (kind : Sort) → OfSort kind → (d from to : ℕ) → Type 0
Fits Sort.nothing p d from to = Unit {0}
Fits Sort.mark span d from to = Unit {0}
Fits Sort.whole m d from to = AreNoHigher (suc (whole 0)) (map things.item m.items)
Fits Sort.items xs d from to = AreNoHigher (suc (whole 0)) (map things.item xs)
Fits Sort.item x d from to = AreNoHigher (suc (whole 0)) (things.item x ∷ [])
Fits Sort.definition x d from to = AreNoHigher (suc (whole 0)) (things.definition x ∷ [])
Fits Sort.ident x d from to = from ≤ to
Fits Sort.idents xs d from to = AreNoHigher (whole d) (map things.ident xs)
Fits Sort.annotation x d from to = Rises (plain d) (things.maybe_type x) from to
Fits Sort.parametric x d from to = AreNoHigher (whole d) (things.parametric x ∷ [])
Fits Sort.parametrics xs d from to = AreNoHigher (whole d) (map things.parametric xs)
Fits Sort.given x d from to = AreNoHigher (whole d) (things.maybe_expr x)
Fits Sort.field x d from to = AreNoHigher (whole d) (things.field x ∷ [])
Fits Sort.fields xs d from to = AreNoHigher (whole d) (map things.field xs)
Fits Sort.member x d from to = AreNoHigher (whole d) (things.member x ∷ [])
Fits Sort.members xs d from to = AreNoHigher (whole d) (map things.member xs)
Fits Sort.end x d from to = AreNoHigher (whole d) (things.end x ∷ [])
Fits Sort.ends xs d from to = AreNoHigher (whole d) (map things.end xs)
Fits Sort.word w d from to = AreNoHigher (whole d) (things.type_expr w.0 ∷ [])
Fits Sort.direction x d from to = Unit {0}
Fits Sort.config x d from to = AreNoHigher (whole d) (things.config x ∷ [])
Fits Sort.next x d from to = AreNoHigher (whole d) (things.next x ∷ [])
Fits Sort.proc_parts p d from to = AreNoHigher (whole d) (things.config p.0 ∷ things.block p.1 ∷ things.next p.2 ∷ [])
Fits Sort.init_and_next p d from to = AreNoHigher (whole d) (things.block p.0 ∷ things.next p.1 ∷ [])
Fits Sort.config_and_next p d from to = AreNoHigher (whole d) (things.config p.0 ∷ []) × AreNoHigher (whole d) (things.next p.1 ∷ [])
Fits Sort.config_and_init p d from to = AreNoHigher (whole d) (things.config p.0 ∷ things.block p.1 ∷ [])
Fits Sort.config_statement x d from to = AreNoHigher (suc (whole d)) (things.config_statement x ∷ [])
Fits Sort.config_statements xs d from to = AreNoHigher (suc (whole d)) (map things.config_statement xs)
Fits Sort.made m d from to = AreNoHigher (whole d) (things.type_expr m.0 ∷ (things.maybe_arg m.1 ++ things.spot m.2.span ∷ []))
Fits Sort.depth x d from to = AreNoHigher (whole d) (things.maybe_arg x)
Fits Sort.arg x d from to = Rises (argument d) (things.arg x ∷ []) from to
Fits Sort.args xs d from to = Rises (argument d) (map things.arg xs) from to
Fits Sort.named_arg f d from to = (name : Ident) (start : ℕ) → start ≤ from → Rises (argument d) (things.arg (f name) ∷ []) start to
Fits Sort.number n d from to = from ≤ to
Fits Sort.type_expr x d from to = AType d x from to
Fits Sort.types xs d from to = AreNoHigher (whole d) (map things.type_expr xs)
Fits Sort.size f d from to = (ty : TypeExpr) (start : ℕ) → AType d ty start from → AType d (f ty) start to
Fits Sort.sizes fs d from to = (ty : TypeExpr) (start : ℕ) → AType d ty start from → AType d (in_turn fs ty) start to
Fits Sort.named_size f d from to = (name : Ident) (start : ℕ) → start ≤ from → AType d (f name) start to
Fits Sort.block x d from to = (from ≤ to) × AreNoHigher (suc (suc (inner d))) (things.block x ∷ [])
Fits Sort.statement x d from to = AreNoHigher (suc (whole d)) (things.statement x ∷ [])
Fits Sort.statements p d from to = AreNoHigher (suc (whole d)) (map things.statement p.0 ++ things.maybe_expr p.1)
Fits Sort.statement_end f d from to = (o : Operand) → AreNoHigher (whole d) (things.expr o.expr ∷ []) → AreNoHigher (suc (whole d)) (map things.statement (f o).0 ++ things.maybe_expr (f o).1)
Fits Sort.bare f d from to = (o : Operand) → AreNoHigher (whole d) (things.expr o.expr ∷ []) → AreNoHigher (suc (whole d)) (things.statement (f o) ∷ [])
Fits Sort.bound b d from to = AreNoHigher (whole d) (things.pattern b.0 ∷ things.maybe_type b.1)
Fits Sort.named_bound f d from to = (name : Ident) (start : ℕ) → start ≤ from → AreNoHigher (whole d) (things.pattern (f name).0 ∷ things.maybe_type (f name).1)
Fits Sort.colon_bound f d from to = (name : Ident) (start : ℕ) → start ≤ from → AreNoHigher (whole d) (things.pattern (f name).0 ∷ things.maybe_type (f name).1)
Fits Sort.pattern x d from to = AreNoHigher (whole d) (things.pattern x ∷ [])
Fits Sort.patterns xs d from to = AreNoHigher (whole d) (map things.pattern xs)
Fits Sort.named_pattern f d from to = (name : Ident) (start : ℕ) → start ≤ from → AreNoHigher (whole d) (things.pattern (f name) ∷ [])
Fits Sort.operand o d from to = AnExpr d o from to
Fits Sort.operands xs d from to = AreNoHigher (whole d) (map things.expr (exprs_of xs))
Fits Sort.operator x d from to = suc from ≤ to
Fits Sort.links ls d from to = Links d ls from to
Fits Sort.post f d from to = Post d f from to
Fits Sort.posts fs d from to = Post d (in_turn fs) from to
Fits Sort.part f d from to = (o : Operand) (start mid : ℕ) → suc mid ≤ from → AnExpr d o start mid → AnExpr d (f o) start to
Fits Sort.index_end f d from to = (o index : Operand) (start mid : ℕ) → suc mid ≤ from → AnExpr d o start mid → AreNoHigher (inner d) (things.expr index.expr ∷ []) → AnExpr d (f index o) start to
Fits Sort.parenthesis f d from to = (opening : Span) → AnExpr d (f opening) from to
Fits Sort.parenthesis_end f d from to = (opening : Span) (o : Operand) → AreNoHigher (inner d) (things.expr o.expr ∷ []) → AnExpr d (f opening o) from to
Fits Sort.typed f d from to = (ty : TypeExpr) (start : ℕ) → AType d ty start from → AnExpr d (f ty) start to
Fits Sort.named_operand f d from to = (name : Ident) (start : ℕ) → start ≤ from → AnExpr d (f name) start to
Fits Sort.named_field f d from to = (name : Ident) → AreNoHigher (whole d) (things.field_value (f name) ∷ [])
Fits Sort.field_values p d from to = AreNoHigher (whole d) (map things.field_value p.0 ++ things.maybe_expr p.1)
Fits Sort.elements e d from to = Rises (inner d) (map things.expr (exprs_of e.2)) from to
Fits Sort.more_elements e d from to = AreNoHigher (whole d) (map things.expr (exprs_of e.0))
Fits Sort.arm x d from to = AreNoHigher (whole d) (things.arm x ∷ [])
Fits Sort.arms xs d from to = AreNoHigher (whole d) (map things.arm xs)
Fits Sort.range r d from to = Rises (suc (suc (inner d))) (things.expr r.first.expr ∷ things.expr r.end.expr ∷ things.block r.body ∷ things.expr r.start.expr ∷ []) from to

-- the part of a nonterminal that begins there, and ends with so many marks
pub record Part (n : ℕ) (part : OfSort (sort_of n)) (s : State) (m : ℕ) : Type 0 where
  pub low : Low (after (effect_of n) s m)
  pub fits : Fits (sort_of n) part (deep (after (effect_of n) s m)) (began_with (effect_of n) s) (after (effect_of n) s m).token_spans

-- what is so of the parts of the body of a rule
abbrev pub PartsFit : ℕ → (symbols : List Symbol) → PartsOf symbols → State → Type 0
PartsFit p [] parts s = Unit {0}
PartsFit p (Terminal kind ∷ symbols) parts s = PartsFit p symbols parts.1 (step s (bracket_class_of p kind))
PartsFit p (Nonterminal n ∷ symbols) parts s = (m : ℕ) × Part n parts.0 s m × PartsFit p symbols parts.1 (after (effect_of n) s m)

-- what is open behind them
abbrev pub end_of : (p : ℕ) (symbols : List Symbol) (parts : PartsOf symbols) (s : State) → PartsFit p symbols parts s → State
end_of p [] parts s k = s
end_of p (Terminal kind ∷ symbols) parts s k = end_of p symbols parts.1 (step s (bracket_class_of p kind)) k
end_of p (Nonterminal n ∷ symbols) parts s k = end_of p symbols parts.1 (after (effect_of n) s k.0) k.2

-- Where the parts of the body are so high, the part that the rule makes is; and the body does what its nonterminal does.
abbrev pub KeepsFrom : ℕ → SemanticAction → State → Type 0
KeepsFrom p r s = (parts : PartsOf r.body) (k : PartsFit p r.body parts s) →
    (end_of p r.body parts s k ≡ after (effect_of r.head) s (end_of p r.body parts s k).token_spans)
    × Fits (sort_of r.head) (made_from r.body r.part parts) (deep (end_of p r.body parts s k)) (began_with (effect_of r.head) s) (end_of p r.body parts s k).token_spans

abbrev pub Keeps : ℕ → SemanticAction → Type 0
Keeps p r = (s : State) (o : ℕ) → KeepsFrom p r (begin_at (effect_of r.head) s o)

-- each of these rules does, of which this is the number of the first
pub data AllKeep : ℕ → List SemanticAction → Type 0 where
  none : {p : ℕ} → AllKeep p []
  ◌&◌ : {p : ℕ} {r : SemanticAction} {rs : List SemanticAction} → Keeps p r → AllKeep (suc p) rs → AllKeep p (r ∷ rs)

infixr 40 ◌&◌
