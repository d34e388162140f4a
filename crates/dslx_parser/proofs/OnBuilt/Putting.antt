-- Where the part of each sort stands on the builder's stacks.
use Rattle.std.proofs.Common.{◌≡◌, List, [], ◌∷◌, length, map, drop, refl}
use Rattle.std.specs.Prelude.{Option}
use Rattle.base.specs.declared.grammar.table.Symbol.{Symbol}
use Rattle.base.specs.declared.grammar.table.Symbol.TheVariants.{Terminal, Nonterminal}
use Rattle.xb_span.specs.declared.span.Span.{Span}
use Rattle.xb_span.specs.Spans.{nowhere}
use Rattle.dslx_tree.specs.declared.block.Stmt.{Stmt}
use Rattle.dslx_tree.specs.declared.expr.Expr.{Expr}
use Rattle.dslx_tree.specs.declared.expr.Node.{Node}
use Rattle.dslx_tree.specs.declared.pattern.Pattern.{Pattern}
use Rattle.dslx_tree.specs.declared.type_expr.TypeExpr.{TypeExpr}
use Rattle.dslx_tree.specs.declared.operators.chain.Operand.{Operand}
use Rattle.dslx_actions.specs.declared.parts.SemanticStacks.{SemanticStacks}
use Rattle.dslx_actions.specs.Empty.{no_expr, no_ident, no_type}
use Rattle.dslx_actions.specs.Tokens.{shifted}
use Rattle.base.specs.Stacks.Tops.{top_or}
use Rattle.dslx_parser.specs.Syntax.Nodes.{in_turn, operand_at}
use Rattle.dslx_parser.specs.Syntax.Sorts.{OfSort, Sort, sort_of}
use Rattle.dslx_parser.specs.Syntax.SymbolParts.{PartsOf}
use Rattle.dslx_parser.proofs.OnBuilt.Chains.{expr_of, operator_of, span_of}
use Rattle.dslx_parser.proofs.OnBuilt.Onto.{onto}

abbrev pub offset_of : Operand → Span
offset_of o = o.span

abbrev pub value_of : Operand → Expr
value_of o = o.expr

-- the expression on top, with its place
abbrev pub top_operand : SemanticStacks → Operand
top_operand s = record { span = top_or nowhere s.expr_spans; expr = top_or no_expr s.exprs }

abbrev pub without_operand : SemanticStacks → SemanticStacks
without_operand s = record s { expr_spans = drop 1 s.expr_spans; exprs = drop 1 s.exprs }

abbrev pub put_operand : Operand → SemanticStacks → SemanticStacks
put_operand o s = record s { expr_spans = o.span ∷ s.expr_spans; exprs = o.expr ∷ s.exprs }

-- an expression of this node at this place
abbrev pub with_operand : SemanticStacks → Span → Node → SemanticStacks
with_operand s span node = put_operand (operand_at span node) s

abbrev pub put_post : (Operand → Operand) → SemanticStacks → SemanticStacks
put_post f s = record s { expr_spans = (f (top_operand s)).span ∷ drop 1 s.expr_spans; exprs = (f (top_operand s)).expr ∷ drop 1 s.exprs }

abbrev pub put_posts : List (Operand → Operand) → SemanticStacks → SemanticStacks
put_posts [] s = s
put_posts (f ∷ fs) s = put_posts fs (put_post f s)

abbrev pub put_size : (TypeExpr → TypeExpr) → SemanticStacks → SemanticStacks
put_size f s = record s { types = f (top_or no_type s.types) ∷ drop 1 s.types }

abbrev pub put_sizes : List (TypeExpr → TypeExpr) → SemanticStacks → SemanticStacks
put_sizes [] s = s
put_sizes (f ∷ fs) s = put_sizes fs (put_size f s)

abbrev pub put_statements : List Stmt × Option Expr → SemanticStacks → SemanticStacks
put_statements p s = record s { counts = length p.0 ∷ s.counts; statements = onto p.0 s.statements; values = p.1 ∷ s.values }

abbrev pub put_bound : Pattern × Option TypeExpr → SemanticStacks → SemanticStacks
put_bound b s = record s { patterns = b.0 ∷ s.patterns; annotations = b.1 ∷ s.annotations }

abbrev pub put : (kind : Sort) → OfSort kind → SemanticStacks → SemanticStacks
put Sort.nothing p s = s
put Sort.mark span s = record s { token_spans = span ∷ s.token_spans }
put Sort.whole m s = record s { items = onto m.items s.items }
put Sort.items xs s = record s { items = onto xs s.items }
put Sort.item x s = record s { items = x ∷ s.items }
put Sort.definition x s = record s { definitions = x ∷ s.definitions }
put Sort.ident x s = record s { idents = x ∷ s.idents }
put Sort.idents xs s = record s { counts = length xs ∷ s.counts; idents = onto xs s.idents }
put Sort.annotation x s = record s { annotations = x ∷ s.annotations }
put Sort.parametric x s = record s { parametrics = x ∷ s.parametrics }
put Sort.parametrics xs s = record s { counts = length xs ∷ s.counts; parametrics = onto xs s.parametrics }
put Sort.given x s = record s { values = x ∷ s.values }
put Sort.field x s = record s { fields = x ∷ s.fields }
put Sort.fields xs s = record s { counts = length xs ∷ s.counts; fields = onto xs s.fields }
put Sort.member x s = record s { members = x ∷ s.members }
put Sort.members xs s = record s { counts = length xs ∷ s.counts; members = onto xs s.members }
put Sort.end x s = record s { ends = x ∷ s.ends }
put Sort.ends xs s = record s { counts = length xs ∷ s.counts; ends = onto xs s.ends }
put Sort.word w s = record s { types = w.0 ∷ s.types; directions = w.1 ∷ s.directions }
put Sort.direction x s = record s { directions = x ∷ s.directions }
put Sort.config x s = record s { configs = x ∷ s.configs }
put Sort.next x s = record s { nexts = x ∷ s.nexts }
put Sort.proc_parts p s = record s { configs = p.0 ∷ s.configs; blocks = p.1 ∷ s.blocks; nexts = p.2 ∷ s.nexts }
put Sort.init_and_next p s = record s { blocks = p.0 ∷ s.blocks; nexts = p.1 ∷ s.nexts }
put Sort.config_and_next p s = record s { configs = p.0 ∷ s.configs; nexts = p.1 ∷ s.nexts }
put Sort.config_and_init p s = record s { configs = p.0 ∷ s.configs; blocks = p.1 ∷ s.blocks }
put Sort.config_statement x s = record s { config_statements = x ∷ s.config_statements }
put Sort.config_statements xs s = record s { counts = length xs ∷ s.counts; config_statements = onto xs s.config_statements }
put Sort.made m s = record s { types = m.0 ∷ s.types; depths = m.1 ∷ s.depths; idents = m.2 ∷ s.idents; token_spans = m.3 ∷ s.token_spans }
put Sort.depth x s = record s { depths = x ∷ s.depths }
put Sort.arg x s = record s { args = x ∷ s.args }
put Sort.args xs s = record s { counts = length xs ∷ s.counts; args = onto xs s.args }
put Sort.named_arg f s = record s { idents = drop 1 s.idents; args = f (top_or no_ident s.idents) ∷ s.args }
put Sort.number n s = record s { numbers = record { span = n.span; is_negative = n.is_negative; value = n.value } ∷ s.numbers }
put Sort.type_expr x s = record s { types = x ∷ s.types }
put Sort.types xs s = record s { counts = length xs ∷ s.counts; types = onto xs s.types }
put Sort.size f s = put_size f s
put Sort.sizes fs s = put_sizes fs s
put Sort.named_size f s = record s { idents = drop 1 s.idents; types = f (top_or no_ident s.idents) ∷ s.types }
put Sort.block x s = record s { blocks = x ∷ s.blocks }
put Sort.statement x s = record s { statements = x ∷ s.statements }
put Sort.statements p s = put_statements p s
put Sort.statement_end f s = put_statements (f (top_operand s)) (without_operand s)
put Sort.bare f s = record s { expr_spans = drop 1 s.expr_spans; exprs = drop 1 s.exprs; statements = f (top_operand s) ∷ s.statements }
put Sort.bound b s = put_bound b s
put Sort.named_bound f s = put_bound (f (top_or no_ident s.idents)) (record s { idents = drop 1 s.idents })
put Sort.colon_bound f s = put_bound (f (top_or no_ident s.idents)) (record s { token_spans = drop 1 s.token_spans; idents = drop 1 s.idents })
put Sort.pattern x s = record s { patterns = x ∷ s.patterns }
put Sort.patterns xs s = record s { counts = length xs ∷ s.counts; patterns = onto xs s.patterns }
put Sort.named_pattern f s = record s { idents = drop 1 s.idents; patterns = f (top_or no_ident s.idents) ∷ s.patterns }
put Sort.operand o s = put_operand o s
put Sort.operands xs s = record s { counts = length xs ∷ s.counts; expr_spans = onto (map offset_of xs) s.expr_spans; exprs = onto (map value_of xs) s.exprs }
put Sort.operator x s = record s { operators = x ∷ s.operators }
put Sort.links ls s = record s { counts = length ls ∷ s.counts; operators = onto (map operator_of ls) s.operators; expr_spans = onto (map span_of ls) s.expr_spans; exprs = onto (map expr_of ls) s.exprs }
put Sort.post f s = put_post f s
put Sort.posts fs s = put_posts fs s
put Sort.part f s = put_post f (record s { token_spans = drop 1 s.token_spans })
put Sort.index_end f s = put_post (f (top_operand s)) (record s { token_spans = drop 1 s.token_spans; expr_spans = drop 1 s.expr_spans; exprs = drop 1 s.exprs })
put Sort.parenthesis f s = put_operand (f (top_or nowhere s.token_spans)) (record s { token_spans = drop 1 s.token_spans })
put Sort.parenthesis_end f s = put_post (f (top_or nowhere s.token_spans)) (record s { token_spans = drop 1 s.token_spans })
put Sort.typed f s = put_operand (f (top_or no_type s.types)) (record s { token_spans = drop 1 s.token_spans; types = drop 1 s.types })
put Sort.named_operand f s = put_operand (f (top_or no_ident s.idents)) (record s { idents = drop 1 s.idents })
put Sort.named_field f s = record s { idents = drop 1 s.idents; field_values = f (top_or no_ident s.idents) ∷ s.field_values }
put Sort.field_values p s = record s { counts = length p.0 ∷ s.counts; field_values = onto p.0 s.field_values; values = p.1 ∷ s.values }
put Sort.elements e s = record s { token_spans = e.1 ∷ e.0 ∷ s.token_spans; counts = length e.2 ∷ s.counts; flags = e.3 ∷ s.flags; expr_spans = onto (map offset_of e.2) s.expr_spans; exprs = onto (map value_of e.2) s.exprs }
put Sort.more_elements e s = record s { counts = length e.0 ∷ s.counts; flags = e.1 ∷ s.flags; expr_spans = onto (map offset_of e.0) s.expr_spans; exprs = onto (map value_of e.0) s.exprs }
put Sort.arm x s = record s { arms = x ∷ s.arms }
put Sort.arms xs s = record s { counts = length xs ∷ s.counts; arms = onto xs s.arms }
put Sort.range r s = record s { token_spans = r.closing ∷ r.parenthesis ∷ r.dots ∷ r.keyword ∷ s.token_spans; expr_spans = r.start.span ∷ r.end.span ∷ r.first.span ∷ s.expr_spans; exprs = r.start.expr ∷ r.end.expr ∷ r.first.expr ∷ s.exprs; blocks = r.body ∷ s.blocks }

abbrev pub put_all : (symbols : List Symbol) → PartsOf symbols → SemanticStacks → SemanticStacks
put_all [] parts s = s
put_all (Terminal kind ∷ symbols) parts s = put_all symbols parts.1 (shifted (record parts.0 { kind = kind }) s)
put_all (Nonterminal n ∷ symbols) parts s = put_all symbols parts.1 (put (sort_of n) parts.0 s)

-- sizes behind a type
pub sized : (fs : List (TypeExpr → TypeExpr)) (ty : TypeExpr) (s : SemanticStacks) → put_sizes fs (record s { types = ty ∷ s.types }) ≡ record s { types = in_turn fs ty ∷ s.types }
sized [] ty s = refl
sized (f ∷ fs) ty s = sized fs (f ty) s

-- what stands behind an operand
pub posted : (fs : List (Operand → Operand)) (o : Operand) (s : SemanticStacks) → put_posts fs (put_operand o s) ≡ put_operand (in_turn fs o) s
posted [] o s = refl
posted (f ∷ fs) o s = posted fs (f o) s
