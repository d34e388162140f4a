-- A number without a type mentions nothing.
use Rattle.std.proofs.Common.{◌≡◌, ℕ, List, [], Option, Some, None, refl}
use Rattle.dslx_tree.specs.declared.block.Stmt.TheOpen.{Node-F}
use Rattle.dslx_tree.specs.declared.expr.Expr.{Expr}
use Rattle.dslx_tree.proofs.Lemmas.Folds.Levels.{Carriers, NodeLevel, NumberLevel, map_node, map_number}
use Rattle.dslx_tree.proofs.Lemmas.Folds.Folds.{Steps}
use Rattle.dslx_tree.proofs.Lemmas.Folds.Related.{KeepRelated, Relations, both, firsts, related_expr, seconds}
use Rattle.dslx_meaning.specs.Meaning as m
use Rattle.dslx_meaning.specs.Meaning.{ArmDen, ValueDen, FieldDen, StmtDen, ExprDen, PatternDen, TypeDen, denotation}
use Rattle.dslx_meaning.specs.declared.value.UntypedLiteral.{UntypedLiteral}
use Rattle.dslx_meaning.specs.Rules.Mentions.{Mentions, mentioned}
use Rattle.dslx_core.proofs.OnTyping.OnDepends.Links.{mentions, mention_steps}
use Rattle.dslx_core.proofs.OnTyping.OnTyped.TypingRelations.{none_some}

-- ---- what trees mean

abbrev meanings : Carriers
meanings = record {
  stmt = StmtDen;
  node = ExprDen;
  shape = PatternDen;
  type_node = TypeDen;
  block = ValueDen;
  bind = StmtDen;
  arg = ExprDen;
  arm = ArmDen;
  expr = ExprDen;
  field = FieldDen;
  loop = ValueDen;
  number = ExprDen;
  pattern = PatternDen;
  type_expr = TypeDen;
}

abbrev meaning : Steps meanings
meaning = record {
  stmt = m.stmt_den;
  node = m.node_den;
  shape = m.shape_den;
  type_node = m.type_den;
  block = m.block_den;
  bind = m.let_den;
  arg = m.arg_den;
  arm = m.arm_den;
  expr = m.expr_den;
  field = m.field_den;
  loop = m.for_den;
  number = m.number_node;
  pattern = m.pattern_den;
  type_expr = m.type_expr_den;
}

-- ---- numbers

abbrev NamesNothing : ExprDen → Mentions → Type 0
NamesNothing x ms = (number : UntypedLiteral) → x.bare ≡ Some number → (bound : List (List ℕ)) → ms bound ≡ []

abbrev nothing_named : Relations meanings mentions
nothing_named = record {
  stmt = λ x ms. Unit {0};
  node = NamesNothing;
  shape = λ x ms. Unit {0};
  type_node = λ x ms. Unit {0};
  block = λ x ms. Unit {0};
  bind = λ x ms. Unit {0};
  arg = λ x ms. Unit {0};
  arm = λ x ms. Unit {0};
  expr = NamesNothing;
  field = λ x ms. Unit {0};
  loop = λ x ms. Unit {0};
  number = NamesNothing;
  pattern = λ x ms. Unit {0};
  type_expr = λ x ms. Unit {0};
}

abbrev Parts : Carriers
Parts = both meanings mentions nothing_named

node_names : (x : NodeLevel Parts) → NamesNothing (meaning.node (map_node Parts meanings (firsts meanings mentions nothing_named) x)) (mention_steps.node (map_node Parts mentions (seconds meanings mentions nothing_named) x))
node_names (Node-F.Node::Number n) number e bound = n.2 number e bound
node_names (Node-F.Node::Bool bit) number e bound = none_some number e
node_names (Node-F.Node::Array t es dots) number e bound = none_some number e
node_names (Node-F.Node::Name name) number e bound = none_some number e
node_names (Node-F.Node::Member enum a) number e bound = none_some number e
node_names (Node-F.Call f parametric_args es) number e bound = none_some number e
node_names (Node-F.Node::Tuple es) number e bound = none_some number e
node_names (Node-F.Struct name fields rest) number e bound = none_some number e
node_names (Node-F.Block block) number e bound = none_some number e
node_names (Node-F.If test taken other) number e bound = none_some number e
node_names (Node-F.Match x arms) number e bound = none_some number e
node_names (Node-F.For loop) number e bound = none_some number e
node_names (Node-F.Index x place) number e bound = none_some number e
node_names (Node-F.Slice x low high) number e bound = none_some number e
node_names (Node-F.Part x start t) number e bound = none_some number e
node_names (Node-F.Field x name) number e bound = none_some number e
node_names (Node-F.Element x at k) number e bound = none_some number e
node_names (Node-F.Prefix o x) number e bound = none_some number e
node_names (Node-F.Cast x t) number e bound = none_some number e
node_names (Node-F.Binary o l r) number e bound = none_some number e

number_names : (x : NumberLevel Parts) → NamesNothing (meaning.number (map_number Parts meanings (firsts meanings mentions nothing_named) x)) (mention_steps.number (map_number Parts mentions (seconds meanings mentions nothing_named) x))
number_names x = by_type x.ty
  where
    by_type : (o : Option Parts.type_expr)
        → NamesNothing (meaning.number (map_number Parts meanings (firsts meanings mentions nothing_named) (record { ty = o; is_negative = x.is_negative; value = x.value })))
        (mention_steps.number (map_number Parts mentions (seconds meanings mentions nothing_named) (record { ty = o; is_negative = x.is_negative; value = x.value })))
    by_type None number e bound = refl
    by_type (Some t) number e bound = none_some number e

all_name_nothing : KeepRelated meanings mentions nothing_named meaning mention_steps
all_name_nothing = record {
  stmt = λ x. tt;
  node = node_names;
  shape = λ x. tt;
  type_node = λ x. tt;
  block = λ x. tt;
  bind = λ x. tt;
  arg = λ x. tt;
  arm = λ x. tt;
  expr = λ x. x.node.2;
  field = λ x. tt;
  loop = λ x. tt;
  number = number_names;
  pattern = λ x. tt;
  type_expr = λ x. tt;
}

pub bare_mentions_nothing : (e : Expr) (number : UntypedLiteral) → (denotation e).bare ≡ Some number → (bound : List (List ℕ)) → mentioned e bound ≡ []
bare_mentions_nothing = related_expr meanings mentions nothing_named meaning mention_steps all_name_nothing
