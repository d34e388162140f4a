use Rattle.std.proofs.Common.{◌≡◌, ◌+◌, ◌*◌, ℕ, map, max, take}
use Rattle.dslx_meaning.specs.Rules.ControlRules.{statements_typing}
use Rattle.dslx_check_rules.specs.Control.Calls.{IsGiven}
use Rattle.dslx_check_facts.specs.Walks.{shown}
use Rattle.dslx_check_leaves.specs.Fits.Typed.{arm_typed, pattern_typed}
use Rattle.dslx_check_leaves.specs.Typed.{element_at, given_at, placed, placed_field, placed_token, placed_type, stmt_typed}
use Rattle.dslx_check_leaves.specs.Walked.{ElementAll, JudgedAll, JudgedArms, JudgedGiven, JudgedStatements, TypesPattern, WalksTo}
use Rattle.dslx_check_leaves.proofs.Lemmas.OnArms.{AreOver}
use Rattle.dslx_check_leaves.proofs.Lemmas.OnPatterns.{parts_upto}
use denote.Param.Weighed.{most}
use Rattle.dslx_tree.specs.declared.block.Stmt.TheViews as view
use Rattle.dslx_check_parts.proofs.OnSizes.{size_if}
use Rattle.dslx_check_parts.proofs.+parts.Given as goal

abbrev pub invariant-arrays::all_elements-elements : goal.invariant-arrays::all_elements-elements
invariant-arrays::all_elements-elements l = ElementAll l.f l.initial.s l.s (shown l.initial.w) (shown l.w) l.all.items (λ env. map (element_at env) (take l.i l.elements))

abbrev pub invariant-arguments::all_placed-operands : goal.invariant-arguments::all_placed-operands
invariant-arguments::all_placed-operands l = JudgedAll l.f l.initial.s l.s (shown l.initial.w) (shown l.w) l.all.items (λ env. map (placed env) (take l.i l.operands))

abbrev pub invariant-arguments::all_given-given : goal.invariant-arguments::all_given-given
invariant-arguments::all_given-given l = JudgedGiven l.f l.initial.s l.s (shown l.initial.w) (shown l.w) l.all.items (λ env. map (given_at env) (take l.i l.args))

abbrev pub invariant-arguments::all_fields-fields : goal.invariant-arguments::all_fields-fields
invariant-arguments::all_fields-fields l = JudgedAll l.f l.initial.s l.s (shown l.initial.w) (shown l.w) l.all.items (λ env. map (placed_field env) (take l.i l.fields))

abbrev pub invariant-types::all_types-types : goal.invariant-types::all_types-types
invariant-types::all_types-types l = JudgedAll l.f l.initial.s l.s (shown l.initial.w) (shown l.w) l.all.items (λ env. map (placed_type env) (take l.i l.types))

abbrev pub invariant-tokens::all_tokens-operands : goal.invariant-tokens::all_tokens-operands
invariant-tokens::all_tokens-operands l = JudgedAll l.f l.initial.s l.s (shown l.initial.w) (shown l.w) l.all.items (λ env. map (placed_token env) (take l.i l.operands))

abbrev pub invariant-sequences::statements-statements : goal.invariant-sequences::statements-statements
invariant-sequences::statements-statements l = JudgedStatements l.f l.initial.s l.s (shown l.initial.w) (shown l.w) l.walked (λ env. statements_typing (map stmt_typed (take l.i l.all)) l.on_top env)

abbrev pub invariant-matches::all_arms-arms : goal.invariant-matches::all_arms-arms
invariant-matches::all_arms-arms l = JudgedArms l.f l.initial.s l.s (shown l.initial.w) (shown l.w) l.all.items l.ty (map arm_typed (take l.i l.arms))

abbrev pub invariant-matches::alternatives-patterns : goal.invariant-matches::alternatives-patterns
invariant-matches::alternatives-patterns l = AreOver l.f l.initial.s l.s (shown l.initial.w) (shown l.w) l.all l.ty l.initial.bound.items l.bound.items (map pattern_typed (take l.i l.patterns))

abbrev pub invariant-patterns::tuple_pattern-parts : goal.invariant-patterns::tuple_pattern-parts
invariant-patterns::tuple_pattern-parts l = WalksTo l.f l.initial.s l.s (shown l.initial.w) (shown l.w) (TypesPattern l.all (shown l.initial.w).rows l.ty l.initial.names l.names (parts_upto l.fn.span l.may_fail l.parts l.i))

-- ---- measures

abbrev pub decreases-exprs::expr : goal.decreases-exprs::expr
decreases-exprs::expr l = 64 * view.size-Expr l.e.now

abbrev pub decreases-exprs::alone : goal.decreases-exprs::alone
decreases-exprs::alone l = 64 * view.size-Expr l.e.now + 1

abbrev pub decreases-exprs::placed : goal.decreases-exprs::placed
decreases-exprs::placed l = 64 * view.size-Expr l.e.now + 2

abbrev pub decreases-numbers::number_node : goal.decreases-numbers::number_node
decreases-numbers::number_node l = 64 * view.size-Number l.number.now + 1

abbrev pub decreases-numbers::number_value : goal.decreases-numbers::number_value
decreases-numbers::number_value l = 64 * view.size-Number l.number.now

abbrev pub decreases-operators::prefix : goal.decreases-operators::prefix
decreases-operators::prefix l = 64 * view.size-Expr l.operand.now + 2

abbrev pub decreases-operators::binary : goal.decreases-operators::binary
decreases-operators::binary l = 64 * max (view.size-Expr l.left.now) (view.size-Expr l.right.now) + 2

abbrev pub decreases-operators::cast : goal.decreases-operators::cast
decreases-operators::cast l = 64 * max (view.size-Expr l.value.now) (view.size-TypeExpr l.ty.now) + 2

abbrev pub decreases-operators::slice : goal.decreases-operators::slice
decreases-operators::slice l = 64 * max (view.size-Expr l.whole.now) (max (view.size-Expr l.from.now) (view.size-Expr l.to.now)) + 4

abbrev pub decreases-operators::part : goal.decreases-operators::part
decreases-operators::part l = 64 * max (view.size-Expr l.whole.now) (max (view.size-Expr l.start.now) (view.size-TypeExpr l.ty.now)) + 2

abbrev pub decreases-aggregates::index : goal.decreases-aggregates::index
decreases-aggregates::index l = 64 * max (view.size-Expr l.whole.now) (view.size-Expr l.place.now) + 2

abbrev pub decreases-aggregates::field : goal.decreases-aggregates::field
decreases-aggregates::field l = 64 * view.size-Expr l.whole.now + 2

abbrev pub decreases-aggregates::element : goal.decreases-aggregates::element
decreases-aggregates::element l = 64 * view.size-Expr l.whole.now + 1

abbrev pub decreases-aggregates::tuple : goal.decreases-aggregates::tuple
decreases-aggregates::tuple l = 64 * most view.size-Expr l.parts.now + 4

abbrev pub decreases-aggregates::structure : goal.decreases-aggregates::structure
decreases-aggregates::structure l = 64 * max (most view.size-FieldValue l.fields.now) (size_if view.size-Expr l.others.now) + 5

abbrev pub decreases-arrays::array : goal.decreases-arrays::array
decreases-arrays::array l = 64 * max (size_if view.size-TypeExpr l.ty.now) (most view.size-Expr l.elements.now) + 5

abbrev pub decreases-arrays::untyped_array : goal.decreases-arrays::untyped_array
decreases-arrays::untyped_array l = 64 * most view.size-Expr l.elements.now + 4

abbrev pub decreases-arrays::typed_array : goal.decreases-arrays::typed_array
decreases-arrays::typed_array l = 64 * max (view.size-TypeExpr l.ty.now) (most view.size-Expr l.elements.now) + 4

abbrev pub decreases-arrays::all_elements : goal.decreases-arrays::all_elements
decreases-arrays::all_elements l = 64 * most view.size-Expr l.elements.now + 3

abbrev pub decreases-arrays::one_element : goal.decreases-arrays::one_element
decreases-arrays::one_element l = 64 * view.size-Expr l.e.now + 2

abbrev pub decreases-arguments::all_placed : goal.decreases-arguments::all_placed
decreases-arguments::all_placed l = 64 * most view.size-Expr l.operands.now + 3

abbrev pub decreases-arguments::all_given : goal.decreases-arguments::all_given
decreases-arguments::all_given l = 64 * most view.size-Arg l.args.now + 1

abbrev pub decreases-arguments::one_given : goal.decreases-arguments::one_given
decreases-arguments::one_given l = 64 * view.size-Arg l.arg.now

abbrev pub decreases-arguments::all_fields : goal.decreases-arguments::all_fields
decreases-arguments::all_fields l = 64 * most view.size-FieldValue l.fields.now + 1

abbrev pub decreases-arguments::one_field : goal.decreases-arguments::one_field
decreases-arguments::one_field l = 64 * view.size-FieldValue l.field.now

abbrev pub decreases-arguments::placed_if : goal.decreases-arguments::placed_if
decreases-arguments::placed_if l = 64 * size_if view.size-Expr l.e.now + 2

abbrev pub decreases-constants::constant : goal.decreases-constants::constant
decreases-constants::constant l = 64 * view.size-Expr l.e.now + 2

abbrev pub decreases-constants::constant_or_untyped : goal.decreases-constants::constant_or_untyped
decreases-constants::constant_or_untyped l = 64 * view.size-Expr l.e.now + 3

abbrev pub decreases-constants::count : goal.decreases-constants::count
decreases-constants::count l = 64 * view.size-Expr l.e.now + 4

abbrev pub decreases-types::type_expr : goal.decreases-types::type_expr
decreases-types::type_expr l = 64 * view.size-TypeExpr l.ty.now

abbrev pub decreases-types::type_if : goal.decreases-types::type_if
decreases-types::type_if l = 64 * size_if view.size-TypeExpr l.ty.now + 1

abbrev pub decreases-types::inner_type : goal.decreases-types::inner_type
decreases-types::inner_type l = 64 * view.size-TypeExpr l.ty.now + 1

abbrev pub decreases-types::placed_type : goal.decreases-types::placed_type
decreases-types::placed_type l = 64 * view.size-TypeExpr l.ty.now + 1

abbrev pub decreases-types::all_types : goal.decreases-types::all_types
decreases-types::all_types l = 64 * most view.size-TypeExpr l.types.now + 2

abbrev pub decreases-types::tuple_of_types : goal.decreases-types::tuple_of_types
decreases-types::tuple_of_types l = 64 * most view.size-TypeExpr l.parts.now + 3

abbrev pub decreases-types::array_of_type : goal.decreases-types::array_of_type
decreases-types::array_of_type l = 64 * max (view.size-TypeExpr l.part.now) (view.size-Expr l.size.now) + 5

abbrev pub decreases-types::wide_bits : goal.decreases-types::wide_bits
decreases-types::wide_bits l = 64 * view.size-Expr l.width.now + 5

abbrev pub decreases-control::if_node : goal.decreases-control::if_node
decreases-control::if_node l = 64 * max (view.size-Expr l.test.now) (max (view.size-Block l.yes.now) (view.size-Expr l.no.now)) + 2

abbrev pub decreases-control::block : goal.decreases-control::block
decreases-control::block l = 64 * view.size-Block l.b.now

abbrev pub decreases-control::last_value : goal.decreases-control::last_value
decreases-control::last_value l = 64 * size_if view.size-Expr l.e.now + 2

abbrev pub decreases-sequences::statements : goal.decreases-sequences::statements
decreases-sequences::statements l = 64 * most view.size-Stmt l.all.now + 1

abbrev pub decreases-sequences::statement : goal.decreases-sequences::statement
decreases-sequences::statement l = 64 * view.size-Stmt l.statement.now

abbrev pub decreases-sequences::let_node : goal.decreases-sequences::let_node
decreases-sequences::let_node l = 64 * view.size-Let l.binding.now

abbrev pub decreases-sequences::bare_node : goal.decreases-sequences::bare_node
decreases-sequences::bare_node l = 64 * view.size-Expr l.e.now + 1

abbrev pub decreases-scopes::bind_pattern : goal.decreases-scopes::bind_pattern
decreases-scopes::bind_pattern l = 64 * view.size-Pattern l.p.now + 1

abbrev pub decreases-patterns::pattern : goal.decreases-patterns::pattern
decreases-patterns::pattern l = 64 * view.size-Pattern l.p.now

abbrev pub decreases-patterns::number_pattern : goal.decreases-patterns::number_pattern
decreases-patterns::number_pattern l = 64 * view.size-Number l.number.now + 1

abbrev pub decreases-patterns::tuple_pattern : goal.decreases-patterns::tuple_pattern
decreases-patterns::tuple_pattern l = 64 * most view.size-Pattern l.parts.now + 1

abbrev pub decreases-matches::match_node : goal.decreases-matches::match_node
decreases-matches::match_node l = 64 * max (view.size-Expr l.value.now) (most view.size-Arm l.arms.now) + 3

abbrev pub decreases-matches::all_arms : goal.decreases-matches::all_arms
decreases-matches::all_arms l = 64 * most view.size-Arm l.arms.now + 2

abbrev pub decreases-matches::one_arm : goal.decreases-matches::one_arm
decreases-matches::one_arm l = 64 * view.size-Arm l.arm.now + 1

abbrev pub decreases-matches::bind_alternatives : goal.decreases-matches::bind_alternatives
decreases-matches::bind_alternatives l = 64 * most view.size-Pattern l.patterns.now + 2

abbrev pub decreases-matches::alternatives : goal.decreases-matches::alternatives
decreases-matches::alternatives l = 64 * most view.size-Pattern l.patterns.now + 1

abbrev pub decreases-loops::loop_node : goal.decreases-loops::loop_node
decreases-loops::loop_node l = 64 * view.size-For l.turns.now + 1

abbrev pub decreases-loops::loop_heads : goal.decreases-loops::loop_heads
decreases-loops::loop_heads l = 64 * view.size-For l.turns.now

abbrev pub decreases-calls::call : goal.decreases-calls::call
decreases-calls::call l = 64 * max (most view.size-Arg l.args.now) (most view.size-Expr l.operands.now) + 12

abbrev pub decreases-calls::function_call : goal.decreases-calls::function_call
decreases-calls::function_call l = 64 * max (most view.size-Arg l.args.now) (most view.size-Expr l.operands.now) + 10

abbrev pub decreases-builtins::builtin : goal.decreases-builtins::builtin
decreases-builtins::builtin l = 64 * max (most view.size-Arg l.args.now) (most view.size-Expr l.operands.now) + 11

abbrev pub decreases-builtins::builtin_of : goal.decreases-builtins::builtin_of
decreases-builtins::builtin_of l = 64 * most view.size-Expr l.operands.now + 6

abbrev pub decreases-builtins::refused : goal.decreases-builtins::refused
decreases-builtins::refused l = 64 * max (most view.size-Arg l.args.now) (most view.size-Expr l.operands.now) + 8

abbrev pub decreases-builtins::joining : goal.decreases-builtins::joining
decreases-builtins::joining l = 64 * most view.size-Expr l.operands.now + 5

abbrev pub decreases-builtins::counting : goal.decreases-builtins::counting
decreases-builtins::counting l = 64 * most view.size-Expr l.operands.now + 5

abbrev pub decreases-builtins::updating : goal.decreases-builtins::updating
decreases-builtins::updating l = 64 * most view.size-Expr l.operands.now + 5

abbrev pub decreases-effects::effect_if_on_top : goal.decreases-effects::effect_if_on_top
decreases-effects::effect_if_on_top l = 64 * max (most view.size-Arg l.args.now) (most view.size-Expr l.operands.now) + 11

abbrev pub decreases-effects::effect : goal.decreases-effects::effect
decreases-effects::effect l = 64 * max (most view.size-Arg l.args.now) (most view.size-Expr l.operands.now) + 10

abbrev pub decreases-effects::right_effect : goal.decreases-effects::right_effect
decreases-effects::right_effect l = 64 * max (most view.size-Arg l.args.now) (most view.size-Expr l.operands.now) + 9

abbrev pub decreases-effects::wrong_effect : goal.decreases-effects::wrong_effect
decreases-effects::wrong_effect l = 64 * max (most view.size-Arg l.args.now) (most view.size-Expr l.operands.now) + 8

abbrev pub decreases-effects::effect_of : goal.decreases-effects::effect_of
decreases-effects::effect_of l = 64 * max (view.size-Expr l.first.now) (max (view.size-Expr l.end.now) (most view.size-Expr l.others.now)) + 5

abbrev pub decreases-effects::wrong_operands : goal.decreases-effects::wrong_operands
decreases-effects::wrong_operands l = 64 * most view.size-Expr l.operands.now + 7

abbrev pub decreases-effects::wrong_places : goal.decreases-effects::wrong_places
decreases-effects::wrong_places l = 64 * max (view.size-Expr l.first.now) (max (view.size-Expr l.end.now) (most view.size-Expr l.others.now)) + 6

abbrev pub decreases-tokens::token : goal.decreases-tokens::token
decreases-tokens::token l = 64 * view.size-Expr l.e.now + 1

abbrev pub decreases-tokens::held : goal.decreases-tokens::held
decreases-tokens::held l = 64 * view.size-Expr l.e.now + 1

abbrev pub decreases-tokens::placed_token : goal.decreases-tokens::placed_token
decreases-tokens::placed_token l = 64 * view.size-Expr l.e.now + 2

abbrev pub decreases-tokens::all_tokens : goal.decreases-tokens::all_tokens
decreases-tokens::all_tokens l = 64 * most view.size-Expr l.operands.now + 4

abbrev pub decreases-tokens::channel : goal.decreases-tokens::channel
decreases-tokens::channel l = 64 * view.size-Expr l.e.now + 2
