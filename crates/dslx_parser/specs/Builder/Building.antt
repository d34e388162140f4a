-- How a tree is built: each token adds a part, and each complete tree of a rule makes one of the parts of its symbols.
use Rattle.std.specs.Prelude.{ℕ, List, [], ◌∷◌, Option, None, Some, reverse, slice_get}
use Rattle.base.specs.declared.grammar.bottom_up.Step.{Step}
use Rattle.base.specs.declared.grammar.bottom_up.Step.TheVariants.{Shift, Reduce}
use Rattle.dslx_tree.specs.declared.item.Module.{Module}
use Rattle.dslx_token.specs.Lexeme.{Lexeme}
use Rattle.dslx_actions.specs.declared.parts.SemanticStacks.{SemanticStacks}
use Rattle.dslx_actions.specs.Tokens.{shifted}
use Rattle.dslx_actions.specs.Types.Rules.{reduced_pattern, reduced_type}
use Rattle.dslx_node_actions.specs.Exprs.Atoms.Rules.{reduced_arg, reduced_atom}
use Rattle.dslx_node_actions.specs.Exprs.Operators.Rules.{reduced_operator}
use Rattle.dslx_node_actions.specs.Exprs.Braces.Rules.{reduced_brace}
use Rattle.dslx_node_actions.specs.Items.Rules.{reduced_item, reduced_proc}
use Rattle.dslx_parser.specs.declared.builder.rule.Rule.{Rule}
use Rattle.dslx_parser.specs.declared.builder.rule.Rule.TheVariants.{Keep, Common, TypeExpr, Pattern, Atom, Arg, Operator, Brace, Item, Proc}
use Rattle.dslx_parser.specs.Builder.Common.{reduced_common}
use Rattle.dslx_parser.specs.Builder.Table.{table}

abbrev pub entry_of : Option (ℕ × Rule) → Rule
entry_of None = Keep
entry_of (Some entry) = entry.1

abbrev pub entry_at : List (ℕ × Rule) → ℕ → Rule
entry_at rules at = entry_of (slice_get rules at)

-- what the rule with this number does
abbrev pub rule_of : ℕ → Rule
rule_of production = entry_at table production

-- what a complete tree of a rule does
abbrev pub reduced : Rule → SemanticStacks → SemanticStacks
reduced Keep s = s
reduced (Common rule) s = reduced_common rule s
reduced (TypeExpr rule) s = reduced_type rule s
reduced (Pattern rule) s = reduced_pattern rule s
reduced (Atom rule) s = reduced_atom rule s
reduced (Arg rule) s = reduced_arg rule s
reduced (Operator rule) s = reduced_operator rule s
reduced (Brace rule) s = reduced_brace rule s
reduced (Item rule) s = reduced_item rule s
reduced (Proc rule) s = reduced_proc rule s

-- what is built by the steps from the tokens
unfoldable pub built : List Step → List Lexeme → SemanticStacks → SemanticStacks
built [] ls s = s
built (Shift ∷ steps) [] s = built steps [] s
built (Shift ∷ steps) (l ∷ ls) s = built steps ls (shifted l s)
built (Reduce p ∷ steps) ls s = built steps ls (reduced (rule_of p) s)

-- the tree of a text whose items have been built
abbrev pub module_of : SemanticStacks → Module
module_of s = record { items = reverse s.items }
