-- What the rules of types and patterns do where their symbols are complete.
use Rattle.dslx_actions.specs.declared.parts.SemanticStacks.{SemanticStacks}
use Rattle.dslx_actions.specs.Common.{annotation, no_annotation}
use Rattle.dslx_actions.specs.declared.types.rule.PatternAction.{PatternAction}
use Rattle.dslx_actions.specs.declared.types.rule.PatternAction.TheVariants as pattern
use Rattle.dslx_actions.specs.declared.types.rule.TypeAction.{TypeAction}
use Rattle.dslx_actions.specs.declared.types.rule.TypeAction.TheVariants as type_rule
use Rattle.dslx_actions.specs.Types.Patterns as patterns
use Rattle.dslx_actions.specs.Types.Types as types

abbrev pub reduced_type : TypeAction → SemanticStacks → SemanticStacks
reduced_type type_rule.Negative s = types.negative s
reduced_type type_rule.Named s = types.named_type s
reduced_type type_rule.Wide s = types.wide_type s
reduced_type type_rule.Tuple s = types.tuple_type s
reduced_type type_rule.Array s = types.array_type s
reduced_type type_rule.NamedArray s = types.array_type (types.named_type s)

abbrev pub reduced_pattern : PatternAction → SemanticStacks → SemanticStacks
reduced_pattern pattern.Wild s = patterns.wild_pattern s
reduced_pattern (pattern.Bool value) s = patterns.bool_pattern value s
reduced_pattern pattern.Typed s = patterns.typed_pattern s
reduced_pattern pattern.NamedTyped s = patterns.typed_pattern (types.named_type s)
reduced_pattern pattern.Name s = patterns.name_pattern s
reduced_pattern pattern.Member s = patterns.member_pattern s
reduced_pattern pattern.Tuple s = patterns.tuple_pattern s
reduced_pattern pattern.NameAlone s = no_annotation (patterns.name_pattern s)
reduced_pattern pattern.NameAnnotated s = annotation (patterns.name_pattern s)
