-- Values depend on what is mentioned, and so on free names alone.
use Rattle.std.proofs.Common.{ℕ, List, [], ◌∷◌, refl, ap}
use Rattle.dslx_tree.specs.declared.expr.Expr.{Expr}
use Rattle.dslx_tree.specs.declared.block.Block.{Block}
use Rattle.dslx_tree.specs.declared.type_expr.TypeExpr.{TypeExpr}
use Rattle.dslx_tree.specs.declared.pattern.Pattern.{Pattern}
use Rattle.dslx_tree.proofs.Lemmas.Folds.Folds.{fold_pattern}
use Rattle.dslx_tree.proofs.Lemmas.Folds.Related.{related_expr, related_block, related_type_expr, related_pattern}
use Rattle.dslx_meaning.specs.Lists.{or_else}
use Rattle.dslx_meaning.specs.Environment.{Meanings, Given}
use Rattle.dslx_meaning.specs.Meaning.{denotation, pattern_denotation, value_of_block, written_type}
use Rattle.dslx_meaning.specs.Rules.Mentions.{Use, AsValue, AsPattern, AsType, AsFunction, AsProc, AsEnum, AsStruct, Mention, mentioned, mentioned_in_block, mentioned_in_type, value_names}
use Rattle.dslx_core.specs.Typing.Laws.Agreement.{MeansOne, AgreeOn, AreBoundAlike, BindConstantsAlike}
use Rattle.dslx_core.proofs.OnTyping.OnLaws.Dependence.{meanings, mentions, meaning_steps, mention_steps, dependence, ValueDepends, BlockDepends, PatternDepends, TypeDepends, all_depend}

pub value_depends : (e : Expr) → ValueDepends (denotation e) (mentioned e)
value_depends = related_expr meanings mentions dependence meaning_steps mention_steps all_depend

pub block_value_depends : (b : Block) → BlockDepends (value_of_block b) (mentioned_in_block b)
block_value_depends = related_block meanings mentions dependence meaning_steps mention_steps all_depend

pub written_type_depends : (t : TypeExpr) → TypeDepends (written_type t) (mentioned_in_type t)
written_type_depends = related_type_expr meanings mentions dependence meaning_steps mention_steps all_depend

-- what a pattern binds
pub pattern_depends : (p : Pattern) → PatternDepends (pattern_denotation p) (fold_pattern mentions mention_steps p)
pattern_depends = related_pattern meanings mentions dependence meaning_steps mention_steps all_depend

-- names that are bound alike mean the same where the items are the same
pub bound_alike : (items : Meanings) (bound others : List Given) → BindConstantsAlike items bound others → (ms : List Mention)
    → AreBoundAlike (value_names ms) bound others → AgreeOn ms (record { items = items; bound = bound }) (record { items = items; bound = others })
bound_alike items bound others p [] h = tt
bound_alike items bound others p (m ∷ ms) h = let r = by_use m.use_as m.name h in (r.0, bound_alike items bound others p ms r.1)
  where
    by_use : (u : Use) (name : List ℕ) → AreBoundAlike (value_names (record { use_as = u; name = name } ∷ ms)) bound others
        → MeansOne (record { items = items; bound = bound }) (record { items = items; bound = others }) u name × AreBoundAlike (value_names ms) bound others
    by_use AsValue name h = (ap (λ o. or_else o (items.constant name)) h.0, h.1)
    by_use AsPattern name h = (record { kind = refl; constant = λ c. refl; value = λ c. ap (λ o. or_else o (items.constant name)) (p name c) }, h)
    by_use AsType name h = (refl, h)
    by_use AsFunction name h = (λ parametric_args operands. refl, h)
    by_use AsProc name h = (tt, h)
    by_use AsEnum name h = (λ member. refl, h)
    by_use AsStruct name h = (refl, h)
