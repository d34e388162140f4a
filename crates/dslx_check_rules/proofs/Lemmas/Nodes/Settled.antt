-- What a node that is settled has, and what a number that no limit applies to has.
use Rattle.std.proofs.Common.{◌<◌, zero, suc, arith, ◌≡◌, ◌∙◌, ◌++◌, ◌∷◌, [], List, ℕ, true, false, Option, Some, None, refl, sym, ap, subst}
use Rattle.std.specs.Prelude.{if◌then◌else◌}
use Rattle.xb_span.specs.declared.span.Span.{Span}
use Rattle.dslx_meaning.specs.Rules.RuleNumbers as rule
use Rattle.dslx_meaning.specs.declared.value.UntypedLiteral.{UntypedLiteral}
use Rattle.dslx_meaning.specs.Rules.ConstantRules.{ConstantSeen, count_number}
use Rattle.dslx_meaning.specs.Rules.OperatorRules.{bound_number}
use Rattle.dslx_check_rules.specs.Nodes.Nodes.Counts.{number_of}
use Rattle.dslx_check_rules.specs.Nodes.Nodes.Operators.{bound_of}
use Rattle.dslx_check_rules.specs.Nodes.Nodes.Aggregates.{holds_token_if, is_tuple_if, pair_or_no_token, taken_apart}
use Rattle.dslx_check_rules.specs.declared.table.row.TypeRow.{TypeRow}
use Rattle.dslx_check_rules.specs.Interned.{HasRowIf, ItemNames, type_if}
use Rattle.std.specs.Option.{option_map}
use Rattle.dslx_meaning.specs.Lists.{and_then}
use Rattle.dslx_meaning.specs.declared.ty.DslxType.{DslxType}
use Rattle.dslx_meaning.specs.Rules.TypeEnvs.{Judgement, breaks, no_token, size_if_typed}
use Rattle.dslx_check_rules.specs.Seen.{capped}
use Rattle.dslx_check_rules.specs.declared.table.row.TypeId.{TypeId}

-- it has a size where it has a type
pub sized : (f : TypeId → DslxType) (r : Option TypeId) (own : Option DslxType) (size n : Option ℕ) → option_map f r ≡ own → size ≡ capped n
    → and_then r (λ t. size) ≡ capped (size_if_typed own n)
sized f None own size n e s = ap (λ o. capped (size_if_typed o n)) e
sized f (Some t) own size n e s = s ∙ ap (λ o. capped (size_if_typed o n)) e

-- ---- a type where another one is there

pub row_behind : (rows : List TypeRow) (a b r : Option TypeId) → r ≡ and_then a (λ t. b) → HasRowIf rows b → HasRowIf rows r
row_behind rows None b r e h = subst (HasRowIf rows) (sym e) tt
row_behind rows (Some t) b r e h = subst (HasRowIf rows) (sym e) h

pub type_behind : (names : ItemNames) (later : List TypeRow) (a b r : Option TypeId) (x y : Option DslxType) → r ≡ and_then a (λ t. b)
    → type_if names later a ≡ x → type_if names later b ≡ y → type_if names later r ≡ and_then x (λ t. y)
type_behind names later None b r x y e h k = ap (type_if names later) e ∙ ap (λ u. and_then u (λ t. y)) h
type_behind names later (Some t) b r x y e h k = ap (type_if names later) e ∙ k ∙ ap (λ u. and_then u (λ t. y)) h

-- ---- tokens

-- a value that stands alone, by whether it holds a token
pub token_by : (span : Span) (x : Judgement) → no_token span x
    ≡ (if holds_token_if x.ty then record { ty = None; faults = x.faults ++ breaks rule.EFFECT_STANDS_ALONE span ∷ []; reached = x.reached; size = x.size } else x)
token_by span x = by x.ty
  where
    by : (t : Option DslxType) → no_token span (record { ty = t; faults = x.faults; reached = x.reached; size = x.size })
        ≡ (if holds_token_if t then record { ty = None; faults = x.faults ++ breaks rule.EFFECT_STANDS_ALONE span ∷ []; reached = x.reached; size = x.size }
        else record { ty = t; faults = x.faults; reached = x.reached; size = x.size })
    by None = refl
    by (Some t) = refl

pub token_refused : (span : Span) (x : Judgement) → holds_token_if x.ty ≡ true
    → no_token span x ≡ record { ty = None; faults = x.faults ++ breaks rule.EFFECT_STANDS_ALONE span ∷ []; reached = x.reached; size = x.size }
token_refused span x e = token_by span x
    ∙ ap (λ b. if b then record { ty = None; faults = x.faults ++ breaks rule.EFFECT_STANDS_ALONE span ∷ []; reached = x.reached; size = x.size } else x) e

pub token_passed : (span : Span) (x : Judgement) → holds_token_if x.ty ≡ false → no_token span x ≡ x
token_passed span x e = token_by span x
    ∙ ap (λ b. if b then record { ty = None; faults = x.faults ++ breaks rule.EFFECT_STANDS_ALONE span ∷ []; reached = x.reached; size = x.size } else x) e

-- ---- what is taken apart by a number

pair_apart : (at : Span) (x : Judgement) → is_tuple_if x.ty ≡ false → pair_or_no_token at x x.ty ≡ no_token at x
pair_apart at x = by x.ty
  where
    by : (t : Option DslxType) → is_tuple_if t ≡ false → pair_or_no_token at (record { ty = t; faults = x.faults; reached = x.reached; size = x.size }) t
        ≡ no_token at (record { ty = t; faults = x.faults; reached = x.reached; size = x.size })
    by None e = refl
    by (Some t) e = ap (λ b. if b then record { ty = Some t; faults = x.faults; reached = x.reached; size = x.size }
        else no_token at (record { ty = Some t; faults = x.faults; reached = x.reached; size = x.size })) e

pub apart_by : (k : ℕ) (at : Span) (x : Judgement) → (k < 2 → is_tuple_if x.ty ≡ false) → taken_apart k at x ≡ no_token at x
apart_by zero at x h = pair_apart at x (h (omega arith))
apart_by (suc zero) at x h = pair_apart at x (h (omega arith))
apart_by (suc (suc k)) at x h = refl

-- ---- numbers of constants

pub count_number_is : (x : ConstantSeen) → number_of x.bare x.value ≡ count_number x
count_number_is x = by x.bare
  where
    by : (u : Option UntypedLiteral) → number_of u x.value ≡ count_number (record { judgement = x.judgement; bare = u; value = x.value })
    by None = refl
    by (Some n) = refl

pub bound_number_is : (x : ConstantSeen) → bound_of x.bare x.value ≡ bound_number x
bound_number_is x = by x.bare
  where
    by : (u : Option UntypedLiteral) → bound_of u x.value ≡ bound_number (record { judgement = x.judgement; bare = u; value = x.value })
    by None = refl
    by (Some n) = refl
