-- What is made of an array at an index, and of a part of a tuple.
use Rattle.std.proofs.Common.{◌≡◌, ℕ, Option, Some, None, refl, sym, ap, ◌∙◌}
use Rattle.std.specs.Option.{option_map}
use Rattle.dslx_meaning.specs.Lists.{and_then}
use Rattle.dslx_meaning.specs.declared.ty.DslxType.{DslxType}
use Rattle.dslx_meaning.specs.Rules.AggregateRules.{array_in, part_type}
use Rattle.dslx_core.specs.declared.expr.CoreExpr as core
use Rattle.dslx_core.specs.Lowering.Lowering.{LoweredExpr, lower_element, lower_index, lowered}

-- the type of an array's elements
abbrev element_in : DslxType → Option DslxType
element_in t = option_map (λ parts. parts.0) (array_in t)

abbrev indexed : LoweredExpr → LoweredExpr → DslxType → Option LoweredExpr
indexed e i t = lowered (core.Index e.core i.core) t

index_is : (e i : LoweredExpr) → lower_index (Some e) (Some i) ≡ and_then (element_in e.ty) (indexed e i)
index_is e i = by (array_in e.ty)
  where
    by : (o : Option (DslxType × ℕ)) → and_then o (λ parts. indexed e i parts.0) ≡ and_then (option_map (λ parts. parts.0) o) (indexed e i)
    by None = refl
    by (Some parts) = refl

pub index_none : (e i : LoweredExpr) → None ≡ element_in e.ty → None ≡ lower_index (Some e) (Some i)
index_none e i h = ap (λ o. and_then o (indexed e i)) h ∙ sym (index_is e i)

pub index_some : (e i : LoweredExpr) (t : DslxType) → Some t ≡ element_in e.ty → Some (record { core = core.Index e.core i.core; ty = t }) ≡ lower_index (Some e) (Some i)
index_some e i t h = ap (λ o. and_then o (indexed e i)) h ∙ sym (index_is e i)

abbrev part : LoweredExpr → ℕ → DslxType → Option LoweredExpr
part e k t = lowered (core.Element e.core k) t

pub element_none : (e : LoweredExpr) (k : ℕ) → None ≡ part_type e.ty k → None ≡ lower_element (Some e) k
element_none e k h = ap (λ o. and_then o (part e k)) h

pub element_some : (e : LoweredExpr) (k : ℕ) (t : DslxType) → Some t ≡ part_type e.ty k → Some (record { core = core.Element e.core k; ty = t }) ≡ lower_element (Some e) k
element_some e k t h = ap (λ o. and_then o (part e k)) h
