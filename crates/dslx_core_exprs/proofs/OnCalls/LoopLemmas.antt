-- What loops become.
use Rattle.std.proofs.Common.{◌≡◌, ℕ, ◌^◌, ◌&&◌, nat_lt, Bool, true, false, Option, Some, None, refl, sym, ap, ◌∙◌}
use Rattle.dslx_meaning.specs.Lists.{and_then, where_true}
use Rattle.dslx_meaning.specs.Meaning.{turn_count}
use Rattle.dslx_meaning.specs.declared.value.SignedWord.{SignedWord}
use Rattle.dslx_core.specs.declared.expr.CoreExpr as core
use Rattle.dslx_core.specs.declared.expr.Shape.{Shape}
use Rattle.dslx_core.specs.Lowering.EqualTypes.{equal_type}
use Rattle.dslx_core.specs.Lowering.Lowering.{LoweredExpr, lowered}
use Rattle.dslx_core.specs.Machines.Machine.Steps.{loop_made}
use Rattle.dslx_core_exprs.specs.Calls.Inner.Turns.{few_turns, turns_of}

pub turns_alike : (same : Bool) (start : LoweredExpr) (a b : SignedWord) (body : LoweredExpr) (o : Option ℕ) → same ≡ equal_type start.ty body.ty → same ≡ true → o ≡ few_turns a b → o ≡ turns_of start a b body
turns_alike same start a b body o h t e = e ∙ ap (λ q. where_true q (few_turns a b)) (sym t ∙ h)

pub turns_unlike : (same : Bool) (start : LoweredExpr) (a b : SignedWord) (body : LoweredExpr) → same ≡ equal_type start.ty body.ty → same ≡ false → None ≡ turns_of start a b body
turns_unlike same start a b body h t = ap (λ q. where_true q (few_turns a b)) (sym t ∙ h)

abbrev repeated : LoweredExpr → SignedWord → Shape → Shape → LoweredExpr → ℕ → Option LoweredExpr
repeated start a i acc body n = lowered (core.Loop n a.word i acc body.core start.core) start.ty

loop_is : (start : LoweredExpr) (a b : SignedWord) (i acc : Shape) (body : LoweredExpr) → loop_made start a b i acc body ≡ and_then (turns_of start a b body) (repeated start a i acc body)
loop_is start a b i acc body = by (equal_type start.ty body.ty) (nat_lt (turn_count a b) (2 ^ 64)) (turn_count a b)
  where
    by : (p q : Bool) (n : ℕ) → where_true (p && q) (repeated start a i acc body n) ≡ and_then (where_true p (where_true q (Some n))) (repeated start a i acc body)
    by true true n = refl
    by true false n = refl
    by false q n = refl

pub loop_none : (start : LoweredExpr) (a b : SignedWord) (i acc : Shape) (body : LoweredExpr) → None ≡ turns_of start a b body → None ≡ loop_made start a b i acc body
loop_none start a b i acc body h = ap (λ o. and_then o (repeated start a i acc body)) h ∙ sym (loop_is start a b i acc body)

pub loop_some : (start : LoweredExpr) (a b : SignedWord) (i acc : Shape) (body : LoweredExpr) (n : ℕ) → Some n ≡ turns_of start a b body
    → Some (record { core = core.Loop n a.word i acc body.core start.core; ty = start.ty }) ≡ loop_made start a b i acc body
loop_some start a b i acc body n h = ap (λ o. and_then o (repeated start a i acc body)) h ∙ sym (loop_is start a b i acc body)
