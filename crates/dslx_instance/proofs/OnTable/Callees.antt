-- What a call comes to, by the number and the function of its instance.
use Rattle.std.proofs.Common.{◌≡◌, ◌∙◌, ℕ, Bool, true, false, List, map, Option, Some, None, sym, ap, true≢false, is_some, unwrap_or}
use Rattle.std.specs.Option.{option_map}
use Rattle.dslx_meaning.specs.Lists.{and_then, pairwise, where_true}
use Rattle.dslx_meaning.specs.declared.ty.DslxType.{DslxType}
use Rattle.dslx_core.specs.Lowering.CoreScopes.{CoreCallee}
use Rattle.dslx_core.specs.Lowering.EqualTypes.{equal_type}
use Rattle.dslx_core.specs.Lowering.Functions.{CoreInstance, LoweredFunction, callee_of}
use Rattle.dslx_values.proofs.Lemmas.Pairs.{each_applied}

-- an instance of a number as a callee
abbrev callee : ℕ → LoweredFunction → Option CoreCallee
callee n f = Some (record { number = n; result = f.result })

abbrev none : Option CoreCallee
none = None

alike : (types : List DslxType) (p : ℕ × CoreInstance) (b : Bool) → pairwise (λ (q : DslxType → Bool) t. q t) (map equal_type p.1.function.arguments) types ≡ b
    → callee_of types p ≡ where_true b (callee p.0 p.1.function)
alike types p b e = ap (λ c. where_true c (callee p.0 p.1.function)) (sym (each_applied equal_type p.1.function.arguments types) ∙ e)

callee_by : (o : Option (ℕ × CoreInstance)) (types : List DslxType) (n : ℕ) (f : LoweredFunction) (b : Bool)
    → Some n ≡ option_map (λ (p : ℕ × CoreInstance). p.0) o → Some f ≡ option_map (λ (p : ℕ × CoreInstance). p.1.function) o
    → pairwise (λ (q : DslxType → Bool) t. q t) (map equal_type f.arguments) types ≡ b
    → where_true b (callee n f) ≡ and_then o (callee_of types)
callee_by None types n f b number function e = absurd (true≢false (ap is_some number))
callee_by (Some p) types n f b number function e =
    let m : n ≡ p.0 = ap (λ o. unwrap_or o n) number in
    let g : f ≡ p.1.function = ap (λ o. unwrap_or o f) function in
    (λ i. where_true b (callee (m i) (g i)))
    ∙ sym (alike types p b (ap (λ (h : LoweredFunction). pairwise (λ (q : DslxType → Bool) t. q t) (map equal_type h.arguments) types) (sym g) ∙ e))

-- operands of the types of its arguments
pub callee_is : (o : Option (ℕ × CoreInstance)) (types : List DslxType) (n : ℕ) (f : LoweredFunction)
    → Some n ≡ option_map (λ (p : ℕ × CoreInstance). p.0) o → Some f ≡ option_map (λ (p : ℕ × CoreInstance). p.1.function) o
    → pairwise (λ (q : DslxType → Bool) t. q t) (map equal_type f.arguments) types ≡ true → callee n f ≡ and_then o (callee_of types)
callee_is o types n f number function e = callee_by o types n f true number function e

-- operands of other types
pub no_callee : (o : Option (ℕ × CoreInstance)) (types : List DslxType) (n : ℕ) (f : LoweredFunction)
    → Some n ≡ option_map (λ (p : ℕ × CoreInstance). p.0) o → Some f ≡ option_map (λ (p : ℕ × CoreInstance). p.1.function) o
    → pairwise (λ (q : DslxType → Bool) t. q t) (map equal_type f.arguments) types ≡ false → none ≡ and_then o (callee_of types)
no_callee o types n f number function e = callee_by o types n f false number function e
