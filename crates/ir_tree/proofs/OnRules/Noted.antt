-- Checks one after another.
use Rattle.std.proofs.Common.{suc, ◌≡◌, ℕ, ◌-◌, ◌^◌, min, List, [], ◌∷◌, ◌++◌, map, refl, sym, ap, ◌∙◌, arith, Option, ◌+◌, ◌<◌, ◌≤◌, length, drop, get_or, drop-cons, add-one}
use Rattle.std.specs.Prelude.{nat_lt}
use Rattle.xb_span.specs.declared.fault.Fault.TheVariants.{Passed}
use Rattle.std.proofs.lemmas.List.{map-append, drop_all}
use Rattle.xb_span.specs.declared.fault.Fault.{Fault}
use Rattle.xb_span.specs.declared.limit.What.{What}
use Rattle.ir_tree.specs.Rules.Checks.{Check, note, noted, limit_at, bounded}
use Rattle.xb_span.specs.declared.limit.What.TheVariants as what
use Rattle.ir_tree.specs.declared.ir_type.IrType.{IrType, Tuple}
use Rattle.ir_tree.specs.NodeTypes.Types.{joined_lists, widths_in}
use Rattle.ir_tree.specs.NodeTypes.Types as types
use Rattle.ir_tree.proofs.Lemmas.NodeTypes.IrTypes.{fold-Tuple}

pub noted-append : (xs ys : List Check) (held : Option Fault) → noted held (xs ++ ys) ≡ noted (noted held xs) ys
noted-append [] ys held = refl
noted-append (x ∷ xs) ys held = noted-append xs ys (note x.broken x.fault held)

pub noted-map : (f : ℕ → Check) (ws vs : List ℕ) (held : Option Fault) → noted held (map f (ws ++ vs)) ≡ noted (noted held (map f ws)) (map f vs)
noted-map f ws vs held = ap (noted held) (map-append f ws vs) ∙ noted-append (map f ws) (map f vs) held

bounded-bounded : (n : ℕ) → bounded (bounded n) ≡ bounded n
bounded-bounded n = omega arith

pub limit_bounded : (end : ℕ) (what : What) (n most : ℕ) → limit_at end what (min n (2 ^ 64 - 1)) most ≡ limit_at end what n most
limit_bounded end what n most = ap (λ b. record { broken = nat_lt most b; fault = Passed end (record { what = what; found = b; most = most }) }) (bounded-bounded n)

-- ---- the widths of a list of types

abbrev pub widths_noted : ℕ → Option Fault → List IrType → Option Fault
widths_noted end held ts = noted held (map (λ (w : ℕ). limit_at end what.Width w 128) (joined_lists (map widths_in ts)))

pub widths_step : (end : ℕ) (parts : List IrType) (i : ℕ) (t : IrType) (held new all : Option Fault) → i < length parts → t ≡ get_or parts i t → new ≡ noted held (map (λ (w : ℕ). limit_at end what.Width w 128) (widths_in t)) → widths_noted end held (drop i parts) ≡ all → widths_noted end new (drop (i + 1) parts) ≡ all
widths_step end parts i t held new all h e f g =
    ap (λ o. widths_noted end o (drop (i + 1) parts)) f
    ∙ sym (noted-map (λ (w : ℕ). limit_at end what.Width w 128) (widths_in t) (joined_lists (map widths_in (drop (i + 1) parts))) held)
    ∙ ap (widths_noted end held) front
    ∙ g
  where
    front : t ∷ drop (i + 1) parts ≡ drop i parts
    front = rw add-one (ap (λ u. u ∷ drop (suc i) parts) e ∙ sym (drop-cons parts i t h))

pub widths_end : (end : ℕ) (parts : List IrType) (i : ℕ) (held all : Option Fault) → length parts ≤ i → widths_noted end held (drop i parts) ≡ all → held ≡ all
widths_end end parts i held all h g = ap (widths_noted end held) (sym (drop_all i parts h)) ∙ g

pub widths_in-Tuple : (ts : List IrType) (ns : List ℕ) → widths_in (Tuple ts ns) ≡ joined_lists (map widths_in ts)
widths_in-Tuple = fold-Tuple (List ℕ) types.widths_step
