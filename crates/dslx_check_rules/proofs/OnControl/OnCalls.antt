-- Calls.
use Rattle.std.proofs.Common.{◌≡◌, ◌<◌, ◌≤◌, ◌++◌, ◌∷◌, ◌+◌, [], List, ℕ, zero, suc, Bool, true, false, Option, Some, None, length, get_or, min, take, slice_get, refl, sym, subst, arith}
use Rattle.std.specs.Prelude.{if◌then◌else◌}
use Rattle.std.specs.Option.{option_map}
use Rattle.std.proofs.lemmas.List.{take_all}
use Rattle.std.proofs.lemmas.Option.{none-some, same_Some}
use Rattle.xb_span.specs.declared.span.Span.{Span}
use Rattle.xb_span.specs.declared.fault.Fault.{Fault}
use Rattle.dslx_tree.specs.declared.process.Direction.{Direction}
use Rattle.dslx_meaning.specs.declared.ty.DslxType.{DslxType}
use Rattle.dslx_meaning.specs.Rules.TypeEnvs.{ChannelEnd, Judgement}
use Rattle.dslx_meaning.specs.Rules.AggregateRules.{wanted_faults}
use Rattle.dslx_meaning.specs.Rules.CallRules.{goes_there}
use Rattle.dslx_check_rules.specs.Seen.{seen}
use Rattle.dslx_check_rules.specs.Interned.{ItemNames}
use Rattle.dslx_check_rules.specs.declared.table.row.TypeId.{TypeId}
use Rattle.dslx_check_rules.specs.declared.table.row.TypeRow.{TypeRow}
use Rattle.dslx_check_rules.specs.declared.faults.Faults.{Faults}
use Rattle.dslx_check_rules.specs.declared.typing.Typing.{Typing}
use Rattle.dslx_check_rules.specs.declared.nodes.parts.Spanned.{Spanned}
use Rattle.dslx_check_rules.proofs.Lemmas.Nodes.Lists.{pair_at, pairs_long, take_next}
use Rattle.dslx_check_rules.specs.Nodes.Parts.{ArePlaced, FromAll, FromOne, FromThree, IsPart, IsPlaced, Pairs, Placed}
use Rattle.dslx_check_rules.specs.Control.Calls.{IsTypeIf, counted_of, counting_of, each_misfit, updated_of, updating_of, wrong_operands_of}
use Rattle.dslx_check_rules.specs.Control.Effects.{goes, other_faults}

-- what is found in another declaration, unless the call is refused
pub unless_refused : (cyclic wrong : Bool) (fs : List Fault) → (if cyclic then seen [] else if wrong then seen [] else seen fs) ≡ seen (if cyclic then [] else if wrong then [] else fs)
unless_refused true wrong fs = refl
unless_refused false true fs = refl
unless_refused false false fs = refl

pub goes_is : (direction : Direction) (o : Option ChannelEnd) → goes direction (option_map (λ (e : ChannelEnd). e.direction) o) ≡ goes_there direction o
goes_is direction None = refl
goes_is direction (Some e) = refl

-- ---- builtins by the number of their operands

pub counting_one : (span : Span) (old new : List TypeRow) (operands : List Spanned) (result : Typing) (gives_bool : Bool) (d : Spanned) → 1 ≤ length operands → length operands < 2
    → FromOne (counted_of span (get_or operands 0 d).span gives_bool) old new (get_or operands 0 d).typing result → FromAll (counting_of span gives_bool) old new operands result
counting_one span old new [] result gives_bool d h k from = absurd (omega (arith, h))
counting_one span old new (operand ∷ []) result gives_bool d h k from = record {
  typed = λ names later distinct p xs parts.
      by names later xs parts (λ x is. from.typed names later distinct p x is);
}
  where
    by : (names : ItemNames) (later : List TypeRow) (xs : List Placed) → ArePlaced names old later (operand ∷ []) xs
        → ((x : Judgement) → IsPart names old later operand.typing x → IsPart names new later result (counted_of span operand.span gives_bool x)) → IsPart names new later result (counting_of span gives_bool xs)
    by names later [] is h = absurd is
    by names later (x ∷ []) is h = subst (λ at. IsPart names new later result (counted_of span at gives_bool x.judgement)) is.0.span (h x.judgement is.0.part)
    by names later (x ∷ y ∷ xs) is h = absurd is.1
counting_one span old new (operand ∷ q ∷ qs) result gives_bool d h k from = absurd (omega (arith, k))

pub updating_three : (span : Span) (old new : List TypeRow) (operands : List Spanned) (result : Typing) (d d' d'' : Spanned) → 3 ≤ length operands → length operands < 4
    → FromThree (updated_of span (get_or operands 0 d).span (get_or operands 1 d').span (get_or operands 2 d'').span) old new
    (get_or operands 0 d).typing (get_or operands 1 d').typing (get_or operands 2 d'').typing result
    → FromAll (updating_of span) old new operands result
updating_three span old new [] result d d' d'' h k from = absurd (omega (arith, h))
updating_three span old new (e ∷ []) result d d' d'' h k from = absurd (omega (arith, h))
updating_three span old new (e ∷ i ∷ []) result d d' d'' h k from = absurd (omega (arith, h))
updating_three span old new (e ∷ i ∷ v ∷ []) result d d' d'' h k from = record {
  typed = λ names later distinct p xs parts.
      by names later xs parts (λ x y z a b c. from.typed names later distinct p x y z a b c);
}
  where
    by : (names : ItemNames) (later : List TypeRow) (xs : List Placed) → ArePlaced names old later (e ∷ i ∷ v ∷ []) xs
        → ((x y z : Judgement) → IsPart names old later e.typing x → IsPart names old later i.typing y → IsPart names old later v.typing z
        → IsPart names new later result (updated_of span e.span i.span v.span x y z)) → IsPart names new later result (updating_of span xs)
    by names later [] is h = absurd is
    by names later (x ∷ []) is h = absurd is.1
    by names later (x ∷ y ∷ []) is h = absurd is.1.1
    by names later (x ∷ y ∷ z ∷ []) is h =
        subst (λ at. IsPart names new later result (updated_of span at y.span z.span x.judgement y.judgement z.judgement)) is.0.span
        (subst (λ at. IsPart names new later result (updated_of span e.span at z.span x.judgement y.judgement z.judgement)) is.1.0.span
        (subst (λ at. IsPart names new later result (updated_of span e.span i.span at x.judgement y.judgement z.judgement)) is.1.1.0.span
        (h x.judgement y.judgement z.judgement is.0.part is.1.0.part is.1.1.0.part)))
    by names later (x ∷ y ∷ z ∷ u ∷ xs) is h = absurd is.1.1.1
updating_three span old new (e ∷ i ∷ v ∷ q ∷ qs) result d d' d'' h k from = absurd (omega (arith, k))

module _ (span : Span) (old new : List TypeRow) (operands : List Spanned) (result : Typing) where
  pub counting_other : (gives_bool : Bool) → (length operands ≡ 1 → ⊥) → FromAll (wrong_operands_of span) old new operands result → FromAll (counting_of span gives_bool) old new operands result
  counting_other gives_bool other from = record { typed = λ names later distinct p xs parts. by names later xs operands other parts (from.typed names later distinct p xs parts) }
    where
      by : (names : ItemNames) (later : List TypeRow) (xs : List Placed) (ps : List Spanned) → (length ps ≡ 1 → ⊥) → ArePlaced names old later ps xs
          → IsPart names new later result (wrong_operands_of span xs) → IsPart names new later result (counting_of span gives_bool xs)
      by names later [] ps n is h = h
      by names later (x ∷ []) [] n is h = absurd is
      by names later (x ∷ []) (q ∷ []) n is h = absurd (n refl)
      by names later (x ∷ []) (q ∷ r ∷ ps) n is h = absurd is.1
      by names later (x ∷ y ∷ xs) ps n is h = h

  pub updating_other : (length operands ≡ 3 → ⊥) → FromAll (wrong_operands_of span) old new operands result → FromAll (updating_of span) old new operands result
  updating_other other from = record { typed = λ names later distinct p xs parts. by names later xs operands other parts (from.typed names later distinct p xs parts) }
    where
      by : (names : ItemNames) (later : List TypeRow) (xs : List Placed) (ps : List Spanned) → (length ps ≡ 3 → ⊥) → ArePlaced names old later ps xs
          → IsPart names new later result (wrong_operands_of span xs) → IsPart names new later result (updating_of span xs)
      by names later [] ps n is h = h
      by names later (x ∷ []) ps n is h = h
      by names later (x ∷ y ∷ []) ps n is h = h
      by names later (x ∷ y ∷ z ∷ []) [] n is h = absurd is
      by names later (x ∷ y ∷ z ∷ []) (q ∷ []) n is h = absurd is.1
      by names later (x ∷ y ∷ z ∷ []) (q ∷ r ∷ []) n is h = absurd is.1.1
      by names later (x ∷ y ∷ z ∷ []) (q ∷ r ∷ s ∷ []) n is h = absurd (n refl)
      by names later (x ∷ y ∷ z ∷ []) (q ∷ r ∷ s ∷ t ∷ ps) n is h = absurd is.1.1.1
      by names later (x ∷ y ∷ z ∷ u ∷ xs) ps n is h = h

-- ---- the arguments of an effect behind its channel

pub others_two : (names : ItemNames) (rows later : List TypeRow) (others : List Spanned) (xs : List Placed) (word : Option DslxType) (found : Faults) (d d' : Spanned)
    → ArePlaced names rows later others xs → 2 ≤ length others → length others < 3
    → ((t x : Placed) → IsPlaced names rows later (get_or others 0 d) t → IsPlaced names rows later (get_or others 1 d') x → found ≡ seen (other_faults word (t ∷ x ∷ [])))
    → found ≡ seen (other_faults word xs)
others_two names rows later [] xs word found d d' is h k two = absurd (omega (arith, h))
others_two names rows later (q ∷ []) xs word found d d' is h k two = absurd (omega (arith, h))
others_two names rows later (q ∷ r ∷ []) [] word found d d' is h k two = absurd is
others_two names rows later (q ∷ r ∷ []) (t ∷ []) word found d d' is h k two = absurd is.1
others_two names rows later (q ∷ r ∷ []) (t ∷ x ∷ []) word found d d' is h k two = two t x is.0 is.1.0
others_two names rows later (q ∷ r ∷ []) (t ∷ x ∷ y ∷ xs) word found d d' is h k two = absurd is.1.1
others_two names rows later (q ∷ r ∷ s ∷ others) xs word found d d' is h k two = absurd (omega (arith, k))

pub others_none : (names : ItemNames) (rows later : List TypeRow) (others : List Spanned) (xs : List Placed) (word : Option DslxType)
    → ArePlaced names rows later others xs → (length others ≡ 1 → ⊥) → (length others ≡ 2 → ⊥) → seen [] ≡ seen (other_faults word xs)
others_none names rows later others [] word is n k = refl
others_none names rows later [] (x ∷ xs) word is n k = absurd is
others_none names rows later (q ∷ []) (x ∷ xs) word is n k = absurd (n refl)
others_none names rows later (q ∷ r ∷ []) (x ∷ xs) word is n k = absurd (k refl)
others_none names rows later (q ∷ r ∷ s ∷ others) (x ∷ []) word is n k = absurd is.1
others_none names rows later (q ∷ r ∷ s ∷ others) (x ∷ y ∷ []) word is n k = absurd is.1.1
others_none names rows later (q ∷ r ∷ s ∷ others) (x ∷ y ∷ z ∷ xs) word is n k = refl

-- ---- operands of other types than are declared

misfit_at : (ts : List (Option DslxType)) (xs : List Placed) (i : ℕ) (t : Option DslxType) (x : Placed) → slice_get ts i ≡ Some t → slice_get xs i ≡ Some x
    → slice_get (each_misfit ts xs) i ≡ Some (wanted_faults x.span t x.judgement.ty)
misfit_at [] xs i t x e f = absurd (none-some t e)
misfit_at (u ∷ ts) [] i t x e f = absurd (none-some x f)
misfit_at (u ∷ ts) (y ∷ xs) zero t x e f = λ i. Some (wanted_faults (same_Some y x f i).span (same_Some u t e i) (same_Some y x f i).judgement.ty)
misfit_at (u ∷ ts) (y ∷ xs) (suc i) t x e f = misfit_at ts xs i t x e f

misfits_long : (ts : List (Option DslxType)) (xs : List Placed) → length (each_misfit ts xs) ≡ min (length ts) (length xs)
misfits_long [] xs = omega arith
misfits_long (t ∷ ts) [] = omega arith
misfits_long (t ∷ ts) (x ∷ xs) = omega (arith, misfits_long ts xs)

module _ (names : ItemNames) (rows later : List TypeRow) (arguments : List (Option TypeId)) (ts : List (Option DslxType)) (operands : List Spanned) (xs : List Placed)
    (types : Pairs (IsTypeIf names rows later) arguments ts) (parts : ArePlaced names rows later operands xs) where
  pub next_misfit : (T : List (List Fault) → Type 0) (i : ℕ) (d : Option TypeId) (e : Spanned) → i < length arguments → i < length operands
      → ((t : Option DslxType) (x : Placed) → IsTypeIf names rows later (get_or arguments i d) t → IsPlaced names rows later (get_or operands i e) x
      → T (take i (each_misfit ts xs) ++ wanted_faults x.span t x.judgement.ty ∷ [])) → T (take (i + 1) (each_misfit ts xs))
  next_misfit T i d e h k next =
      let t = pair_at (IsTypeIf names rows later) arguments ts i d types h in
      let x = pair_at (IsPlaced names rows later) operands xs i e parts k in
      subst T (sym (take_next (each_misfit ts xs) i (wanted_faults x.0.span t.0 x.0.judgement.ty) (misfit_at ts xs i t.0 x.0 t.1 x.1))) (next t.0 x.0 t.2 x.2)

  pub all_misfits : (T : List (List Fault) → Type 0) (i : ℕ) → min (length arguments) (length operands) ≤ i → T (take i (each_misfit ts xs)) → T (each_misfit ts xs)
  all_misfits T i h done = subst T (take_all i (each_misfit ts xs)
      (omega (arith, h, misfits_long ts xs, pairs_long (IsTypeIf names rows later) arguments ts types, pairs_long (IsPlaced names rows later) operands xs parts))) done
