-- Ends of channels with which nothing is wrong: their words have 1 to 128 bits, and each of them is a value.
use Rattle.std.proofs.Common.{◌≡◌, ◌≤◌, ◌++◌, ◌&&◌, ℕ, Bool, true, false, if◌then◌else◌, List, [], ◌∷◌, Some, arith, refl, sym, ap, ◌∙◌}
use Rattle.std.specs.Prelude.{nat_lt}
use Rattle.std.proofs.lemmas.Bool.{le-leb, ltb-false}
use Rattle.xb_bits.specs.Word.{Word}
use Rattle.xb_value.specs.Unflat.{unflat_of}
use Rattle.xb_value.specs.Width.{width_of, widths_step}
use Rattle.xb_value.specs.declared.ty.Ty.{fold-Ty}
use Rattle.xb_value.proofs.Lemmas.Flat.{gives_typed}
use Rattle.xb_span.specs.declared.fault.Fault.TheVariants.{Passed}
use Rattle.xb_span.specs.declared.limit.What.TheVariants as what
use Rattle.dslx_tree.specs.declared.process.End.{End}
use Rattle.dslx_tree.specs.declared.type_expr.TypeExpr.{TypeExpr, out-TypeExpr}
use Rattle.dslx_meaning.specs.Environment.{Env}
use Rattle.dslx_meaning.specs.Types.{flat_bits, plain_type}
use Rattle.dslx_meaning.specs.Values.{from_word}
use Rattle.dslx_meaning.specs.declared.ty.DslxType.{DslxType}
use Rattle.dslx_meaning.specs.Rules.ItemRules.{typing_of_inner}
use Rattle.dslx_meaning.specs.Rules.TypeEnvs.{TypeEnv, found_number, passes}
use Rattle.dslx_meaning.specs.Rules.NameRules.{local_name}
use Rattle.dslx_meaning.specs.Rules.NodeRules.{type_pair}
use Rattle.dslx_meaning.specs.Rules.ProcRules.{channel_type, ends_found, word_limit}
use Rattle.dslx_core.specs.Typing.Typed.Kinds.{is_of}
use Rattle.dslx_core.specs.Typing.Typed.WellTyped.{IsWellTypedEnv, types_at}
use Rattle.dslx_core.proofs.Lemmas.Typing.Sound.{none_in, some_fault, type_has_den}
use Rattle.dslx_core.specs.Lowering.Steps.{fits_word, is_sized}
use Rattle.dslx_core.proofs.Lemmas.Lowering.{from_plain}
use Rattle.dslx_total.specs.Expressions.Beside.{NamesAreFull, NamesHaveWidths}
use Rattle.dslx_total.specs.Expressions.ExprLowering.{IsWide}
use Rattle.dslx_total.specs.Expressions.Members.{EachHasWords}
use Rattle.dslx_total.proofs.Lemmas.Expressions.{sized_there}
use Rattle.dslx_core.specs.Typing.Procs.WordsOfEnds.{WordsAreValues}
use Rattle.dslx_total.proofs.OnNets.Full.{as_many_bits, word_has_bits}
use Rattle.dslx_total.proofs.OnWords.Narrow.{narrow}

abbrev pub TypesAreWide : Type 0
TypesAreWide = (t : TypeExpr) → IsWide (type_pair t).1

-- no more bits than the limit
pub within_limit : (at n : ℕ) → passes what.Word 128 at n ≡ [] → n ≤ 128
within_limit at n e = by_test (nat_lt 128 n) refl e
  where
    by_test : (b : Bool) → nat_lt 128 n ≡ b → (if b then Passed at (record { what = what.Word; found = found_number n; most = 128 }) ∷ [] else []) ≡ [] → n ≤ 128
    by_test true q f = some_fault (Passed at (record { what = what.Word; found = found_number n; most = 128 })) [] f
    by_test false q f = ltb-false 128 n q

-- the words of an end with which nothing is wrong
module _ (wide : TypesAreWide) (context : TypeEnv) (env : Env) (h : IsWellTypedEnv context env) (names : NamesHaveWidths context.known) where
  module _ (e : End) (f : (channel_type context e.word).faults ≡ []) (t : DslxType) (q : (typing_of_inner context e.word).ty ≡ Some t) where
    abbrev to : ℕ
    to = (out-TypeExpr e.word).span.to

    own : ((typing_of_inner context e.word).faults ≡ []) × (word_limit to (typing_of_inner context e.word).ty ≡ [])
    own = none_in (typing_of_inner context e.word).faults (word_limit to (typing_of_inner context e.word).ty) f

    sized : is_sized t ≡ true
    sized = sized_there (types_at context) h.known.parts t ((type_has_den e.word).means context env h t q).1

    most : flat_bits t ≤ 128
    most = within_limit to (flat_bits t) (ap (word_limit to) (sym q) ∙ own.1)

    narrow_word : fold-Ty Bool widths_step (plain_type t) ≡ true
    narrow_word = narrow t (wide e.word context names t q) sized most

    is_value : (x : Word) → is_of t (from_word t x) ≡ true
    is_value x = (from_plain t sized (unflat_of (plain_type t) x.value) (gives_typed (plain_type t) narrow_word x.value)).0

    fits : NamesAreFull context.known → fits_word (plain_type t) ≡ true
    fits full =
        let many = as_many_bits t in
        let some = word_has_bits context full e.word own.0 t q in
        let few : width_of (plain_type t) ≤ 128 = omega (arith, many, most) in
        let bits : 1 ≤ width_of (plain_type t) = omega (arith, many, some) in
        λ i. narrow_word i && (le-leb 1 (width_of (plain_type t)) bits i && le-leb (width_of (plain_type t)) 128 few i)

  first_end : (before : List (List ℕ)) (e : End) (es : List End) → (ends_found context before (e ∷ es)).faults ≡ [] → ((channel_type context e.word).faults ≡ []) × ((ends_found context (e.name.name ∷ before) es).faults ≡ [])
  first_end before e es f =
      let rest = ends_found context (e.name.name ∷ before) es in
      none_in (channel_type context e.word).faults rest.faults (none_in (local_name context before e.name) ((channel_type context e.word).faults ++ rest.faults) f).1

  pub each_has_words : NamesAreFull context.known → (before : List (List ℕ)) (es : List End) → (ends_found context before es).faults ≡ [] → EachHasWords context es
  each_has_words full before [] f = tt
  each_has_words full before (e ∷ es) f =
      let q = first_end before e es f in
      (record { fits = λ t is. fits e q.0 t is full }, each_has_words full (e.name.name ∷ before) es q.1)

  pub words_are_values : (before : List (List ℕ)) (es : List End) → (ends_found context before es).faults ≡ [] → WordsAreValues context es
  words_are_values before [] f = tt
  words_are_values before (e ∷ es) f = let q = first_end before e es f in (is_value e q.0, words_are_values (e.name.name ∷ before) es q.1)
