-- The equations of folds over values, and cases of values.
use Rattle.std.proofs.Common.{◌≡◌, List, map, sym, ap, subst, ◌∙◌, ◌++◌, ◌∷◌, []}
use Rattle.xb_bits.specs.Word.{Word}
use Rattle.xb_value.specs.declared.token.Bracket.TheVariants.{Round, Square}
use Rattle.xb_value.specs.declared.token.Token.{Token}
use Rattle.xb_value.specs.declared.token.Token.TheVariants.{Number, Open, Close}
use Rattle.xb_value.specs.Shape.{shape_of, shape_step, all_of}
use Rattle.xb_value.proofs.Lemmas.Types.{EachHas, each_of}
use Rattle.xb_value.specs.declared.value.Value.{Value, Bits, Tuple, Array}
use Rattle.xb_value.specs.declared.value.Value.TheVariants.{rolls-Bits, rolls-Tuple, rolls-Array}
use Rattle.xb_value.specs.declared.value.Value.TheOpen.{Value-F}
use Rattle.xb_value.specs.declared.value.Value.TheViews.{roll-Value}
use Rattle.xb_value.specs.declared.value.Value.TheFolds.{fold-Value, fold-roll-Value, ind-Value, map-Value}
use Rattle.xb_value.specs.Flat.{flat_of, flat_step, joined}

pub fold-Bits : (A : Type 0) (step : Value-F A → A) (x : Word) → fold-Value A step (Bits x) ≡ step (Value-F.Bits x)
fold-Bits A step x = ap (fold-Value A step) (sym (rolls-Bits x)) ∙ fold-roll-Value A step (Value-F.Bits x)

pub fold-Tuple : (A : Type 0) (step : Value-F A → A) (vs : List Value) → fold-Value A step (Tuple vs) ≡ step (Value-F.Tuple (map (fold-Value A step) vs))
fold-Tuple A step vs = ap (fold-Value A step) (sym (rolls-Tuple vs)) ∙ fold-roll-Value A step (Value-F.Tuple vs)

pub fold-Array : (A : Type 0) (step : Value-F A → A) (vs : List Value) → fold-Value A step (Array vs) ≡ step (Value-F.Array (map (fold-Value A step) vs))
fold-Array A step vs = ap (fold-Value A step) (sym (rolls-Array vs)) ∙ fold-roll-Value A step (Value-F.Array vs)

pub value_cases : (P : Value → Type 0) → ((x : Word) → P (Bits x)) → ((vs : List Value) → P (Tuple vs)) → ((vs : List Value) → P (Array vs)) → (v : Value) → P v
value_cases P bits tuple array = ind-Value P (λ x y is. subst (λ z. P (roll-Value z)) is (case y))
  where
    case : (y : Value-F ((v : Value) × P v)) → P (roll-Value (map-Value ((v : Value) × P v) Value (λ e. e.0) y))
    case (Value-F.Bits x) = subst P (sym (rolls-Bits x)) (bits x)
    case (Value-F.Tuple es) = subst P (sym (rolls-Tuple (map (λ e. e.0) es))) (tuple (map (λ e. e.0) es))
    case (Value-F.Array es) = subst P (sym (rolls-Array (map (λ e. e.0) es))) (array (map (λ e. e.0) es))

pub flat_of-Bits : (x : Word) → flat_of (Bits x) ≡ x
flat_of-Bits = fold-Bits Word flat_step

pub flat_of-Tuple : (vs : List Value) → flat_of (Tuple vs) ≡ joined (map flat_of vs)
flat_of-Tuple = fold-Tuple Word flat_step

pub flat_of-Array : (vs : List Value) → flat_of (Array vs) ≡ joined (map flat_of vs)
flat_of-Array = fold-Array Word flat_step

-- ---- induction on values

pub value_induction : (P : Value → Type 0) → ((x : Word) → P (Bits x)) → ((vs : List Value) → EachHas P vs → P (Tuple vs)) → ((vs : List Value) → EachHas P vs → P (Array vs)) → (v : Value) → P v
value_induction P bits tuple array = ind-Value P (λ x y is. subst (λ z. P (roll-Value z)) is (case y))
  where
    case : (y : Value-F ((v : Value) × P v)) → P (roll-Value (map-Value ((v : Value) × P v) Value (λ e. e.0) y))
    case (Value-F.Bits x) = subst P (sym (rolls-Bits x)) (bits x)
    case (Value-F.Tuple es) = subst P (sym (rolls-Tuple (map (λ e. e.0) es))) (tuple (map (λ e. e.0) es) (each_of P es))
    case (Value-F.Array es) = subst P (sym (rolls-Array (map (λ e. e.0) es))) (array (map (λ e. e.0) es) (each_of P es))

pub shape_of-Bits : (x : Word) → shape_of (Bits x) ≡ Number 0 x.value ∷ []
shape_of-Bits = fold-Bits (List Token) shape_step

pub shape_of-Tuple : (vs : List Value) → shape_of (Tuple vs) ≡ Open 0 Round ∷ (all_of (map shape_of vs) ++ Close ∷ [])
shape_of-Tuple = fold-Tuple (List Token) shape_step

pub shape_of-Array : (vs : List Value) → shape_of (Array vs) ≡ Open 0 Square ∷ (all_of (map shape_of vs) ++ Close ∷ [])
shape_of-Array = fold-Array (List Token) shape_step
