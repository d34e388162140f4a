-- The equations of folds over written types, and of what is built from them.
use Rattle.std.proofs.Common.{◌≡◌, ℕ, List, [], map, sym, ap, subst, ◌∙◌}
use Rattle.ir_tree.specs.declared.ir_type.IrType.{IrType, Bits, Token, Tuple}
use Rattle.ir_tree.specs.declared.ir_type.IrType.TheVariants.{rolls-Bits, rolls-Token, rolls-Tuple}
use Rattle.ir_tree.specs.declared.ir_type.IrType.TheOpen.{IrType-F}
use Rattle.ir_tree.specs.declared.ir_type.IrType.TheViews.{roll-IrType}
use Rattle.ir_tree.specs.declared.ir_type.IrType.TheFolds.{fold-IrType, fold-roll-IrType, ind-IrType, map-IrType}
use Rattle.xb_value.specs.declared.ty.Ty.{Ty}
use Rattle.xb_value.specs.declared.ty.Ty as ty
use Rattle.ir_tree.specs.declared.ir_type.IrType.TheViews.{outs-Bits, outs-Token, outs-Tuple}
use Rattle.ir_tree.specs.Types.{ty_of, ty_step, arrays_of, bounded}
use Rattle.ir_tree.specs.NodeTypes.Types.{sizes_of, sizes_step}
use Rattle.ir_tree.specs.NodeTypes.Constants.{base_of, base_step}

pub fold-Bits : (A : Type 0) (step : IrType-F A → A) (w : ℕ) (ns : List ℕ) → fold-IrType A step (Bits w ns) ≡ step (IrType-F.Bits w ns)
fold-Bits A step w ns = ap (fold-IrType A step) (sym (rolls-Bits w ns)) ∙ fold-roll-IrType A step (IrType-F.Bits w ns)

pub fold-Token : (A : Type 0) (step : IrType-F A → A) (ns : List ℕ) → fold-IrType A step (Token ns) ≡ step (IrType-F.Token ns)
fold-Token A step ns = ap (fold-IrType A step) (sym (rolls-Token ns)) ∙ fold-roll-IrType A step (IrType-F.Token ns)

pub fold-Tuple : (A : Type 0) (step : IrType-F A → A) (ts : List IrType) (ns : List ℕ) → fold-IrType A step (Tuple ts ns) ≡ step (IrType-F.Tuple (map (fold-IrType A step) ts) ns)
fold-Tuple A step ts ns = ap (fold-IrType A step) (sym (rolls-Tuple ts ns)) ∙ fold-roll-IrType A step (IrType-F.Tuple ts ns)

pub ty_of-Bits : (w : ℕ) (ns : List ℕ) → ty_of (Bits w ns) ≡ arrays_of ns (ty.Bits (bounded w))
ty_of-Bits = fold-Bits Ty ty_step

pub ty_of-Token : (ns : List ℕ) → ty_of (Token ns) ≡ arrays_of ns (ty.Tuple [])
ty_of-Token = fold-Token Ty ty_step

pub ty_of-Tuple : (ts : List IrType) (ns : List ℕ) → ty_of (Tuple ts ns) ≡ arrays_of ns (ty.Tuple (map ty_of ts))
ty_of-Tuple = fold-Tuple Ty ty_step

-- a claim of every written type is one of each of its forms
pub type_cases : (P : IrType → Type 0) → ((w : ℕ) (ns : List ℕ) → P (Bits w ns)) → ((ns : List ℕ) → P (Token ns)) → ((ts : List IrType) (ns : List ℕ) → P (Tuple ts ns)) → (t : IrType) → P t
type_cases P bits token tuple = ind-IrType P (λ x y is. subst (λ z. P (roll-IrType z)) is (case y))
  where
    case : (y : IrType-F ((t : IrType) × P t)) → P (roll-IrType (map-IrType ((t : IrType) × P t) IrType (λ e. e.0) y))
    case (IrType-F.Bits w ns) = subst P (sym (rolls-Bits w ns)) (bits w ns)
    case (IrType-F.Token ns) = subst P (sym (rolls-Token ns)) (token ns)
    case (IrType-F.Tuple es ns) = subst P (sym (rolls-Tuple (map (λ e. e.0) es) ns)) (tuple (map (λ e. e.0) es) ns)

-- a type is arrays of its sizes round what stands inside them
pub ty_of_split : (t : IrType) → ty_of t ≡ arrays_of (sizes_of t) (base_of t)
ty_of_split = type_cases (λ t. ty_of t ≡ arrays_of (sizes_of t) (base_of t))
    (λ w ns. ty_of-Bits w ns ∙ sym (ap (λ y. arrays_of (sizes_step y) (base_step y)) (outs-Bits w ns)))
    (λ ns. ty_of-Token ns ∙ sym (ap (λ y. arrays_of (sizes_step y) (base_step y)) (outs-Token ns)))
    (λ ts ns. ty_of-Tuple ts ns ∙ sym (ap (λ y. arrays_of (sizes_step y) (base_step y)) (outs-Tuple ts ns)))
