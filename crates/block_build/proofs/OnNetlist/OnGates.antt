-- What gates give.
use Rattle.std.proofs.Common.{◌≡◌, refl, ap, ◌∙◌, cond, true, false, Bool}
use Rattle.std.specs.Prelude.{◌&&◌, ◌||◌, not, ◌==◌}
use Rattle.xb_bits.specs.Word.{Word}
use Rattle.xb_bits.specs.Operations as op
use Rattle.vlog_tree.specs.declared.expression.Binary.{Binary}
use Rattle.vlog_tree.specs.Value.{bit, binary_value}

-- bits
not_bit : (x : Bool) → op.not (bit x) ≡ bit (not x)
not_bit true = refl
not_bit false = refl

and_bits : (x y : Bool) → op.and (bit x) (bit y) ≡ bit (x && y)
and_bits true true = refl
and_bits true false = refl
and_bits false true = refl
and_bits false false = refl

or_bits : (x y : Bool) → op.or (bit x) (bit y) ≡ bit (x || y)
or_bits true true = refl
or_bits true false = refl
or_bits false true = refl
or_bits false false = refl

pub complement : (x : Word) (a : Word) (t : Bool) → x ≡ op.not a → a ≡ bit t → x ≡ bit (not t)
complement x a t e f = e ∙ ap op.not f ∙ not_bit t

pub conjunction : (x a b : Word) (t u : Bool) → x ≡ op.and a b → a ≡ bit t → b ≡ bit u → x ≡ bit (t && u)
conjunction x a b t u e f g = e ∙ ap (λ z. op.and z b) f ∙ ap (op.and (bit t)) g ∙ and_bits t u

pub disjunction : (x a b : Word) (t u : Bool) → x ≡ op.or a b → a ≡ bit t → b ≡ bit u → x ≡ bit (t || u)
disjunction x a b t u e f g = e ∙ ap (λ z. op.or z b) f ∙ ap (op.or (bit t)) g ∙ or_bits t u

pub nothing : (x a b : Word) → x ≡ op.and a b → a ≡ bit false → x ≡ bit false
nothing x a b e f = e ∙ ap (λ z. op.and z b) f

chosen : (t : Bool) (x y : Word) → cond ((bit t).value == 0) y x ≡ cond t x y
chosen true x y = refl
chosen false x y = refl

pub choice : (z c x y : Word) (t : Bool) → z ≡ cond (c.value == 0) y x → c ≡ bit t → z ≡ cond t x y
choice z c x y t e f = e ∙ ap (λ (u : Word). cond (u.value == 0) y x) f ∙ chosen t x y

pub operated : (operator : Binary) (x a b u w : Word) → x ≡ binary_value operator a b → a ≡ u → b ≡ w → x ≡ binary_value operator u w
operated operator x a b u w e f g = e ∙ ap (λ z. binary_value operator z b) f ∙ ap (binary_value operator u) g
