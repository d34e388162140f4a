-- The width of what an expression is worth.
use Rattle.std.proofs.Common.{◌≡◌, ℕ, ◌-◌, ◌+◌, List, [], ◌∷◌, refl, sym, ap, ◌∙◌, true, false, nat_eq, ◌&&◌, arith}
use Rattle.std.specs.Prelude.{◌==◌, if◌then◌else◌, Bool, nat_lt, nat_le}
use Rattle.std.proofs.lemmas.Bool.{and_parts, eqb-true}
use Rattle.xb_bits.specs.Word.{Word, word}
use Rattle.xb_bits.specs.Operations as op
use Rattle.vlog_tree.specs.declared.expression.Atom.{Atom}
use Rattle.vlog_tree.specs.declared.expression.Atom.TheVariants as atom
use Rattle.vlog_tree.specs.declared.expression.Binary.{Binary}
use Rattle.vlog_tree.specs.declared.expression.Binary.TheVariants as binary
use Rattle.vlog_tree.specs.declared.expression.Unary.{Unary}
use Rattle.vlog_tree.specs.declared.expression.Unary.TheVariants as unary
use Rattle.vlog_tree.specs.declared.expression.Simple.{Simple}
use Rattle.vlog_tree.specs.declared.expression.Simple.TheVariants as simple
use Rattle.vlog_tree.specs.declared.expression.Expr.{Expr}
use Rattle.vlog_tree.specs.declared.expression.Expr.TheVariants as expr
use Rattle.vlog_tree.specs.Value.{Values, atom_value, joined_value, binary_value, unary_value, simple_value, expr_value}
use Rattle.vlog_tree.specs.Forms.{Widths, atom_width, joined_width, binary_fits, unary_fits, simple_fits, fits}

-- the widths of the numbers
abbrev pub widths_by : Values → Widths
widths_by values s = (values s).width

pub atom_wide : (values : Values) (a : Atom) → (atom_value values a).width ≡ atom_width (widths_by values) a
atom_wide values (atom.Signal s) = refl
atom_wide values (atom.Literal l) = refl

pub joined_wide : (values : Values) (atoms : List Atom) → (joined_value values atoms).width ≡ joined_width (widths_by values) atoms
joined_wide values [] = refl
joined_wide values (a ∷ rest) = let first = atom_wide values a in let others = joined_wide values rest in omega arith

-- the two sides of a test that holds
left_is : (a w b v : ℕ) → ((a == w) && (b == v)) ≡ true → a ≡ w
left_is a w b v h = eqb-true a w (and_parts (a == w) (b == v) h).0

right_is : (a w b v : ℕ) → ((a == w) && (b == v)) ≡ true → b ≡ v
right_is a w b v h = eqb-true b v (and_parts (a == w) (b == v) h).1

-- a choice of two numbers of one width has it
either_wide : (test : Bool) (x y : Word) (w : ℕ) → x.width ≡ w → y.width ≡ w → (if test then x else y).width ≡ w
either_wide true x y w hx hy = hx
either_wide false x y w hx hy = hy

pub binary_wide : (w : ℕ) (operator : Binary) (a b : Word) → binary_fits w operator a.width b.width ≡ true → (binary_value operator a b).width ≡ w
binary_wide w binary.Add a b h = left_is a.width w b.width w h
binary_wide w binary.Subtract a b h = left_is a.width w b.width w h
binary_wide w binary.Multiply a b h = left_is a.width w b.width w h
binary_wide w binary.Divide a b h =
    either_wide (b.value == 0) (word a.width 0) (op.udiv a b) w (left_is a.width w b.width w h) (left_is a.width w b.width w h)
binary_wide w binary.Remainder a b h = left_is a.width w b.width w h
binary_wide w binary.And a b h = left_is a.width w b.width w h
binary_wide w binary.Or a b h = left_is a.width w b.width w h
binary_wide w binary.Xor a b h = left_is a.width w b.width w h
binary_wide w binary.Equal a b h = sym (right_is a.width b.width w 1 h)
binary_wide w binary.NotEqual a b h = sym (right_is a.width b.width w 1 h)
binary_wide w (binary.Ordered order) a b h = sym (right_is a.width b.width w 1 h)
binary_wide w binary.ShiftLeft a b h = eqb-true a.width w h
binary_wide w binary.ShiftRight a b h = eqb-true a.width w h

pub unary_wide : (w : ℕ) (operator : Unary) (a : Word) → unary_fits w operator a.width ≡ true → (unary_value operator a).width ≡ w
unary_wide w unary.Negate a h = eqb-true a.width w h
unary_wide w unary.Complement a h = eqb-true a.width w h
unary_wide w unary.AllOnes a h = sym (eqb-true w 1 h)
unary_wide w unary.SomeOne a h = sym (eqb-true w 1 h)
unary_wide w unary.Parity a h = sym (eqb-true w 1 h)

pub simple_wide : (values : Values) (w : ℕ) (x : Simple) → simple_fits (widths_by values) w x ≡ true → (simple_value values x).width ≡ w
simple_wide values w (simple.Atom a) h = atom_wide values a ∙ eqb-true (atom_width (widths_by values) a) w h
simple_wide values w (simple.Binary operator a b) h =
    binary_wide w operator (atom_value values a) (atom_value values b) (rw (atom_wide values a, atom_wide values b) h)
simple_wide values w (simple.Unary operator a) h = unary_wide w operator (atom_value values a) (rw (atom_wide values a) h)
simple_wide values w (simple.Slice s high low) h =
    let last = w == high + 1 - low in
    let inside = nat_lt high (values s.0).width in
    let ordered = nat_le low high in
    let wide = nat_lt 1 (values s.0).width in
    sym (eqb-true w (high + 1 - low) (and_parts inside last (and_parts ordered (inside && last) (and_parts wide (ordered && (inside && last)) h).1).1).1)
simple_wide values w (simple.Concat atoms) h = joined_wide values atoms ∙ eqb-true (joined_width (widths_by values) atoms) w h

pub expr_wide : (values : Values) (w : ℕ) (x : Expr) → fits (widths_by values) w x ≡ true → (expr_value values x).width ≡ w
expr_wide values w (expr.Simple x) h = simple_wide values w x h
expr_wide values w (expr.SignedOrder order a b) h = sym (right_is (values a.0).width (values b.0).width w 1 h)
expr_wide values w (expr.SignedShift a k) h = eqb-true (values a.0).width w h
expr_wide values w (expr.Choice c a b) h =
    let one = simple_fits (widths_by values) w a in
    let other = simple_fits (widths_by values) w b in
    let branches = (and_parts (atom_width (widths_by values) c == 1) (one && other) h).1 in
    let left = simple_wide values w a (and_parts one other branches).0 in
    let right = simple_wide values w b (and_parts one other branches).1 in
    either_wide ((atom_value values c).value == 0) (simple_value values b) (simple_value values a) w right left
