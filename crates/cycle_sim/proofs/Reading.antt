-- What is known reads signals of the module alone.
use Rattle.std.proofs.Common.{ℕ, ◌<◌, List, [], ◌∷◌, ◌++◌}
use Rattle.std.specs.Prelude.{flat_map}
use Rattle.std.specs.List.{AllByRecursion}
use Rattle.vlog_tree.specs.declared.expression.Atom.{Atom}
use Rattle.vlog_tree.specs.declared.expression.Atom.TheVariants as atom
use Rattle.vlog_tree.specs.declared.expression.Simple.{Simple}
use Rattle.vlog_tree.specs.declared.expression.Simple.TheVariants as simple
use Rattle.vlog_tree.specs.declared.expression.Expr.{Expr}
use Rattle.vlog_tree.specs.declared.expression.Expr.TheVariants as expr
use Rattle.vlog_tree.specs.Forms.{atom_reads, simple_reads, reads}
use Rattle.vlog_tree.specs.Sound.{IsKnownAtom, IsKnownSimple, IsKnown}

join_each : {A : Type 0} (P : A → Type 0) (xs ys : List A) → AllByRecursion P xs → AllByRecursion P ys → AllByRecursion P (xs ++ ys)
join_each P [] ys a b = b
join_each P (x ∷ xs) ys a b = (a.0, join_each P xs ys a.1 b)

abbrev pub AllBelow : ℕ → List ℕ → Type 0
AllBelow count xs = AllByRecursion (λ s. s < count) xs

pub atom_below : (count : ℕ) (a : Atom) → IsKnownAtom count a → AllBelow count (atom_reads a)
atom_below count (atom.Signal s) h = (h, tt)
atom_below count (atom.Literal l) h = tt

atoms_below : (count : ℕ) (atoms : List Atom) → AllByRecursion (IsKnownAtom count) atoms → AllBelow count (flat_map atom_reads atoms)
atoms_below count [] h = tt
atoms_below count (a ∷ rest) h = join_each (λ s. s < count) (atom_reads a) (flat_map atom_reads rest) (atom_below count a h.0) (atoms_below count rest h.1)

simple_below : (count : ℕ) (x : Simple) → IsKnownSimple count x → AllBelow count (simple_reads x)
simple_below count (simple.Atom a) h = atom_below count a h
simple_below count (simple.Binary _ a b) h = join_each (λ s. s < count) (atom_reads a) (atom_reads b) (atom_below count a h.0) (atom_below count b h.1)
simple_below count (simple.Unary _ a) h = atom_below count a h
simple_below count (simple.Slice s _ _) h = (h, tt)
simple_below count (simple.Concat atoms) h = atoms_below count atoms h

-- what is known reads signals of the module alone
pub reads_below : (count : ℕ) (x : Expr) → IsKnown count x → AllBelow count (reads x)
reads_below count (expr.Simple x) h = simple_below count x h
reads_below count (expr.SignedOrder _ a b) h = (h.0, (h.1, tt))
reads_below count (expr.SignedShift a k) h = (h.0, atom_below count k h.1)
reads_below count (expr.Choice c a b) h =
    join_each (λ s. s < count) (atom_reads c) (simple_reads a ++ simple_reads b) (atom_below count c h.0)
    (join_each (λ s. s < count) (simple_reads a) (simple_reads b) (simple_below count a h.1) (simple_below count b h.2))
