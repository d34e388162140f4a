-- What may be evaluated: expressions that name signals of the module, have literals of at most 128 bits, and fit.
use Rattle.std.specs.Prelude.{◌≡◌, ℕ, ◌<◌, ◌≤◌, List, [], ◌∷◌, true}
use Rattle.std.specs.List.{AllByRecursion}
use Rattle.vlog_tree.specs.declared.expression.Atom.{Atom}
use Rattle.vlog_tree.specs.declared.expression.Atom.TheVariants as atom
use Rattle.vlog_tree.specs.declared.expression.Simple.{Simple}
use Rattle.vlog_tree.specs.declared.expression.Simple.TheVariants as simple
use Rattle.vlog_tree.specs.declared.expression.Expr.{Expr}
use Rattle.vlog_tree.specs.declared.expression.Expr.TheVariants as expr
use Rattle.vlog_tree.specs.declared.module.Assignment.{Assignment}
use Rattle.vlog_tree.specs.Forms.{Widths, simple_fits, fits}

-- it is one of so many signals, or a literal of at most 128 bits
abbrev pub IsKnownAtom : ℕ → Atom → Type 0
IsKnownAtom count (atom.Signal s) = s.0 < count
IsKnownAtom count (atom.Literal literal) = literal.width ≤ 128

abbrev pub IsKnownSimple : ℕ → Simple → Type 0
IsKnownSimple count (simple.Atom a) = IsKnownAtom count a
IsKnownSimple count (simple.Binary _ a b) = IsKnownAtom count a × IsKnownAtom count b
IsKnownSimple count (simple.Unary _ a) = IsKnownAtom count a
IsKnownSimple count (simple.Slice s _ _) = s.0 < count
IsKnownSimple count (simple.Concat atoms) = AllByRecursion (IsKnownAtom count) atoms

abbrev pub IsKnown : ℕ → Expr → Type 0
IsKnown count (expr.Simple x) = IsKnownSimple count x
IsKnown count (expr.SignedOrder _ a b) = (a.0 < count) × (b.0 < count)
IsKnown count (expr.SignedShift a k) = (a.0 < count) × IsKnownAtom count k
IsKnown count (expr.Choice c a b) = IsKnownAtom count c × IsKnownSimple count a × IsKnownSimple count b

-- a simple expression can be evaluated for a target of this width
pub record IsSoundSimple (count : ℕ) (widths : Widths) (width : ℕ) (x : Simple) : Type 0 where
  pub known : IsKnownSimple count x
  pub some_width : 1 ≤ width
  pub most_width : width ≤ 128
  pub fit : simple_fits widths width x ≡ true

-- an expression can be evaluated for a target of this width
pub record IsSoundExpr (count : ℕ) (widths : Widths) (width : ℕ) (x : Expr) : Type 0 where
  pub known : IsKnown count x
  pub some_width : 1 ≤ width
  pub most_width : width ≤ 128
  pub fit : fits widths width x ≡ true

-- an assignment can be taken
pub record IsSoundAssignment (count : ℕ) (widths : Widths) (a : Assignment) : Type 0 where
  pub target : a.target.0 < count
  pub value : IsSoundExpr count widths (widths a.target.0) a.value
