-- A module that can run, and whose names are names of texts, can be written.
use Rattle.std.proofs.Common.{◌≡◌, ◌+◌, ◌-◌, ◌<◌, ◌≤◌, ◌==◌, ◌&&◌, ℕ, zero, suc, true, List, [], ◌∷◌, ◌++◌, map, length, nat_lt, Option, Some, None, All, refl, sym, subst, arith}
use Rattle.std.specs.Prelude.{nat_le, option_map, slice_get, unwrap_or}
use Rattle.std.specs.List.{AllByRecursion}
use Rattle.std.proofs.lemmas.Bool.{eqb-true}
use Rattle.std.proofs.lemmas.Bool.Decides.{nat_tests}
use Rattle.vlog_tree.specs.declared.module.VModule.{VModule}
use Rattle.vlog_tree.specs.declared.module.Port.{Port}
use Rattle.vlog_tree.specs.declared.module.Declaration.{Declaration}
use Rattle.vlog_tree.specs.declared.module.Assignment.{Assignment}
use Rattle.vlog_tree.specs.declared.module.Set.{Set}
use Rattle.vlog_tree.specs.declared.expression.Atom.{Atom}
use Rattle.vlog_tree.specs.declared.expression.Atom.TheVariants as atom
use Rattle.vlog_tree.specs.declared.expression.Simple.{Simple}
use Rattle.vlog_tree.specs.declared.expression.Simple.TheVariants as simple
use Rattle.vlog_tree.specs.declared.expression.Expr.{Expr}
use Rattle.vlog_tree.specs.declared.expression.Expr.TheVariants as expr
use Rattle.vlog_tree.specs.Forms.{atom_width, fits, joined_width, simple_fits}
use Rattle.vlog_tree.specs.Signals.{Declared, declared_own, declared_port, declared_widths, signals}
use Rattle.vlog_tree.specs.Sound.{IsSoundAssignment}
use Rattle.vlog_tree.specs.WellFormed.{CanRun, IsSoundSet}
use Rattle.vlog_text.specs.RoundTrip.Names.{HasTextNames, IsTextName}
use Rattle.vlog_text.proofs.OnRoundTrip.WithSpans.{back_holds, prefix_holds}
use Rattle.vlog_text.proofs.OnRoundTrip.Resolved.{each_of, slice_within, text_is}
use Rattle.vlog_text.proofs.OnRoundTrip.Spelling.{and_first, and_second}
use Rattle.vlog_text.proofs.OnRoundTrip.Words.{AreNamed, IsShort, IsShortExpr, IsWrittenAssignment, IsWrittenDeclaration, IsWrittenModule, IsWrittenPort, IsWrittenSet}

-- ---- each element

by_recursion : {A : Type 0} (P : A → Type 0) (xs : List A) → All P xs → AllByRecursion P xs
by_recursion P [] h = tt
by_recursion P (x ∷ xs) h = (h 0 x (omega arith), by_recursion P xs (λ k d inside. h (suc k) d (omega (arith, inside))))

each_at : {A : Type 0} (P : A → Type 0) (xs : List A) → AllByRecursion P xs → (k : ℕ) (x : A) → slice_get xs k ≡ Some x → P x
each_at P [] h k x e = absurd (cc)
each_at P (y ∷ xs) h zero x e = let same : y ≡ x = cc in subst P same h.0
each_at P (y ∷ xs) h (suc k) x e = each_at P xs h.1 k x e

all_both : {A : Type 0} (P Q : A → Type 0) (xs : List A) → AllByRecursion P xs → AllByRecursion Q xs → AllByRecursion (λ x. P x × Q x) xs
all_both P Q [] h k = tt
all_both P Q (x ∷ xs) h k = ((h.0, k.0), all_both P Q xs h.1 k.1)

-- ---- widths

abbrev IsWidth : ℕ → Type 0
IsWidth w = (1 ≤ w) × (w ≤ 128)

of_ports : (ports : List Port) → AllByRecursion (λ (p : Port). IsWidth p.width) ports → AllByRecursion (λ (d : Declared). IsWidth d.width) (map declared_port ports)
of_ports [] h = tt
of_ports (p ∷ ports) h = (h.0, of_ports ports h.1)

of_own : (ds : List Declaration) → AllByRecursion (λ (d : Declaration). IsWidth d.width) ds → AllByRecursion (λ (d : Declared). IsWidth d.width) (map declared_own ds)
of_own [] h = tt
of_own (d ∷ ds) h = (h.0, of_own ds h.1)

join_all : {A : Type 0} (P : A → Type 0) (xs ys : List A) → AllByRecursion P xs → AllByRecursion P ys → AllByRecursion P (xs ++ ys)
join_all P [] ys h k = k
join_all P (x ∷ xs) ys h k = (h.0, join_all P xs ys h.1 k)

signal_widths : (m : VModule) → CanRun m → AllByRecursion (λ (d : Declared). IsWidth d.width) (signals m)
signal_widths m run =
    join_all (λ (d : Declared). IsWidth d.width) (map declared_port m.ports) (map declared_own m.declarations)
    (of_ports m.ports (by_recursion (λ (p : Port). IsWidth p.width) m.ports run.wired.port_widths))
    (of_own m.declarations (by_recursion (λ (d : Declaration). IsWidth d.width) m.declarations run.wired.own_widths))

width_at : (m : VModule) → CanRun m → (s : ℕ) → IsWidth (declared_widths m s)
width_at m run s = by_find (slice_get (signals m) s) refl
  where
    by_find : (o : Option Declared) → slice_get (signals m) s ≡ o → IsWidth (unwrap_or (option_map (λ (d : Declared). d.width) o) 1)
    by_find None e = (omega arith, omega arith)
    by_find (Some d) e = each_at (λ (x : Declared). IsWidth x.width) (signals m) (signal_widths m run) s d e

-- ---- short numbers

module _ (m : VModule) (run : CanRun m) where
  atom_some : (a : Atom) → 1 ≤ atom_width (declared_widths m) a
  atom_some (atom.Signal s) = (width_at m run s.0).0
  atom_some (atom.Literal l) = l.some_width

  joined_long : (atoms : List Atom) → length atoms ≤ joined_width (declared_widths m) atoms
  joined_long [] = omega arith
  joined_long (a ∷ atoms) = let more = joined_long atoms in let some = atom_some a in omega (arith, more, some)

  short_slice : (s high low width : ℕ) → nat_lt 1 (declared_widths m s) && (nat_le low high && (nat_lt high (declared_widths m s) && (width == high + 1 - low))) ≡ true → (high ≤ 128) × (low ≤ 128)
  short_slice s high low width h =
      let rest = and_second (nat_lt 1 (declared_widths m s)) _ h in
      let ordered = and_first (nat_le low high) _ rest in
      let within = and_first (nat_lt high (declared_widths m s)) _ (and_second (nat_le low high) _ rest) in
      let below : high < declared_widths m s = below_of high (declared_widths m s) within in
      let above : low ≤ high = at_most low high ordered in
      let wide = (width_at m run s).1 in
      (omega (arith, below, wide), omega (arith, above, below, wide))
    where
      below_of : (a b : ℕ) → nat_lt a b ≡ true → a < b
      below_of a b h = grind (arith, nat_tests)

      at_most : (a b : ℕ) → nat_le a b ≡ true → a ≤ b
      at_most a b h = grind (arith, nat_tests)

  some_atoms : (atoms : List Atom) (width : ℕ) → joined_width (declared_widths m) atoms ≡ width → 1 ≤ width → 1 ≤ length atoms
  some_atoms [] width e some = absurd (omega (arith, e, some))
  some_atoms (a ∷ atoms) width e some = omega arith

  short_simple : (width : ℕ) → IsWidth width → (x : Simple) → simple_fits (declared_widths m) width x ≡ true → IsShort x
  short_simple width w (simple.Atom a) h = tt
  short_simple width w (simple.Binary o a b) h = tt
  short_simple width w (simple.Unary o a) h = tt
  short_simple width w (simple.Slice s high low) h = short_slice s.0 high low width h
  short_simple width w (simple.Concat atoms) h =
      let e = eqb-true (joined_width (declared_widths m) atoms) width h in
      let long = joined_long atoms in
      (some_atoms atoms width e w.0, omega (arith, e, long, w.1))

  short_expr : (width : ℕ) → IsWidth width → (x : Expr) → fits (declared_widths m) width x ≡ true → IsShortExpr x
  short_expr width w (expr.Simple x) h = short_simple width w x h
  short_expr width w (expr.SignedOrder o a b) h = tt
  short_expr width w (expr.SignedShift a k) h = tt
  short_expr width w (expr.Choice c a b) h =
      let both = and_second (atom_width (declared_widths m) c == 1) (simple_fits (declared_widths m) width a && simple_fits (declared_widths m) width b) h in (
        short_simple width w a (and_first (simple_fits (declared_widths m) width a) (simple_fits (declared_widths m) width b) both),
        short_simple width w b (and_second (simple_fits (declared_widths m) width a) (simple_fits (declared_widths m) width b) both),
      )

  written_assignment : (a : Assignment) → IsSoundAssignment (length (signals m)) (declared_widths m) a → IsWrittenAssignment m a
  written_assignment a h = (h.target, h.value.known, short_expr (declared_widths m a.target.0) (width_at m run a.target.0) a.value h.value.fit)

  written_set : (set : Set) → IsSoundSet m set → IsWrittenSet m set
  written_set set h = (within (signals m) set.target.0 h.target.0 h.target.1, h.known)
    where
      within : (ds : List Declared) (k : ℕ) (d : Declared) → slice_get ds k ≡ Some d → k < length ds
      within [] k d e = absurd (cc)
      within (x ∷ ds) zero d e = omega arith
      within (x ∷ ds) (suc k) d e = let more = within ds k d e in omega (arith, more)

-- ---- names

ports_named : (ports : List Port) → AllByRecursion (λ (d : Declared). IsTextName d.name) (map declared_port ports) → AllByRecursion (λ (p : Port). IsWidth p.width) ports → AllByRecursion IsWrittenPort ports
ports_named [] h w = tt
ports_named (p ∷ ports) h w = ((w.0.1, h.0), ports_named ports h.1 w.1)

own_named : (ds : List Declaration) → AllByRecursion (λ (d : Declared). IsTextName d.name) (map declared_own ds) → AllByRecursion (λ (d : Declaration). IsWidth d.width) ds → AllByRecursion IsWrittenDeclaration ds
own_named [] h w = tt
own_named (d ∷ ds) h w = ((w.0.1, h.0), own_named ds h.1 w.1)

all_named : (m : VModule) → HasTextNames m → AreNamed m
all_named m names s h =
    let at = slice_within (signals m) s h in
    subst IsTextName (sym (text_is m s at.0 at.1)) (each_at (λ (d : Declared). IsTextName d.name) (signals m) names.all s at.0 at.1)

pub written : (m : VModule) → CanRun m → HasTextNames m → IsWrittenModule m
written m run names = record {
  name = names.own;
  named = all_named m names;
  ports = ports_named m.ports (prefix_holds (λ (d : Declared). IsTextName d.name) (map declared_port m.ports) (map declared_own m.declarations) names.all)
      (by_recursion (λ (p : Port). IsWidth p.width) m.ports run.wired.port_widths);
  declarations = own_named m.declarations (back_holds (λ (d : Declared). IsTextName d.name) (map declared_port m.ports) (map declared_own m.declarations) names.all)
      (by_recursion (λ (d : Declaration). IsWidth d.width) m.declarations run.wired.own_widths);
  assignments = each_of (IsSoundAssignment (length (signals m)) (declared_widths m)) (IsWrittenAssignment m) (written_assignment m run) m.assignments
      (by_recursion (IsSoundAssignment (length (signals m)) (declared_widths m)) m.assignments run.wired.assignments);
  resets = each_of (IsSoundSet m) (IsWrittenSet m) (written_set m run) m.at_reset (by_recursion (IsSoundSet m) m.at_reset run.wired.resets);
  clocks = each_of (IsSoundSet m) (IsWrittenSet m) (written_set m run) m.at_clock (by_recursion (IsSoundSet m) m.at_clock run.wired.clocks);
}
