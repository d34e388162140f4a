-- A module of which no fault is named can be simulated.
use Rattle.std.proofs.Common.{◌≡◌, ◌≢◌, ℕ, zero, suc, ◌+◌, ◌<◌, ◌≤◌, ◌^◌, ◌-◌, Bool, true, false, List, [], ◌∷◌, ◌++◌, map, length, refl, sym, ap, ◌∙◌, subst, get_or, arith}
use Rattle.std.specs.Prelude.{◌&&◌, ◌||◌, ◌==◌, not, nat_lt, nat_le, slice_get, Option, Some, None, option_map, unwrap_or, flat_map, All, if◌then◌else◌, codes}
use Rattle.std.specs.Str.{bytes_eq}
use Rattle.std.specs.List.{AllByRecursion, list_any, list_all}
use Rattle.std.proofs.lemmas.Bool.{ltb-true, ltb-false, eqb-true, eq-eqb, lt-ltb}
use Rattle.std.proofs.lemmas.List.Elements.{All-nil, All-cons}
use Rattle.std.proofs.lemmas.List.Folds.{list_any-append}
use Rattle.std.proofs.lemmas.Option.{slice_get_within}
use Rattle.base.proofs.Lemmas.Lists.Indices.{slice_get-append_left, slice_get-append_right}
use Rattle.xb_span.specs.declared.fault.Fault.{Fault}
use Rattle.xb_span.specs.Fault.{precedes, earlier}
use Rattle.vlog_tree.specs.declared.module.VModule.{VModule}
use Rattle.vlog_tree.specs.declared.module.Port.{Port}
use Rattle.vlog_tree.specs.declared.module.Declaration.{Declaration}
use Rattle.vlog_tree.specs.declared.module.Direction.{Direction}
use Rattle.vlog_tree.specs.declared.module.Direction.TheVariants.{Input, Output}
use Rattle.vlog_tree.specs.declared.module.Assignment.{Assignment}
use Rattle.vlog_tree.specs.declared.module.Set.{Set}
use Rattle.vlog_tree.specs.declared.expression.Atom.{Atom}
use Rattle.vlog_tree.specs.declared.expression.Atom.TheVariants as atom
use Rattle.vlog_tree.specs.declared.expression.Simple.{Simple}
use Rattle.vlog_tree.specs.declared.expression.Simple.TheVariants as simple
use Rattle.vlog_tree.specs.declared.expression.Expr.{Expr}
use Rattle.vlog_tree.specs.declared.expression.Expr.TheVariants as expr
use Rattle.vlog_tree.specs.declared.signal.Role.{Role}
use Rattle.vlog_tree.specs.declared.signal.Role.TheVariants.{InputSignal, WireSignal, RegisterSignal}
use Rattle.vlog_tree.specs.Signals.{Declared, IsSignal, signals, declared_port, declared_own, declared_widths}
use Rattle.vlog_tree.specs.Forms.{Widths, atom_width, atom_reads, simple_reads, reads, atom_literals, simple_literals, literals, fits}
use Rattle.vlog_tree.specs.Sound.{IsKnownAtom, IsKnownSimple, IsKnown, IsSoundAssignment}
use Rattle.vlog_tree.specs.WellFormed.{ReadsThrough, reads_it, by_way, DriveApart, IsSoundSet, AreChannelPorts, HasPorts, IsWired, CanRun}
use Rattle.vlog_tree.specs.Settled.{AreAllDriven, DrivesWires, IsUndriven}
use Rattle.vlog_tree.specs.declared.verifier.part_spans.PartSpans.{PartSpans}
use Rattle.vlog_tree.specs.Verifier.Checks.{PartCheck, note, noted, walk, width_at, seen_after}
use Rattle.vlog_tree.specs.Verifier.WithSpans.{signal_span}
use Rattle.vlog_tree.specs.Verifier.Ports.{Due, Clock, Reset, Data, Valid, Ready, is_input, same_direction, is_bit_input, continues, port_fits, due_behind, may_end}
use Rattle.vlog_tree.specs.Verifier.Parts.{
  is_among,
  is_listed,
  count_of,
  is_target,
  are_declared,
  role_at,
  is_driven,
  bars_assignment,
  bars_set,
  signal_checks,
  see_name,
  port_checks,
  is_declared_assignment,
  assignment_checks,
  see_target,
  is_declared_set,
  set_checks,
  see_set,
}
use Rattle.vlog_tree.specs.Verifier.Loops.{IsWire, ReadsWire, Depends, direct}
use Rattle.vlog_tree.specs.Verifier.Loops as loops
use Rattle.vlog_tree.specs.Verifier.Verified.{targets, set_targets, signals_checks, ports_checks, end_check, assignments_checks, resets_checks, clocks_checks, set_literals, module_literals, literals_checks, module_checks, Loops, none, first, IsVerdict}
use Rattle.xb_span.specs.declared.span.Span.{Span}
use Rattle.xb_span.specs.Spans.{nowhere}

-- ---- no fault is there

abbrev AreClear : List PartCheck → Type 0
AreClear cs = AllByRecursion (λ c. c.broken ≡ false) cs

named_earlier : (held : Option Fault) (f : Fault) → earlier held f ≢ None
named_earlier None f e = cc
named_earlier (Some g) f e = go (precedes f g) refl
  where
    go : (b : Bool) → precedes f g ≡ b → ⊥
    go true p = let w : Some f ≡ None = rw p at e in cc
    go false p = let w : Some g ≡ None = rw p at e in cc

clear_from : (cs : List PartCheck) (held : Option Fault) → noted held cs ≡ None → (held ≡ None) × AreClear cs
clear_from [] held e = (e, tt)
clear_from (c ∷ cs) held e = let rest = clear_from cs (note c.broken c.fault held) e in go c.broken refl rest.0 rest.1
  where
    go : (b : Bool) → c.broken ≡ b → note c.broken c.fault held ≡ None → AreClear cs → (held ≡ None) × AreClear (c ∷ cs)
    go true p n clear = absurd (named_earlier held c.fault (ap (λ b. note b c.fault held) (sym p) ∙ n))
    go false p n clear = (ap (λ b. note b c.fault held) (sym p) ∙ n, (p, clear))

prefix_clear : (xs ys : List PartCheck) → AreClear (xs ++ ys) → AreClear xs
prefix_clear [] ys h = tt
prefix_clear (x ∷ xs) ys h = (h.0, prefix_clear xs ys h.1)

back_clear : (xs ys : List PartCheck) → AreClear (xs ++ ys) → AreClear ys
back_clear [] ys h = h
back_clear (x ∷ xs) ys h = back_clear xs ys h.1

-- ---- tests

both : (a b : Bool) → (a && b) ≡ true → (a ≡ true) × (b ≡ true)
both true b h = (refl, h)
both false b h = cc

no_not : (b : Bool) → not b ≡ false → b ≡ true
no_not true h = refl
no_not false h = cc

neither : (a b : Bool) → (a || b) ≡ false → (a ≡ false) × (b ≡ false)
neither true b h = cc
neither false b h = (refl, h)

below_of : (count : ℕ) (xs : List ℕ) → are_declared count xs ≡ true → AllByRecursion (λ s. s < count) xs
below_of count [] h = tt
below_of count (x ∷ xs) h = let w = both (nat_lt x count) (are_declared count xs) h in (ltb-true x count w.0, below_of count xs w.1)

-- ---- widths of signals

record HasWidth (d : Declared) : Type 0 where
  some_width : 1 ≤ d.width
  most_width : d.width ≤ 128

declared_wide : (m : VModule) (s : ℕ) (d : Declared) → IsSignal m s d → 1 ≤ d.width
declared_wide m s d at = ports m.ports s at
  where
    own : (ds : List Declaration) (s : ℕ) → slice_get (map declared_own ds) s ≡ Some d → 1 ≤ d.width
    own [] s h = cc
    own (x ∷ xs) zero h = let same : declared_own x ≡ d = cc in subst (λ e. 1 ≤ e.width) same x.some_width
    own (x ∷ xs) (suc s) h = own xs s h

    ports : (ps : List Port) (s : ℕ) → slice_get (map declared_port ps ++ map declared_own m.declarations) s ≡ Some d → 1 ≤ d.width
    ports [] s h = own m.declarations s h
    ports (p ∷ ps) zero h = let same : declared_port p ≡ d = cc in subst (λ e. 1 ≤ e.width) same p.some_width
    ports (p ∷ ps) (suc s) h = ports ps s h

not_over : (w : ℕ) → nat_lt 128 w ≡ false → w ≤ 128
not_over w h = ltb-false 128 w h

signals_wide : (m : VModule) (part_spans : PartSpans) (names : List (List ℕ)) (i : ℕ) (ds : List Declared)
    → AreClear (walk (λ names s d. signal_checks m (targets m.assignments) (signal_span m part_spans s) names s d) see_name names i ds)
    → (s : ℕ) (d : Declared) → slice_get ds s ≡ Some d → d.width ≤ 128
signals_wide m part_spans names i [] h s d at = cc
signals_wide m part_spans names i (x ∷ xs) h zero d at = let same : x ≡ d = cc in subst (λ e. e.width ≤ 128) same (not_over x.width h.1.1.0)
signals_wide m part_spans names i (x ∷ xs) h (suc s) d at = signals_wide m part_spans (see_name names x) (suc i) xs h.1.1.1 s d at

-- ---- each wire has a driver

both_false : (a b : Bool) → (a && not b) ≡ false → a ≡ true → b ≡ true
both_false true b h e = no_not b h
both_false false b h e = cc

signals_driven : (m : VModule) (part_spans : PartSpans) (names : List (List ℕ)) (i : ℕ) (ds : List Declared)
    → AreClear (walk (λ names s d. signal_checks m (targets m.assignments) (signal_span m part_spans s) names s d) see_name names i ds)
    → (s j : ℕ) (d : Declared) → j ≡ i + s → slice_get ds s ≡ Some d → d.role ≡ WireSignal → is_target (count_of m) (targets m.assignments) j ≡ true
signals_driven m part_spans names i [] h s j d at_j at role = cc
signals_driven m part_spans names i (x ∷ xs) h zero j d at_j at role =
    let same : x ≡ d = cc in
    let here : j ≡ i = omega arith in
    let is : is_driven (Some x.role) ≡ true = ap (λ (e : Declared). is_driven (Some e.role)) same ∙ ap (λ r. is_driven (Some r)) role in
    ap (is_target (count_of m) (targets m.assignments)) here ∙ both_false (is_driven (Some x.role)) (is_target (count_of m) (targets m.assignments) i) h.1.0 is
signals_driven m part_spans names i (x ∷ xs) h (suc s) j d at_j at role =
    signals_driven m part_spans (see_name names x) (suc i) xs h.1.1.1 s j d (omega arith) at role

undriven_unlisted : (xs : List Assignment) (s : ℕ) → IsUndriven xs s → is_listed (targets xs) s ≡ false
undriven_unlisted [] s h = refl
undriven_unlisted (x ∷ xs) s h = go (x.target.0 == s) refl (undriven_unlisted xs s h.1)
  where
    go : (b : Bool) → (x.target.0 == s) ≡ b → is_listed (targets xs) s ≡ false → (b || is_listed (targets xs) s) ≡ false
    go true e rest = absurd (h.0 (eqb-true x.target.0 s e))
    go false e rest = rest

all_driven : (m : VModule) (part_spans : PartSpans) → AreClear (signals_checks m part_spans) → AreAllDriven m
all_driven m part_spans clear s d is role undriven =
    let target = signals_driven m part_spans [] 0 (signals m) clear s s d (omega arith) is role in
    let listed = (both (nat_lt s (count_of m)) (is_listed (targets m.assignments) s) target).1 in
    let wrong : true ≡ false = sym listed ∙ undriven_unlisted m.assignments s undriven in cc

-- ---- literals

abbrev AreNarrow : List ℕ → Type 0
AreNarrow ws = AllByRecursion (λ w. w ≤ 128) ws

narrow_of : (part_spans : PartSpans) (seen i : ℕ) (ws : List ℕ) → AreClear (walk (λ _ i width. width_at (get_or part_spans.literals i 0) width ∷ []) (λ (seen : ℕ) _. seen) seen i ws) → AreNarrow ws
narrow_of part_spans seen i [] h = tt
narrow_of part_spans seen i (w ∷ ws) h = (not_over w h.0, narrow_of part_spans seen (suc i) ws h.1)

narrow_prefix : (xs ys : List ℕ) → AreNarrow (xs ++ ys) → AreNarrow xs
narrow_prefix [] ys h = tt
narrow_prefix (x ∷ xs) ys h = (h.0, narrow_prefix xs ys h.1)

narrow_back : (xs ys : List ℕ) → AreNarrow (xs ++ ys) → AreNarrow ys
narrow_back [] ys h = h
narrow_back (x ∷ xs) ys h = narrow_back xs ys h.1

known_atom : (count : ℕ) (a : Atom) → AllByRecursion (λ s. s < count) (atom_reads a) → AreNarrow (atom_literals a) → IsKnownAtom count a
known_atom count (atom.Signal s) r l = r.0
known_atom count (atom.Literal x) r l = l.0

below_prefix : (count : ℕ) (xs ys : List ℕ) → AllByRecursion (λ s. s < count) (xs ++ ys) → AllByRecursion (λ s. s < count) xs
below_prefix count [] ys h = tt
below_prefix count (x ∷ xs) ys h = (h.0, below_prefix count xs ys h.1)

below_back : (count : ℕ) (xs ys : List ℕ) → AllByRecursion (λ s. s < count) (xs ++ ys) → AllByRecursion (λ s. s < count) ys
below_back count [] ys h = h
below_back count (x ∷ xs) ys h = below_back count xs ys h.1

known_atoms : (count : ℕ) (xs : List Atom) → AllByRecursion (λ s. s < count) (flat_map atom_reads xs) → AreNarrow (flat_map atom_literals xs) → AllByRecursion (IsKnownAtom count) xs
known_atoms count [] r l = tt
known_atoms count (x ∷ xs) r l = (
  known_atom count x (below_prefix count (atom_reads x) (flat_map atom_reads xs) r) (narrow_prefix (atom_literals x) (flat_map atom_literals xs) l),
  known_atoms count xs (below_back count (atom_reads x) (flat_map atom_reads xs) r) (narrow_back (atom_literals x) (flat_map atom_literals xs) l),
)

known_simple : (count : ℕ) (x : Simple) → AllByRecursion (λ s. s < count) (simple_reads x) → AreNarrow (simple_literals x) → IsKnownSimple count x
known_simple count (simple.Atom a) r l = known_atom count a r l
known_simple count (simple.Binary _ a b) r l = (
  known_atom count a (below_prefix count (atom_reads a) (atom_reads b) r) (narrow_prefix (atom_literals a) (atom_literals b) l),
  known_atom count b (below_back count (atom_reads a) (atom_reads b) r) (narrow_back (atom_literals a) (atom_literals b) l),
)
known_simple count (simple.Unary _ a) r l = known_atom count a r l
known_simple count (simple.Slice s _ _) r l = r.0
known_simple count (simple.Concat xs) r l = known_atoms count xs r l

known_expr : (count : ℕ) (x : Expr) → AllByRecursion (λ s. s < count) (reads x) → AreNarrow (literals x) → IsKnown count x
known_expr count (expr.Simple x) r l = known_simple count x r l
known_expr count (expr.SignedOrder _ a b) r l = (r.0, r.1.0)
known_expr count (expr.SignedShift a k) r l = (r.0, known_atom count k r.1 l)
known_expr count (expr.Choice c a b) r l = (
  known_atom count c (below_prefix count (atom_reads c) (simple_reads a ++ simple_reads b) r) (narrow_prefix (atom_literals c) (simple_literals a ++ simple_literals b) l),
  known_simple count a (below_prefix count (simple_reads a) (simple_reads b) (below_back count (atom_reads c) (simple_reads a ++ simple_reads b) r))
      (narrow_prefix (simple_literals a) (simple_literals b) (narrow_back (atom_literals c) (simple_literals a ++ simple_literals b) l)),
  known_simple count b (below_back count (simple_reads a) (simple_reads b) (below_back count (atom_reads c) (simple_reads a ++ simple_reads b) r))
      (narrow_back (simple_literals a) (simple_literals b) (narrow_back (atom_literals c) (simple_literals a ++ simple_literals b) l)),
)

-- ---- a declared signal

record IsThere (m : VModule) (s : ℕ) : Type 0 where
  one : Declared
  at : IsSignal m s one

there_of : (m : VModule) (s : ℕ) → s < count_of m → IsThere m s
there_of m s h = go (slice_get (signals m) s) refl
  where
    past : (ds : List Declared) (s : ℕ) → s < length ds → slice_get ds s ≢ None
    past [] s h e = absurd (omega arith)
    past (d ∷ ds) zero h e = cc
    past (d ∷ ds) (suc s) h e = past ds s (omega arith) e

    go : (o : Option Declared) → slice_get (signals m) s ≡ o → IsThere m s
    go (Some d) e = record { one = d; at = e }
    go None e = absurd (past (signals m) s h e)

role_is : (m : VModule) (s : ℕ) (d : Declared) → IsSignal m s d → role_at m s ≡ Some d.role
role_is m s d at = ap (option_map (λ (d : Declared). d.role)) at

width_is : (m : VModule) (s : ℕ) (d : Declared) → IsSignal m s d → declared_widths m s ≡ d.width
width_is m s d at = ap (λ o. unwrap_or (option_map (λ (d : Declared). d.width) o) 1) at

driven_role : (r : Role) → bars_assignment (Some r) ≡ false → r ≡ WireSignal
driven_role InputSignal h = cc
driven_role WireSignal h = refl
driven_role RegisterSignal h = cc

held_role : (r : Role) → bars_set (Some r) ≡ false → r ≡ RegisterSignal
held_role InputSignal h = cc
held_role WireSignal h = cc
held_role RegisterSignal h = refl

-- ---- assignments

abbrev AllWide : VModule → Type 0
AllWide m = (s : ℕ) (d : Declared) → IsSignal m s d → d.width ≤ 128

record IsGood (m : VModule) (a : Assignment) : Type 0 where
  sound : IsSoundAssignment (count_of m) (declared_widths m) a
  drives : (d : Declared) × IsSignal m a.target.0 d × (d.role ≡ WireSignal)

abbrev assignment_walk : VModule → PartSpans → List ℕ → ℕ → List Assignment → List PartCheck
assignment_walk m part_spans earlier i xs = walk (λ earlier i a. assignment_checks m (get_or part_spans.assignments i nowhere) earlier a) see_target earlier i xs

good_of : (m : VModule) (span : Span) (earlier : List ℕ) (a : Assignment) → AllWide m → AreClear (assignment_checks m span earlier a) → AreNarrow (literals a.value) → IsGood m a
good_of m span earlier a wide clear narrow =
    let known = no_not (is_declared_assignment (count_of m) a) clear.0 in
    let parts = both (nat_lt a.target.0 (count_of m)) (are_declared (count_of m) (reads a.value)) known in
    let inside = ltb-true a.target.0 (count_of m) parts.0 in
    let there = there_of m a.target.0 inside in
    let width = width_is m a.target.0 there.one there.at in
    let some = declared_wide m a.target.0 there.one there.at in
    let most = wide a.target.0 there.one there.at in
    record {
      sound = record {
        target = inside;
        value = record {
          known = known_expr (count_of m) a.value (below_of (count_of m) (reads a.value) parts.1) narrow;
          some_width = omega (arith, width, some);
          most_width = omega (arith, width, most);
          fit = fit known clear.1.1.1.0;
        };
      };
      drives = (there.one, there.at, driven_role there.one.role (sym (ap bars_assignment (role_is m a.target.0 there.one there.at)) ∙ clear.1.0));
    }
  where
    fit : is_declared_assignment (count_of m) a ≡ true → (is_declared_assignment (count_of m) a && not (fits (declared_widths m) (declared_widths m a.target.0) a.value)) ≡ false
        → fits (declared_widths m) (declared_widths m a.target.0) a.value ≡ true
    fit known h = no_not (fits (declared_widths m) (declared_widths m a.target.0) a.value) (sym (ap (λ b. b && not (fits (declared_widths m) (declared_widths m a.target.0) a.value)) known) ∙ h)

all_good : (m : VModule) (part_spans : PartSpans) (earlier : List ℕ) (i : ℕ) (xs : List Assignment) → AllWide m → AreClear (assignment_walk m part_spans earlier i xs)
    → AreNarrow (flat_map (λ (a : Assignment). literals a.value) xs) → AllByRecursion (IsGood m) xs
all_good m part_spans earlier i [] wide clear narrow = tt
all_good m part_spans earlier i (a ∷ xs) wide clear narrow =
    let here = assignment_checks m (get_or part_spans.assignments i nowhere) earlier a in (
      good_of m (get_or part_spans.assignments i nowhere) earlier a wide (prefix_clear here (assignment_walk m part_spans (see_target earlier a) (suc i) xs) clear) (narrow_prefix (literals a.value) (flat_map (λ (a : Assignment). literals a.value) xs) narrow),
      all_good m part_spans (see_target earlier a) (suc i) xs wide (back_clear here (assignment_walk m part_spans (see_target earlier a) (suc i) xs) clear) (narrow_back (literals a.value) (flat_map (λ (a : Assignment). literals a.value) xs) narrow),
    )

all_sound : (m : VModule) (xs : List Assignment) → AllByRecursion (IsGood m) xs → All (IsSoundAssignment (count_of m) (declared_widths m)) xs
all_sound m [] h = All-nil (IsSoundAssignment (count_of m) (declared_widths m))
all_sound m (x ∷ xs) h = All-cons (IsSoundAssignment (count_of m) (declared_widths m)) x xs h.0.sound (all_sound m xs h.1)

all_drive : (m : VModule) (xs : List Assignment) → AllByRecursion (IsGood m) xs → DrivesWires m xs
all_drive m [] h = tt
all_drive m (x ∷ xs) h = (h.0.drives, all_drive m xs h.1)

-- no target is one of the earlier ones, or of the list twice
listed_prefix : (xs ys : List ℕ) (t : ℕ) → is_listed (xs ++ ys) t ≡ false → is_listed xs t ≡ false
listed_prefix xs ys t h = (neither (is_listed xs t) (is_listed ys t) (sym (list_any-append (λ x. x == t) xs ys) ∙ h)).0

listed_back : (xs ys : List ℕ) (t : ℕ) → is_listed (xs ++ ys) t ≡ false → is_listed ys t ≡ false
listed_back xs ys t h = (neither (is_listed xs t) (is_listed ys t) (sym (list_any-append (λ x. x == t) xs ys) ∙ h)).1

unlisted : (m : VModule) (part_spans : PartSpans) (earlier : List ℕ) (i : ℕ) (xs : List Assignment) → AllByRecursion (IsGood m) xs → AreClear (assignment_walk m part_spans earlier i xs)
    → (j : ℕ) (b : Assignment) → slice_get xs j ≡ Some b → is_listed earlier b.target.0 ≡ false
unlisted m part_spans earlier i [] good clear j b at = cc
unlisted m part_spans earlier i (a ∷ xs) good clear zero b at =
    let same : a ≡ b = cc in
    let here = prefix_clear (assignment_checks m (get_or part_spans.assignments i nowhere) earlier a) (assignment_walk m part_spans (see_target earlier a) (suc i) xs) clear in
    let inside = lt-ltb a.target.0 (count_of m) good.0.sound.target in
    subst (λ x. is_listed earlier x.target.0 ≡ false) same (sym (ap (λ b. b && is_listed earlier a.target.0) inside) ∙ here.1.1.0)
unlisted m part_spans earlier i (a ∷ xs) good clear (suc j) b at =
    listed_prefix earlier (a.target.0 ∷ []) b.target.0
    (unlisted m part_spans (see_target earlier a) (suc i) xs good.1 (back_clear (assignment_checks m (get_or part_spans.assignments i nowhere) earlier a) (assignment_walk m part_spans (see_target earlier a) (suc i) xs) clear) j b at)

differs : (t u : ℕ) → is_listed (t ∷ []) u ≡ false → t ≡ u → ⊥
differs t u h e = let w = neither (t == u) false h in let yes = eq-eqb t u e in let wrong : true ≡ false = sym yes ∙ w.0 in cc

clash : (m : VModule) (part_spans : PartSpans) (earlier : List ℕ) (i : ℕ) (x : Assignment) (xs : List Assignment) → AllByRecursion (IsGood m) (x ∷ xs) → AreClear (assignment_walk m part_spans earlier i (x ∷ xs))
    → (q : ℕ) (b : Assignment) → slice_get xs q ≡ Some b → x.target.0 ≡ b.target.0 → ⊥
clash m part_spans earlier i x xs good clear q b bt same =
    let rest = back_clear (assignment_checks m (get_or part_spans.assignments i nowhere) earlier x) (assignment_walk m part_spans (see_target earlier x) (suc i) xs) clear in
    differs x.target.0 b.target.0 (listed_back earlier (x.target.0 ∷ []) b.target.0 (unlisted m part_spans (see_target earlier x) (suc i) xs good.1 rest q b bt)) same

apart_of : (m : VModule) (part_spans : PartSpans) (earlier : List ℕ) (i : ℕ) (xs : List Assignment) → AllByRecursion (IsGood m) xs → AreClear (assignment_walk m part_spans earlier i xs) → DriveApart xs
apart_of m part_spans earlier i [] good clear p q a b at bt same = cc
apart_of m part_spans earlier i (x ∷ xs) good clear zero zero a b at bt same = refl
apart_of m part_spans earlier i (x ∷ xs) good clear zero (suc q) a b at bt same =
    let one : x ≡ a = cc in absurd (clash m part_spans earlier i x xs good clear q b bt (ap (λ y. y.target.0) one ∙ same))
apart_of m part_spans earlier i (x ∷ xs) good clear (suc p) zero a b at bt same =
    let one : x ≡ b = cc in absurd (clash m part_spans earlier i x xs good clear p a at (ap (λ y. y.target.0) one ∙ sym same))
apart_of m part_spans earlier i (x ∷ xs) good clear (suc p) (suc q) a b at bt same =
    ap suc (apart_of m part_spans (see_target earlier x) (suc i) xs good.1 (back_clear (assignment_checks m (get_or part_spans.assignments i nowhere) earlier x) (assignment_walk m part_spans (see_target earlier x) (suc i) xs) clear) p q a b at bt same)

-- ---- sets

set_of : (m : VModule) (is_reset : Bool) (others : List ℕ) (span : Span) (earlier : List ℕ) (set : Set) → AreClear (set_checks m is_reset others span earlier set) → AreNarrow (atom_literals set.value) → IsSoundSet m set
set_of m is_reset others span earlier set clear narrow =
    let known = no_not (is_declared_set (count_of m) set) clear.0 in
    let parts = both (nat_lt set.target.0 (count_of m)) (are_declared (count_of m) (atom_reads set.value)) known in
    let there = there_of m set.target.0 (ltb-true set.target.0 (count_of m) parts.0) in
    let right = neither (bars_set (role_at m set.target.0) || (nat_lt set.target.0 (count_of m) && not (is_target (count_of m) others set.target.0))) _ clear.1.0 in
    let register = neither (bars_set (role_at m set.target.0)) _ right.0 in
    record {
      target = (there.one, there.at, held_role there.one.role (sym (ap bars_set (role_is m set.target.0 there.one there.at)) ∙ register.0));
      known = known_atom (count_of m) set.value (below_of (count_of m) (atom_reads set.value) parts.1) narrow;
      fit = fit known clear.1.1.1.0;
    }
  where
    fit : is_declared_set (count_of m) set ≡ true → (is_declared_set (count_of m) set && not (atom_width (declared_widths m) set.value == declared_widths m set.target.0)) ≡ false
        → atom_width (declared_widths m) set.value ≡ declared_widths m set.target.0
    fit known h = eqb-true (atom_width (declared_widths m) set.value) (declared_widths m set.target.0)
        (no_not (atom_width (declared_widths m) set.value == declared_widths m set.target.0) (sym (ap (λ b. b && not (atom_width (declared_widths m) set.value == declared_widths m set.target.0)) known) ∙ h))

abbrev set_walk : VModule → Bool → List ℕ → List Span → List ℕ → ℕ → List Set → List PartCheck
set_walk m is_reset others spans earlier i xs = walk (λ earlier i set. set_checks m is_reset others (get_or spans i nowhere) earlier set) see_set earlier i xs

all_set : (m : VModule) (is_reset : Bool) (others : List ℕ) (spans : List Span) (earlier : List ℕ) (i : ℕ) (xs : List Set) → AreClear (set_walk m is_reset others spans earlier i xs) → AreNarrow (set_literals xs) → All (IsSoundSet m) xs
all_set m is_reset others spans earlier i [] clear narrow = All-nil (IsSoundSet m)
all_set m is_reset others spans earlier i (x ∷ xs) clear narrow =
    let here = set_checks m is_reset others (get_or spans i nowhere) earlier x in
    let rest = set_walk m is_reset others spans (see_set earlier x) (suc i) xs in
    All-cons (IsSoundSet m) x xs
    (set_of m is_reset others (get_or spans i nowhere) earlier x (prefix_clear here rest clear) (narrow_prefix (atom_literals x.value) (set_literals xs) narrow))
    (all_set m is_reset others spans (see_set earlier x) (suc i) xs (back_clear here rest clear) (narrow_back (atom_literals x.value) (set_literals xs) narrow))

-- ---- ports

abbrev port_walk : PartSpans → Due → ℕ → List Port → List PartCheck
port_walk part_spans due i xs = walk (λ due i p. port_checks (get_or part_spans.ports i nowhere) due p) due_behind due i xs

same_is : (a b : Direction) → same_direction a b ≡ true → b ≡ a
same_is Input Input h = refl
same_is Input Output h = cc
same_is Output Input h = cc
same_is Output Output h = refl

other_is : (a b : Direction) → not (same_direction a b) ≡ true → b ≢ a
other_is Input Input h e = cc
other_is Input Output h e = cc
other_is Output Input h e = cc
other_is Output Output h e = cc

input_is : (a : Direction) → is_input a ≡ true → a ≡ Input
input_is Input h = refl
input_is Output h = cc

channels_of_clear : (part_spans : PartSpans) (i : ℕ) (ps : List Port) → AreClear (port_walk part_spans Data i ps) → may_end (seen_after due_behind Data ps) ≡ true → AreChannelPorts ps
channels_of_clear part_spans i [] clear end = tt
channels_of_clear part_spans i (d ∷ []) clear end = cc
channels_of_clear part_spans i (d ∷ v ∷ []) clear end = cc
channels_of_clear part_spans i (d ∷ v ∷ r ∷ ps) clear end =
    let valid = both (continues (length d.name - 5) d.name (codes "_vld") v.name) _ (no_not (port_fits (Valid d) v) clear.1.0) in
    let valid_rest = both (same_direction d.direction v.direction) (v.width == 1) valid.1 in
    let ready = both (continues (length d.name - 5) d.name (codes "_rdy") r.name) _ (no_not (port_fits (Ready d) r) clear.1.1.0) in
    let ready_rest = both (not (same_direction d.direction r.direction)) (r.width == 1) ready.1 in (
      same_is d.direction v.direction valid_rest.0,
      other_is d.direction r.direction ready_rest.0,
      eqb-true v.width 1 valid_rest.1,
      eqb-true r.width 1 ready_rest.1,
      channels_of_clear part_spans (suc (suc (suc i))) ps clear.1.1.1 end,
    )

has_ports : (m : VModule) (part_spans : PartSpans) (ps : List Port) → m.ports ≡ ps → AreClear (port_walk part_spans Clock 0 ps) → may_end (seen_after due_behind Clock ps) ≡ true → HasPorts m
has_ports m part_spans [] is clear end = cc
has_ports m part_spans (c ∷ []) is clear end = cc
has_ports m part_spans (c ∷ r ∷ ps) is clear end =
    let clock = both (bytes_eq c.name (codes "clk")) _ (no_not (port_fits Clock c) clear.0) in
    let clock_rest = both (is_input c.direction) (c.width == 1) clock.1 in
    let reset = both (bytes_eq r.name (codes "rst")) _ (no_not (port_fits Reset r) clear.1.0) in
    let reset_rest = both (is_input r.direction) (r.width == 1) reset.1 in
    record {
      clock = c;
      reset = r;
      channels = ps;
      are = is;
      clock_in = input_is c.direction clock_rest.0;
      clock_wide = eqb-true c.width 1 clock_rest.1;
      reset_in = input_is r.direction reset_rest.0;
      reset_wide = eqb-true r.width 1 reset_rest.1;
      rest = channels_of_clear part_spans 2 ps clear.1.1 end;
    }

port_widths : (ps qs : List Declared) (xs : List Port) → ((s : ℕ) (d : Declared) → slice_get (map declared_port xs ++ qs) s ≡ Some d → d.width ≤ 128) → All (λ p. (1 ≤ p.width) × (p.width ≤ 128)) xs
port_widths ps qs [] h = All-nil (λ (p : Port). (1 ≤ p.width) × (p.width ≤ 128))
port_widths ps qs (x ∷ xs) h = All-cons (λ (p : Port). (1 ≤ p.width) × (p.width ≤ 128)) x xs (x.some_width, h 0 (declared_port x) refl) (port_widths ps qs xs (λ s d at. h (suc s) d at))

own_widths : (xs : List Declaration) → ((s : ℕ) (d : Declared) → slice_get (map declared_own xs) s ≡ Some d → d.width ≤ 128) → All (λ d. (1 ≤ d.width) × (d.width ≤ 128)) xs
own_widths [] h = All-nil (λ (d : Declaration). (1 ≤ d.width) × (d.width ≤ 128))
own_widths (x ∷ xs) h = All-cons (λ (d : Declaration). (1 ≤ d.width) × (d.width ≤ 128)) x xs (x.some_width, h 0 (declared_own x) refl) (own_widths xs (λ s d at. h (suc s) d at))

behind_ports : (ps : List Port) (qs : List Declared) → ((s : ℕ) (d : Declared) → slice_get (map declared_port ps ++ qs) s ≡ Some d → d.width ≤ 128) → (s : ℕ) (d : Declared) → slice_get qs s ≡ Some d → d.width ≤ 128
behind_ports [] qs h = h
behind_ports (p ∷ ps) qs h = behind_ports ps qs (λ s d at. h (suc s) d at)

-- ---- wires that depend on themselves

drives_at : (m : VModule) (xs : List Assignment) → DrivesWires m xs → (i : ℕ) (a : Assignment) → slice_get xs i ≡ Some a → IsWire m a.target.0
drives_at m [] h i a at = cc
drives_at m (x ∷ xs) h zero a at = let same : x ≡ a = cc in subst (λ y. IsWire m y.target.0) same h.0
drives_at m (x ∷ xs) h (suc i) a at = drives_at m xs h.1 i a at

record IsSource (m : VModule) (t : ℕ) : Type 0 where
  at : ℕ
  a : Assignment
  stands : slice_get m.assignments at ≡ Some a
  target : a.target.0 ≡ t

source_of : (m : VModule) (t s : ℕ) → ReadsThrough m t s → IsSource m t
source_of m _ _ (reads_it i k s a at r) = record { at = i; a = a; stands = at; target = refl }
source_of m _ _ (by_way t u s x y) = source_of m t u x

source_wire : (m : VModule) → DrivesWires m m.assignments → (t : ℕ) → IsSource m t → IsWire m t
source_wire m drives t source = subst (IsWire m) source.target (drives_at m m.assignments drives source.at source.a source.stands)

joined : (m : VModule) (t u s : ℕ) → Depends m t u → Depends m u s → Depends m t s
joined m t u s (direct _ _ r) more = loops.by_way t u s r more
joined m t u s (loops.by_way _ v _ r rest) more = loops.by_way t v s r (joined m v u s rest more)

depends_by : (m : VModule) → DrivesWires m m.assignments → (t s : ℕ) → ReadsThrough m t s → IsWire m s → Depends m t s
depends_by m drives _ _ (reads_it i k s a at r) wire =
    direct a.target.0 s (record { at = i; k = k; assignment = a; stands = at; target = refl; read = r; reader = drives_at m m.assignments drives i a at; wire = wire })
depends_by m drives _ _ (by_way t u s x y) wire =
    joined m t u s (depends_by m drives t u x (source_wire m drives u (source_of m u s y))) (depends_by m drives u s y wire)

acyclic_of : (m : VModule) → DrivesWires m m.assignments → ((i : ℕ) (a : Assignment) → slice_get m.assignments i ≡ Some a → ¬ (Depends m a.target.0 a.target.0)) → (s : ℕ) → ¬ (ReadsThrough m s s)
acyclic_of m drives free s r =
    let source = source_of m s s r in
    let depends = depends_by m drives s s r (source_wire m drives s source) in
    free source.at source.a source.stands (subst (λ t. Depends m t t) (sym source.target) depends)

-- ---- the whole

no_loops : (m : VModule) (part_spans : PartSpans) (loops : List PartCheck) → Loops m part_spans loops → AreClear loops → (i : ℕ) (a : Assignment) → slice_get m.assignments i ≡ Some a → ¬ (Depends m a.target.0 a.target.0)
no_loops m part_spans _ (none free) clear = free
no_loops m part_spans _ (first i a at d before) clear = let wrong : true ≡ false = clear.0 in cc

pub can_run : (m : VModule) (part_spans : PartSpans) → IsVerdict m part_spans None → length m.assignments < 2 ^ 32 → CanRun m
unfolding module_checks
can_run m part_spans judged few =
    let clear = (clear_from (module_checks m part_spans ++ judged.loops) None (sym judged.is)).1 in
    let plain = prefix_clear (module_checks m part_spans) judged.loops clear in
    let free = no_loops m part_spans judged.loops judged.looped (back_clear (module_checks m part_spans) judged.loops clear) in
    let signals_clear = prefix_clear (signals_checks m part_spans) _ plain in
    let after_signals = back_clear (signals_checks m part_spans) _ plain in
    let ports_clear = prefix_clear (ports_checks m part_spans) _ after_signals in
    let after_ports = back_clear (ports_checks m part_spans) _ after_signals in
    let assignments_clear = prefix_clear (assignments_checks m part_spans) _ after_ports.1 in
    let after_assignments = back_clear (assignments_checks m part_spans) _ after_ports.1 in
    let resets_clear = prefix_clear (resets_checks m part_spans) _ after_assignments in
    let after_resets = back_clear (resets_checks m part_spans) _ after_assignments in
    let clocks_clear = prefix_clear (clocks_checks m part_spans) _ after_resets in
    let literals_clear = back_clear (clocks_checks m part_spans) _ after_resets in
    let narrow = narrow_of part_spans 0 0 (module_literals m) literals_clear in
    let narrow_sets = narrow_back (flat_map (λ (a : Assignment). literals a.value) m.assignments) (set_literals m.at_reset ++ set_literals m.at_clock) narrow in
    let wide = signals_wide m part_spans [] 0 (signals m) signals_clear in
    let good = all_good m part_spans [] 0 m.assignments wide assignments_clear (narrow_prefix (flat_map (λ (a : Assignment). literals a.value) m.assignments) (set_literals m.at_reset ++ set_literals m.at_clock) narrow) in
    let drives = all_drive m m.assignments good in
    record {
      wired = record {
        ports = has_ports m part_spans m.ports refl ports_clear (no_not (may_end (seen_after due_behind Clock m.ports)) after_ports.0);
        port_widths = port_widths [] (map declared_own m.declarations) m.ports wide;
        own_widths = own_widths m.declarations (behind_ports m.ports (map declared_own m.declarations) wide);
        assignments = all_sound m m.assignments good;
        wires = drives;
        resets = all_set m true (set_targets m.at_clock) part_spans.at_reset [] 0 m.at_reset resets_clear (narrow_prefix (set_literals m.at_reset) (set_literals m.at_clock) narrow_sets);
        clocks = all_set m false (set_targets m.at_reset) part_spans.at_clock [] 0 m.at_clock clocks_clear (narrow_back (set_literals m.at_reset) (set_literals m.at_clock) narrow_sets);
      };
      apart = apart_of m part_spans [] 0 m.assignments good assignments_clear;
      driven = all_driven m part_spans signals_clear;
      acyclic = acyclic_of m drives free;
      few = few;
    }
