-- What assignments that are taken in order leave.
use Rattle.std.proofs.Common.{◌≡◌, ◌≢◌, ℕ, zero, suc, ◌<◌, List, [], ◌∷◌, ◌++◌, length, refl, sym, ap, ◌∙◌, length-set, ◌⊎◌, inl, inr, subst, arith}
use Rattle.std.proofs.lemmas.Bool.{cases_eq}
use Rattle.std.specs.Prelude.{slice_get, slice_set, unwrap_or, flat_map, Option, Some, None}
use Rattle.base.proofs.Lemmas.Lists.Indices.{slice_get-set_other}
use Rattle.xb_bits.specs.Word.{Word, word}
use Rattle.vlog_tree.specs.declared.signal.Signal.{Signal}
use Rattle.vlog_tree.specs.declared.expression.Atom.{Atom}
use Rattle.vlog_tree.specs.declared.expression.Atom.TheVariants as atom
use Rattle.vlog_tree.specs.declared.expression.Simple.{Simple}
use Rattle.vlog_tree.specs.declared.expression.Simple.TheVariants as simple
use Rattle.vlog_tree.specs.declared.expression.Expr.{Expr}
use Rattle.vlog_tree.specs.declared.expression.Expr.TheVariants as expr
use Rattle.vlog_tree.specs.declared.module.Assignment.{Assignment}
use Rattle.vlog_tree.specs.Value.{Values, atom_value, joined_value, simple_value, expr_value}
use Rattle.vlog_tree.specs.Forms.{atom_reads, simple_reads, reads}
use Rattle.std.specs.List.{AllByRecursion}
use Rattle.vlog_tree.specs.Meaning.{AreDriven}
use Rattle.vlog_tree.specs.declared.module.VModule.{VModule}
use Rattle.vlog_tree.specs.declared.module.Storage.TheVariants as storage
use Rattle.vlog_tree.specs.Signals.{Declared, IsSignal, signals, declared_own}
use Rattle.vlog_tree.specs.declared.signal.Role.{Role}
use Rattle.vlog_tree.specs.declared.signal.Role.TheVariants.{InputSignal, WireSignal, RegisterSignal}
use Rattle.vlog_tree.specs.Meaning.{IsNow}
use Rattle.vlog_tree.specs.Settled.{values_of, IsUndriven, IsOrdered, settled, AreReady, DrivesWires, ReadsSignals, AreAllDriven}
use Rattle.std.proofs.lemmas.Option.{slice_get_within, slice_get-get_or}

-- it holds of each element of the one list, and of the other
pub each_prefix : {A : Type 0} (P : A → Type 0) (xs ys : List A) → AllByRecursion P (xs ++ ys) → AllByRecursion P xs
each_prefix P [] ys h = tt
each_prefix P (x ∷ xs) ys h = (h.0, each_prefix P xs ys h.1)

pub each_back : {A : Type 0} (P : A → Type 0) (xs ys : List A) → AllByRecursion P (xs ++ ys) → AllByRecursion P ys
each_back P [] ys h = h
each_back P (x ∷ xs) ys h = each_back P xs ys h.1

pub each_other : {A : Type 0} (P Q : A → Type 0) → ((x : A) → P x → Q x) → (xs : List A) → AllByRecursion P xs → AllByRecursion Q xs
each_other P Q f [] h = tt
each_other P Q f (x ∷ xs) h = (f x h.0, each_other P Q f xs h.1)

-- two assignments of values agree at these signals
abbrev pub Agree : Values → Values → List ℕ → Type 0
Agree v w signals = AllByRecursion (λ s. v s ≡ w s) signals

-- where two assignments of values agree at what is read, it has one value by both
pub atom_same : (v w : Values) (a : Atom) → Agree v w (atom_reads a) → atom_value v a ≡ atom_value w a
atom_same v w (atom.Signal s) h = h.0
atom_same v w (atom.Literal l) h = refl

pub joined_same : (v w : Values) (atoms : List Atom) → Agree v w (flat_map atom_reads atoms) → joined_value v atoms ≡ joined_value w atoms
joined_same v w [] h = refl
joined_same v w (a ∷ rest) h =
    let first = atom_same v w a (each_prefix _ (atom_reads a) (flat_map atom_reads rest) h) in
    let others = joined_same v w rest (each_back _ (atom_reads a) (flat_map atom_reads rest) h) in
    cc

pub simple_same : (v w : Values) (x : Simple) → Agree v w (simple_reads x) → simple_value v x ≡ simple_value w x
simple_same v w (simple.Atom a) h = atom_same v w a h
simple_same v w (simple.Binary operator a b) h =
    let left = atom_same v w a (each_prefix _ (atom_reads a) (atom_reads b) h) in
    let right = atom_same v w b (each_back _ (atom_reads a) (atom_reads b) h) in
    rw (left, right)
simple_same v w (simple.Unary operator a) h = rw (atom_same v w a h)
simple_same v w (simple.Slice s high low) h = let e = h.0 in rw e
simple_same v w (simple.Concat atoms) h = joined_same v w atoms h

pub expr_same : (v w : Values) (x : Expr) → Agree v w (reads x) → expr_value v x ≡ expr_value w x
expr_same v w (expr.Simple x) h = simple_same v w x h
expr_same v w (expr.SignedOrder order a b) h = rw (h.0, h.1.0)
expr_same v w (expr.SignedShift a k) h = rw (h.0, atom_same v w k h.1)
expr_same v w (expr.Choice c a b) h =
    let test = atom_same v w c (each_prefix _ (atom_reads c) (simple_reads a ++ simple_reads b) h) in
    let both = each_back _ (atom_reads c) (simple_reads a ++ simple_reads b) h in
    let left = simple_same v w a (each_prefix _ (simple_reads a) (simple_reads b) both) in
    let right = simple_same v w b (each_back _ (simple_reads a) (simple_reads b) both) in
    rw (test, left, right)

-- a signal that isn't written keeps its number
pub values_of-set_other : (words : List Word) (t s : ℕ) (w : Word) → s ≢ t → values_of (slice_set words t w) s ≡ values_of words s
values_of-set_other words t s w h = rw (slice_get-set_other words t s w h)

pub values_of-set_same : (words : List Word) (t : ℕ) (w : Word) → t < length words → values_of (slice_set words t w) t ≡ w
values_of-set_same [] t w h = absurd (omega arith)
values_of-set_same (x ∷ xs) zero w h = refl
values_of-set_same (x ∷ xs) (suc t) w h = values_of-set_same xs t w (omega arith)

-- a signal that none of the assignments drives keeps its number
pub settled_untouched : (assignments : List Assignment) (words : List Word) (s : ℕ) → IsUndriven assignments s
    → values_of (settled assignments words) s ≡ values_of words s
settled_untouched [] words s h = refl
settled_untouched (a ∷ later) words s h =
    settled_untouched later (slice_set words a.target.0 (expr_value (values_of words) a.value)) s h.1
    ∙ values_of-set_other words a.target.0 s (expr_value (values_of words) a.value) (λ e. h.0 (sym e))

-- what assignments that are taken in order leave gives each target its driver's value
pub settled_drives : (assignments : List Assignment) (words : List Word) → IsOrdered assignments
    → AllByRecursion (λ a. a.target.0 < length words) assignments → AreDriven (values_of (settled assignments words)) assignments
settled_drives [] words ordered within = tt
settled_drives (a ∷ later) words ordered within =
    let value = expr_value (values_of words) a.value in
    let next = slice_set words a.target.0 value in
    let final = values_of (settled later next) in
    let kept = each_other (IsUndriven (a ∷ later)) (λ s. values_of words s ≡ final s) (λ s h. sym (settled_untouched (a ∷ later) words s h)) (reads a.value) ordered.0 in
    let same = expr_same (values_of words) final a.value kept in
    let written : final a.target.0 ≡ value = settled_untouched later next a.target.0 ordered.1 ∙ values_of-set_same words a.target.0 value within.0 in
    let length_kept : length next ≡ length words = length-set words a.target.0 value in
    let within_later = each_other (λ b. b.target.0 < length words) (λ b. b.target.0 < length next) (λ b h. rw length_kept h) later within.1 in
    (written ∙ same, settled_drives later next ordered.2 within_later)

-- a read is of a signal that is there and that none of these drives
pub both : {A : Type 0} (P Q R : A → Type 0) → ((x : A) → P x → Q x → R x) → (xs : List A) → AllByRecursion P xs → AllByRecursion Q xs → AllByRecursion R xs
both P Q R f [] p q = tt
both P Q R f (x ∷ xs) p q = (f x p.0 q.0, both P Q R f xs p.1 q.1)

-- whatever gives each target its driver's value, and the other signals their numbers, is what they leave
pub settled_only : (assignments : List Assignment) (words : List Word) (values : Values) (count : ℕ) → count ≡ length words
    → IsOrdered assignments → AllByRecursion (λ a. a.target.0 < count) assignments → ReadsSignals count assignments
    → AreDriven values assignments → ((s : ℕ) → s < count → IsUndriven assignments s → values s ≡ values_of words s)
    → (s : ℕ) → s < count → values s ≡ values_of (settled assignments words) s
settled_only [] words values count covers ordered within reading driven others s h = others s h tt
settled_only (a ∷ later) words values count covers ordered within reading driven others s h =
    settled_only later next values count covers_next ordered.2 within.1 reading.1 driven.1 others_next s h
  where
    value : Word
    value = expr_value (values_of words) a.value

    next : List Word
    next = slice_set words a.target.0 value

    covers_next : count ≡ length next
    covers_next = covers ∙ sym (length-set words a.target.0 value)

    target_within : a.target.0 < length words
    target_within = rw (← covers) within.0

    same : expr_value values a.value ≡ value
    same = expr_same values (values_of words) a.value (both (λ s. s < count) (IsUndriven (a ∷ later)) (λ s. values s ≡ values_of words s) others (reads a.value) reading.0 ordered.0)

    others_next : (s : ℕ) → s < count → IsUndriven later s → values s ≡ values_of next s
    others_next s inside h = go (cases_eq a.target.0 s)
      where
        go : (a.target.0 ≡ s) ⊎ (a.target.0 ≢ s) → values s ≡ values_of next s
        go (inl e) = subst (λ k. values k ≡ values_of next k) e (driven.0 ∙ same ∙ sym (values_of-set_same words a.target.0 value target_within))
        go (inr ne) = others s inside (ne, h) ∙ sym (values_of-set_other words a.target.0 s value (λ e. ne (sym e)))

-- a signal of one role is not driven by assignments to signals of another
pub undriven_by_role : (m : VModule) (s : ℕ) (d : Declared) → IsSignal m s d → d.role ≢ WireSignal
    → (assignments : List Assignment) → DrivesWires m assignments → IsUndriven assignments s
undriven_by_role m s d is_s other [] h = tt
undriven_by_role m s d is_s other (a ∷ rest) h = (here h.0, undriven_by_role m s d is_s other rest h.1)
  where
    here : (e : Declared) × IsSignal m a.target.0 e × (e.role ≡ WireSignal) → a.target.0 ≢ s
    here (e, is_e, driven) same =
        let both_there : Some e ≡ Some d = sym is_e ∙ ap (slice_get (signals m)) same ∙ is_s in
        let equal : e ≡ d = cc in
        other (sym (ap (λ x. x.role) equal) ∙ driven)

-- a target is among the signals
pub targets_within : (m : VModule) (assignments : List Assignment) → DrivesWires m assignments
    → AllByRecursion (λ a. a.target.0 < length (signals m)) assignments
targets_within m assignments h =
    each_other (λ a. (d : Declared) × IsSignal m a.target.0 d × (d.role ≡ WireSignal)) (λ a. a.target.0 < length (signals m))
    (λ a there. slice_get_within (signals m) a.target.0 there.0 there.1) assignments h

-- taking the assignments in such an order gives what the module means
pub order_means : (m : VModule) (held given : Values) (words : List Word) (steps : List Assignment) → IsOrdered steps → DrivesWires m steps
    → (AreDriven (values_of (settled steps words)) steps → AreDriven (values_of (settled steps words)) m.assignments)
    → AreReady m held given words → IsNow m held given (values_of (settled steps words))
order_means m held given words steps ordered wires covers ready = record {
  inputs = λ s d is_s role. settled_untouched steps words s (undriven_by_role m s d is_s (λ e. no_given (sym role ∙ e)) steps wires) ∙ ready.inputs s d is_s role;
  registers = λ s d is_s role. settled_untouched steps words s (undriven_by_role m s d is_s (λ e. no_held (sym role ∙ e)) steps wires) ∙ ready.registers s d is_s role;
  wires = covers (settled_drives steps words ordered (rw ready.covers (targets_within m steps wires)));
}
  where
    no_given : InputSignal ≢ WireSignal
    no_given e = cc

    no_held : RegisterSignal ≢ WireSignal
    no_held e = cc

pub order_only : (m : VModule) (held given values : Values) (words : List Word) → IsOrdered m.assignments → DrivesWires m m.assignments
    → ReadsSignals (length (signals m)) m.assignments → AreAllDriven m → AreReady m held given words → IsNow m held given values
    → (s : ℕ) → s < length (signals m) → values s ≡ values_of (settled m.assignments words) s
order_only m held given values words ordered wires reading all_driven ready now =
    settled_only m.assignments words values (length (signals m)) (sym ready.covers) ordered (targets_within m m.assignments wires) reading now.wires others
  where
    others : (s : ℕ) → s < length (signals m) → IsUndriven m.assignments s → values s ≡ values_of words s
    others s inside undriven = at (slice_get (signals m) s) refl
      where
        by_role : (d : Declared) → IsSignal m s d → (r : Role) → d.role ≡ r → values s ≡ values_of words s
        by_role d is_s InputSignal role = now.inputs s d is_s role ∙ sym (ready.inputs s d is_s role)
        by_role d is_s RegisterSignal role = now.registers s d is_s role ∙ sym (ready.registers s d is_s role)
        by_role d is_s WireSignal role = absurd (all_driven s d is_s role undriven)

        at : (o : Option Declared) → slice_get (signals m) s ≡ o → values s ≡ values_of words s
        at (Some d) is_s = by_role d is_s d.role refl
        at None missing = let there = slice_get-get_or (signals m) s (declared_own record { storage = storage.Wire; name = []; width = 1; some_width = omega arith }) inside in absurd (cc)
