-- All signals of a module in a cycle carry numbers of their widths.
use Rattle.std.proofs.Common.{◌≡◌, ◌≢◌, ℕ, zero, suc, ◌<◌, ◌^◌, List, [], ◌∷◌, length, refl, sym, subst, ◌⊎◌, inl, inr, arith}
use Rattle.std.specs.Prelude.{slice_get, Some}
use Rattle.std.specs.List.{AllByRecursion}
use Rattle.std.proofs.lemmas.Bool.{cases_eq}
use Rattle.std.proofs.lemmas.List.Elements.{recursion_from_All}
use Rattle.vlog_tree.specs.declared.module.Assignment.{Assignment}
use Rattle.vlog_tree.specs.declared.module.VModule.{VModule}
use Rattle.vlog_tree.specs.declared.signal.Role.{Role}
use Rattle.vlog_tree.specs.declared.signal.Role.TheVariants.{InputSignal, WireSignal, RegisterSignal}
use Rattle.vlog_tree.specs.Forms.{reads}
use Rattle.vlog_tree.specs.Meaning.{IsNow}
use Rattle.vlog_tree.specs.Settled.{IsUndriven}
use Rattle.vlog_tree.specs.Signals.{Declared, IsSignal, signals, declared_widths}
use Rattle.vlog_tree.specs.Sound.{IsSoundAssignment}
use Rattle.vlog_tree.specs.Value.{Values, expr_value}
use Rattle.vlog_tree.specs.WellFormed.{CanRun, ReadsThrough, reads_it, by_way}
use Rattle.block_build.specs.Netlist.Order.{CarriesWord}
use Rattle.block_verilog.specs.Widths.{CarryWords}
use Rattle.block_verilog.proofs.Chains.{none_bad}
use Rattle.block_verilog.proofs.Worth.{WiresCarry, carries_or_not, reads_known, worth_fits}

-- ---- lists

pub element : {A : Type 0} (P : A → Type 0) (xs : List A) (i : ℕ) (x : A) → AllByRecursion P xs → slice_get xs i ≡ Some x → P x
element P [] i x all there = absurd (cc)
element P (y ∷ xs) zero x all there = let same : y ≡ x = cc in subst P same all.0
element P (y ∷ xs) (suc i) x all there = element P xs i x all.1 there

there_is : {A : Type 0} (xs : List A) (i : ℕ) → i < length xs → (x : A) × (slice_get xs i ≡ Some x)
there_is [] i l = absurd (omega (arith, l))
there_is (x ∷ xs) zero l = (x, refl)
there_is (x ∷ xs) (suc i) l = there_is xs i (omega (arith, l))

-- all of them are so, or one isn't
all_or_one : (P : ℕ → Type 0) → ((s : ℕ) → P s ⊎ (P s → ⊥)) → (xs : List ℕ) → AllByRecursion P xs ⊎ ((k : ℕ) × (s : ℕ) × (slice_get xs k ≡ Some s) × (P s → ⊥))
all_or_one P decide [] = inl tt
all_or_one P decide (x ∷ xs) = at (decide x) (all_or_one P decide xs)
  where
    at : P x ⊎ (P x → ⊥) → AllByRecursion P xs ⊎ ((k : ℕ) × (s : ℕ) × (slice_get xs k ≡ Some s) × (P s → ⊥))
        → AllByRecursion P (x ∷ xs) ⊎ ((k : ℕ) × (s : ℕ) × (slice_get (x ∷ xs) k ≡ Some s) × (P s → ⊥))
    at (inr q) rest = inr (0, x, refl, q)
    at (inl p) (inl all) = inl (p, all)
    at (inl p) (inr found) = inr (suc found.0, found.1, found.2, found.3)

-- the assignment that drives a signal, if there is one
driver_or_none : (assignments : List Assignment) (s : ℕ) → IsUndriven assignments s ⊎ ((i : ℕ) × (a : Assignment) × (slice_get assignments i ≡ Some a) × (a.target.0 ≡ s))
driver_or_none [] s = inl tt
driver_or_none (b ∷ rest) s = at (cases_eq b.target.0 s) (driver_or_none rest s)
  where
    at : (b.target.0 ≡ s) ⊎ (b.target.0 ≢ s) → IsUndriven rest s ⊎ ((i : ℕ) × (a : Assignment) × (slice_get rest i ≡ Some a) × (a.target.0 ≡ s))
        → IsUndriven (b ∷ rest) s ⊎ ((i : ℕ) × (a : Assignment) × (slice_get (b ∷ rest) i ≡ Some a) × (a.target.0 ≡ s))
    at (inl e) found = inr (0, b, refl, e)
    at (inr ne) (inl none) = inl (ne, none)
    at (inr ne) (inr found) = inr (suc found.0, found.1, found.2, found.3)

-- ---- a wire that doesn't carry one reads a signal that doesn't

module _ (law : WiresCarry) (m : VModule) (held given v : Values) (can : CanRun m) (now : IsNow m held given v) where
  abbrev Bad : ℕ → Type 0
  Bad s = CarriesWord (declared_widths m) v s → ⊥

  abbrev Worse : ℕ → Type 0
  Worse s = (r : ℕ) × (r < length (signals m)) × Bad r × ReadsThrough m s r

  worse_read : (i s : ℕ) (a : Assignment) → slice_get m.assignments i ≡ Some a → a.target.0 ≡ s → Bad s
      → ((k : ℕ) × (r : ℕ) × (slice_get (reads a.value) k ≡ Some r) × Bad r) → Worse s
  worse_read i s a there target bad found =
      let sound = element (IsSoundAssignment (length (signals m)) (declared_widths m)) m.assignments i a (recursion_from_All (IsSoundAssignment (length (signals m)) (declared_widths m)) m.assignments can.wired.assignments) there in
      let inside = element (λ r. r < length (signals m)) (reads a.value) found.0 found.1 (reads_known (length (signals m)) a.value sound.value.known) found.2 in
      (found.1, inside, found.3, subst (λ t. ReadsThrough m t found.1) target (reads_it i found.0 found.1 a there found.2))

  well_driven : (i s : ℕ) (a : Assignment) → slice_get m.assignments i ≡ Some a → a.target.0 ≡ s → AllByRecursion (CarriesWord (declared_widths m) v) (reads a.value) → CarriesWord (declared_widths m) v s
  well_driven i s a there target carried =
      let f = declared_widths m in
      let sound = element (IsSoundAssignment (length (signals m)) f) m.assignments i a (recursion_from_All (IsSoundAssignment (length (signals m)) f) m.assignments can.wired.assignments) there in
      let worth = worth_fits law f v (length (signals m)) (f a.target.0) a.value sound.value.known sound.value.fit carried in
      let is = element (λ (b : Assignment). v b.target.0 ≡ expr_value v b.value) m.assignments i a now.wires there in
      subst (CarriesWord f v) target (subst (λ x. (x.width ≡ f a.target.0) × (x.value < 2 ^ f a.target.0)) (sym is) worth)

  worse_wire : (i s : ℕ) (a : Assignment) → slice_get m.assignments i ≡ Some a → a.target.0 ≡ s → Bad s → Worse s
  worse_wire i s a there target bad = at (all_or_one (CarriesWord (declared_widths m) v) (carries_or_not (declared_widths m) v) (reads a.value))
    where
      at : AllByRecursion (CarriesWord (declared_widths m) v) (reads a.value) ⊎ ((k : ℕ) × (r : ℕ) × (slice_get (reads a.value) k ≡ Some r) × Bad r) → Worse s
      at (inl all) = absurd (bad (well_driven i s a there target all))
      at (inr found) = worse_read i s a there target bad found

  module _ (inputs : CarryWords m InputSignal given) (registers : CarryWords m RegisterSignal held) where
    worse : (s : ℕ) → s < length (signals m) → Bad s → Worse s
    worse s l bad = by_role (there_is (signals m) s l)
      where
        driven : IsUndriven m.assignments s ⊎ ((i : ℕ) × (a : Assignment) × (slice_get m.assignments i ≡ Some a) × (a.target.0 ≡ s)) → (IsUndriven m.assignments s → ⊥) → Worse s
        driven (inl none) some = absurd (some none)
        driven (inr found) some = worse_wire found.0 s found.1 found.2 found.3 bad

        by : (d : Declared) → IsSignal m s d → (r : Role) → d.role ≡ r → Worse s
        by d is InputSignal e = absurd (bad (subst (λ x. (x.width ≡ declared_widths m s) × (x.value < 2 ^ declared_widths m s)) (sym (now.inputs s d is e)) (inputs s d is e)))
        by d is RegisterSignal e = absurd (bad (subst (λ x. (x.width ≡ declared_widths m s) × (x.value < 2 ^ declared_widths m s)) (sym (now.registers s d is e)) (registers s d is e)))
        by d is WireSignal e = driven (driver_or_none m.assignments s) (can.driven s d is e)

        by_role : (d : Declared) × IsSignal m s d → Worse s
        by_role (d, is) = by d is d.role refl

    pub all_carry : (s : ℕ) → s < length (signals m) → CarriesWord (declared_widths m) v s
    all_carry s l = at (carries_or_not (declared_widths m) v s)
      where
        at : CarriesWord (declared_widths m) v s ⊎ Bad s → CarriesWord (declared_widths m) v s
        at (inl p) = p
        at (inr q) = absurd (none_bad (ReadsThrough m) (λ a b c p q. by_way a b c p q) can.acyclic Bad (length (signals m)) worse s l q)
