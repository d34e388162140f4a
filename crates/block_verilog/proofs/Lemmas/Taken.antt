-- What the registers of a module hold in the next row, by its sets.
use Rattle.std.proofs.Common.{◌≡◌, ℕ, suc, ◌+◌, true, false, List, [], ◌∷◌, ◌++◌, length, map, ap, ◌∙◌, subst, arith}
use Rattle.std.specs.Prelude.{slice_get, ◌==◌, if◌then◌else◌}
use Rattle.std.specs.List.{AllByRecursion}
use Rattle.std.proofs.lemmas.List.Elements.{recursion_from_All}
use Rattle.xb_bits.specs.Word.{Word}
use Rattle.vlog_tree.specs.declared.expression.Atom.{Atom}
use Rattle.vlog_tree.specs.declared.module.Port.{Port}
use Rattle.vlog_tree.specs.declared.module.VModule.{VModule}
use Rattle.vlog_tree.specs.declared.row.Row.{Row}
use Rattle.vlog_tree.specs.declared.signal.Role.TheVariants.{RegisterSignal}
use Rattle.vlog_tree.specs.Meaning.{IsNow, taken_by, registers_next, reset_port}
use Rattle.vlog_tree.specs.Rows.{given}
use Rattle.vlog_tree.specs.Signals.{Declared, IsSignal, declared_port, declared_own, port_role}
use Rattle.vlog_tree.specs.Value.{Values, bit}
use Rattle.vlog_tree.specs.WellFormed.{CanRun, IsSoundSet}
use Rattle.block_build.specs.Netlist.Registers.{AreTaken, sets_from}

-- the law of sets
abbrev pub SetsAreTaken : Type 0
SetsAreTaken = (v held : Values) (k : ℕ) (atoms : List Atom) → AreTaken v (taken_by (sets_from k atoms) v held) k atoms

-- some registers, and those behind them
pub taken_both : (v next : Values) (k : ℕ) (xs ys : List Atom) → AreTaken v next k (xs ++ ys) → AreTaken v next k xs × AreTaken v next (k + length xs) ys
taken_both v next k [] ys h = let e : k ≡ k + 0 = omega arith in (tt, subst (λ n. AreTaken v next n ys) e h)
taken_both v next k (x ∷ xs) ys h =
    let rest = taken_both v next (suc k) xs ys h.1 in
    let e : suc k + length xs ≡ k + suc (length xs) = omega arith in
    ((h.0, rest.0), subst (λ n. AreTaken v next n ys) e rest.1)

-- what the port `rst` carries
pub reset_given : (m : VModule) (held v : Values) (row : Row) → CanRun m → IsNow m held (given m row) v → v reset_port ≡ bit row.reset
reset_given m held v row can now =
    let ports = can.wired.ports in
    now.inputs 1 (declared_port ports.reset) (ap (λ (ps : List Port). slice_get (map declared_port ps ++ map declared_own m.declarations) 1) ports.are) (ap port_role ports.reset_in)

-- those that are registers hold what they take
held_next : (m : VModule) (v next f : Values) (k : ℕ) (atoms : List Atom) → AllByRecursion (IsSoundSet m) (sets_from k atoms) → ((s : ℕ) (d : Declared) → IsSignal m s d → d.role ≡ RegisterSignal → next s ≡ f s) → AreTaken v f k atoms → AreTaken v next k atoms
held_next m v next f k [] sound holds taken = tt
held_next m v next f k (a ∷ atoms) sound holds taken = (holds k sound.0.target.0 sound.0.target.1 sound.0.target.2 ∙ taken.0, held_next m v next f (suc k) atoms sound.1 holds taken.1)

module _ (law : SetsAreTaken) (m : VModule) (held v next : Values) (row row' : Row) (can : CanRun m) (now : IsNow m held (given m row) v) (later : IsNow m (registers_next m v held) (given m row') next) where
  -- behind a row without reset
  pub clocks_taken : (k : ℕ) (atoms : List Atom) → row.reset ≡ false → m.at_clock ≡ sets_from k atoms → AreTaken v next k atoms
  clocks_taken k atoms off are =
      let is : v reset_port ≡ bit false = reset_given m held v row can now ∙ ap bit off in
      let same : registers_next m v held ≡ taken_by (sets_from k atoms) v held =
      ap (λ (w : Word). taken_by (if w.value == 0 then m.at_clock else m.at_reset) v held) is ∙ ap (λ sets. taken_by sets v held) are in
      let sound = subst (AllByRecursion (IsSoundSet m)) are (recursion_from_All (IsSoundSet m) m.at_clock can.wired.clocks) in
      held_next m v next (taken_by (sets_from k atoms) v held) k atoms sound (λ s d at role. later.registers s d at role ∙ ap (λ (f : Values). f s) same) (law v held k atoms)

  -- behind one with reset
  pub resets_taken : (k : ℕ) (atoms : List Atom) → row.reset ≡ true → m.at_reset ≡ sets_from k atoms → AreTaken v next k atoms
  resets_taken k atoms on are =
      let is : v reset_port ≡ bit true = reset_given m held v row can now ∙ ap bit on in
      let same : registers_next m v held ≡ taken_by (sets_from k atoms) v held =
      ap (λ (w : Word). taken_by (if w.value == 0 then m.at_clock else m.at_reset) v held) is ∙ ap (λ sets. taken_by sets v held) are in
      let sound = subst (AllByRecursion (IsSoundSet m)) are (recursion_from_All (IsSoundSet m) m.at_reset can.wired.resets) in
      held_next m v next (taken_by (sets_from k atoms) v held) k atoms sound (λ s d at role. later.registers s d at role ∙ ap (λ (f : Values). f s) same) (law v held k atoms)
