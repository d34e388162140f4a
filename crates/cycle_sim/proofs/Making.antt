-- A new simulator stands where its module stands before the first row.
use Rattle.std.proofs.Common.{◌≡◌, ◌≤◌, ℕ, zero, suc, List, [], ◌∷◌, ◌++◌, length, map, refl, sym, ap, ◌∙◌, All, arith}
use Rattle.std.proofs.lemmas.List.{length-map}
use Rattle.std.specs.Prelude.{slice_get, unwrap_or, option_map, Some, false}
use mathlib.Core.Path.{fun_ext}
use Rattle.xb_bits.specs.Word.{Word, word}
use Rattle.vlog_tree.specs.declared.module.VModule.{VModule}
use Rattle.vlog_tree.specs.Signals.{Declared, signals, declared_port}
use Rattle.vlog_tree.specs.Value.{Values, bit}
use Rattle.vlog_tree.specs.Settled.{values_of, widths_of}
use Rattle.vlog_tree.specs.WellFormed as wired
use Rattle.vlog_tree.specs.Rows.{zeros, Runs, cycle, start}
use Rattle.vlog_tree.specs.declared.row.Row.{Row}
use Rattle.vlog_tree.specs.declared.row.Outs.{Outs}
use Rattle.cycle_sim.specs.Sim.{SimState, IsOrder, IsRunning, SameRegisters, StandsAfter}
use Rattle.cycle_sim.proofs.Cycling.{port_signal}

-- a 0 for each signal
abbrev pub zero_words : VModule → List Word
zero_words m = map (λ d. word d.width 0) (signals m)

zero_at : (ds : List Declared) (s : ℕ) → values_of (map (λ d. word d.width 0) ds) s ≡ word (unwrap_or (option_map (λ d. d.width) (slice_get ds s)) 1) 0
zero_at [] s = refl
zero_at (d ∷ ds) zero = refl
zero_at (d ∷ ds) (suc s) = zero_at ds s

pub new_runs : (m : VModule) (indices : List ℕ) (before : List Word) → wired.CanRun m → IsOrder m indices → length before ≡ length (zero_words m) → IsRunning m indices (zero_words m) before
new_runs m indices before runs order room = record {
  wired = runs.wired;
  driven = runs.driven;
  order = order;
  covers = length-map (signals m) (λ d. word d.width 0);
  widths = fun_ext (λ s. ap (λ w. w.width) (zero_at (signals m) s));
  clock = zero_at (signals m) 0 ∙ ap (λ o. word (unwrap_or (option_map (λ d. d.width) o) 1) 0) (port_signal m 0 runs.wired.ports.clock (ap (λ ports. slice_get ports 0) runs.wired.ports.are)) ∙ ap (λ n. word n 0) runs.wired.ports.clock_wide;
  room = room;
}

-- before any row nothing is shown, and registers hold 0
before_rows : (m : VModule) (rows : List Row) (shown : List Outs) (other : Values) → Runs m rows shown other → rows ≡ [] → (shown ≡ []) × SameRegisters m other (zeros m)
before_rows m _ _ _ start e = (refl, λ s d is_s role. refl)
before_rows m _ _ _ (cycle rows outs held values row run now) e = absurd (some_row rows row e)
  where
    some_row : (rows : List Row) (row : Row) → rows ++ row ∷ [] ≡ [] → ⊥
    some_row [] row e = cc
    some_row (r ∷ rows) row e = cc

pub new_stands : (m : VModule) → StandsAfter (record { design = m; words = zero_words m }) [] []
new_stands m = record { held = zeros m; runs = start; only = λ shown other run. before_rows m [] shown other run refl; registers = λ s d is_s role. zero_at (signals m) s }
