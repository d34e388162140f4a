-- One cycle of a simulator is one cycle of its module.
use Rattle.std.proofs.Common.{◌≡◌, ◌≢◌, ℕ, zero, suc, ◌+◌, ◌*◌, ◌<◌, ◌≤◌, List, [], ◌∷◌, ◌++◌, length, length-set, length-append, add-zero, map, take, drop, refl, sym, ap, ◌∙◌, subst, Option, Some, None, true, false, cond, Bool, All, slice_index_or, arith}
use Rattle.std.specs.Prelude.{slice_get, slice_set, unwrap_or, option_map, if◌then◌else◌, ◌==◌}
use Rattle.std.specs.List.{AllByRecursion}
use Rattle.std.proofs.lemmas.List.Elements.{recursion_from_All, All-from_recursion}
use Rattle.std.proofs.lemmas.List.{length-map}
use Rattle.std.proofs.Math.Seq.{take-append_seam}
use Rattle.std.proofs.lemmas.Option.{slice_get_within, get_or_from_slice_get, slice_get-get_or}
use Rattle.xb_bits.specs.Word.{Word, word}
use Rattle.vlog_tree.specs.declared.module.VModule.{VModule}
use Rattle.vlog_tree.specs.declared.module.Port.{Port}
use Rattle.vlog_tree.specs.declared.module.Declaration.{Declaration}
use Rattle.vlog_tree.specs.declared.module.Set.{Set}
use Rattle.vlog_tree.specs.declared.module.Assignment.{Assignment}
use Rattle.vlog_tree.specs.declared.module.Direction.{Direction}
use Rattle.vlog_tree.specs.declared.module.Direction.TheVariants.{Input, Output}
use Rattle.vlog_tree.specs.declared.row.Row.{Row}
use Rattle.vlog_tree.specs.declared.row.Drive.{Drive}
use Rattle.vlog_tree.specs.declared.row.Drive.TheVariants.{Offer, Ready}
use Rattle.vlog_tree.specs.Signals.{Declared, IsSignal, signals, declared_port, declared_own, port_role, storage_role, channels_at, channels_of, channel_of}
use Rattle.vlog_tree.specs.declared.signal.Role.{Role}
use Rattle.vlog_tree.specs.declared.signal.Role.TheVariants.{InputSignal, WireSignal, RegisterSignal}
use Rattle.vlog_tree.specs.declared.module.Storage.{Storage}
use Rattle.vlog_tree.specs.declared.module.Storage.TheVariants as storage
use Rattle.vlog_tree.specs.Value.{Values, bit, atom_value, expr_value}
use Rattle.vlog_tree.specs.Meaning.{IsNow, AreDriven, registers_next, taken_by}
use Rattle.vlog_tree.specs.Settled.{values_of, widths_of, settled, AreReady, DrivesWires, IsUndriven, ReadsSignals}
use Rattle.vlog_tree.specs.Sound.{IsSoundAssignment}
use Rattle.vlog_tree.specs.WellFormed.{AreChannelPorts, HasPorts, IsWired, IsSoundSet}
use Rattle.vlog_tree.specs.Signals.{declared_widths}
use Rattle.vlog_tree.specs.declared.row.Outs.{Outs}
use Rattle.vlog_tree.specs.declared.row.Shown.TheVariants as shown
use Rattle.vlog_tree.specs.Rows.{given, given_at, AreDrivesOf, IsDriveOf, IsRowOf, is_one, shown_channel, shown_at, outs_of, Runs, cycle, start}
use Rattle.vlog_tree.proofs.Lemmas.Settling.{values_of-set_same, values_of-set_other, order_means, order_only, each_other, atom_same}
use Rattle.cycle_sim.specs.Ordered.{taken}
use Rattle.cycle_sim.specs.Sim.{SimState, IsOrder, IsRunning, SameRegisters, StandsAfter}
use Rattle.cycle_sim.specs.Stored.{driven, all_driven, stored, evaluated, cycled}
use Rattle.cycle_sim.proofs.Settling.{widths_of-set, take_keeps, sound_still}
use Rattle.cycle_sim.proofs.Storing.{length-stored, stored_is, taken_by_same, stored_elsewhere, stored_widths}
use Rattle.vlog_tree.proofs.Lemmas.Fitting.{atom_wide}
use Rattle.vlog_tree.specs.Forms.{atom_reads, atom_width, reads}
use Rattle.cycle_sim.proofs.Reading.{atom_below, reads_below}
use Rattle.cycle_sim.proofs.Giving.{gives, all_driven_below, all_driven_above, length-all_driven, length-driven}

-- there are three ports for each channel that is driven
pub ports_of_drives : (ports : List Port) (drives : List Drive) → AreChannelPorts ports → AreDrivesOf (channels_at ports) drives → length ports ≡ 3 * length drives
ports_of_drives [] [] shape by = refl
ports_of_drives [] (drive ∷ drives) shape by = absurd by
ports_of_drives (d ∷ []) drives shape by = absurd shape
ports_of_drives (d ∷ v ∷ []) drives shape by = absurd shape
ports_of_drives (d ∷ v ∷ r ∷ rest) [] shape by = absurd by
ports_of_drives (d ∷ v ∷ r ∷ rest) (drive ∷ drives) shape by = let others = ports_of_drives rest drives shape.4 by.1 in omega arith

-- driving channels with words of their widths changes no width
pub driven_widths : (ports : List Port) (drives : List Drive) (at : ℕ) (words : List Word) → AreChannelPorts ports → AreDrivesOf (channels_at ports) drives
    → at + length ports ≤ length words
    → ((k : ℕ) (p : Port) → slice_get ports k ≡ Some p → widths_of words (at + k) ≡ p.width)
    → widths_of (all_driven at drives words) ≡ widths_of words
driven_widths [] [] at words shape by room widths = refl
driven_widths [] (drive ∷ drives) at words shape by room widths = absurd by
driven_widths (d ∷ []) drives at words shape by room widths = absurd shape
driven_widths (d ∷ v ∷ []) drives at words shape by room widths = absurd shape
driven_widths (d ∷ v ∷ r ∷ rest) [] at words shape by room widths = absurd by
driven_widths (d ∷ v ∷ r ∷ rest) (drive ∷ drives) at words shape by room widths =
    driven_widths rest drives (at + 3) (driven at drive words) shape.4 by.1 (rw (length-driven at drive words) (omega (arith, room))) later ∙ here drive by.0
  where
    data_wide : widths_of words at ≡ d.width
    data_wide = rw add-zero at (widths 0 d refl)

    valid_wide : 1 ≡ widths_of words (at + 1)
    valid_wide = sym (widths 1 v refl ∙ shape.2)

    ready_wide : 1 ≡ widths_of words (at + 2)
    ready_wide = sym (widths 2 r refl ∙ shape.3)

    here : (e : Drive) → IsDriveOf (channel_of d) e → widths_of (driven at e words) ≡ widths_of words
    here (Offer (Some w)) fits =
        let first = widths_of-set words at w (omega (arith, room)) (fits.1 ∙ sym data_wide) in
        widths_of-set (slice_set words at w) (at + 1) (bit true) (rw (length-set words at w) (omega (arith, room))) (valid_wide ∙ ap (λ f. f (at + 1)) (sym first)) ∙ first
    here (Offer None) fits =
        let zero_word : Word = word (values_of words at).width 0 in
        let first = widths_of-set words at zero_word (omega (arith, room)) refl in
        widths_of-set (slice_set words at zero_word) (at + 1) (bit false) (rw (length-set words at zero_word) (omega (arith, room))) (valid_wide ∙ ap (λ f. f (at + 1)) (sym first)) ∙ first
    here (Ready ready) fits = widths_of-set words (at + 2) (bit ready) (omega (arith, room)) ready_wide

    later : (j : ℕ) (q : Port) → slice_get rest j ≡ Some q → widths_of (driven at drive words) (at + 3 + j) ≡ q.width
    later j q h =
        let place_of : at + 3 + j ≡ at + suc (suc (suc j)) = omega arith in
        ap (λ f. f (at + 3 + j)) (here drive by.0) ∙ ap (widths_of words) place_of ∙ widths (suc (suc (suc j))) q h

-- sound assignments that are taken one after another change no width
pub settled_widths : (steps : List Assignment) (words : List Word) → AllByRecursion (IsSoundAssignment (length words) (widths_of words)) steps
    → (widths_of (settled steps words) ≡ widths_of words) × (length (settled steps words) ≡ length words)
settled_widths [] words sound = (refl, refl)
settled_widths (a ∷ later) words sound =
    let next : List Word = settled (a ∷ []) words in
    let first : widths_of next ≡ widths_of words = take_keeps words a sound.0 in
    let same : length next ≡ length words = length-set words a.target.0 (expr_value (values_of words) a.value) in
    let still = each_other (IsSoundAssignment (length words) (widths_of words)) (IsSoundAssignment (length next) (widths_of next)) (λ b h. sound_still words next b same first h) later sound.1 in
    let rest = settled_widths later next still in
    (rest.0 ∙ first, rest.1 ∙ same)

-- the steps that are taken are among the module's assignments: what holds of all of those holds of them
pub taken_all : (P : Assignment → Type 0) (assignments : List Assignment) (indices : List ℕ) → All P assignments → AllByRecursion P (taken assignments indices)
taken_all P assignments [] all = tt
taken_all P assignments (i ∷ indices) all = at (slice_get assignments i) refl (taken_all P assignments indices all)
  where
    at : (o : Option Assignment) → slice_get assignments i ≡ o → AllByRecursion P (taken assignments indices) → AllByRecursion P (taken assignments (i ∷ indices))
    at None e rest = rw e rest
    at (Some a) e rest = rw e (subst P (get_or_from_slice_get assignments i a a e) (all i a (slice_get_within assignments i a e)), rest)

-- the ports are the first signals
pub port_signal : (m : VModule) (k : ℕ) (p : Port) → slice_get m.ports k ≡ Some p → IsSignal m k (declared_port p)
port_signal m k p h = go m.ports k h
  where
    go : (ports : List Port) (k : ℕ) → slice_get ports k ≡ Some p → slice_get (map declared_port ports ++ map declared_own m.declarations) k ≡ Some (declared_port p)
    go [] k h = cc
    go (q ∷ ports) zero h = let e : q ≡ p = cc in ap (λ x. Some (declared_port x)) e
    go (q ∷ ports) (suc k) h = go ports k h

pub length-signals : (m : VModule) → length (signals m) ≡ length m.ports + length m.declarations
length-signals m =
    let all = length-append (map declared_port m.ports) (map declared_own m.declarations) in
    let ports = length-map m.ports declared_port in
    let own = length-map m.declarations declared_own in
    omega arith

-- a register stands behind the ports
pub held_behind_ports : (m : VModule) (s : ℕ) (d : Declared) → IsSignal m s d → d.role ≡ RegisterSignal → length m.ports ≤ s
held_behind_ports m s d is_s role = go m.ports s is_s
  where
    not_held : (p : Port) → (e : Direction) → p.direction ≡ e → declared_port p ≡ d → ⊥
    not_held p Input is same = let wrong : InputSignal ≡ RegisterSignal = sym (ap port_role is) ∙ ap (λ x. x.role) same ∙ role in cc
    not_held p Output is same = let wrong : WireSignal ≡ RegisterSignal = sym (ap port_role is) ∙ ap (λ x. x.role) same ∙ role in cc

    go : (ports : List Port) (k : ℕ) → slice_get (map declared_port ports ++ map declared_own m.declarations) k ≡ Some d → length ports ≤ k
    go [] k h = omega arith
    go (p ∷ ports) zero h = let same : declared_port p ≡ d = cc in absurd (not_held p p.direction refl same)
    go (p ∷ ports) (suc k) h = let rest = go ports k h in omega arith

-- a signal in the outside's hands is an input port
pub given_is_port : (m : VModule) (s : ℕ) (d : Declared) → IsSignal m s d → d.role ≡ InputSignal → (p : Port) × (slice_get m.ports s ≡ Some p) × (p.direction ≡ Input)
given_is_port m s d is_s role = go m.ports s is_s
  where
    by_direction : (p : Port) → (e : Direction) → p.direction ≡ e → declared_port p ≡ d → p.direction ≡ Input
    by_direction p Input is same = is
    by_direction p Output is same = let wrong : WireSignal ≡ InputSignal = sym (ap port_role is) ∙ ap (λ x. x.role) same ∙ role in cc

    own : (ds : List Declaration) (k : ℕ) → slice_get (map declared_own ds) k ≡ Some d → ⊥
    own [] k h = cc
    own (o ∷ ds) zero h = let same : declared_own o ≡ d = cc in by_storage o.storage refl same
      where
        by_storage : (t : Storage) → o.storage ≡ t → declared_own o ≡ d → ⊥
        by_storage storage.Wire is same = let wrong : WireSignal ≡ InputSignal = sym (ap storage_role is) ∙ ap (λ x. x.role) same ∙ role in cc
        by_storage storage.Register is same = let wrong : RegisterSignal ≡ InputSignal = sym (ap storage_role is) ∙ ap (λ x. x.role) same ∙ role in cc
    own (o ∷ ds) (suc k) h = own ds k h

    go : (ports : List Port) (k : ℕ) → slice_get (map declared_port ports ++ map declared_own m.declarations) k ≡ Some d → (p : Port) × (slice_get ports k ≡ Some p) × (p.direction ≡ Input)
    go [] k h = absurd (own m.declarations k h)
    go (p ∷ ports) zero h = let same : declared_port p ≡ d = cc in (p, refl, by_direction p p.direction refl same)
    go (p ∷ ports) (suc k) h = go ports k h

-- what the outside gives in a row, and nothing else new, stands in these numbers
abbrev pub handed : Row → List Word → List Word
handed row words = all_driven 2 row.channels (slice_set words 1 (bit row.reset))

-- what is known of the numbers once the outside has given its own
pub record AreHanded (m : VModule) (row : Row) (words : List Word) : Type 0 where
  pub count : 2 + 3 * length row.channels ≤ length words
  pub size : length (handed row words) ≡ length words
  pub widths : widths_of (handed row words) ≡ widths_of words
  pub ready : AreReady m (values_of words) (given m row) (handed row words)

pub handing : (m : VModule) (indices : List ℕ) (words before : List Word) (row : Row) → IsRunning m indices words before → IsRowOf m row → AreHanded m row words
handing m indices words before row running fits = record { count = count; size = size; widths = widths; ready = record { covers = size ∙ running.covers; inputs = inputs; registers = registers } }
  where
    start : List Word
    start = slice_set words 1 (bit row.reset)

    start_size : length start ≡ length words
    start_size = length-set words 1 (bit row.reset)

    same_channels : channels_of m ≡ channels_at running.wired.ports.channels
    same_channels = ap (λ ports. channels_at (drop 2 ports)) running.wired.ports.are

    by : AreDrivesOf (channels_at running.wired.ports.channels) row.channels
    by = subst (λ channels. AreDrivesOf channels row.channels) same_channels fits

    three : length running.wired.ports.channels ≡ 3 * length row.channels
    three = ports_of_drives running.wired.ports.channels row.channels running.wired.ports.rest by

    ports_size : length m.ports ≡ 2 + length running.wired.ports.channels
    ports_size = let e = ap length running.wired.ports.are in omega arith

    ports_fit : length m.ports ≤ length words
    ports_fit = let e = length-signals m in let f = running.covers in omega arith

    count : 2 + 3 * length row.channels ≤ length words
    count = omega (arith, three, ports_size, ports_fit)

    size : length (handed row words) ≡ length words
    size = length-all_driven 2 row.channels start ∙ start_size

    declared_at : (k : ℕ) (p : Port) → slice_get m.ports k ≡ Some p → widths_of words k ≡ p.width
    declared_at k p h = ap (λ f. f k) running.widths ∙ ap (λ o. unwrap_or (option_map (λ d. d.width) o) 1) (port_signal m k p h)

    second : slice_get m.ports 1 ≡ Some running.wired.ports.reset
    second = ap (λ ports. slice_get ports 1) running.wired.ports.are

    start_widths : widths_of start ≡ widths_of words
    start_widths = widths_of-set words 1 (bit row.reset) (omega (arith, count)) (sym (declared_at 1 running.wired.ports.reset second ∙ running.wired.ports.reset_wide))

    there : (k : ℕ) (p : Port) → slice_get running.wired.ports.channels k ≡ Some p → slice_get m.ports (suc (suc k)) ≡ Some p
    there k p h = ap (λ ports. slice_get ports (suc (suc k))) running.wired.ports.are ∙ h

    channel_widths : (k : ℕ) (p : Port) → slice_get running.wired.ports.channels k ≡ Some p → widths_of start (2 + k) ≡ p.width
    channel_widths k p h =
        let place : 2 + k ≡ suc (suc k) = omega arith in
        ap (λ f. f (2 + k)) start_widths ∙ ap (widths_of words) place ∙ declared_at (suc (suc k)) p (there k p h)

    room : 2 + length running.wired.ports.channels ≤ length start
    room = rw start_size (omega (arith, ports_size, ports_fit))

    widths : widths_of (handed row words) ≡ widths_of words
    widths = driven_widths running.wired.ports.channels row.channels 2 start running.wired.ports.rest by room channel_widths ∙ start_widths

    port_given : (s : ℕ) (p : Port) → slice_get m.ports s ≡ Some p → p.direction ≡ Input → values_of (handed row words) s ≡ given m row s
    port_given zero p h input =
        all_driven_below 2 0 row.channels start (omega arith) ∙ values_of-set_other words 1 0 (bit row.reset) (omega arith) ∙ running.clock
    port_given (suc zero) p h input =
        all_driven_below 2 1 row.channels start (omega arith) ∙ values_of-set_same words 1 (bit row.reset) (omega (arith, count))
    port_given (suc (suc k)) p h input =
        let at : slice_get running.wired.ports.channels k ≡ Some p = sym (ap (λ ports. slice_get ports (suc (suc k))) running.wired.ports.are) ∙ h in
        gives running.wired.ports.channels row.channels 2 start running.wired.ports.rest by room channel_widths k (suc (suc k)) p (omega arith) at input
        ∙ ap (λ channels. given_at channels row.channels k) (sym same_channels)

    inputs : (s : ℕ) (d : Declared) → IsSignal m s d → d.role ≡ InputSignal → values_of (handed row words) s ≡ given m row s
    inputs s d is_s role = let port = given_is_port m s d is_s role in port_given s port.0 port.1 port.2

    registers : (s : ℕ) (d : Declared) → IsSignal m s d → d.role ≡ RegisterSignal → values_of (handed row words) s ≡ values_of words s
    registers s d is_s role =
        let behind = held_behind_ports m s d is_s role in
        all_driven_above 2 s row.channels start (omega (arith, three, ports_size, behind))
        ∙ values_of-set_other words 1 s (bit row.reset) (omega (arith, ports_size, behind))

-- each assignment can be taken once the outside has given its own
pub handed_sound : (m : VModule) (indices : List ℕ) (words before : List Word) (row : Row) → IsRunning m indices words before → IsRowOf m row
    → All (IsSoundAssignment (length (handed row words)) (widths_of (handed row words))) m.assignments
handed_sound m indices words before row running fits =
    let handed_is = handing m indices words before row running fits in
    subst (λ n. All (IsSoundAssignment n (widths_of (handed row words))) m.assignments) (sym (handed_is.size ∙ running.covers))
    (subst (λ w. All (IsSoundAssignment (length (signals m)) w) m.assignments) (sym (handed_is.widths ∙ running.widths)) running.wired.assignments)

-- what is known of the numbers once the assignments were taken
pub record AreEvaluated (m : VModule) (indices : List ℕ) (row : Row) (words : List Word) : Type 0 where
  pub size : length (evaluated m indices row words) ≡ length words
  pub widths : widths_of (evaluated m indices row words) ≡ widths_of words
  pub now : IsNow m (values_of words) (given m row) (values_of (evaluated m indices row words))

pub evaluating : (m : VModule) (indices : List ℕ) (words before : List Word) (row : Row) → IsRunning m indices words before → IsRowOf m row → AreEvaluated m indices row words
evaluating m indices words before row running fits = record { size = kept.1 ∙ handed_is.size; widths = kept.0 ∙ handed_is.widths; now = now }
  where
    handed_is : AreHanded m row words
    handed_is = handing m indices words before row running fits

    sound : All (IsSoundAssignment (length (handed row words)) (widths_of (handed row words))) m.assignments
    sound = handed_sound m indices words before row running fits

    kept : (widths_of (evaluated m indices row words) ≡ widths_of (handed row words)) × (length (evaluated m indices row words) ≡ length (handed row words))
    kept = settled_widths (taken m.assignments indices) (handed row words) (taken_all (IsSoundAssignment (length (handed row words)) (widths_of (handed row words))) m.assignments indices sound)

    wires : DrivesWires m (taken m.assignments indices)
    wires = taken_all (λ a. (d : Declared) × IsSignal m a.target.0 d × (d.role ≡ WireSignal)) m.assignments indices
        (All-from_recursion (λ a. (d : Declared) × IsSignal m a.target.0 d × (d.role ≡ WireSignal)) m.assignments running.wired.wires)

    now : IsNow m (values_of words) (given m row) (values_of (evaluated m indices row words))
    now = order_means m (values_of words) (given m row) (handed row words) (taken m.assignments indices) running.order.ordered wires
        (running.order.covers (values_of (evaluated m indices row words))) handed_is.ready

-- the sets of a row
abbrev pub sets_by : VModule → Bool → List Set
sets_by m reset = if reset then m.at_reset else m.at_clock

pub sets_sound : (m : VModule) (reset : Bool) → IsWired m → All (IsSoundSet m) (sets_by m reset)
sets_sound m true wired = wired.resets
sets_sound m false wired = wired.clocks

-- what is known behind a cycle
pub record AreCycled (m : VModule) (indices : List ℕ) (row : Row) (words : List Word) : Type 0 where
  pub targets : All (λ set. set.target.0 < length (evaluated m indices row words)) (sets_by m row.reset)
  pub size : length (cycled m indices row words) ≡ length words
  pub widths : widths_of (cycled m indices row words) ≡ widths_of words
  -- a signal that is no register keeps its number
  pub others : (s : ℕ) (d : Declared) → IsSignal m s d → d.role ≢ RegisterSignal → values_of (cycled m indices row words) s ≡ values_of (evaluated m indices row words) s
  pub registers : (s : ℕ) (d : Declared) → IsSignal m s d → d.role ≡ RegisterSignal
      → values_of (cycled m indices row words) s ≡ taken_by (sets_by m row.reset) (values_of (evaluated m indices row words)) (values_of words) s

pub cycling : (m : VModule) (indices : List ℕ) (words before : List Word) (row : Row) → IsRunning m indices words before → IsRowOf m row → AreCycled m indices row words
cycling m indices words before row running fits = record { targets = targets; size = length-stored sets values words_now ∙ now.size; widths = stored_widths sets values words_now fit ∙ now.widths; others = others; registers = registers }
  where
    now : AreEvaluated m indices row words
    now = evaluating m indices words before row running fits

    words_now : List Word
    words_now = evaluated m indices row words

    values : Values
    values = values_of words_now

    sets : List Set
    sets = sets_by m row.reset

    sound : All (IsSoundSet m) sets
    sound = sets_sound m row.reset running.wired

    target_inside : (set : Set) → IsSoundSet m set → set.target.0 < length words_now
    target_inside set is_sound = rw (now.size, running.covers) (slice_get_within (signals m) set.target.0 is_sound.target.0 is_sound.target.1)

    targets : All (λ set. set.target.0 < length words_now) sets
    targets = λ k d h. target_inside (slice_index_or sets k d) (sound k d h)

    one : (set : Set) → IsSoundSet m set → (set.target.0 < length words_now) × ((atom_value values set.value).width ≡ widths_of words_now set.target.0)
    one set is_sound = (
      target_inside set is_sound,
      atom_wide values set.value ∙ ap (λ w. atom_width w set.value) (now.widths ∙ running.widths) ∙ is_sound.fit ∙ sym (ap (λ w. w set.target.0) (now.widths ∙ running.widths)),
    )

    by_recursion : AllByRecursion (IsSoundSet m) sets
    by_recursion = recursion_from_All (IsSoundSet m) sets sound

    fit : AllByRecursion (λ set. (set.target.0 < length words_now) × ((atom_value values set.value).width ≡ widths_of words_now set.target.0)) sets
    fit = each_other (IsSoundSet m) (λ set. (set.target.0 < length words_now) × ((atom_value values set.value).width ≡ widths_of words_now set.target.0)) one sets by_recursion

    others : (s : ℕ) (d : Declared) → IsSignal m s d → d.role ≢ RegisterSignal → values_of (cycled m indices row words) s ≡ values_of words_now s
    others s d is_s other = stored_elsewhere sets values words_now s
        (each_other (IsSoundSet m) (λ set. set.target.0 ≢ s) (λ set is_sound e.
        let same : Some is_sound.target.0 ≡ Some d = sym is_sound.target.1 ∙ ap (slice_get (signals m)) e ∙ is_s in
        let equal : is_sound.target.0 ≡ d = cc in
        other (sym (ap (λ x. x.role) equal) ∙ is_sound.target.2)) sets by_recursion)

    registers : (s : ℕ) (d : Declared) → IsSignal m s d → d.role ≡ RegisterSignal → values_of (cycled m indices row words) s ≡ taken_by sets values (values_of words) s
    registers s d is_s role =
        ap (λ f. f s) (stored_is sets values words_now (each_other (IsSoundSet m) (λ set. set.target.0 < length words_now) target_inside sets by_recursion))
        ∙ taken_by_same sets values values (values_of words) s (now.now.registers s d is_s role)

-- a cycle leaves the simulator running
pub runs_on : (m : VModule) (indices : List ℕ) (words before after : List Word) (row : Row) → IsRunning m indices words before → IsRowOf m row
    → length after ≡ length before → IsRunning m indices (cycled m indices row words) after
runs_on m indices words before after row running fits same =
    record { wired = running.wired; driven = running.driven; order = running.order; covers = known.size ∙ running.covers; widths = known.widths ∙ running.widths; clock = clock; room = same ∙ running.room ∙ sym known.size }
  where
    known : AreCycled m indices row words
    known = cycling m indices words before row running fits

    now : AreEvaluated m indices row words
    now = evaluating m indices words before row running fits

    first : IsSignal m 0 (declared_port running.wired.ports.clock)
    first = port_signal m 0 running.wired.ports.clock (ap (λ ports. slice_get ports 0) running.wired.ports.are)

    role : (declared_port running.wired.ports.clock).role ≡ InputSignal
    role = ap port_role running.wired.ports.clock_in

    not_held : InputSignal ≢ RegisterSignal
    not_held e = cc

    clock : values_of (cycled m indices row words) 0 ≡ bit false
    clock = known.others 0 (declared_port running.wired.ports.clock) first (λ e. not_held (sym role ∙ e)) ∙ now.now.inputs 0 (declared_port running.wired.ports.clock) first role

-- what is shown at ports is by the numbers of the ports alone
shown_same : (values other : Values) (at count : ℕ) (ports : List Port) → at + length ports ≤ count → ((s : ℕ) → s < count → values s ≡ other s)
    → shown_at values at (channels_at ports) ≡ shown_at other at (channels_at ports)
shown_same values other at count [] room same = refl
shown_same values other at count (d ∷ []) room same = refl
shown_same values other at count (d ∷ v ∷ []) room same = refl
shown_same values other at count (d ∷ v ∷ r ∷ rest) room same =
    let others = shown_same values other (at + 3) count rest (omega (arith, room)) same in
    let here = shown_one d.direction in
    cc
  where
    shown_one : (direction : Direction) → shown_channel values at direction ≡ shown_channel other at direction
    shown_one Input = ap (λ w. shown.Input (is_one w)) (same (at + 2) (omega (arith, room)))
    shown_one Output =
        let word_same = same at (omega (arith, room)) in
        let valid_same = same (at + 1) (omega (arith, room)) in
        rw (word_same, valid_same)

-- ---- the module can do nothing else

-- what a module does in a cycle is what the simulator does
pub now_only : (m : VModule) (indices : List ℕ) (words before : List Word) (row : Row) (held values : Values) → IsRunning m indices words before → IsRowOf m row
    → SameRegisters m (values_of words) held → IsNow m held (given m row) values
    → (s : ℕ) → s < length (signals m) → values s ≡ values_of (evaluated m indices row words) s
now_only m indices words before row held values running fits same now =
    order_only (record m { assignments = taken m.assignments indices }) held (given m row) values (handed row words) running.order.ordered wires reading driven ready taken_now
  where
    handed_is : AreHanded m row words
    handed_is = handing m indices words before row running fits

    wires : DrivesWires m (taken m.assignments indices)
    wires = taken_all (λ a. (d : Declared) × IsSignal m a.target.0 d × (d.role ≡ WireSignal)) m.assignments indices
        (All-from_recursion (λ a. (d : Declared) × IsSignal m a.target.0 d × (d.role ≡ WireSignal)) m.assignments running.wired.wires)

    reading : ReadsSignals (length (signals m)) (taken m.assignments indices)
    reading = taken_all (λ a. AllByRecursion (λ s. s < length (signals m)) (reads a.value)) m.assignments indices
        (λ k d h. reads_below (length (signals m)) (slice_index_or m.assignments k d).value (running.wired.assignments k d h).value.known)

    driven : (s : ℕ) (d : Declared) → IsSignal m s d → d.role ≡ WireSignal → ¬ (IsUndriven (taken m.assignments indices) s)
    driven s d is role undriven = running.driven s d is role (running.order.drives s undriven)

    ready : AreReady (record m { assignments = taken m.assignments indices }) held (given m row) (handed row words)
    ready = record {
      covers = handed_is.ready.covers;
      inputs = handed_is.ready.inputs;
      registers = λ s d is role. handed_is.ready.registers s d is role ∙ same s d is role;
    }

    taken_now : IsNow (record m { assignments = taken m.assignments indices }) held (given m row) values
    taken_now = record {
      inputs = now.inputs;
      registers = now.registers;
      wires = taken_all (λ a. values a.target.0 ≡ expr_value values a.value) m.assignments indices
          (All-from_recursion (λ a. values a.target.0 ≡ expr_value values a.value) m.assignments now.wires);
    }

-- the last cycle of a run
record IsLastCycle (m : VModule) (rows : List Row) (row : Row) (shown : List Outs) (other : Values) : Type 0 where
  outs : List Outs
  held : Values
  values : Values
  run : Runs m rows outs held
  now : IsNow m held (given m row) values
  shown_is : shown ≡ outs ++ outs_of m values ∷ []
  other_is : other ≡ registers_next m values held

ends_alike : (xs ys : List Row) (x y : Row) → xs ++ x ∷ [] ≡ ys ++ y ∷ [] → (xs ≡ ys) × (x ≡ y)
ends_alike [] [] x y e = (refl, cc)
ends_alike [] (b ∷ []) x y e = cc
ends_alike [] (b ∷ c ∷ ys) x y e = cc
ends_alike (a ∷ []) [] x y e = cc
ends_alike (a ∷ b ∷ xs) [] x y e = cc
ends_alike (a ∷ xs) (b ∷ ys) x y e =
    let first : a ≡ b = cc in
    let rest : xs ++ x ∷ [] ≡ ys ++ y ∷ [] = cc in
    let both = ends_alike xs ys x y rest in
    (ap (λ z. z ∷ xs) first ∙ ap (λ zs. b ∷ zs) both.0, both.1)

no_end : (ys : List Row) (y : Row) → [] ≡ ys ++ y ∷ [] → ⊥
no_end [] y e = cc
no_end (b ∷ ys) y e = cc

last_cycle : (m : VModule) (rows : List Row) (row : Row) (all : List Row) (shown : List Outs) (other : Values) → Runs m all shown other → all ≡ rows ++ row ∷ [] → IsLastCycle m rows row shown other
last_cycle m rows row _ _ _ start e = absurd (no_end rows row e)
last_cycle m rows row _ _ _ (cycle before outs held values last run now) e =
    let both = ends_alike before rows last row e in
    record {
      outs = outs;
      held = held;
      values = values;
      run = subst (λ r. Runs m r outs held) both.0 run;
      now = subst (λ r. IsNow m held (given m r) values) both.1 now;
      shown_is = refl;
      other_is = refl;
    }

-- registers take the same where what they take is the same
taken_by_values : (sets : List Set) (values other held : Values) (s : ℕ) → AllByRecursion (λ set. atom_value values set.value ≡ atom_value other set.value) sets
    → taken_by sets values held s ≡ taken_by sets other held s
taken_by_values [] values other held s h = refl
taken_by_values (set ∷ sets) values other held s h =
    ap (λ w. taken_by sets values (λ r. if set.target.0 == r then w else held r) s) h.0
    ∙ taken_by_values sets values other (λ r. if set.target.0 == r then atom_value other set.value else held r) s h.1

-- behind a cycle the simulator stands where the module does
pub stands_on : (m : VModule) (indices : List ℕ) (words before : List Word) (row : Row) → IsRunning m indices words before → IsRowOf m row
    → (rows : List Row) (outs : List Outs) → StandsAfter (record { design = m; words = words }) rows outs
    → StandsAfter (record { design = m; words = cycled m indices row words }) (rows ++ row ∷ []) (outs ++ outs_of m (values_of (cycled m indices row words)) ∷ [])
stands_on m indices words before row running fits rows outs stood = record { held = registers_next m values stood.held; runs = runs; only = only; registers = registers }
  where
    known : AreCycled m indices row words
    known = cycling m indices words before row running fits

    evaluated_is : AreEvaluated m indices row words
    evaluated_is = evaluating m indices words before row running fits

    values : Values
    values = values_of (evaluated m indices row words)

    now : IsNow m stood.held (given m row) values
    now = record { inputs = evaluated_is.now.inputs; registers = λ s d is_s role. evaluated_is.now.registers s d is_s role ∙ stood.registers s d is_s role; wires = evaluated_is.now.wires }

    -- the numbers of ports are those of the cycle
    at_port : (s : ℕ) → s < length m.ports → values_of (cycled m indices row words) s ≡ values s
    at_port s inside = go (slice_get m.ports s) refl
      where
        not_held : (p : Port) (e : Direction) → p.direction ≡ e → (declared_port p).role ≢ RegisterSignal
        not_held p Input is h = let wrong : InputSignal ≡ RegisterSignal = sym (ap port_role is) ∙ h in cc
        not_held p Output is h = let wrong : WireSignal ≡ RegisterSignal = sym (ap port_role is) ∙ h in cc

        go : (o : Option Port) → slice_get m.ports s ≡ o → values_of (cycled m indices row words) s ≡ values s
        go (Some p) is = known.others s (declared_port p) (port_signal m s p is) (not_held p p.direction refl)
        go None missing = let there = slice_get-get_or m.ports s running.wired.ports.clock inside in absurd (cc)

    same_outs : outs_of m (values_of (cycled m indices row words)) ≡ outs_of m values
    same_outs =
        let ports_size = ap length running.wired.ports.are in
        let channels = ap (drop 2) running.wired.ports.are in
        ap (λ list. record { channels = list })
        (rw channels (shown_same (values_of (cycled m indices row words)) values 2 (length m.ports) running.wired.ports.channels (omega (arith, ports_size)) at_port))

    runs : Runs m (rows ++ row ∷ []) (outs ++ outs_of m (values_of (cycled m indices row words)) ∷ []) (registers_next m values stood.held)
    runs = subst (λ shown_now. Runs m (rows ++ row ∷ []) (outs ++ shown_now ∷ []) (registers_next m values stood.held)) (sym same_outs)
        (cycle rows outs stood.held values row stood.runs now)

    chosen : (reset : Bool) → sets_by m reset ≡ (if (bit reset).value == 0 then m.at_clock else m.at_reset)
    chosen true = refl
    chosen false = refl

    reset_is : values 1 ≡ bit row.reset
    reset_is = evaluated_is.now.inputs 1 (declared_port running.wired.ports.reset) (port_signal m 1 running.wired.ports.reset (ap (λ ports. slice_get ports 1) running.wired.ports.are)) (ap port_role running.wired.ports.reset_in)

    sets_same : sets_by m row.reset ≡ (if (values 1).value == 0 then m.at_clock else m.at_reset)
    sets_same = chosen row.reset ∙ ap (λ w. if w.value == 0 then m.at_clock else m.at_reset) (sym reset_is)

    registers : (s : ℕ) (d : Declared) → IsSignal m s d → d.role ≡ RegisterSignal → values_of (cycled m indices row words) s ≡ registers_next m values stood.held s
    registers s d is_s role =
        known.registers s d is_s role
        ∙ taken_by_same (sets_by m row.reset) values (values_of words) stood.held s (stood.registers s d is_s role)
        ∙ ap (λ sets. taken_by sets values stood.held s) sets_same

    only : (shown_now : List Outs) (other : Values) → Runs m (rows ++ row ∷ []) shown_now other
        → (shown_now ≡ outs ++ outs_of m (values_of (cycled m indices row words)) ∷ []) × SameRegisters m other (registers_next m values stood.held)
    only shown_now other run = (shown_same_now, held_same)
      where
        end : IsLastCycle m rows row shown_now other
        end = last_cycle m rows row (rows ++ row ∷ []) shown_now other run refl

        before_it : (end.outs ≡ outs) × SameRegisters m end.held stood.held
        before_it = stood.only end.outs end.held end.run

        same_values : (s : ℕ) → s < length (signals m) → end.values s ≡ values s
        same_values = now_only m indices words before row end.held end.values running fits (λ s d is role. stood.registers s d is role ∙ sym (before_it.1 s d is role)) end.now

        ports_fit : length m.ports ≤ length (signals m)
        ports_fit = omega (arith, length-signals m)

        same_shown : outs_of m end.values ≡ outs_of m (values_of (cycled m indices row words))
        same_shown =
            let ports_size = ap length running.wired.ports.are in
            let channels = ap (drop 2) running.wired.ports.are in
            ap (λ list. record { channels = list })
            (rw channels (shown_same end.values values 2 (length m.ports) running.wired.ports.channels (omega (arith, ports_size)) (λ s h. same_values s (omega (arith, h, ports_fit)))))
            ∙ sym same_outs

        shown_same_now : shown_now ≡ outs ++ outs_of m (values_of (cycled m indices row words)) ∷ []
        shown_same_now = end.shown_is ∙ ap (λ xs. xs ++ outs_of m end.values ∷ []) before_it.0 ∙ ap (λ o. outs ++ o ∷ []) same_shown

        reset_there : 1 < length (signals m)
        reset_there = let ports_size = ap length running.wired.ports.are in omega (arith, ports_size, ports_fit)

        set_same : (set : Set) → IsSoundSet m set → atom_value end.values set.value ≡ atom_value values set.value
        set_same set is_sound = atom_same end.values values set.value
            (each_other (λ s. s < length (signals m)) (λ s. end.values s ≡ values s) same_values (atom_reads set.value) (atom_below (length (signals m)) set.value is_sound.known))

        sets_alike : (b : Bool) → AllByRecursion (λ set. atom_value end.values set.value ≡ atom_value values set.value) (if b then m.at_clock else m.at_reset)
        sets_alike true = each_other (IsSoundSet m) (λ set. atom_value end.values set.value ≡ atom_value values set.value) set_same m.at_clock (recursion_from_All (IsSoundSet m) m.at_clock running.wired.clocks)
        sets_alike false = each_other (IsSoundSet m) (λ set. atom_value end.values set.value ≡ atom_value values set.value) set_same m.at_reset (recursion_from_All (IsSoundSet m) m.at_reset running.wired.resets)

        held_same : SameRegisters m other (registers_next m values stood.held)
        held_same s d is role =
            ap (λ f. f s) end.other_is
            ∙ ap (λ w. taken_by (if w.value == 0 then m.at_clock else m.at_reset) end.values end.held s) (same_values 1 reset_there)
            ∙ taken_by_values (if (values 1).value == 0 then m.at_clock else m.at_reset) end.values values end.held s (sets_alike ((values 1).value == 0))
            ∙ taken_by_same (if (values 1).value == 0 then m.at_clock else m.at_reset) values end.held stood.held s (before_it.1 s d is role)

-- a vector whose whole content was written
pub whole : {A : Type 0} (xs ys : List A) (n : ℕ) → length xs ≡ n → take n (xs ++ ys) ≡ xs
whole xs ys n e = subst (λ k. take k (xs ++ ys) ≡ xs) e (take-append_seam xs ys)
