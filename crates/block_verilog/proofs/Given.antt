-- What the outside gives in rows, and what registers hold over them, are numbers of their widths.
use Rattle.std.proofs.Common.{◌≡◌, ℕ, zero, suc, ◌<◌, ◌^◌, List, [], ◌∷◌, ◌++◌, length, map, refl, sym, ap, ◌∙◌, subst, Bool, true, false, lit<}
use Rattle.std.specs.Prelude.{slice_get, Some, None, option_map, unwrap_or, drop, ◌==◌, if◌then◌else◌}
use Rattle.std.specs.List.{AllByRecursion}
use Rattle.std.proofs.lemmas.Bool.{eqb-true}
use Rattle.std.proofs.lemmas.List.Elements.{recursion_from_All}
use Rattle.std.proofs.lemmas.Nat.{pow_pos}
use Rattle.xb_bits.specs.Word.{Word, word}
use Rattle.vlog_tree.specs.declared.expression.Atom.{Atom}
use Rattle.vlog_tree.specs.declared.expression.Atom.TheVariants as atom
use Rattle.vlog_tree.specs.declared.module.Declaration.{Declaration}
use Rattle.vlog_tree.specs.declared.module.Port.{Port}
use Rattle.vlog_tree.specs.declared.module.Set.{Set}
use Rattle.vlog_tree.specs.declared.module.Storage.{Storage}
use Rattle.vlog_tree.specs.declared.module.Storage.TheVariants as storage
use Rattle.vlog_tree.specs.declared.module.VModule.{VModule}
use Rattle.vlog_tree.specs.declared.row.Drive.{Drive}
use Rattle.vlog_tree.specs.declared.row.Drive.TheVariants.{Offer, Ready}
use Rattle.vlog_tree.specs.declared.row.Outs.{Outs}
use Rattle.vlog_tree.specs.declared.row.Row.{Row}
use Rattle.vlog_tree.specs.declared.signal.Role.TheVariants.{InputSignal}
use Rattle.vlog_tree.specs.Forms.{Widths, atom_width}
use Rattle.vlog_tree.specs.Meaning.{taken_by, registers_next, reset_port}
use Rattle.vlog_tree.specs.Rows.{Runs, start, cycle, given, given_at, data_given, valid_given, ready_given, IsDriveOf, AreDrivesOf, zeros}
use Rattle.vlog_tree.specs.Signals.{Declared, IsSignal, signals, declared_widths, declared_port, declared_own, storage_role, Channel, channel_of, channels_at, channels_of}
use Rattle.vlog_tree.specs.Sound.{IsKnownAtom}
use Rattle.vlog_tree.specs.Value.{Values, bit, atom_value}
use Rattle.vlog_tree.specs.WellFormed.{CanRun, IsSoundSet, AreChannelPorts}
use Rattle.vlog_tree.proofs.Lemmas.Settling.{each_prefix, each_back, each_other}
use Rattle.block_build.specs.Netlist.Order.{CarriesWord}
use Rattle.block_verilog.specs.Widths.{CarryWords, IsWordDrive, IsInputRow, AreInputRows}
use Rattle.block_verilog.proofs.Worth.{WiresCarry}
use Rattle.block_verilog.proofs.Cycles.{all_carry}

abbrev FitsWidth : ℕ → Word → Type 0
FitsWidth w x = (x.width ≡ w) × (x.value < 2 ^ w)

bit_fits : (b : Bool) → FitsWidth 1 (bit b)
bit_fits true = (refl, lit< tt)
bit_fits false = (refl, lit< tt)

-- ---- ports

data_fits : (channel : Channel) (drive : Drive) → IsDriveOf channel drive → IsWordDrive drive → FitsWidth channel.width (data_given channel.width drive)
data_fits channel (Offer (Some w)) fits is = (fits.1, subst (λ k. w.value < 2 ^ k) fits.1 is.in_range)
data_fits channel (Offer None) fits is = (refl, pow_pos channel.width)
data_fits channel (Ready ready) fits is = (refl, pow_pos channel.width)

valid_fits : (drive : Drive) → FitsWidth 1 (valid_given drive)
valid_fits (Offer (Some w)) = bit_fits true
valid_fits (Offer None) = bit_fits false
valid_fits (Ready ready) = bit_fits false

ready_fits : (drive : Drive) → FitsWidth 1 (ready_given drive)
ready_fits (Offer (Some w)) = bit_fits false
ready_fits (Offer None) = bit_fits false
ready_fits (Ready ready) = bit_fits ready

own_no_input : (own : List Declaration) (k : ℕ) (d : Declared) → slice_get (map declared_own own) k ≡ Some d → d.role ≡ InputSignal → ⊥
own_no_input [] k d there input = absurd (cc)
own_no_input (o ∷ own) zero d there input =
    let same : declared_own o ≡ d = cc in
    no_input o.storage (ap (λ x. x.role) same ∙ input)
  where
    no_input : (s : Storage) → storage_role s ≡ InputSignal → ⊥
    no_input storage.Wire e = absurd (cc)
    no_input storage.Register e = absurd (cc)
own_no_input (o ∷ own) (suc k) d there input = own_no_input own k d there input

here_fits : (x : Word) (p : Port) (d : Declared) → Some (declared_port p) ≡ Some d → FitsWidth p.width x → FitsWidth d.width x
here_fits x p d there fits = let same : declared_port p ≡ d = cc in subst (λ e. FitsWidth e.width x) same fits

narrow_fits : (x : Word) (w : ℕ) → w ≡ 1 → FitsWidth 1 x → FitsWidth w x
narrow_fits x w e fits = subst (λ k. FitsWidth k x) (sym e) fits

channels_fit : (own : List Declaration) (ports : List Port) (drives : List Drive) → AreChannelPorts ports → AreDrivesOf (channels_at ports) drives → AllByRecursion IsWordDrive drives
    → (k : ℕ) (d : Declared) → slice_get (map declared_port ports ++ map declared_own own) k ≡ Some d → d.role ≡ InputSignal → FitsWidth d.width (given_at (channels_at ports) drives k)
channels_fit own [] drives are fit words k d there input = absurd (own_no_input own k d there input)
channels_fit own (p ∷ []) drives are fit words k d there input = absurd are
channels_fit own (p ∷ q ∷ []) drives are fit words k d there input = absurd are
channels_fit own (p ∷ q ∷ r ∷ ports) [] are fit words k d there input = absurd fit
channels_fit own (p ∷ q ∷ r ∷ ports) (drive ∷ drives) are fit words zero d there input = here_fits _ p d there (data_fits (channel_of p) drive fit.0 words.0)
channels_fit own (p ∷ q ∷ r ∷ ports) (drive ∷ drives) are fit words (suc zero) d there input = here_fits _ q d there (narrow_fits _ q.width are.2 (valid_fits drive))
channels_fit own (p ∷ q ∷ r ∷ ports) (drive ∷ drives) are fit words (suc (suc zero)) d there input = here_fits _ r d there (narrow_fits _ r.width are.3 (ready_fits drive))
channels_fit own (p ∷ q ∷ r ∷ ports) (drive ∷ drives) are fit words (suc (suc (suc k))) d there input = channels_fit own ports drives are.4 fit.1 words.1 k d there input

-- the ports of a module, of which it is known what they are
ports_fit : (m : VModule) (row : Row) (clock reset : Port) (channels : List Port) → m.ports ≡ clock ∷ reset ∷ channels → clock.width ≡ 1 → reset.width ≡ 1 → AreChannelPorts channels
    → AreDrivesOf (channels_of m) row.channels → AllByRecursion IsWordDrive row.channels
    → (s : ℕ) (d : Declared) → IsSignal m s d → d.role ≡ InputSignal → FitsWidth d.width (given m row s)
ports_fit m row clock reset channels are one two rest fit words zero d there input =
    here_fits _ clock d (ap (λ ports. slice_get (map declared_port ports ++ map declared_own m.declarations) 0) (sym are) ∙ there) (narrow_fits _ clock.width one (bit_fits false))
ports_fit m row clock reset channels are one two rest fit words (suc zero) d there input =
    here_fits _ reset d (ap (λ ports. slice_get (map declared_port ports ++ map declared_own m.declarations) 1) (sym are) ∙ there) (narrow_fits _ reset.width two (bit_fits row.reset))
ports_fit m row clock reset channels are one two rest fit words (suc (suc k)) d there input =
    let same : channels_of m ≡ channels_at channels = ap (λ ports. channels_at (drop 2 ports)) are in
    subst (λ cs. FitsWidth d.width (given_at cs row.channels k)) (sym same)
    (channels_fit m.declarations channels row.channels rest (subst (λ cs. AreDrivesOf cs row.channels) same fit) words k d
    (ap (λ ports. slice_get (map declared_port ports ++ map declared_own m.declarations) (suc (suc k))) (sym are) ∙ there) input)

declared_there : (m : VModule) (s : ℕ) (d : Declared) → IsSignal m s d → declared_widths m s ≡ d.width
declared_there m s d there = ap (λ o. unwrap_or (option_map (λ (e : Declared). e.width) o) 1) there

pub given_carries : (m : VModule) (row : Row) → CanRun m → IsInputRow m row → CarryWords m InputSignal (given m row)
given_carries m row can is s d there input =
    let ports = can.wired.ports in
    subst (λ w. FitsWidth w (given m row s)) (sym (declared_there m s d there))
    (ports_fit m row ports.clock ports.reset ports.channels ports.are ports.clock_wide ports.reset_wide ports.rest is.fits is.words s d there input)

-- ---- registers

atom_fits : (m : VModule) (v : Values) (a : Atom) (w : ℕ) → ((s : ℕ) → s < length (signals m) → CarriesWord (declared_widths m) v s) → IsKnownAtom (length (signals m)) a → atom_width (declared_widths m) a ≡ w → FitsWidth w (atom_value v a)
atom_fits m v (atom.Signal s) w carry known fit = subst (λ k. FitsWidth k (v s.0)) fit (carry s.0 known)
atom_fits m v (atom.Literal l) w carry known fit = subst (λ k. FitsWidth k (word l.width l.value)) fit (refl, l.in_range known)

set_fits : (f : Widths) (held : Values) (t : ℕ) (x : Word) (s : ℕ) (b : Bool) → (t == s) ≡ b → FitsWidth (f t) x → FitsWidth (f s) (held s) → FitsWidth (f s) (if b then x else held s)
set_fits f held t x s true e there before = subst (λ k. FitsWidth (f k) x) (eqb-true t s e) there
set_fits f held t x s false e there before = before

taken_carry : (f : Widths) (v : Values) (sets : List Set) (held : Values) → AllByRecursion (λ (set : Set). FitsWidth (f set.target.0) (atom_value v set.value)) sets
    → ((s : ℕ) → CarriesWord f held s) → (s : ℕ) → CarriesWord f (taken_by sets v held) s
taken_carry f v [] held fit before s = before s
taken_carry f v (set ∷ sets) held fit before s =
    taken_carry f v sets (λ r. if set.target.0 == r then atom_value v set.value else held r) fit.1 (λ r. set_fits f held set.target.0 (atom_value v set.value) r (set.target.0 == r) refl fit.0 (before r)) s

sets_fit : (m : VModule) (v : Values) → ((s : ℕ) → s < length (signals m) → CarriesWord (declared_widths m) v s) → (sets : List Set) → AllByRecursion (IsSoundSet m) sets
    → AllByRecursion (λ (set : Set). FitsWidth (declared_widths m set.target.0) (atom_value v set.value)) sets
sets_fit m v carry sets sound = each_other (IsSoundSet m) (λ (set : Set). FitsWidth (declared_widths m set.target.0) (atom_value v set.value)) (λ set is. atom_fits m v set.value (declared_widths m set.target.0) carry is.known is.fit) sets sound

next_carry : (m : VModule) (v held : Values) → CanRun m → ((s : ℕ) → s < length (signals m) → CarriesWord (declared_widths m) v s) → ((s : ℕ) → CarriesWord (declared_widths m) held s)
    → (s : ℕ) → CarriesWord (declared_widths m) (registers_next m v held) s
next_carry m v held can carry before = at ((v reset_port).value == 0)
  where
    at : (b : Bool) → (s : ℕ) → CarriesWord (declared_widths m) (taken_by (if b then m.at_clock else m.at_reset) v held) s
    at true = taken_carry (declared_widths m) v m.at_clock held (sets_fit m v carry m.at_clock (recursion_from_All (IsSoundSet m) m.at_clock can.wired.clocks)) before
    at false = taken_carry (declared_widths m) v m.at_reset held (sets_fit m v carry m.at_reset (recursion_from_All (IsSoundSet m) m.at_reset can.wired.resets)) before

zeros_carry : (m : VModule) (s : ℕ) → CarriesWord (declared_widths m) (zeros m) s
zeros_carry m s = (refl, pow_pos (declared_widths m s))

pub rows_carry : WiresCarry → (m : VModule) (rows : List Row) (outs : List Outs) (held : Values) → CanRun m → AreInputRows m rows → Runs m rows outs held → (s : ℕ) → CarriesWord (declared_widths m) held s
rows_carry law m _ _ _ can are start = zeros_carry m
rows_carry law m _ _ _ can are (cycle rows outs held values row run now) =
    let before = rows_carry law m rows outs held can (each_prefix (IsInputRow m) rows (row ∷ []) are) run in
    let last = each_back (IsInputRow m) rows (row ∷ []) are in
    next_carry m values held can (all_carry law m held (given m row) values can now (given_carries m row can last.0) (λ s d is e. before s)) before
