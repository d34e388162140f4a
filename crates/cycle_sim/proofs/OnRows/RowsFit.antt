-- The rows that a text says are rows of the module.
use Rattle.std.proofs.Common.{◌≡◌, ◌<◌, ◌≤◌, ℕ, zero, suc, Bool, true, false, List, [], ◌∷◌, ◌++◌, map, drop, nat_lt, Option, Some, None, Result, Ok, Err, All, refl, sym, ap, ◌∙◌, subst, arith}
use Rattle.std.specs.Prelude.{if◌then◌else◌, bytes_eq, slice_get, slice_set, option_map, unwrap_or, min, max, get_or}
use Rattle.std.specs.List.{AllByRecursion}
use Rattle.std.proofs.lemmas.List.Elements.{recursion_from_All}
use Rattle.xb_bits.specs.Word.{Word}
use Rattle.xb_value.specs.declared.ty.Ty.TheVariants.{Bits}
use Rattle.xb_value.specs.declared.value.Value.{Value}
use Rattle.xb_value.specs.Flat.{flat_of}
use Rattle.xb_value.proofs.Lemmas.Reads.{Reads-typed}
use Rattle.xb_value.proofs.Lemmas.Flat.{as_wide}
use Rattle.xb_value.proofs.Lemmas.Types.{width_of-Bits}
use Rattle.base.specs.Texts.Lines.{lines_of, positioned}
use Rattle.chan_file.specs.declared.refusal.Cause.{Cause}
use Rattle.chan_file.specs.declared.refusal.Cause.TheVariants.{Syntax, Name, Twice, Kind}
use Rattle.vlog_tree.specs.declared.module.VModule.{VModule}
use Rattle.vlog_tree.specs.declared.module.Port.{Port}
use Rattle.vlog_tree.specs.declared.module.Direction.{Direction}
use Rattle.vlog_tree.specs.declared.module.Direction.TheVariants.{Input, Output}
use Rattle.vlog_tree.specs.declared.row.Drive.{Drive}
use Rattle.vlog_tree.specs.declared.row.Drive.TheVariants.{Offer, Ready}
use Rattle.vlog_tree.specs.Signals.{Channel, channel_of, channels_at, channels_of}
use Rattle.vlog_tree.specs.Rows.{AreDrivesOf, IsDriveOf, IsRowOf}
use Rattle.vlog_tree.specs.WellFormed.{CanRun}
use Rattle.cycle_sim.specs.declared.rows.draft.Draft.{Draft}
use Rattle.cycle_sim.specs.declared.rows.item.Said.{Said}
use Rattle.cycle_sim.specs.declared.rows.item.Said.TheVariants.{Drives, Misfit, Wrong}
use Rattle.cycle_sim.specs.declared.rows.item.Valued.{Valued}
use Rattle.cycle_sim.specs.declared.rows.item.Valued.TheVariants as valued
use Rattle.cycle_sim.specs.declared.rows.line.LineSaid.{LineSaid}
use Rattle.cycle_sim.specs.declared.rows.line.LineSaid.TheVariants.{Nothing, Repeat, Fault}
use Rattle.cycle_sim.specs.declared.rows.refusal.RowError.{RowError}
use Rattle.cycle_sim.specs.declared.rows.refusal.RowError.TheVariants as refused
use Rattle.cycle_sim.specs.declared.rows.rows.Repeated.{Repeated}
use Rattle.cycle_sim.specs.Rows.Forms.{most_rows, pieces_of, times_of, without_repeat}
use Rattle.cycle_sim.specs.Rows.RowFile.{RowLines, Reads, SaysRow, SaysRowLine, SaysRowLines, a_row, at_end, at_fault, before_rows, behind_nothing, behind_row, count_rows, cycles_limit, limited, no_row, other, remark, row_or}
use Rattle.cycle_sim.specs.Rows.Said.{SaysItem, SaysItems, SaysValue, blank_draft, channel_named, directed, done, if_directed, is_direction, junk, named_from, names_of, next, noted, offer, offer_said, ready, ready_said, rest_at, was_named, width_at, word_width}

-- ---- channels

abbrev IsNarrow : Channel → Type 0
IsNarrow c = (1 ≤ c.width) × (c.width ≤ 128)

narrow_at : (ps : List Port) → AllByRecursion (λ p. (1 ≤ p.width) × (p.width ≤ 128)) ps → AllByRecursion IsNarrow (channels_at ps)
narrow_at [] h = tt
narrow_at (d ∷ []) h = tt
narrow_at (d ∷ v ∷ []) h = tt
narrow_at (d ∷ v ∷ r ∷ ps) h = (h.0, narrow_at ps h.1.1.1)

narrow_channels : (m : VModule) → CanRun m → AllByRecursion IsNarrow (channels_of m)
narrow_channels m runs = go m.ports (recursion_from_All (λ p. (1 ≤ p.width) × (p.width ≤ 128)) m.ports runs.wired.port_widths)
  where
    go : (ps : List Port) → AllByRecursion (λ p. (1 ≤ p.width) × (p.width ≤ 128)) ps → AllByRecursion IsNarrow (channels_at (drop 2 ps))
    go [] h = tt
    go (c ∷ []) h = tt
    go (c ∷ r ∷ ps) h = narrow_at ps h.1.1

-- the channel that was found
record IsThere (channels : List Channel) (direction : Direction) (c : ℕ) : Type 0 where
  channel : Channel
  there : slice_get channels c ≡ Some channel
  right : channel.direction ≡ direction

same_direction : (a b : Direction) → is_direction a b ≡ true → b ≡ a
same_direction Input Input e = refl
same_direction Input Output e = cc
same_direction Output Input e = cc
same_direction Output Output e = refl

found_at : (channels : List Channel) (direction : Direction) (o : Option ℕ) (c : ℕ) → if_directed channels direction o ≡ Some c → IsThere channels direction c
found_at channels direction None c e = absurd (cc)
found_at channels direction (Some d) c e = by_test (directed direction (slice_get channels d)) refl e
  where
    by_channel : (o : Option Channel) → slice_get channels d ≡ o → directed direction o ≡ true → IsThere channels direction d
    by_channel None is t = absurd (cc)
    by_channel (Some channel) is t = record { channel = channel; there = is; right = same_direction direction channel.direction t }

    by_test : (b : Bool) → directed direction (slice_get channels d) ≡ b → (if b then Some d else None) ≡ Some c → IsThere channels direction c
    by_test true t f = let same : d ≡ c = cc in subst (IsThere channels direction) same (by_channel (slice_get channels d) refl t)
    by_test false t f = absurd (cc)

narrow_one : (channels : List Channel) (c : ℕ) (channel : Channel) → AllByRecursion IsNarrow channels → slice_get channels c ≡ Some channel → IsNarrow channel
narrow_one [] c channel all e = cc
narrow_one (x ∷ channels) zero channel all e = let same : x ≡ channel = cc in subst IsNarrow same all.0
narrow_one (x ∷ channels) (suc c) channel all e = narrow_one channels c channel all.1 e

-- ---- drives

drive_set : (channels : List Channel) (drives : List Drive) (c : ℕ) (channel : Channel) (drive : Drive) → AreDrivesOf channels drives → slice_get channels c ≡ Some channel → IsDriveOf channel drive
    → AreDrivesOf channels (slice_set drives c drive)
drive_set [] [] c channel drive h e f = cc
drive_set [] (d ∷ drives) c channel drive h e f = absurd h
drive_set (x ∷ channels) [] c channel drive h e f = absurd h
drive_set (x ∷ channels) (d ∷ drives) zero channel drive h e f = let same : x ≡ channel = cc in (subst (λ y. IsDriveOf y drive) (sym same) f, h.1)
drive_set (x ∷ channels) (d ∷ drives) (suc c) channel drive h e f = (h.0, drive_set channels drives c channel drive h.1 e f)

rest_fits : (channel : Channel) (d : Direction) → channel.direction ≡ d → IsDriveOf channel (rest_at d)
rest_fits channel Input e = e
rest_fits channel Output e = e

blank_fits : (channels : List Channel) → AreDrivesOf channels (map (λ (c : Channel). rest_at c.direction) channels)
blank_fits [] = tt
blank_fits (c ∷ channels) = (rest_fits c c.direction refl, blank_fits channels)

-- what an item says drives a channel by its direction, with a word of its width
SaidFits : List Channel → Said → Type 0
SaidFits channels (Drives c drive) = (channel : Channel) × (slice_get channels c ≡ Some channel) × IsDriveOf channel drive
SaidFits channels (Misfit c) = Unit {0}
SaidFits channels (Wrong cause) = Unit {0}

ready_fits : (channels : List Channel) (named : List Bool) (o : Option ℕ) → ((c : ℕ) → o ≡ Some c → IsThere channels Output c) → SaidFits channels (ready_said named o)
unfolding SaidFits
ready_fits channels named None h = tt
ready_fits channels named (Some c) h = by_test (was_named named c)
  where
    by_test : (b : Bool) → SaidFits channels (if b then Wrong Twice else Drives c (Ready true))
    by_test true = tt
    by_test false = let there = h c refl in (there.channel, there.there, there.right)

word_wide : (width : ℕ) (text : List ℕ) (w : Word) → SaysValue width text (valued.Word w) → w.width ≡ width
word_wide width text w (v, r, is) = ap (λ (x : Word). x.width) is ∙ as_wide (Bits width) v (Reads-typed text (Bits width) v r) ∙ width_of-Bits width

offer_fits : (channels : List Channel) (named : List Bool) (o : Option ℕ) (text : List ℕ) (v : Valued) → AllByRecursion IsNarrow channels → ((c : ℕ) → o ≡ Some c → IsThere channels Input c)
    → SaysValue (width_at channels o) text v → SaidFits channels (offer_said named o v)
unfolding SaidFits
offer_fits channels named None text valued.NoValue narrow h says = tt
offer_fits channels named (Some c) text valued.NoValue narrow h says = tt
offer_fits channels named None text (valued.Word w) narrow h says = tt
offer_fits channels named None text valued.Misfit narrow h says = tt
offer_fits channels named (Some c) text valued.Misfit narrow h says = by_test (was_named named c)
  where
    by_test : (b : Bool) → SaidFits channels (if b then Wrong Twice else Misfit c)
    by_test true = tt
    by_test false = tt
offer_fits channels named (Some c) text (valued.Word w) narrow h says = by_test (was_named named c)
  where
    there : IsThere channels Input c
    there = h c refl

    own : IsNarrow there.channel
    own = narrow_one channels c there.channel narrow there.there

    wide : w.width ≡ there.channel.width
    wide =
        let at : width_at channels (Some c) ≡ word_width there.channel.width = ap (λ o. word_width (unwrap_or (option_map (λ (x : Channel). x.width) o) 1)) there.there in
        let said = word_wide (width_at channels (Some c)) text w says in
        omega (arith, said, at, own.0, own.1)

    by_test : (b : Bool) → SaidFits channels (if b then Wrong Twice else Drives c (Offer (Some w)))
    by_test true = tt
    by_test false = (there.channel, there.there, (there.right, wide))

item_fits : (channels : List Channel) (named : List Bool) (piece : List ℕ) (said : Said) → AllByRecursion IsNarrow channels → SaysItem channels named piece said → SaidFits channels said
unfolding SaidFits
item_fits channels named piece _ narrow (junk e) = tt
item_fits channels named piece _ narrow (ready name e) = ready_fits channels named (channel_named channels Output name) (λ c f. found_at channels Output (named_from 0 (names_of channels) name) c f)
item_fits channels named piece _ narrow (offer name text v e says) =
    offer_fits channels named (channel_named channels Input name) text v narrow (λ c f. found_at channels Input (named_from 0 (names_of channels) name) c f) says

noted_fits : (channels : List Channel) (said : Said) (d : Draft) → SaidFits channels said → AreDrivesOf channels d.drives → AreDrivesOf channels (noted said d).drives
unfolding SaidFits
noted_fits channels (Drives c drive) d (channel, there, fits) h = drive_set channels d.drives c channel drive h there fits
noted_fits channels (Misfit c) d fits h = h
noted_fits channels (Wrong cause) d fits h = h

items_fit : (channels : List Channel) (pieces : List (List ℕ)) (d e : Draft) → AllByRecursion IsNarrow channels → SaysItems channels pieces d e → AreDrivesOf channels d.drives → AreDrivesOf channels e.drives
items_fit channels _ d _ narrow (done _) h = h
items_fit channels _ d e narrow (next piece pieces _ _ said x xs) h =
    items_fit channels pieces (noted said d) e narrow xs (noted_fits channels said d (item_fits channels d.named piece said narrow x) h)

-- ---- lines

row_drives : (channels : List Channel) (reset : Bool) (times : ℕ) (drives : List Drive) (o : Option Cause) (x : Repeated) → ◌≡◌ {A = LineSaid} (Repeat x) (row_or reset times drives o)
    → AreDrivesOf channels drives → AreDrivesOf channels x.row.channels
row_drives channels reset times drives None x e h =
    let same : ◌≡◌ {A = Repeated} x (record { row = record { reset = reset; channels = drives }; times = times }) = cc in
    subst (λ (y : Repeated). AreDrivesOf channels y.row.channels) (sym same) h
row_drives channels reset times drives (Some cause) x e h = absurd (cc)

row_says : (channels : List Channel) (pieces : List (List ℕ)) (said : LineSaid) (x : Repeated) → AllByRecursion IsNarrow channels → SaysRow channels pieces said → ◌≡◌ {A = LineSaid} (Repeat x) said → AreDrivesOf channels x.row.channels
row_says channels _ _ x narrow (no_row head items f) e = absurd (cc)
row_says channels _ _ x narrow (a_row head items reset draft f says) e =
    row_drives channels reset (times_of items) draft.drives draft.worst x e
    (items_fit channels (without_repeat items) (blank_draft channels) draft narrow says (blank_fits channels))

line_says : (channels : List Channel) (line : List ℕ) (said : LineSaid) (x : Repeated) → AllByRecursion IsNarrow channels → SaysRowLine channels line said → ◌≡◌ {A = LineSaid} (Repeat x) said → AreDrivesOf channels x.row.channels
line_says channels line _ x narrow (remark f) e = absurd (cc)
line_says channels line _ x narrow (other said f says) e = row_says channels (pieces_of 0 line) said x narrow says e

-- the rows fit, if there are rows
RowsFit : List Channel → RowLines → Type 0
RowsFit channels (Ok rows) = AllByRecursion (λ (x : Repeated). AreDrivesOf channels x.row.channels) rows
RowsFit channels (Err e) = Unit {0}

before_fits : (channels : List Channel) (x : Repeated) (r : RowLines) → AreDrivesOf channels x.row.channels → RowsFit channels r → RowsFit channels (before_rows x r)
unfolding RowsFit
before_fits channels x (Ok rows) h all = (h, all)
before_fits channels x (Err e) h all = tt

lines_fit : (channels : List Channel) (lines : List (ℕ × List ℕ)) (r : RowLines) → AllByRecursion IsNarrow channels → SaysRowLines channels lines r → RowsFit channels r
unfolding RowsFit
lines_fit channels _ _ narrow at_end = tt
lines_fit channels _ _ narrow (behind_nothing at line lines r x xs) = lines_fit channels lines r narrow xs
lines_fit channels _ _ narrow (behind_row at line lines r row x xs) =
    before_fits channels row r (line_says channels line (Repeat row) row narrow x refl) (lines_fit channels lines r narrow xs)
lines_fit channels _ _ narrow (at_fault at line lines cause x) = tt

limited_fits : (channels : List Channel) (r : RowLines) (rows : List Repeated) → ◌≡◌ {A = Result (List Repeated) RowError} (Ok rows) (limited r) → RowsFit channels r → AllByRecursion (λ (x : Repeated). AreDrivesOf channels x.row.channels) rows
unfolding RowsFit
limited_fits channels (Err e) rows f h = absurd (cc)
limited_fits channels (Ok xs) rows f h = by_test (nat_lt most_rows (count_rows xs)) f
  where
    by_test : (b : Bool) → ◌≡◌ {A = Result (List Repeated) RowError} (Ok rows) (if b then Err (refused.Over cycles_limit) else Ok xs) → AllByRecursion (λ (x : Repeated). AreDrivesOf channels x.row.channels) rows
    by_test true g = absurd (cc)
    by_test false g = let same : rows ≡ xs = cc in subst (AllByRecursion (λ (x : Repeated). AreDrivesOf channels x.row.channels)) (sym same) h

pub rows_fit : (m : VModule) (text : List ℕ) (rows : List Repeated) → CanRun m → Reads m text (Ok rows) → AllByRecursion (λ x. IsRowOf m x.row) rows
rows_fit m text rows runs r = limited_fits (channels_of m) r.lines rows r.is (lines_fit (channels_of m) (positioned 0 (lines_of text)) r.lines (narrow_channels m runs) r.says)
