-- The rows that a row file says are rows of the module, which offer numbers.
use Rattle.std.proofs.Common.{◌≡◌, ◌<◌, ◌^◌, ℕ, zero, suc, Bool, true, false, List, [], ◌∷◌, ◌++◌, map, replicate, nat_lt, Option, Some, None, Result, Ok, Err, refl, sym, ap, ◌∙◌, subst, arith}
use Rattle.std.specs.Prelude.{if◌then◌else◌, slice_set}
use Rattle.std.specs.List.{AllByRecursion}
use Rattle.xb_bits.specs.Word.{Word, IsWord}
use Rattle.xb_value.specs.declared.ty.Ty.TheVariants.{Bits}
use Rattle.xb_value.specs.Flat.{flat_of}
use Rattle.xb_value.proofs.Lemmas.Reads.{Reads-typed}
use Rattle.xb_value.proofs.Lemmas.Typing.{bits_of_type}
use Rattle.xb_value.proofs.Lemmas.Values.{flat_of-Bits}
use Rattle.base.specs.Texts.Lines.{lines_of, positioned}
use Rattle.chan_file.specs.declared.refusal.Cause.{Cause}
use Rattle.chan_file.specs.declared.refusal.Cause.TheVariants.{Twice}
use Rattle.vlog_tree.specs.declared.module.VModule.{VModule}
use Rattle.vlog_tree.specs.declared.module.Direction.{Direction}
use Rattle.vlog_tree.specs.declared.module.Direction.TheVariants.{Input, Output}
use Rattle.vlog_tree.specs.declared.row.Drive.{Drive}
use Rattle.vlog_tree.specs.declared.row.Drive.TheVariants.{Offer, Ready}
use Rattle.vlog_tree.specs.Signals.{Channel, channels_of}
use Rattle.vlog_tree.specs.Rows.{IsRowOf}
use Rattle.cycle_sim.specs.declared.rows.draft.Draft.{Draft}
use Rattle.cycle_sim.specs.declared.rows.item.Said.{Said}
use Rattle.cycle_sim.specs.declared.rows.item.Said.TheVariants.{Drives, Misfit, Wrong}
use Rattle.cycle_sim.specs.declared.rows.item.Valued.{Valued}
use Rattle.cycle_sim.specs.declared.rows.item.Valued.TheVariants as valued
use Rattle.cycle_sim.specs.declared.rows.line.LineSaid.{LineSaid}
use Rattle.cycle_sim.specs.declared.rows.line.LineSaid.TheVariants.{Repeat}
use Rattle.cycle_sim.specs.declared.rows.refusal.RowError.{RowError}
use Rattle.cycle_sim.specs.declared.rows.refusal.RowError.TheVariants as refused
use Rattle.cycle_sim.specs.declared.rows.rows.Repeated.{Repeated}
use Rattle.cycle_sim.specs.Rows.Forms.{most_rows, pieces_of, times_of, without_repeat}
use Rattle.cycle_sim.specs.Rows.RowFile.{RowLines, Reads, SaysRow, SaysRowLine, SaysRowLines, a_row, all_rows, at_end, at_fault, before_rows, behind_nothing, behind_row, count_rows, cycles_limit, limited, no_row, other, remark, row_or}
use Rattle.cycle_sim.specs.Rows.Said.{SaysItem, SaysItems, SaysValue, blank_draft, channel_named, done, junk, next, noted, offer, offer_said, ready, ready_said, rest_at, was_named, width_at}
use Rattle.block_verilog.specs.Widths.{IsWordDrive, IsInputRow, AreInputRows}

-- ---- items

word_is : (width : ℕ) (text : List ℕ) (w : Word) → SaysValue width text (valued.Word w) → IsWord w
word_is width text w (v, r, is) =
    let b = bits_of_type width v (Reads-typed text (Bits width) v r) in
    let same : w ≡ b.word = is ∙ ap flat_of b.is ∙ flat_of-Bits b.word in
    let wide = b.width in
    let some = b.some_width in
    let most = b.most_width in
    subst IsWord (sym same) (record { some_width = omega (arith, wide, some); most_width = omega (arith, wide, most); in_range = subst (λ k. b.word.value < 2 ^ k) (sym wide) b.in_range })

-- what an item says offers a number
abbrev SaidIsWord : Said → Type 0
SaidIsWord (Drives c drive) = IsWordDrive drive
SaidIsWord (Misfit c) = Unit {0}
SaidIsWord (Wrong cause) = Unit {0}

ready_is : (named : List Bool) (o : Option ℕ) → SaidIsWord (ready_said named o)
ready_is named None = tt
ready_is named (Some c) = by_test (was_named named c)
  where
    by_test : (b : Bool) → SaidIsWord (if b then Wrong Twice else Drives c (Ready true))
    by_test true = tt
    by_test false = tt

offer_is : (named : List Bool) (o : Option ℕ) (width : ℕ) (text : List ℕ) (v : Valued) → SaysValue width text v → SaidIsWord (offer_said named o v)
offer_is named None width text valued.NoValue says = tt
offer_is named (Some c) width text valued.NoValue says = tt
offer_is named None width text (valued.Word w) says = tt
offer_is named None width text valued.Misfit says = tt
offer_is named (Some c) width text valued.Misfit says = by_test (was_named named c)
  where
    by_test : (b : Bool) → SaidIsWord (if b then Wrong Twice else Misfit c)
    by_test true = tt
    by_test false = tt
offer_is named (Some c) width text (valued.Word w) says = by_test (was_named named c)
  where
    by_test : (b : Bool) → SaidIsWord (if b then Wrong Twice else Drives c (Offer (Some w)))
    by_test true = tt
    by_test false = word_is width text w says

item_is : (channels : List Channel) (named : List Bool) (piece : List ℕ) (said : Said) → SaysItem channels named piece said → SaidIsWord said
item_is channels named piece _ (junk e) = tt
item_is channels named piece _ (ready name e) = ready_is named (channel_named channels Output name)
item_is channels named piece _ (offer name text v e says) = offer_is named (channel_named channels Input name) (width_at channels (channel_named channels Input name)) text v says

-- ---- rows

abbrev AreWordDrives : List Drive → Type 0
AreWordDrives drives = AllByRecursion IsWordDrive drives

drive_set : (drives : List Drive) (c : ℕ) (drive : Drive) → AreWordDrives drives → IsWordDrive drive → AreWordDrives (slice_set drives c drive)
drive_set [] c drive h f = tt
drive_set (d ∷ drives) zero drive h f = (f, h.1)
drive_set (d ∷ drives) (suc c) drive h f = (h.0, drive_set drives c drive h.1 f)

rest_is : (d : Direction) → IsWordDrive (rest_at d)
rest_is Input = tt
rest_is Output = tt

blank_is : (channels : List Channel) → AreWordDrives (map (λ (c : Channel). rest_at c.direction) channels)
blank_is [] = tt
blank_is (c ∷ channels) = (rest_is c.direction, blank_is channels)

noted_is : (said : Said) (d : Draft) → SaidIsWord said → AreWordDrives d.drives → AreWordDrives (noted said d).drives
noted_is (Drives c drive) d f h = drive_set d.drives c drive h f
noted_is (Misfit c) d f h = h
noted_is (Wrong cause) d f h = h

items_are : (channels : List Channel) (pieces : List (List ℕ)) (d e : Draft) → SaysItems channels pieces d e → AreWordDrives d.drives → AreWordDrives e.drives
items_are channels _ d _ (done _) h = h
items_are channels _ d e (next piece pieces _ _ said x xs) h = items_are channels pieces (noted said d) e xs (noted_is said d (item_is channels d.named piece said x) h)

row_is : (reset : Bool) (times : ℕ) (drives : List Drive) (o : Option Cause) (x : Repeated) → ◌≡◌ {A = LineSaid} (Repeat x) (row_or reset times drives o) → AreWordDrives drives → AreWordDrives x.row.channels
row_is reset times drives None x e h =
    let same : ◌≡◌ {A = Repeated} x (record { row = record { reset = reset; channels = drives }; times = times }) = cc in
    subst (λ (y : Repeated). AreWordDrives y.row.channels) (sym same) h
row_is reset times drives (Some cause) x e h = absurd (cc)

row_says : (channels : List Channel) (pieces : List (List ℕ)) (said : LineSaid) (x : Repeated) → SaysRow channels pieces said → ◌≡◌ {A = LineSaid} (Repeat x) said → AreWordDrives x.row.channels
row_says channels _ _ x (no_row head items f) e = absurd (cc)
row_says channels _ _ x (a_row head items reset draft f says) e =
    row_is reset (times_of items) draft.drives draft.worst x e (items_are channels (without_repeat items) (blank_draft channels) draft says (blank_is channels))

line_says : (channels : List Channel) (line : List ℕ) (said : LineSaid) (x : Repeated) → SaysRowLine channels line said → ◌≡◌ {A = LineSaid} (Repeat x) said → AreWordDrives x.row.channels
line_says channels line _ x (remark f) e = absurd (cc)
line_says channels line _ x (other said f says) e = row_says channels (pieces_of 0 line) said x says e

-- ---- files

abbrev AreWordRows : List Repeated → Type 0
AreWordRows rows = AllByRecursion (λ (x : Repeated). AreWordDrives x.row.channels) rows

abbrev LinesAre : RowLines → Type 0
LinesAre (Ok rows) = AreWordRows rows
LinesAre (Err e) = Unit {0}

before_is : (x : Repeated) (r : RowLines) → AreWordDrives x.row.channels → LinesAre r → LinesAre (before_rows x r)
before_is x (Ok rows) h all = (h, all)
before_is x (Err e) h all = tt

lines_are : (channels : List Channel) (lines : List (ℕ × List ℕ)) (r : RowLines) → SaysRowLines channels lines r → LinesAre r
lines_are channels _ _ at_end = tt
lines_are channels _ _ (behind_nothing at line lines r x xs) = lines_are channels lines r xs
lines_are channels _ _ (behind_row at line lines r row x xs) = before_is row r (line_says channels line (Repeat row) row x refl) (lines_are channels lines r xs)
lines_are channels _ _ (at_fault at line lines cause x) = tt

limited_are : (r : RowLines) (rows : List Repeated) → ◌≡◌ {A = Result (List Repeated) RowError} (Ok rows) (limited r) → LinesAre r → AreWordRows rows
limited_are (Err e) rows f h = absurd (cc)
limited_are (Ok xs) rows f h = by_test (nat_lt most_rows (count_rows xs)) f
  where
    by_test : (b : Bool) → ◌≡◌ {A = Result (List Repeated) RowError} (Ok rows) (if b then Err (refused.Over cycles_limit) else Ok xs) → AreWordRows rows
    by_test true g = absurd (cc)
    by_test false g = let same : rows ≡ xs = cc in subst AreWordRows (sym same) h

each_replicated : {A : Type 0} (P : A → Type 0) (n : ℕ) (x : A) → P x → AllByRecursion P (replicate n x)
each_replicated P zero x h = tt
each_replicated P (suc n) x h = (h, each_replicated P n x h)

each_both : {A : Type 0} (P : A → Type 0) (xs ys : List A) → AllByRecursion P xs → AllByRecursion P ys → AllByRecursion P (xs ++ ys)
each_both P [] ys h g = g
each_both P (x ∷ xs) ys h g = (h.0, each_both P xs ys h.1 g)

repeated_are : (m : VModule) (rows : List Repeated) → AllByRecursion (λ (x : Repeated). IsRowOf m x.row) rows → AreWordRows rows → AreInputRows m (all_rows rows)
repeated_are m [] fit words = tt
repeated_are m (x ∷ rows) fit words =
    each_both (IsInputRow m) (replicate x.times x.row) (all_rows rows) (each_replicated (IsInputRow m) x.times x.row (record { fits = fit.0; words = words.0 })) (repeated_are m rows fit.1 words.1)

pub file_rows_are : (m : VModule) (text : List ℕ) (rows : List Repeated) → Reads m text (Ok rows) → AllByRecursion (λ (x : Repeated). IsRowOf m x.row) rows → AreInputRows m (all_rows rows)
file_rows_are m text rows r fit = repeated_are m rows fit (limited_are r.lines rows r.is (lines_are (channels_of m) (positioned 0 (lines_of text)) r.lines r.says))
