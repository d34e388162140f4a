-- A text says one thing of a module's rows, and these are rows of the module.
use Rattle.std.proofs.Common.{◌≡◌, ◌≢◌, ◌<◌, ◌≤◌, ◌+◌, ℕ, zero, suc, Bool, true, false, List, [], ◌∷◌, ◌++◌, map, replicate, length, nat_lt, Option, Some, None, Result, Ok, Err, All, refl, sym, ap, ◌∙◌, subst, arith}
use Rattle.std.specs.Prelude.{if◌then◌else◌, bytes_eq, slice_get, slice_set, option_map, unwrap_or, min, max}
use Rattle.std.specs.List.{AllByRecursion}
use Rattle.xb_bits.specs.Word.{Word}
use Rattle.xb_value.specs.declared.ty.Ty.TheVariants.{Bits}
use Rattle.xb_value.specs.declared.value.Value.{Value}
use Rattle.xb_value.specs.Flat.{flat_of}
use Rattle.xb_value.proofs.Lemmas.Reads.{Misfits-spells, Reads-fits, Reads-spells, Reads-typed, Reads-unique}
use Rattle.xb_value.proofs.Lemmas.Flat.{as_wide}
use Rattle.xb_value.proofs.Lemmas.Types.{width_of-Bits}
use Rattle.base.specs.Texts.Lines.{lines_of, positioned}
use Rattle.chan_file.specs.declared.refusal.Cause.{Cause}
use Rattle.chan_file.specs.declared.refusal.Cause.TheVariants.{Syntax}
use Rattle.vlog_tree.specs.declared.module.VModule.{VModule}
use Rattle.vlog_tree.specs.declared.module.Direction.TheVariants.{Input, Output}
use Rattle.vlog_tree.specs.Signals.{Channel, channels_of}
use Rattle.cycle_sim.specs.declared.rows.draft.Draft.{Draft}
use Rattle.cycle_sim.specs.declared.rows.item.Said.{Said}
use Rattle.cycle_sim.specs.declared.rows.item.Said.TheVariants.{Wrong}
use Rattle.cycle_sim.specs.declared.rows.item.Valued.{Valued}
use Rattle.cycle_sim.specs.declared.rows.item.Valued.TheVariants as valued
use Rattle.cycle_sim.specs.declared.rows.line.LineSaid.{LineSaid}
use Rattle.cycle_sim.specs.declared.rows.line.LineSaid.TheVariants.{Nothing, Repeat, Fault}
use Rattle.cycle_sim.specs.declared.rows.refusal.RowError.{RowError}
use Rattle.cycle_sim.specs.declared.rows.rows.Repeated.{Repeated}
use Rattle.cycle_sim.specs.Rows.Forms.{ItemForm, is_remark, item_form, no_item, offers, pieces_of, readies, reset_of, times_of, without_repeat}
use Rattle.cycle_sim.specs.Rows.RowFile.{RowLines, Reads, SaysRow, SaysRowLine, SaysRowLines, a_row, at_end, at_fault, before_rows, behind_nothing, behind_row, limited, no_row, other, remark, row_by}
use Rattle.cycle_sim.specs.Rows.Said.{SaysItem, SaysItems, SaysValue, blank_draft, channel_named, done, junk, next, noted, offer, offer_said, ready, ready_said, width_at}

-- ---- values

value_is_one : (width : ℕ) (text : List ℕ) (a b : Valued) → SaysValue width text a → SaysValue width text b → a ≡ b
value_is_one width text (valued.Word v) (valued.Word w) (x, r, is) (y, s, also) =
    let same : x ≡ y = Reads-unique text (Bits width) x y r s in ap valued.Word (is ∙ ap flat_of same ∙ sym also)
value_is_one width text (valued.Word v) valued.NoValue (x, r, is) none = let spells = Reads-spells text (Bits width) x r in absurd (none spells.0 spells.1)
value_is_one width text (valued.Word v) valued.Misfit (x, r, is) (at, m) = absurd (Reads-fits text (Bits width) x at r m)
value_is_one width text valued.NoValue (valued.Word w) none (y, s, also) = let spells = Reads-spells text (Bits width) y s in absurd (none spells.0 spells.1)
value_is_one width text valued.NoValue valued.NoValue none nor = refl
value_is_one width text valued.NoValue valued.Misfit none (at, m) = let spells = Misfits-spells text (Bits width) at m in absurd (none spells.0 spells.1)
value_is_one width text valued.Misfit (valued.Word w) (at, m) (y, s, also) = absurd (Reads-fits text (Bits width) y at s m)
value_is_one width text valued.Misfit valued.NoValue (at, m) none = let spells = Misfits-spells text (Bits width) at m in absurd (none spells.0 spells.1)
value_is_one width text valued.Misfit valued.Misfit (at, m) (offset, n) = refl

-- ---- items

-- what an item says by its form
abbrev FormSays : List Channel → List Bool → ItemForm → Said → Type 0
FormSays channels named no_item said = said ≡ Wrong Syntax
FormSays channels named (readies name) said = said ≡ ready_said named (channel_named channels Output name)
FormSays channels named (offers name text) said = (v : Valued) × SaysValue (width_at channels (channel_named channels Input name)) text v × (said ≡ offer_said named (channel_named channels Input name) v)

form_says : (channels : List Channel) (named : List Bool) (piece : List ℕ) (said : Said) → SaysItem channels named piece said → FormSays channels named (item_form piece) said
form_says channels named piece _ (junk e) = subst (λ f. FormSays channels named f (Wrong Syntax)) (sym e) refl
form_says channels named piece _ (ready name e) = subst (λ f. FormSays channels named f (ready_said named (channel_named channels Output name))) (sym e) refl
form_says channels named piece _ (offer name text v e says) =
    subst (λ f. FormSays channels named f (offer_said named (channel_named channels Input name) v)) (sym e) (v, says, refl)

form_is_one : (channels : List Channel) (named : List Bool) (form : ItemForm) (a b : Said) → FormSays channels named form a → FormSays channels named form b → a ≡ b
form_is_one channels named no_item a b e f = e ∙ sym f
form_is_one channels named (readies name) a b e f = e ∙ sym f
form_is_one channels named (offers name text) a b (v, says, e) (w, also, f) =
    e ∙ ap (offer_said named (channel_named channels Input name)) (value_is_one (width_at channels (channel_named channels Input name)) text v w says also) ∙ sym f

item_is_one : (channels : List Channel) (named : List Bool) (piece : List ℕ) (a b : Said) → SaysItem channels named piece a → SaysItem channels named piece b → a ≡ b
item_is_one channels named piece a b x y = form_is_one channels named (item_form piece) a b (form_says channels named piece a x) (form_says channels named piece b y)

items_are_one : (channels : List Channel) (pieces : List (List ℕ)) (d e f : Draft) → SaysItems channels pieces d e → SaysItems channels pieces d f → e ≡ f
items_are_one channels [] d e f (done _) (done _) = refl
items_are_one channels (piece ∷ pieces) d e f (next _ _ _ _ a x xs) (next _ _ _ _ b y ys) =
    let same = item_is_one channels d.named piece a b x y in
    items_are_one channels pieces (noted a d) e f xs (subst (λ s. SaysItems channels pieces (noted s d) f) (sym same) ys)

-- ---- lines

clash : (o : Option Bool) (b : Bool) → o ≡ None → o ≡ Some b → ⊥
clash o b e f = let no : ◌≡◌ {A = Option Bool} None (Some b) = sym e ∙ f in absurd (cc)

row_is_one : (channels : List Channel) (pieces : List (List ℕ)) (a b : LineSaid) → SaysRow channels pieces a → SaysRow channels pieces b → a ≡ b
row_is_one channels [] a b x _ = elim x [ ]
row_is_one channels (head ∷ items) a b (no_row _ _ e) (no_row _ _ f) = refl
row_is_one channels (head ∷ items) a b (no_row _ _ e) (a_row _ _ reset draft f says) = absurd (clash (reset_of head) reset e f)
row_is_one channels (head ∷ items) a b (a_row _ _ reset draft e says) (no_row _ _ f) = absurd (clash (reset_of head) reset f e)
row_is_one channels (head ∷ items) a b (a_row _ _ reset draft e says) (a_row _ _ second end f also) =
    let both : Some reset ≡ Some second = sym e ∙ f in
    let same : reset ≡ second = cc in
    let drafts = items_are_one channels (without_repeat items) (blank_draft channels) draft end says also in
    ap (λ r. row_by r (times_of items) draft) same ∙ ap (row_by second (times_of items)) drafts

not_both : (b : Bool) → b ≡ true → b ≡ false → ⊥
not_both b e f = let no : true ≡ false = sym e ∙ f in cc

line_is_one : (channels : List Channel) (line : List ℕ) (a b : LineSaid) → SaysRowLine channels line a → SaysRowLine channels line b → a ≡ b
line_is_one channels line a b (remark e) (remark f) = refl
line_is_one channels line a b (remark e) (other said f says) = absurd (not_both (is_remark line) e f)
line_is_one channels line a b (other said e says) (remark f) = absurd (not_both (is_remark line) f e)
line_is_one channels line a b (other said e says) (other also f more) = row_is_one channels (pieces_of 0 line) a b says more

-- what a line says is one of three things
nothing_row : (x : Repeated) → ◌≡◌ {A = LineSaid} Nothing (Repeat x) → ⊥
nothing_row x e = absurd (cc)

nothing_fault : (c : Cause) → ◌≡◌ {A = LineSaid} Nothing (Fault c) → ⊥
nothing_fault c e = absurd (cc)

row_fault : (x : Repeated) (c : Cause) → ◌≡◌ {A = LineSaid} (Repeat x) (Fault c) → ⊥
row_fault x c e = absurd (cc)

lines_are_one : (channels : List Channel) (lines : List (ℕ × List ℕ)) (a b : RowLines) → SaysRowLines channels lines a → SaysRowLines channels lines b → a ≡ b
lines_are_one channels [] a b at_end at_end = refl
lines_are_one channels (_ ∷ lines) a b (behind_nothing at line _ _ x xs) (behind_nothing _ _ _ _ y ys) = lines_are_one channels lines a b xs ys
lines_are_one channels (_ ∷ lines) a b (behind_nothing at line _ _ x xs) (behind_row _ _ _ _ r y ys) = absurd (nothing_row r (line_is_one channels line Nothing (Repeat r) x y))
lines_are_one channels (_ ∷ lines) a b (behind_nothing at line _ _ x xs) (at_fault _ _ _ c y) = absurd (nothing_fault c (line_is_one channels line Nothing (Fault c) x y))
lines_are_one channels (_ ∷ lines) a b (behind_row at line _ _ r x xs) (behind_nothing _ _ _ _ y ys) = absurd (nothing_row r (line_is_one channels line Nothing (Repeat r) y x))
lines_are_one channels (_ ∷ lines) a b (behind_row at line _ p r x xs) (behind_row _ _ _ q s y ys) =
    let said : ◌≡◌ {A = LineSaid} (Repeat r) (Repeat s) = line_is_one channels line (Repeat r) (Repeat s) x y in
    let same : r ≡ s = cc in
    let rest = lines_are_one channels lines p q xs ys in
    ap (λ z. before_rows z p) same ∙ ap (before_rows s) rest
lines_are_one channels (_ ∷ lines) a b (behind_row at line _ _ r x xs) (at_fault _ _ _ c y) = absurd (row_fault r c (line_is_one channels line (Repeat r) (Fault c) x y))
lines_are_one channels (_ ∷ lines) a b (at_fault at line _ c x) (behind_nothing _ _ _ _ y ys) = absurd (nothing_fault c (line_is_one channels line Nothing (Fault c) y x))
lines_are_one channels (_ ∷ lines) a b (at_fault at line _ c x) (behind_row _ _ _ _ s y ys) = absurd (row_fault s c (line_is_one channels line (Repeat s) (Fault c) y x))
lines_are_one channels (_ ∷ lines) a b (at_fault at line _ c x) (at_fault _ _ _ d y) =
    let said : ◌≡◌ {A = LineSaid} (Fault c) (Fault d) = line_is_one channels line (Fault c) (Fault d) x y in
    let same : c ≡ d = cc in ap (λ z. Err (z, at)) same

pub one_reading : (m : VModule) (text : List ℕ) (a b : Result (List Repeated) RowError) → Reads m text a → Reads m text b → a ≡ b
one_reading m text a b r s = r.is ∙ ap limited (lines_are_one (channels_of m) (positioned 0 (lines_of text)) r.lines s.lines r.says s.says) ∙ sym s.is
