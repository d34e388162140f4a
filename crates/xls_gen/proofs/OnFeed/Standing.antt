-- Where a feeder stands, row by row.
use Rattle.std.proofs.Common.{◌≡◌, ◌≤◌, ◌+◌, ◌-◌, ℕ, zero, suc, Bool, true, false, eqb, List, [], ◌∷◌, ◌++◌, length, None, Some, Option, refl, sym, ap, ◌∙◌, subst, arith}
use Rattle.std.specs.Prelude.{slice_get}
use Rattle.std.proofs.lemmas.List.{length-append}
use Rattle.std.proofs.lemmas.Option.{slice_get_within}
use Rattle.xb_bits.specs.Word.{Word}
use Rattle.vlog_tree.specs.declared.module.Direction.TheVariants.{Output}
use Rattle.vlog_tree.specs.declared.module.VModule.{VModule}
use Rattle.vlog_tree.specs.declared.row.Drive.TheVariants.{Offer, Ready}
use Rattle.vlog_tree.specs.declared.row.Outs.{Outs}
use Rattle.vlog_tree.specs.declared.row.Row.{Row}
use Rattle.vlog_tree.specs.declared.row.Shown.{Shown}
use Rattle.vlog_tree.specs.Rows.{Runs, outs_of, transferred}
use Rattle.vlog_tree.specs.Settled.{values_of}
use Rattle.vlog_tree.specs.Signals.{Channel, channels_of}
use Rattle.cycle_sim.specs.Cycles.CycleText.{moved_at, one_more}
use Rattle.cycle_sim.specs.Rows.Said.{directed}
use Rattle.cycle_sim.specs.Sim.{StandsAfter, IsUnchangedBy}
use Rattle.xls_gen.specs.declared.feed.feeder.Feeder.{Feeder}
use Rattle.xls_gen.specs.Feed.Feeding.{Feeds, feeding_drives, feeding_row, is_feedable, moved_through, row_behind, takes_words}
use Rattle.xls_gen.specs.Feed.Inner.Standing.{HasFed, IsAtRest}
use Rattle.xls_gen.proofs.OnEvents.Adding.{eqb_differs}
use Rattle.xls_gen.proofs.OnFeed.Channels.{TakesWords, and_both, gives, takes}
use Rattle.xls_gen.proofs.OnFeed.Drives.{drive_in, drive_out}
use Rattle.xls_gen.proofs.OnFeed.Moving.{length-one_more, moved_before_all, moved_in_reset, moved_step}
use Rattle.xls_gen.proofs.OnFeed.Rows.{fed_more, fed_none, only_more, only_none}

-- before the first row
pub fed_nothing : (m : VModule) (input output : ℕ) (words : List Word) (feeder : Feeder) (offered : Option Word) → feeder.sim.design ≡ m → StandsAfter feeder.sim [] []
    → feeder.row.channels ≡ feeding_drives input offered (channels_of m) → feeder.taken ≡ 0 → feeder.given ≡ [] → HasFed m input output words feeder 0
fed_nothing m input output words feeder offered design stands row taken given = record {
  rows = [];
  outs = [];
  design_is = design;
  stands = stands;
  size = refl;
  shown = refl;
  fed = fed_none m input words;
  only = only_none m (λ shown held run. (stands.only shown held (subst (λ d. Runs d [] shown held) (sym design) run)).0);
  offered = offered;
  row_is = row;
  taken_is = taken ∙ sym (ap length (moved_before_all m input [] [] refl));
  given_is = given ∙ sym (moved_before_all m output [] [] refl);
}

-- one row more
fed_once : (m : VModule) (input output : ℕ) (words : List Word) (old new : Feeder) (n : ℕ) (h : HasFed m input output words old n) (more : Outs)
    → new.sim.design ≡ old.sim.design → new.row ≡ row_behind m input words n h.rows h.outs
    → StandsAfter new.sim (h.rows ++ new.row ∷ []) (h.outs ++ more ∷ [])
    → new.taken ≡ length (moved_through m input (h.rows ++ new.row ∷ []) (h.outs ++ more ∷ []))
    → new.given ≡ moved_through m output (h.rows ++ new.row ∷ []) (h.outs ++ more ∷ [])
    → HasFed m input output words new (suc n)
fed_once m input output words old new n h more design row stands taken given = record {
  rows = h.rows ++ new.row ∷ [];
  outs = h.outs ++ more ∷ [];
  design_is = design ∙ h.design_is;
  stands = stands;
  size = rows_size;
  shown = outs_size ∙ ap suc h.shown ∙ sym all_rows_size;
  fed = fed_more m input words h.rows h.outs new.row more h.shown h.fed (row ∙ ap (λ k. row_behind m input words k h.rows h.outs) (sym h.size));
  only = only_more m h.rows h.outs new.row more h.shown h.only (λ shown held run. (stands.only shown held (subst (λ d. Runs d (h.rows ++ new.row ∷ []) shown held) (sym (design ∙ h.design_is)) run)).0);
  offered = slice_get words (length (moved_through m input h.rows h.outs));
  row_is = ap (λ (r : Row). r.channels) row;
  taken_is = taken;
  given_is = given;
}
  where
    all_rows_size : length (h.rows ++ new.row ∷ []) ≡ suc (length h.rows)
    all_rows_size = let e = length-append h.rows (new.row ∷ []) in omega arith

    rows_size : length (h.rows ++ new.row ∷ []) ≡ suc n
    rows_size = all_rows_size ∙ ap suc h.size

    outs_size : length (h.outs ++ more ∷ []) ≡ suc (length h.outs)
    outs_size = let e = length-append h.outs (more ∷ []) in omega arith

-- a row by what was taken before it
row_here : (m : VModule) (input output : ℕ) (words : List Word) (old : Feeder) (n : ℕ) (h : HasFed m input output words old n) (row : Row) (reset : Bool) → reset ≡ eqb n 0
    → row ≡ feeding_row old.sim.design input reset (slice_get words old.taken) → row ≡ row_behind m input words n h.rows h.outs
row_here m input output words old n h row reset resets is =
    is
    ∙ ap (λ d. feeding_row d input reset (slice_get words old.taken)) h.design_is
    ∙ ap (λ b. feeding_row m input b (slice_get words old.taken)) resets
    ∙ ap (λ t. feeding_row m input (eqb n 0) (slice_get words t)) h.taken_is

-- the row that resets
pub fed_first : (m : VModule) (input output : ℕ) (words : List Word) (old new : Feeder) (h : HasFed m input output words old 0) (more : Outs)
    → new.sim.design ≡ old.sim.design → new.row ≡ feeding_row old.sim.design input true (slice_get words old.taken)
    → StandsAfter new.sim (h.rows ++ new.row ∷ []) (h.outs ++ more ∷ []) → new.taken ≡ old.taken → new.given ≡ old.given
    → HasFed m input output words new 1
fed_first m input output words old new h more design row stands taken given =
    fed_once m input output words old new 0 h more design (row_here m input output words old 0 h new.row true refl row) stands
    (taken ∙ h.taken_is ∙ ap length (moved_before_all m input h.rows h.outs h.size) ∙ sym (ap length (moved_in_reset m input h.rows h.outs new.row more h.size h.shown resets)))
    (given ∙ h.given_is ∙ moved_before_all m output h.rows h.outs h.size ∙ sym (moved_in_reset m output h.rows h.outs new.row more h.size h.shown resets))
  where
    resets : new.row.reset ≡ true
    resets = ap (λ (r : Row). r.reset) row

-- a row behind it
pub fed_next : (m : VModule) (input output : ℕ) (words : List Word) (old new : Feeder) (n : ℕ) (h : HasFed m input output words old (suc n)) (more : Outs) (in_shown out_shown : Shown)
    → is_feedable m input output words ≡ true
    → new.sim.design ≡ old.sim.design → new.row ≡ feeding_row old.sim.design input false (slice_get words old.taken)
    → StandsAfter new.sim (h.rows ++ new.row ∷ []) (h.outs ++ more ∷ [])
    → slice_get more.channels input ≡ Some in_shown → slice_get more.channels output ≡ Some out_shown
    → new.taken ≡ old.taken + length (one_more (transferred (Offer (slice_get words old.taken)) in_shown) [])
    → new.given ≡ one_more (transferred (Ready true) out_shown) old.given
    → HasFed m input output words new (suc (suc n))
fed_next m input output words old new n h more in_shown out_shown fits design row stands shows_in shows_out taken given =
    fed_once m input output words old new (suc n) h more design (row_here m input output words old (suc n) h new.row false (sym (eqb_differs (suc n) 0 (λ e. absurd (omega (arith, e))))) row) stands
    (taken ∙ ap (λ t. t + length (one_more (transferred (Offer offered) in_shown) [])) h.taken_is ∙ sym (length-one_more (transferred (Offer offered) in_shown) before_in) ∙ sym (ap length moved_in))
    (given ∙ ap (one_more (transferred (Ready true) out_shown)) h.given_is ∙ sym moved_out)
  where
    offered : Option Word
    offered = slice_get words old.taken

    before_in : List Word
    before_in = moved_through m input h.rows h.outs

    both : (takes_words (slice_get (channels_of m) input) words ≡ true) × (directed Output (slice_get (channels_of m) output) ≡ true)
    both = and_both _ _ fits

    source : TakesWords (channels_of m) input words
    source = takes (channels_of m) input words both.0

    sink : (channel : Channel) × (slice_get (channels_of m) output ≡ Some channel) × (channel.direction ≡ Output)
    sink = gives (channels_of m) output both.1

    row_is : new.row ≡ feeding_row m input false offered
    row_is = row ∙ ap (λ d. feeding_row d input false offered) h.design_is

    drives_in : slice_get new.row.channels input ≡ Some (Offer offered)
    drives_in = ap (λ (r : Row). slice_get r.channels input) row_is ∙ drive_in input offered (channels_of m) source.channel source.there source.goes_in

    drives_out : slice_get new.row.channels output ≡ Some (Ready true)
    drives_out = ap (λ (r : Row). slice_get r.channels output) row_is ∙ drive_out input offered (channels_of m) output sink.0 sink.1 sink.2

    moved_in : moved_through m input (h.rows ++ new.row ∷ []) (h.outs ++ more ∷ []) ≡ one_more (transferred (Offer offered) in_shown) before_in
    moved_in =
        moved_step m input h.rows h.outs new.row more (Offer offered) in_shown h.shown drives_in shows_in (slice_get_within (channels_of m) input source.channel source.there)
        ∙ ap (λ b. moved_at b (Offer offered) in_shown before_in) (ap (λ (r : Row). r.reset) row_is)

    moved_out : moved_through m output (h.rows ++ new.row ∷ []) (h.outs ++ more ∷ []) ≡ one_more (transferred (Ready true) out_shown) (moved_through m output h.rows h.outs)
    moved_out =
        moved_step m output h.rows h.outs new.row more (Ready true) out_shown h.shown drives_out shows_out (slice_get_within (channels_of m) output sink.0 sink.1)
        ∙ ap (λ b. moved_at b (Ready true) out_shown (moved_through m output h.rows h.outs)) (ap (λ (r : Row). r.reset) row_is)

-- ---- a module that stands still

-- where no word was added, one more row like it adds none
none_added : (o : Option Word) (old new : List Word) → new ≡ one_more o old → length new ≡ length old → new ≡ one_more o new
none_added None old new e same = refl
none_added (Some w) old new e same = absurd (omega (arith, ap length e, length-append old (w ∷ []), same))

-- a row in which no word went through, and under which the simulator stands still, may come once more
pub fed_again : (input output : ℕ) (words : List Word) (old new : Feeder) (in_shown out_shown : Shown) → is_feedable new.sim.design input output words ≡ true
    → new.sim.design ≡ old.sim.design → new.row ≡ feeding_row old.sim.design input false (slice_get words old.taken) → IsUnchangedBy new.sim new.row
    → slice_get (outs_of new.sim.design (values_of new.sim.words)).channels input ≡ Some in_shown
    → slice_get (outs_of new.sim.design (values_of new.sim.words)).channels output ≡ Some out_shown
    → new.taken ≡ old.taken + length (one_more (transferred (Offer (slice_get words old.taken)) in_shown) [])
    → new.given ≡ one_more (transferred (Ready true) out_shown) old.given
    → new.taken ≡ old.taken → length new.given ≡ length old.given → IsAtRest input output words new
fed_again input output words old new in_shown out_shown fits design row still shows_in shows_out taken given same_taken same_given m n h =
    fed_next m input output words new new n h (outs_of new.sim.design (values_of new.sim.words)) in_shown out_shown
    (subst (λ d. is_feedable d input output words ≡ true) h.design_is fits) refl same_row (still h.rows h.outs h.stands) shows_in shows_out
    (subst (λ t. new.taken ≡ t + length (one_more (transferred (Offer (slice_get words t)) in_shown) [])) (sym same_taken) taken)
    (none_added (transferred (Ready true) out_shown) old.given new.given given same_given)
  where
    same_row : new.row ≡ feeding_row new.sim.design input false (slice_get words new.taken)
    same_row =
        row
        ∙ ap (λ d. feeding_row d input false (slice_get words old.taken)) (sym design)
        ∙ ap (λ t. feeding_row new.sim.design input false (slice_get words t)) (sym same_taken)

rests_on : (m : VModule) (input output : ℕ) (words : List Word) (feeder : Feeder) (n k : ℕ) → IsAtRest input output words feeder → HasFed m input output words feeder (suc n)
    → HasFed m input output words feeder (suc (n + k))
rests_on m input output words feeder n zero rests h =
    let same : n ≡ n + 0 = omega arith in
    subst (λ count. HasFed m input output words feeder (suc count)) same h
rests_on m input output words feeder n (suc k) rests h =
    let same : suc n + k ≡ n + suc k = omega arith in
    subst (λ count. HasFed m input output words feeder (suc count)) same (rests_on m input output words feeder (suc n) k rests (rests m n h))

-- a feeder at rest has fed its module for any number of further rows
pub rests_until : (m : VModule) (input output : ℕ) (words : List Word) (feeder : Feeder) (n count : ℕ) → IsAtRest input output words feeder → HasFed m input output words feeder (suc n)
    → n ≤ count → HasFed m input output words feeder (suc count)
rests_until m input output words feeder n count rests h within =
    let same : n + (count - n) ≡ count = omega (arith, within) in
    subst (λ c. HasFed m input output words feeder (suc c)) same (rests_on m input output words feeder n (count - n) rests h)

-- behind the last row
pub feeds : (m : VModule) (input output : ℕ) (words : List Word) (feeder : Feeder) (count : ℕ) → HasFed m input output words feeder (suc count) → Feeds m input output words count feeder.given
feeds m input output words feeder count h = record {
  rows = h.rows;
  outs = h.outs;
  held = h.stands.held;
  runs = subst (λ d. Runs d h.rows h.outs h.stands.held) h.design_is h.stands.runs;
  size = h.size;
  fed = h.fed;
  only = h.only;
  given_is = h.given_is;
}

pub at_design : (m : VModule) (input output : ℕ) (words : List Word) (feeder : Feeder) (n : ℕ) → HasFed m input output words feeder n → HasFed feeder.sim.design input output words feeder n
at_design m input output words feeder n h = subst (λ d. HasFed d input output words feeder n) (sym h.design_is) h

pub feedable_at : (m d : VModule) (input output : ℕ) (words : List Word) → d ≡ m → is_feedable m input output words ≡ true → is_feedable d input output words ≡ true
feedable_at m d input output words e h = subst (λ x. is_feedable x input output words ≡ true) (sym e) h
