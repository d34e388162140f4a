-- What goes through one channel, row by row.
use Rattle.std.proofs.Common.{◌≡◌, ◌<◌, ◌+◌, ℕ, zero, suc, Bool, true, List, [], ◌∷◌, ◌++◌, length, map, get_or, Some, None, Option, refl, ap, ◌∙◌, arith}
use Rattle.std.specs.Prelude.{slice_get}
use Rattle.std.proofs.lemmas.List.{length-append, length-map, nil_from_length}
use Rattle.xb_bits.specs.Word.{Word}
use Rattle.vlog_tree.specs.declared.module.VModule.{VModule}
use Rattle.vlog_tree.specs.declared.row.Drive.{Drive}
use Rattle.vlog_tree.specs.declared.row.Outs.{Outs}
use Rattle.vlog_tree.specs.declared.row.Row.{Row}
use Rattle.vlog_tree.specs.declared.row.Shown.{Shown}
use Rattle.vlog_tree.specs.Signals.{Channel, channels_of}
use Rattle.cycle_sim.specs.Cycles.CycleText.{moved_at, moved_by, moved_over, none_moved, one_more}
use Rattle.xls_gen.specs.Feed.Feeding.{moved_through}

moved_more : (rows : List Row) (outs : List Outs) (row : Row) (more : Outs) (moved : List (List Word)) → length outs ≡ length rows
    → moved_over (rows ++ row ∷ []) (outs ++ more ∷ []) moved ≡ moved_by row.reset row.channels more.channels (moved_over rows outs moved)
moved_more [] [] row more moved e = refl
moved_more [] (o ∷ outs) row more moved e = absurd (omega arith)
moved_more (r ∷ rows) [] row more moved e = absurd (omega arith)
moved_more (r ∷ rows) (o ∷ outs) row more moved e = moved_more rows outs row more (moved_by r.reset r.channels o.channels moved) (omega arith)

-- ---- there is a list of words for each channel

length-moved_by : (reset : Bool) (drives : List Drive) (shown : List Shown) (moved : List (List Word)) → length (moved_by reset drives shown moved) ≡ length moved
length-moved_by reset [] shown moved = refl
length-moved_by reset (d ∷ drives) [] moved = refl
length-moved_by reset (d ∷ drives) (s ∷ shown) [] = refl
length-moved_by reset (d ∷ drives) (s ∷ shown) (w ∷ moved) = ap suc (length-moved_by reset drives shown moved)

length-moved_over : (rows : List Row) (outs : List Outs) (moved : List (List Word)) → length (moved_over rows outs moved) ≡ length moved
length-moved_over [] outs moved = refl
length-moved_over (r ∷ rows) [] moved = refl
length-moved_over (r ∷ rows) (o ∷ outs) moved = length-moved_over rows outs (moved_by r.reset r.channels o.channels moved) ∙ length-moved_by r.reset r.channels o.channels moved

none_count : (channels : List Channel) → length (map {B = List Word} (λ (c : Channel). []) channels) ≡ length channels
none_count channels = length-map channels (λ (c : Channel). [])

-- ---- one row more

at_channel : (reset : Bool) (drives : List Drive) (shown : List Shown) (moved : List (List Word)) (c : ℕ) (d : Drive) (s : Shown)
    → slice_get drives c ≡ Some d → slice_get shown c ≡ Some s → c < length moved → get_or (moved_by reset drives shown moved) c [] ≡ moved_at reset d s (get_or moved c [])
at_channel reset [] shown moved c d s a b h = cc
at_channel reset (x ∷ drives) [] moved c d s a b h = cc
at_channel reset (x ∷ drives) (y ∷ shown) [] c d s a b h = absurd (omega (arith, h))
at_channel reset (x ∷ drives) (y ∷ shown) (ws ∷ moved) zero d s a b h =
    let one : x ≡ d = cc in
    let two : y ≡ s = cc in
    ap (λ k. moved_at reset k y ws) one ∙ ap (λ k. moved_at reset d k ws) two
at_channel reset (x ∷ drives) (y ∷ shown) (ws ∷ moved) (suc c) d s a b h = at_channel reset drives shown moved c d s a b (omega (arith, h))

pub moved_step : (m : VModule) (channel : ℕ) (rows : List Row) (outs : List Outs) (row : Row) (more : Outs) (d : Drive) (s : Shown) → length outs ≡ length rows
    → slice_get row.channels channel ≡ Some d → slice_get more.channels channel ≡ Some s → channel < length (channels_of m)
    → moved_through m channel (rows ++ row ∷ []) (outs ++ more ∷ []) ≡ moved_at row.reset d s (moved_through m channel rows outs)
moved_step m channel rows outs row more d s e drives shows inside =
    ap (λ moved. get_or moved channel []) (moved_more rows outs row more (none_moved m) e)
    ∙ at_channel row.reset row.channels more.channels (moved_over rows outs (none_moved m)) channel d s drives shows
    (omega (arith, length-moved_over rows outs (none_moved m), none_count (channels_of m), inside))

-- where the module shows nothing at the channel
nothing_shown : (reset : Bool) (drives : List Drive) (shown : List Shown) (moved : List (List Word)) (c : ℕ) → slice_get shown c ≡ None → get_or (moved_by reset drives shown moved) c [] ≡ get_or moved c []
nothing_shown reset [] shown moved c e = refl
nothing_shown reset (x ∷ drives) [] moved c e = refl
nothing_shown reset (x ∷ drives) (y ∷ shown) [] c e = refl
nothing_shown reset (x ∷ drives) (y ∷ shown) (ws ∷ moved) zero e = cc
nothing_shown reset (x ∷ drives) (y ∷ shown) (ws ∷ moved) (suc c) e = nothing_shown reset drives shown moved c e

pub moved_unshown : (m : VModule) (channel : ℕ) (rows : List Row) (outs : List Outs) (row : Row) (more : Outs) → length outs ≡ length rows → slice_get more.channels channel ≡ None
    → moved_through m channel (rows ++ row ∷ []) (outs ++ more ∷ []) ≡ moved_through m channel rows outs
moved_unshown m channel rows outs row more e shows =
    ap (λ moved. get_or moved channel []) (moved_more rows outs row more (none_moved m) e)
    ∙ nothing_shown row.reset row.channels more.channels (moved_over rows outs (none_moved m)) channel shows

-- ---- nothing goes through before the first row, nor in one that resets

get_none : (channels : List Channel) (c : ℕ) → get_or (map {B = List Word} (λ (x : Channel). []) channels) c [] ≡ []
get_none [] c = refl
get_none (x ∷ channels) zero = refl
get_none (x ∷ channels) (suc c) = get_none channels c

pub moved_before_all : (m : VModule) (channel : ℕ) (rows : List Row) (outs : List Outs) → length rows ≡ 0 → moved_through m channel rows outs ≡ []
moved_before_all m channel rows outs e = ap (λ rs. moved_through m channel rs outs) (nil_from_length rows e) ∙ get_none (channels_of m) channel

reset_at : (drives : List Drive) (shown : List Shown) (moved : List (List Word)) (c : ℕ) → get_or moved c [] ≡ [] → get_or (moved_by true drives shown moved) c [] ≡ []
reset_at [] shown moved c h = h
reset_at (d ∷ drives) [] moved c h = h
reset_at (d ∷ drives) (s ∷ shown) [] c h = h
reset_at (d ∷ drives) (s ∷ shown) (w ∷ moved) zero h = refl
reset_at (d ∷ drives) (s ∷ shown) (w ∷ moved) (suc c) h = reset_at drives shown moved c h

pub moved_in_reset : (m : VModule) (channel : ℕ) (rows : List Row) (outs : List Outs) (row : Row) (more : Outs) → length rows ≡ 0 → length outs ≡ length rows → row.reset ≡ true
    → moved_through m channel (rows ++ row ∷ []) (outs ++ more ∷ []) ≡ []
moved_in_reset m channel rows outs row more none e resets =
    ap (λ moved. get_or moved channel []) (moved_more rows outs row more (none_moved m) e)
    ∙ ap (λ b. get_or (moved_by b row.channels more.channels (moved_over rows outs (none_moved m))) channel []) resets
    ∙ reset_at row.channels more.channels (moved_over rows outs (none_moved m)) channel (moved_before_all m channel rows outs none)

-- ---- counting

pub length-one_more : (o : Option Word) (words : List Word) → length (one_more o words) ≡ length words + length (one_more o [])
length-one_more None words = omega arith
length-one_more (Some w) words = omega (arith, length-append words (w ∷ []))
