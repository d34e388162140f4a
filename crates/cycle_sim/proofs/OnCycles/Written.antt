-- What a bench has written, cycle by cycle.
use Rattle.std.proofs.Common.{◌≡◌, ◌<◌, ◌≤◌, ◌+◌, ℕ, zero, suc, Bool, List, [], ◌∷◌, ◌++◌, map, take, drop, drop-cons, get_or, length, length-append, replicate, Some, refl, sym, ap, ◌∙◌, subst, arith, append_assoc, append-nil, add-one}
use Rattle.std.specs.Prelude.{slice_get, slice_set}
use Rattle.std.specs.List.{AllByRecursion}
use Rattle.std.proofs.lemmas.List.{length-replicate, take_all, take_more}
use Rattle.std.proofs.Math.ListN.{drop_of_length-le}
use Rattle.xb_bits.specs.Word.{Word}
use Rattle.vlog_tree.specs.declared.module.VModule.{VModule}
use Rattle.vlog_tree.specs.declared.row.Row.{Row}
use Rattle.vlog_tree.specs.declared.row.Outs.{Outs}
use Rattle.vlog_tree.specs.declared.row.Drive.{Drive}
use Rattle.vlog_tree.specs.declared.row.Shown.{Shown}
use Rattle.vlog_tree.specs.Value.{Values}
use Rattle.vlog_tree.specs.Signals.{Channel, channels_of}
use Rattle.vlog_tree.specs.Rows.{AreDrivesOf, outs_of, shown_at}
use Rattle.cycle_sim.specs.declared.rows.rows.Repeated.{Repeated}
use Rattle.cycle_sim.specs.Rows.RowFile.{all_rows, count_rows}
use Rattle.vlog_tree.specs.Settled.{values_of}
use Rattle.cycle_sim.specs.Sim.{StandsAfter}
use Rattle.cycle_sim.specs.declared.cycles.bench.Bench.{Bench}
use Rattle.cycle_sim.specs.Cycles.Inner.Standing.{HasWritten}
use Rattle.cycle_sim.specs.Cycles.Simulated.{IsSimulated}
use Rattle.cycle_sim.specs.Cycles.CycleText.{cycle_text, moved_at, moved_by, moved_over, moved_text, moved_texts, names_of, none_moved, row_text, rows_text, shown_text, shown_texts}

-- ---- lines of rows

pub rows_more : (names : List (List ℕ)) (number : ℕ) (outs : List Outs) (more : Outs) → rows_text names number (outs ++ more ∷ []) ≡ rows_text names number outs ++ row_text names (number + length outs) more
rows_more names number [] more = append-nil (row_text names number more) ∙ ap (λ k. row_text names k more) (omega arith)
rows_more names number (o ∷ outs) more =
    ap (λ t. row_text names number o ++ t) (rows_more names (suc number) outs more)
    ∙ sym (append_assoc (row_text names number o) (rows_text names (suc number) outs) (row_text names (suc number + length outs) more))
    ∙ ap (λ k. (row_text names number o ++ rows_text names (suc number) outs) ++ row_text names k more) (offset number (length outs))
  where
    offset : (n k : ℕ) → suc n + k ≡ n + suc k
    offset n k = omega arith

-- ---- what moved

pub moved_more : (rows : List Row) (outs : List Outs) (row : Row) (more : Outs) (moved : List (List Word)) → length outs ≡ length rows
    → moved_over (rows ++ row ∷ []) (outs ++ more ∷ []) moved ≡ moved_by row.reset row.channels more.channels (moved_over rows outs moved)
moved_more [] [] row more moved e = refl
moved_more [] (o ∷ outs) row more moved e = absurd (omega arith)
moved_more (r ∷ rows) [] row more moved e = absurd (omega arith)
moved_more (r ∷ rows) (o ∷ outs) row more moved e = moved_more rows outs row more (moved_by r.reset r.channels o.channels moved) (omega arith)

pub length-moved_by : (reset : Bool) (drives : List Drive) (shown : List Shown) (moved : List (List Word)) → length (moved_by reset drives shown moved) ≡ length moved
length-moved_by reset [] shown moved = refl
length-moved_by reset (d ∷ drives) [] moved = refl
length-moved_by reset (d ∷ drives) (s ∷ shown) [] = refl
length-moved_by reset (d ∷ drives) (s ∷ shown) (w ∷ moved) = ap suc (length-moved_by reset drives shown moved)

-- ---- as many drives, shown and names as channels

pub drives_count : (channels : List Channel) (drives : List Drive) → AreDrivesOf channels drives → length drives ≡ length channels
drives_count [] [] h = refl
drives_count [] (d ∷ drives) h = absurd h
drives_count (c ∷ channels) [] h = absurd h
drives_count (c ∷ channels) (d ∷ drives) h = ap suc (drives_count channels drives h.1)

pub shown_count : (values : Values) (at : ℕ) (channels : List Channel) → length (shown_at values at channels) ≡ length channels
shown_count values at [] = refl
shown_count values at (c ∷ channels) = ap suc (shown_count values (at + 3) channels)

pub names_count : (channels : List Channel) → length (map (λ (c : Channel). c.name) channels) ≡ length channels
names_count [] = refl
names_count (c ∷ channels) = ap suc (names_count channels)

pub none_are : (channels : List Channel) → replicate {A = List Word} (length channels) [] ≡ map {B = List Word} (λ (c : Channel). []) channels
none_are [] = refl
none_are (c ∷ channels) = ap (λ xs. [] ∷ xs) (none_are channels)

pub none_count : (channels : List Channel) → length (map {B = List Word} (λ (c : Channel). []) channels) ≡ length channels
none_count [] = refl
none_count (c ∷ channels) = ap suc (none_count channels)

-- ---- rows that are repeated

pub one_more_time : (n : ℕ) (row : Row) → replicate (n + 1) row ≡ replicate n row ++ row ∷ []
one_more_time zero row = refl
one_more_time (suc n) row = ap (λ k. replicate k row) (next n) ∙ ap (λ xs. row ∷ xs) (one_more_time n row)
  where
    next : (n : ℕ) → suc n + 1 ≡ suc (n + 1)
    next n = omega arith

pub none_times : (b : Bench) (rows : List Row) (row : Row) → HasWritten b rows → HasWritten b (rows ++ replicate 0 row)
none_times b rows row w = subst (HasWritten b) (sym (append-nil rows)) w

pub once_more : (b : Bench) (rows : List Row) (n : ℕ) (row : Row) → HasWritten b ((rows ++ replicate n row) ++ row ∷ []) → HasWritten b (rows ++ replicate (n + 1) row)
once_more b rows n row w = subst (HasWritten b) (append_assoc rows (replicate n row) (row ∷ []) ∙ ap (λ xs. rows ++ xs) (sym (one_more_time n row))) w

-- ---- rows in turn

pub each_here : {X : Type 0} (P : X → Type 0) (xs : List X) (i : ℕ) (x : X) → AllByRecursion P xs → i < length xs → x ≡ get_or xs i x → P x
each_here P [] i x all h e = absurd (omega arith)
each_here P (y ∷ ys) zero x all h e = subst P (sym e) all.0
each_here P (y ∷ ys) (suc i) x all h e = each_here P ys i x all.1 (omega arith) e

-- ---- one channel more

pub channel_there : (m : VModule) (names : List (List ℕ)) (k : ℕ) → names ≡ names_of m → k < length names → k < length (channels_of m)
channel_there m names k e h = omega (arith, ap length e, names_count (channels_of m), h)

drop_from_get : {A : Type 0} (xs : List A) (i : ℕ) (x : A) → slice_get xs i ≡ Some x → drop i xs ≡ x ∷ drop (suc i) xs
drop_from_get [] i x e = cc
drop_from_get (y ∷ xs) zero x e = let same : y ≡ x = cc in ap (λ z. z ∷ xs) same
drop_from_get (y ∷ xs) (suc i) x e = drop_from_get xs i x e

front : {A : Type 0} (xs : List A) (i : ℕ) (x : A) → i < length xs → x ≡ get_or xs i x → drop i xs ≡ x ∷ drop (suc i) xs
front xs i x h e = drop-cons xs i x h ∙ ap (λ y. y ∷ drop (suc i) xs) (sym e)

pub shown_step : (names : List (List ℕ)) (shown : List Shown) (i : ℕ) (name : List ℕ) (s : Shown) (before after all : List ℕ) → i < length names → name ≡ get_or names i name → slice_get shown i ≡ Some s
    → after ≡ before ++ shown_text name s → before ++ shown_texts (drop i names) (drop i shown) ≡ all → after ++ shown_texts (drop (i + 1) names) (drop (i + 1) shown) ≡ all
shown_step names shown i name s before after all h e there put so_far =
    ap (λ k. after ++ shown_texts (drop k names) (drop k shown)) (add-one i)
    ∙ ap (λ t. t ++ shown_texts (drop (suc i) names) (drop (suc i) shown)) put
    ∙ append_assoc before (shown_text name s) (shown_texts (drop (suc i) names) (drop (suc i) shown))
    ∙ ap (λ ss. before ++ shown_texts (name ∷ drop (suc i) names) ss) (sym (drop_from_get shown i s there))
    ∙ ap (λ ns. before ++ shown_texts ns (drop i shown)) (sym (front names i name h e))
    ∙ so_far

pub shown_end : (names : List (List ℕ)) (shown : List Shown) (i : ℕ) (text all : List ℕ) → length names ≤ i → text ++ shown_texts (drop i names) (drop i shown) ≡ all → text ≡ all
shown_end names shown i text all past so_far =
    sym (append-nil text) ∙ ap (λ ns. text ++ shown_texts ns (drop i shown)) (sym (drop_of_length-le names past)) ∙ so_far

pub moved_line_more : (names : List (List ℕ)) (moved : List (List Word)) (i : ℕ) (name : List ℕ) (words : List Word) (before after all : List ℕ) → i < length names → i < length moved → name ≡ get_or names i name → words ≡ get_or moved i words
    → after ≡ before ++ moved_text name words → before ++ moved_texts (drop i names) (drop i moved) ≡ all → after ++ moved_texts (drop (i + 1) names) (drop (i + 1) moved) ≡ all
moved_line_more names moved i name words before after all h k e f put so_far =
    ap (λ j. after ++ moved_texts (drop j names) (drop j moved)) (add-one i)
    ∙ ap (λ t. t ++ moved_texts (drop (suc i) names) (drop (suc i) moved)) put
    ∙ append_assoc before (moved_text name words) (moved_texts (drop (suc i) names) (drop (suc i) moved))
    ∙ ap (λ ms. before ++ moved_texts (name ∷ drop (suc i) names) ms) (sym (front moved i words k f))
    ∙ ap (λ ns. before ++ moved_texts ns (drop i moved)) (sym (front names i name h e))
    ∙ so_far

pub moved_line_end : (names : List (List ℕ)) (moved : List (List Word)) (i : ℕ) (text all : List ℕ) → length names ≤ i → text ++ moved_texts (drop i names) (drop i moved) ≡ all → text ≡ all
moved_line_end names moved i text all past so_far =
    sym (append-nil text) ∙ ap (λ ns. text ++ moved_texts ns (drop i moved)) (sym (drop_of_length-le names past)) ∙ so_far

pub move_step : (reset : Bool) (drives : List Drive) (shown : List Shown) (moved : List (List Word)) (i : ℕ) (d : Drive) (s : Shown) (w : List Word)
    → slice_get drives i ≡ Some d → slice_get shown i ≡ Some s → slice_get moved i ≡ Some w
    → take (suc i) (slice_set moved i (moved_at reset d s w)) ++ moved_by reset (drop (suc i) drives) (drop (suc i) shown) (drop (suc i) (slice_set moved i (moved_at reset d s w)))
    ≡ take i moved ++ moved_by reset (drop i drives) (drop i shown) (drop i moved)
move_step reset [] shown moved i d s w a b c = cc
move_step reset (x ∷ drives) [] moved i d s w a b c = cc
move_step reset (x ∷ drives) (y ∷ shown) [] i d s w a b c = cc
move_step reset (x ∷ drives) (y ∷ shown) (z ∷ moved) zero d s w a b c =
    let one : x ≡ d = cc in
    let two : y ≡ s = cc in
    let three : z ≡ w = cc in
    ap (λ v. v ∷ moved_by reset drives shown moved)
    (ap (λ k. moved_at reset k s w) (sym one) ∙ ap (λ k. moved_at reset x k w) (sym two) ∙ ap (moved_at reset x y) (sym three))
move_step reset (x ∷ drives) (y ∷ shown) (z ∷ moved) (suc i) d s w a b c = ap (λ v. z ∷ v) (move_step reset drives shown moved i d s w a b c)

pub read_at : {X : Type 0} (xs : List X) (i : ℕ) (x : X) → i < length xs → x ≡ get_or xs i x → slice_get xs i ≡ Some x
read_at [] i x h e = absurd (omega arith)
read_at (y ∷ ys) zero x h e = ap Some (sym e)
read_at (y ∷ ys) (suc i) x h e = read_at ys i x (omega arith) e

pub move_more : (reset : Bool) (drives : List Drive) (shown : List Shown) (moved after all : List (List Word)) (i : ℕ) (d : Drive) (s : Shown) (w new : List Word)
    → slice_get drives i ≡ Some d → slice_get shown i ≡ Some s → slice_get moved i ≡ Some w → new ≡ moved_at reset d s w → after ≡ slice_set moved i new
    → take i moved ++ moved_by reset (drop i drives) (drop i shown) (drop i moved) ≡ all
    → take (i + 1) after ++ moved_by reset (drop (i + 1) drives) (drop (i + 1) shown) (drop (i + 1) after) ≡ all
move_more reset drives shown moved after all i d s w new a b e is put so_far =
    ap (λ k. take k after ++ moved_by reset (drop k drives) (drop k shown) (drop k after)) (add-one i)
    ∙ ap (λ xs. take (suc i) xs ++ moved_by reset (drop (suc i) drives) (drop (suc i) shown) (drop (suc i) xs)) (put ∙ ap (slice_set moved i) is)
    ∙ move_step reset drives shown moved i d s w a b e
    ∙ so_far

pub moved_end : (reset : Bool) (drives : List Drive) (shown : List Shown) (moved all : List (List Word)) (i : ℕ) → length drives ≤ i → length moved ≤ i
    → take i moved ++ moved_by reset (drop i drives) (drop i shown) (drop i moved) ≡ all → moved ≡ all
moved_end reset drives shown moved all i past also so_far =
    sym (append-nil moved)
    ∙ ap (λ xs. xs ++ []) (sym (take_all i moved also))
    ∙ ap (λ xs. take i moved ++ xs) (sym (drop_of_length-le moved also))
    ∙ ap (λ ds. take i moved ++ moved_by reset ds (drop i shown) (drop i moved)) (sym (drop_of_length-le drives past))
    ∙ so_far

-- ---- before the first cycle

pub none_written : (b : Bench) (design : VModule) (count : ℕ) → b.sim.design ≡ design → StandsAfter b.sim [] [] → b.names ≡ names_of design → b.text.items ≡ [] → b.count ≡ 0 → count ≡ length b.names → b.moved.items ≡ replicate count [] → HasWritten b []
none_written b design count same stands names text number counted moved = record {
  outs = [];
  stands = stands;
  names_are = names ∙ ap names_of (sym same);
  text_is = text;
  count_is = number;
  moved_is =
      moved
      ∙ ap (λ k. replicate {A = List Word} k []) (counted ∙ ap length names ∙ names_count (channels_of design))
      ∙ none_are (channels_of design)
      ∙ ap none_moved (sym same);
  sizes = ap length moved ∙ length-replicate count [] ∙ counted;
  rows_are = refl;
}

-- ---- one cycle more

pub cycle_written : (old new : Bench) (rows : List Row) (row : Row) → (w : HasWritten old rows) → new.sim.design ≡ old.sim.design → new.names ≡ old.names → new.count ≡ old.count + 1
    → StandsAfter new.sim (rows ++ row ∷ []) (w.outs ++ outs_of new.sim.design (values_of new.sim.words) ∷ [])
    → new.text.items ≡ old.text.items ++ row_text old.names old.count (outs_of new.sim.design (values_of new.sim.words))
    → new.moved.items ≡ moved_by row.reset row.channels (outs_of new.sim.design (values_of new.sim.words)).channels old.moved.items
    → HasWritten new (rows ++ row ∷ [])
cycle_written old new rows row w design names count stands text moved = record {
  outs = w.outs ++ shown ∷ [];
  stands = stands;
  names_are = names ∙ w.names_are ∙ ap names_of (sym design);
  text_is =
      text
      ∙ ap (λ t. t ++ row_text old.names old.count shown) w.text_is
      ∙ ap (λ k. rows_text old.names 0 w.outs ++ row_text old.names k shown) (w.count_is ∙ zero_more (length w.outs))
      ∙ sym (rows_more old.names 0 w.outs shown)
      ∙ ap (λ ns. rows_text ns 0 (w.outs ++ shown ∷ [])) (sym names);
  count_is = count ∙ ap (λ k. k + 1) w.count_is ∙ sym (length-append w.outs (shown ∷ []));
  moved_is =
      moved
      ∙ ap (moved_by row.reset row.channels shown.channels) w.moved_is
      ∙ sym (moved_more rows w.outs row shown (none_moved old.sim.design) w.rows_are)
      ∙ ap (λ m. moved_over (rows ++ row ∷ []) (w.outs ++ shown ∷ []) (none_moved m)) (sym design);
  sizes = ap length moved ∙ length-moved_by row.reset row.channels shown.channels old.moved.items ∙ w.sizes ∙ ap length (sym names);
  rows_are = length-append w.outs (shown ∷ []) ∙ ap (λ k. k + 1) w.rows_are ∙ sym (length-append rows (row ∷ []));
}
  where
    shown : Outs
    shown = outs_of new.sim.design (values_of new.sim.words)

    zero_more : (n : ℕ) → n ≡ 0 + n
    zero_more n = omega arith

-- ---- the whole text

pub written_all : (b : Bench) (rows : List Row) (text : List ℕ) → HasWritten b rows → text ≡ b.text.items ++ moved_texts b.names b.moved.items → IsSimulated b.sim.design rows text
written_all b rows text w is = record {
  outs = w.outs;
  held = w.stands.held;
  runs = w.stands.runs;
  only = λ shown other run. (w.stands.only shown other run).0;
  text_is =
      is
      ∙ ap (λ t. t ++ moved_texts b.names b.moved.items) w.text_is
      ∙ ap (λ ns. rows_text ns 0 w.outs ++ moved_texts ns b.moved.items) w.names_are
      ∙ ap (λ ms. rows_text (names_of b.sim.design) 0 w.outs ++ moved_texts (names_of b.sim.design) ms) w.moved_is;
}

-- ---- rows one after the other

rows_append : (xs : List Repeated) (x : Repeated) → all_rows (xs ++ x ∷ []) ≡ all_rows xs ++ replicate x.times x.row
rows_append [] x = append-nil (replicate x.times x.row)
rows_append (y ∷ xs) x = ap (λ r. replicate y.times y.row ++ r) (rows_append xs x) ∙ sym (append_assoc (replicate y.times y.row) (all_rows xs) (replicate x.times x.row))

pub rows_more_taken : (xs : List Repeated) (i : ℕ) (x : Repeated) → i < length xs → x ≡ get_or xs i x → all_rows (take (i + 1) xs) ≡ all_rows (take i xs) ++ replicate x.times x.row
rows_more_taken xs i x h e = ap all_rows (take_more xs i x h ∙ ap (λ y. take i xs ++ y ∷ []) (sym e)) ∙ rows_append (take i xs) x

pub rows_left : (xs : List Repeated) (i : ℕ) (x : Repeated) → i < length xs → x ≡ get_or xs i x → count_rows (drop i xs) ≡ x.times + count_rows (drop (i + 1) xs)
rows_left xs i x h e = ap count_rows (front xs i x h e) ∙ ap (λ k. x.times + count_rows (drop k xs)) (sym (add-one i))

pub rows_all_taken : (xs : List Repeated) (i : ℕ) → length xs ≤ i → all_rows (take i xs) ≡ all_rows xs
rows_all_taken xs i h = ap all_rows (take_all i xs h)

pub one_text : (m : VModule) (rows : List Row) (a b : List ℕ) → IsSimulated m rows a → IsSimulated m rows b → a ≡ b
one_text m rows a b s t = s.text_is ∙ ap (cycle_text m rows) (sym (s.only t.outs t.held t.runs)) ∙ sym t.text_is
