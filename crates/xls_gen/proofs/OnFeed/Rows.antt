-- The rows in which a module is fed.
use Rattle.std.proofs.Common.{◌≡◌, ◌<◌, ◌≤◌, ◌+◌, ℕ, zero, suc, true, eqb, List, [], ◌∷◌, ◌++◌, length, take, Some, refl, sym, ap, ◌∙◌, subst, arith, inl, inr}
use Rattle.std.specs.Prelude.{slice_get, ◌⊎◌, ◌||◌}
use Rattle.std.specs.List.{AllByRecursion, list_any}
use Rattle.std.proofs.lemmas.Bool.{cases_eq, cases_lt}
use Rattle.std.proofs.lemmas.List.{length-append, take-append-le, take_all, take_at}
use Rattle.std.proofs.lemmas.Option.{slice_get_within}
use Rattle.base.proofs.Lemmas.Lists.Indices.{slice_get-append_left, slice_get-append_right}
use Rattle.xb_bits.specs.Word.{Word}
use Rattle.vlog_tree.specs.declared.module.VModule.{VModule}
use Rattle.vlog_tree.specs.declared.row.Outs.{Outs}
use Rattle.vlog_tree.specs.declared.row.Row.{Row}
use Rattle.vlog_tree.specs.Meaning.{registers_next}
use Rattle.vlog_tree.specs.Rows.{IsRowOf, Runs, cycle, outs_of, start, zeros}
use Rattle.vlog_tree.specs.Signals.{channels_of}
use Rattle.vlog_tree.specs.Value.{Values}
use Rattle.xls_gen.specs.Feed.Feeding.{AreFedRows, Feeds, OffersAmong, ShowsOnly, is_feedable, moved_through, row_behind}
use Rattle.xls_gen.proofs.OnFeed.Channels.{and_both}
use Rattle.xls_gen.proofs.OnFeed.Drives.{drives_among, row_fits}

push_count : {A : Type 0} (xs : List A) (x : A) → length (xs ++ x ∷ []) ≡ length xs + 1
push_count xs x = length-append xs (x ∷ [])

-- ---- one row more

pub fed_more : (m : VModule) (input : ℕ) (words : List Word) (rows : List Row) (outs : List Outs) (row : Row) (more : Outs) → length outs ≡ length rows → AreFedRows m input words rows outs
    → row ≡ row_behind m input words (length rows) rows outs → AreFedRows m input words (rows ++ row ∷ []) (outs ++ more ∷ [])
fed_more m input words rows outs row more e fed is k inside = by_place (cases_eq k (length rows))
  where
    rows_after : List Row
    rows_after = rows ++ row ∷ []

    outs_after : List Outs
    outs_after = outs ++ more ∷ []

    by_place : (k ≡ length rows) ⊎ (k ≡ length rows → ⊥) → slice_get rows_after k ≡ Some (row_behind m input words k (take k rows_after) (take k outs_after))
    by_place (inl same) =
        slice_get-append_right rows (row ∷ []) k 0 (omega (arith, same))
        ∙ ap Some is
        ∙ ap (λ n. Some (row_behind m input words n rows outs)) (sym same)
        ∙ ap (λ rs. Some (row_behind m input words k rs outs)) (sym (take_at rows (row ∷ []) k (sym same)))
        ∙ ap (λ os. Some (row_behind m input words k (take k rows_after) os)) (sym (take_at outs (more ∷ []) k (e ∙ sym same)))
    by_place (inr other) =
        let here : k < length rows = omega (arith, inside, other, push_count rows row) in
        slice_get-append_left rows (row ∷ []) k here
        ∙ fed k here
        ∙ ap (λ rs. Some (row_behind m input words k rs (take k outs))) (sym (take-append-le k rows (row ∷ []) (omega (arith, here))))
        ∙ ap (λ os. Some (row_behind m input words k (take k rows_after) os)) (sym (take-append-le k outs (more ∷ []) (omega (arith, here, e))))

pub only_more : (m : VModule) (rows : List Row) (outs : List Outs) (row : Row) (more : Outs) → length outs ≡ length rows → ShowsOnly m rows outs
    → ((shown : List Outs) (held : Values) → Runs m (rows ++ row ∷ []) shown held → shown ≡ outs ++ more ∷ []) → ShowsOnly m (rows ++ row ∷ []) (outs ++ more ∷ [])
only_more m rows outs row more e only last k shown held run = by_size (cases_lt (length rows) k)
  where
    by_size : (length rows < k) ⊎ (k ≤ length rows) → shown ≡ take k (outs ++ more ∷ [])
    by_size (inl past) =
        let all = take_all k (rows ++ row ∷ []) (omega (arith, past, push_count rows row)) in
        last shown held (subst (λ rs. Runs m rs shown held) all run) ∙ sym (take_all k (outs ++ more ∷ []) (omega (arith, past, e, push_count outs more)))
    by_size (inr within) =
        only k shown held (subst (λ rs. Runs m rs shown held) (take-append-le k rows (row ∷ []) within) run)
        ∙ sym (take-append-le k outs (more ∷ []) (omega (arith, within, e)))

pub fed_none : (m : VModule) (input : ℕ) (words : List Word) → AreFedRows m input words [] []
fed_none m input words k inside = absurd (omega (arith, inside))

take_none : {A : Type 0} (k : ℕ) → take {A = A} k [] ≡ []
take_none zero = refl
take_none (suc k) = refl

pub only_none : (m : VModule) → ((shown : List Outs) (held : Values) → Runs m [] shown held → shown ≡ []) → ShowsOnly m [] []
only_none m first k shown held run = first shown held (subst (λ rs. Runs m rs shown held) (take_none k) run) ∙ sym (take_none k)

-- ---- a module shows as much as there are rows, and what it shows over the first of them is a run too

pub runs_count : (m : VModule) (rows : List Row) (outs : List Outs) (held : Values) → Runs m rows outs held → length outs ≡ length rows
runs_count m _ _ _ start = refl
runs_count m _ _ _ (cycle rows outs held values row run now) =
    push_count outs (outs_of m values) ∙ ap (λ n. n + 1) (runs_count m rows outs held run) ∙ sym (push_count rows row)

runs_front : (m : VModule) (rows : List Row) (outs : List Outs) (held : Values) → Runs m rows outs held → (k : ℕ) → (before : Values) × Runs m (take k rows) (take k outs) before
runs_front m _ _ _ start k =
    (zeros m, subst (λ rs. Runs m rs (take k []) (zeros m)) (sym (take_none k)) (subst (λ os. Runs m [] os (zeros m)) (sym (take_none k)) start))
runs_front m _ _ _ (cycle rows outs held values row run now) k = by_size (runs_front m rows outs held run k) (cases_lt (length rows) k)
  where
    rows_after : List Row
    rows_after = rows ++ row ∷ []

    outs_after : List Outs
    outs_after = outs ++ outs_of m values ∷ []

    same : length outs ≡ length rows
    same = runs_count m rows outs held run

    by_size : (before : Values) × Runs m (take k rows) (take k outs) before → (length rows < k) ⊎ (k ≤ length rows)
        → (before : Values) × Runs m (take k rows_after) (take k outs_after) before
    by_size front (inl past) = (
      registers_next m values held,
      subst (λ rs. Runs m rs (take k outs_after) (registers_next m values held)) (sym (take_all k rows_after (omega (arith, past, push_count rows row))))
          (subst (λ os. Runs m rows_after os (registers_next m values held)) (sym (take_all k outs_after (omega (arith, past, same, push_count outs (outs_of m values)))))
          (cycle rows outs held values row run now)),
    )
    by_size front (inr within) = (
      front.0,
      subst (λ rs. Runs m rs (take k outs_after) front.0) (sym (take-append-le k rows (row ∷ []) within))
          (subst (λ os. Runs m (take k rows) os front.0) (sym (take-append-le k outs (outs_of m values ∷ []) (omega (arith, within, same)))) front.1),
    )

-- ---- one result

pub one_further : {A : Type 0} (xs : List A) (k : ℕ) (x : A) → slice_get xs k ≡ Some x → take (suc k) xs ≡ take k xs ++ x ∷ []
one_further [] k x e = cc
one_further (y ∷ xs) zero x e = let same : y ≡ x = cc in ap (λ z. z ∷ []) same
one_further (y ∷ xs) (suc k) x e = ap (λ zs. y ∷ zs) (one_further xs k x e)

-- two feedings go alike up to a row
pub record GoAlike (a b : List Row) (c d : List Outs) (k : ℕ) : Type 0 where
  pub rows : take k a ≡ take k b
  pub outs : take k c ≡ take k d

alike : (m : VModule) (input output : ℕ) (words : List Word) (count : ℕ) (x y : List Word) → (a : Feeds m input output words count x) → (b : Feeds m input output words count y)
    → (k : ℕ) → k ≤ suc count → GoAlike a.rows b.rows a.outs b.outs k
alike m input output words count x y a b zero within = record { rows = refl; outs = refl }
alike m input output words count x y a b (suc k) within = further (alike m input output words count x y a b k (omega (arith, within)))
  where
    further : GoAlike a.rows b.rows a.outs b.outs k → GoAlike a.rows b.rows a.outs b.outs (suc k)
    further before = record { rows = rows; outs = sym (a.only (suc k) _ _ (subst (λ rs. Runs m rs (take (suc k) b.outs) front.0) (sym rows) front.1)) }
      where
        front : (held : Values) × Runs m (take (suc k) b.rows) (take (suc k) b.outs) held
        front = runs_front m b.rows b.outs b.held b.runs (suc k)

        next : Row
        next = row_behind m input words k (take k b.rows) (take k b.outs)

        first : slice_get a.rows k ≡ Some next
        first =
            a.fed k (omega (arith, within, a.size))
            ∙ ap (λ rs. Some (row_behind m input words k rs (take k a.outs))) before.rows
            ∙ ap (λ os. Some (row_behind m input words k (take k b.rows) os)) before.outs

        rows : take (suc k) a.rows ≡ take (suc k) b.rows
        rows =
            one_further a.rows k next first
            ∙ ap (λ rs. rs ++ next ∷ []) before.rows
            ∙ sym (one_further b.rows k next (b.fed k (omega (arith, within, b.size))))

pub one_feeding : (m : VModule) (input output : ℕ) (words : List Word) (count : ℕ) (x y : List Word) → Feeds m input output words count x → Feeds m input output words count y → x ≡ y
one_feeding m input output words count x y a b =
    a.given_is
    ∙ ap (λ rs. moved_through m output rs a.outs) rows
    ∙ ap (moved_through m output b.rows) outs
    ∙ sym b.given_is
  where
    all : GoAlike a.rows b.rows a.outs b.outs (suc count)
    all = alike m input output words count x y a b (suc count) (omega arith)

    rows : a.rows ≡ b.rows
    rows = sym (take_all (suc count) a.rows (omega (arith, a.size))) ∙ all.rows ∙ take_all (suc count) b.rows (omega (arith, b.size))

    outs : a.outs ≡ b.outs
    outs =
        sym (take_all (suc count) a.outs (omega (arith, a.size, runs_count m a.rows a.outs a.held a.runs)))
        ∙ all.outs
        ∙ take_all (suc count) b.outs (omega (arith, b.size, runs_count m b.rows b.outs b.held b.runs))

-- ---- what the rows are

-- what holds of each element by its index
each_by_index : {A : Type 0} (P : A → Type 0) (xs : List A) → ((k : ℕ) (x : A) → slice_get xs k ≡ Some x → P x) → AllByRecursion P xs
each_by_index P [] h = tt
each_by_index P (x ∷ xs) h = (h 0 x refl, each_by_index P xs (λ k. h (suc k)))

row_is : (m : VModule) (input : ℕ) (words : List Word) (rows : List Row) (outs : List Outs) → AreFedRows m input words rows outs → (k : ℕ) (row : Row) → slice_get rows k ≡ Some row → k < length rows
    → row ≡ row_behind m input words k (take k rows) (take k outs)
row_is m input words rows outs fed k row e inside = let here = fed k inside in cc

pub rows_fit : (m : VModule) (input output : ℕ) (words : List Word) (rows : List Row) (outs : List Outs) → is_feedable m input output words ≡ true → AreFedRows m input words rows outs
    → AllByRecursion (IsRowOf m) rows
rows_fit m input output words rows outs fits fed =
    each_by_index (IsRowOf m) rows (λ k row e.
    let same = row_is m input words rows outs fed k row e (slice_get_within rows k row e) in
    subst (IsRowOf m) (sym same) (row_fits m input words (and_both _ _ fits).0 (eqb k 0) (length (moved_through m input (take k rows) (take k outs)))))

pub rows_among : (m : VModule) (input : ℕ) (words : List Word) (rows : List Row) (outs : List Outs) → AreFedRows m input words rows outs
    → AllByRecursion (λ (row : Row). AllByRecursion (OffersAmong words) row.channels) rows
rows_among m input words rows outs fed =
    each_by_index (λ (row : Row). AllByRecursion (OffersAmong words) row.channels) rows (λ k row e.
    let same = row_is m input words rows outs fed k row e (slice_get_within rows k row e) in
    subst (λ (r : Row). AllByRecursion (OffersAmong words) r.channels) (sym same) (drives_among input words (length (moved_through m input (take k rows) (take k outs))) 0 (channels_of m)))

first_resets : (rows : List Row) (row : Row) → slice_get rows 0 ≡ Some row → row.reset ≡ true → list_any (λ (r : Row). r.reset) rows ≡ true
first_resets [] row e h = cc
first_resets (r ∷ rows) row e h =
    let same : r ≡ row = cc in
    ap (λ b. b || list_any (λ (q : Row). q.reset) rows) (ap (λ (q : Row). q.reset) same ∙ h)

pub rows_reset : (m : VModule) (input : ℕ) (words : List Word) (rows : List Row) (outs : List Outs) → AreFedRows m input words rows outs → 0 < length rows
    → list_any (λ (row : Row). row.reset) rows ≡ true
rows_reset m input words rows outs fed some = first_resets rows (row_behind m input words 0 (take 0 rows) (take 0 outs)) (fed 0 some) refl
