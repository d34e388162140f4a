-- A module takes the words that it is fed with one after another.
use Rattle.std.proofs.Common.{◌≡◌, ◌<◌, ◌≤◌, ℕ, zero, suc, Bool, true, false, List, [], ◌∷◌, ◌++◌, length, take, Some, None, Option, refl, sym, ap, ◌∙◌, subst, arith}
use Rattle.std.specs.Prelude.{slice_get}
use Rattle.std.proofs.lemmas.List.{length-take-le, take_all}
use Rattle.std.proofs.lemmas.Option.{slice_get_within}
use Rattle.base.specs.Lists.Prefix.{IsPrefix}
use Rattle.xb_bits.specs.Word.{Word}
use Rattle.vlog_tree.specs.declared.module.VModule.{VModule}
use Rattle.vlog_tree.specs.declared.row.Drive.TheVariants.{Offer}
use Rattle.vlog_tree.specs.declared.row.Outs.{Outs}
use Rattle.vlog_tree.specs.declared.row.Row.{Row}
use Rattle.vlog_tree.specs.declared.row.Shown.{Shown}
use Rattle.vlog_tree.specs.declared.row.Shown.TheVariants as shown
use Rattle.vlog_tree.specs.Rows.{Runs}
use Rattle.vlog_tree.specs.Signals.{channels_of}
use Rattle.vlog_tree.specs.Value.{Values}
use Rattle.cycle_sim.specs.Cycles.CycleText.{moved_at, one_more}
use Rattle.xls_gen.specs.Feed.Feeding.{AreFedRows, is_feedable, moved_through, row_behind}
use Rattle.xls_gen.proofs.OnFeed.Channels.{TakesWords, and_both, takes}
use Rattle.xls_gen.proofs.OnFeed.Drives.{drive_in}
use Rattle.xls_gen.proofs.OnFeed.Moving.{moved_before_all, moved_step, moved_unshown}
use Rattle.xls_gen.proofs.OnFeed.Rows.{one_further, runs_count}

prefix_more : (ws words : List Word) (w : Word) → IsPrefix ws words → slice_get words (length ws) ≡ Some w → IsPrefix (ws ++ w ∷ []) words
prefix_more [] [] w f e = cc
prefix_more [] (x ∷ words) w f e = let same : x ≡ w = cc in (sym same, tt)
prefix_more (v ∷ ws) [] w f e = absurd f
prefix_more (v ∷ ws) (x ∷ words) w f e = (f.0, prefix_more ws words w f.1 e)

-- a row in which the first word that isn't taken is offered
taken_more : (ws words : List Word) → IsPrefix ws words → (reset : Bool) (s : Shown) → IsPrefix (moved_at reset (Offer (slice_get words (length ws))) s ws) words
taken_more ws words f true s = tt
taken_more ws words f false (shown.Input true) = go (slice_get words (length ws)) refl
  where
    go : (o : Option Word) → slice_get words (length ws) ≡ o → IsPrefix (one_more o ws) words
    go None e = f
    go (Some w) e = prefix_more ws words w f e
taken_more ws words f false (shown.Input false) = f
taken_more ws words f false (shown.Output w valid) = f

there : {A : Type 0} (xs : List A) (i : ℕ) → i < length xs → (x : A) × (slice_get xs i ≡ Some x)
there [] i h = absurd (omega (arith, h))
there (x ∷ xs) zero h = (x, refl)
there (x ∷ xs) (suc i) h = there xs i (omega (arith, h))

module _ (m : VModule) (input output : ℕ) (words : List Word) (rows : List Row) (outs : List Outs) (fits : is_feedable m input output words ≡ true)
    (fed : AreFedRows m input words rows outs) (size : length outs ≡ length rows) where
  abbrev taken : ℕ → List Word
  taken k = moved_through m input (take k rows) (take k outs)

  next_taken : (k : ℕ) → k < length rows → IsPrefix (taken k) words → IsPrefix (taken (suc k)) words
  next_taken k inside before = subst (λ ws. IsPrefix ws words) (sym further) (by_shown (slice_get more.0.channels input) refl)
    where
      row : Row
      row = row_behind m input words k (take k rows) (take k outs)

      more : (o : Outs) × (slice_get outs k ≡ Some o)
      more = there outs k (omega (arith, inside, size))

      source : TakesWords (channels_of m) input words
      source = takes (channels_of m) input words (and_both _ _ fits).0

      sizes : length (take k outs) ≡ length (take k rows)
      sizes = length-take-le k outs (omega (arith, inside, size)) ∙ sym (length-take-le k rows (omega (arith, inside)))

      further : taken (suc k) ≡ moved_through m input (take k rows ++ row ∷ []) (take k outs ++ more.0 ∷ [])
      further =
          ap (λ rs. moved_through m input rs (take (suc k) outs)) (one_further rows k row (fed k inside))
          ∙ ap (moved_through m input (take k rows ++ row ∷ [])) (one_further outs k more.0 more.1)

      drives : slice_get row.channels input ≡ Some (Offer (slice_get words (length (taken k))))
      drives = drive_in input (slice_get words (length (taken k))) (channels_of m) source.channel source.there source.goes_in

      by_shown : (o : Option Shown) → slice_get more.0.channels input ≡ o → IsPrefix (moved_through m input (take k rows ++ row ∷ []) (take k outs ++ more.0 ∷ [])) words
      by_shown None e = subst (λ ws. IsPrefix ws words) (sym (moved_unshown m input (take k rows) (take k outs) row more.0 sizes e)) before
      by_shown (Some s) e =
          subst (λ ws. IsPrefix ws words)
          (sym (moved_step m input (take k rows) (take k outs) row more.0 (Offer (slice_get words (length (taken k)))) s sizes drives e (slice_get_within (channels_of m) input source.channel source.there)))
          (taken_more (taken k) words before row.reset s)

  taken_front : (k : ℕ) → k ≤ length rows → IsPrefix (taken k) words
  taken_front zero within = subst (λ ws. IsPrefix ws words) (sym (moved_before_all m input [] [] refl)) tt
  taken_front (suc k) within = next_taken k (omega (arith, within)) (taken_front k (omega (arith, within)))

  all_taken : IsPrefix (moved_through m input rows outs) words
  all_taken =
      subst (λ rs. IsPrefix (moved_through m input rs outs) words) (take_all (length rows) rows (omega arith))
      (subst (λ os. IsPrefix (moved_through m input (take (length rows) rows) os) words) (take_all (length rows) outs (omega (arith, size))) (taken_front (length rows) (omega arith)))

pub taken_in_order : (m : VModule) (input output : ℕ) (words : List Word) (rows : List Row) (outs : List Outs) (held : Values) → is_feedable m input output words ≡ true → AreFedRows m input words rows outs
    → Runs m rows outs held → IsPrefix (moved_through m input rows outs) words
taken_in_order m input output words rows outs held fits fed run = all_taken m input output words rows outs fits fed (runs_count m rows outs held run)
