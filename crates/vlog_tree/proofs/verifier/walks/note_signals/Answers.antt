use Rattle.std.proofs.Common.{◌≡◌, ◌<◌, ◌∷◌, [], Bool, true, false, ℕ, List, Option, Some, length, get_or, refl, sym, ap, ◌∙◌, arith, cond}
use Rattle.std.specs.Prelude.{◌||◌, is_some, slice_get, option_map, unwrap_or}
use Rattle.std.specs.Str.{bytes_eq}
use Rattle.std.proofs.lemmas.Option.{slice_get-get_or}
use Rattle.base.specs.NameTable.Found.{found}
use Rattle.vlog_tree.specs.Signals.{Declared, signals}
use Rattle.vlog_tree.specs.declared.signal.Role.TheVariants.{RegisterSignal}
use Rattle.vlog_tree.specs.Verifier.WithSpans.{signal_span}
use Rattle.vlog_tree.specs.Verifier.Checks.{noted, walk}
use Rattle.vlog_tree.specs.Verifier.Parts.{count_of, is_among, signal_checks, see_name}
use Rattle.vlog_tree.specs.Verifier.Verified.{targets, signals_checks}
use Rattle.vlog_tree.proofs.OnVerifier.Steps.{walk_step, among-more}
use Rattle.vlog_tree.proofs.verifier.walks.note_signals.Goals as goal

same_name : (o : Option Declared) (d : Declared) (name : List ℕ) → o ≡ Some d → option_map (λ (d : Declared). d.name) o ≡ Some name → name ≡ d.name
same_name o d name at told = let e : Some d.name ≡ Some name = sym (ap (option_map (λ (d : Declared). d.name)) at) ∙ told in cc

put : {V : Type 0} (b : Bool) (v : V) (o : Option V) (old : Bool) → is_some o ≡ old → is_some (cond b (Some v) o) ≡ (old || b)
put true v o true e = refl
put true v o false e = refl
put false v o true e = e
put false v o false e = e

pub signals-preserved : goal.signals-preserved
signals-preserved c =
    let m = c.args.design.now in
    let pl = c.args.part_spans.now in
    let xs = signals m in
    let i = c.signals.s in
    let inv = c.signals.invariant in
    let none : Declared = record { name = []; role = RegisterSignal; width = 0 } in
    let d = get_or xs i none in
    let inside : i < length xs = omega (arith, c.signal_count-s-end.ensures) in
    let at : slice_get xs i ≡ Some d = slice_get-get_or xs i none inside in
    let again : slice_get xs i ≡ Some (get_or xs i d) = slice_get-get_or xs i d inside in
    let is : d ≡ get_or xs i d = let both : Some d ≡ Some (get_or xs i d) = sym at ∙ again in cc in
    let name = same_name (slice_get xs i) d c.name_of-name.result.now at c.name_of-name.ensures in
    record {
      seen = see_name inv.seen d;
      shows = λ q. ap is_some (c.in_ok-put.ensures q) ∙ put (bytes_eq q c.name_of-name.result.now) tt (found c.signals.names q) (is_among inv.seen q) (inv.shows q)
          ∙ ap (λ n. is_among inv.seen q || bytes_eq q n) name ∙ sym (among-more inv.seen d.name q);
      faults = walk_step (λ names s d. signal_checks m (targets m.assignments) (signal_span m pl s) names s d) see_name inv.seen xs i d c.signals.held c.note_signal-held.result
          (noted c.args.held (signals_checks m pl)) inside is
          (c.note_signal-held.ensures m (targets m.assignments) inv.seen i d
          (c.has-is_again.ensures ∙ inv.shows c.name_of-name.result.now ∙ ap (is_among inv.seen) name)
          (c.has.ensures ∙ c.requires.each i)
          (c.role_of-role.ensures ∙ ap (option_map (λ (d : Declared). d.role)) at)
          (c.width_of.ensures ∙ ap (λ o. unwrap_or (option_map (λ (d : Declared). d.width) o) 1) at)
          ∙ ap (λ s. noted c.signals.held (signal_checks m (targets m.assignments) s inv.seen i d)) c.signal_span-span.ensures)
          inv.faults;
    }
