-- What runs of procs that do the same show.
use Rattle.std.proofs.Common.{◌≡◌, ℕ, suc, ◌+◌, ◌<◌, ◌^◌, Bool, true, false, List, [], ◌∷◌, ◌++◌, length, take, get_or, Some, None, refl, sym, ap, ◌∙◌, subst, arith, nat_lt}
use Rattle.std.specs.Prelude.{if◌then◌else◌, slice_get}
use mathlib.Core.Path.{fun_ext}
use Rattle.base.specs.Lists.Prefix.{IsPrefix}
use Rattle.base.specs.Lists.Indexed.{indexed}
use Rattle.xb_bits.specs.Word.{Word}
use Rattle.xb_value.specs.declared.value.Value.{Value}
use Rattle.xb_value.specs.Typing.{IsOfType}
use Rattle.xb_value.specs.Width.{width_of}
use Rattle.net_core.specs.declared.net.Chan.{Chan}
use Rattle.net_core.specs.declared.net.Kind.TheVariants.{Input, Output, Inner}
use Rattle.net_core.specs.declared.net.Net.{Net}
use Rattle.net_core.specs.declared.net.ProcHead.{ProcHead}
use Rattle.net_core.specs.declared.net.Site.{Site}
use Rattle.net_core.specs.declared.event.Event.{Event}
use Rattle.net_core.specs.declared.outcome.ProcEnd.{ProcEnd}
use Rattle.net_core.specs.declared.outcome.Stream.{Stream}
use Rattle.net_core.specs.Behavior.{Behavior, IsOpen, next_event}
use Rattle.net_core.specs.Trace.{Histories, trace}
use Rattle.net_core.specs.Cuts.{Cut, Proc, Run, final_cut, fits_after, longest_fit, reach, received_at, room_at, sites_at, trace_of, words_at}
use Rattle.net_core.specs.Machine.{Position, next_of, opened, position_after, position_in}
use Rattle.net_core.specs.Outcomes.{end_of, outcome_of, stall_for, stream_of}
use Rattle.net_core.specs.WellFormed.{AreBehaviorsOf, AreWordsOf, EachKeepsTypes, IsInputs, IsNet, IsRun, procs_of, run_of}
use Rattle.net_core.proofs.Lemmas.{ends_by_position, opening_typed, rounds_settle, run_fits}
use Rattle.ir_tree.specs.declared.package.Package.{Package}
use Rattle.ir_tree.specs.Networks.{behaviors_of, network_of}
use Rattle.ir_tree.specs.SameBehavior.{IsDenotedBy, SameActivations, SameActivationsEach, SameBehavior}
use Rattle.ir_tree.proofs.Lemmas.Rules.Typed.{network_fits, procs_fit, procs_keep_types}
use Rattle.ir_tree.specs.Rules.Verified.{IsVerified}
use Rattle.ir_eval.proofs.OnOutcomes.Positions.{trace_stands}
use Rattle.ir_eval.proofs.OnOutcomes.Runs.{SameEach, SameIfThere, SameProc, final_typed_for, same_final, same_procs, same_received, same_words}

-- ---- lists side by side

both_long : (heads : List ProcHead) (xs ys : List Behavior) → length xs ≡ length ys → length (procs_of heads xs) ≡ length (procs_of heads ys)
both_long [] xs ys count = refl
both_long (h ∷ heads) [] [] count = refl
both_long (h ∷ heads) [] (y ∷ ys) count = absurd (omega (arith, count))
both_long (h ∷ heads) (x ∷ xs) [] count = absurd (omega (arith, count))
both_long (h ∷ heads) (x ∷ xs) (y ∷ ys) count = ap suc (both_long heads xs ys (omega (arith, count)))

indexed_same : {B : Type 0} (f g : ℕ → Proc → B) (k : ℕ) (xs ys : List Proc) → length xs ≡ length ys
    → ((p j : ℕ) (x y : Proc) → j ≡ k + p → slice_get xs p ≡ Some x → slice_get ys p ≡ Some y → f j x ≡ g j y) → indexed f k xs ≡ indexed g k ys
indexed_same f g k [] [] count same = refl
indexed_same f g k [] (y ∷ ys) count same = absurd (omega (arith, count))
indexed_same f g k (x ∷ xs) [] count same = absurd (omega (arith, count))
indexed_same {B} f g k (x ∷ xs) (y ∷ ys) count same =
    ap (λ (e : B). e ∷ indexed f (suc k) xs) (same 0 k x y (omega arith) refl refl)
    ∙ ap (λ (es : List B). g k y ∷ es) (indexed_same f g (suc k) xs ys (omega (arith, count)) (λ p j a b e. same (suc p) j a b (omega (arith, e))))

-- ---- fronts

prefix_if : (t : Bool) (e : Event) (es fs : List Event) → IsPrefix es fs → IsPrefix (if t then e ∷ es else []) (e ∷ fs)
prefix_if true e es fs f = (refl, f)
prefix_if false e es fs f = tt

fit_prefix : (sites : List Site) (room : ℕ → ℕ → Bool) (before es : List Event) → IsPrefix (longest_fit sites room before es) es
unfolding longest_fit
fit_prefix sites room before [] = tt
fit_prefix sites room before (e ∷ es) = prefix_if (fits_after sites room before e) e (longest_fit sites room (before ++ e ∷ []) es) es (fit_prefix sites room (before ++ e ∷ []) es)

-- ---- streams

unfoldable stream_in : List Word → ℕ → Chan → Stream
stream_in words received chan =
    elim chan.kind [
      | Input ↦ record { words = take received words; received = received }
      | Output ↦ record { words = words; received = 0 }
      | Inner ↦ record { words = words; received = received }
    ]

stream_is : (run : Run) (cut : Cut) (c : ℕ) (chan : Chan) → stream_of run cut c chan ≡ stream_in (words_at run cut c) (received_at run cut c) chan
unfolding stream_of stream_in
stream_is run cut c chan = refl

-- how far a proc comes by itself is a prefix of its trace
reach_prefix : (run : Run) (cut : Cut) (p : ℕ) → IsPrefix (reach run cut p) (trace_of run.activations (words_at run cut) (slice_get run.procs p))
unfolding reach
reach_prefix run cut p = fit_prefix (sites_at run p) (room_at run cut) [] (trace_of run.activations (words_at run cut) (slice_get run.procs p))

trace_is : (n : ℕ) (words : Histories) (x : Proc) (es : List Event) → IsPrefix es (trace_of n words (Some x)) → IsPrefix es (trace x.behavior n x.opening words)
unfolding trace_of
trace_is n words x es f = f

-- what two procs do next, where they do the same and an activation stands
abbrev pub TheSameNext : Type 0
TheSameNext = (a b : Behavior) (s : Value) (got : List Word) (done : ℕ) → SameActivations a b → IsOpen a s got done → next_event a s got done ≡ next_event b s got done

abbrev proc_end : List Site → ℕ → Position → Event → ProcEnd
proc_end sites n at event = record { state = at.state; ends = at.ends; stall = if nat_lt at.ends n then stall_for sites at.ends event else None }

module _ (nexts : TheSameNext) (net : Net) (well : IsNet net) (xs ys : List Behavior) (count : length xs ≡ length ys) (each : SameEach xs ys) (fit : AreBehaviorsOf net xs) (keep : EachKeepsTypes xs)
    (inputs : List (List Word)) (given : IsInputs net inputs) (n : ℕ) (small : n < 2 ^ 32) (depths : List ℕ) where
  abbrev one : Run
  one = run_of net xs inputs n depths

  abbrev two : Run
  two = run_of net ys inputs n depths

  fits : IsRun one
  fits = run_fits net well xs fit keep inputs given n small depths

  opens : (p : ℕ) (proc : Proc) → slice_get (procs_of net.procs xs) p ≡ Some proc → IsOfType proc.behavior.state proc.opening
  opens = opening_typed net well xs fit keep inputs given n small depths

  words_given : (c : ℕ) (chan : Chan) → slice_get net.chans c ≡ Some chan → AreWordsOf (width_of chan.ty) (get_or inputs c [])
  words_given c chan e = given.words c chan e

  finals : final_cut one ≡ final_cut two
  finals = same_final net.procs xs ys count each net.chans inputs n depths fits opens words_given

  -- the final cut of a proc is a prefix of its trace
  made : (p : ℕ) (x : Proc) → slice_get (procs_of net.procs xs) p ≡ Some x → IsPrefix (final_cut one p) (trace_of n (words_at one (final_cut one)) (Some x))
  made p x e =
      subst (λ o. IsPrefix (final_cut one p) (trace_of n (words_at one (final_cut one)) o)) e
      (subst (λ es. IsPrefix es (trace_of n (words_at one (final_cut one)) (slice_get (procs_of net.procs xs) p))) (ap (λ (cut : Cut). cut p) (rounds_settle one)) (reach_prefix one (final_cut one) p))

  stands : (p : ℕ) (x : Proc) → slice_get (procs_of net.procs xs) p ≡ Some x → IsOpen x.behavior (position_in one (final_cut one) p x).state (position_in one (final_cut one) p x).got (position_in one (final_cut one) p x).done
  stands p x e =
      trace_stands x.behavior (fits.keeps_types p x e) n x.opening 0 (words_at one (final_cut one)) (opens p x e)
      (final_typed_for net.procs xs ys count each net.chans inputs n depths fits opens words_given p x e) (final_cut one p) (trace_is n (words_at one (final_cut one)) x (final_cut one p) (made p x e))

  positions : (p : ℕ) (x y : Proc) → SameProc x y → position_in one (final_cut one) p x ≡ position_in two (final_cut two) p y
  positions p x y same =
      ap (λ (sites : List Site). position_after sites (opened x) (final_cut one p) (words_at one (final_cut one))) same.does.sites
      ∙ (ap (λ (s : Value). position_after y.behavior.sites (record { state = s; got = []; done = 0; ends = 0 }) (final_cut one p) (words_at one (final_cut one))) same.opening
      ∙ (ap (λ (words : Histories). position_after y.behavior.sites (opened y) (final_cut one p) words) (fun_ext (same_words net.procs xs ys count each net.chans inputs n depths (final_cut one)))
      ∙ ap (λ (cut : Cut). position_after y.behavior.sites (opened y) (cut p) (words_at two cut)) finals))

  end_same : (p : ℕ) (x y : Proc) → slice_get (procs_of net.procs xs) p ≡ Some x → slice_get (procs_of net.procs ys) p ≡ Some y → SameProc x y → end_of one (final_cut one) p x ≡ end_of two (final_cut two) p y
  end_same p x y e f same =
      let at = position_in one (final_cut one) p x in
      let next : next_of x.behavior at ≡ next_of y.behavior at = nexts x.behavior y.behavior at.state at.got at.done same.does (stands p x e) in
      ends_by_position one p x e
      ∙ (ap (λ (event : Event). proc_end x.behavior.sites n at event) next
      ∙ (ap (λ (sites : List Site). proc_end sites n at (next_of y.behavior at)) same.does.sites
      ∙ (ap (λ (where' : Position). proc_end y.behavior.sites n where' (next_of y.behavior where')) (positions p x y same)
      ∙ sym (ends_by_position two p y f))))

  there_same : (p : ℕ) (x y : Proc) → slice_get (procs_of net.procs xs) p ≡ Some x → slice_get (procs_of net.procs ys) p ≡ Some y → SameProc x y
  there_same p x y e f =
      subst (λ o. SameIfThere (Some x) o) f (subst (λ o. SameIfThere o (slice_get (procs_of net.procs ys) p)) e (same_procs net.procs xs ys count each p))

  streams : (c : ℕ) (chan : Chan) → stream_of one (final_cut one) c chan ≡ stream_of two (final_cut two) c chan
  streams c chan =
      stream_is one (final_cut one) c chan
      ∙ (ap (λ (words : List Word). stream_in words (received_at one (final_cut one) c) chan) (same_words net.procs xs ys count each net.chans inputs n depths (final_cut one) c)
      ∙ (ap (λ (received : ℕ). stream_in (words_at two (final_cut one) c) received chan) (same_received net.procs xs ys count each net.chans inputs n depths (final_cut one) c)
      ∙ (ap (λ (cut : Cut). stream_in (words_at two cut c) (received_at two cut c) chan) finals
      ∙ sym (stream_is two (final_cut two) c chan))))

  pub same_outcome : outcome_of one (final_cut one) ≡ outcome_of two (final_cut two)
  same_outcome =
      let all : indexed (stream_of one (final_cut one)) 0 net.chans ≡ indexed (stream_of two (final_cut two)) 0 net.chans =
      ap (λ (stream : ℕ → Chan → Stream). indexed stream 0 net.chans) (fun_ext (λ c. fun_ext (streams c))) in
      let ends : indexed (end_of one (final_cut one)) 0 (procs_of net.procs xs) ≡ indexed (end_of two (final_cut two)) 0 (procs_of net.procs ys) =
      indexed_same (end_of one (final_cut one)) (end_of two (final_cut two)) 0 (procs_of net.procs xs) (procs_of net.procs ys) (both_long net.procs xs ys count)
      (λ p j x y is e f.
      let same : j ≡ p = omega (arith, is) in
      subst (λ k. end_of one (final_cut one) k x ≡ end_of two (final_cut two) k y) (sym same) (end_same p x y e f (there_same p x y e f))) in
      λ i. record { streams = all i; procs = ends i }

pub behaviors_outcome : TheSameNext → (net : Net) (behaviors others : List Behavior) (inputs : List (List Word)) (n : ℕ) (depths : List ℕ)
    → SameActivationsEach behaviors others → IsNet net → AreBehaviorsOf net behaviors → EachKeepsTypes behaviors → IsInputs net inputs → n < 2 ^ 32
    → outcome_of (run_of net behaviors inputs n depths) (final_cut (run_of net behaviors inputs n depths))
    ≡ outcome_of (run_of net others inputs n depths) (final_cut (run_of net others inputs n depths))
behaviors_outcome nexts net behaviors others inputs n depths same well fit keep given small = same_outcome nexts net well behaviors others same.count same.each fit keep inputs given n small depths

pub network_outcome : TheSameNext → (net : Net) (behaviors : List Behavior) (ir : Package) (inputs : List (List Word)) (n : ℕ) (depths : List ℕ)
    → IsDenotedBy net behaviors ir → IsNet net → AreBehaviorsOf net behaviors → EachKeepsTypes behaviors → IsInputs net inputs → n < 2 ^ 32
    → outcome_of (run_of net behaviors inputs n depths) (final_cut (run_of net behaviors inputs n depths))
    ≡ outcome_of (run_of (network_of ir) (behaviors_of ir) inputs n depths) (final_cut (run_of (network_of ir) (behaviors_of ir) inputs n depths))
network_outcome nexts net behaviors ir inputs n depths meant well fit keep given small =
    same_outcome nexts net well behaviors (behaviors_of ir) meant.activations.count meant.activations.each fit keep inputs given n small depths
    ∙ ap (λ (x : Net). outcome_of (run_of x (behaviors_of ir) inputs n depths) (final_cut (run_of x (behaviors_of ir) inputs n depths))) meant.network

pub package_outcome : TheSameNext → (p q : Package) (inputs : List (List Word)) (n : ℕ) (depths : List ℕ) → SameBehavior p q → IsVerified p → IsInputs (network_of p) inputs → n < 2 ^ 32
    → outcome_of (run_of (network_of p) (behaviors_of p) inputs n depths) (final_cut (run_of (network_of p) (behaviors_of p) inputs n depths))
    ≡ outcome_of (run_of (network_of q) (behaviors_of q) inputs n depths) (final_cut (run_of (network_of q) (behaviors_of q) inputs n depths))
package_outcome nexts p q inputs n depths same verified given small =
    network_outcome nexts (network_of p) (behaviors_of p) q inputs n depths same (network_fits p verified) (procs_fit p) (procs_keep_types p verified) given small
