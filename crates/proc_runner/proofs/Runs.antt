-- The run of a network: its procs by their heads, their bodies, and the rights before the first proc has taken its own.
use Rattle.std.proofs.Common.{◌≡◌, ℕ, zero, suc, ◌+◌, ◌<◌, ◌^◌, List, [], ◌∷◌, ◌++◌, length, map, take, get_or, refl, sym, ap, ◌∙◌, subst, arith, Option, Some, None}
use Rattle.std.specs.Prelude.{slice_get, option_map}
use Rattle.std.proofs.lemmas.List.{length-map}
use Rattle.std.proofs.lemmas.Option.{slice_get-map, slice_get_within, get_or_from_slice_get}
use Rattle.base.specs.Lists.Indexed.{indexed}
use Rattle.base.proofs.Lemmas.Lists.Indexed.{indexed_get, indexed_more, length-indexed}
use Rattle.xb_bits.specs.Word.{Word}
use Rattle.xb_value.specs.Typing.{IsOfType}
use Rattle.chan_queue.specs.declared.pass.SendPass.{SendPass}
use Rattle.chan_queue.specs.declared.pass.RecvPass.{RecvPass}
use Rattle.chan_queue.specs.declared.queue.ChanQueue.{ChanQueue}
use Rattle.net_core.specs.declared.net.Net.{Net}
use Rattle.net_core.specs.declared.net.ProcHead.{ProcHead}
use Rattle.net_core.specs.declared.net.Chan.{Chan}
use Rattle.net_core.specs.Behavior.{Behavior}
use Rattle.net_core.specs.Cuts.{Proc, index_of, sender, receiver}
use Rattle.net_core.specs.WellFormed.{IsNet, IsInputs, AreBehaviorsOf, EachKeepsTypes, procs_of, run_of}
use Rattle.net_core.proofs.Lemmas.{zipped, run_fits, opening_typed, final_typed, behaviors_zipped}
use Rattle.chan_queue.specs.Streams.Moves.{IsTyped}
use Rattle.proc_task.specs.Outcome.Tasks.{IsRunOf}
use Rattle.proc_task.specs.Outcome.Places.{head_sends, head_receives}
use Rattle.proc_task.proofs.Lemmas.Outcome.{sender_is, receiver_is}
use Rattle.proc_runner.specs.Inner.Opened.{AreOpened}
use Rattle.proc_runner.specs.Inner.Started.{AreHeads, AreLeft}

proc_there : (heads : List ProcHead) (bs : List Behavior) (p : ℕ) (head : ProcHead) → length bs ≡ length heads → slice_get heads p ≡ Some head → (proc : Proc) × (slice_get (procs_of heads bs) p ≡ Some proc)
proc_there [] bs p head e h = cc
proc_there (x ∷ heads) [] p head e h = absurd (omega (arith, e))
proc_there (x ∷ heads) (b ∷ bs) zero head e h = (record { opening = x.init; behavior = b }, refl)
proc_there (x ∷ heads) (b ∷ bs) (suc p) head e h = proc_there heads bs p head (omega (arith, e)) h

sites_zipped : (heads : List ProcHead) (bs : List Behavior) → length bs ≡ length heads
    → ((p : ℕ) (head : ProcHead) (b : Behavior) → slice_get heads p ≡ Some head → slice_get bs p ≡ Some b → b.sites ≡ head.sites)
    → map (λ (proc : Proc). proc.behavior.sites) (procs_of heads bs) ≡ map (λ (head : ProcHead). head.sites) heads
sites_zipped [] bs e same = refl
sites_zipped (x ∷ heads) [] e same = absurd (omega (arith, e))
sites_zipped (x ∷ heads) (b ∷ bs) e same =
    let first = same 0 x b refl refl in
    let rest = sites_zipped heads bs (omega (arith, e)) (λ p head c g h. same (suc p) head c g h) in
    λ i. first i ∷ rest i

some_there : {A : Type 0} (xs : List A) (k : ℕ) → k < length xs → (x : A) × (slice_get xs k ≡ Some x)
some_there [] k l = absurd (omega (arith, l))
some_there (x ∷ xs) zero l = (x, refl)
some_there (x ∷ xs) (suc k) l = some_there xs k (omega (arith, l))

-- no word of a channel that isn't there
pub no_word : (inputs : List (List Word)) (c place : ℕ) → slice_get inputs c ≡ None → None ≡ slice_get (get_or inputs c []) place
no_word [] c place e = refl
no_word (words ∷ inputs) zero place e = cc
no_word (words ∷ inputs) (suc c) place e = no_word inputs c place e

-- what is so of a body is so of the one with its number
pub same_body : {X : Type 0} (P : X → Type 0) (bodies : List X) (p : ℕ) (body other : X) → slice_get bodies p ≡ Some body → slice_get bodies p ≡ Some other → P body → P other
same_body P bodies p body other there is h =
    let both : Some body ≡ Some other = sym there ∙ is in
    let same : body ≡ other = cc in
    subst P same h

-- the body of a proc of the run
module _ {X : Type 0} (behavior : X → Behavior) (heads : List ProcHead) (bodies : List X) (p : ℕ) (proc : Proc) (e : slice_get (procs_of heads (map behavior bodies)) p ≡ Some proc) where
  pub body_there : (body : X) → slice_get bodies p ≡ Some body → behavior body ≡ proc.behavior
  body_there body there =
      let z = zipped heads (map behavior bodies) p proc e in
      let both : ◌≡◌ {A = Option Behavior} (Some (behavior body)) (Some proc.behavior) = sym (slice_get-map behavior bodies p ∙ ap (option_map behavior) there) ∙ z.behavior_is in
      cc

  pub body_missing : slice_get bodies p ≡ None → ⊥
  body_missing there =
      let z = zipped heads (map behavior bodies) p proc e in
      let both : ◌≡◌ {A = Option Behavior} None (Some proc.behavior) = sym (slice_get-map behavior bodies p ∙ ap (option_map behavior) there) ∙ z.behavior_is in
      cc

-- one channel's end more
pub place_more : (f : ℕ → ℕ) (chans : List Chan) (indices : List ℕ) (k : ℕ) → k < length chans → indices ≡ indexed (λ c (chan : Chan). f c) 0 (take k chans)
    → indices ++ f k ∷ [] ≡ indexed (λ c (chan : Chan). f c) 0 (take (k + 1) chans)
place_more f chans indices k l are =
    let there = some_there chans k l in
    ap (λ (xs : List ℕ). xs ++ f k ∷ []) are
    ∙ sym (indexed_more (λ c (chan : Chan). f c) chans k there.0 l (sym (get_or_from_slice_get chans k there.0 there.0 there.1)))

module _ (net : Net) (well : IsNet net) (bs : List Behavior) (fit : AreBehaviorsOf net bs) (keep : EachKeepsTypes bs) (inputs : List (List Word)) (given : IsInputs net inputs)
    (n : ℕ) (small : n < 2 ^ 32) (depths : List ℕ) where
  pub run_typed : IsTyped (run_of net bs inputs n depths)
  run_typed =
      let fits = run_fits net well bs fit keep inputs given n small depths in
      record { fits = fits; words = final_typed (run_of net bs inputs n depths) fits (opening_typed net well bs fit keep inputs given n small depths) given.words }

  pub is_run : IsRunOf net (run_of net bs inputs n depths)
  is_run = record {
    few = well.few_chans;
    chans = refl;
    sites = sites_zipped net.procs bs fit.count (λ p head b e f. (fit.each p head b e f).sites);
  }

  pub procs_count : length (run_of net bs inputs n depths).procs ≡ length net.procs
  procs_count = sym (length-map (procs_of net.procs bs) (λ (proc : Proc). proc.behavior)) ∙ (ap length (behaviors_zipped net.procs bs fit.count) ∙ fit.count)

  pub heads_are : AreHeads (run_of net bs inputs n depths) net.procs
  heads_are p head e =
      let there = proc_there net.procs bs p head fit.count e in
      let z = zipped net.procs bs p there.0 there.1 in
      let head_is = z.head_is in
      let same : z.head ≡ head = cc in
      let opening = z.opening ∙ ap (λ (x : ProcHead). x.init) same in
      record {
        small = omega (arith, slice_get_within net.procs p head e, well.few_procs);
        proc = there.0;
        proc_is = there.1;
        opening = opening;
        of_type = subst (λ v. IsOfType there.0.behavior.state v) opening (opening_typed net well bs fit keep inputs given n small depths p there.0 there.1);
        sites = sym ((fit.each p head there.0.behavior e z.behavior_is).sites);
      }

  module _ {S : Type 0} (senders receivers : List ℕ) (queues : List (Option (ChanQueue S))) (sends : List (Option (SendPass S))) (recvs : List (Option (RecvPass S))) where
    at_end : (place : ℕ → ℕ) (ends : ℕ → ℕ) (indices : List ℕ) → indices ≡ indexed (λ c (chan : Chan). place c) 0 net.chans → ((c : ℕ) → place c ≡ ends c) → (c : ℕ) → c < length net.chans
        → slice_get indices c ≡ Some (ends c)
    at_end place ends indices are same c l =
        ap (λ (xs : List ℕ). slice_get xs c) are
        ∙ (indexed_get (λ d (chan : Chan). place d) 0 c c net.chans (omega arith)
        ∙ (some_chan (slice_get net.chans c) (slice_get_some net.chans c l) ∙ ap Some (same c)))
      where
        some_chan : (o : Option Chan) → (chan : Chan) × (o ≡ Some chan) → option_map (λ (chan : Chan). place c) o ≡ Some (place c)
        some_chan o found = ap (option_map (λ (chan : Chan). place c)) found.1

        slice_get_some : {A : Type 0} (xs : List A) (k : ℕ) → k < length xs → (x : A) × (slice_get xs k ≡ Some x)
        slice_get_some [] k m = absurd (omega (arith, m))
        slice_get_some (x ∷ xs) zero m = (x, refl)
        slice_get_some (x ∷ xs) (suc k) m = slice_get_some xs k (omega (arith, m))

    -- no proc has taken its rights
    pub all_left : senders ≡ indexed (λ c (chan : Chan). index_of (head_sends c) net.procs) 0 net.chans → receivers ≡ indexed (λ c (chan : Chan). index_of (head_receives c) net.procs) 0 net.chans
        → AreOpened (run_of net bs inputs n depths) (length net.chans) queues sends recvs → AreLeft (run_of net bs inputs n depths) queues 0 senders receivers sends recvs
    all_left senders_are receivers_are opened =
        let run = run_of net bs inputs n depths in
        record {
          few = well.few_chans;
          senders_count = ap length senders_are ∙ length-indexed (λ c (chan : Chan). index_of (head_sends c) net.procs) 0 net.chans;
          receivers_count = ap length receivers_are ∙ length-indexed (λ c (chan : Chan). index_of (head_receives c) net.procs) 0 net.chans;
          sends_count = opened.sends_are;
          recvs_count = opened.recvs_are;
          senders_are = at_end (λ c. index_of (head_sends c) net.procs) (sender run) senders senders_are (λ c. sender_is net run c is_run);
          receivers_are = at_end (λ c. index_of (head_receives c) net.procs) (receiver run) receivers receivers_are (λ c. receiver_is net run c is_run);
          send = λ c chan e kind l. opened.send c chan (slice_get_within net.chans c chan e) e kind;
          recv = λ c chan e kind l. opened.recv c chan (slice_get_within net.chans c chan e) e kind;
        }
