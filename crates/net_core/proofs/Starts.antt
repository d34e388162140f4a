-- A new configuration shows the empty cut.
use Rattle.std.proofs.Common.{◌≡◌, ◌≢◌, ℕ, zero, suc, ◌<◌, ◌≤◌, ◌^◌, List, [], ◌∷◌, length, map, get_or, refl, sym, ap, ◌∙◌, subst, arith, true, false, Bool, eqb, not, Some, None, Option, inl, inr}
use Rattle.std.specs.Prelude.{slice_get, option_map, ◌⊎◌, ◌&&◌, ◌||◌, cond}
use Rattle.std.specs.List.{list_any}
use Rattle.xb_bits.specs.Word.{Word}
use Rattle.xb_value.specs.Width.{width_of}
use Rattle.xb_value.specs.Typing.{IsOfType}
use Rattle.net_core.specs.declared.net.Net.{Net}
use Rattle.net_core.specs.declared.net.ProcHead.{ProcHead}
use Rattle.net_core.specs.declared.net.Site.{Site}
use Rattle.net_core.specs.declared.net.Chan.{Chan}
use Rattle.net_core.specs.declared.net.Kind.{Kind}
use Rattle.net_core.specs.declared.net.Kind.TheVariants.{Input, Output, Inner}
use Rattle.net_core.specs.declared.config.Config.{Config}
use Rattle.net_core.specs.Behavior.{Behavior, IsOpen}
use Rattle.net_core.specs.Cuts.{Proc, empty_cut, index_of, sends_on, receives_on, sender, receiver, words_sent, count_received, words_by, words_at, received_at}
use Rattle.net_core.specs.Machine.{opened, position_after, position_in}
use Rattle.net_core.specs.WellFormed.{IsNet, IsSiteOf, IsInputs, AreWordsOf, IsBehaviorFor, AreBehaviorsOf, EachKeepsTypes, procs_of, run_of, IsRun}
use Rattle.base.specs.Lists.Indexed.{indexed}
use Rattle.net_core.specs.Shows.{Shows, progress_at, progress_of, channel_of}
use Rattle.net_core.specs.Inner.Making.{opened_progress, filled_channel}
use Rattle.base.proofs.Lemmas.Lists.Indexed.{indexed_get}
use Rattle.net_core.proofs.Openings.{open_first}
use Rattle.net_core.proofs.Confluence.{eqb-same}
use Rattle.net_core.proofs.Flows.{eqb-itself}

-- the parts of a proc of a run
pub record IsZipped (heads : List ProcHead) (bs : List Behavior) (p : ℕ) (proc : Proc) : Type 0 where
  pub head : ProcHead
  pub head_is : slice_get heads p ≡ Some head
  pub behavior_is : slice_get bs p ≡ Some proc.behavior
  pub opening : proc.opening ≡ head.init

pub zipped : (heads : List ProcHead) (bs : List Behavior) (p : ℕ) (proc : Proc) → slice_get (procs_of heads bs) p ≡ Some proc → IsZipped heads bs p proc
zipped [] bs p proc e = cc
zipped (h ∷ heads) [] p proc e = cc
zipped (h ∷ heads) (b ∷ bs) zero proc e =
    let same : record { opening = h.init; behavior = b } ≡ proc = cc in
    record { head = h; head_is = refl; behavior_is = ap (λ (x : Proc). Some x.behavior) same; opening = sym (ap (λ (x : Proc). x.opening) same) }
zipped (h ∷ heads) (b ∷ bs) (suc p) proc e =
    let r = zipped heads bs p proc e in
    record { head = r.head; head_is = r.head_is; behavior_is = r.behavior_is; opening = r.opening }

pub length-procs_of : (heads : List ProcHead) (bs : List Behavior) → length (procs_of heads bs) ≤ length heads
length-procs_of [] bs = omega arith
length-procs_of (h ∷ heads) [] = omega arith
length-procs_of (h ∷ heads) (b ∷ bs) = omega (arith, length-procs_of heads bs)

get_within : {A : Type 0} (xs : List A) (i : ℕ) → i < length xs → (x : A) × (slice_get xs i ≡ Some x)
get_within [] i l = absurd (omega (arith, l))
get_within (x ∷ xs) zero l = (x, refl)
get_within (x ∷ xs) (suc i) l = get_within xs i (omega (arith, l))

or_true : (a b : Bool) → a || b ≡ true → (a ≡ true) ⊎ (b ≡ true)
or_true true b h = inl refl
or_true false b h = inr h

-- a test that some element passes
any_there : {A : Type 0} (test : A → Bool) (xs : List A) (i : ℕ) (x : A) → slice_get xs i ≡ Some x → test x ≡ true → list_any test xs ≡ true
any_there test [] i x e h = cc
any_there test (y ∷ ys) zero x e h =
    let same : y ≡ x = cc in
    ap (λ t. t || list_any test ys) (ap test same ∙ h)
any_there test (y ∷ ys) (suc i) x e h = ap (λ t. test y || t) (any_there test ys i x e h) ∙ or_right (test y)
  where
    or_right : (b : Bool) → b || true ≡ true
    or_right true = refl
    or_right false = refl

some_there : {A : Type 0} (test : A → Bool) (xs : List A) → list_any test xs ≡ true → (i : ℕ) × (x : A) × (slice_get xs i ≡ Some x) × (test x ≡ true)
some_there test [] h = cc
some_there test (y ∷ ys) h = go (or_true (test y) (list_any test ys) h) (λ t. some_there test ys t)
  where
    go : (test y ≡ true) ⊎ (list_any test ys ≡ true) → (list_any test ys ≡ true → (i : ℕ) × (x : _) × (slice_get ys i ≡ Some x) × (test x ≡ true)) → (i : ℕ) × (x : _) × (slice_get (y ∷ ys) i ≡ Some x) × (test x ≡ true)
    go (inl t) ih = (0, y, refl, t)
    go (inr t) ih = let r = ih t in (suc r.0, r.1, r.2, r.3)

-- the first place that passes a test that passes at one place alone
place_there : {A : Type 0} (test : A → Bool) (xs : List A) (p : ℕ) (x : A) → slice_get xs p ≡ Some x → test x ≡ true
    → ((q : ℕ) (y : A) → slice_get xs q ≡ Some y → test y ≡ true → q ≡ p) → index_of test xs ≡ p
place_there test [] p x e h only = cc
place_there test (y ∷ ys) zero x e h only =
    let same : y ≡ x = cc in
    ap (λ (b : Bool). cond b 0 (suc (index_of test ys))) (ap test same ∙ h)
place_there test (y ∷ ys) (suc p) x e h only =
    go (test y) refl (place_there test ys p x e h (λ q z f t. let g = only (suc q) z f t in omega (arith, g)))
  where
    go : (b : Bool) → test y ≡ b → index_of test ys ≡ p → cond b 0 (suc (index_of test ys)) ≡ suc p
    go true t ih = let wrong = only 0 y refl t in absurd (omega (arith, wrong))
    go false t ih = ap suc ih

and_both : (a b : Bool) → a && b ≡ true → (a ≡ true) × (b ≡ true)
and_both true b h = (refl, h)
and_both false b h = cc

and_made : (a b : Bool) → a ≡ true → b ≡ true → a && b ≡ true
and_made a b h k = ap (λ t. t && b) h ∙ k

not_true : (a : Bool) → not a ≡ true → a ≡ false
not_true true h = cc
not_true false h = refl

not_false : (a : Bool) → a ≡ false → not a ≡ true
not_false a h = ap not h

module _ (net : Net) (well : IsNet net) (bs : List Behavior) (fit : AreBehaviorsOf net bs) (keep : EachKeepsTypes bs) (inputs : List (List Word)) (given : IsInputs net inputs)
    (n : ℕ) (small : n < 2 ^ 32) (depths : List ℕ) where
  behavior_fits : (p : ℕ) (proc : Proc) (z : IsZipped net.procs bs p proc) → IsBehaviorFor net z.head proc.behavior
  behavior_fits p proc z = fit.each p z.head proc.behavior z.head_is z.behavior_is

  -- the site of a behavior is the network's
  site_of : (p i : ℕ) (proc : Proc) (site : Site) → slice_get (procs_of net.procs bs) p ≡ Some proc → slice_get proc.behavior.sites i ≡ Some site → IsSiteOf net p i site
  site_of p i proc site e f =
      let z = zipped net.procs bs p proc e in
      record { head = z.head; proc = z.head_is; place = ap (λ ss. slice_get ss i) (sym (behavior_fits p proc z).sites) ∙ f }

  is_sender : (p i : ℕ) (proc : Proc) (site : Site) → slice_get (procs_of net.procs bs) p ≡ Some proc → slice_get proc.behavior.sites i ≡ Some site
      → site.sends ≡ true → sender (run_of net bs inputs n depths) site.chan ≡ p
  is_sender p i proc site e f s =
      place_there (sends_on site.chan) (procs_of net.procs bs) p proc e
      (any_there (λ (x : Site). x.sends && eqb x.chan site.chan) proc.behavior.sites i site f (and_made site.sends (eqb site.chan site.chan) s (eqb-itself site.chan site.chan refl)))
      (λ q other g t.
      let found = some_there (λ (x : Site). x.sends && eqb x.chan site.chan) other.behavior.sites t in
      let both = and_both _ _ found.3 in
      well.one_proc q p found.0 i found.1 site (site_of q found.0 other found.1 g found.2) (site_of p i proc site e f) (eqb-same found.1.chan site.chan both.1) (both.0 ∙ sym s))

  is_receiver : (p i : ℕ) (proc : Proc) (site : Site) → slice_get (procs_of net.procs bs) p ≡ Some proc → slice_get proc.behavior.sites i ≡ Some site
      → site.sends ≡ false → receiver (run_of net bs inputs n depths) site.chan ≡ p
  is_receiver p i proc site e f s =
      place_there (receives_on site.chan) (procs_of net.procs bs) p proc e
      (any_there (λ (x : Site). not x.sends && eqb x.chan site.chan) proc.behavior.sites i site f (and_made (not site.sends) (eqb site.chan site.chan) (not_false site.sends s) (eqb-itself site.chan site.chan refl)))
      (λ q other g t.
      let found = some_there (λ (x : Site). not x.sends && eqb x.chan site.chan) other.behavior.sites t in
      let both = and_both _ _ found.3 in
      well.one_proc q p found.0 i found.1 site (site_of q found.0 other found.1 g found.2) (site_of p i proc site e f) (eqb-same found.1.chan site.chan both.1) (not_true found.1.sends both.0 ∙ sym s))

  pub run_fits : IsRun (run_of net bs inputs n depths)
  run_fits = record {
    activations = small;
    few_procs = omega (arith, length-procs_of net.procs bs, well.few_procs);
    few_sites = λ p proc e.
        let z = zipped net.procs bs p proc e in
        omega (arith, well.few_sites p z.head z.head_is, ap length (behavior_fits p proc z).sites);
    keeps_types = λ p proc e. keep p proc.behavior (zipped net.procs bs p proc e).behavior_is;
    sites = λ p i proc site at.
        let z = zipped net.procs bs p proc at.proc_is in
        let in_net = site_of p i proc site at.proc_is at.place in
        let chan = get_within net.chans site.chan (well.site p i site in_net) in
        record {
          chan = chan.0;
          chan_is = chan.1;
          width = (behavior_fits p proc z).widths i site chan.0 (ap (λ ss. slice_get ss i) (sym (behavior_fits p proc z).sites) ∙ at.place) chan.1;
          sends = λ s. is_sender p i proc site at.proc_is at.place s;
          no_send = λ s. well.no_send p i site chan.0 in_net s chan.1;
          receives = λ s. is_receiver p i proc site at.proc_is at.place s;
          no_receive = λ s. well.no_receive p i site chan.0 in_net s chan.1;
        };
  }

  pub opening_typed : (p : ℕ) (proc : Proc) → slice_get (procs_of net.procs bs) p ≡ Some proc → IsOfType proc.behavior.state proc.opening
  opening_typed p proc e =
      let z = zipped net.procs bs p proc e in
      let b = behavior_fits p proc z in
      subst (λ v. IsOfType proc.behavior.state v) (sym z.opening) (subst (λ t. IsOfType t z.head.init) (sym b.state) (well.opening p z.head z.head_is))

  -- the head of a proc of the run has its type
  pub head_of : (p : ℕ) (proc : Proc) → slice_get (procs_of net.procs bs) p ≡ Some proc → (head : ProcHead) × (slice_get net.procs p ≡ Some head) × (proc.behavior.state ≡ head.state)
  head_of p proc e = let z = zipped net.procs bs p proc e in (z.head, z.head_is, (behavior_fits p proc z).state)

  start_kind : (kind : Kind) (outside : List Word) → (kind ≢ Input → outside ≡ [])
      → ◌≡◌ {A = List Word} (elim kind as (λ _. List Word) [ Input ↦ outside | Output ↦ [] | Inner ↦ [] ]) outside
  start_kind Input outside h = refl
  start_kind Output outside h = sym (h (λ e. let k = e in cc))
  start_kind Inner outside h = sym (h (λ e. let k = e in cc))

  -- before the first event the words of a channel are those that the outside sends
  start_words : (c : ℕ) (chan : Chan) → slice_get net.chans c ≡ Some chan → words_at (run_of net bs inputs n depths) empty_cut c ≡ get_or inputs c []
  unfolding words_at words_by words_sent
  start_words c chan e =
      ap (λ o. words_by (run_of net bs inputs n depths) empty_cut c o) e ∙ start_kind chan.kind (get_or inputs c []) (λ h. given.only c chan e h)

  start_received : (c : ℕ) → received_at (run_of net bs inputs n depths) empty_cut c ≡ 0
  unfolding received_at count_received
  start_received c = refl

  start_procs : (heads : List ProcHead) (cs : List Behavior) (p : ℕ) → length cs ≡ length heads
      → ((q : ℕ) (head : ProcHead) (b : Behavior) → slice_get heads q ≡ Some head → slice_get cs q ≡ Some b → b.sites ≡ head.sites)
      → slice_get (map opened_progress heads) p ≡ option_map (λ proc. progress_at proc (opened proc)) (slice_get (procs_of heads cs) p)
  start_procs [] cs p l same = refl
  start_procs (h ∷ heads) [] p l same = absurd (omega (arith, l))
  start_procs (h ∷ heads) (b ∷ cs) zero l same =
      let e = same 0 h b refl refl in
      ap (λ ss. Some (record { sites = ss; state = h.init; got = []; done = 0; ends = 0 })) (sym e)
  start_procs (h ∷ heads) (b ∷ cs) (suc p) l same = start_procs heads cs p (omega (arith, l)) (λ q head c e f. same (suc q) head c e f)

  start_position : (p : ℕ) (o : Option Proc) → option_map (λ proc. progress_at proc (opened proc)) o ≡ option_map (progress_of (run_of net bs inputs n depths) empty_cut p) o
  unfolding position_after
  start_position p None = refl
  start_position p (Some proc) = refl

  start_stands : (p : ℕ) (proc : Proc) → IsOpen proc.behavior proc.opening [] 0
      → let at = position_in (run_of net bs inputs n depths) empty_cut p proc in IsOpen proc.behavior at.state at.got at.done
  unfolding position_after
  start_stands p proc o = o

  start_channel : (c : ℕ) (o : Option Chan) → slice_get net.chans c ≡ o → option_map (filled_channel inputs depths c) o ≡ option_map (channel_of (run_of net bs inputs n depths) empty_cut c) o
  start_channel c None e = refl
  start_channel c (Some chan) e =
      ap (λ ws. Some (record { kind = chan.kind; depth = get_or depths c 0; words = ws; received = 0 })) (sym (start_words c chan e))
      ∙ ap (λ r. Some (record { kind = chan.kind; depth = get_or depths c 0; words = words_at (run_of net bs inputs n depths) empty_cut c; received = r })) (sym (start_received c))

  -- a configuration with these parts shows the empty cut
  pub start_shows : (config : Config) → config.procs.items ≡ map opened_progress net.procs → config.channels.items ≡ indexed (filled_channel inputs depths) 0 net.chans → config.activations ≡ n
      → Shows (run_of net bs inputs n depths) empty_cut config
  start_shows config procs channels activations =
      record {
        run_fits = run_fits;
        activations = activations;
        procs = λ p.
            ap (λ ps. slice_get ps p) procs
            ∙ (start_procs net.procs bs p fit.count (λ q head b e f. (fit.each q head b e f).sites)
            ∙ start_position p (slice_get (procs_of net.procs bs) p));
        channels = λ c.
            ap (λ cs. slice_get cs c) channels
            ∙ (indexed_get (filled_channel inputs depths) 0 c c net.chans (omega arith) ∙ start_channel c (slice_get net.chans c) refl);
        consistent = λ p. tt;
        below = λ p. tt;
        stands = λ p proc e.
            start_stands p proc (open_first proc.behavior proc.opening (opening_typed p proc e));
        received = λ c. omega (arith, start_received c);
        words = λ c chan e. subst (λ ws. AreWordsOf (width_of chan.ty) ws) (sym (start_words c chan e)) (given.words c chan e);
      }
