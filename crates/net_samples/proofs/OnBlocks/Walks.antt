-- What is driven, and walks.
use Rattle.std.proofs.Common.{◌≡◌, ℕ, zero, suc, ◌+◌, List, [], ◌∷◌, ◌++◌, refl, sym, ap, ◌∙◌, arith, cond, true, false, Bool, eqb, Option, Some, None, set}
use Rattle.std.specs.Prelude.{◌||◌, not, ◌==◌}
use Rattle.std.proofs.lemmas.List.{length-set}
use Rattle.xb_bits.specs.Word.{Word}
use Rattle.net_core.specs.declared.net.Site.{Site}
use Rattle.net_core.specs.declared.event.Event.{Event}
use Rattle.net_core.specs.declared.event.Event.TheVariants.{Recv, Send}
use Rattle.net_core.specs.Behavior.{chan_at}
use Rattle.net_core.specs.Cuts.{words_sent, count_received}
use Rattle.block_stage.specs.Machine.Cycle as cycle
use Rattle.block_stage.specs.Machine.Cycle.{Circuit, Takes, Gives, stopped, behind_transfer, follow, walk_by, is_at, asserted_by}
use Rattle.block_stage.proofs.Lemmas.Machine.{words_sent-append, count_received-append}
use Rattle.net_samples.specs.declared.blocks.machine.Asserted.{Asserted}
use Rattle.net_samples.specs.declared.blocks.machine.Walk.{Walk}
use Rattle.net_samples.specs.declared.blocks.sample.StageEntry.{StageEntry}
use Rattle.net_samples.specs.Blocks.Samples.{last_word}
use Rattle.net_samples.specs.Blocks.Shows.{ShowsAsserted, ShowsWalk, first_of, first_some}
use Rattle.net_samples.proofs.OnBlocks.Tables.{eq_apart, get_set, four}

-- one word more that is asked for, and one more that is valid
some : (n : ℕ) → not (suc n == 0) ≡ true
some n = ap not (eq_apart (suc n) 0 (λ e. omega (arith, e)))

counted : (t : Bool) (n : ℕ) → not (cond t (suc n) n == 0) ≡ cond t true (not (n == 0))
counted true n = some n
counted false n = refl

first_if : (t : Bool) (w : Word) (ws : List Word) → first_of (cond t (w ∷ ws) ws) ≡ cond t (Some w) (first_of ws)
first_if true w ws = refl
first_if false w ws = refl

pub asserts_more : (sites : List Site) (asserted : Asserted) (es : List Event) (i chan : ℕ) → chan ≡ chan_at sites i → ShowsAsserted sites asserted es
    → ShowsAsserted sites (record { ready = set asserted.ready chan true; words = asserted.words }) (Recv i ∷ es)
unfolding words_sent count_received
asserts_more sites asserted es i chan at shows = record {
  ready = λ c l.
      get_set asserted.ready chan c true false (let s = shows.ready_size in omega arith)
      ∙ ap (λ b. cond (eqb chan c) true b) (shows.ready c l)
      ∙ ap (λ k. cond (eqb k c) true (not (count_received sites c es == 0))) at
      ∙ sym (counted (eqb (chan_at sites i) c) (count_received sites c es));
  words = shows.words;
  ready_size = length-set asserted.ready chan true ∙ shows.ready_size;
  words_size = shows.words_size;
}

pub offers_more : (sites : List Site) (asserted : Asserted) (es : List Event) (i chan : ℕ) (w : Word) → chan ≡ chan_at sites i → ShowsAsserted sites asserted es
    → ShowsAsserted sites (record { ready = asserted.ready; words = set asserted.words chan (Some w) }) (Send i w ∷ es)
unfolding words_sent count_received
offers_more sites asserted es i chan w at shows = record {
  ready = shows.ready;
  words = λ c l.
      get_set asserted.words chan c (Some w) None (let s = shows.words_size in omega arith)
      ∙ ap (λ b. cond (eqb chan c) (Some w) b) (shows.words c l)
      ∙ ap (λ k. cond (eqb k c) (Some w) (first_of (words_sent sites c es))) at
      ∙ sym (first_if (eqb (chan_at sites i) c) w (words_sent sites c es));
  ready_size = shows.ready_size;
  words_size = length-set asserted.words chan (Some w) ∙ shows.words_size;
}

pub asserts_nothing : (sites : List Site) → ShowsAsserted sites (record { ready = false ∷ false ∷ false ∷ false ∷ []; words = None ∷ None ∷ None ∷ None ∷ [] }) []
unfolding words_sent count_received
asserts_nothing sites = record {
  ready = λ c l. four (λ j b. b ≡ false) false false false false false refl refl refl refl c l;
  words = λ c l. four (λ (j : ℕ) (b : Option Word). b ≡ None) None None None None None refl refl refl refl c l;
  ready_size = refl;
  words_size = refl;
}

if_or : (t : Bool) (x y : Bool) → cond t true (x || y) ≡ (cond t true x || y)
if_or true x y = refl
if_or false x y = refl

if_some : (t : Bool) (w : Word) (rest : Option Word) → cond t (Some w) rest ≡ first_some (cond t (Some w) None) rest
if_some true w rest = refl
if_some false w rest = refl

-- a walk behind one that goes
pub walk_taken : (sites : List Site) (walk : Walk) (of : cycle.Walk) (i chan : ℕ) (w : Word) → chan ≡ chan_at sites i → ShowsWalk sites walk of
    → ShowsWalk sites
    (record {
      stage_entry = walk.stage_entry;
      went = set walk.went i true;
      took = set walk.took i (Some w);
      stall = walk.stall;
      asserted = record { ready = set walk.asserted.ready chan true; words = walk.asserted.words };
    })
    (behind_transfer (Takes i w) of)
walk_taken sites walk of i chan w at shows = record {
  got = shows.got;
  stall = shows.stall;
  went = λ k l. get_set walk.went i k true false (let s = shows.went_size in omega arith) ∙ ap (λ b. cond (eqb i k) true b) (shows.went k l) ∙ or_is (eqb i k) _;
  took = λ k l. get_set walk.took i k (Some w) None (let s = shows.took_size in omega arith) ∙ ap (λ b. cond (eqb i k) (Some w) b) (shows.took k l);
  went_size = length-set walk.went i true ∙ shows.went_size;
  took_size = length-set walk.took i (Some w) ∙ shows.took_size;
  asserted = asserts_more sites walk.asserted (asserted_by of) i chan at shows.asserted;
}
  where
    or_is : (t x : Bool) → cond t true x ≡ (t || x)
    or_is true x = refl
    or_is false x = refl

pub walk_given : (sites : List Site) (walk : Walk) (of : cycle.Walk) (i chan : ℕ) (w : Word) → chan ≡ chan_at sites i → ShowsWalk sites walk of
    → ShowsWalk sites
    (record {
      stage_entry = walk.stage_entry;
      went = set walk.went i true;
      took = walk.took;
      stall = walk.stall;
      asserted = record { ready = walk.asserted.ready; words = set walk.asserted.words chan (Some w) };
    })
    (behind_transfer (Gives i w) of)
walk_given sites walk of i chan w at shows = record {
  got = shows.got;
  stall = shows.stall;
  went = λ k l. get_set walk.went i k true false (let s = shows.went_size in omega arith) ∙ ap (λ b. cond (eqb i k) true b) (shows.went k l) ∙ or_is (eqb i k) _;
  took = shows.took;
  went_size = length-set walk.went i true ∙ shows.went_size;
  took_size = shows.took_size;
  asserted = offers_more sites walk.asserted (asserted_by of) i chan w at shows.asserted;
}
  where
    or_is : (t x : Bool) → cond t true x ≡ (t || x)
    or_is true x = refl
    or_is false x = refl

pub walk_stopped : (sites : List Site) (stage_entry : StageEntry) (i : ℕ) (got : List Word) → stage_entry.got ≡ last_word got
    → (asserted : Asserted) → ShowsAsserted sites asserted []
    → ShowsWalk sites (record { stage_entry = stage_entry; went = false ∷ false ∷ false ∷ false ∷ []; took = None ∷ None ∷ None ∷ None ∷ []; stall = false; asserted = asserted }) (stopped i got None)
walk_stopped sites stage_entry i got e asserted shows = record {
  got = e;
  stall = refl;
  went = λ k l. four (λ j b. b ≡ false) false false false false false refl refl refl refl k l;
  took = λ k l. four (λ (j : ℕ) (b : Option Word). b ≡ None) None None None None None refl refl refl refl k l;
  went_size = refl;
  took_size = refl;
  asserted = shows;
}

-- one that waits there
pub stalls_for_word : (sites : List Site) (walk : Walk) (i chan : ℕ) (got : List Word) → chan ≡ chan_at sites i → ShowsWalk sites walk (stopped i got None)
    → ShowsWalk sites
    (record { stage_entry = walk.stage_entry; went = walk.went; took = walk.took; stall = true; asserted = record { ready = set walk.asserted.ready chan true; words = walk.asserted.words } })
    (stopped i got (Some (Recv i)))
stalls_for_word sites walk i chan got at shows = record {
  got = shows.got;
  stall = refl;
  went = shows.went;
  took = shows.took;
  went_size = shows.went_size;
  took_size = shows.took_size;
  asserted = asserts_more sites walk.asserted [] i chan at shows.asserted;
}

pub stalls_for_room : (sites : List Site) (walk : Walk) (i chan : ℕ) (got : List Word) (w : Word) → chan ≡ chan_at sites i → ShowsWalk sites walk (stopped i got None)
    → ShowsWalk sites
    (record { stage_entry = walk.stage_entry; went = walk.went; took = walk.took; stall = true; asserted = record { ready = walk.asserted.ready; words = set walk.asserted.words chan (Some w) } })
    (stopped i got (Some (Send i w)))
stalls_for_room sites walk i chan got w at shows = record {
  got = shows.got;
  stall = refl;
  went = shows.went;
  took = shows.took;
  went_size = shows.went_size;
  took_size = shows.took_size;
  asserted = offers_more sites walk.asserted [] i chan w at shows.asserted;
}

none_of : (m n : ℕ) → not (m + n == 0) ≡ (not (m == 0) || not (n == 0))
none_of zero n = ap (λ k. not (k == 0)) (zero_plus n)
  where
    zero_plus : (n : ℕ) → 0 + n ≡ n
    zero_plus n = omega arith
none_of (suc m) n = ap (λ k. not (k == 0)) (on m n) ∙ some (m + n) ∙ sym (ap (λ b. b || not (n == 0)) (some m))
  where
    on : (m n : ℕ) → suc m + n ≡ suc (m + n)
    on m n = omega arith

first_append : (ws vs : List Word) → first_of (ws ++ vs) ≡ first_some (first_of ws) (first_of vs)
first_append [] vs = refl
first_append (w ∷ ws) vs = refl

-- what is asked in one stage and in the others
pub both_ready : (sites : List Site) (c : ℕ) (es fs : List Event) (x y : Bool) → x ≡ not (count_received sites c es == 0) → y ≡ not (count_received sites c fs == 0)
    → (x || y) ≡ not (count_received sites c (es ++ fs) == 0)
both_ready sites c es fs x y e f =
    rw (e, f) (sym (ap (λ k. not (k == 0)) (count_received-append sites c es fs) ∙ none_of (count_received sites c es) (count_received sites c fs)))

pub both_words : (sites : List Site) (c : ℕ) (es fs : List Event) (x y : Option Word) → x ≡ first_of (words_sent sites c es) → y ≡ first_of (words_sent sites c fs)
    → first_some x y ≡ first_of (words_sent sites c (es ++ fs))
both_words sites c es fs x y e f =
    rw (e, f) (sym (ap first_of (words_sent-append sites c es fs) ∙ first_append (words_sent sites c es) (words_sent sites c fs)))
