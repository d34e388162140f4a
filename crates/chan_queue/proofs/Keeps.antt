-- Each step keeps the rule of a channel.
use Rattle.std.proofs.Common.{◌≡◌, ◌≢◌, ℕ, zero, suc, ◌+◌, ◌≤◌, true, false, true≢false, Bool, List, [], ◌∷◌, ◌++◌, length, set, sym, refl, ap, ◌∙◌, subst, ⊎_elim, arith, Some, inl, inr}
use Rattle.std.specs.Prelude.{slice_get}
use mathlib.Core.Option.{some, some-ne-none}
use lib.ListN.{get_elem?}
use Rattle.std.proofs.lemmas.Option.{slice_get_within}
use Rattle.crossbeam_queue.specs.Fifo.{Pushes, Pops, Forks, Merges, Learns}
use Rattle.crossbeam_queue.proofs.Lists.{at_set, at_snoc}
use Rattle.xb_bits.specs.Word.{Word}
use Rattle.chan_queue.specs.Stream.{Stream}
use Rattle.chan_queue.specs.declared.view.View.{View}
use Rattle.chan_queue.specs.declared.item.Item.{Item}
use Rattle.chan_queue.specs.declared.item.Item.TheVariants as item
use Rattle.chan_queue.specs.Channel.{ChannelState, KnowsSending, KnowsReceiving, IsOpening, Lies, IsChannel, unopened, opened, sending, receiving, both, spent, between, MaySend, MayReceive, IsTold}
use Rattle.chan_queue.specs.Steps.{IsItemOf, Sends}
use Rattle.chan_queue.proofs.Lies.{none_lie, count_lies, lies_sent, IsFirst, first_lies}

at_end : (l : List View) (a b : View) (j : ℕ) → get_elem? l j ≢ some b → get_elem? (l ++ a ∷ []) j ≡ some b → j ≡ length l
at_end [] a b zero n e = refl
at_end [] a b (suc j) n e = absurd (some-ne-none b (sym e))
at_end (x ∷ xs) a b zero n e = absurd (n e)
at_end (x ∷ xs) a b (suc j) n e = ap suc (at_end xs a b j n e)

abbrev All : (ℕ → View → Type 0) → List View → Type 0
All F views = (pass : ℕ) (v : View) → get_elem? views pass ≡ some v → F pass v

all_set : (F : ℕ → View → Type 0) (views : List View) (pass : ℕ) (w : View) → F pass w → ((j : ℕ) (u : View) → j ≢ pass → get_elem? views j ≡ some u → F j u) → All F (set views pass w)
all_set F views pass w mine others j u e = ⊎_elim (λ (x : (j ≡ pass) × (w ≡ u)). subst (λ (y : ℕ × View). F y.0 y.1) (λ i. (sym x.0 i, x.1 i)) mine)
    (λ (x : (j ≢ pass) × (get_elem? views j ≡ some u)). others j u x.0 x.1) (at_set views pass j w u e)

all_one : (F : ℕ → View → Type 0) (a : View) → F 0 a → All F (a ∷ [])
all_one F a mine = all_set F (a ∷ []) 0 a mine (λ j u other e. absurd (other (at_end [] _ u j (λ x. some-ne-none u (sym x)) e)))

abbrev Sender : ChannelState → ℕ → View → Type 0
Sender at pass v = v.sends ≡ true → KnowsSending at pass v

abbrev Receiver : ChannelState → ℕ → View → Type 0
Receiver at pass v = v.receives ≡ true → KnowsReceiving at pass v

module _ {S : Type 0} where
  pub begins : IsChannel {S = S} [] (unopened ∷ [])
  begins =
      let at : ChannelState = record { words = []; limit = 0; depth = 0; opens = false; sent = 0; received = 0; sender = 0; receiver = 0 } in
      record {
        at = at;
        lies = refl;
        received = omega arith;
        sent = omega arith;
        limit = omega arith;
        room = omega arith;
        sender = all_one (Sender at) unopened (λ _. record { only = refl; opens = refl; words = refl; limit = refl; depth = refl; sent = refl; told = omega arith });
        receiver = all_one (Receiver at) unopened (λ _. record { only = refl; opens = refl; words = refl; limit = refl; depth = refl; received = refl; told = omega arith });
      }

  lies_words : (b : Bool) (words : List Word) (received sent : ℕ) (items : List (Item S)) → b ≡ false → Lies b words received sent items → items ≡ between words received sent
  lies_words true words received sent items e l = absurd (true≢false e)
  lies_words false words received sent items e l = l

  words_lie : (b : Bool) (words : List Word) (received sent : ℕ) (items : List (Item S)) → b ≡ false → items ≡ between words received sent → Lies b words received sent items
  words_lie true words received sent items e l = absurd (true≢false e)
  words_lie false words received sent items e l = l

  lies_opening : (b : Bool) (words : List Word) (received sent : ℕ) (items : List (Item S)) → b ≡ true → Lies b words received sent items → Lies true words received sent items
  lies_opening true words received sent items e l = l
  lies_opening false words received sent items e l = absurd (true≢false (sym e))

  -- no other pass may send, or receive
  one_sender : (items : List (Item S)) (views : List View) (h : IsChannel items views) (pass : ℕ) (v : View) → get_elem? views pass ≡ some v → v.sends ≡ true
      → (j : ℕ) (u : View) → j ≢ pass → get_elem? views j ≡ some u → u.sends ≡ true → ⊥
  one_sender items views h pass v at s j u other e t = other ((h.sender j u e t).only ∙ sym (h.sender pass v at s).only)

  one_receiver : (items : List (Item S)) (views : List View) (h : IsChannel items views) (pass : ℕ) (v : View) → get_elem? views pass ≡ some v → v.receives ≡ true
      → (j : ℕ) (u : View) → j ≢ pass → get_elem? views j ≡ some u → u.receives ≡ true → ⊥
  one_receiver items views h pass v at s j u other e t = other ((h.receiver j u e t).only ∙ sym (h.receiver pass v at s).only)

  -- the opening is put into an empty queue
  pub opens : (n pass : ℕ) (v : View) (x : Item S) (stream : Stream) (depth : ℕ) → v ≡ unopened → IsOpening x → Pushes IsChannel n pass v x (λ w. w ≡ opened stream depth)
  opens n pass v x stream depth fresh is items views _ h at =
      let sends : v.sends ≡ true = ap (λ (u : View). u.sends) fresh in
      let receives : v.receives ≡ true = ap (λ (u : View). u.receives) fresh in
      let mine = h.sender pass v at sends in
      let shut : h.at.opens ≡ false = sym mine.opens ∙ ap (λ (u : View). u.opens) fresh in
      let none : h.at.sent ≡ 0 = sym mine.sent ∙ ap (λ (u : View). u.sent) fresh in
      let empty = lies_words h.at.opens h.at.words h.at.received h.at.sent items shut h.lies ∙ none_lie S h.at.words h.at.received h.at.sent none in
      let now : ChannelState = record { words = stream.words; limit = stream.received; depth = depth; opens = true; sent = 0; received = 0; sender = pass; receiver = pass } in
      let w : View = opened stream depth in (
        w,
        record {
          at = now;
          lies = (x, ap (λ (xs : List (Item S)). xs ++ x ∷ []) empty, is, refl, refl);
          received = omega arith;
          sent = omega arith;
          limit = omega arith;
          room = omega arith;
          sender = all_set (Sender now) views pass w (λ _. record { only = refl; opens = refl; words = refl; limit = refl; depth = refl; sent = refl; told = omega arith })
              (λ j u other e t. absurd (one_sender items views h pass v at sends j u other e t));
          receiver = all_set (Receiver now) views pass w (λ _. record { only = refl; opens = refl; words = refl; limit = refl; depth = refl; received = refl; told = omega arith })
              (λ j u other e t. absurd (one_receiver items views h pass v at receives j u other e t));
        },
        refl,
      )

  -- before that it holds nothing
  pub nothing_yet : (pass : ℕ) (v : View) → v ≡ unopened → Learns IsChannel pass v (λ (items : List (Item S)). length items ≡ 0)
  nothing_yet pass v fresh items views h at =
      let mine = h.sender pass v at (ap (λ (u : View). u.sends) fresh) in
      let shut : h.at.opens ≡ false = sym mine.opens ∙ ap (λ (u : View). u.opens) fresh in
      let none : h.at.sent ≡ 0 = sym mine.sent ∙ ap (λ (u : View). u.sent) fresh in
      ap length (lies_words h.at.opens h.at.words h.at.received h.at.sent items shut h.lies ∙ none_lie S h.at.words h.at.received h.at.sent none)

  -- the opening is taken out again
  pub takes : (pass : ℕ) (v : View) → v.opens ≡ true → v.sends ≡ true → v.receives ≡ true → Pops (IsChannel {S = S}) pass v (λ x w. w ≡ record v { opens = false })
  takes pass v open_now sends receives x items views h at =
      let mine = h.sender pass v at sends in
      let theirs = h.receiver pass v at receives in
      let here = lies_opening h.at.opens h.at.words h.at.received h.at.sent (x ∷ items) (sym mine.opens ∙ open_now) h.lies in
      let empty : items ≡ [] = (let e = here.1 in cc) in
      let now : ChannelState = record h.at { opens = false } in
      let w : View = record v { opens = false } in (
        w,
        record {
          at = now;
          lies = empty ∙ sym (none_lie S h.at.words h.at.received h.at.sent here.3);
          received = h.received;
          sent = h.sent;
          limit = h.limit;
          room = h.room;
          sender = all_set (Sender now) views pass w (λ _. record { only = mine.only; opens = refl; words = mine.words; limit = mine.limit; depth = mine.depth; sent = mine.sent; told = mine.told })
              (λ j u other e t. absurd (one_sender (x ∷ items) views h pass v at sends j u other e t));
          receiver = all_set (Receiver now) views pass w (λ _. record { only = theirs.only; opens = refl; words = theirs.words; limit = theirs.limit; depth = theirs.depth; received = theirs.received; told = theirs.told })
              (λ j u other e t. absurd (one_receiver (x ∷ items) views h pass v at receives j u other e t));
        },
        refl,
      )

  -- the queue holds the opening
  pub one_opening : (pass : ℕ) (v : View) → v.opens ≡ true → v.sends ≡ true → Learns IsChannel pass v (λ (items : List (Item S)). length items ≡ 1)
  one_opening pass v open_now sends items views h at =
      let mine = h.sender pass v at sends in
      let here = lies_opening h.at.opens h.at.words h.at.received h.at.sent items (sym mine.opens ∙ open_now) h.lies in
      ap length here.1

  -- a word lands
  pub sends_word : (n pass : ℕ) (v : View) (word : Word) → v.sends ≡ true → v.opens ≡ false → v.depth ≡ n → MaySend v word
      → Pushes (IsChannel {S = S}) n pass v (item.Word word) (Sends {S = S} v (item.Word word))
  sends_word n pass v word sends shut depth may items views room h at =
      let mine = h.sender pass v at sends in
      let here = lies_words h.at.opens h.at.words h.at.received h.at.sent items (sym mine.opens ∙ shut) h.lies in
      let count = ap length here in
      let all = count_lies S h.at.words h.at.received h.at.sent h.received h.sent in
      go here count all may
    where
      go : items ≡ between h.at.words h.at.received h.at.sent → length items ≡ length (between {S = S} h.at.words h.at.received h.at.sent)
          → h.at.received + length (between {S = S} h.at.words h.at.received h.at.sent) ≡ h.at.sent
          → MaySend v word → (w : View) × IsChannel (items ++ item.Word word ∷ []) (set views pass w) × Sends {S = S} v (item.Word word) w
      go here count all (inr full) =
          let mine = h.sender pass v at sends in
          absurd (omega (arith, room, count, all, full.1, mine.sent, mine.limit, mine.depth, h.limit, depth))
      go here count all (inl next) =
          let mine = h.sender pass v at sends in
          let there : slice_get h.at.words h.at.sent ≡ Some word = ap (λ ws. slice_get ws h.at.sent) (sym mine.words) ∙ (ap (λ k. slice_get v.words k) (sym mine.sent) ∙ next) in
          let now : ChannelState = record h.at { sent = suc h.at.sent } in
          let w : View = record v { sent = suc v.sent } in
          let lies = ap (λ (xs : List (Item S)). xs ++ item.Word word ∷ []) here ∙ sym (lies_sent S h.at.words h.at.received h.at.sent word h.received there) in (
            w,
            record {
              at = now;
              lies = words_lie h.at.opens h.at.words h.at.received (suc h.at.sent) (items ++ item.Word word ∷ []) (sym mine.opens ∙ shut) lies;
              received = omega (arith, h.received);
              sent = omega (arith, slice_get_within h.at.words h.at.sent word there);
              limit = h.limit;
              room = omega (arith, room, count, all, mine.depth, depth);
              sender = all_set (Sender now) views pass w (λ _. record { only = mine.only; opens = mine.opens; words = mine.words; limit = mine.limit; depth = mine.depth; sent = ap suc mine.sent; told = mine.told })
                  (λ j u other e t. absurd (one_sender items views h pass v at sends j u other e t));
              receiver = all_set (Receiver now) views pass w (λ t. let r = h.receiver pass v at t in record { only = r.only; opens = r.opens; words = r.words; limit = r.limit; depth = r.depth; received = r.received; told = omega (arith, r.told) })
                  (λ j u other e t. let r = h.receiver j u e t in record { only = r.only; opens = r.opens; words = r.words; limit = r.limit; depth = r.depth; received = r.received; told = omega (arith, r.told) });
            },
            (refl, (word, refl, next)),
          )

  -- where a word finds no room, the queue holds as many as its depth
  pub no_room : (pass : ℕ) (v : View) → v.sends ≡ true → v.opens ≡ false
      → Learns IsChannel pass v (λ (items : List (Item S)). v.told_received + length items ≤ v.sent)
  no_room pass v sends shut items views h at =
      let mine = h.sender pass v at sends in
      let here = lies_words h.at.opens h.at.words h.at.received h.at.sent items (sym mine.opens ∙ shut) h.lies in
      let all = count_lies S h.at.words h.at.received h.at.sent h.received h.sent in
      omega (arith, mine.told, mine.sent, ap length here, all)

  -- a word is received
  pub receives_word : (pass : ℕ) (v : View) → v.receives ≡ true → v.opens ≡ false → MayReceive v
      → Pops IsChannel pass v (λ (x : Item S) w. (w ≡ record v { received = suc v.received }) × ((word : Word) × IsItemOf x word × (slice_get v.words v.received ≡ Some word)))
  receives_word pass v receives shut may x items views h at = go may
    where
      first : IsFirst S h.at.words h.at.received h.at.sent x items
      first =
          let mine = h.receiver pass v at receives in
          first_lies S h.at.words h.at.received h.at.sent x items (lies_words h.at.opens h.at.words h.at.received h.at.sent (x ∷ items) (sym mine.opens ∙ shut) h.lies)

      go : MayReceive v → (w : View) × IsChannel items (set views pass w) × ((w ≡ record v { received = suc v.received }) × ((word : Word) × IsItemOf x word × (slice_get v.words v.received ≡ Some word)))
      go (inr all) =
          let mine = h.receiver pass v at receives in
          absurd (omega (arith, first.within, all.0, all.1, mine.received, mine.limit, ap length mine.words, h.sent))
      go (inl more) =
          let mine = h.receiver pass v at receives in
          let now : ChannelState = record h.at { received = suc h.at.received } in
          let w : View = record v { received = suc v.received } in (
            w,
            record {
              at = now;
              lies = words_lie h.at.opens h.at.words (suc h.at.received) h.at.sent items (sym mine.opens ∙ shut) first.rest;
              received = omega (arith, first.within);
              sent = h.sent;
              limit = omega (arith, more, mine.received, mine.limit);
              room = omega (arith, h.room);
              sender = all_set (Sender now) views pass w (λ t. let s = h.sender pass v at t in record { only = s.only; opens = s.opens; words = s.words; limit = s.limit; depth = s.depth; sent = s.sent; told = omega (arith, s.told) })
                  (λ j u other e t. let s = h.sender j u e t in record { only = s.only; opens = s.opens; words = s.words; limit = s.limit; depth = s.depth; sent = s.sent; told = omega (arith, s.told) });
              receiver = all_set (Receiver now) views pass w (λ _. record { only = mine.only; opens = mine.opens; words = mine.words; limit = mine.limit; depth = mine.depth; received = ap suc mine.received; told = mine.told })
                  (λ j u other e t. absurd (one_receiver (x ∷ items) views h pass v at receives j u other e t));
            },
            (refl, (first.word, subst (λ (y : Item S). IsItemOf y first.word) (sym first.is) refl, ap (λ ws. slice_get ws v.received) mine.words ∙ (ap (λ k. slice_get h.at.words k) mine.received ∙ first.there))),
          )

  -- where no word is found, all that the receiver was told of was received
  pub no_word : (pass : ℕ) (v : View) → v.receives ≡ true → v.opens ≡ false
      → Learns IsChannel pass v (λ (items : List (Item S)). v.told_sent ≤ v.received + length items)
  no_word pass v receives shut items views h at =
      let mine = h.receiver pass v at receives in
      let here = lies_words h.at.opens h.at.words h.at.received h.at.sent items (sym mine.opens ∙ shut) h.lies in
      let all = count_lies S h.at.words h.at.received h.at.sent h.received h.sent in
      omega (arith, mine.told, mine.received, ap length here, all)

  -- the two ends of a channel go to different hands
  pub parts : (pass : ℕ) (v : View) → v.sends ≡ true → v.receives ≡ true → Forks (IsChannel {S = S}) pass v (sending v) (receiving v)
  parts pass v sends receives items views h at =
      let mine = h.sender pass v at sends in
      let theirs = h.receiver pass v at receives in
      let left : View = sending v in
      let right : View = receiving v in
      let vs : List View = set views pass left in
      let now : ChannelState = record h.at { receiver = length vs } in
      let NoReceiver : ℕ → View → Type 0 = λ j u. u.receives ≢ true in
      let none : All NoReceiver vs = all_set NoReceiver views pass left (λ p. true≢false (sym p)) (λ j u other e t. one_receiver items views h pass v at receives j u other e t) in
      let old : All (Sender now) vs = all_set (Sender now) views pass left (λ _. record { only = mine.only; opens = mine.opens; words = mine.words; limit = mine.limit; depth = mine.depth; sent = mine.sent; told = omega (arith, theirs.received) })
      (λ j u other e t. let s = h.sender j u e t in record { only = s.only; opens = s.opens; words = s.words; limit = s.limit; depth = s.depth; sent = s.sent; told = s.told }) in
      record {
        at = now;
        lies = h.lies;
        received = h.received;
        sent = h.sent;
        limit = h.limit;
        room = h.room;
        sender = λ j u e t. ⊎_elim (λ x. old j u x t) (λ (is : right ≡ u). absurd (true≢false (sym (ap (λ (y : View). y.sends) is ∙ t)))) (at_snoc vs right u j e);
        receiver = λ j u e t. ⊎_elim (λ x. absurd (none j u x t))
            (λ (is : right ≡ u). subst (λ (y : View). KnowsReceiving now j y) is
            (record { only = at_end vs right u j (λ x. none j u x t) e; opens = theirs.opens; words = theirs.words; limit = theirs.limit; depth = theirs.depth; received = theirs.received; told = omega (arith, mine.sent) }))
            (at_snoc vs right u j e);
      }

  -- and come together again
  pub joins : (pass : ℕ) (v : View) (other : ℕ) (u : View) → v.sends ≡ true → u.receives ≡ true → Merges (IsChannel {S = S}) pass v other u (both v u) spent
  joins pass v other u sends receives items views h at two at' =
      let mine = h.sender pass v at sends in
      let vs : List View = set views pass (both v u) in
      let was : get_elem? views other ≡ some u = ⊎_elim (λ x. absurd (two x.0)) (λ x. x.1) (at_set views pass other (both v u) u at') in
      let theirs = h.receiver other u was receives in
      let now : ChannelState = record h.at { receiver = pass } in
      let Send : ℕ → View → Type 0 = λ j y. j ≢ other → Sender now j y in
      let Receive : ℕ → View → Type 0 = λ j y. j ≢ other → Receiver now j y in
      let senders : All Send vs = all_set Send views pass (both v u) (λ _ _. record { only = mine.only; opens = mine.opens; words = mine.words; limit = mine.limit; depth = mine.depth; sent = mine.sent; told = mine.told })
      (λ j y _ e apart t. let s = h.sender j y e t in record { only = s.only; opens = s.opens; words = s.words; limit = s.limit; depth = s.depth; sent = s.sent; told = s.told }) in
      let receivers : All Receive vs = all_set Receive views pass (both v u) (λ _ _. record { only = refl; opens = mine.opens; words = mine.words; limit = mine.limit; depth = mine.depth; received = theirs.received; told = theirs.told })
      (λ j y _ e apart t. absurd (one_receiver items views h other u was receives j y apart e t)) in
      record {
        at = now;
        lies = h.lies;
        received = h.received;
        sent = h.sent;
        limit = h.limit;
        room = h.room;
        sender = all_set (Sender now) vs other spent (λ t. absurd (true≢false (sym t))) (λ j y apart e. senders j y e apart);
        receiver = all_set (Receiver now) vs other spent (λ t. absurd (true≢false (sym t))) (λ j y apart e. receivers j y e apart);
      }

  -- what both know together
  pub told : (pass : ℕ) (v : View) → v.sends ≡ true → v.receives ≡ true → Learns (IsChannel {S = S}) pass v (λ items. IsTold v)
  told pass v sends receives items views h at =
      let mine = h.sender pass v at sends in
      let theirs = h.receiver pass v at receives in
      record {
        received = omega (arith, h.received, mine.sent, theirs.received);
        sent = omega (arith, h.sent, mine.sent, ap length mine.words);
        limit = omega (arith, h.limit, theirs.received, theirs.limit);
        room = omega (arith, h.room, mine.sent, theirs.received, mine.depth);
      }
