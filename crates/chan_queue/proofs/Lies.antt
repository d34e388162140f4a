-- What lies in a queue between what was received and what was sent.
use Rattle.std.proofs.Common.{◌≡◌, ℕ, zero, suc, ◌+◌, ◌<◌, ◌≤◌, List, [], ◌∷◌, ◌++◌, length, drop, take, map, refl, ap, ◌∙◌, arith, Some}
use Rattle.std.specs.Prelude.{slice_get}
use Rattle.xb_bits.specs.Word.{Word}
use Rattle.chan_queue.specs.declared.item.Item.{Item}
use Rattle.chan_queue.specs.declared.item.Item.TheVariants as item
use Rattle.chan_queue.specs.Channel.{between}

module _ (S : Type 0) where
  abbrev one : Item S → List (Item S)
  one x = x ∷ []

  pub none_lie : (words : List Word) (received sent : ℕ) → sent ≡ 0 → between {S = S} words received sent ≡ []
  none_lie words received zero e = none received
    where
      none : (r : ℕ) → ◌≡◌ {A = List (Item S)} (map item.Word (drop r [])) []
      none zero = refl
      none (suc r) = refl
  none_lie words received (suc sent) e = absurd (omega (arith, e))

  pub count_lies : (words : List Word) (received sent : ℕ) → received ≤ sent → sent ≤ length words → received + length (between {S = S} words received sent) ≡ sent
  count_lies words received zero l m = omega (arith, l, ap length (none_lie words received zero refl))
  count_lies [] received (suc sent) l m = absurd (omega (arith, m))
  count_lies (w ∷ words) zero (suc sent) l m = omega (arith, count_lies words zero sent (omega arith) (omega (arith, m)), ap length (whole words sent))
    where
      whole : (ws : List Word) (n : ℕ) → between {S = S} ws 0 n ≡ map item.Word (take n ws)
      whole ws n = refl
  count_lies (w ∷ words) (suc received) (suc sent) l m = omega (arith, count_lies words received sent (omega (arith, l)) (omega (arith, m)))

  -- one word more was sent
  pub lies_sent : (words : List Word) (received sent : ℕ) (word : Word) → received ≤ sent → slice_get words sent ≡ Some word
      → between {S = S} words received (suc sent) ≡ between {S = S} words received sent ++ item.Word word ∷ []
  lies_sent [] received sent word l e = cc
  lies_sent (w ∷ words) zero zero word l e = let h : w ≡ word = cc in ap (λ (x : Word). one (item.Word x)) h
  lies_sent (w ∷ words) (suc received) zero word l e = absurd (omega (arith, l))
  lies_sent (w ∷ words) zero (suc sent) word l e = ap (λ (xs : List (Item S)). item.Word w ∷ xs) (lies_sent words zero sent word (omega arith) e)
  lies_sent (w ∷ words) (suc received) (suc sent) word l e = lies_sent words received sent word (omega (arith, l)) e

  -- the first is the next word of the stream
  pub record IsFirst (words : List Word) (received sent : ℕ) (x : Item S) (items : List (Item S)) : Type 0 where
    pub word : Word
    pub there : slice_get words received ≡ Some word
    pub is : x ≡ item.Word word
    pub rest : items ≡ between words (suc received) sent
    pub within : received < sent

  pub first_lies : (words : List Word) (received sent : ℕ) (x : Item S) (items : List (Item S)) → x ∷ items ≡ between words received sent → IsFirst words received sent x items
  first_lies words received zero x items e = let none = e ∙ none_lie words received zero refl in cc
  first_lies [] zero (suc sent) x items e = cc
  first_lies [] (suc received) (suc sent) x items e = cc
  first_lies (w ∷ words) zero (suc sent) x items e =
      let first : x ≡ item.Word w = cc in
      let rest : items ≡ map item.Word (take sent words) = cc in
      record { word = w; there = refl; is = first; rest = rest; within = omega arith }
  first_lies (w ∷ words) (suc received) (suc sent) x items e =
      let f = first_lies words received sent x items e in
      record { word = f.word; there = f.there; is = f.is; rest = f.rest; within = omega (arith, f.within) }
