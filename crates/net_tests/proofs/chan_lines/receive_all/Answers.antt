use Rattle.std.proofs.Common.{◌≡◌, ◌≤◌, ℕ, zero, suc, List, [], ◌∷◌, ◌++◌, length, take, sym, ap, ◌∙◌, arith, Some}
use Rattle.std.specs.Prelude.{slice_get}
use Rattle.std.proofs.lemmas.Option.{slice_get_within}
use Rattle.std.proofs.lemmas.List.{length-append}
use Rattle.xb_bits.specs.Word.{Word}
use Rattle.chan_queue.specs.declared.view.View.{View}
use Rattle.chan_queue.specs.Passes.{receiver_of}
use Rattle.net_tests.proofs.chan_lines.receive_all.Goals as goal

take_one_more : (xs : List Word) (n : ℕ) (x : Word) → slice_get xs n ≡ Some x → take (suc n) xs ≡ take n xs ++ x ∷ []
take_one_more [] n x e = cc
take_one_more (y ∷ ys) zero x e = let h : y ≡ x = cc in ap (λ (z : Word). one z) h
  where
    one : Word → List Word
    one z = z ∷ []
take_one_more (y ∷ ys) (suc n) x e = ap (λ (zs : List Word). y ∷ zs) (take_one_more ys n x e)

-- one word more was received
one_more : (xs got new : List Word) (x : Word) → slice_get xs (length got) ≡ Some x → got ≡ take (length got) xs → new ≡ got ++ x ∷ []
    → (length new ≡ suc (length got)) × (new ≡ take (length new) xs) × (length new ≤ length xs)
one_more xs got new x there so_far is =
    let count : length new ≡ suc (length got) = omega (arith, ap length is, length-append got (x ∷ [])) in
    let more = is ∙ (ap (λ (ys : List Word). ys ++ x ∷ []) so_far ∙ (sym (take_one_more xs (length got) x there) ∙ ap (λ n. take n xs) (sym count))) in
    (count, more, omega (arith, count, slice_get_within xs (length got) x there))

pub loop-preserved-in-Continue-1 : goal.loop-preserved-in-Continue-1
loop-preserved-in-Continue-1 g c =
    let invariant = c.loop.invariant in
    let came = c.in-Some-recv.ensures.word in
    let knew = invariant.1 in
    let words = c.args.words.now in
    let there = ap (λ (v : View). slice_get v.words v.received) (sym knew) ∙ came.0 in
    let more = one_more words c.loop.got.items c.push.new.self.items c.in-Some-recv.word there invariant.2 c.in_ok-push-in-Some-recv.ensures.items in
    let knows = came.1 ∙ (ap (λ (v : View). record v { received = suc v.received }) knew ∙ ap (λ n. receiver_of (record { words = words; received = length words }) 2 n 0) (sym more.0)) in
    (c.in-Some-recv.ensures.pass, knows, more.1, more.2)
