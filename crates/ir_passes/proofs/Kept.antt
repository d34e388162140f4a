-- Where the nodes that were kept stand, after dead ones were dropped.
use Rattle.std.proofs.Common.{◌≡◌, ℕ, zero, suc, ◌<◌, ◌≤◌, List, [], ◌∷◌, ◌++◌, length, get_or, Bool, true, false, Some, refl, sym, ap, subst, ◌∙◌, arith, ⊎_elim, length-append}
use Rattle.std.specs.Prelude.{slice_get}
use Rattle.std.specs.List.{list_all}
use Rattle.std.proofs.lemmas.List.{get_or_append_left}
use Rattle.std.proofs.lemmas.Bool.{cases_lt}
use Rattle.std.proofs.lemmas.Option.{slice_get_within, slice_get-get_or}
use Rattle.ir_tree.specs.declared.ir_type.IrType.{IrType}
use Rattle.ir_tree.specs.declared.node.Operand.{Operand}
use Rattle.ir_tree.specs.declared.node.Operand.TheVariants as operand
use Rattle.ir_tree.specs.declared.node.Node.{Node}
use Rattle.ir_tree.specs.Rules.Lines.{is_there}
use Rattle.ir_rebuild.specs.Operands.{operands_in}
use Rattle.ir_rebuild.specs.Moves.{moved, moved_node}
use Rattle.ir_rebuild.specs.Built.{numbered}
use Rattle.ir_rebuild.specs.Walks.{RebuildsTo, none_read, dropped, copied, rewritten}
use Rattle.ir_rebuild.proofs.Lemmas.{there_more, at_place, before_more, last_there, moved_two, moved_longer}
use Rattle.ir_rebuild.proofs.Lemmas.Normal.{AreOrdered}
use Rattle.pass_dead.specs.Stays.{Stays}

-- a node that was kept stands at a place of the new list, over what stands for its operands
pub record IsImage (new : List Node) (places : List Operand) (j : ℕ) (n : Node) : Type 0 where
  pub at : ℕ
  pub is : get_or places j operand.State ≡ operand.Node at
  pub there : slice_get new at ≡ Some (numbered at (moved_node (moved places) n))

-- a node of the new list is such a one
pub record IsSource (kept : List Bool) (old : List Node) (places : List Operand) (i : ℕ) : Type 0 where
  pub from : ℕ
  pub node : Node
  pub there : slice_get old from ≡ Some node
  pub marked : get_or kept from false ≡ true
  pub is : get_or places from operand.State ≡ operand.Node i

pub record AreKeptAs (kept : List Bool) (old new : List Node) (places : List Operand) : Type 0 where
  pub count : length places ≡ length old
  pub image : (j : ℕ) (n : Node) → slice_get old j ≡ Some n → get_or kept j false ≡ true → IsImage new places j n
  pub source : (i : ℕ) (m : Node) → slice_get new i ≡ Some m → IsSource kept old places i
  pub apart : (j k i : ℕ) → j < length old → k < length old → get_or kept j false ≡ true → get_or kept k false ≡ true → get_or places j operand.State ≡ operand.Node i → get_or places k operand.State ≡ operand.Node i → j ≡ k

none_kept : (kept : List Bool) → AreKeptAs kept [] [] []
none_kept kept = record {
  count = refl;
  image = λ j n e k. absurd (cc);
  source = λ i m e. absurd (cc);
  apart = λ j k i h. absurd (omega (arith, h));
}

pub prefix_ordered : (old : List Node) (n : Node) → AreOrdered (old ++ n ∷ []) → AreOrdered old
prefix_ordered old n h j m e = h j m (before_more old (n ∷ []) j m e)

-- one more operand changes nothing for nodes before
image_longer : (new more : List Node) (places : List Operand) (o : Operand) (j : ℕ) (n : Node) → j < length places → list_all (is_there j) (operands_in n) ≡ true → IsImage new places j n → IsImage (new ++ more) (places ++ o ∷ []) j n
image_longer new more places o j n less there h = record {
  at = h.at;
  is = get_or_append_left places (o ∷ []) operand.State j less ∙ h.is;
  there = before_more new more h.at _ h.there ∙ ap (λ m. Some (numbered h.at m)) (sym same);
}
  where
    same : moved_node (moved (places ++ o ∷ [])) n ≡ moved_node (moved places) n
    same = moved_two (is_there j) (moved (places ++ o ∷ [])) (moved places) (λ q e. moved_longer places o q (there_more j (length places) (omega (arith, less)) q e)) n there

pub last_place : (places : List Operand) (o : Operand) (j : ℕ) → j ≡ length places → get_or (places ++ o ∷ []) j operand.State ≡ o
last_place [] o zero e = refl
last_place [] o (suc j) e = absurd (omega (arith, e))
last_place (p ∷ ps) o zero e = absurd (omega (arith, e))
last_place (p ∷ ps) o (suc j) e = last_place ps o j (omega (arith, e))

drop_one : (kept : List Bool) (old new : List Node) (places : List Operand) (n : Node) (o : Operand) → AreOrdered (old ++ n ∷ []) → AreKeptAs kept old new places → get_or kept (length old) false ≡ false → AreKeptAs kept (old ++ n ∷ []) new (places ++ o ∷ [])
drop_one kept old new places n o ordered h unmarked = record {
  count = omega (arith, h.count, length-append old (n ∷ []), length-append places (o ∷ []));
  image = λ j m e k.
      at_place (IsImage new (places ++ o ∷ []) j m) old n j m e
      (λ less here. subst (λ ns. IsImage ns (places ++ o ∷ []) j m) (append_nil new) (image_longer new [] places o j m (omega (arith, less, h.count)) (ordered j m e) (h.image j m here k)))
      (λ l. absurd (let own : get_or kept (length old) false ≡ true = subst (λ i. get_or kept i false ≡ true) l.place k in cc));
  source = λ i m e.
      let s = h.source i m e in
      let less = slice_get_within old s.from s.node s.there in
      record { from = s.from; node = s.node; there = before_more old (n ∷ []) s.from s.node s.there; marked = s.marked; is = get_or_append_left places (o ∷ []) operand.State s.from (omega (arith, less, h.count)) ∙ s.is };
  apart = λ j k i jless kless jmark kmark a b.
      h.apart j k i (short j jless jmark) (short k kless kmark) jmark kmark (sym (get_or_append_left places (o ∷ []) operand.State j (within j jless jmark)) ∙ a) (sym (get_or_append_left places (o ∷ []) operand.State k (within k kless kmark)) ∙ b);
}
  where
    append_nil : (xs : List Node) → xs ++ [] ≡ xs
    append_nil [] = refl
    append_nil (x ∷ xs) = ap (λ ys. x ∷ ys) (append_nil xs)

    short : (j : ℕ) → j < length (old ++ n ∷ []) → get_or kept j false ≡ true → j < length old
    short j less k =
        ⊎_elim (λ here. here)
        (λ past.
        let e : j ≡ length old = omega (arith, less, past, length-append old (n ∷ [])) in
        let own : get_or kept (length old) false ≡ true = subst (λ i. get_or kept i false ≡ true) e k in
        absurd (cc))
        (cases_lt j (length old))

    within : (j : ℕ) → j < length (old ++ n ∷ []) → get_or kept j false ≡ true → j < length places
    within j less k = let s = short j less k in let same = h.count in omega (arith, s, same)

-- an operand that names a node of the list is none behind it
image_below : (new : List Node) (places : List Operand) (j i : ℕ) (n : Node) → IsImage new places j n → get_or places j operand.State ≡ operand.Node i → i < length new
image_below new places j i n h e =
    let same : operand.Node h.at ≡ operand.Node i = sym h.is ∙ e in
    let at : h.at ≡ i = cc in
    let less = slice_get_within new h.at _ h.there in
    omega (arith, at, less)

keep_one : (kept : List Bool) (old new : List Node) (places : List Operand) (n : Node) → AreOrdered (old ++ n ∷ []) → AreKeptAs kept old new places → get_or kept (length old) false ≡ true →
    AreKeptAs kept (old ++ n ∷ []) (new ++ numbered (length new) (moved_node (moved places) n) ∷ []) (places ++ operand.Node (length new) ∷ [])
keep_one kept old new places n ordered h marked = record {
  count = let same = h.count in omega (arith, same, length-append old (n ∷ []), length-append places (operand.Node (length new) ∷ []));
  image = λ j m e k.
      at_place (IsImage all longer j m) old n j m e
      (λ less here. let same = h.count in image_longer new (x ∷ []) places o j m (omega (arith, less, same)) (ordered j m e) (h.image j m here k))
      (λ l. subst (λ i. IsImage all longer i m) (sym l.place) (subst (IsImage all longer (length old)) l.item last));
  source = λ i m e.
      at_place (IsSource kept (old ++ n ∷ []) longer i) new x i m e
      (λ less here.
      let s = h.source i m here in
      let own = slice_get_within old s.from s.node s.there in
      let same = h.count in
      record { from = s.from; node = s.node; there = before_more old (n ∷ []) s.from s.node s.there; marked = s.marked; is = get_or_append_left places (o ∷ []) operand.State s.from (omega (arith, own, same)) ∙ s.is })
      (λ l. record { from = length old; node = n; there = last_there old n; marked = marked; is = last_place places o (length old) (sym h.count) ∙ ap operand.Node (sym l.place) });
  apart = λ j k i jless kless jmark kmark a b.
      ⊎_elim
      (λ jold. ⊎_elim
      (λ kold. h.apart j k i jold kold jmark kmark (sym (front j jold) ∙ a) (sym (front k kold) ∙ b))
      (λ kpast. absurd (never j k i jold jmark (last_one k kless kpast) a b))
      (cases_lt k (length old)))
      (λ jpast. ⊎_elim
      (λ kold. absurd (never k j i kold kmark (last_one j jless jpast) b a))
      (λ kpast. last_one j jless jpast ∙ sym (last_one k kless kpast))
      (cases_lt k (length old)))
      (cases_lt j (length old));
}
  where
    o : Operand
    o = operand.Node (length new)

    x : Node
    x = numbered (length new) (moved_node (moved places) n)

    all : List Node
    all = new ++ numbered (length new) (moved_node (moved places) n) ∷ []

    longer : List Operand
    longer = places ++ operand.Node (length new) ∷ []

    same_moved : moved_node (moved longer) n ≡ moved_node (moved places) n
    same_moved =
        moved_two (is_there (length old)) (moved (places ++ operand.Node (length new) ∷ [])) (moved places)
        (λ q e. moved_longer places (operand.Node (length new)) q (subst (λ c. is_there c q ≡ true) (sym h.count) e)) n (ordered (length old) n (last_there old n))

    last : IsImage all longer (length old) n
    last = record {
      at = length new;
      is = last_place places (operand.Node (length new)) (length old) (sym h.count);
      there = last_there new (numbered (length new) (moved_node (moved places) n)) ∙ ap (λ m. Some (numbered (length new) m)) (sym same_moved);
    }

    front : (j : ℕ) → j < length old → get_or (places ++ operand.Node (length new) ∷ []) j operand.State ≡ get_or places j operand.State
    front j less = let same = h.count in get_or_append_left places (operand.Node (length new) ∷ []) operand.State j (omega (arith, less, same))

    last_one : (j : ℕ) → j < length (old ++ n ∷ []) → length old ≤ j → j ≡ length old
    last_one j less past = omega (arith, less, past, length-append old (n ∷ []))

    never : (j k i : ℕ) → j < length old → get_or kept j false ≡ true → k ≡ length old → get_or (places ++ operand.Node (length new) ∷ []) j operand.State ≡ operand.Node i → get_or (places ++ operand.Node (length new) ∷ []) k operand.State ≡ operand.Node i → ⊥
    never j k i less mark at a b =
        let there = slice_get-get_or old j n less in
        let below = image_below new places j i (get_or old j n) (h.image j (get_or old j n) there mark) (sym (front j less) ∙ a) in
        let is : operand.Node (length new) ≡ operand.Node i = sym (last_place places (operand.Node (length new)) k (at ∙ sym h.count)) ∙ b in
        let place : length new ≡ i = cc in
        omega (arith, below, place)

-- what the walk of the pass that drops says
pub kept_as : (state : IrType) (kept : List Bool) (old new : List Node) (places : List Operand) → RebuildsTo state Stays kept old new places → AreOrdered old → AreKeptAs kept old new places
kept_as state kept _ _ _ none_read ordered = none_kept kept
kept_as state kept _ _ _ (dropped old new places n w unmarked) ordered =
    drop_one kept old new places n operand.State ordered (kept_as state kept old new places w (prefix_ordered old n ordered)) unmarked
kept_as state kept _ _ _ (copied old new places n w marked fixed built) ordered =
    keep_one kept old new places n ordered (kept_as state kept old new places w (prefix_ordered old n ordered)) marked
kept_as state kept _ _ _ (rewritten old new all places n o w marked free before fits_at rewrites given) ordered =
    subst (λ ns. AreKeptAs kept (old ++ n ∷ []) ns (places ++ o ∷ [])) (sym given.0)
    (subst (λ p. AreKeptAs kept (old ++ n ∷ []) (new ++ numbered (length new) (moved_node (moved places) n) ∷ []) (places ++ p ∷ [])) (sym given.1)
    (keep_one kept old new places n ordered (kept_as state kept old new places w (prefix_ordered old n ordered)) marked))
