-- A seat with several others, one after the other.
use Rattle.std.proofs.Common.{◌≡◌, ℕ, ◌+◌, ◌≤◌, Bool, true, false, List, [], ◌∷◌, ◌++◌, length, map, set, Some, refl, sym, ap, ◌∙◌, subst, arith}
use Rattle.std.specs.Prelude.{slice_get, ◌==◌, ◌||◌}
use Rattle.std.proofs.lemmas.Bool.{false≢true, ne_eqb, or_right}
use Rattle.std.proofs.lemmas.List.{length-append, length-map, map-append, append-nil}
use Rattle.std.proofs.lemmas.List.Sums.{sum_by-append}
use Rattle.task_queue.specs.declared.seat.Seat.{Seat}
use Rattle.task_queue.specs.Seats.{Each, is_among, AllDiffer, IsSeat, seat_number, lacks, KnowsRunAt, IsDealtAt, HasRoomIf, seat_put, seat_taken}
use Rattle.task_queue.specs.Inner.Exchange.{gets, gives, MayExchange, IsExchange, MayExchangeAll, AreExchanged, MayUniteAll, AreUnited}
use Rattle.task_queue.proofs.Sums.{sum_one}
use Rattle.task_queue.proofs.Lists.{tail_of, set_there, push_then, each_weaker, each_append, each_parts, or_none, or_assoc, among_append, among_first, differ_mid}

-- a seat lacks a right behind several exchanges as behind one with all of them
pub gets_law : (a b c : Bool) → gets (gets a b) c ≡ gets a (b || c)
gets_law true true c = refl
gets_law true false c = refl
gets_law false b c = refl

pub gets_none : (a : Bool) → gets a false ≡ a
gets_none true = refl
gets_none false = refl

pub gives_law : (a b c : Bool) → gives (gives a b) c ≡ gives a (b || c)
gives_law a b c = sym (or_assoc a b c)

pub gives_none : (a : Bool) → gives a false ≡ a
gives_none a = or_none a false refl

module _ {N T : Type 0} where
  pub numbers_append : (xs ys : List (Seat N T)) (k : ℕ) → is_among (map seat_number (xs ++ ys)) k ≡ is_among (map seat_number xs) k || is_among (map seat_number ys) k
  numbers_append xs ys k = ap (λ ns. is_among ns k) (map-append seat_number xs ys) ∙ among_append (map seat_number xs) (map seat_number ys) k

  -- it lacks a right as this function says
  abbrev pub LacksAs : (ℕ → Bool) → Seat N T → Type 0
  LacksAs f a = (k : ℕ) → lacks a k ≡ f k

  pub each_lacks : (f g : ℕ → Bool) (xs : List (Seat N T)) → ((k : ℕ) → f k ≡ g k) → Each (LacksAs f) xs → Each (LacksAs g) xs
  each_lacks f g xs same all = each_weaker (LacksAs f) (LacksAs g) xs (λ x h k. h k ∙ same k) all

module _ {N T : Type 0} (op : Bool → Bool → Bool) where
  -- the first of them, in a loop
  pub record Exchanges (old now : List (Seat N T)) (s m : Seat N T) (k : ℕ) : Type 0 where
    pub pre : List (Seat N T)
    pub post : List (Seat N T)
    pub rest : List (Seat N T)
    pub old_is : old ≡ pre ++ rest
    pub now_is : now ≡ post ++ rest
    pub count : length pre ≡ k
    pub done : AreExchanged op pre s post m

-- the exchanges of a seat
module _ {N T : Type 0} (op : Bool → Bool → Bool) (law : (a b c : Bool) → op (op a b) c ≡ op a (b || c)) (unit : (a : Bool) → op a false ≡ a) where
  pub exchanged_none : (s : Seat N T) → AreExchanged op [] s [] s
  exchanged_none s = record {
    numbers = refl;
    number = refl;
    seats_are = λ ws all one. (tt, one);
    dealt = λ all one. (tt, one);
    run = λ run all one. (tt, one);
    room = λ d n. ((λ all. tt), λ one. one);
    put = λ h. (refl, refl);
    taken = λ h. refl;
    rights = λ f all. tt;
    right = λ k. sym (unit (lacks s k));
  }

  pub exchanged_one : (x s y t : Seat N T) → IsExchange op x s y t → AreExchanged op (x ∷ []) s (y ∷ []) t
  exchanged_one x s y t is = record {
    numbers = ap (λ n. n ∷ []) is.half_a.number;
    number = is.half_b.number;
    seats_are = λ ws all one. ((is.half_a.seat ws all.0 one, tt), is.half_b.seat ws one all.0);
    dealt = λ all one. ((is.half_a.dealt, tt), is.half_b.dealt);
    run = λ run all one. ((is.half_a.run run all.0 one, tt), is.half_b.run run one all.0);
    room = λ d n. ((λ all. (is.half_a.room d n all.0, tt)), is.half_b.room d n);
    put = λ h. (omega (arith, sum_one (seat_put h) y, sum_one (seat_put h) x, is.half_a.put h), is.half_b.put h);
    taken = λ h. omega (arith, sum_one (seat_taken h) y, sum_one (seat_taken h) x, is.half_a.taken h, is.half_b.taken h);
    rights = λ f all. ((λ k. is.half_a.right k ∙ ap (λ b. op b (s.number == k)) (all.0 k)), tt);
    right = λ k. is.half_b.right k ∙ ap (λ b. op (lacks s k) b) (sym (or_none (x.number == k) false refl));
  }

  pub exchanged_append : (xs ys new more : List (Seat N T)) (s m t : Seat N T) → AreExchanged op xs s new m → AreExchanged op ys m more t → AreExchanged op (xs ++ ys) s (new ++ more) t
  exchanged_append xs ys new more s m t p q = record {
    numbers = map-append seat_number new more ∙ ((λ i. p.numbers i ++ q.numbers i) ∙ sym (map-append seat_number xs ys));
    number = q.number ∙ p.number;
    seats_are = λ ws all one.
        let parts = each_parts (IsSeat ws) xs ys all in
        let a = p.seats_are ws parts.0 one in
        let b = q.seats_are ws parts.1 a.1 in
        (each_append (IsSeat ws) new more a.0 b.0, b.1);
    dealt = λ all one.
        let parts = each_parts IsDealtAt xs ys all in
        let a = p.dealt parts.0 one in
        let b = q.dealt parts.1 a.1 in
        (each_append IsDealtAt new more a.0 b.0, b.1);
    run = λ run all one.
        let parts = each_parts (KnowsRunAt run) xs ys all in
        let a = p.run run parts.0 one in
        let b = q.run run parts.1 a.1 in
        (each_append (KnowsRunAt run) new more a.0 b.0, b.1);
    room = λ d n. (
      (λ all. let parts = each_parts (HasRoomIf d n) xs ys all in each_append (HasRoomIf d n) new more ((p.room d n).0 parts.0) ((q.room d n).0 parts.1)),
      λ one. (q.room d n).1 ((p.room d n).1 one),
    );
    put = λ h. (omega (arith, sum_by-append (seat_put h) new more, sum_by-append (seat_put h) xs ys, (p.put h).0, (q.put h).0), (q.put h).1 ∙ (p.put h).1);
    taken = λ h. omega (arith, sum_by-append (seat_taken h) new more, sum_by-append (seat_taken h) xs ys, p.taken h, q.taken h);
    rights = λ f all.
        let parts = each_parts (LacksAs f) xs ys all in
        each_append (LacksAs (λ k. op (f k) (s.number == k))) new more (p.rights f parts.0)
        (each_lacks (λ k. op (f k) (m.number == k)) (λ k. op (f k) (s.number == k)) more (λ k. ap (λ n. op (f k) (n == k)) p.number) (q.rights f parts.1));
    right = λ k.
        q.right k
        ∙ (ap (λ b. op b (is_among (map seat_number ys) k)) (p.right k)
        ∙ (law (lacks s k) (is_among (map seat_number xs) k) (is_among (map seat_number ys) k) ∙ ap (λ b. op (lacks s k) b) (sym (numbers_append xs ys k))));
  }

  pub exchanges_none : (old : List (Seat N T)) (s : Seat N T) → Exchanges op old old s s 0
  exchanges_none old s = record { pre = []; post = []; rest = old; old_is = refl; now_is = refl; count = refl; done = exchanged_none s }

  module _ (old now : List (Seat N T)) (s m : Seat N T) (k : ℕ) (is : Exchanges op old now s m k) where
    post_length : length is.post ≡ k
    post_length = sym (length-map is.post seat_number) ∙ (ap length is.done.numbers ∙ (length-map is.pre seat_number ∙ is.count))

    pub exchanges_length : length now ≡ length old
    exchanges_length = omega (arith, ap length is.now_is, ap length is.old_is, length-append is.post is.rest, length-append is.pre is.rest, post_length, is.count)

    pub exchanges_all : length now ≤ k → AreExchanged op old s now m
    exchanges_all most = subst (λ (x : List (Seat N T) × List (Seat N T)). AreExchanged op x.0 s x.1 m) (λ i. (old_path i, now_path i)) is.done
      where
        no_rest : is.rest ≡ []
        no_rest = nothing is.rest (omega (arith, ap length is.now_is, length-append is.post is.rest, post_length, most))
          where
            nothing : (xs : List (Seat N T)) → length xs ≤ 0 → xs ≡ []
            nothing [] l = refl
            nothing (x ∷ xs) l = absurd (omega (arith, l))

        old_path : is.pre ≡ old
        old_path = sym (is.old_is ∙ (ap (λ xs. is.pre ++ xs) no_rest ∙ append-nil is.pre))

        now_path : is.post ≡ now
        now_path = sym (is.now_is ∙ (ap (λ xs. is.post ++ xs) no_rest ∙ append-nil is.post))

    module _ (x : Seat N T) (at : slice_get now k ≡ Some x) where
      tail_is : (tail : List (Seat N T)) × (is.rest ≡ x ∷ tail)
      tail_is = tail_of is.post is.rest x (ap (λ i. slice_get (is.post ++ is.rest) i) post_length ∙ (ap (λ xs. slice_get xs k) (sym is.now_is) ∙ at))

      old_split : old ≡ is.pre ++ x ∷ tail_is.0
      old_split = is.old_is ∙ ap (λ xs. is.pre ++ xs) tail_is.1

      pub exchanges_more : (y t : Seat N T) → IsExchange op x m y t → Exchanges op old (set now k y) s t (k + 1)
      exchanges_more y t step = record {
        pre = is.pre ++ x ∷ [];
        post = is.post ++ y ∷ [];
        rest = tail_is.0;
        old_is = old_split ∙ push_then is.pre tail_is.0 x;
        now_is =
            ap (λ xs. set xs k y) (is.now_is ∙ ap (λ xs. is.post ++ xs) tail_is.1)
            ∙ (ap (λ i. set (is.post ++ x ∷ tail_is.0) i y) (sym post_length) ∙ (set_there is.post tail_is.0 x y ∙ push_then is.post tail_is.0 y));
        count = omega (arith, length-append is.pre (x ∷ []), is.count);
        done = exchanged_append is.pre (x ∷ []) is.post (y ∷ []) s m t is.done (exchanged_one x m y t step);
      }

      -- the next two may do so
      pub next_exchange : (lacking : Bool) → MayExchangeAll lacking old s → MayExchange lacking x m
      next_exchange lacking may = record {
        windows = may.windows;
        few = may.few;
        seat_a = seat_parts.1.0;
        seat_b = (is.done.seats_are may.windows seat_parts.0 may.seat_is).1;
        dealt_a = dealt_parts.1.0;
        dealt_b = (is.done.dealt dealt_parts.0 may.dealt).1;
        right_a = ap (λ n. lacks x n) is.done.number ∙ (each_parts (λ a. lacks a s.number ≡ lacking) is.pre (x ∷ tail_is.0) (subst (Each (λ a. lacks a s.number ≡ lacking)) old_split may.rights)).1.0;
        right_b = is.done.right x.number ∙ (ap (λ b. op (lacks s x.number) b) before ∙ (unit (lacks s x.number) ∙ may.right x.number among));
      }
        where
          seat_parts : Each (IsSeat may.windows) is.pre × Each (IsSeat may.windows) (x ∷ tail_is.0)
          seat_parts = each_parts (IsSeat may.windows) is.pre (x ∷ tail_is.0) (subst (Each (IsSeat may.windows)) old_split may.seats_are)

          dealt_parts : Each IsDealtAt is.pre × Each IsDealtAt (x ∷ tail_is.0)
          dealt_parts = each_parts IsDealtAt is.pre (x ∷ tail_is.0) (subst (Each IsDealtAt) old_split may.dealt_all)

          numbers : map seat_number old ≡ map seat_number is.pre ++ x.number ∷ map seat_number tail_is.0
          numbers = ap (λ xs. map seat_number xs) old_split ∙ map-append seat_number is.pre (x ∷ tail_is.0)

          before : is_among (map seat_number is.pre) x.number ≡ false
          before = differ_mid (map seat_number is.pre) (map seat_number tail_is.0) x.number (subst AllDiffer numbers may.differ)

          among : is_among (map seat_number old) x.number ≡ true
          among =
              ap (λ ns. is_among ns x.number) numbers
              ∙ (among_append (map seat_number is.pre) (x.number ∷ map seat_number tail_is.0) x.number
              ∙ (ap (λ b. b || is_among (x.number ∷ map seat_number tail_is.0) x.number) before ∙ among_first x.number (map seat_number tail_is.0)))

-- seats that come to a pass
module _ {N T : Type 0} where
  pub united_none : (xs : List (Seat N T)) → AreUnited xs [] xs []
  united_none xs = record {
    numbers = (refl, refl);
    seats_are = λ ws all none. (all, tt);
    dealt = λ all none. (all, tt);
    run = λ run all none. (all, tt);
    room = λ d n. ((λ all. all), λ none. tt);
    put = λ h. (refl, refl);
    taken = λ h. refl;
    rights_a = λ f all. each_lacks f (λ k. f k || false) xs (λ k. sym (or_none (f k) false refl)) all;
    rights_b = λ f none. tt;
  }

  pub united_one : (xs ys : List (Seat N T)) (s t : Seat N T) → AreExchanged gives xs s ys t → AreUnited xs (s ∷ []) ys (t ∷ [])
  united_one xs ys s t is = record {
    numbers = (is.numbers, ap (λ n. n ∷ []) is.number);
    seats_are = λ ws all one. let both = is.seats_are ws all one.0 in (both.0, (both.1, tt));
    dealt = λ all one. let both = is.dealt all one.0 in (both.0, (both.1, tt));
    run = λ run all one. let both = is.run run all one.0 in (both.0, (both.1, tt));
    room = λ d n. ((is.room d n).0, λ one. ((is.room d n).1 one.0, tt));
    put = λ h. ((is.put h).0, omega (arith, sum_one (seat_put h) t, sum_one (seat_put h) s, (is.put h).1));
    taken = λ h. omega (arith, sum_one (seat_taken h) t, sum_one (seat_taken h) s, is.taken h);
    rights_a = λ f all. each_lacks (λ k. gives (f k) (s.number == k)) (λ k. f k || is_among (s.number ∷ []) k) ys (λ k. ap (λ b. f k || b) (sym (or_none (s.number == k) false refl))) (is.rights f all);
    rights_b = λ f one. ((λ k. is.right k ∙ ap (λ b. b || is_among (map seat_number xs) k) (one.0 k)), tt);
  }

  pub united_append : (xs ys zs us bs new more : List (Seat N T)) → AreUnited xs us ys new → AreUnited ys bs zs more → AreUnited xs (us ++ bs) zs (new ++ more)
  united_append xs ys zs us bs new more p q = record {
    numbers = (q.numbers.0 ∙ p.numbers.0, map-append seat_number new more ∙ ((λ i. p.numbers.1 i ++ q.numbers.1 i) ∙ sym (map-append seat_number us bs)));
    seats_are = λ ws all both.
        let parts = each_parts (IsSeat ws) us bs both in
        let a = p.seats_are ws all parts.0 in
        let b = q.seats_are ws a.0 parts.1 in
        (b.0, each_append (IsSeat ws) new more a.1 b.1);
    dealt = λ all both.
        let parts = each_parts IsDealtAt us bs both in
        let a = p.dealt all parts.0 in
        let b = q.dealt a.0 parts.1 in
        (b.0, each_append IsDealtAt new more a.1 b.1);
    run = λ run all both.
        let parts = each_parts (KnowsRunAt run) us bs both in
        let a = p.run run all parts.0 in
        let b = q.run run a.0 parts.1 in
        (b.0, each_append (KnowsRunAt run) new more a.1 b.1);
    room = λ d n. (
      (λ all. (q.room d n).0 ((p.room d n).0 all)),
      λ both. let parts = each_parts (HasRoomIf d n) us bs both in each_append (HasRoomIf d n) new more ((p.room d n).1 parts.0) ((q.room d n).1 parts.1),
    );
    put = λ h. ((q.put h).0 ∙ (p.put h).0, omega (arith, sum_by-append (seat_put h) new more, sum_by-append (seat_put h) us bs, (p.put h).1, (q.put h).1));
    taken = λ h. omega (arith, sum_by-append (seat_taken h) new more, sum_by-append (seat_taken h) us bs, p.taken h, q.taken h);
    rights_a = λ f all.
        let one = p.rights_a f all in
        let two = q.rights_a (λ k. f k || is_among (map seat_number us) k) one in
        each_lacks (λ k. (f k || is_among (map seat_number us) k) || is_among (map seat_number bs) k) (λ k. f k || is_among (map seat_number (us ++ bs)) k) zs
        (λ k. sym (or_assoc (f k) (is_among (map seat_number us) k) (is_among (map seat_number bs) k)) ∙ ap (λ b. f k || b) (sym (numbers_append us bs k))) two;
    rights_b = λ f both.
        let parts = each_parts (LacksAs f) us bs both in
        let g : ℕ → Bool = λ k. f k || is_among (map seat_number xs) k in
        each_append (LacksAs g) new more (p.rights_b f parts.0)
        (each_lacks (λ k. f k || is_among (map seat_number ys) k) g more (λ k. ap (λ ns. f k || is_among ns k) p.numbers.0) (q.rights_b f parts.1));
  }

  -- the first of them, in a loop
  pub record Unites (xs now_xs old now : List (Seat N T)) (k : ℕ) : Type 0 where
    pub pre : List (Seat N T)
    pub post : List (Seat N T)
    pub rest : List (Seat N T)
    pub old_is : old ≡ pre ++ rest
    pub now_is : now ≡ post ++ rest
    pub count : length pre ≡ k
    pub done : AreUnited xs pre now_xs post

  pub unites_none : (xs old : List (Seat N T)) → Unites xs xs old old 0
  unites_none xs old = record { pre = []; post = []; rest = old; old_is = refl; now_is = refl; count = refl; done = united_none xs }

  module _ (xs ys old now : List (Seat N T)) (k : ℕ) (is : Unites xs ys old now k) where
    united_length : length is.post ≡ k
    united_length = sym (length-map is.post seat_number) ∙ (ap length is.done.numbers.1 ∙ (length-map is.pre seat_number ∙ is.count))

    pub unites_length : length now ≡ length old
    unites_length = omega (arith, ap length is.now_is, ap length is.old_is, length-append is.post is.rest, length-append is.pre is.rest, united_length, is.count)

    pub unites_all : length now ≤ k → AreUnited xs old ys now
    unites_all most = subst (λ (x : List (Seat N T) × List (Seat N T)). AreUnited xs x.0 ys x.1) (λ i. (old_path i, now_path i)) is.done
      where
        no_rest : is.rest ≡ []
        no_rest = nothing is.rest (omega (arith, ap length is.now_is, length-append is.post is.rest, united_length, most))
          where
            nothing : (zs : List (Seat N T)) → length zs ≤ 0 → zs ≡ []
            nothing [] l = refl
            nothing (z ∷ zs) l = absurd (omega (arith, l))

        old_path : is.pre ≡ old
        old_path = sym (is.old_is ∙ (ap (λ zs. is.pre ++ zs) no_rest ∙ append-nil is.pre))

        now_path : is.post ≡ now
        now_path = sym (is.now_is ∙ (ap (λ zs. is.post ++ zs) no_rest ∙ append-nil is.post))

    module _ (s : Seat N T) (at : slice_get now k ≡ Some s) where
      behind : (tail : List (Seat N T)) × (is.rest ≡ s ∷ tail)
      behind = tail_of is.post is.rest s (ap (λ i. slice_get (is.post ++ is.rest) i) united_length ∙ (ap (λ zs. slice_get zs k) (sym is.now_is) ∙ at))

      whole : old ≡ is.pre ++ s ∷ behind.0
      whole = is.old_is ∙ ap (λ zs. is.pre ++ zs) behind.1

      pub unites_more : (zs : List (Seat N T)) (t : Seat N T) → AreExchanged gives ys s zs t → Unites xs zs old (set now k t) (k + 1)
      unites_more zs t step = record {
        pre = is.pre ++ s ∷ [];
        post = is.post ++ t ∷ [];
        rest = behind.0;
        old_is = whole ∙ push_then is.pre behind.0 s;
        now_is =
            ap (λ ws. set ws k t) (is.now_is ∙ ap (λ ws. is.post ++ ws) behind.1)
            ∙ (ap (λ i. set (is.post ++ s ∷ behind.0) i t) (sym united_length) ∙ (set_there is.post behind.0 s t ∙ push_then is.post behind.0 t));
        count = omega (arith, length-append is.pre (s ∷ []), is.count);
        done = united_append xs ys zs is.pre (s ∷ []) is.post (t ∷ []) is.done (united_one ys zs s t step);
      }

      -- the next one may come
      pub next_unites : MayUniteAll xs old → MayExchangeAll false ys s
      next_unites may = record {
        windows = may.windows;
        few = may.few;
        seats_are = (is.done.seats_are may.windows may.seats_a seat_parts.0).0;
        seat_is = seat_parts.1.0;
        dealt_all = (is.done.dealt may.dealt_a dealt_parts.0).0;
        dealt = dealt_parts.1.0;
        differ = subst AllDiffer (sym is.done.numbers.0) may.differ_a;
        rights = each_weaker (LacksAs (λ k. may.f k || is_among (map seat_number is.pre) k)) (λ a. lacks a s.number ≡ false) ys
            (λ a h. h s.number ∙ (ap (λ b. b || is_among (map seat_number is.pre) s.number) (may.f_not s.number among) ∙ before)) (is.done.rights_a may.f may.rights_a);
        right = λ k e. right_parts.1.0 k (ap (λ ns. is_among ns k) (sym is.done.numbers.0) ∙ e);
      }
        where
          seat_parts : Each (IsSeat may.windows) is.pre × Each (IsSeat may.windows) (s ∷ behind.0)
          seat_parts = each_parts (IsSeat may.windows) is.pre (s ∷ behind.0) (subst (Each (IsSeat may.windows)) whole may.seats_b)

          dealt_parts : Each IsDealtAt is.pre × Each IsDealtAt (s ∷ behind.0)
          dealt_parts = each_parts IsDealtAt is.pre (s ∷ behind.0) (subst (Each IsDealtAt) whole may.dealt_b)

          right_parts : Each (λ b. (k : ℕ) → is_among (map seat_number xs) k ≡ true → lacks b k ≡ false) is.pre × Each (λ b. (k : ℕ) → is_among (map seat_number xs) k ≡ true → lacks b k ≡ false) (s ∷ behind.0)
          right_parts = each_parts (λ b. (k : ℕ) → is_among (map seat_number xs) k ≡ true → lacks b k ≡ false) is.pre (s ∷ behind.0)
              (subst (Each (λ b. (k : ℕ) → is_among (map seat_number xs) k ≡ true → lacks b k ≡ false)) whole may.rights_b)

          numbers : map seat_number old ≡ map seat_number is.pre ++ s.number ∷ map seat_number behind.0
          numbers = ap (λ zs. map seat_number zs) whole ∙ map-append seat_number is.pre (s ∷ behind.0)

          before : is_among (map seat_number is.pre) s.number ≡ false
          before = differ_mid (map seat_number is.pre) (map seat_number behind.0) s.number (subst AllDiffer numbers may.differ_b)

          among : is_among (map seat_number old) s.number ≡ true
          among =
              ap (λ ns. is_among ns s.number) numbers
              ∙ (among_append (map seat_number is.pre) (s.number ∷ map seat_number behind.0) s.number
              ∙ (ap (λ b. b || is_among (s.number ∷ map seat_number behind.0) s.number) before ∙ among_first s.number (map seat_number behind.0)))

-- the first of several, and the others behind it
module _ {N T : Type 0} (op : Bool → Bool → Bool) (law : (a b c : Bool) → op (op a b) c ≡ op a (b || c)) (unit : (a : Bool) → op a false ≡ a) (lacking : Bool) (x : Seat N T) (xs : List (Seat N T)) (s : Seat N T)
    (may : MayExchangeAll lacking (x ∷ xs) s) where
  pub first_exchange : MayExchange lacking x s
  first_exchange = next_exchange op law unit (x ∷ xs) (x ∷ xs) s s 0 (exchanges_none op law unit (x ∷ xs) s) x refl lacking may

  pub other_exchanges : (y t : Seat N T) → IsExchange op x s y t → MayExchangeAll lacking xs t
  other_exchanges y t step = record {
    windows = may.windows;
    few = may.few;
    seats_are = may.seats_are.1;
    seat_is = step.half_b.seat may.windows may.seat_is may.seats_are.0;
    dealt_all = may.dealt_all.1;
    dealt = step.half_b.dealt;
    differ = may.differ.1;
    rights = each_weaker (λ a. lacks a s.number ≡ lacking) (λ a. lacks a t.number ≡ lacking) xs (λ a h. ap (λ n. lacks a n) step.half_b.number ∙ h) may.rights.1;
    right = λ k e.
        step.half_b.right k
        ∙ (ap (λ b. op (lacks s k) b) (ne_eqb x.number k (λ same. false≢true (sym may.differ.0 ∙ (ap (λ i. is_among (map seat_number xs) i) same ∙ e))))
        ∙ (unit (lacks s k) ∙ may.right k (or_right (x.number == k) (is_among (map seat_number xs) k) e)));
  }
