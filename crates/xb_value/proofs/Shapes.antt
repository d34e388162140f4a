-- Tokens that are those of values.
use Rattle.std.proofs.Common.{◌≡◌, ℕ, suc, ◌+◌, List, [], ◌∷◌, ◌++◌, append_assoc, length, map, refl, ap, ap₂, ◌∙◌, arith}
use Rattle.xb_value.specs.declared.token.Bracket.{Bracket}
use Rattle.xb_value.specs.declared.token.Bracket.TheVariants.{Round, Square}
use Rattle.xb_value.specs.declared.token.Token.{Token}
use Rattle.xb_value.specs.declared.token.Token.TheVariants.{Number, Open, Close}
use Rattle.xb_value.specs.declared.value.Value.{Value}
use Rattle.xb_value.specs.Inner.Reading.{parts_at}
use Rattle.xb_value.specs.Shape.{unplaced, shape_of, all_of, Says}
use Rattle.xb_value.proofs.Lemmas.Types.{EachHas}
use Rattle.xb_value.proofs.Lemmas.Values.{value_induction, shape_of-Bits, shape_of-Tuple, shape_of-Array}

-- ---- what tokens are, by what they are without places

pub record Parted (ts xs bs : List Token) : Type 0 where
  pub front : List Token
  pub back : List Token
  pub is : ts ≡ front ++ back
  pub prefix_is : map unplaced front ≡ xs
  pub back_is : map unplaced back ≡ bs

pub parted : (ts xs bs : List Token) → map unplaced ts ≡ xs ++ bs → Parted ts xs bs
parted ts [] bs h = record { front = []; back = ts; is = refl; prefix_is = refl; back_is = h }
parted [] (a ∷ xs) bs h = absurd (cc)
parted (t ∷ ts) (a ∷ xs) bs h =
    let same : map unplaced ts ≡ xs ++ bs = (cc) in
    let first : unplaced t ≡ a = (cc) in
    let later = parted ts xs bs same in
    record {
      front = t ∷ later.front;
      back = later.back;
      is = ap (λ us. t ∷ us) later.is;
      prefix_is = ap₂ (λ x ys. x ∷ ys) first later.prefix_is;
      back_is = later.back_is;
    }

pub record IsNumber (ts : List Token) (n : ℕ) : Type 0 where
  pub at : ℕ
  pub is : ts ≡ Number at n ∷ []

pub number_of : (ts : List Token) (n : ℕ) → map unplaced ts ≡ Number 0 n ∷ [] → IsNumber ts n
number_of [] n h = absurd (cc)
number_of (Number at m ∷ []) n h = let same : m ≡ n = (cc) in record { at = at; is = ap (λ k. Number at k ∷ []) same }
number_of (Number at m ∷ t ∷ ts) n h = absurd (cc)
number_of (Open at b ∷ ts) n h = absurd (cc)
number_of (Close ∷ ts) n h = absurd (cc)

alone_close : (ts : List Token) → map unplaced ts ≡ Close ∷ [] → ts ≡ Close ∷ []
alone_close [] h = absurd (cc)
alone_close (Close ∷ []) h = refl
alone_close (Close ∷ t ∷ ts) h = absurd (cc)
alone_close (Number at m ∷ ts) h = absurd (cc)
alone_close (Open at b ∷ ts) h = absurd (cc)

pub record IsGroup (ts : List Token) (b : Bracket) (xs : List Token) : Type 0 where
  pub at : ℕ
  pub inner : List Token
  pub is : ts ≡ Open at b ∷ (inner ++ Close ∷ [])
  pub inside : map unplaced inner ≡ xs

pub group_of : (ts : List Token) (b : Bracket) (xs : List Token) → map unplaced ts ≡ Open 0 b ∷ (xs ++ Close ∷ []) → IsGroup ts b xs
group_of [] b xs h = absurd (cc)
group_of (Number at m ∷ ts) b xs h = absurd (cc)
group_of (Close ∷ ts) b xs h = absurd (cc)
group_of (Open at k ∷ ts) b xs h =
    let same : k ≡ b = (cc) in
    let later : map unplaced ts ≡ xs ++ Close ∷ [] = (cc) in
    let parts = parted ts xs (Close ∷ []) later in
    record {
      at = at;
      inner = parts.front;
      is = ap₂ (λ j us. Open at j ∷ us) same (parts.is ∙ ap (λ us. parts.front ++ us) (alone_close parts.back parts.back_is));
      inside = parts.prefix_is;
    }

-- ---- how many values

-- the tokens are those of `n` whole values
pub record Counts (ts : List Token) (n : ℕ) : Type 0 where
  pub here : (us : List Token) → parts_at 0 (ts ++ us) ≡ n + parts_at 0 us
  pub deeper : (d : ℕ) (us : List Token) → parts_at (suc d) (ts ++ us) ≡ parts_at (suc d) us

abbrev CountsOne : Value → Type 0
CountsOne v = (ts : List Token) → Says ts v → Counts ts 1

counts_all : (vs : List Value) → EachHas CountsOne vs → (ts : List Token) → map unplaced ts ≡ all_of (map shape_of vs) → Counts ts (length vs)
counts_all [] each [] h = record { here = λ us. omega arith; deeper = λ d us. refl }
counts_all [] each (t ∷ ts) h = absurd (cc)
counts_all (v ∷ vs) each ts h =
    let parts = parted ts (shape_of v) (all_of (map shape_of vs)) h in
    let one = each.0 parts.front parts.prefix_is in
    let later = counts_all vs each.1 parts.back parts.back_is in
    record {
      here = λ us.
          ap (λ xs. parts_at 0 (xs ++ us)) parts.is ∙ ap (parts_at 0) (append_assoc parts.front parts.back us)
          ∙ one.here (parts.back ++ us) ∙ ap (λ k. 1 + k) (later.here us) ∙ omega arith;
      deeper = λ d us.
          ap (λ xs. parts_at (suc d) (xs ++ us)) parts.is ∙ ap (parts_at (suc d)) (append_assoc parts.front parts.back us)
          ∙ one.deeper d (parts.back ++ us) ∙ later.deeper d us;
    }

counts_group : (b : Bracket) (vs : List Value) → EachHas CountsOne vs → (ts : List Token) → map unplaced ts ≡ Open 0 b ∷ (all_of (map shape_of vs) ++ Close ∷ []) → Counts ts 1
counts_group b vs each ts h =
    let group = group_of ts b (all_of (map shape_of vs)) h in
    let inner = counts_all vs each group.inner group.inside in
    record {
      here = λ us.
          ap (λ xs. parts_at 0 (xs ++ us)) group.is ∙ ap (λ xs. suc (parts_at 1 xs)) (append_assoc group.inner (Close ∷ []) us)
          ∙ ap suc (inner.deeper 0 (Close ∷ us)) ∙ omega arith;
      deeper = λ d us.
          ap (λ xs. parts_at (suc d) (xs ++ us)) group.is ∙ ap (λ xs. parts_at (suc (suc d)) xs) (append_assoc group.inner (Close ∷ []) us)
          ∙ inner.deeper (suc d) (Close ∷ us);
    }

counts_one : (v : Value) → CountsOne v
counts_one = value_induction CountsOne
    (λ x ts h.
    let number = number_of ts x.value (h ∙ shape_of-Bits x) in
    record {
      here = λ us. ap (λ xs. parts_at 0 (xs ++ us)) number.is ∙ omega arith;
      deeper = λ d us. ap (λ xs. parts_at (suc d) (xs ++ us)) number.is;
    })
    (λ vs each ts h. counts_group Round vs each ts (h ∙ shape_of-Tuple vs))
    (λ vs each ts h. counts_group Square vs each ts (h ∙ shape_of-Array vs))

each_counts : (vs : List Value) → EachHas CountsOne vs
each_counts [] = tt
each_counts (v ∷ vs) = (counts_one v, each_counts vs)

-- the tokens of values before the bracket that closes them
pub counts_values : (vs : List Value) (ts us : List Token) → map unplaced ts ≡ all_of (map shape_of vs) → parts_at 0 (ts ++ Close ∷ us) ≡ length vs
counts_values vs ts us h = (counts_all vs (each_counts vs) ts h).here (Close ∷ us) ∙ omega arith
