-- What the reader takes to its end is spelled by a form.
use Rattle.std.proofs.Common.{◌≡◌, ℕ, zero, suc, ◌+◌, ◌*◌, ◌<◌, ◌≤◌, nat_le, nat_lt, List, [], ◌∷◌, ◌++◌, length, append_assoc, append-nil, Bool, true, false, IsTrue, if◌then◌else◌, Option, Some, None, ◌⊎◌, inl, inr, refl, sym, ap, subst, ◌∙◌, arith}
use Rattle.std.specs.List.{list_all}
use Rattle.std.proofs.lemmas.Bool.Decides.{nat_tests}
use Rattle.xb_value.specs.declared.token.Bracket.{Bracket}
use Rattle.xb_value.specs.declared.token.Bracket.TheVariants.{Round, Square}
use Rattle.xb_value.specs.declared.token.Token.{Token}
use Rattle.xb_value.specs.declared.token.Token.TheVariants.{Number, Open, Close}
use Rattle.xb_value.specs.declared.scan.Class.{Class}
use Rattle.xb_value.specs.declared.scan.Class.TheVariants.{Space, Comma, Ex, Opens, Closes, Digit, Other}
use Rattle.xb_value.specs.declared.scan.Mode.TheVariants.{First, Next, Zero, Hex, Digits, After}
use Rattle.xb_value.specs.Form.{Form, Items, number, empty, group, last, next, form_text, items_text, is_form, are_forms, opening, closing, spaces}
use Rattle.std.specs.Char.{is_ascii_hexdigit}
use Rattle.xb_value.specs.Inner.Scanner.{class_of, Scan, scan, begin, close, follow, first, digits, step, ended, is_same}
use Rattle.xb_value.specs.Inner.Scanner as read
use Rattle.xb_value.proofs.Widths.{and_true}
use Rattle.xb_value.proofs.Classes.{IsOf, class_of-is, zero_digit}

abbrev pub and_then : {A : Type 0} → (Scan → Option A) → Option Scan → Option A
and_then f None = None
and_then f (Some s) = f s

-- the numbers and brackets, where the text from here on is read to its end
abbrev pub outcome : Scan → ℕ → List ℕ → Option (List Token)
outcome s p [] = ended s
outcome s p (b ∷ bs) = and_then (λ t. outcome t (p + 1) bs) (step s p (class_of b))

abbrev pub Ends : Scan → ℕ → List ℕ → Type 0
Ends s p bs = (us : List Token) × (outcome s p bs ≡ Some us)

-- the same behind a step
abbrev pub EndsFrom : Option Scan → ℕ → List ℕ → Type 0
EndsFrom r p bs = (us : List Token) × (and_then (λ t. outcome t p bs) r ≡ Some us)

pub no_end : {A : Type 0} (p : ℕ) (bs : List ℕ) → EndsFrom None p bs → A
no_end p bs h = let bad : ◌≡◌ {A = Option (List Token)} None (Some h.0) = h.1 in absurd (cc)

-- a form at the front of the text, and what is left behind it
pub record ValueFound (t : List ℕ) (ks : List Bracket) : Type 0 where
  pub form : Form
  pub formed : IsTrue (is_form form)
  pub rest : List ℕ
  pub is : t ≡ form_text form ++ rest
  pub shorter : length rest < length t
  pub tokens : List Token
  pub offset : ℕ
  pub ends : Ends (scan ks tokens After) offset rest

-- items and their closing bracket at the front of the text
pub record ItemsFound (t : List ℕ) (k : Bracket) (ks : List Bracket) : Type 0 where
  pub items : Items
  pub formed : IsTrue (are_forms items)
  pub rest : List ℕ
  pub is : t ≡ items_text items ++ closing k ∷ rest
  pub shorter : length rest < length t
  pub tokens : List Token
  pub offset : ℕ
  pub ends : Ends (scan ks tokens After) offset rest

-- spaces and a closing bracket
pub record EmptyFound (t : List ℕ) (k : Bracket) (ks : List Bracket) : Type 0 where
  pub blanks : ℕ
  pub rest : List ℕ
  pub is : t ≡ spaces blanks ++ closing k ∷ rest
  pub shorter : length rest < length t
  pub tokens : List Token
  pub offset : ℕ
  pub ends : Ends (scan ks tokens After) offset rest

-- spaces, a comma and items with their closing bracket
pub record MoreFound (t : List ℕ) (k : Bracket) (ks : List Bracket) : Type 0 where
  pub blanks : ℕ
  pub items : Items
  pub formed : IsTrue (are_forms items)
  pub rest : List ℕ
  pub is : t ≡ spaces blanks ++ 44 ∷ (items_text items ++ closing k ∷ rest)
  pub shorter : length rest < length t
  pub tokens : List Token
  pub offset : ℕ
  pub ends : Ends (scan ks tokens After) offset rest

-- ---- digits

-- the digits that go on a number, and what is left behind them
pub record DigitsFound (t : List ℕ) (n : ℕ) (ks : List Bracket) : Type 0 where
  pub more : List ℕ
  pub formed : IsTrue (list_all is_ascii_hexdigit more)
  pub most : n + length more ≤ 32
  pub rest : List ℕ
  pub is : t ≡ more ++ rest
  pub shorter : length rest ≤ length t
  pub tokens : List Token
  pub offset : ℕ
  pub ends : Ends (scan ks tokens After) offset rest

ended_digits : (ks : List Bracket) (ts us : List Token) (at n v : ℕ) → ended (scan ks ts (Digits at n v)) ≡ Some us → ended (scan ks (ts ++ Number at v ∷ []) After) ≡ Some us
ended_digits [] ts us at n v h = h
ended_digits (k ∷ ks) ts us at n v h = absurd (cc)

find_digits : (t : List ℕ) (ks : List Bracket) (ts : List Token) (at n v p : ℕ) → n ≤ 32 → Ends (scan ks ts (Digits at n v)) p t → DigitsFound t n ks
find_digits [] ks ts at n v p most h = record {
  more = [];
  formed = refl;
  most = omega arith;
  rest = [];
  is = refl;
  shorter = omega arith;
  tokens = ts ++ Number at v ∷ [];
  offset = p;
  ends = (h.0, ended_digits ks ts h.0 at n v h.1);
}
find_digits (b ∷ bs) ks ts at n v p most h = by_class (λ w le ends. find_digits bs ks ts at (n + 1) w (p + 1) le ends) (class_of b) refl
  where
    after : (c : Class) → class_of b ≡ c → EndsFrom (digits ks ts at n v c) (p + 1) bs
    after c e = subst (λ x. EndsFrom (digits ks ts at n v x) (p + 1) bs) e h

    stop : EndsFrom (follow ks (ts ++ Number at v ∷ []) (class_of b)) (p + 1) bs → DigitsFound (b ∷ bs) n ks
    stop ends = record {
      more = [];
      formed = refl;
      most = omega arith;
      rest = b ∷ bs;
      is = refl;
      shorter = omega arith;
      tokens = ts ++ Number at v ∷ [];
      offset = p;
      ends = ends;
    }

    follows : (c : Class) → class_of b ≡ c → EndsFrom (follow ks (ts ++ Number at v ∷ []) c) (p + 1) bs → DigitsFound (b ∷ bs) n ks
    follows c e ends = stop (subst (λ x. EndsFrom (follow ks (ts ++ Number at v ∷ []) x) (p + 1) bs) (sym e) ends)

    digit : ((w : ℕ) → n + 1 ≤ 32 → Ends (scan ks ts (Digits at (n + 1) w)) (p + 1) bs → DigitsFound bs (n + 1) ks) → (d : ℕ) → class_of b ≡ Digit d → (t : Bool) → nat_lt n 32 ≡ t → DigitsFound (b ∷ bs) n ks
    digit later d e true less =
        let in_range : n + 1 ≤ 32 = grind (arith, nat_tests, less) in
        let found = later (v * 16 + d) in_range (subst (λ t. EndsFrom (if t then (Some (scan ks ts (Digits at (n + 1) (v * 16 + d)))) else None) (p + 1) bs) less (after (Digit d) e)) in
        let hex : IsTrue (is_ascii_hexdigit b) = (subst (IsOf b) e (class_of-is b)).0 in
        record {
          more = b ∷ found.more;
          formed = rw hex found.formed;
          most = omega (arith, found.most);
          rest = found.rest;
          is = ap (λ t. b ∷ t) found.is;
          shorter = omega (arith, found.shorter);
          tokens = found.tokens;
          offset = found.offset;
          ends = found.ends;
        }
    digit later d e false less = no_end (p + 1) bs (subst (λ t. EndsFrom (if t then (Some (scan ks ts (Digits at (n + 1) (v * 16 + d)))) else None) (p + 1) bs) less (after (Digit d) e))

    by_class : ((w : ℕ) → n + 1 ≤ 32 → Ends (scan ks ts (Digits at (n + 1) w)) (p + 1) bs → DigitsFound bs (n + 1) ks) → (c : Class) → class_of b ≡ c → DigitsFound (b ∷ bs) n ks
    by_class later (Digit d) e = digit later d e (nat_lt n 32) refl
    by_class later Space e = follows Space e (after Space e)
    by_class later Comma e = follows Comma e (after Comma e)
    by_class later Ex e = follows Ex e (after Ex e)
    by_class later (Opens k) e = follows (Opens k) e (after (Opens k) e)
    by_class later (Closes k) e = follows (Closes k) e (after (Closes k) e)
    by_class later Other e = follows Other e (after Other e)

-- ---- a number

number_formed : (d : ℕ) (ds : List ℕ) → IsTrue (is_ascii_hexdigit d) → IsTrue (list_all is_ascii_hexdigit ds) → 1 + length ds ≤ 32 → IsTrue (is_form (number (d ∷ ds)))
number_formed d ds hex all most =
    let few : IsTrue (nat_le (suc (length ds)) 32) = grind (arith, nat_tests) in
    let some : IsTrue (nat_le 1 (suc (length ds))) = grind (arith, nat_tests) in
    and_true _ _ (and_true _ _ (and_true _ _ hex all) some) few

-- behind the `0`
find_number : (t : List ℕ) (ks : List Bracket) (ts : List Token) (at p : ℕ) → Ends (scan ks ts (Zero at)) p t → ValueFound (48 ∷ t) ks
find_number [] ks ts at p h = absurd (cc h.1)
find_number (x ∷ t) ks ts at p h = by_class (class_of x) refl
  where
    after : (c : Class) → class_of x ≡ c → EndsFrom (read.step_in (Zero at) ks ts p c) (p + 1) t
    after c e = subst (λ y. EndsFrom (read.step_in (Zero at) ks ts p y) (p + 1) t) e h

    behind : x ≡ 120 → (u : List ℕ) → t ≡ u → Ends (scan ks ts (Hex at)) (p + 1) u → ValueFound (48 ∷ x ∷ t) ks
    behind is [] e ends = absurd (cc ends.1)
    behind is (d ∷ ds) e ends = first_digit (class_of d) refl
      where
        goes : (c : Class) → class_of d ≡ c → EndsFrom (read.step_in (Hex at) ks ts (p + 1) c) (p + 1 + 1) ds
        goes c f = subst (λ y. EndsFrom (read.step_in (Hex at) ks ts (p + 1) y) (p + 1 + 1) ds) f ends

        none : (c : Class) → class_of d ≡ c → read.step_in (Hex at) ks ts (p + 1) c ≡ None → ValueFound (48 ∷ x ∷ t) ks
        none c f never = no_end (p + 1 + 1) ds (subst (λ r. EndsFrom r (p + 1 + 1) ds) never (goes c f))

        first_digit : (c : Class) → class_of d ≡ c → ValueFound (48 ∷ x ∷ t) ks
        first_digit (Digit v) f =
            let found = find_digits ds ks ts at 1 v (p + 1 + 1) (omega arith) (goes (Digit v) f) in
            let hex : IsTrue (is_ascii_hexdigit d) = (subst (IsOf d) f (class_of-is d)).0 in
            record {
              form = number (d ∷ found.more);
              formed = number_formed d found.more hex found.formed found.most;
              rest = found.rest;
              is = ap (λ y. 48 ∷ y ∷ t) is ∙ ap (λ u. 48 ∷ 120 ∷ u) (e ∙ ap (λ u. d ∷ u) found.is);
              shorter = omega (arith, found.shorter, ap length e);
              tokens = found.tokens;
              offset = found.offset;
              ends = found.ends;
            }
        first_digit Space f = none Space f refl
        first_digit Comma f = none Comma f refl
        first_digit Ex f = none Ex f refl
        first_digit (Opens k) f = none (Opens k) f refl
        first_digit (Closes k) f = none (Closes k) f refl
        first_digit Other f = none Other f refl

    none : (c : Class) → class_of x ≡ c → read.step_in (Zero at) ks ts p c ≡ None → ValueFound (48 ∷ x ∷ t) ks
    none c e never = no_end (p + 1) t (subst (λ r. EndsFrom r (p + 1) t) never (after c e))

    by_class : (c : Class) → class_of x ≡ c → ValueFound (48 ∷ x ∷ t) ks
    by_class Ex e = behind (subst (IsOf x) e (class_of-is x)) t refl (after Ex e)
    by_class Space e = none Space e refl
    by_class Comma e = none Comma e refl
    by_class (Opens k) e = none (Opens k) e refl
    by_class (Closes k) e = none (Closes k) e refl
    by_class (Digit d) e = none (Digit d) e refl
    by_class Other e = none Other e refl

-- ---- items

-- one more space in front
spaced : Items → Items
spaced (last k f m) = last (suc k) f m
spaced (next k f m is) = next (suc k) f m is

items_text-spaced : (is : Items) → items_text (spaced is) ≡ 32 ∷ items_text is
unfolding spaced
items_text-spaced (last k f m) = refl
items_text-spaced (next k f m is) = refl

are_forms-spaced : (is : Items) → are_forms (spaced is) ≡ are_forms is
unfolding spaced
are_forms-spaced (last k f m) = refl
are_forms-spaced (next k f m is) = refl

same_bracket : (k b : Bracket) → is_same k b ≡ true → b ≡ k
same_bracket Round Round h = refl
same_bracket Square Square h = refl
same_bracket Round Square h = absurd (cc)
same_bracket Square Round h = absurd (cc)

-- the innermost bracket is closed: which byte it is, and that the text goes on
record Closed (x : ℕ) (k : Bracket) (ks : List Bracket) (p : ℕ) (t : List ℕ) : Type 0 where
  is : x ≡ closing k
  tokens : List Token
  ends : Ends (scan ks tokens After) p t

closed : (x : ℕ) (b k : Bracket) (ks : List Bracket) (ts : List Token) (p : ℕ) (t : List ℕ) → class_of x ≡ Closes b → EndsFrom (close (k ∷ ks) ts b) p t → Closed x k ks p t
closed x b k ks ts p t e h = by_case (is_same k b) refl
  where
    goes : (s : Bool) → is_same k b ≡ s → EndsFrom (if s then (Some (scan ks (ts ++ Close ∷ []) After)) else None) p t
    goes s f = subst (λ s. EndsFrom (if s then (Some (scan ks (ts ++ Close ∷ []) After)) else None) p t) f h

    by_case : (s : Bool) → is_same k b ≡ s → Closed x k ks p t
    by_case true f = record {
      is = subst (IsOf x) e (class_of-is x) ∙ ap closing (same_bracket k b f);
      tokens = ts ++ Close ∷ [];
      ends = goes true f;
    }
    by_case false f = no_end p t (goes false f)

-- ---- values and what follows them

-- an item and its closing bracket, or an item, a comma and more items
item_closed : (t : List ℕ) (k : Bracket) (ks : List Bracket) (v : ValueFound t (k ∷ ks)) → EmptyFound v.rest k ks → ItemsFound t k ks
item_closed t k ks v e = record {
  items = last 0 v.form e.blanks;
  formed = v.formed;
  rest = e.rest;
  is = v.is ∙ ap (λ u. form_text v.form ++ u) e.is ∙ sym (append_assoc (form_text v.form) (spaces e.blanks) (closing k ∷ e.rest));
  shorter = omega (arith, v.shorter, e.shorter);
  tokens = e.tokens;
  offset = e.offset;
  ends = e.ends;
}

item_more : (t : List ℕ) (k : Bracket) (ks : List Bracket) (v : ValueFound t (k ∷ ks)) → MoreFound v.rest k ks → ItemsFound t k ks
item_more t k ks v m = record {
  items = next 0 v.form m.blanks m.items;
  formed = and_true _ _ v.formed m.formed;
  rest = m.rest;
  is =
      v.is ∙ ap (λ u. form_text v.form ++ u) m.is
      ∙ ap (λ u. form_text v.form ++ u) (sym (append_assoc (spaces m.blanks) (44 ∷ items_text m.items) (closing k ∷ m.rest)))
      ∙ sym (append_assoc (form_text v.form) (spaces m.blanks ++ 44 ∷ items_text m.items) (closing k ∷ m.rest));
  shorter = omega (arith, v.shorter, m.shorter);
  tokens = m.tokens;
  offset = m.offset;
  ends = m.ends;
}

item_found : (t : List ℕ) (k : Bracket) (ks : List Bracket) (v : ValueFound t (k ∷ ks)) → EmptyFound v.rest k ks ⊎ MoreFound v.rest k ks → ItemsFound t k ks
item_found t k ks v (inl e) = item_closed t k ks v e
item_found t k ks v (inr m) = item_more t k ks v m

items_spaced : (b : ℕ) (t : List ℕ) (k : Bracket) (ks : List Bracket) → b ≡ 32 → ItemsFound t k ks → ItemsFound (b ∷ t) k ks
unfolding spaced
items_spaced b t k ks e i = record {
  items = spaced i.items;
  formed = are_forms-spaced i.items ∙ i.formed;
  rest = i.rest;
  is = ap (λ c. c ∷ t) e ∙ ap (λ u. 32 ∷ u) i.is ∙ ap (λ u. u ++ closing k ∷ i.rest) (sym (items_text-spaced i.items));
  shorter = omega (arith, i.shorter);
  tokens = i.tokens;
  offset = i.offset;
  ends = i.ends;
}

empty_spaced : (b : ℕ) (t : List ℕ) (k : Bracket) (ks : List Bracket) → b ≡ 32 → EmptyFound t k ks → EmptyFound (b ∷ t) k ks
empty_spaced b t k ks e i = record {
  blanks = suc i.blanks;
  rest = i.rest;
  is = ap (λ c. c ∷ t) e ∙ ap (λ u. 32 ∷ u) i.is;
  shorter = omega (arith, i.shorter);
  tokens = i.tokens;
  offset = i.offset;
  ends = i.ends;
}

more_spaced : (b : ℕ) (t : List ℕ) (k : Bracket) (ks : List Bracket) → b ≡ 32 → MoreFound t k ks → MoreFound (b ∷ t) k ks
more_spaced b t k ks e i = record {
  blanks = suc i.blanks;
  items = i.items;
  formed = i.formed;
  rest = i.rest;
  is = ap (λ c. c ∷ t) e ∙ ap (λ u. 32 ∷ u) i.is;
  shorter = omega (arith, i.shorter);
  tokens = i.tokens;
  offset = i.offset;
  ends = i.ends;
}

empty_closed : (x : ℕ) (t : List ℕ) (k : Bracket) (ks : List Bracket) (p : ℕ) → Closed x k ks p t → EmptyFound (x ∷ t) k ks
empty_closed x t k ks p c = record {
  blanks = 0;
  rest = t;
  is = ap (λ y. y ∷ t) c.is;
  shorter = omega arith;
  tokens = c.tokens;
  offset = p;
  ends = c.ends;
}

more_comma : (x : ℕ) (t : List ℕ) (k : Bracket) (ks : List Bracket) → x ≡ 44 → ItemsFound t k ks → MoreFound (x ∷ t) k ks
more_comma x t k ks e i = record {
  blanks = 0;
  items = i.items;
  formed = i.formed;
  rest = i.rest;
  is = ap (λ y. y ∷ t) e ∙ ap (λ u. 44 ∷ u) i.is;
  shorter = omega (arith, i.shorter);
  tokens = i.tokens;
  offset = i.offset;
  ends = i.ends;
}

group_found : (x : ℕ) (t : List ℕ) (k : Bracket) (ks : List Bracket) → x ≡ opening k → EmptyFound t k ks ⊎ ItemsFound t k ks → ValueFound (x ∷ t) ks
group_found x t k ks e (inl i) = record {
  form = empty k i.blanks;
  formed = refl;
  rest = i.rest;
  is = ap (λ y. y ∷ t) e ∙ ap (λ u. opening k ∷ u) (i.is ∙ sym (append_assoc (spaces i.blanks) (closing k ∷ []) i.rest));
  shorter = omega (arith, i.shorter);
  tokens = i.tokens;
  offset = i.offset;
  ends = i.ends;
}
group_found x t k ks e (inr i) = record {
  form = group k i.items;
  formed = i.formed;
  rest = i.rest;
  is = ap (λ y. y ∷ t) e ∙ ap (λ u. opening k ∷ u) (i.is ∙ sym (append_assoc (items_text i.items) (closing k ∷ []) i.rest));
  shorter = omega (arith, i.shorter);
  tokens = i.tokens;
  offset = i.offset;
  ends = i.ends;
}

number_found : (x : ℕ) (t : List ℕ) (ks : List Bracket) → x ≡ 48 → ValueFound (48 ∷ t) ks → ValueFound (x ∷ t) ks
number_found x t ks e v = subst (λ y. ValueFound (y ∷ t) ks) (sym e) v

byte_is : (b : ℕ) (c : Class) → class_of b ≡ c → IsOf b c
byte_is b c e = subst (IsOf b) e (class_of-is b)

both_spaced : (b : ℕ) (t : List ℕ) (k : Bracket) (ks : List Bracket) → b ≡ 32 → EmptyFound t k ks ⊎ ItemsFound t k ks → EmptyFound (b ∷ t) k ks ⊎ ItemsFound (b ∷ t) k ks
both_spaced b t k ks e (inl i) = inl (empty_spaced b t k ks e i)
both_spaced b t k ks e (inr i) = inr (items_spaced b t k ks e i)

tail_spaced : (b : ℕ) (t : List ℕ) (k : Bracket) (ks : List Bracket) → b ≡ 32 → EmptyFound t k ks ⊎ MoreFound t k ks → EmptyFound (b ∷ t) k ks ⊎ MoreFound (b ∷ t) k ks
tail_spaced b t k ks e (inl i) = inl (empty_spaced b t k ks e i)
tail_spaced b t k ks e (inr i) = inr (more_spaced b t k ks e i)

mutual
  find_value : (n b : ℕ) (t : List ℕ) (ks : List Bracket) (ts : List Token) (p : ℕ) → length t + length t + length t + length t + 1 ≤ n
      → (c : Class) → class_of b ≡ c → EndsFrom (begin ks ts p c) (p + 1) t → ValueFound (b ∷ t) ks
  find_value zero b t ks ts p fuel c e h = absurd (omega arith)
  find_value (suc n) b t ks ts p fuel (Digit zero) e h =
      let digit = byte_is b (Digit zero) e in
      number_found b t ks (zero_digit b digit.0 digit.1) (find_number t ks ts p (p + 1) h)
  find_value (suc n) b t ks ts p fuel (Digit (suc d)) e h = no_end (p + 1) t h
  find_value (suc n) b t ks ts p fuel (Opens k) e h =
      group_found b t k ks (byte_is b (Opens k) e) (find_first n t k ks (ts ++ Open p k ∷ []) (p + 1) (omega arith) h)
  find_value (suc n) b t ks ts p fuel Space e h = no_end (p + 1) t h
  find_value (suc n) b t ks ts p fuel Comma e h = no_end (p + 1) t h
  find_value (suc n) b t ks ts p fuel Ex e h = no_end (p + 1) t h
  find_value (suc n) b t ks ts p fuel (Closes k) e h = no_end (p + 1) t h
  find_value (suc n) b t ks ts p fuel Other e h = no_end (p + 1) t h

  find_first : (n : ℕ) (t : List ℕ) (k : Bracket) (ks : List Bracket) (ts : List Token) (p : ℕ) → length t + length t + length t + length t ≤ n
      → Ends (scan (k ∷ ks) ts First) p t → EmptyFound t k ks ⊎ ItemsFound t k ks
  find_first n [] k ks ts p fuel h = absurd (cc h.1)
  find_first zero (b ∷ t) k ks ts p fuel h = absurd (omega arith)
  find_first (suc n) (b ∷ t) k ks ts p fuel h = find_first_at n b t k ks ts p (omega arith) (class_of b) refl h

  find_first_at : (n b : ℕ) (t : List ℕ) (k : Bracket) (ks : List Bracket) (ts : List Token) (p : ℕ) → length t + length t + length t + length t + 3 ≤ n
      → (c : Class) → class_of b ≡ c → EndsFrom (first (k ∷ ks) ts p c) (p + 1) t → EmptyFound (b ∷ t) k ks ⊎ ItemsFound (b ∷ t) k ks
  find_first_at zero b t k ks ts p fuel c e h = absurd (omega arith)
  find_first_at (suc n) b t k ks ts p fuel Space e h =
      both_spaced b t k ks (byte_is b Space e) (find_first n t k ks ts (p + 1) (omega arith) h)
  find_first_at (suc n) b t k ks ts p fuel (Closes j) e h = inl (empty_closed b t k ks (p + 1) (closed b j k ks ts (p + 1) t e h))
  find_first_at (suc n) b t k ks ts p fuel (Digit d) e h = inr (find_item n b t k ks ts p (omega arith) (Digit d) e h)
  find_first_at (suc n) b t k ks ts p fuel (Opens j) e h = inr (find_item n b t k ks ts p (omega arith) (Opens j) e h)
  find_first_at (suc n) b t k ks ts p fuel Comma e h = no_end (p + 1) t h
  find_first_at (suc n) b t k ks ts p fuel Ex e h = no_end (p + 1) t h
  find_first_at (suc n) b t k ks ts p fuel Other e h = no_end (p + 1) t h

  find_item : (n b : ℕ) (t : List ℕ) (k : Bracket) (ks : List Bracket) (ts : List Token) (p : ℕ) → length t + length t + length t + length t + 2 ≤ n
      → (c : Class) → class_of b ≡ c → EndsFrom (begin (k ∷ ks) ts p c) (p + 1) t → ItemsFound (b ∷ t) k ks
  find_item zero b t k ks ts p fuel c e h = absurd (omega arith)
  find_item (suc n) b t k ks ts p fuel c e h =
      let v = find_value n b t (k ∷ ks) ts p (omega arith) c e h in
      item_found (b ∷ t) k ks v (find_follow n v.rest k ks v.tokens v.offset (omega (arith, v.shorter)) v.ends)

  find_next : (n : ℕ) (t : List ℕ) (k : Bracket) (ks : List Bracket) (ts : List Token) (p : ℕ) → length t + length t + length t + length t ≤ n
      → Ends (scan (k ∷ ks) ts Next) p t → ItemsFound t k ks
  find_next n [] k ks ts p fuel h = absurd (cc h.1)
  find_next zero (b ∷ t) k ks ts p fuel h = absurd (omega arith)
  find_next (suc n) (b ∷ t) k ks ts p fuel h = find_next_at n b t k ks ts p (omega arith) (class_of b) refl h

  find_next_at : (n b : ℕ) (t : List ℕ) (k : Bracket) (ks : List Bracket) (ts : List Token) (p : ℕ) → length t + length t + length t + length t + 3 ≤ n
      → (c : Class) → class_of b ≡ c → EndsFrom (read.next (k ∷ ks) ts p c) (p + 1) t → ItemsFound (b ∷ t) k ks
  find_next_at zero b t k ks ts p fuel c e h = absurd (omega arith)
  find_next_at (suc n) b t k ks ts p fuel Space e h =
      items_spaced b t k ks (byte_is b Space e) (find_next n t k ks ts (p + 1) (omega arith) h)
  find_next_at (suc n) b t k ks ts p fuel (Digit d) e h = find_item n b t k ks ts p (omega arith) (Digit d) e h
  find_next_at (suc n) b t k ks ts p fuel (Opens j) e h = find_item n b t k ks ts p (omega arith) (Opens j) e h
  find_next_at (suc n) b t k ks ts p fuel Comma e h = no_end (p + 1) t h
  find_next_at (suc n) b t k ks ts p fuel Ex e h = no_end (p + 1) t h
  find_next_at (suc n) b t k ks ts p fuel (Closes j) e h = no_end (p + 1) t h
  find_next_at (suc n) b t k ks ts p fuel Other e h = no_end (p + 1) t h

  find_follow : (n : ℕ) (t : List ℕ) (k : Bracket) (ks : List Bracket) (ts : List Token) (p : ℕ) → length t + length t + length t + length t ≤ n
      → Ends (scan (k ∷ ks) ts After) p t → EmptyFound t k ks ⊎ MoreFound t k ks
  find_follow n [] k ks ts p fuel h = absurd (cc h.1)
  find_follow zero (b ∷ t) k ks ts p fuel h = absurd (omega arith)
  find_follow (suc n) (b ∷ t) k ks ts p fuel h = find_follow_at n b t k ks ts p (omega arith) (class_of b) refl h

  find_follow_at : (n b : ℕ) (t : List ℕ) (k : Bracket) (ks : List Bracket) (ts : List Token) (p : ℕ) → length t + length t + length t + length t + 3 ≤ n
      → (c : Class) → class_of b ≡ c → EndsFrom (follow (k ∷ ks) ts c) (p + 1) t → EmptyFound (b ∷ t) k ks ⊎ MoreFound (b ∷ t) k ks
  find_follow_at zero b t k ks ts p fuel c e h = absurd (omega arith)
  find_follow_at (suc n) b t k ks ts p fuel Space e h =
      tail_spaced b t k ks (byte_is b Space e) (find_follow n t k ks ts (p + 1) (omega arith) h)
  find_follow_at (suc n) b t k ks ts p fuel Comma e h =
      inr (more_comma b t k ks (byte_is b Comma e) (find_next n t k ks ts (p + 1) (omega arith) h))
  find_follow_at (suc n) b t k ks ts p fuel (Closes j) e h = inl (empty_closed b t k ks (p + 1) (closed b j k ks ts (p + 1) t e h))
  find_follow_at (suc n) b t k ks ts p fuel Ex e h = no_end (p + 1) t h
  find_follow_at (suc n) b t k ks ts p fuel (Opens j) e h = no_end (p + 1) t h
  find_follow_at (suc n) b t k ks ts p fuel (Digit d) e h = no_end (p + 1) t h
  find_follow_at (suc n) b t k ks ts p fuel Other e h = no_end (p + 1) t h

-- nothing stands behind the whole value
ends_alone : (t : List ℕ) (ts : List Token) (p : ℕ) → Ends (scan [] ts After) p t → t ≡ []
ends_alone [] ts p h = refl
ends_alone (b ∷ t) ts p h = no_end (p + 1) t h

-- a text that is read to its end is spelled by a form
pub found : (t : List ℕ) → Ends read.started 0 t → (f : Form) × IsTrue (is_form f) × (form_text f ≡ t)
found [] h = absurd (cc h.1)
found (b ∷ t) h =
    let v = find_value (length t + length t + length t + length t + 1) b t [] [] 0 (omega arith) (class_of b) refl h in
    (v.form, v.formed, sym (append-nil (form_text v.form)) ∙ ap (λ u. form_text v.form ++ u) (sym (ends_alone v.rest v.tokens v.offset v.ends)) ∙ sym v.is)
