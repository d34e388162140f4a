-- Options that are there.
use Rattle.std.proofs.Common.{◌≡◌, Bool, true, false, ◌&&◌, Option, Some, None, refl}
use Rattle.dslx_meaning.specs.Lists.{with_both, where_true}

pub some_same : {A : Type 0} (x y : A) → Some x ≡ Some y → x ≡ y
some_same x y h = cc

pub both : (a b : Bool) → (a && b) ≡ true → (a ≡ true) × (b ≡ true)
both true true h = (refl, refl)
both true false h = absurd (cc)
both false b h = absurd (cc)

pub and_both : (a b : Bool) → a ≡ true → b ≡ true → (a && b) ≡ true
and_both true b h k = k
and_both false b h k = absurd (cc)

pub where_is : {A : Type 0} (b : Bool) (o : Option A) (x : A) → where_true b o ≡ Some x → (b ≡ true) × (o ≡ Some x)
where_is true o x h = (refl, h)
where_is false o x h = absurd (cc)

pub record AreBoth {A B C : Type 0} (o : Option A) (p : Option B) (f : A → B → Option C) (z : C) : Type 0 where
  pub first : A
  pub second : B
  pub is_first : o ≡ Some first
  pub is_second : p ≡ Some second
  pub gives : f first second ≡ Some z

pub both_are : {A B C : Type 0} (o : Option A) (p : Option B) (f : A → B → Option C) (z : C) → with_both o p f ≡ Some z → AreBoth o p f z
both_are None p f z h = absurd (cc)
both_are (Some x) None f z h = absurd (cc)
both_are (Some x) (Some y) f z h = record { first = x; second = y; is_first = refl; is_second = refl; gives = h }
