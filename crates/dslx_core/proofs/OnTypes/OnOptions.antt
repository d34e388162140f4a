-- Options that are there.
use Rattle.std.proofs.Common.{◌≡◌, Bool, true, false, ◌&&◌, Option, Some, None, refl}
use Rattle.dslx_meaning.specs.Lists.{and_then, with_both, where_true}

pub both : (a b : Bool) → (a && b) ≡ true → (a ≡ true) × (b ≡ true)
both true true h = (refl, refl)
both true false h = absurd (cc)
both false b h = absurd (cc)

pub and_both : (a b : Bool) → a ≡ true → b ≡ true → (a && b) ≡ true
and_both true b h k = k
and_both false b h k = absurd (cc)

pub some_same : {A : Type 0} (x y : A) → Some x ≡ Some y → x ≡ y
some_same x y h = cc

pub record IsThen {A B : Type 0} (o : Option A) (f : A → Option B) (y : B) : Type 0 where
  pub first : A
  pub is : o ≡ Some first
  pub gives : f first ≡ Some y

pub then_is : {A B : Type 0} (o : Option A) (f : A → Option B) (y : B) → and_then o f ≡ Some y → IsThen o f y
then_is None f y h = absurd (cc)
then_is (Some x) f y h = record { first = x; is = refl; gives = h }

pub record AreBoth {A B C : Type 0} (o : Option A) (p : Option B) (f : A → B → Option C) (z : C) : Type 0 where
  pub first : A
  pub second : B
  pub is_first : o ≡ Some first
  pub is_second : p ≡ Some second
  pub gives : f first second ≡ Some z

pub both_are : {A B C : Type 0} (o : Option A) (p : Option B) (f : A → B → Option C) (z : C) → with_both o p f ≡ Some z → AreBoth o p f z
both_are None p f z h = absurd (cc)
both_are (Some x) None f z h = absurd (cc)
both_are (Some x) (Some y) f z h = record { first = x; second = y; is_first = refl; is_second = refl; gives = h }

pub where_is : {A : Type 0} (b : Bool) (o : Option A) (x : A) → where_true b o ≡ Some x → (b ≡ true) × (o ≡ Some x)
where_is true o x h = (refl, h)
where_is false o x h = absurd (cc)

pub where_so : {A : Type 0} (b : Bool) (o : Option A) → b ≡ true → where_true b o ≡ o
where_so true o h = refl
where_so false o h = absurd (cc)
