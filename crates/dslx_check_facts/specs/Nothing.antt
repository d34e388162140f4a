-- Where nothing is known of a text.
use Rattle.std.specs.Prelude.{ℕ, ◌≡◌, length, false, None}
use Rattle.dslx_check_facts.specs.declared.facts.Facts.{Facts}
use Rattle.dslx_const_tasks.specs.declared.kept.Kept.{Kept}
use Rattle.dslx_check_facts.specs.Known.{at_place, done_at, foreign_at, is_judged, is_noted_settled, kept_member, named_type_at, text_of, value_type_at}

-- no value and no member of an item is kept
pub record IsNothingKept (kept : Kept) : Type 0 where
  pub constants_size : length kept.constants.items ≡ length kept.items.text.now.items
  pub members_size : length kept.members.items ≡ length kept.items.text.now.items
  pub constants : (i : ℕ) → at_place kept.constants.items i ≡ None
  pub members : (i k : ℕ) → kept_member kept i k ≡ None

-- nothing is known of an item, an instance or a part of a declaration; what reaches itself is hidden
pub record IsNothingKnown (f : Facts) : Type 0 where
  pub kept : IsNothingKept f.kept
  pub hidden : f.kept.hidden.items ≡ f.reaching.loops.items
  pub judged_size : length f.judged.items ≡ length (text_of f).items
  pub settled_size : length f.settled.items ≡ length (text_of f).items
  pub named_types_size : length f.named_types.items ≡ length (text_of f).items
  pub value_types_size : length f.value_types.items ≡ length (text_of f).items
  pub judged : (i : ℕ) → is_judged f i ≡ false
  pub settled : (i : ℕ) → is_noted_settled f i ≡ false
  pub named_types : (i : ℕ) → named_type_at f i ≡ None
  pub value_types : (i : ℕ) → value_type_at f i ≡ None
  pub done : (n : ℕ) → done_at f n ≡ None
  pub foreign : (n : ℕ) → foreign_at f n ≡ None
