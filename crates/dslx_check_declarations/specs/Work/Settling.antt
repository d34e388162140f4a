-- Items of which nothing more is to be known, nor of what they mention.
use Rattle.std.specs.Prelude.{ℕ, ◌≡◌, ◌&&◌, ◌||◌, not, Bool, true, false, Option, None, is_some}
use Rattle.std.specs.List.{list_all}
use Rattle.base.specs.TopoOrder.Needs.{Needs, needs_of}
use Rattle.dslx_check_rules.specs.declared.table.row.TypeId.{TypeId}
use Rattle.dslx_const_tasks.specs.Values.{hidden_at}
use Rattle.dslx_check_facts.specs.Known.{is_judged, loops, member_at, named_type_at, names_type, settled_at, text_of, value_at}
use Rattle.dslx_check_facts.specs.Names.{definition_at}
use Rattle.dslx_check_facts.specs.declared.facts.Facts.{Facts}

-- what is hidden: what reaches itself, and a type that is refused
abbrev pub is_to_hide : Facts → ℕ → Option TypeId → Bool
is_to_hide f i ty = loops f i || (names_type (definition_at (text_of f).items i) && not (is_some ty))

-- it is judged, and of what it mentions nothing more is to be known
abbrev pub may_settle : Facts → ℕ → Bool
may_settle f i = list_all (settled_at f) (needs_of f.reaching.needs.items i) && is_judged f i

-- so it is of each item that doesn't reach itself and of which it is noted. What is to be hidden is, and no value is kept of an item that isn't judged
pub record AreSettled (f : Facts) : Type 0 where
  pub needs : (i j : ℕ) → loops f i ≡ false → settled_at f i ≡ true → Needs f.reaching.needs.items i j → settled_at f j ≡ true
  pub judged : (i : ℕ) → loops f i ≡ false → settled_at f i ≡ true → is_judged f i ≡ true
  pub hides : (i : ℕ) → is_judged f i ≡ true → hidden_at f.kept i ≡ is_to_hide f i (named_type_at f i)
  pub hides_loops : (i : ℕ) → loops f i ≡ true → hidden_at f.kept i ≡ true
  pub unjudged : (i : ℕ) → is_judged f i ≡ false → value_at f i ≡ None
  pub no_members : (i k : ℕ) → is_judged f i ≡ false → member_at f i k ≡ None
