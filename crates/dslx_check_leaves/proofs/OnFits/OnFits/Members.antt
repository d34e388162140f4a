-- The members of enums.
use Rattle.std.proofs.Common.{ℕ, ◌≡◌, ◌∙◌, ◌<◌, ◌≤◌, ◌+◌, Bool, true, false, List, [], length, get_or, Option, Some, sym, ap}
use Rattle.std.specs.Prelude.{◌&&◌}
use Rattle.dslx_tree.specs.declared.expr.Arm.{Arm}
use Rattle.dslx_tree.specs.declared.item.Definition.TheVariants as d
use Rattle.dslx_tree.specs.declared.item.Enum.{Enum}
use Rattle.dslx_tree.specs.declared.item.Member.{Member}
use Rattle.dslx_meaning.specs.Items.{as_enum, item_named}
use Rattle.dslx_meaning.specs.declared.value.DslxValue.{DslxValue}
use Rattle.dslx_meaning.specs.Rules.Mentions.{item_reaches}
use Rattle.dslx_meaning.specs.Rules.TypeEnvs.{GlobalEnv, TypeEnv}
use Rattle.dslx_check_rules.specs.declared.table.row.TypeId.{TypeId}
use Rattle.dslx_check_facts.specs.Firsts.{IsMeant}
use Rattle.dslx_check_facts.specs.Known.{FactsHold, item_at, item_names}
use Rattle.dslx_check_facts.specs.Walks.{OnlyMisses, WalkShown}
use Rattle.dslx_check_facts.specs.declared.facts.Facts.{Facts}
use Rattle.dslx_check_facts.proofs.Lemmas.Items.{means}
use Rattle.dslx_check_facts.proofs.Lemmas.Walks.{misses_trans}
use Rattle.dslx_check_leaves.specs.Fits.Fits.{ArmsFine, Asked, MatchesEach, MatchesMembers, MatchesOne, if_there, members_of}
use Rattle.dslx_check_leaves.proofs.OnFits.OnFits.Asked.{asked_at, none_before}
use Rattle.dslx_check_leaves.proofs.OnFits.OnFits.Several.{AllLeft, all_begin, all_end_is, all_more, all_not}

-- ---- members of enums

pub one_member : {f : Facts} {w0 w1 w2 : WalkShown} {ty : TypeId} {arms : List Arm} {b : Bool} (item : ℕ) (choice : Enum) (name : List ℕ) (o : Option DslxValue) → OnlyMisses w0 w1 → OnlyMisses w1 w2
    → ((known : GlobalEnv) (later : WalkShown) → FactsHold f later known → w1.missing ≡ [] → as_enum (item_at f item) ≡ Some choice → o ≡ known.items.member ((item_names f).item item) name)
    → Asked f w1 w2 (Some ty) (λ known context t. ArmsFine context t arms → b ≡ if_there context arms o) → MatchesOne f w0 w2 ty item choice name arms b
one_member {f} {w0} {w1} {w2} {ty} {arms} {b} item choice name o m n value h = record {
  fit = λ is known later context t asked none fine.
      h known later context t (asked_at m.rows asked) none fine
      ∙ ap (if_there context arms) (value known later asked.agrees (none_before n none) is ∙ (λ i. (sym asked.items i).member ((item_names f).item item) name));
}

pub reached_members : {f : Facts} {w0 w1 : WalkShown} {ty : TypeId} {arms : List Arm} {b : Bool} (owner item : ℕ) (choice : Enum)
    → ((known : GlobalEnv) (later : WalkShown) → FactsHold f later known → item_reaches known.whole ((item_names f).item owner) ((item_names f).item item) ≡ true)
    → IsMeant f ((item_names f).item item) item (d.Enum choice) → MatchesEach f w0 w1 ty item choice choice.members arms b → MatchesMembers f w0 w1 ty owner item arms b
reached_members {f} {w0} {w1} {ty} {arms} {b} owner item choice reaches meant h = record {
  fit = λ known later context t asked none fine.
      let name : List ℕ = (item_names f).item item in
      let named : as_enum (item_named name known.whole.items) ≡ Some choice = ap as_enum (means f later known name asked.agrees ∙ meant.meant) in
      h.fit (ap as_enum meant.at) known later context t asked none fine
      ∙ (λ i. sym (reaches known later asked.agrees) i && members_of context arms name (sym named i));
}

-- ---- members, one after another

abbrev member_there : Facts → ℕ → List Arm → TypeEnv → Member → Bool
member_there f item arms context m = if_there context arms (context.known.items.member ((item_names f).item item) m.name.name)

pub record MembersLeft (f : Facts) (old new : WalkShown) (ty : TypeId) (item : ℕ) (choice : Enum) (members : List Member) (arms : List Arm) (i : ℕ) : Type 0 where
  pub misses : OnlyMisses old new
  pub left : as_enum (item_at f item) ≡ Some choice → AllLeft f old new (Some ty) members (λ context t. ArmsFine context t arms) (member_there f item arms) i

pub members_begin : {f : Facts} {w : WalkShown} {ty : TypeId} {item : ℕ} {choice : Enum} {members : List Member} {arms : List Arm} → OnlyMisses w w → MembersLeft f w w ty item choice members arms 0
members_begin {f} {w} {ty} {item} {choice} {members} {arms} m = record { misses = m; left = λ is. all_begin m }

pub members_more : {f : Facts} {w0 w1 w2 : WalkShown} {ty : TypeId} {item : ℕ} {choice : Enum} {members : List Member} {arms : List Arm} {b : Bool} (i : ℕ) (x : Member) → MembersLeft f w0 w1 ty item choice members arms i
    → i < length members → x ≡ get_or members i x → OnlyMisses w1 w2 → MatchesOne f w1 w2 ty item choice x.name.name arms b → b ≡ true → MembersLeft f w0 w2 ty item choice members arms (i + 1)
members_more {f} {w0} {w1} {w2} {ty} {item} {choice} {members} {arms} {b} i x far h e m one so = record {
  misses = misses_trans w0 w1 w2 far.misses m;
  left = λ is. all_more i x (far.left is) h e m (one.fit is) so;
}

pub members_not : {f : Facts} {w0 w1 w2 : WalkShown} {ty : TypeId} {item : ℕ} {choice : Enum} {members : List Member} {arms : List Arm} {b : Bool} (i : ℕ) (x : Member) → MembersLeft f w0 w1 ty item choice members arms i
    → i < length members → x ≡ get_or members i x → OnlyMisses w1 w2 → MatchesOne f w1 w2 ty item choice x.name.name arms b → b ≡ false → MatchesEach f w0 w2 ty item choice members arms false
members_not {f} {w0} {w1} {w2} {ty} {item} {choice} {members} {arms} {b} i x far h e m one not_so = record { fit = λ is. all_not i x (far.left is) h e m (one.fit is) not_so }

pub members_all : {f : Facts} {w0 w1 : WalkShown} {ty : TypeId} {item : ℕ} {choice : Enum} {members : List Member} {arms : List Arm} (i : ℕ) → length members ≤ i → MembersLeft f w0 w1 ty item choice members arms i
    → MatchesEach f w0 w1 ty item choice members arms true
members_all {f} {w0} {w1} {ty} {item} {choice} {members} {arms} i h far = record { fit = λ is. all_end_is i h (far.left is) }
