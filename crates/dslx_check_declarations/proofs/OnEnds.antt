-- Ends that are handed over as others.
use Rattle.std.proofs.Common.{◌≡◌, ◌∙◌, ◌||◌, Bool, true, false, not, ℕ, List, Option, Some, None, refl, sym, ap, subst}
use Rattle.dslx_tree.specs.declared.process.Direction.{Direction}
use Rattle.dslx_meaning.specs.declared.ty.DslxType.{DslxType}
use Rattle.dslx_meaning.specs.Rules.CallRules.{same_direction}
use Rattle.dslx_meaning.specs.Rules.ProcRules.{misfits}
use Rattle.dslx_meaning.specs.Rules.TypeEnvs.{ChannelEnd}
use Rattle.dslx_check_rules.specs.declared.table.row.TypeRow.{TypeRow}
use Rattle.dslx_check_rules.specs.Interned.{HasRowIf, ItemNames, type_if}
use Rattle.dslx_check_facts.specs.declared.type_env.MemberEnd.{MemberEnd}
use Rattle.dslx_check_declarations.specs.Ends.{IsEndNamed, IsEndAs, other_word}

-- by the directions and the words
misfits_by : (direction : Direction) (word : Option DslxType) (name : List ℕ) (other : Direction) (u : Option DslxType)
    → misfits direction word (Some (record { name = name; direction = other; word = u })) ≡ (not (same_direction direction other) || other_word word u)
misfits_by direction None name other u = refl
misfits_by direction (Some t) name other None = refl
misfits_by direction (Some t) name other (Some u) = refl

pub no_end : (names : ItemNames) (rows later : List TypeRow) (direction : Direction) (word : Option DslxType) (e : Option MemberEnd) (o : Option ChannelEnd) → e ≡ None → IsEndNamed names rows later e o
    → false ≡ misfits direction word o
no_end names rows later direction word None None is h = refl
no_end names rows later direction word None (Some o) is h = absurd h
no_end names rows later direction word (Some e) o is h = absurd (never is)
  where
    never : Some e ≡ None → ⊥
    never k = cc

pub some_end : (names : ItemNames) (rows later : List TypeRow) (direction : Direction) (word : Option DslxType) (e : Option MemberEnd) (o : Option ChannelEnd) (x : MemberEnd) (one found other : Bool)
    → e ≡ Some x → IsEndNamed names rows later e o → one ≡ same_direction direction x.direction → (HasRowIf rows x.word → other ≡ other_word word (type_if names later x.word)) → found ≡ (not one || other)
    → found ≡ misfits direction word o
some_end names rows later direction word None o x one found other is h same differ r = absurd (never is)
  where
    never : None ≡ Some x → ⊥
    never k = cc
some_end names rows later direction word (Some e) None x one found other is h same differ r = absurd h
some_end names rows later direction word (Some e) (Some o) x one found other is h same differ r = by (inner is) h
  where
    inner : Some e ≡ Some x → e ≡ x
    inner k = cc

    by : e ≡ x → IsEndAs names rows later e o → found ≡ misfits direction word (Some o)
    by k a =
        let b : IsEndAs names rows later x o = subst (λ (y : MemberEnd). IsEndAs names rows later y o) k a in
        r ∙ (λ i. not (same i) || differ b.row i) ∙ (λ i. not (same_direction direction (b.direction i)) || other_word word (b.word i)) ∙ sym (misfits_by direction word o.name o.direction o.word)
