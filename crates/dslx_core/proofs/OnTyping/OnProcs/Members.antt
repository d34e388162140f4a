-- Members of procs with whose text nothing is wrong.
use Rattle.std.proofs.Common.{◌≡◌, ℕ, Bool, true, false, if◌then◌else◌, List, [], ◌∷◌, map, Option, Some, subst}
use Rattle.std.specs.Str.{bytes_eq}
use Rattle.xb_bits.specs.Word.{Word}
use Rattle.dslx_tree.specs.declared.process.End.{End}
use Rattle.dslx_tree.specs.declared.type_expr.TypeExpr.{out-TypeExpr}
use Rattle.dslx_meaning.specs.Activation.{member_type}
use Rattle.dslx_meaning.specs.Environment.{Env}
use Rattle.dslx_meaning.specs.Meaning.{written_type}
use Rattle.dslx_meaning.specs.Values.{from_word}
use Rattle.dslx_meaning.specs.declared.ty.DslxType.{DslxType}
use Rattle.dslx_meaning.specs.Rules.CallRules.{channel_end_in}
use Rattle.dslx_meaning.specs.Rules.ItemRules.{Found, and_found, found_in, typing_of_inner, only_faults}
use Rattle.dslx_meaning.specs.Rules.TypeEnvs.{GlobalEnv, ChannelEnd, TypeEnv}
use Rattle.dslx_meaning.specs.Rules.NameRules.{local_name}
use Rattle.dslx_meaning.specs.Rules.NodeRules.{type_pair}
use Rattle.dslx_meaning.specs.Rules.ProcRules.{channel_type, ends_found, channel_end_of, word_limit}
use Rattle.dslx_meaning.specs.Rules.TypeRules.{span_of_type, unit_faults}
use Rattle.dslx_core.specs.Typing.Typed.Declared.{IsDeclared}
use Rattle.dslx_core.specs.Typing.Typed.Kinds.{is_of}
use Rattle.dslx_core.specs.Typing.Typed.WellTyped.{IsWellTypedEnv, types_at}
use Rattle.dslx_core.proofs.Lemmas.Typing.Typed.{none_some, same_some}
use Rattle.dslx_core.proofs.Lemmas.Typing.Sound.{all_in, none_in, type_has_den}
use Rattle.dslx_core.specs.Typing.Complete.HasValue.{IsWellTypedFound}
use Rattle.dslx_core.specs.Typing.Procs.WordsOfEnds.{WordsAreValues}

-- ---- findings

pub record BothWellTyped (known : GlobalEnv) (a b : Found) : Type 0 where
  pub first : IsWellTypedFound known a
  pub second : IsWellTypedFound known b

pub both_well_typed : (known : GlobalEnv) (a b : Found) → IsWellTypedFound known (and_found a b) → BothWellTyped known a b
both_well_typed known a b well_typed =
    let f = none_in a.faults b.faults well_typed.faults in
    let r = all_in known.is_sound a.reached b.reached well_typed.reached in
    record { first = record { faults = f.0; reached = r.0 }; second = record { faults = f.1; reached = r.1 } }

-- ---- members

-- the type of a member's words, as the rules know it and as it is meant
pub record WordTyped (context : TypeEnv) (env : Env) (o : ChannelEnd) (denotation : Option DslxType) : Type 0 where
  pub word : DslxType
  pub typed : o.word ≡ Some word
  pub means : denotation ≡ Some word
  pub declared : IsDeclared (types_at context) word
  pub holds : (x : Word) → is_of word (from_word word x) ≡ true

end_typed : (context : TypeEnv) (env : Env) → IsWellTypedEnv context env → (e : End) → IsWellTypedFound context.known (found_in (channel_type context e.word)) → ((w : DslxType) → (typing_of_inner context e.word).ty ≡ Some w → (x : Word) → is_of w (from_word w x) ≡ true)
    → WordTyped context env (channel_end_of context e) (written_type e.word env)
end_typed context env h e well_typed holds =
    let own = (type_pair e.word).1 context in
    let unit = unit_faults (span_of_type (type_pair e.word)) own.ty in
    let inner = typing_of_inner context e.word in
    let f = none_in own.faults unit (none_in inner.faults (word_limit (out-TypeExpr e.word).span.to inner.ty) well_typed.faults).0 in
    let k = (type_has_den e.word).known context env h (record { faults = f.0; reached = well_typed.reached }) in
    let m = (type_has_den e.word).means context env h k.0 k.1 in
    record { word = k.0; typed = k.1; means = m.0; declared = m.1; holds = holds k.0 k.1 }

pub members_typed : (context : TypeEnv) (env : Env) → IsWellTypedEnv context env → (before : List (List ℕ)) (es : List End) → IsWellTypedFound context.known (ends_found context before es) → WordsAreValues context es
    → (name : List ℕ) (o : ChannelEnd) → channel_end_in name (map (channel_end_of context) es) ≡ Some o → WordTyped context env o (member_type env es name)
members_typed context env h before [] well_typed holds name o e = none_some o e
members_typed context env h before (x ∷ es) well_typed holds name o e =
    let a = both_well_typed context.known (only_faults (local_name context before x.name)) (and_found (found_in (channel_type context x.word)) (ends_found context (x.name.name ∷ before) es)) well_typed in
    let b = both_well_typed context.known (found_in (channel_type context x.word)) (ends_found context (x.name.name ∷ before) es) a.second in
    by_name (bytes_eq name x.name.name) e (end_typed context env h x b.first holds.0) (members_typed context env h (x.name.name ∷ before) es b.second holds.1 name o)
  where
    by_name : (t : Bool) → (if t then Some (channel_end_of context x) else channel_end_in name (map (channel_end_of context) es)) ≡ Some o → WordTyped context env (channel_end_of context x) (written_type x.word env)
        → (channel_end_in name (map (channel_end_of context) es) ≡ Some o → WordTyped context env o (member_type env es name)) → WordTyped context env o (if t then written_type x.word env else member_type env es name)
    by_name true q own rest = subst (λ y. WordTyped context env y (written_type x.word env)) (same_some (channel_end_of context x) o q) own
    by_name false q own rest = rest q
