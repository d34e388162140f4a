-- The words of channels with which nothing is wrong: their type is the one that is denoted, and a channel holds them.
use Rattle.std.proofs.Common.{◌≡◌, ◌≤◌, false, true, [], Some, arith, sym, ap, ◌∙◌}
use Rattle.std.specs.List.{list_all}
use Rattle.xb_value.specs.Width.{width_of}
use Rattle.dslx_tree.specs.declared.type_expr.TypeExpr.{TypeExpr, out-TypeExpr}
use Rattle.dslx_meaning.specs.Environment.{Env}
use Rattle.dslx_meaning.specs.Meaning.{written_type}
use Rattle.dslx_meaning.specs.Types.{flat_bits, is_unit, plain_type}
use Rattle.dslx_meaning.specs.declared.ty.DslxType.{DslxType}
use Rattle.dslx_meaning.specs.Rules.ItemRules.{typing_of_inner, typing_of_type}
use Rattle.dslx_meaning.specs.Rules.NodeRules.{type_pair}
use Rattle.dslx_meaning.specs.Rules.ProcRules.{channel_type, word_limit}
use Rattle.dslx_meaning.specs.Rules.TypeEnvs.{TypeEnv}
use Rattle.dslx_meaning.specs.Rules.TypeRules.{span_of_type, unit_faults}
use Rattle.dslx_core.proofs.Lemmas.Typing.Sound.{none_in, not_broken, type_has_den}
use Rattle.dslx_core.specs.Typing.Typed.Declared.{IsDeclared}
use Rattle.dslx_core.specs.Typing.Typed.WellTyped.{IsWellTypedEnv, types_at}
use Rattle.dslx_total.specs.Expressions.Beside.{NamesAreFull, NamesHaveWidths}
use Rattle.dslx_total.proofs.OnExpressions.Joined.{type_is_wide}
use Rattle.dslx_total.proofs.OnNets.Full.{as_many_bits, type_is_within, word_has_bits}
use Rattle.dslx_total.proofs.OnNets.Plain.{narrow_leaves}
use Rattle.dslx_total.proofs.OnWords.Narrow.{are_narrow}
use Rattle.dslx_total.proofs.OnWords.Ends.{within_limit}

-- a type whose words a channel holds: bits of 1 to 128 bits, 1 to 128 in all
pub record IsWordType (t : DslxType) : Type 0 where
  pub narrow : are_narrow (plain_type t) ≡ true
  pub some : 1 ≤ width_of (plain_type t)
  pub most : width_of (plain_type t) ≤ 128

-- all bits in a written type with which nothing is wrong are 1 to 128 wide
pub type_is_narrow : (context : TypeEnv) → NamesHaveWidths context.known → (e : TypeExpr) → (typing_of_type context e).faults ≡ [] → (t : DslxType) → (typing_of_type context e).ty ≡ Some t → are_narrow (plain_type t) ≡ true
type_is_narrow context names e f t is = let within = type_is_within e context f t is in narrow_leaves t within.0 (type_is_wide e context names t is) within.1

-- the words of a channel
pub record WordIs (context : TypeEnv) (env : Env) (e : TypeExpr) : Type 0 where
  pub word : DslxType
  pub typed : (typing_of_inner context e).ty ≡ Some word
  pub means : written_type e env ≡ Some word
  pub declared : IsDeclared (types_at context) word
  pub fits : IsWordType word
  pub whole : is_unit word ≡ false

pub word_is : (context : TypeEnv) (env : Env) → IsWellTypedEnv context env → NamesHaveWidths context.known → NamesAreFull context.known → (e : TypeExpr) → (channel_type context e).faults ≡ []
    → list_all context.known.is_sound (channel_type context e).reached ≡ true → WordIs context env e
word_is context env h names full e f r =
    let inner = typing_of_inner context e in
    let own = typing_of_type context e in
    let to = (out-TypeExpr e).span.to in
    let a = none_in inner.faults (word_limit to inner.ty) f in
    let b = none_in own.faults (unit_faults (span_of_type (type_pair e)) own.ty) a.0 in
    let k = (type_has_den e).known context env h (record { faults = b.0; reached = r }) in
    let t = k.0 in
    let means = (type_has_den e).means context env h t k.1 in
    let many = as_many_bits t in
    let some = word_has_bits context full e a.0 t k.1 in
    let most = within_limit to (flat_bits t) (ap (word_limit to) (sym k.1) ∙ a.1) in
    record {
      word = t;
      typed = k.1;
      means = means.0;
      declared = means.1;
      whole = not_broken (is_unit t) 31 (span_of_type (type_pair e)) ((λ i. unit_faults (span_of_type (type_pair e)) (sym k.1 i)) ∙ b.1);
      fits = record { narrow = type_is_narrow context names e b.0 t k.1; some = omega (arith, many, some); most = omega (arith, many, most) };
    }
