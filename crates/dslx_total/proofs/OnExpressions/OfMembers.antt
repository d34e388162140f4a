-- Members of a proc are ends whose words a channel holds.
use mathlib.Core.Bool.{true≢false}
use Rattle.std.specs.List.{list_all}
use Rattle.std.specs.Str.{bytes_eq}
use Rattle.std.specs.Prelude.{slice_get}
use Rattle.std.proofs.Common.{Bool, List, None, Option, Some, [], ap, false, if◌then◌else◌, map, refl, sym, suc, true, ℕ, ◌&&◌, ◌++◌, ◌∙◌, ◌∷◌, ◌≡◌}
use Rattle.dslx_tree.specs.declared.process.End.{End}
use Rattle.dslx_tree.specs.declared.type_expr.TypeExpr.{out-TypeExpr}
use Rattle.dslx_meaning.specs.declared.ty.DslxType.{DslxType}
use Rattle.dslx_meaning.specs.Lists.{and_then, index_in, where_true}
use Rattle.dslx_meaning.specs.Environment.{Env}
use Rattle.dslx_meaning.specs.Rules.CallRules.{channel_end_in}
use Rattle.dslx_meaning.specs.Rules.ItemRules.{typing_of_inner}
use Rattle.dslx_meaning.specs.Rules.TypeEnvs.{Instance, Judgement, ChannelEnd, TypeEnv}
use Rattle.dslx_meaning.specs.Rules.NameRules.{local_name}
use Rattle.dslx_meaning.specs.Rules.NodeRules.{type_pair}
use Rattle.dslx_meaning.specs.Rules.ProcRules.{channel_type, ends_found, channel_end_of, word_limit}
use Rattle.dslx_meaning.specs.Rules.TypeRules.{span_of_type, unit_faults}
use Rattle.dslx_core.specs.Typing.Typed.Complete.{IsWellTypedPart}
use Rattle.dslx_core.specs.Typing.Typed.WellTyped.{IsWellTypedEnv, types_at}
use Rattle.dslx_core.proofs.Lemmas.Typing.Sound.{all_in, none_in}
use Rattle.dslx_core.specs.Lowering.CoreScopes.{CoreScope}
use Rattle.dslx_core.specs.Lowering.Steps.{can_travel, end_names}
use Rattle.dslx_core.specs.Lowering.Trees.{lower_type_of_text}
use Rattle.dslx_total.specs.Expressions.Beside.{ScopeMatchesEnv}
use Rattle.dslx_total.specs.Expressions.ExprLowering.{IsClean, reaching}
use Rattle.dslx_total.specs.Expressions.Members.{EachHasWords, HasWords}
use Rattle.dslx_total.specs.Expressions.NextSteps.{MembersExist}
use Rattle.dslx_total.proofs.OnExpressions.Joined.{type_part_lowers_to}
use Rattle.dslx_total.proofs.OnExpressions.OfProcs.{sized_there}

-- the end that a name stands for
record EndThere (here : Instance → Bool) (context : TypeEnv) (ends : List End) (name : List ℕ) (o : ChannelEnd) : Type 0 where
  number : ℕ
  is : index_in name (end_names ends) ≡ Some number
  end : End
  got : slice_get ends number ≡ Some end
  word : o.word ≡ (typing_of_inner context end.word).ty
  words : HasWords context end
  well_typed : IsWellTypedPart (reaching context.known here) ((type_pair end.word).1 context)

end_there : (here : Instance → Bool) (context : TypeEnv) (before : List (List ℕ)) (ends : List End) → EachHasWords context ends → IsClean here (ends_found context before ends).faults (ends_found context before ends).reached
    → (name : List ℕ) (o : ChannelEnd) → channel_end_in name (map (channel_end_of context) ends) ≡ Some o → EndThere here context ends name o
end_there here context before [] k clean name o q = absurd (true≢false (sym (ap is_there q)))
  where
    is_there : Option ChannelEnd → Bool
    is_there None = false
    is_there (Some o) = true
end_there here context before (e ∷ es) k clean name o q = by_name (bytes_eq name e.name.name) refl (λ later. end_there here context rest es k.1 (record { faults = units.1; reached = reached.1 }) name o later)
  where
    rest : List (List ℕ)
    rest = e.name.name ∷ before

    of_type : Judgement
    of_type = (type_pair e.word).1 context

    units : ((of_type.faults ++ unit_faults (span_of_type (type_pair e.word)) of_type.ty) ++ word_limit (out-TypeExpr e.word).span.to (typing_of_inner context e.word).ty ≡ []) × ((ends_found context rest es).faults ≡ [])
    units =
        none_in (channel_type context e.word).faults (ends_found context rest es).faults
        (none_in (local_name context before e.name) ((channel_type context e.word).faults ++ (ends_found context rest es).faults) clean.faults).1

    reached : (list_all here of_type.reached ≡ true) × (list_all here (ends_found context rest es).reached ≡ true)
    reached = all_in here of_type.reached (ends_found context rest es).reached clean.reached

    well_typed : IsWellTypedPart (reaching context.known here) of_type
    well_typed = record {
      faults = (none_in of_type.faults (unit_faults (span_of_type (type_pair e.word)) of_type.ty)
          (none_in (of_type.faults ++ unit_faults (span_of_type (type_pair e.word)) of_type.ty) (word_limit (out-TypeExpr e.word).span.to (typing_of_inner context e.word).ty) units.0).0).0;
      reached = reached.0;
    }

    word_in : Option ChannelEnd → Option DslxType
    word_in None = None
    word_in (Some o) = o.word

    by_name : (b : Bool) → bytes_eq name e.name.name ≡ b → (channel_end_in name (map (channel_end_of context) es) ≡ Some o → EndThere here context es name o) → EndThere here context (e ∷ es) name o
    by_name true r behind = record {
      number = 0;
      is = ap (λ b. if b then Some 0 else (elim (index_in name (end_names es)) as (λ x. Option ℕ) [ None ↦ None | Some j ↦ Some (suc j) ])) r;
      end = e;
      got = refl;
      word = ap word_in (sym q ∙ ap (λ b. if b then Some (channel_end_of context e) else channel_end_in name (map (channel_end_of context) es)) r);
      words = k.0;
      well_typed = well_typed;
    }
    by_name false r behind =
        let t = behind (ap (λ b. if b then Some (channel_end_of context e) else channel_end_in name (map (channel_end_of context) es)) (sym r) ∙ q) in
        record {
          number = suc t.number;
          is = ap (λ b. if b then Some 0 else (elim (index_in name (end_names es)) as (λ x. Option ℕ) [ None ↦ None | Some j ↦ Some (suc j) ])) r ∙ ap (λ o. elim o as (λ x. Option ℕ) [ None ↦ None | Some j ↦ Some (suc j) ]) t.is;
          end = t.end;
          got = t.got;
          word = t.word;
          words = t.words;
          well_typed = t.well_typed;
        }

pub members_are_there : (here : Instance → Bool) (context : TypeEnv) (env : Env) (outer : CoreScope) (ends : List End) → IsWellTypedEnv context env → ScopeMatchesEnv here context outer → EachHasWords context ends
    → IsClean here (ends_found context [] ends).faults (ends_found context [] ends).reached → MembersExist (record context { members = map (channel_end_of context) ends }) outer ends
members_are_there here context env outer ends h at k clean name o q =
    let e = end_there here context [] ends k clean name o q in
    let t = type_part_lowers_to here context env outer e.end.word h at e.well_typed in
    let sized = sized_there (types_at context) h.known.parts t.ty t.declared in
    record {
      member = record { number = e.number; word = t.ty };
      is = ap (λ p. and_then p (λ k. and_then (slice_get ends k) (λ e. and_then (lower_type_of_text e.word outer) (λ t. where_true (can_travel t) (Some (record { number = k; word = t })))))) e.is
          ∙ ap (λ p. and_then p (λ (x : End). and_then (lower_type_of_text x.word outer) (λ t. where_true (can_travel t) (Some (record { number = e.number; word = t }))))) e.got
          ∙ ap (λ p. and_then p (λ t. where_true (can_travel t) (Some (record { number = e.number; word = t })))) t.is
          ∙ ap (λ b. where_true b (Some (record { number = e.number; word = t.ty }))) (λ i. sized i && e.words.fits t.ty t.typed i);
      word = e.word ∙ t.typed;
      declared = t.declared;
    }
