-- Scopes in which one more value is bound.
use Rattle.std.proofs.Common.{◌≡◌, ◌+◌, ◌++◌, ℕ, zero, suc, List, [], ◌∷◌, length, Some, true, refl, sym, ap, ◌∙◌, arith, length-append}
use Rattle.std.specs.Prelude.{slice_get}
use Rattle.xb_value.specs.declared.ty.Ty.{Ty}
use Rattle.dslx_meaning.specs.Types.{plain_type}
use Rattle.dslx_meaning.specs.declared.ty.DslxType.{DslxType}
use Rattle.dslx_core.proofs.Lemmas.Typing.Typed.{none_some}
use Rattle.dslx_core.specs.Lowering.CoreScopes.{BoundSlot, CoreScope, with_local, with_unnamed}
use Rattle.dslx_core.specs.Types.Typing.{FunctionTypes}
use Rattle.dslx_total.specs.Typed.Scopes.{TypedLocals, TypedScope, is_sound_type}

pub get_last : (ts : List Ty) (t : Ty) → slice_get (ts ++ t ∷ []) (length ts) ≡ Some t
get_last [] t = refl
get_last (u ∷ us) t = get_last us t

pub get_kept : (ts us : List Ty) (k : ℕ) (t : Ty) → slice_get ts k ≡ Some t → slice_get (ts ++ us) k ≡ Some t
get_kept [] us k t h = none_some t h
get_kept (u ∷ ts) us zero t h = h
get_kept (u ∷ ts) us (suc k) t h = get_kept ts us k t h

pub locals_kept : (ls : List BoundSlot) (bound us : List Ty) → TypedLocals bound ls → TypedLocals (bound ++ us) ls
locals_kept [] bound us h = tt
locals_kept (l ∷ ls) bound us h = (get_kept bound us l.slot (plain_type l.ty) h.0, h.1, locals_kept ls bound us h.2)

one_more : (bound : List Ty) (t : Ty) (n : ℕ) → length bound ≡ n → length (bound ++ t ∷ []) ≡ suc n
one_more bound t n e =
    let long : length (bound ++ t ∷ []) ≡ length bound + 1 = length-append bound (t ∷ []) in
    omega (arith, long, e)

pub local_typed : (fs : FunctionTypes) (bound : List Ty) (scope : CoreScope) (name : List ℕ) (t : DslxType) → TypedScope fs bound scope → is_sound_type t ≡ true → TypedScope fs (bound ++ plain_type t ∷ []) (with_local name t scope)
local_typed fs bound scope name t at sound = record {
  known = at.known;
  count = one_more bound (plain_type t) scope.count at.count;
  locals = (ap (slice_get (bound ++ plain_type t ∷ [])) (sym at.count) ∙ get_last bound (plain_type t), sound, locals_kept scope.locals bound (plain_type t ∷ []) at.locals);
}

pub unnamed_typed : (fs : FunctionTypes) (bound : List Ty) (scope : CoreScope) (t : Ty) → TypedScope fs bound scope → TypedScope fs (bound ++ t ∷ []) (with_unnamed scope)
unnamed_typed fs bound scope t at = record {
  known = at.known;
  count = one_more bound t scope.count at.count;
  locals = locals_kept scope.locals bound (t ∷ []) at.locals;
}
