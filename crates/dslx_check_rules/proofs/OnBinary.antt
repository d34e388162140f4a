-- The types of what operators give.
use Rattle.std.proofs.Common.{◌≡◌, ◌+◌, ℕ, List, [], ◌∷◌, map, false, sym, ap, subst, ◌∙◌}
use Rattle.std.specs.Prelude.{Result, Ok, Err, IfOk, OnOk, OnErr}
use Rattle.std.specs.declared.alloc.AllocError.{AllocError}
use Rattle.base.specs.Lists.Prefix.{IsPrefix}
use Rattle.base.proofs.Lemmas.Lists.Prefixes.{IsPrefix-refl, IsPrefix-trans}
use Rattle.dslx_meaning.specs.Types.{received, unsigned}
use Rattle.dslx_meaning.specs.Rules.OperatorRules.{width_of_type}
use Rattle.dslx_meaning.specs.declared.ty.DslxType as ty
use Rattle.dslx_check_rules.specs.declared.table.row.TypeId.{TypeId}
use Rattle.dslx_check_rules.specs.declared.table.row.TypeRow.{TypeRow}
use Rattle.dslx_check_rules.specs.Interned.{HasRow, ItemNames, type_at}

-- bits as wide as two types
pub joined_is : (r : Result TypeId AllocError) (old new : List TypeRow) (left right : TypeId) (w a b : ℕ)
    → IfOk r (λ t. (names : ItemNames) (later : List TypeRow) → IsPrefix new later → type_at names later t ≡ ty.Bits false w) → OnOk r (IsPrefix old new) → w ≡ a + b
    → ((names : ItemNames) (later : List TypeRow) → IsPrefix old later → HasRow old left → a ≡ width_of_type (type_at names later left))
    → ((names : ItemNames) (later : List TypeRow) → IsPrefix old later → HasRow old right → b ≡ width_of_type (type_at names later right))
    → IfOk r (λ t. (names : ItemNames) (later : List TypeRow) → IsPrefix new later → HasRow old left → HasRow old right
    → type_at names later t ≡ unsigned (width_of_type (type_at names later left) + width_of_type (type_at names later right)))
joined_is (Ok t) old new left right w a b is grows sum first second = λ names later p hl hr.
    let q = IsPrefix-trans old new later grows p in
    is names later p ∙ ap (ty.Bits false) (sum ∙ (λ i. first names later q hl i + second names later q hr i))
joined_is (Err e) old new left right w a b is grows sum first second = tt

-- a token and a word
pub received_is : (r : Result TypeId AllocError) (mid new : List TypeRow) (token word : TypeId) (parts : List TypeId) → parts ≡ token ∷ word ∷ []
    → ((names : ItemNames) (later : List TypeRow) → IsPrefix mid later → type_at names later token ≡ ty.Token)
    → IfOk r (λ t. (names : ItemNames) (later : List TypeRow) → IsPrefix new later → type_at names later t ≡ ty.Tuple (map (type_at names later) parts)) → OnOk r (IsPrefix mid new)
    → IfOk r (λ t. (names : ItemNames) (later : List TypeRow) → IsPrefix new later → type_at names later t ≡ received (type_at names later word))
received_is (Ok t) mid new token word parts two is_token is grows = λ names later p.
    is names later p ∙ ap (λ ts. ty.Tuple (map (type_at names later) ts)) two
    ∙ ap (λ u. ty.Tuple (u ∷ type_at names later word ∷ [])) (is_token names later (IsPrefix-trans mid new later grows p))
received_is (Err e) mid new token word parts two is_token is grows = tt

-- it grows, whichever comes of it
pub grows_either : (r : Result TypeId AllocError) (old new : List TypeRow) → OnOk r (IsPrefix old new) → OnErr r (new ≡ old) → IsPrefix old new
grows_either (Ok t) old new grows stays = grows
grows_either (Err e) old new grows stays = subst (IsPrefix old) (sym stays) (IsPrefix-refl old)
