-- Each key has one number, at which it stays.
use Rattle.std.proofs.Common.{◌≡◌, ◌∙◌, ◌++◌, ◌∷◌, [], ℕ, Bool, true, false, List, Option, Some, slice_get, refl, sym, ap, if◌then◌else◌}
use Rattle.std.specs.List.{list_any}
use Rattle.indexmap.specs.IndexSet.{insert_key}
use Rattle.base.specs.Lists.Prefix.{IsPrefix}
use Rattle.base.proofs.Lemmas.Lists.Prefixes.{IsPrefix-append, IsPrefix-refl}
use Rattle.dslx_check_facts.specs.Keys.{same_foreign, same_instance_key, same_prefix}
use Rattle.dslx_check_facts.specs.KeyLaws.{one_foreign, one_instance, one_prefix}
use Rattle.dslx_check_facts.specs.declared.asked.ForeignKey.{ForeignKey}
use Rattle.dslx_check_facts.specs.declared.instances.InstanceKey.{InstanceKey}
use Rattle.dslx_check_facts.specs.declared.prefixes.Prefix.{Prefix}

stored : {K : Type 0} (same : K → K → Bool) → ((a b : K) → same a b ≡ true → a ≡ b) → (ks : List K) (n : ℕ) (key : K) → (k : K) × (slice_get ks n ≡ Some k) × (same key k ≡ true) → slice_get ks n ≡ Some key
stored same one ks n key there = there.1 ∙ ap Some (sym (one key there.0 there.2))

grow : {K : Type 0} (same : K → K → Bool) (ks : List K) (key : K) → IsPrefix ks (insert_key same ks key)
grow same ks key = by_test (list_any (same key) ks)
  where
    by_test : (b : Bool) → IsPrefix ks (if b then ks else ks ++ key ∷ [])
    by_test true = IsPrefix-refl ks
    by_test false = IsPrefix-append ks (key ∷ [])

pub instance_stored : (ks : List InstanceKey) (n : ℕ) (key : InstanceKey) → (k : InstanceKey) × (slice_get ks n ≡ Some k) × (same_instance_key key k ≡ true) → slice_get ks n ≡ Some key
instance_stored ks n key there = stored same_instance_key one_instance ks n key there

pub instances_grow : (ks : List InstanceKey) (key : InstanceKey) → IsPrefix ks (insert_key same_instance_key ks key)
instances_grow ks key = grow same_instance_key ks key

pub foreign_stored : (ks : List ForeignKey) (n : ℕ) (key : ForeignKey) → (k : ForeignKey) × (slice_get ks n ≡ Some k) × (same_foreign key k ≡ true) → slice_get ks n ≡ Some key
foreign_stored ks n key there = stored same_foreign one_foreign ks n key there

pub foreign_grow : (ks : List ForeignKey) (key : ForeignKey) → IsPrefix ks (insert_key same_foreign ks key)
foreign_grow ks key = grow same_foreign ks key

pub prefix_stored : (ks : List Prefix) (n : ℕ) (key : Prefix) → (k : Prefix) × (slice_get ks n ≡ Some k) × (same_prefix key k ≡ true) → slice_get ks n ≡ Some key
prefix_stored ks n key there = stored same_prefix one_prefix ks n key there

pub prefixes_grow : (ks : List Prefix) (key : Prefix) → IsPrefix ks (insert_key same_prefix ks key)
prefixes_grow ks key = grow same_prefix ks key
