-- Operators and parts of values: where their operands are alike, so is what they give.
use Rattle.std.proofs.Common.{◌≡◌, ℕ, Bool, List, Option, refl, subst}
use Rattle.dslx_tree.specs.declared.operator.Prefix.{Prefix}
use Rattle.dslx_tree.specs.declared.operator.Binary.{Binary}
use Rattle.dslx_meaning.specs.Lists.{and_then}
use Rattle.dslx_meaning.specs.Types.{bits_in}
use Rattle.dslx_meaning.specs.declared.ty.BitKind.{BitKind}
use Rattle.dslx_meaning.specs.declared.ty.DslxType.{DslxType, out-DslxType}
use Rattle.dslx_meaning.specs.Rules.AggregateRules.{array_in, part_type}
use Rattle.dslx_core.specs.Lowering.EqualTypes.{equal_type}
use Rattle.dslx_core.specs.Lowering.Lowering.{LoweredExpr, lower_binary, lower_cast, lower_choice, lower_element, lower_field, field_index, fits_operands, lower_index, lower_part, lower_prefix, result_of_binary, lower_slice}
use Rattle.dslx_core.proofs.OnMachines.OnAlike.Relation.{Alike, alike_itself, both_alike, both_same, both_there, then_alike, then_same, there_under}

-- the two have one type
abbrev pub OneType : LoweredExpr → LoweredExpr → Type 0
OneType a b = a.ty ≡ b.ty

-- behind two types that are one
pub then_of_type : {A C D : Type 0} (more : Bool) (S : C → D → Type 0) (f : DslxType → Option A) (t u : DslxType) (g : A → Option C) (h : A → Option D) → t ≡ u
    → ((a : A) → Alike more S (g a) (h a)) → Alike more S (and_then (f t) g) (and_then (f u) h)
then_of_type more S f t u g h e k = subst (λ v. Alike more S (and_then (f t) g) (and_then (f v) h)) e (then_same more S (f t) g h k)

module _ (more : Bool) where
  abbrev pub ExprsAlike : Option LoweredExpr → Option LoweredExpr → Type 0
  ExprsAlike o q = Alike more OneType o q

  pub prefix_alike : (p : Prefix) (e f : Option LoweredExpr) → ExprsAlike e f → ExprsAlike (lower_prefix p e) (lower_prefix p f)
  prefix_alike p e f h = then_alike more OneType OneType e f _ _ h (λ a b k. both_there more OneType _ _ k)

  pub binary_alike : (op : Binary) (l r m s : Option LoweredExpr) → ExprsAlike l m → ExprsAlike r s → ExprsAlike (lower_binary op l r) (lower_binary op m s)
  binary_alike op l r m s h k =
      both_alike more OneType OneType OneType l m r s _ _ h k
      (λ a b c d e f. there_under more OneType _ _ _ _ (λ i. fits_operands op (e i) (f i)) (λ i. result_of_binary op (e i) (f i)))

  pub cast_alike : (e f : Option LoweredExpr) (t : Option DslxType) → ExprsAlike e f → ExprsAlike (lower_cast e t) (lower_cast f t)
  cast_alike e f t h =
      both_alike more OneType (λ (t u : DslxType). t ≡ u) OneType e f t t _ _ h (alike_itself more _ t (λ t. refl))
      (λ a b t u k q. then_of_type more OneType bits_in t u _ _ q (λ (kind : BitKind). there_under more OneType _ _ _ _ refl q))

  pub slice_alike : (e f : Option LoweredExpr) (from to : Option ℕ) → ExprsAlike e f → ExprsAlike (lower_slice e from to) (lower_slice f from to)
  slice_alike e f from to h = then_alike more OneType OneType e f _ _ h (λ a b k. both_same more OneType from to _ _ (λ m n. there_under more OneType _ _ _ _ refl refl))

  pub part_alike : (e f i j : Option LoweredExpr) (t : Option DslxType) → ExprsAlike e f → ExprsAlike i j → ExprsAlike (lower_part e i t) (lower_part f j t)
  part_alike e f i j t h k =
      both_alike more OneType OneType OneType e f i j _ _ h k (λ a b c d p q. then_same more OneType (and_then t bits_in) _ _ (λ (kind : BitKind). there_under more OneType _ _ _ _ refl refl))

  pub element_alike : (e f : Option LoweredExpr) (k : ℕ) → ExprsAlike e f → ExprsAlike (lower_element e k) (lower_element f k)
  element_alike e f k h = then_alike more OneType OneType e f _ _ h (λ a b p. then_of_type more OneType (λ t. part_type t k) a.ty b.ty _ _ p (λ t. both_there more OneType _ _ refl))

  pub field_alike : (e f : Option LoweredExpr) (name : List ℕ) → ExprsAlike e f → ExprsAlike (lower_field e name) (lower_field f name)
  field_alike e f name h = then_alike more OneType OneType e f _ _ h (λ a b p. then_of_type more OneType (λ t. field_index name (out-DslxType t)) a.ty b.ty _ _ p (λ k. both_there more OneType _ _ refl))

  pub index_alike : (e f i j : Option LoweredExpr) → ExprsAlike e f → ExprsAlike i j → ExprsAlike (lower_index e i) (lower_index f j)
  index_alike e f i j h k = both_alike more OneType OneType OneType e f i j _ _ h k (λ a b c d p q. then_of_type more OneType array_in a.ty b.ty _ _ p (λ parts. both_there more OneType _ _ refl))

  pub choice_alike : (c d a b x y : Option LoweredExpr) → ExprsAlike c d → ExprsAlike a b → ExprsAlike x y → ExprsAlike (lower_choice c a x) (lower_choice d b y)
  choice_alike c d a b x y h k m =
      then_alike more OneType OneType c d _ _ h
      (λ c d p. both_alike more OneType OneType OneType a b x y _ _ k m (λ a b x y q r. there_under more OneType _ _ _ _ (λ i. equal_type (q i) (r i)) q))
