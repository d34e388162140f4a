-- Options that give something, operands that are bits, and results that are.
use Rattle.std.proofs.Common.{◌≡◌, Bool, true, false, Option, Some, None, refl, sym, ap, subst, ◌∙◌}
use Rattle.xb_bits.specs.Word.{Word, word}
use Rattle.xb_value.specs.declared.value.Value.{Value, out-Value}
use Rattle.xb_value.specs.declared.value.Value as plain
use Rattle.xb_value.specs.declared.value.Value.TheViews as plain_views
use Rattle.dslx_meaning.specs.Lists.{and_then, where_true, with_both}
use Rattle.dslx_meaning.specs.Values.{plain_value, bits_of}
use Rattle.dslx_meaning.specs.declared.ty.DslxType.{DslxType}
use Rattle.dslx_meaning.specs.declared.ty.DslxType as ty
use Rattle.dslx_meaning.specs.declared.value.DslxValue.{DslxValue, out-DslxValue}
use Rattle.dslx_meaning.specs.declared.value.DslxValue as value
use Rattle.dslx_meaning.specs.declared.value.DslxValue.TheOpen.{DslxValue-F}
use Rattle.dslx_meaning.specs.declared.value.DslxValue.TheVariants as rolls
use Rattle.dslx_meaning.specs.declared.value.DslxValue.TheViews as views
use Rattle.dslx_meaning.specs.declared.value.SignedWord.{SignedWord}
use Rattle.dslx_core.specs.Typing.Typed.Kinds.{is_of, lies_in}
use Rattle.dslx_core.proofs.Lemmas.Typing.Typed.{MadeBits, bits_level, bits_lie, bits_of_width, lies, none_some, one_type, same_some, typed_level}
use Rattle.dslx_core.specs.CoreValues.{Bindings, Functions, core_value, word_in, word_of_value, word_step}
use Rattle.dslx_core.specs.Lowering.Lowering.{LoweredExpr}
use Rattle.dslx_core.specs.Lowering.Correspondence.{HasPlainValue}
use Rattle.dslx_core.proofs.OnLowering.Openings.{of_level, plain_bits}

-- ---- options

pub from_then : {A B : Type 0} (o : Option A) (f : A → Option B) (c : B) → and_then o f ≡ Some c → (a : A) × (o ≡ Some a) × (f a ≡ Some c)
from_then None f c e = none_some c e
from_then (Some a) f c e = (a, refl, e)

pub from_both : {A B C : Type 0} (o : Option A) (p : Option B) (f : A → B → Option C) (c : C) → with_both o p f ≡ Some c → (a : A) × (b : B) × (o ≡ Some a) × (p ≡ Some b) × (f a b ≡ Some c)
from_both None p f c e = none_some c e
from_both (Some a) None f c e = none_some c e
from_both (Some a) (Some b) f c e = (a, b, refl, refl, e)

pub from_where : {A : Type 0} (t : Bool) (o : Option A) (a : A) → where_true t o ≡ Some a → (t ≡ true) × (o ≡ Some a)
from_where true o a e = (refl, e)
from_where false o a e = none_some a e

-- what both give, where each does
pub both_there : {A B C : Type 0} (o : Option A) (p : Option B) (f : A → B → Option C) (a : A) (b : B) → o ≡ Some a → p ≡ Some b → with_both o p f ≡ f a b
both_there o p f a b e h = λ i. with_both (e i) (h i) f

-- ---- operands that are bits

pub record OperandIs (t : DslxType) (v : DslxValue) (x : SignedWord) : Type 0 where
  pub is : v ≡ value.Bits x.signed x.word
  pub typed : t ≡ ty.Bits x.signed x.word.width
  pub lies : lies_in x.word ≡ true

pub operand : (t : DslxType) (v : DslxValue) (x : SignedWord) → is_of t v ≡ true → bits_of v ≡ Some x → OperandIs t v x
operand t v x of e =
    let level = bits_level v x e in
    record {
      is = of_level v (DslxValue-F.Bits x.signed x.word) level ∙ rolls.rolls-Bits x.signed x.word;
      typed = sym (one_type t v of) ∙ typed_level v (DslxValue-F.Bits x.signed x.word) level;
      lies = bits_lie t v x of e;
    }

-- the word of a plain value
pub plain_word_is : (w : Word) → word_of_value (plain.Bits w) ≡ Some w
plain_word_is w = ap word_step (plain_views.outs-Bits w)

-- what stands for an operand gives its word
pub word_there : (e : LoweredExpr) (calls : Functions) (bound : Bindings) (v : DslxValue) (w : Word) → HasPlainValue e calls bound v → plain_value v ≡ plain.Bits w
    → word_in (core_value e.core) calls bound ≡ Some w
word_there e calls bound v w has is = ap (λ o. and_then o word_of_value) (has.core ∙ ap Some is) ∙ plain_word_is w

pub operand_word : (e : LoweredExpr) (calls : Functions) (bound : Bindings) (v : DslxValue) (x : SignedWord) → HasPlainValue e calls bound v → OperandIs e.ty v x
    → word_in (core_value e.core) calls bound ≡ Some x.word
operand_word e calls bound v x has is = word_there e calls bound v x.word has (ap plain_value is.is ∙ plain_bits x.signed x.word)

-- ---- results

abbrev word_at : DslxValue-F DslxValue → Word
word_at (DslxValue-F.Bits s w) = w
word_at _ = word 0 0

-- bits that were made lie in their width
pub made_lies : (s : Bool) (w : Word) (v : DslxValue) → v ≡ value.Bits s w → MadeBits v → lies_in w ≡ true
made_lies s w v e made =
    ap lies_in (sym (ap word_at (views.outs-Bits s w)) ∙ ap (λ u. word_at (out-DslxValue u)) (sym e ∙ made.1) ∙ ap word_at (views.outs-Bits made.0.signed made.0.word))
    ∙ lies made.0.word made.2

-- bits that lie in their width
pub bits_kept : (e : LoweredExpr) (calls : Functions) (bound : Bindings) (s : Bool) (w : Word) (v : DslxValue) → v ≡ value.Bits s w → e.ty ≡ ty.Bits s w.width → lies_in w ≡ true
    → core_value e.core calls bound ≡ Some (plain.Bits w) → HasPlainValue e calls bound v
bits_kept e calls bound s w v is typed low core = record {
  of = (λ i. is_of (typed i) (is i)) ∙ bits_of_width s w w.width refl low;
  core = core ∙ ap Some (sym (ap plain_value is ∙ plain_bits s w));
}

-- what is kept of an expression is kept of an equal one
pub kept_as : (calls : Functions) (bound : Bindings) (v : DslxValue) (a e : LoweredExpr) → Some a ≡ Some e → HasPlainValue a calls bound v → HasPlainValue e calls bound v
kept_as calls bound v a e q h = subst (λ x. HasPlainValue x calls bound v) (same_some a e q) h

-- the value of an expression is the one that is there
pub value_as : (calls : Functions) (bound : Bindings) (e : LoweredExpr) (v w : DslxValue) → Some v ≡ Some w → HasPlainValue e calls bound v → HasPlainValue e calls bound w
value_as calls bound e v w q h = subst (λ x. HasPlainValue e calls bound x) (same_some v w q) h
