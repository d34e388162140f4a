-- The package of a text has its numbers in range: no number on a stack is larger, whatever the steps and the tokens.
use Rattle.std.proofs.Common.{◌≡◌, ◌<◌, ◌++◌, ℕ, zero, suc, ◌-◌, ◌^◌, min, Bool, true, ◌&&◌, List, [], ◌∷◌, map, take, drop, reverse, length, Result, Ok, Err, refl, sym, ap, subst, ◌∙◌, arith}
use Rattle.std.specs.Prelude.{nat_lt}
use Rattle.std.specs.List.{list_all}
use Rattle.std.proofs.lemmas.List.{reverse-append}
use Rattle.std.proofs.lemmas.Bool.{and_parts, and_from}
use Rattle.std.proofs.lemmas.Bool.Decides.{nat_tests}
use Rattle.std.proofs.lemmas.List.Folds.{list_all-append, list_all-map}
use Rattle.base.specs.declared.grammar.bottom_up.Step.{Step}
use Rattle.base.specs.declared.grammar.bottom_up.Step.TheVariants.{Shift, Reduce}
use Rattle.base.specs.Grammar.Steps.{steps_of}
use Rattle.dslx_token.specs.Lexeme.{Lexeme}
use Rattle.xb_span.specs.declared.read_error.ReadError.{ReadError}
use Rattle.ir_builder.specs.Token.Said.{id_said, number_said}
use Rattle.ir_tree.specs.declared.constant.Constant.{Constant}
use Rattle.ir_tree.specs.declared.constant.Constant as written
use Rattle.ir_tree.specs.declared.ir_type.IrType.{IrType, Bits, Token, Tuple}
use Rattle.ir_tree.specs.declared.ir_type.IrType.TheViews.{outs-Bits, outs-Token, outs-Tuple}
use Rattle.ir_tree.specs.declared.node.Attributes.{Attributes}
use Rattle.ir_tree.specs.declared.node.Attributes.TheVariants as attributes
use Rattle.ir_tree.specs.declared.node.Node.{Node}
use Rattle.ir_tree.specs.declared.package.Channel.{Channel}
use Rattle.ir_tree.specs.declared.package.Package.{Package}
use Rattle.ir_tree.specs.declared.package.Proc.{Proc}
use Rattle.ir_tree.specs.Rules.Verified.{IsVerified}
use Rattle.ir_tree.proofs.Lemmas.NodeTypes.IrTypes as ty_folds
use Rattle.ir_builder.proofs.Lemmas.{top_has}
use Rattle.ir_builder.specs.declared.rule.Rule.{Rule}
use Rattle.ir_builder.specs.declared.rule.Rule.TheVariants.{Keep, Skip, Start, More, Name, Number, BitsElement, TokenElement, TupleElement, TypeOf, NumberValue, TupleValue, ArrayValue, StateOperand, NodeOperand, SomeOperand, NoOperand, PlainCall, SliceCall, DynamicCall, ExtendCall, SelCall, IndexCall, IndicesCall, LiteralCall, SiteChannel, SiteCall, ChannelId, Input, Output, Inner, ChannelOf, HeadOf, NodeOf, NextOf, ProcOf, PackageLine}
use Rattle.ir_builder.specs.declared.builder.Spanned.{Spanned}
use Rattle.ir_builder.specs.declared.state.Call.{Call}
use Rattle.ir_builder.specs.declared.state.State.{State}
use Rattle.ir_builder.specs.Building.{built, package_of, reduced, rule_of, shifted}
use Rattle.ir_builder.specs.Empty.{empty, no_call, no_constant, no_type}
use Rattle.ir_builder.specs.Rules.{sized, sized_step, token_of}
use Rattle.ir_text.specs.Parser.Texts.{GivesPackage, accepted, cut_off, faulty, misplaced, too_deep}
use Rattle.ir_text.specs.RoundTrip.InRange.{IsInRange, all_true, attributes_in_range, channel_in_range, constant_in_range, constant_range_step, is_held, node_in_range, proc_in_range, type_in_range, type_range_step}
use Rattle.ir_text.specs.Printer.Lines.{package_text}
use Rattle.ir_text.proofs.OnRoundTrip.ValueTexts as values
use Rattle.ir_text.proofs.OnRoundTrip.Anywhere.{verified_nowhere}
use Rattle.ir_text.proofs.OnRoundTrip.VerifiedPackages.{printed_reads}

-- ---- lists

all_drop : {A : Type 0} (p : A → Bool) (k : ℕ) (xs : List A) → list_all p xs ≡ true → list_all p (drop k xs) ≡ true
all_drop p zero xs h = h
all_drop p (suc k) [] h = refl
all_drop p (suc k) (x ∷ xs) h = all_drop p k xs (and_parts (p x) (list_all p xs) h).1

all_take : {A : Type 0} (p : A → Bool) (k : ℕ) (xs : List A) → list_all p xs ≡ true → list_all p (take k xs) ≡ true
all_take p zero xs h = refl
all_take p (suc k) [] h = refl
all_take p (suc k) (x ∷ xs) h =
    let parts = and_parts (p x) (list_all p xs) h in
    and_from _ _ parts.0 (all_take p k xs parts.1)

all_reverse : {A : Type 0} (p : A → Bool) (xs : List A) → list_all p xs ≡ true → list_all p (reverse xs) ≡ true
all_reverse p [] h = refl
all_reverse p (x ∷ xs) h =
    let parts = and_parts (p x) (list_all p xs) h in
    ap (list_all p) (reverse-append (x ∷ []) xs)
    ∙ (list_all-append p (reverse xs) (x ∷ []) ∙ and_from _ _ (all_reverse p xs parts.1) (and_from _ _ parts.0 refl))

all_top : {A : Type 0} (p : A → Bool) (k : ℕ) (xs : List A) → list_all p xs ≡ true → list_all p (reverse (take k xs)) ≡ true
all_top p k xs h = all_reverse p (take k xs) (all_take p k xs h)

-- ---- numbers, types and constants

below : (n k : ℕ) → n < k → nat_lt n k ≡ true
below n k h = grind (arith, nat_tests)

said_held : (bytes : List ℕ) → is_held (number_said bytes) ≡ true
said_held bytes = below (number_said bytes) (2 ^ 128) (omega arith)

id_small : (bytes : List ℕ) → nat_lt (id_said bytes) (2 ^ 32) ≡ true
id_small bytes = below (id_said bytes) (2 ^ 32) (omega arith)

bits_held : (w : ℕ) (ns : List ℕ) → is_held w ≡ true → list_all is_held ns ≡ true → type_in_range (Bits w ns) ≡ true
bits_held w ns h k = ty_folds.fold-Bits Bool type_range_step w ns ∙ and_from _ _ h k

token_held : (ns : List ℕ) → list_all is_held ns ≡ true → type_in_range (Token ns) ≡ true
token_held ns h = ty_folds.fold-Token Bool type_range_step ns ∙ h

pub tuple_held : (ts : List IrType) (ns : List ℕ) → list_all type_in_range ts ≡ true → list_all is_held ns ≡ true → type_in_range (Tuple ts ns) ≡ true
tuple_held ts ns h k = ty_folds.fold-Tuple Bool type_range_step ts ns ∙ and_from _ _ (list_all-map (λ b. b) type_in_range ts ∙ h) k

-- arrays of such sizes of such elements
sized_held : (ns : List ℕ) (t : IrType) → list_all is_held ns ≡ true → type_in_range t ≡ true → type_in_range (sized ns t) ≡ true
sized_held ns t h = ty_folds.type_cases (λ u. type_in_range u ≡ true → type_in_range (sized ns u) ≡ true)
    (λ w ms k. ap (λ o. type_in_range (sized_step ns o)) (outs-Bits w ms)
    ∙ bits_held w ns (and_parts (is_held w) (list_all is_held ms) (sym (ty_folds.fold-Bits Bool type_range_step w ms) ∙ k)).0 h)
    (λ ms k. ap (λ o. type_in_range (sized_step ns o)) (outs-Token ms) ∙ token_held ns h)
    (λ ts ms k. ap (λ o. type_in_range (sized_step ns o)) (outs-Tuple ts ms)
    ∙ tuple_held ts ns (sym (list_all-map (λ b. b) type_in_range ts) ∙ (and_parts (all_true (map type_in_range ts)) (list_all is_held ms) (sym (ty_folds.fold-Tuple Bool type_range_step ts ms) ∙ k)).0) h)
    t

number_held : (n : ℕ) → is_held n ≡ true → constant_in_range (written.Number n) ≡ true
number_held n h = values.fold-Number Bool constant_range_step n ∙ h

pub tuple_value_held : (cs : List Constant) → list_all constant_in_range cs ≡ true → constant_in_range (written.Tuple cs) ≡ true
tuple_value_held cs h = values.fold-Tuple Bool constant_range_step cs ∙ (list_all-map (λ b. b) constant_in_range cs ∙ h)

pub array_value_held : (cs : List Constant) → list_all constant_in_range cs ≡ true → constant_in_range (written.Array cs) ≡ true
array_value_held cs h = values.fold-Array Bool constant_range_step cs ∙ (list_all-map (λ b. b) constant_in_range cs ∙ h)

abbrev call_in_range : Call → Bool
call_in_range c = attributes_in_range c.attributes

-- ---- stacks

record Ranges (ns : List ℕ) (ts : List IrType) (vs : List Constant) (cs : List Call) (nodes : List Node) (chs : List Channel) (ps : List Proc) : Type 0 where
  numbers : list_all is_held ns ≡ true
  types : list_all type_in_range ts ≡ true
  constants : list_all constant_in_range vs ≡ true
  calls : list_all call_in_range cs ≡ true
  lines : list_all node_in_range nodes ≡ true
  channels : list_all channel_in_range chs ≡ true
  procs : list_all proc_in_range ps ≡ true

abbrev AreInRange : State → Type 0
AreInRange s = Ranges s.numbers s.types s.constants s.calls s.nodes s.channels s.procs

-- a call of such attributes, which takes no number and no constant
calls_more : {ns : List ℕ} {ts : List IrType} {vs : List Constant} {cs : List Call} {nodes : List Node} {chs : List Channel} {ps : List Proc} (c : Call) (k : ℕ) (m : ℕ) → Ranges ns ts vs cs nodes chs ps → call_in_range c ≡ true → Ranges (drop k ns) ts (drop m vs) (c ∷ cs) nodes chs ps
calls_more c k m h e = record {
  numbers = all_drop is_held k _ h.numbers;
  types = h.types;
  constants = all_drop constant_in_range m _ h.constants;
  calls = and_from _ _ e h.calls;
  lines = h.lines;
  channels = h.channels;
  procs = h.procs;
}

-- a type more, in place of so many types and numbers
types_more : {ns : List ℕ} {ts : List IrType} {vs : List Constant} {cs : List Call} {nodes : List Node} {chs : List Channel} {ps : List Proc} (t : IrType) (k m : ℕ) → Ranges ns ts vs cs nodes chs ps → type_in_range t ≡ true → Ranges (drop k ns) (t ∷ drop m ts) vs cs nodes chs ps
types_more t k m h e = record {
  numbers = all_drop is_held k _ h.numbers;
  types = and_from _ _ e (all_drop type_in_range m _ h.types);
  constants = h.constants;
  calls = h.calls;
  lines = h.lines;
  channels = h.channels;
  procs = h.procs;
}

-- a constant more, in place of so many constants and numbers
constants_more : {ns : List ℕ} {ts : List IrType} {vs : List Constant} {cs : List Call} {nodes : List Node} {chs : List Channel} {ps : List Proc} (v : Constant) (k m : ℕ) → Ranges ns ts vs cs nodes chs ps → constant_in_range v ≡ true → Ranges (drop k ns) ts (v ∷ drop m vs) cs nodes chs ps
constants_more v k m h e = record {
  numbers = all_drop is_held k _ h.numbers;
  types = h.types;
  constants = and_from _ _ e (all_drop constant_in_range m _ h.constants);
  calls = h.calls;
  lines = h.lines;
  channels = h.channels;
  procs = h.procs;
}

number_more : (s : State) (n : ℕ) → AreInRange s → is_held n ≡ true → Ranges (n ∷ s.numbers) s.types s.constants s.calls s.nodes s.channels s.procs
number_more s n h e = record {
  numbers = and_from _ _ e h.numbers;
  types = h.types;
  constants = h.constants;
  calls = h.calls;
  lines = h.lines;
  channels = h.channels;
  procs = h.procs;
}

numbers_less : (s : State) (k : ℕ) → AreInRange s → Ranges (drop k s.numbers) s.types s.constants s.calls s.nodes s.channels s.procs
numbers_less s k h = record {
  numbers = all_drop is_held k s.numbers h.numbers;
  types = h.types;
  constants = h.constants;
  calls = h.calls;
  lines = h.lines;
  channels = h.channels;
  procs = h.procs;
}

-- what a complete tree of a rule makes of such stacks is such ones
after : (r : Rule) (s : State) → AreInRange s → AreInRange (reduced r s)
after Keep s h = h
after (Skip count) s h = h
after (More count) s h = h
after Start s h = h
after Name s h = h
after Number s h = number_more s (number_said (token_of s.tokens).bytes) h (said_held (token_of s.tokens).bytes)
after BitsElement s h = types_more _ 1 0 h (bits_held _ [] (top_has is_held 0 s.numbers refl h.numbers) refl)
after TokenElement s h = types_more (Token []) 0 0 h (token_held [] refl)
after TupleElement s h = types_more _ 0 _ h (tuple_held _ [] (all_top type_in_range _ s.types h.types) refl)
after TypeOf s h = types_more _ _ 1 h (sized_held _ _ (all_take is_held _ s.numbers h.numbers) (top_has type_in_range no_type s.types (token_held [] refl) h.types))
after NumberValue s h = constants_more _ 1 0 h (number_held _ (top_has is_held 0 s.numbers refl h.numbers))
after TupleValue s h = constants_more _ 0 _ h (tuple_value_held _ (all_top constant_in_range _ s.constants h.constants))
after ArrayValue s h = constants_more _ 0 _ h (array_value_held _ (all_top constant_in_range _ s.constants h.constants))
after StateOperand s h = h
after NodeOperand s h = h
after SomeOperand s h = h
after NoOperand s h = h
after PlainCall s h = calls_more _ 0 0 h refl
after SliceCall s h = calls_more _ 1 0 (numbers_less s 1 h) (and_from _ _ (top_has is_held 0 (drop 1 s.numbers) refl (all_drop is_held 1 s.numbers h.numbers)) (top_has is_held 0 s.numbers refl h.numbers))
after DynamicCall s h = calls_more _ 1 0 h (top_has is_held 0 s.numbers refl h.numbers)
after ExtendCall s h = calls_more _ 1 0 h (top_has is_held 0 s.numbers refl h.numbers)
after SelCall s h = calls_more _ 0 0 h refl
after IndexCall s h = calls_more _ 1 0 h (top_has is_held 0 s.numbers refl h.numbers)
after IndicesCall s h = calls_more _ 0 0 h refl
after LiteralCall s h = calls_more _ 0 1 h (top_has constant_in_range no_constant s.constants (number_held 0 refl) h.constants)
after SiteChannel s h = h
after SiteCall s h = calls_more _ 0 0 h refl
after ChannelId s h = h
after Input s h = h
after Output s h = h
after Inner s h = numbers_less s 1 h
after ChannelOf s h = record {
  numbers = h.numbers;
  types = all_drop type_in_range 1 s.types h.types;
  constants = h.constants;
  calls = h.calls;
  lines = h.lines;
  channels = and_from _ _ (top_has type_in_range no_type s.types (token_held [] refl) h.types) h.channels;
  procs = h.procs;
}
after HeadOf s h = h
after NodeOf s h = record {
  numbers = h.numbers;
  types = all_drop type_in_range 1 s.types h.types;
  constants = h.constants;
  calls = all_drop call_in_range 1 s.calls h.calls;
  lines = and_from _ _ (and_from _ _ (and_from _ _ (id_small (token_of (drop 7 (drop 1 s.tokens))).bytes) (top_has type_in_range no_type s.types (token_held [] refl) h.types)) (top_has call_in_range no_call s.calls refl h.calls)) h.lines;
  channels = h.channels;
  procs = h.procs;
}
after NextOf s h = h
after ProcOf s h = record {
  numbers = h.numbers;
  types = all_drop type_in_range 1 s.types h.types;
  constants = all_drop constant_in_range 1 s.constants h.constants;
  calls = h.calls;
  lines = all_drop node_in_range _ s.nodes h.lines;
  channels = h.channels;
  procs = and_from _ _ (and_from _ _ (and_from _ _ (top_has type_in_range no_type s.types (token_held [] refl) h.types) (top_has constant_in_range no_constant s.constants (number_held 0 refl) h.constants)) (all_top node_in_range _ s.nodes h.lines)) h.procs;
}
after PackageLine s h = h

built_in_range : (steps : List Step) (ls : List Lexeme) (s : State) → AreInRange s → AreInRange (built steps ls s)
unfolding built
built_in_range [] ls s h = h
built_in_range (Shift ∷ steps) [] s h = built_in_range steps [] s h
built_in_range (Shift ∷ steps) (l ∷ ls) s h = built_in_range steps ls (shifted l s) h
built_in_range (Reduce p ∷ steps) ls s h = built_in_range steps ls (reduced (rule_of p) s) (after (rule_of p) s h)

nothing_in_range : AreInRange empty
nothing_in_range = record { numbers = refl; types = refl; constants = refl; calls = refl; lines = refl; channels = refl; procs = refl }

package_in_range : (s : State) → AreInRange s → IsInRange (package_of s)
package_in_range s h = and_from _ _ (all_reverse channel_in_range s.channels h.channels) (all_reverse proc_in_range s.procs h.procs)

-- ---- texts

-- what a text gives has its numbers in range, if it is a package
abbrev GivenInRange : Result Package ReadError → Type 0
GivenInRange (Ok ir) = IsInRange ir
GivenInRange (Err e) = Unit {0}

abbrev GivenVerified : Result Package ReadError → Type 0
GivenVerified (Ok ir) = IsVerified ir
GivenVerified (Err e) = Unit {0}

given_in_range : (text : List ℕ) (given : Result Package ReadError) → GivesPackage text given → GivenInRange given
given_in_range text _ (accepted spanned is none) =
    subst (λ (p : Spanned). IsInRange p.tree) (sym is.reads.spanned_is) (package_in_range (built (steps_of is.reads.forest) is.tokens empty) (built_in_range (steps_of is.reads.forest) is.tokens empty nothing_in_range))
given_in_range text _ (cut_off at is) = tt
given_in_range text _ (misplaced tokens at cut is) = tt
given_in_range text _ (too_deep tokens limit cut is) = tt
given_in_range text _ (faulty spanned error is some) = tt

given_verified : (text : List ℕ) (given : Result Package ReadError) → GivesPackage text given → GivenVerified given
given_verified text _ (accepted spanned is none) = verified_nowhere spanned.tree spanned.line_spans none
given_verified text _ (cut_off at is) = tt
given_verified text _ (misplaced tokens at cut is) = tt
given_verified text _ (too_deep tokens limit cut is) = tt
given_verified text _ (faulty spanned error is some) = tt

-- a package that was read is that of its printed text
pub read_reads : (text : List ℕ) (ir : Package) → GivesPackage text (Ok ir) → length (package_text ir) < 2 ^ 32 → GivesPackage (package_text ir) (Ok ir)
read_reads text ir h brief = printed_reads ir (given_verified text (Ok ir) h) (given_in_range text (Ok ir) h) brief
