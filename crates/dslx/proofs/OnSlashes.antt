-- Names that are words have no slash.
use Rattle.std.proofs.Common.{◌≡◌, ◌||◌, ◌==◌, ◌∙◌, ℕ, Bool, true, false, List, [], ◌∷◌, Option, Some, None, refl, sym, ap, if◌then◌else◌}
use mathlib.Core.Bool.{true≢false}
use Rattle.std.specs.List.{list_all, list_any}
use Rattle.std.specs.Str.{bytes_eq}
use Rattle.std.proofs.lemmas.Bool.Decides.{Decides-eqb}
use Rattle.base.specs.Texts.Words.{begins_word, is_word, is_word_byte}
use Rattle.dslx_tree.specs.declared.item.Definition.{Definition}
use Rattle.dslx_tree.specs.declared.item.Definition.TheVariants as d
use Rattle.dslx_tree.specs.declared.item.Item.{Item}
use Rattle.dslx_tree.specs.declared.item.Module.{Module}
use Rattle.dslx_tree.specs.declared.process.End.{End}
use Rattle.dslx_tree.specs.declared.process.Proc.{Proc}
use Rattle.dslx_meaning.specs.Items.{item_named, name_of_definition}
use Rattle.dslx_meaning.specs.Network.{as_proc, last_proc_of, top_proc}
use Rattle.dslx_core.proofs.Lemmas.Typing.Laws.{and_true}
use Rattle.dslx_core.proofs.Lemmas.Typing.Typed.{none_some, same_some}
use Rattle.dslx_parser.specs.Ends.{declares_words, each_declares_words, ends_are_words, named_by_words}
use Rattle.dslx_total.specs.Nets.Slashes.{EndsHaveNoSlash, has_slash}

-- no byte of a word is a slash
no_slash : (c : ℕ) → is_word_byte c ≡ true → (c == 47) ≡ false
no_slash c h = by_test (c == 47) refl
  where
    by_test : (b : Bool) → (c == 47) ≡ b → b ≡ false
    by_test false q = refl
    by_test true q = absurd (true≢false (sym h ∙ ap is_word_byte ((Decides-eqb c 47).0 q)))

begins : (c : ℕ) → begins_word c ≡ true → (c == 47) ≡ false
begins c h = by_test (c == 47) refl
  where
    by_test : (b : Bool) → (c == 47) ≡ b → b ≡ false
    by_test false q = refl
    by_test true q = absurd (true≢false (sym h ∙ ap begins_word ((Decides-eqb c 47).0 q)))

later_bytes : (cs : List ℕ) → list_all is_word_byte cs ≡ true → has_slash cs ≡ false
later_bytes [] h = refl
later_bytes (c ∷ cs) h = let both = and_true (is_word_byte c) (list_all is_word_byte cs) h in λ i. no_slash c both.0 i || later_bytes cs both.1 i

word_alone : (name : List ℕ) → is_word name ≡ true → has_slash name ≡ false
word_alone [] h = absurd (true≢false (sym h))
word_alone (c ∷ cs) h = let both = and_true (begins_word c) (list_all is_word_byte cs) h in λ i. begins c both.0 i || later_bytes cs both.1 i

ends_alone : (ends : List End) → named_by_words ends ≡ true → list_any (λ (e : End). has_slash e.name.name) ends ≡ false
ends_alone [] h = refl
ends_alone (e ∷ es) h = let both = and_true (is_word e.name.name) (named_by_words es) h in λ i. word_alone e.name.name both.0 i || ends_alone es both.1 i

-- ---- the top

-- a proc that is found among items is one of these
found_words : (x : Definition) (p : Proc) → declares_words x ≡ true → as_proc (Some x) ≡ Some p → named_by_words p.config.ends ≡ true
found_words (d.Proc q) p h e = ap (λ (x : Proc). named_by_words x.config.ends) (sym (same_some q p e)) ∙ h
found_words (d.Function f) p h e = none_some p e
found_words (d.Constant c) p h e = none_some p e
found_words (d.Alias a) p h e = none_some p e
found_words (d.Struct s) p h e = none_some p e
found_words (d.Enum n) p h e = none_some p e

named_words : (items : List Item) (name : List ℕ) (p : Proc) → each_declares_words items ≡ true → as_proc (item_named name items) ≡ Some p → named_by_words p.config.ends ≡ true
named_words [] name p h e = none_some p e
named_words (i ∷ is) name p h e =
    let both = and_true (declares_words i.definition) (each_declares_words is) h in by_name (bytes_eq name (name_of_definition i.definition)) both.0 e (named_words is name p both.1)
  where
    by_name : (b : Bool) → declares_words i.definition ≡ true → as_proc (if b then Some i.definition else item_named name is) ≡ Some p → (as_proc (item_named name is) ≡ Some p → named_by_words p.config.ends ≡ true)
        → named_by_words p.config.ends ≡ true
    by_name true h e later = found_words i.definition p h e
    by_name false h e later = later e

-- so is the last one, or the one that was found before these
last_words : (items : List Item) (found : Option Proc) (p : Proc) → ((q : Proc) → found ≡ Some q → named_by_words q.config.ends ≡ true) → each_declares_words items ≡ true → last_proc_of items found ≡ Some p → named_by_words p.config.ends ≡ true
last_words [] found p before h e = before p e
last_words (i ∷ is) found p before h e =
    let both = and_true (declares_words i.definition) (each_declares_words is) h in by_definition i.definition both.0 e (λ o so. last_words is o p so both.1)
  where
    Rest : Type 0
    Rest = (o : Option Proc) → ((q : Proc) → o ≡ Some q → named_by_words q.config.ends ≡ true) → last_proc_of is o ≡ Some p → named_by_words p.config.ends ≡ true

    by_definition : (x : Definition) → declares_words x ≡ true → last_proc_of (record i { definition = x } ∷ is) found ≡ Some p → Rest → named_by_words p.config.ends ≡ true
    by_definition (d.Proc q) one e rest = rest (Some q) (λ r same. ap (λ (x : Proc). named_by_words x.config.ends) (sym (same_some q r same)) ∙ one) e
    by_definition (d.Function f) one e rest = rest found before e
    by_definition (d.Constant c) one e rest = rest found before e
    by_definition (d.Alias a) one e rest = rest found before e
    by_definition (d.Struct s) one e rest = rest found before e
    by_definition (d.Enum n) one e rest = rest found before e

top_words : (m : Module) (top : Option (List ℕ)) (p : Proc) → ends_are_words m ≡ true → top_proc m top ≡ Some p → named_by_words p.config.ends ≡ true
top_words m None p h e = last_words m.items None p (λ q none. none_some q none) h e
top_words m (Some name) p h e = named_words m.items name p h e

pub ends_alone_of_top : (m : Module) (top : Option (List ℕ)) → ends_are_words m ≡ true → EndsHaveNoSlash m top
ends_alone_of_top m top h p e = ends_alone p.config.ends (top_words m top p h e)
