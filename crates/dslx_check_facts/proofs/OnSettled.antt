-- Mentions of items that are known with all that they mention.
use Rattle.std.proofs.Common.{◌≡◌, ◌∙◌, ◌&&◌, ◌||◌, Bool, true, false, not, List, [], ◌∷◌, Option, Some, None, map, refl, sym, ap, if◌then◌else◌}
use Rattle.std.specs.List.{AllByRecursion, list_all}
use Rattle.std.specs.Cmp.{first_so, second_so}
use Rattle.dslx_tree.specs.declared.expr.Expr.{Expr}
use Rattle.dslx_tree.specs.declared.item.Definition.{Definition}
use Rattle.dslx_meaning.specs.Items.{item_named}
use Rattle.dslx_meaning.specs.Rules.Mentions.{Mention, is_of_use, mentioned, names_mentioned}
use Rattle.dslx_meaning.specs.Rules.Namesakes.{told_apart}
use Rattle.dslx_check_items.specs.Shown.{mention_shown}
use Rattle.dslx_check_items.specs.declared.mention.Mention.{Mention as CodeMention}
use Rattle.dslx_check_facts.specs.Inner.Settled.{mention_settles}
use Rattle.dslx_check_facts.specs.Known.{is_settled, text_of}
use Rattle.dslx_check_facts.specs.Names.{MentionNoMark}
use Rattle.dslx_check_facts.specs.declared.facts.Facts.{Facts}
use Rattle.dslx_check_facts.proofs.Lemmas.Mentioned.{mentioned_alike, no_kind}

-- of each mention
all_named : (f : Facts) (ms : List Mention) → list_all (mention_settles f) ms ≡ true → list_all (is_settled f) (names_mentioned (text_of f) ms) ≡ true
all_named f [] e = refl
all_named f (m ∷ ms) e = by (is_of_use m.use_as (item_named m.name (text_of f).items)) (first_so (mention_settles f m) (list_all (mention_settles f) ms) e) (all_named f ms (second_so (mention_settles f m) (list_all (mention_settles f) ms) e))
  where
    by : (b : Bool) → (if b then is_settled f m.name else true) ≡ true → list_all (is_settled f) (names_mentioned (text_of f) ms) ≡ true
        → list_all (is_settled f) (if b then m.name ∷ names_mentioned (text_of f) ms else names_mentioned (text_of f) ms) ≡ true
    by true q rest = ap (λ b. b && list_all (is_settled f) (names_mentioned (text_of f) ms)) q ∙ rest
    by false q rest = rest

abbrev pub MentionSettles : Facts → CodeMention → Type 0
MentionSettles f m = mention_settles f (mention_shown m) ≡ true

each_settles : (f : Facts) (ms : List CodeMention) → AllByRecursion (λ m. mention_settles f (mention_shown m) ≡ true) ms → list_all (mention_settles f) (map mention_shown ms) ≡ true
each_settles f [] h = refl
each_settles f (m ∷ ms) h = ap (λ b. b && list_all (mention_settles f) (map mention_shown ms)) h.0 ∙ each_settles f ms h.1

pub all_settled : (f : Facts) (ms : List CodeMention) (e : Expr) → map mention_shown ms ≡ mentioned e [] → MentionNoMark (mentioned e []) → AllByRecursion (λ m. mention_settles f (mention_shown m) ≡ true) ms
    → list_all (is_settled f) (names_mentioned (told_apart (text_of f)) (mentioned e [])) ≡ true
all_settled f ms e shown plain test =
    ap (list_all (is_settled f)) (mentioned_alike (text_of f) (mentioned e []) plain) ∙ all_named f (mentioned e []) (sym (ap (list_all (mention_settles f)) shown) ∙ each_settles f ms test)

-- where no item has the name
pub none_settles : (f : Facts) (m : Mention) → None ≡ item_named m.name (text_of f).items → true ≡ mention_settles f m
none_settles f m e = sym (ap (λ o. if is_of_use m.use_as o then is_settled f m.name else true) (sym e) ∙ ap (λ b. if b then is_settled f m.name else true) (no_kind m.use_as))

-- where one has it
pub some_settles : (f : Facts) (m : Mention) (x : Definition) → Some x ≡ item_named m.name (text_of f).items → (b c : Bool) → b ≡ is_of_use m.use_as (Some x) → c ≡ is_settled f m.name → (not b || c) ≡ mention_settles f m
some_settles f m x e b c of settled = (λ i. not (of i) || settled i) ∙ by (is_of_use m.use_as (Some x)) ∙ ap (λ o. if is_of_use m.use_as o then is_settled f m.name else true) e
  where
    by : (b : Bool) → (not b || is_settled f m.name) ≡ (if b then is_settled f m.name else true)
    by true = refl
    by false = refl
