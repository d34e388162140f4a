-- No two items of a text without faults have one name, and so it stays as it is where items of one name are told apart.
use Rattle.std.proofs.Common.{◌≡◌, ◌||◌, ◌∙◌, ℕ, suc, Bool, true, false, if◌then◌else◌, List, [], ◌∷◌, Option, None, refl, sym, ap}
use Rattle.std.specs.Prelude.{◌↔◌}
use mathlib.Core.Bool.{true≢false}
use Rattle.std.specs.Str.{bytes_eq}
use Rattle.dslx_tree.specs.declared.item.Definition.{Definition}
use Rattle.dslx_tree.specs.declared.item.Definition.TheVariants as d
use Rattle.dslx_tree.specs.declared.item.Item.{Item}
use Rattle.dslx_tree.specs.declared.item.Module.{Module}
use Rattle.dslx_meaning.specs.Items.{name_of_definition}
use Rattle.dslx_meaning.specs.Lists.{is_in, times_in}
use Rattle.dslx_meaning.specs.Callees.{is_own_name}
use Rattle.dslx_meaning.specs.Rules.ModuleRules.{faults_of, first_fault, ident_of, item_names}
use Rattle.dslx_meaning.specs.Rules.NameRules.{listed_name}
use Rattle.dslx_meaning.specs.Rules.Namesakes.{marked_definition, told_apart, told_apart_behind}
use Rattle.dslx_core.proofs.Lemmas.Typing.Accepted.{names_apart}
use Rattle.dslx_core.proofs.Lemmas.Typing.Sound.{none_in, not_broken}
use Rattle.dslx_core.proofs.Lemmas.Typing.Typed.{or_false}

none_there : (name : List ℕ) (before : List (List ℕ)) → is_in name before ≡ false → times_in name before ≡ 0
none_there name [] e = refl
none_there name (n ∷ ns) e = by_first (bytes_eq name n) e (none_there name ns)
  where
    by_first : (b : Bool) → (if b then true else is_in name ns) ≡ false → (is_in name ns ≡ false → times_in name ns ≡ 0) → (if b then suc (times_in name ns) else times_in name ns) ≡ 0
    by_first true q rest = absurd (true≢false q)
    by_first false q rest = rest q

-- without marks
unmarked : (x : Definition) → marked_definition 0 x ≡ x
unmarked (d.Function f) = refl
unmarked (d.Proc p) = refl
unmarked (d.Constant c) = refl
unmarked (d.Alias a) = refl
unmarked (d.Struct s) = refl
unmarked (d.Enum e) = refl

names_agree : (x : Definition) → (ident_of x).name ≡ name_of_definition x
names_agree (d.Function f) = refl
names_agree (d.Proc p) = refl
names_agree (d.Constant c) = refl
names_agree (d.Alias a) = refl
names_agree (d.Struct s) = refl
names_agree (d.Enum e) = refl

already_apart : (before : List (List ℕ)) (is : List Item) → item_names before is ≡ [] → told_apart_behind before is ≡ is
already_apart before [] e = refl
already_apart before (i ∷ is) e =
    let own = ident_of i.definition in
    let both = none_in (listed_name before own) (item_names (own.name ∷ before) is) e in
    let fresh = (or_false (is_own_name own.name) (is_in own.name before) (not_broken (is_own_name own.name || is_in own.name before) 2 own.span both.0)).1 in
    let name = names_agree i.definition in
    let none = none_there (name_of_definition i.definition) before ((λ t. is_in (sym name t) before) ∙ fresh) in
    let first = ap (λ n. marked_definition n i.definition) none ∙ unmarked i.definition in
    let rest = ap (λ n. told_apart_behind (n ∷ before) is) (sym name) ∙ already_apart (own.name ∷ before) is both.1 in
    λ t. record i { definition = first t } ∷ rest t

pub no_namesakes : ((m : Module) (top : Option (List ℕ)) → (first_fault m top ≡ None) ↔ (faults_of m top ≡ [])) → (m : Module) (top : Option (List ℕ)) → first_fault m top ≡ None → told_apart m ≡ m
no_namesakes law m top e = λ t. record { items = already_apart [] m.items (names_apart m top ((law m top).0 e)) t }
