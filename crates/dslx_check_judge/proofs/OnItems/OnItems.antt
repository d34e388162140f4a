-- Items by their numbers, where those of one name are told apart, and walks over their texts.
use Rattle.std.proofs.Common.{◌≡◌, ◌∙◌, ◌==◌, ℕ, Bool, true, false, List, [], ◌∷◌, Option, Some, None, length, drop, arith, refl, sym, ap, subst}
use mathlib.Core.Bool.{true≢false}
use Rattle.std.proofs.lemmas.Bool.Decides.{Decides-eqb}
use Rattle.std.proofs.lemmas.Option.{same_Some}
use Rattle.dslx_tree.specs.declared.ident.Ident.{Ident}
use Rattle.dslx_tree.specs.declared.item.Alias.{Alias}
use Rattle.dslx_tree.specs.declared.item.Definition.{Definition}
use Rattle.dslx_tree.specs.declared.item.Definition.TheVariants as d
use Rattle.xb_span.specs.declared.fault.Fault.{Fault}
use Rattle.dslx_meaning.specs.Rules.ItemRules.{item_type_env, nothing_found, typing_of_type}
use Rattle.dslx_meaning.specs.Rules.ModuleRules.{item_found}
use Rattle.dslx_meaning.specs.Rules.TypeEnvs.{GlobalEnv, unless_broken}
use Rattle.dslx_check_rules.specs.declared.faults.Faults.{Faults}
use Rattle.dslx_check_rules.specs.declared.table.row.TypeId.{TypeId}
use Rattle.dslx_check_rules.specs.declared.table.row.TypeRow.{TypeRow}
use Rattle.dslx_check_rules.specs.declared.typing.Typing.{Typing}
use Rattle.dslx_check_rules.specs.Interned.{HasRowIf, ItemNames, type_if}
use Rattle.dslx_check_rules.specs.Seen.{seen}
use Rattle.dslx_check_facts.specs.declared.facts.Facts.{Facts}
use Rattle.dslx_check_facts.specs.declared.type_env.TypeEnv.{TypeEnv as CodeEnv}
use Rattle.dslx_check_facts.specs.Known.{FactsHold, HasKnownRows, item_at, item_names, text_of}
use Rattle.dslx_check_facts.specs.Names.{definition_at}
use Rattle.dslx_check_facts.specs.Walks.{HasTables, WalkShown, instances_at}
use Rattle.dslx_check_facts.proofs.Lemmas.Walks.{grows_refl, tables_refl}
use Rattle.dslx_check_declarations.specs.declared.items.ItemSeen.{ItemSeen}
use Rattle.dslx_check_declarations.specs.Scopes.{outside}
use Rattle.dslx_check_declarations.specs.Tops.{named_as}
use Rattle.dslx_check_declarations.proofs.Lemmas.Items.{nothing_put, walk_item}
use Rattle.dslx_check_declarations.proofs.Lemmas.Told.{told_at}
use Rattle.dslx_check_leaves.specs.Walked.{Claim, TypesPart, WalksTo}
use Rattle.dslx_check_leaves.proofs.Lemmas.Walking.{all_dropped}
use Rattle.dslx_check_declarations.specs.Work.Comes.{ComesToType, ItemComesTo}
use Rattle.dslx_check_judge.specs.Items.Inner.Kinds.{JudgesNamed}
use Rattle.dslx_check_judge.specs.Items.Judged.{FindsAs, JudgesItem, is_learnt}
use Rattle.dslx_check_judge.proofs.Lemmas.Items.OnNames.{called}

-- ---- items of numbers

-- the item as it stands in the text, under another name
pub record IsNamedAs (f : Facts) (item : ℕ) (definition x : Definition) : Type 0 where
  pub name : Ident
  pub is : x ≡ named_as name definition
  pub at : item_at f item ≡ Some (named_as name definition)

pub told : (f : Facts) (item : ℕ) (definition x : Definition) → definition_at (text_of f).items item ≡ Some definition → item_at f item ≡ Some x → IsNamedAs f item definition x
told f item definition x e at =
    let t = told_at [] (text_of f).items item definition e in
    record { name = t.0; is = same_Some x (named_as t.0 definition) (sym at ∙ t.2); at = t.2 }

-- ---- walks over the text of an item

-- what a walk comes to in the text of an item outside all blocks, which is called so
pub holds_named : {f : Facts} {item : ℕ} {s1 : CodeEnv} {w0 w1 : WalkShown} (P : Claim) {name : List ℕ} → WalksTo f (outside item) s1 w0 w1 P → (known : GlobalEnv) (later : WalkShown) → HasTables w1 later → FactsHold f later known
    → HasKnownRows w0.rows f → w1.missing ≡ [] → (item_names f).item item ≡ name → P (item_names f) w1.rows later (drop (length w0.reached) w1.reached) (item_type_env known name [])
holds_named {f} {item} {s1} {w0} {w1} P {name} g known later has agrees rows none is =
    subst (λ (n : List ℕ). P (item_names f) w1.rows later (drop (length w0.reached) w1.reached) (item_type_env known n [])) is
    (g.holds known later has agrees (record { known = rows; bound = record { parametric_args = tt; locals = tt; members = tt } }) none)

-- a list without elements
pub none_of : {A : Type 0} (xs : List A) {b : Bool} → b ≡ (length xs == 0) → b ≡ true → xs ≡ []
none_of [] e t = refl
none_of (x ∷ xs) e t = absurd (omega (arith, (Decides-eqb (length (x ∷ xs)) 0).0 (sym e ∙ t)))

pub some_of : {A : Type 0} (xs : List A) {b : Bool} → b ≡ (length xs == 0) → b ≡ false → xs ≡ [] → ⊥
some_of xs e t empty = true≢false (sym ((Decides-eqb (length xs) 0).1 (ap length empty)) ∙ sym e ∙ t)

-- ---- items of each kind

-- one whose name doesn't matter
pub item_judged : {f : Facts} {w0 w1 : WalkShown} {item : ℕ} (is_first : Bool) {definition : Definition} {j : ItemSeen} → is_learnt is_first definition ≡ true → JudgesNamed f w0 w1 item definition j
    → JudgesItem f w0 w1 item is_first definition j
item_judged {f} {w0} {w1} {item} is_first {definition} {j} learnt n = record {
  grows = n.grows;
  postponed = n.postponed;
  only_found = λ e. absurd (true≢false (sym learnt ∙ e));
  finds = λ known agrees rows none x text at fresh.
      let t = told f item definition x text at in
      subst (λ (y : Definition). FindsAs f w0 w1 j.faults (item_found known y)) (sym t.is) (n.finds known agrees rows none t.name t.at fresh);
  comes = λ known agrees rows none x text at fresh may.
      let t = told f item definition x text at in
      subst (λ (y : Definition). ItemComesTo f w1 known y j) (sym t.is) (n.comes known agrees rows none t.name t.at fresh);
}

-- a function or a proc, which comes to nothing here
pub nothing_judged : {f : Facts} {w : WalkShown} {item : ℕ} (is_first : Bool) (definition : Definition) {j : ItemSeen} → is_learnt is_first definition ≡ true
    → ((known : GlobalEnv) (name : Ident) → FindsAs f w w j.faults (item_found known (named_as name definition)))
    → ((known : GlobalEnv) (name : Ident) → ItemComesTo f w known (named_as name definition) j) → JudgesItem f w w item is_first definition j
nothing_judged {f} {w} {item} is_first definition {j} learnt finds comes = item_judged is_first learnt (record {
  grows = nothing_put w item;
  postponed = λ missing. grows_refl w;
  finds = λ known agrees rows none name at fresh. finds known name;
  comes = λ known agrees rows none name at fresh. comes known name;
})

-- an alias
pub alias_named : {f : Facts} {item : ℕ} {s0 s1 : CodeEnv} {w0 w1 : WalkShown} (a : Alias) {ty : Typing} {named : Option TypeId} {j : ItemSeen} → s0 ≡ outside item
    → WalksTo f s0 s1 w0 w1 (TypesPart ty (λ env. typing_of_type env a.ty))
    → ((names : ItemNames) (rows : List TypeRow) (fs : List Fault) → ty.faults ≡ seen fs → type_if names rows named ≡ unless_broken fs (type_if names rows ty.ty))
    → ((rows : List TypeRow) → HasRowIf rows ty.ty → HasRowIf rows named)
    → j.faults ≡ ty.faults → j.named_type ≡ named → j.value ≡ None → j.value_type ≡ None → JudgesNamed f w0 w1 item (d.Alias a) j
alias_named {f} {item} {s0} {s1} {w0} {w1} a {ty} {named} {j} fresh_env g is there faults type no_value no_value_type =
    let P : Claim = TypesPart ty (λ env. typing_of_type env a.ty) in
    let walked : WalksTo f (outside item) s1 w0 w1 P = subst (λ (s : CodeEnv). WalksTo f s s1 w0 w1 P) fresh_env g in
    record {
      grows = walk_item item g.grows;
      postponed = λ missing. g.grows;
      finds = λ known agrees rows none name at fresh. record {
        faults_are = faults ∙ (holds_named P walked known w1 (tables_refl w1) (agrees w1 (tables_refl w1)) rows none (called f item _ at)).part.faults;
        reaches = λ later has. (holds_named P walked known later has (agrees later has) rows none (called f item _ at)).reaches;
      };
      comes = λ known agrees rows none name at fresh.
          let here = holds_named P walked known w1 (tables_refl w1) (agrees w1 (tables_refl w1)) rows none (called f item _ at) in
          record {
            named = λ later has.
                let t = holds_named P walked known later has (agrees later has) rows none (called f item _ at) in
                let j' = typing_of_type (item_type_env known name.name []) a.ty in
                ap (type_if (item_names f) later.rows) type ∙ is (item_names f) later.rows j'.faults t.part.faults ∙ ap (unless_broken j'.faults) t.part.ty;
            row = subst (HasRowIf w1.rows) (sym type) (there w1.rows here.part.row);
            no_value = no_value;
            no_value_type = no_value_type;
          };
    }

-- functions and procs
pub comes_to_nothing : {f : Facts} {w : WalkShown} {j : ItemSeen} → j.named_type ≡ None → j.value ≡ None → j.value_type ≡ None → ComesToType f w j None
comes_to_nothing {f} {w} {j} e no_value no_value_type =
    record { named = λ later has. ap (type_if (item_names f) later.rows) e; row = subst (HasRowIf w.rows) (sym e) tt; no_value = no_value; no_value_type = no_value_type }

pub finds_nothing : {f : Facts} {w : WalkShown} {faults : Faults} → faults ≡ seen [] → FindsAs f w w faults nothing_found
finds_nothing {f} {w} {faults} e = record { faults_are = e; reaches = λ later has. ap (instances_at (item_names f) later.met) (all_dropped w.reached) }
