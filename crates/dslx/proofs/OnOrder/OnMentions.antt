-- What a proc mentions in its `config`, and the procs that mentions are of.
use Rattle.std.proofs.Common.{◌≡◌, ◌++◌, ◌∙◌, ℕ, List, [], ◌∷◌, Bool, true, if◌then◌else◌, Option, Some, None, sym, ap}
use Rattle.std.specs.Prelude.{flat_map}
use Rattle.std.specs.List.{list_all}
use Rattle.dslx_tree.specs.declared.item.Definition.{Definition}
use Rattle.dslx_tree.specs.declared.item.Definition.TheVariants as d
use Rattle.dslx_tree.specs.declared.item.Module.{Module}
use Rattle.dslx_tree.specs.declared.process.ConfigStatement.{ConfigStatement}
use Rattle.dslx_tree.specs.declared.process.Proc.{Proc}
use Rattle.dslx_meaning.specs.Items.{item_named}
use Rattle.dslx_meaning.specs.Network.{as_proc}
use Rattle.dslx_meaning.specs.Rules.Mentions.{AsProc, Mention, config_statement_mentions, ends_mentions, is_of_use, mention, mentioned_in_block, mentioned_in_type, names_mentioned, parametric_names, parametrics_mentions, proc_mentions}
use Rattle.dslx_core.specs.Typing.TypingRelations.Closed.{ends_within}
use Rattle.dslx_core.proofs.Lemmas.Typing.Laws.{and_true}
use Rattle.dslx_core.proofs.Lemmas.Typing.Depends.{den_parts}
use Rattle.dslx_core.proofs.Lemmas.Typing.Typed.{none_some, same_some}

-- the test holds of all names that these mentions are of
abbrev pub Within : (List ℕ → Bool) → Module → List Mention → Type 0
Within R m ms = list_all R (names_mentioned m ms) ≡ true

pub config_within : (R : List ℕ → Bool) (m : Module) (p : Proc) → Within R m (proc_mentions p) → Within R m (flat_map (λ (x : ConfigStatement). config_statement_mentions x (parametric_names p.parametrics)) p.config.config_statements)
config_within R m p h =
    let parametric_args = parametric_names p.parametrics in
    let front = (parametrics_mentions p.parametrics [] ++ ends_mentions p.members parametric_args) ++ ends_mentions p.config.ends parametric_args in
    let config = flat_map (λ (x : ConfigStatement). config_statement_mentions x parametric_args) p.config.config_statements in
    let init = mentioned_in_block p.init parametric_args in
    let state = mentioned_in_type p.next.ty parametric_args in
    let a = den_parts R m (((front ++ config) ++ init) ++ state) (mentioned_in_block p.next.body (p.next.state.name ∷ parametric_args)) h in
    let b = den_parts R m ((front ++ config) ++ init) state a.0 in
    let c = den_parts R m (front ++ config) init b.0 in
    (den_parts R m front config c.0).1

pub proc_of : (o : Option Definition) (q : Proc) → as_proc o ≡ Some q → o ≡ Some (d.Proc q)
proc_of None q e = none_some q e
proc_of (Some (d.Proc p)) q e = ap (λ x. Some (d.Proc x)) (same_some p q e)
proc_of (Some (d.Function f)) q e = none_some q e
proc_of (Some (d.Constant c)) q e = none_some q e
proc_of (Some (d.Alias a)) q e = none_some q e
proc_of (Some (d.Struct s)) q e = none_some q e
proc_of (Some (d.Enum n)) q e = none_some q e

pub mentioned_proc : (m : Module) (k : ℕ) (name : List ℕ) (p : Proc) → item_named name m.items ≡ Some (d.Proc p) → Within (ends_within m k) m (mention AsProc name) → ends_within m k name ≡ true
mentioned_proc m k name p e h =
    (and_true (ends_within m k name) true ((λ t. list_all (ends_within m k) (if is_of_use AsProc (sym e t) then name ∷ [] else [])) ∙ h)).0
