-- Channels that a `config` makes.
use Rattle.std.proofs.Common.{◌≡◌, ◌∙◌, ◌++◌, ◌∷◌, ◌||◌, ℕ, Bool, true, false, List, Option, Some, is_some, refl, sym, ap}
use Rattle.std.specs.Prelude.{if◌then◌else◌}
use Rattle.std.specs.Str.{bytes_eq}
use Rattle.base.specs.NameTable.Found.{found}
use Rattle.xb_span.specs.declared.fault.Fault.{Fault}
use Rattle.dslx_tree.specs.declared.ident.Ident.{Ident}
use Rattle.dslx_tree.specs.declared.process.Channel.{Channel}
use Rattle.dslx_tree.specs.declared.process.Direction.TheVariants.{In, Out}
use Rattle.dslx_meaning.specs.Lists.{is_in}
use Rattle.dslx_meaning.specs.Rules.NameRules.{local_name}
use Rattle.dslx_meaning.specs.Rules.ProcRules.{string_faults}
use Rattle.dslx_meaning.specs.Rules.RuleNumbers as rule
use Rattle.dslx_meaning.specs.Rules.TypeEnvs.{GlobalEnv, TypeEnv, breaks_if}
use Rattle.dslx_check_rules.specs.declared.faults.Faults.{Faults}
use Rattle.dslx_check_rules.specs.declared.table.row.TypeId.{TypeId}
use Rattle.dslx_check_rules.specs.Seen.{seen}
use Rattle.dslx_check_facts.specs.declared.facts.Facts.{Facts}
use Rattle.dslx_check_facts.specs.declared.type_env.MemberEnd.{MemberEnd}
use Rattle.dslx_check_facts.specs.declared.type_env.TypeEnv.{TypeEnv as CodeEnv}
use Rattle.dslx_check_facts.specs.Known.{FactsHold}
use Rattle.dslx_check_facts.specs.Walks.{WalkShown}
use Rattle.dslx_check_declarations.specs.declared.config.Made.{Made}
use Rattle.dslx_check_declarations.specs.declared.ends.NamedEnd.{NamedEnd}
use Rattle.dslx_check_declarations.specs.Config.{AddsEnd, AddsString, AreMeant, AreStrings, MakesChannel, NamesChannel}

-- a name in a list
abbrev pub IsLocal : Facts → Bool → Ident → Faults → Type 0
IsLocal f is_before ident faults = (known : GlobalEnv) (later : WalkShown) (context : TypeEnv) (before : List (List ℕ)) → FactsHold f later known → context.known.whole ≡ known.whole
    → is_before ≡ is_in ident.name before → faults ≡ seen (local_name context before ident)

abbrev pub Adds : Faults → Faults → Faults → Type 0
Adds a b r = (fs gs : List Fault) → a ≡ seen fs → b ≡ seen gs → r ≡ seen (fs ++ gs)

pub either_is : (a b r : Bool) → r ≡ (a || b) → r ≡ (if a then true else b)
either_is true b r e = e
either_is false b r e = e

pub names_are : {f : Facts} {made : Made} {first second string most all : Faults} {has_sender has_receiver is_before has_string : Bool} (c : Channel)
    → IsLocal f has_sender c.sender first → IsLocal f is_before c.receiver second
    → ((names : List (List ℕ)) → AreMeant made names → has_sender ≡ is_in c.sender.name names) → ((names : List (List ℕ)) → AreMeant made names → has_receiver ≡ is_in c.receiver.name names)
    → is_before ≡ (if bytes_eq c.receiver.name c.sender.name then true else has_receiver)
    → ((strings : List (List ℕ)) → AreStrings made strings → has_string ≡ is_in c.name.name strings) → string ≡ seen (breaks_if has_string rule.NAME_STANDS_ONCE c.name.span)
    → Adds first second most → Adds most string all → NamesChannel f made c all
names_are {f} {made} {first} {second} {string} {most} {all} {has_sender} {has_receiver} {is_before} {has_string} c one two sender receiver before has string_is adds1 adds2 = record {
  is = λ known later context m holds same meant strings.
      let A = local_name context m.names c.sender in
      let B = local_name context (c.sender.name ∷ m.names) c.receiver in
      adds2 (A ++ B) (string_faults m.strings c.name)
      (adds1 A B (one known later context m.names holds same (sender m.names meant))
      (two known later context (c.sender.name ∷ m.names) holds same (before ∙ ap (λ b. if bytes_eq c.receiver.name c.sender.name then true else b) (receiver m.names meant))))
      (string_is ∙ ap (λ b. seen (breaks_if b rule.NAME_STANDS_ONCE c.name.span)) (has m.strings strings));
}

-- ---- both ends and the string

pub made_is : {s0 s1 : CodeEnv} {m0 m1 m2 m3 : Made} {sends receives : NamedEnd} {word : Option TypeId} (c : Channel)
    → s1 ≡ record s0 { ends = (c.receiver.name, tt) ∷ (c.sender.name, tt) ∷ s0.ends }
    → (receives.name.now ≡ c.receiver.name) × (receives.end ≡ record { direction = In; word = word }) → AddsEnd m0 m1 receives
    → (sends.name.now ≡ c.sender.name) × (sends.end ≡ record { direction = Out; word = word }) → AddsEnd m1 m2 sends → AddsString m2 m3 c.name.name
    → MakesChannel s0 s1 m0 m3 c word
made_is {s0} {s1} {m0} {m1} {m2} {m3} {sends} {receives} {word} c scope in_is first out_is second string = record {
  scope = scope;
  meant = λ name.
      ap (λ (m : Made). found m.meant name) string.rest ∙ second.meant name
      ∙ (λ i. if bytes_eq name (out_is.0 i) then Some (out_is.1 i) else first.meant name i)
      ∙ (λ i. if bytes_eq name c.sender.name then Some (record { direction = Out; word = word }) else if bytes_eq name (in_is.0 i) then Some (in_is.1 i) else found m0.meant name);
  strings = λ name.
      string.has name
      ∙ ap (λ (m : Made). if bytes_eq name c.name.name then true else is_some (found m.strings name)) (second.rest)
      ∙ ap (λ (m : Made). if bytes_eq name c.name.name then true else is_some (found m.strings name)) (first.rest);
  uses = ap (λ (m : Made). m.uses) string.rest ∙ ap (λ (m : Made). m.uses) second.rest ∙ ap (λ (m : Made). m.uses) first.rest;
}
