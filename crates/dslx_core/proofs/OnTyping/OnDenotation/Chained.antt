-- What is known of the items of a text means what they mean, where chains from them end.
use Rattle.std.proofs.Common.{◌*◌, ◌≡◌, ℕ, zero, suc, length, Bool, true, false, List, refl, sym, ◌∙◌}
use mathlib.Core.Bool.{true≢false}
use Rattle.dslx_tree.specs.declared.item.Module.{Module}
use Rattle.dslx_meaning.specs.Items.{item_named}
use Rattle.dslx_meaning.specs.Rules.Mentions.{item_reaches}
use Rattle.dslx_meaning.specs.Rules.ModuleRules.{globals_of}
use Rattle.dslx_core.specs.Typing.TypingRelations.Closed.{ends_within}
use Rattle.dslx_core.proofs.Lemmas.Typing.Depends.{call_unknown, constant_unknown, member_unknown, reads_level, reached_in, struct_unknown, type_unknown}
use Rattle.dslx_core.proofs.Lemmas.Typing.TypingRelations.{closed}
use Rattle.dslx_core.proofs.OnTyping.OnLaws.Endings.{OfKinds, no_kind}

-- what reaches itself has no end of chains
never_ends : (m : Module) (k : ℕ) (name : List ℕ) → ends_within m k name ≡ true → item_reaches m name name ≡ true → ⊥
never_ends m zero name h loops = true≢false (sym h)
never_ends m (suc k) name h loops = never_ends m k name (reached_in (ends_within m k) m (closed m k) (length m.items) name name h loops) loops

pub chains_free : (m : Module) (k : ℕ) (name : List ℕ) → ends_within m k name ≡ true → item_reaches m name name ≡ false
chains_free m k name h = by_loop (item_reaches m name name) refl
  where
    by_loop : (b : Bool) → item_reaches m name name ≡ b → item_reaches m name name ≡ false
    by_loop true q = absurd (never_ends m k name h q)
    by_loop false q = q

pub known_kinds : (m : Module) → OfKinds m (globals_of m).items
known_kinds m =
    let n = 2 * length m.items in
    record {
      types = λ name e. type_unknown m n name e;
      structs = λ name e. struct_unknown m n name e;
      kind = λ name e. (reads_level m n).kinds name ∙ no_kind (item_named name m.items) e;
      constants = λ name e. constant_unknown m n name e;
      members = λ name e member. member_unknown m n name member e;
      calls = λ name e given operands. call_unknown m n name given operands e;
    }
