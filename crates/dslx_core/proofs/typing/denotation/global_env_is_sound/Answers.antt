use Rattle.std.proofs.Common.{◌*◌, suc, length, arith}
use Rattle.dslx_meaning.specs.Items.{meanings_over}
use Rattle.dslx_meaning.specs.Rules.ModuleRules.{globals_of}
use Rattle.dslx_core.proofs.Lemmas.Typing.Laws.Chains.{never_loops}
use Rattle.dslx_core.proofs.Lemmas.Typing.TypingRelations.{whole_is}
use Rattle.dslx_core.proofs.OnTyping.OnDenotation.Chained.{chains_free, known_kinds}
use Rattle.dslx_core.proofs.OnTyping.OnDenotation.Itself.{IsSettled, over_itself}
use Rattle.dslx_core.proofs.OnTyping.OnLaws.Endings.{chains_mean, one_meaning}
use Rattle.dslx_core.proofs.typing.denotation.global_env_is_sound.Goals as goal

pub returns-clause-item : goal.returns-clause-item
returns-clause-item c = λ m well_typed name ends.
    let complete = c.all_items_are_known.ensures.complete m well_typed in
    let typed = c.all_items_are_known.ensures.typed m well_typed in
    let s : IsSettled m (globals_of m) = record {
      text = whole_is m (2 * length m.items);
      kinds = complete.kinds;
      uses = c.what_is_known_settles.ensures.items m (2 * length m.items) (suc (2 * length m.items)) (omega arith) (omega arith);
      well_typed = well_typed;
      stand = record {
        constants = c.constants_are_known.ensures (globals_of m) complete typed;
        aliases = c.types_are_known.ensures.of_alias (globals_of m) complete typed;
        structs = c.types_are_known.ensures.of_struct (globals_of m) complete typed;
        enums = c.types_are_known.ensures.of_enum (globals_of m) complete typed;
      };
    } in
    chains_mean m (globals_of m).items (known_kinds m) (λ k n e. over_itself m (globals_of m) s n (chains_free m k n e)) (length m.items) (length m.items) name (omega arith) ends

pub returns-clause-whole : goal.returns-clause-whole
returns-clause-whole c = λ m free well_typed.
    let complete = c.all_items_are_known.ensures.complete m well_typed in
    let typed = c.all_items_are_known.ensures.typed m well_typed in
    let s : IsSettled m (globals_of m) = record {
      text = whole_is m (2 * length m.items);
      kinds = complete.kinds;
      uses = c.what_is_known_settles.ensures.items m (2 * length m.items) (suc (2 * length m.items)) (omega arith) (omega arith);
      well_typed = well_typed;
      stand = record {
        constants = c.constants_are_known.ensures (globals_of m) complete typed;
        aliases = c.types_are_known.ensures.of_alias (globals_of m) complete typed;
        structs = c.types_are_known.ensures.of_struct (globals_of m) complete typed;
        enums = c.types_are_known.ensures.of_enum (globals_of m) complete typed;
      };
    } in
    let items = (globals_of m).items in
    c.recursion_ends.ensures.only m free items (one_meaning (meanings_over m items) items (λ name. over_itself m (globals_of m) s name (never_loops m free name)))
