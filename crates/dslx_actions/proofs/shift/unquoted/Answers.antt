use Rattle.std.proofs.Common.{◌∙◌, ◌-◌, ap, sym, subst, length, take, drop}
use Rattle.std.specs.Str.{IsAscii}
use Rattle.std.proofs.lemmas.Str.{IsUtf8-from_ascii, IsAscii-drop, IsAscii-take}
use Rattle.dslx_actions.specs.Tokens.{unquoted}
use Rattle.dslx_actions.proofs.shift.unquoted.Goals as goal

pub returns-in-Err : goal.returns-in-Err
returns-in-Err c =
    let text = c.args.text.now in
    let ascii = IsAscii-drop (take (length text - 1) text) 1 (IsAscii-take text (length text - 1) c.requires) in
    absurd ((c.in-Err.ensures {u = tt}).cases.0 (IsUtf8-from_ascii c.between_ends.result.now (subst IsAscii (sym (c.between_ends.ensures ∙ ap unquoted c.as_bytes.ensures.value)) ascii)))
