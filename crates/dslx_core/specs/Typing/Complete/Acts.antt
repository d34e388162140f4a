-- What an instance of a proc breaks and reaches outside its `config`.
use Rattle.std.specs.Prelude.{List, [], ◌∷◌, false, map, true}
use Rattle.xb_span.specs.declared.limit.What.TheVariants as what
use Rattle.dslx_tree.specs.declared.block.Block.{out-Block}
use Rattle.dslx_tree.specs.declared.process.Proc.{Proc}
use Rattle.dslx_meaning.specs.declared.value.DslxValue.{DslxValue}
use Rattle.dslx_meaning.specs.Rules.ItemRules.{Found, and_found, body_typing, found_in, typing_of_type, only_faults, parametrics_found}
use Rattle.dslx_meaning.specs.Rules.TypeEnvs.{GlobalEnv, passes_count}
use Rattle.dslx_meaning.specs.Rules.NameRules.{local_name}
use Rattle.dslx_meaning.specs.Rules.ProcRules.{count_sites, ends_found, channel_end_of, proc_type_env}

-- its parametrics, its members, its first state and its `next`
abbrev pub acts_found : GlobalEnv → Proc → List DslxValue → Found
acts_found known p parametric_args =
    let context = proc_type_env known p parametric_args in
    let state = typing_of_type context p.next.ty in
    let inside = record context { members = map (channel_end_of context) p.members } in
    and_found (parametrics_found known p.name.name [] [] p.parametrics parametric_args)
    (and_found (ends_found context [] p.members)
    (and_found (found_in (body_typing false inside state.ty p.init))
    (and_found (only_faults (local_name context [] p.next.state))
    (and_found (found_in state)
    (and_found (found_in (body_typing true (record inside { locals = record { name = p.next.state.name; ty = state.ty } ∷ [] }) state.ty p.next.body))
    (only_faults (passes_count what.Sites 32 p.span.to (count_sites (out-Block p.next.body).statements))))))))
