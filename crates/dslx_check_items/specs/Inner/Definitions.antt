-- What the walk does at each kind of item.
use Rattle.std.specs.Prelude.{List, [], ◌∷◌, length, map}
use Rattle.std.specs.Option.{option_map}
use Rattle.dslx_tree.specs.declared.item.Constant.{Constant}
use Rattle.dslx_tree.specs.declared.item.Definition.{Definition}
use Rattle.dslx_tree.specs.declared.item.Definition.TheVariants as d
use Rattle.dslx_tree.specs.declared.item.Enum.{Enum}
use Rattle.dslx_tree.specs.declared.item.Field.{Field}
use Rattle.dslx_tree.specs.declared.item.Function.{Function}
use Rattle.dslx_tree.specs.declared.item.Member.{Member}
use Rattle.dslx_tree.specs.declared.item.Parametric.{Parametric}
use Rattle.dslx_tree.specs.declared.process.Channel.{Channel}
use Rattle.dslx_tree.specs.declared.process.ConfigStatement.{ConfigStatement}
use Rattle.dslx_tree.specs.declared.process.ConfigStatement.TheVariants as config_statement
use Rattle.dslx_tree.specs.declared.process.End.{End}
use Rattle.dslx_tree.specs.declared.process.Proc.{Proc}
use Rattle.dslx_tree.specs.declared.process.Spawn.{Spawn}
use Rattle.dslx_meaning.specs.Rules.Mentions.{AsProc, Mentions, field_names, mentioned, mentioned_in_arg, mentioned_in_block, mentioned_in_type, parametric_names}
use Rattle.dslx_check_items.specs.Inner.Walks.{MentionWalk, binding, keeping, mentioning, mentioning_all, mentioning_if, naming}

abbrev pub in_field_type : Field → Mentions
in_field_type f = mentioned_in_type f.ty

abbrev pub in_end : End → Mentions
in_end e = mentioned_in_type e.word

abbrev pub in_member : Member → Mentions
in_member m = mentioned m.value

-- a parameter's type and default see the parameters before it
abbrev pub parametric_walk : Parametric → MentionWalk → MentionWalk
parametric_walk p w = binding (p.name.name ∷ []) (mentioning_if (option_map mentioned p.default) (mentioning (mentioned_in_type p.ty) w))

abbrev pub behind_parametrics : List Parametric → MentionWalk → MentionWalk
behind_parametrics [] w = w
behind_parametrics (p ∷ ps) w = behind_parametrics ps (parametric_walk p w)

-- all are bound then, the first one first
abbrev pub parametrics_walk : List Parametric → MentionWalk → MentionWalk
parametrics_walk ps w = binding (parametric_names ps) (keeping (length w.bound) (behind_parametrics ps w))

abbrev pub function_walk : Function → MentionWalk → MentionWalk
function_walk f w =
    mentioning (mentioned_in_block f.body) (binding (field_names f.arguments)
    (mentioning_if (option_map mentioned_in_type f.result) (mentioning_all (map in_field_type f.arguments) (parametrics_walk f.parametrics w))))

abbrev pub constant_walk : Constant → MentionWalk → MentionWalk
constant_walk c w = mentioning (mentioned c.value) (mentioning_if (option_map mentioned_in_type c.ty) w)

abbrev pub enum_walk : Enum → MentionWalk → MentionWalk
enum_walk e w = mentioning_all (map in_member e.members) (mentioning (mentioned_in_type e.base) w)

abbrev pub channel_walk : Channel → MentionWalk → MentionWalk
channel_walk c w = mentioning_if (option_map mentioned_in_arg c.depth) (mentioning (mentioned_in_type c.word) w)

abbrev pub spawn_walk : Spawn → MentionWalk → MentionWalk
spawn_walk s w = mentioning_all (map mentioned_in_arg s.arguments) (naming AsProc s.target.name w)

abbrev pub config_statement_walk : ConfigStatement → MentionWalk → MentionWalk
config_statement_walk (config_statement.Channel x) w = channel_walk x w
config_statement_walk (config_statement.Spawn s) w = spawn_walk s w

abbrev pub config_walk : List ConfigStatement → MentionWalk → MentionWalk
config_walk [] w = w
config_walk (s ∷ ss) w = config_walk ss (config_statement_walk s w)

abbrev pub interface_walk : Proc → MentionWalk → MentionWalk
interface_walk p w = mentioning_all (map in_end p.config.ends) (mentioning_all (map in_end p.members) (parametrics_walk p.parametrics w))

abbrev pub proc_walk : Proc → MentionWalk → MentionWalk
proc_walk p w =
    mentioning (mentioned_in_block p.next.body) (binding (p.next.state.name ∷ []) (mentioning (mentioned_in_type p.next.ty) (mentioning (mentioned_in_block p.init)
    (config_walk p.config.config_statements (interface_walk p w)))))

abbrev pub definition_walk : Definition → MentionWalk → MentionWalk
definition_walk (d.Function f) w = function_walk f w
definition_walk (d.Proc p) w = proc_walk p w
definition_walk (d.Constant c) w = constant_walk c w
definition_walk (d.Alias a) w = mentioning (mentioned_in_type a.ty) w
definition_walk (d.Struct s) w = mentioning_all (map in_field_type s.fields) w
definition_walk (d.Enum e) w = enum_walk e w
