-- The parts that the rules of modules, functions, constants and types that are named make stand where the parts of their symbols do.
use Rattle.std.proofs.Common.{refl}
use Rattle.dslx_parser.specs.Syntax.Items.{rules}
use Rattle.dslx_parser.specs.Spans.Places.{nothing}
use Rattle.dslx_parser.specs.Spans.Places as things
use Rattle.dslx_parser.proofs.OnSpans.Around.{a_name_of, after, before, before_mark, ending, starting, up_to_end}
use Rattle.dslx_parser.proofs.OnSpans.Fits.{AllKeep, none, ◌&◌}
use Rattle.dslx_parser.proofs.OnSpans.Standing.{alone, behind, made_of, operand_in, stands_in}

pub keep : AllKeep rules
unfolding rules
keep =
    -- module = items
    (λ _ from to items. items) &
    -- items = item items
    (λ _ from to (_, item, items). behind item items) &
    -- items = (nothing)
    (λ _ from to k. nothing k) &
    -- item = PUB definition
    (λ _ from to (_, keyword, definition). made_of (things.of_item _) (before keyword definition)) &
    -- item = definition
    (λ _ from to definition. made_of (things.of_item _) definition) &
    -- definition = function
    (λ _ from to definition. definition) &
    -- definition = proc
    (λ _ from to definition. definition) &
    -- definition = constant
    (λ _ from to definition. definition) &
    -- definition = alias
    (λ _ from to definition. definition) &
    -- definition = structure
    (λ _ from to definition. definition) &
    -- definition = enumeration
    (λ _ from to definition. definition) &
    -- any_name = NAME
    (λ _ from to name. a_name_of refl name) &
    -- any_name = TYPENAME
    (λ _ from to name. a_name_of refl name) &
    -- any_name = FUNNAME
    (λ _ from to name. a_name_of refl name) &
    -- any_name = STRUCTNAME
    (λ _ from to name. a_name_of refl name) &
    -- any_name = BOTHNAME
    (λ _ from to name. a_name_of refl name) &
    -- open_brace = LBRACE
    (λ _ from to brace. brace.within) &
    -- open_brace = FIELDS
    (λ _ from to brace. brace.within) &
    -- open_angle = LT
    (λ _ from to angle. angle.within) &
    -- open_angle = ARGS
    (λ _ from to angle. angle.within) &
    -- function = FN any_name parameters LPAREN arguments_declared RPAREN result_type block
    (λ _ from to (_, keyword, (_, name, (_, parametrics, (_, opening, (_, arguments, (_, closing, (_, result, body))))))). alone from to (things.of_function _) (starting keyword (behind (stands_in name) (behind parametrics (before opening (behind arguments (before closing (behind result (up_to_end body)))))))) keyword.within.first body.within.last) &
    -- result_type = ARROW type
    (λ _ from to (_, arrow, ty). before arrow (stands_in ty)) &
    -- result_type = (nothing)
    (λ _ from to k. nothing k) &
    -- parameters = open_angle parameter parameters_more GT
    (λ _ from to (_, open_angle, (_, parametric, (_, more, end))). behind (before_mark open_angle parametric) (after more end)) &
    -- parameters = (nothing)
    (λ _ from to k. nothing k) &
    -- parameters_more = COMMA parameter parameters_more
    (λ _ from to (_, comma, (_, parametric, more)). behind (before comma parametric) more) &
    -- parameters_more = (nothing)
    (λ _ from to k. nothing k) &
    -- parameter = any_name COLON type parameter_default
    (λ _ from to (_, name, (_, colon, (_, ty, default))). made_of (things.of_parametric _) (behind (stands_in name) (before colon (behind (stands_in ty) default)))) &
    -- parameter_default = ASSIGN LBRACE expr RBRACE
    (λ _ from to (_, sign, (_, opening, (_, value, closing))). before sign (before opening (after (operand_in value) closing))) &
    -- parameter_default = (nothing)
    (λ _ from to k. nothing k) &
    -- arguments_declared = argument_declared arguments_declared_more
    (λ _ from to (_, argument, more). behind argument more) &
    -- arguments_declared = (nothing)
    (λ _ from to k. nothing k) &
    -- arguments_declared_more = COMMA arguments_declared
    (λ _ from to (_, comma, arguments). before comma arguments) &
    -- arguments_declared_more = (nothing)
    (λ _ from to k. nothing k) &
    -- argument_declared = any_name COLON type
    (λ _ from to (_, name, (_, colon, ty)). made_of (things.of_declared _) (behind (stands_in name) (before colon (stands_in ty)))) &
    -- constant = CONST any_name constant_type ASSIGN expr SEMI
    (λ _ from to (_, keyword, (_, name, (_, ty, (_, sign, (_, value, semi))))). alone from to (things.of_constant _) (starting keyword (behind (stands_in name) (behind ty (before sign (ending (operand_in value) semi))))) keyword.within.first semi.within.last) &
    -- constant_type = COLON type
    (λ _ from to (_, colon, ty). before colon (stands_in ty)) &
    -- constant_type = (nothing)
    (λ _ from to k. nothing k) &
    -- alias = TYPE any_name ASSIGN type SEMI
    (λ _ from to (_, keyword, (_, name, (_, sign, (_, ty, semi)))). alone from to (things.of_alias _) (starting keyword (behind (stands_in name) (before sign (ending (stands_in ty) semi)))) keyword.within.first semi.within.last) &
    -- structure = STRUCT any_name open_brace arguments_declared RBRACE
    (λ _ from to (_, keyword, (_, name, (_, open_brace, (_, fields, closing)))). alone from to (things.of_structure _) (starting keyword (behind (stands_in name) (before_mark open_brace (ending fields closing)))) keyword.within.first closing.within.last) &
    -- enumeration = ENUM any_name COLON type open_brace members RBRACE
    (λ _ from to (_, keyword, (_, name, (_, colon, (_, base, (_, open_brace, (_, members, closing)))))). alone from to (things.of_enumeration _) (starting keyword (behind (stands_in name) (before colon (behind (stands_in base) (before_mark open_brace (ending members closing)))))) keyword.within.first closing.within.last) &
    -- members = member members_more
    (λ _ from to (_, member, more). behind member more) &
    -- members = (nothing)
    (λ _ from to k. nothing k) &
    -- members_more = COMMA members
    (λ _ from to (_, comma, members). before comma members) &
    -- members_more = (nothing)
    (λ _ from to k. nothing k) &
    -- member = any_name ASSIGN expr
    (λ _ from to (_, name, (_, sign, value)). made_of (things.of_constant_member _) (behind (stands_in name) (before sign (operand_in value)))) &
    none
