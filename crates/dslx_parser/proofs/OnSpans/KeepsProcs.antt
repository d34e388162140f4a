-- The parts that the rules of procs make stand where the parts of their symbols do.
use Rattle.std.proofs.Common.{inl, inr}
use Rattle.dslx_parser.specs.Syntax.Procs.{rules}
use Rattle.dslx_parser.specs.Spans.Places.{nothing}
use Rattle.dslx_parser.specs.Spans.Places as things
use Rattle.dslx_parser.proofs.OnSpans.Around.{after, at_after, before, before_mark, config_first, ending, goes_by, init_first, mark_after, next_first, starting, up_to_end}
use Rattle.dslx_parser.proofs.OnSpans.Fits.{AllKeep, none, ◌&◌}
use Rattle.dslx_parser.proofs.OnSpans.Standing.{alone, behind, ends_by, lies_in, made_of, stands_in}

pub keep : AllKeep rules
unfolding rules
keep =
    -- proc = PROC any_name parameters open_brace proc_members parts RBRACE
    (λ _ from to (_, keyword, (_, name, (_, parametrics, (_, open_brace, (_, members, (_, parts, closing)))))). alone from to (things.of_proc _ parts.parts parts.order) (starting keyword (behind (stands_in name) (behind parametrics (before_mark open_brace (behind members (ending parts.there closing)))))) keyword.within.first closing.within.last) &
    -- proc_members = proc_member proc_members
    (λ _ from to (_, member, more). behind member more) &
    -- proc_members = (nothing)
    (λ _ from to k. nothing k) &
    -- proc_member = any_name COLON end SEMI
    (λ _ from to (_, name, (_, colon, (_, word, semi))). made_of (things.of_end _) (behind (stands_in name) (before colon (after word semi)))) &
    -- end = CHAN LT type GT direction
    (λ _ from to (_, keyword, (_, keyword_2, (_, ty, (_, end, direction)))). before keyword (before keyword_2 (ends_by to (after (stands_in ty) end) direction))) &
    -- direction = IN
    (λ _ from to keyword. goes_by keyword) &
    -- direction = OUT
    (λ _ from to keyword. goes_by keyword) &
    -- parts = config parts_init_next
    (λ parts from to (_, config, others). config_first parts.0 parts.1.0.0 parts.1.0.1 config others) &
    -- parts = init parts_config_next
    (λ parts from to (_, init, others). init_first parts.1.0.0 parts.0 parts.1.0.1 (stands_in init) others) &
    -- parts = next parts_config_init
    (λ parts from to (_, next, others). next_first parts.1.0.0 parts.1.0.1 parts.0 next others) &
    -- parts_init_next = init next
    (λ _ from to (_, init, next). inl (behind (stands_in init) next)) &
    -- parts_init_next = next init
    (λ _ from to (_, next, init). inr (behind next (stands_in init))) &
    -- parts_config_next = config next
    (λ _ from to (_, config, next). inl (behind config next)) &
    -- parts_config_next = next config
    (λ _ from to (_, next, config). inr (behind next config)) &
    -- parts_config_init = config init
    (λ _ from to (_, config, init). inl (behind config (stands_in init))) &
    -- parts_config_init = init config
    (λ _ from to (_, init, config). inr (behind (stands_in init) config)) &
    -- config = CONFIG LPAREN ends RPAREN LBRACE makings config_result RBRACE
    (λ _ from to (_, keyword, (_, opening, (_, ends, (_, closing, (_, opening_2, (_, config_statements, (_, result, closing_2))))))). alone from to (things.of_config _) (starting keyword (before opening (behind ends (before closing (before opening_2 (behind config_statements (ending result closing_2))))))) keyword.within.first closing_2.within.last) &
    -- ends = end_declared ends_more
    (λ _ from to (_, end, more). behind end more) &
    -- ends = (nothing)
    (λ _ from to k. nothing k) &
    -- ends_more = COMMA ends
    (λ _ from to (_, comma, ends). before comma ends) &
    -- ends_more = (nothing)
    (λ _ from to k. nothing k) &
    -- end_declared = any_name COLON end
    (λ _ from to (_, name, (_, colon, word)). made_of (things.of_end _) (behind (stands_in name) (before colon word))) &
    -- makings = channel makings
    (λ _ from to (_, config_statement, more). behind config_statement more) &
    -- makings = spawn makings
    (λ _ from to (_, config_statement, more). behind config_statement more) &
    -- makings = (nothing)
    (λ _ from to k. nothing k) &
    -- channel = LET LPAREN any_name COMMA any_name RPAREN ASSIGN channel_made
    (λ parts from to (_, keyword, (_, opening, (_, sender, (_, comma, (_, receiver, (_, closing, (_, sign, made))))))). alone from to (things.of_channel _) (starting keyword (before opening (behind (stands_in sender) (before comma (behind (stands_in receiver) (before closing (before sign (ends_by parts.1.1.1.1.1.1.1.0.3.to made.0 made.1)))))))) keyword.within.first made.2) &
    -- channel_made = CHAN LT type channel_depth GT LPAREN STRING channel_end
    (λ parts from to (_, keyword, (_, keyword_2, (_, ty, (_, depth, (_, end, (_, opening, (_, name, end_2))))))). (before keyword (before keyword_2 (behind (stands_in ty) (behind depth (before end (before opening (ends_by parts.1.1.1.1.1.1.1.0.from (lies_in name.within) end_2.first)))))), end_2.goes, end_2.last)) &
    -- channel_end = RPAREN SEMI
    (λ _ from to (_, closing, semi). mark_after closing semi) &
    -- channel_depth = COMMA arg
    (λ _ from to (_, comma, depth). before comma depth) &
    -- channel_depth = (nothing)
    (λ _ from to k. nothing k) &
    -- spawn = SPAWN any_name spawn_args LPAREN names RPAREN SEMI
    (λ _ from to (_, keyword, (_, target, (_, arguments, (_, opening, (_, names, (_, closing, semi)))))). alone from to (things.of_spawn _) (starting keyword (behind (stands_in target) (behind arguments (before opening (ending (after names closing) semi))))) keyword.within.first semi.within.last) &
    -- spawn_args = open_angle arg args_more GT
    (λ _ from to (_, open_angle, (_, arg, (_, more, end))). behind (before_mark open_angle arg) (after more end)) &
    -- spawn_args = (nothing)
    (λ _ from to k. nothing k) &
    -- config_result = LPAREN names RPAREN
    (λ _ from to (_, opening, (_, names, closing)). before opening (after names closing)) &
    -- config_result = (nothing)
    (λ _ from to k. nothing k) &
    -- names = any_name names_more
    (λ _ from to (_, name, more). behind (stands_in name) more) &
    -- names = (nothing)
    (λ _ from to k. nothing k) &
    -- names_more = COMMA names
    (λ _ from to (_, comma, names). before comma names) &
    -- names_more = (nothing)
    (λ _ from to k. nothing k) &
    -- init = INIT block
    (λ _ from to (_, keyword, body). at_after keyword body) &
    -- next = NEXT LPAREN any_name COLON type RPAREN block
    (λ _ from to (_, keyword, (_, opening, (_, state, (_, colon, (_, ty, (_, closing, body)))))). alone from to (things.of_next _) (starting keyword (before opening (behind (stands_in state) (before colon (behind (stands_in ty) (before closing (up_to_end body))))))) keyword.within.first body.within.last) &
    none
