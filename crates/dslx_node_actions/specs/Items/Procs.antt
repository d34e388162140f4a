-- What the rules of procs make of the parts that their symbols left.
use Rattle.std.specs.Prelude.{ℕ, ◌∷◌, None, Some, drop, take, reverse}
use Rattle.dslx_tree.specs.declared.block.Block.{out-Block}
use Rattle.dslx_tree.specs.declared.item.Definition.TheVariants as definitions
use Rattle.dslx_tree.specs.declared.process.Direction.{Direction}
use Rattle.dslx_tree.specs.declared.process.Direction.TheVariants as directions
use Rattle.dslx_tree.specs.declared.process.ConfigStatement.TheVariants as config_statements
use Rattle.dslx_actions.specs.declared.parts.SemanticStacks.{SemanticStacks}
use Rattle.dslx_actions.specs.Common.{across}
use Rattle.dslx_actions.specs.Empty.{join, no_arg, no_block, no_config, no_ident, no_next, no_type}
use Rattle.base.specs.Stacks.Tops.{top_or}

-- `in` or `out`
abbrev pub direction : Direction → SemanticStacks → SemanticStacks
direction way s = record s { token_spans = drop 1 s.token_spans; directions = way ∷ s.directions }

-- `name : end`, with so many tokens of its own
abbrev pub end_named : ℕ → SemanticStacks → SemanticStacks
end_named count s = record s {
  token_spans = drop count s.token_spans;
  idents = drop 1 s.idents;
  types = drop 1 s.types;
  directions = drop 1 s.directions;
  ends = record { name = top_or no_ident s.idents; word = top_or no_type s.types; direction = top_or directions.In s.directions } ∷ s.ends;
}

-- `, arg` behind a type
abbrev pub depth : SemanticStacks → SemanticStacks
depth s = record s { token_spans = drop 1 s.token_spans; args = drop 1 s.args; depths = Some (top_or no_arg s.args) ∷ s.depths }

-- a depth is left out
abbrev pub no_depth : SemanticStacks → SemanticStacks
no_depth s = record s { depths = None ∷ s.depths }

-- `let ( name , name ) = channel ;`
abbrev pub channel : SemanticStacks → SemanticStacks
channel s = record s {
  token_spans = drop 6 s.token_spans;
  idents = drop 1 (drop 1 (drop 1 s.idents));
  types = drop 1 s.types;
  depths = drop 1 s.depths;
  config_statements = config_statements.Channel (record {
    span = across 6 s.token_spans;
    sender = top_or no_ident (drop 1 (drop 1 s.idents));
    receiver = top_or no_ident (drop 1 s.idents);
    word = top_or no_type s.types;
    depth = top_or None s.depths;
    name = top_or no_ident s.idents;
  }) ∷ s.config_statements;
}

-- `spawn name args ( names ) ;`
abbrev pub spawn : SemanticStacks → SemanticStacks
spawn s =
    let names = top_or 0 s.counts in
    let args = top_or 0 (drop 1 s.counts) in
    record s {
      token_spans = drop 4 s.token_spans;
      counts = drop 1 (drop 1 s.counts);
      idents = drop 1 (drop names s.idents);
      args = drop args s.args;
      config_statements = config_statements.Spawn (record {
        span = across 4 s.token_spans;
        target = top_or no_ident (drop names s.idents);
        arguments = reverse (take args s.args);
        ends = reverse (take names s.idents);
      }) ∷ s.config_statements;
    }

-- `config ( ends ) { config_statements ( names ) }`
abbrev pub config : SemanticStacks → SemanticStacks
config s =
    let names = top_or 0 s.counts in
    let made = top_or 0 (drop 1 s.counts) in
    let ends = top_or 0 (drop 1 (drop 1 s.counts)) in
    record s {
      token_spans = drop 5 s.token_spans;
      counts = drop 1 (drop 1 (drop 1 s.counts));
      idents = drop names s.idents;
      config_statements = drop made s.config_statements;
      ends = drop ends s.ends;
      configs = record {
        span = across 5 s.token_spans;
        ends = reverse (take ends s.ends);
        config_statements = reverse (take made s.config_statements);
        result = reverse (take names s.idents);
      } ∷ s.configs;
    }

-- `next ( name : type ) block`
abbrev pub next : SemanticStacks → SemanticStacks
next s =
    let body = top_or no_block s.blocks in
    record s {
      token_spans = drop 4 s.token_spans;
      idents = drop 1 s.idents;
      types = drop 1 s.types;
      blocks = drop 1 s.blocks;
      nexts = record {
        span = join (across 4 s.token_spans) (out-Block body).span;
        state = top_or no_ident s.idents;
        ty = top_or no_type s.types;
        body = body;
      } ∷ s.nexts;
    }

-- `proc name parametrics { members config init next }`, the last three in any order
abbrev pub proc : SemanticStacks → SemanticStacks
proc s =
    let members = top_or 0 s.counts in
    let parametrics = top_or 0 (drop 1 s.counts) in
    record s {
      token_spans = drop 3 s.token_spans;
      counts = drop 1 (drop 1 s.counts);
      idents = drop 1 s.idents;
      parametrics = drop parametrics s.parametrics;
      ends = drop members s.ends;
      configs = drop 1 s.configs;
      blocks = drop 1 s.blocks;
      nexts = drop 1 s.nexts;
      definitions = definitions.Proc (record {
        span = across 3 s.token_spans;
        name = top_or no_ident s.idents;
        parametrics = reverse (take parametrics s.parametrics);
        members = reverse (take members s.ends);
        config = top_or no_config s.configs;
        init = top_or no_block s.blocks;
        next = top_or no_next s.nexts;
      }) ∷ s.definitions;
    }
