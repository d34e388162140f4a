-- The registers of a proc's pipeline, one behind another: those of its state, the full bits of its stages, the done bits of its sites and
-- the words that receives keep, and the copies of its state and of its nodes' values.
use Rattle.std.specs.Prelude.{ℕ, zero, suc, ◌+◌, ◌-◌, ◌^◌, ◌==◌, min, length, map, if◌then◌else◌, List, [], ◌∷◌, ◌++◌}
use Rattle.ir_tree.specs.declared.node.Node.{Node}
use Rattle.ir_tree.specs.declared.node.Role.{Role}
use Rattle.ir_tree.specs.declared.node.Role.TheVariants as role
use Rattle.ir_tree.specs.declared.package.Channel.{Channel}
use Rattle.ir_tree.specs.declared.package.Proc.{Proc}
use Rattle.ir_tree.specs.Activations.{width_at}
use Rattle.ir_tree.specs.Constants.{constant_value}
use Rattle.ir_tree.specs.NodeValues.{channel_type, role_of}
use Rattle.ir_tree.specs.Types.{ty_of}
use Rattle.vlog_tree.specs.declared.expression.Atom.{Atom}
use Rattle.block_build.specs.declared.netlist.layout.SiteRegisters.{SiteRegisters}
use Rattle.block_build.specs.declared.netlist.registers.Register.{Register}
use Rattle.block_build.specs.Netlist.Leaves.{leaf_widths, literals_of, repeated}
use Rattle.block_build.specs.Netlist.Literals.{literal_atom}
use Rattle.block_build.specs.Netlist.Nexts.{is_literal}
use Rattle.block_build.specs.Netlist.Registers.{zero_register}

-- of these widths, which are reset to these
abbrev pub registers_of : List ℕ → List Atom → List Register
registers_of [] resets = []
registers_of (w ∷ ws) [] = []
registers_of (w ∷ ws) (reset ∷ resets) = record { width = w; reset = reset } ∷ registers_of ws resets

-- the first state
abbrev pub state_registers : Proc → List Register
state_registers proc = registers_of (leaf_widths (ty_of proc.state)) (literals_of (constant_value (ty_of proc.state) proc.init))

-- the full bits of so many stages from one on: the turn stands in the first
abbrev pub full_register : ℕ → Register
full_register stage = record { width = 1; reset = literal_atom 1 (if stage == 0 then 1 else 0) }

abbrev pub full_registers : ℕ → ℕ → List Register
full_registers stage zero = []
full_registers stage (suc n) = full_register stage ∷ full_registers (suc stage) n

-- ---- sites

-- how many bits the flat words of a channel have, as a number of 64 bits has it
abbrev pub channel_bits : List Channel → ℕ → ℕ
channel_bits channels c = min (width_at (channel_type channels c)) (2 ^ 64 - 1)

abbrev pub site_registers : List Channel → Role → List Register
site_registers channels role.Pure = []
site_registers channels (role.Receive predicate c) = zero_register 1 ∷ zero_register (channel_bits channels c) ∷ []
site_registers channels (role.Send predicate c) = zero_register 1 ∷ []

abbrev pub sites_registers : List Channel → List Node → List Register
sites_registers channels [] = []
sites_registers channels (n ∷ nodes) = site_registers channels (role_of n) ++ sites_registers channels nodes

-- where a site's registers stand from one on. A send keeps no word
abbrev pub site_at : ℕ → Role → List SiteRegisters
site_at k role.Pure = []
site_at k (role.Receive predicate c) = record { done = record { 0 = k }; kept = record { 0 = suc k } } ∷ []
site_at k (role.Send predicate c) = record { done = record { 0 = k }; kept = record { 0 = k } } ∷ []

abbrev pub sites_at : List Channel → ℕ → List Node → List SiteRegisters
sites_at channels k [] = []
sites_at channels k (n ∷ nodes) = site_at k (role_of n) ++ sites_at channels (k + length (site_registers channels (role_of n))) nodes

-- ---- copies

-- of a value with numbers of these widths, in so many stages
abbrev pub copy_registers : List ℕ → ℕ → List Register
copy_registers ws n = repeated n (map zero_register ws)

-- of a node's value, which comes to be in one stage and is last read in another
abbrev pub node_registers : Node → ℕ → ℕ → List Register
node_registers n stage last = if is_literal n.attributes then [] else copy_registers (leaf_widths (ty_of n.ty)) (last - stage)

-- of all nodes, in these stages
abbrev pub nodes_registers : List Node → List ℕ → List ℕ → List Register
nodes_registers [] stages lasts = []
nodes_registers (n ∷ nodes) [] lasts = []
nodes_registers (n ∷ nodes) (stage ∷ stages) [] = []
nodes_registers (n ∷ nodes) (stage ∷ stages) (last ∷ lasts) = node_registers n stage last ++ nodes_registers nodes stages lasts

-- the first of each node
abbrev pub copies_at : ℕ → List Node → List ℕ → List ℕ → List ℕ
copies_at k [] stages lasts = []
copies_at k (n ∷ nodes) [] lasts = []
copies_at k (n ∷ nodes) (stage ∷ stages) [] = []
copies_at k (n ∷ nodes) (stage ∷ stages) (last ∷ lasts) = k ∷ copies_at (k + length (node_registers n stage last)) nodes stages lasts
