use Rattle.std.proofs.Common.{◌∙◌, sym}
use Rattle.dslx_check_facts.specs.Walks.{shown}
use Rattle.dslx_check.proofs.OnFound.{key_added, many_met, no_keys}
use Rattle.dslx_check.proofs.found.are_many.Goals as goal

pub instances-init : goal.instances-init
instances-init c = no_keys (shown c.args.work.now.walk) c.args.instances.now.keys c.new-keys.result.keys c.new-keys.ensures.empty

pub instances-preserved : goal.instances-preserved
instances-preserved c = key_added (shown c.args.work.now.walk) c.args.instances.now.keys c.instances.keys.keys c.add_key.new.keys.keys c.instances.i c.in-Some.instance
    c.instances.invariant (sym c.number_at.ensures ∙ c.in-Some.is) c.in_ok-add_key-in-Some.ensures

pub returns : goal.returns
returns c = λ past. many_met (shown c.args.work.now.walk) c.args.instances.now.keys c.instances.keys.keys c.len-count.result c.instances.invariant c.len-count.ensures.len (c.is_past_most.ensures past)
