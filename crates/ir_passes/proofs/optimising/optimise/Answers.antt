use Rattle.std.proofs.Common.{◌≡◌, ◌∙◌}
use Rattle.ir_tree.specs.Networks.{network_of, behaviors_of}
use Rattle.ir_passes.proofs.Counting.{bounded, normal}
use Rattle.ir_passes.proofs.GivenBack.{all_given_back, all_in_order}
use Rattle.ir_passes.proofs.optimising.optimise.Goals as goal

pub returns : goal.returns
returns c =
    let old = c.args.ir in
    let mid = c.in_ok-rewritten.rewritten in
    let new = c.in_ok-new.new in
    let name : new.name ≡ old.name = c.in_ok-new.ensures.head.name ∙ c.in_ok-rewritten.ensures.head.name in
    let channels : new.channels ≡ old.channels = c.in_ok-new.ensures.head.channels ∙ c.in_ok-rewritten.ensures.head.channels in
    record {
      verified = c.in_ok-new.ensures.verified;
      same = c.same_behavior_is_an_equivalence.ensures.through (network_of old) (behaviors_of old) mid new c.in_ok-rewritten.ensures.same c.in_ok-new.ensures.same;
      normal = record { procs = normal _ old.procs mid.procs new.procs c.in_ok-rewritten.ensures.became c.in_ok-new.ensures.became };
      made = record { between = mid.procs; first = c.in_ok-rewritten.ensures.became; second = c.in_ok-new.ensures.became; head = record { name = name; channels = channels } };
      given_back = λ h.
          let procs = all_given_back old.procs mid.procs new.procs c.in_ok-rewritten.ensures.became c.in_ok-new.ensures.became h.procs in
          λ i. record { name = name i; channels = channels i; procs = procs i };
      numbered =
          let procs = all_in_order mid.procs new.procs c.in_ok-new.ensures.became in
          λ i. record { name = new.name; channels = new.channels; procs = procs i };
      few = record { procs = bounded _ old.procs mid.procs new.procs c.in_ok-rewritten.ensures.became c.in_ok-new.ensures.became };
    }
