use Rattle.std.proofs.Common.{◌∙◌, ap}
use Rattle.np_stack.specs.HeaderStack.{top_of}
use Rattle.np_traj.proofs.StackLaws.{top_is_of_network}
use Rattle.np_traj.proofs.judging.top_of.Goals as goal

pub returns-clause-within : goal.returns-clause-within
returns-clause-within g c =
    top_is_of_network c.args.net.now c.args.state.now c.top.result c.requires (c.top.ensures.value ∙ ap (λ s. top_of s.stack) c.state.view_is)
