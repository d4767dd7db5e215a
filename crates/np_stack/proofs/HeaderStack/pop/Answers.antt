use Rattle.std.proofs.Common.{rules}
use Rattle.np_stack.proofs.Tops.{top_of-last}
use Rattle.np_stack.proofs.HeaderStack.pop.Goals as goal

pub returns-clause-value : goal.returns-clause-value
returns-clause-value g c = rw (top_of-last c.args.self.now) (search rules)
