use Rattle.std.proofs.Common.{◌∙◌, ◌++◌, ◌∷◌, [], ap, cond}
use Rattle.np_net.proofs.names.Places.add.Goals as goal

pub returns-clause-ok : goal.returns-clause-ok
returns-clause-ok c =
    c.in_ok-insert.ensures.keys ∙ rw (c.in_ok-name.ensures, c.self.view_is) (ap (λ b. cond b c.args.self.now (c.args.self.now ++ (c.args.device, c.args.name.now) ∷ [])) c.requires)
