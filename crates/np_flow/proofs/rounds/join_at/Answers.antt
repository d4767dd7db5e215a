use Rattle.np_flow.proofs.JoinLaws.{join_met_adds, join_met_grew}
use Rattle.np_flow.proofs.rounds.join_at.Goals as goal

pub returns-clause-adds : goal.returns-clause-adds
returns-clause-adds c =
    join_met_adds c.args.sets.now c.args.at _ c.args.x.now c.args.y.now c.join_met-grew.new.self c.requires.place c.requires.x c.requires.y
    c.join_met-grew.ensures.all

pub returns-clause-grew : goal.returns-clause-grew
returns-clause-grew c =
    join_met_grew c.join_met-grew.result c.args.sets.now c.args.at _ c.args.x.now c.args.y.now c.join_met-grew.new.self c.requires.place c.requires.x c.requires.y
    c.join_met-grew.ensures.all c.join_met-grew.ensures.grew
