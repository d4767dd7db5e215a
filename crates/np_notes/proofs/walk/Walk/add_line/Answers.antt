use Rattle.std.proofs.Common.{Some}
use Rattle.np_notes.proofs.WalkLaws.{walked_more}
use Rattle.np_notes.proofs.walk.Walk.add_line.Goals as goal

pub returns-clause-walked : goal.returns-clause-walked
returns-clause-walked c =
    walked_more c.args.self.now (record { declared = c.add_statement.new.declared; found = c.add_declaring.new.self }) c.args.number c.args.line.now (Some c.args.said)
    c.in_ok-add_statement.ensures c.in_ok-add_declaring.ensures
