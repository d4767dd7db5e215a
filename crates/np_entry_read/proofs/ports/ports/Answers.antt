use Rattle.std.proofs.Common.{◌≡◌, [], ◌∷◌, arith, rules}
use Rattle.std.proofs.lemmas.Grind.{common_steps}
use Rattle.np_lines.specs.Answers.{texts}
use Rattle.np_entry_read.specs.Entries.{ports_in}
use Rattle.np_entry_read.proofs.PortLaws.{ports_start}
use Rattle.np_entry_read.proofs.ports.ports.Goals as goal

pub returns-in_err-first-clause-err : goal.returns-in_err-first-clause-err
unfolding ports_in
returns-in_err-first-clause-err c = search rules

pub loop-left-init : goal.loop-left-init
loop-left-init c =
    let items : c.push.new.self.items ≡ c.in_ok-first.first ∷ [] = grind (arith, common_steps) in
    let start = ports_start c.args.names (texts c.args.words.now) c.in_ok-first.first (texts c.in_ok-first.left.now) c.in_ok-first.ensures in
    rw items start
