use Rattle.std.proofs.Common.{◌≡◌, Ok, IfOk, IfErr, subst}
use Rattle.np_lines.specs.Answers.{IsFaultOf}
use Rattle.np_net.specs.Naming.{NameLists}
use Rattle.np_script.specs.Reading.{script_by}
use Rattle.np_script.proofs.ShapeLaws.{read_fits}
use Rattle.np_script.proofs.reading.read_script.Goals as goal

pub returns-clause-script : goal.returns-clause-script
returns-clause-script c =
    subst (λ (names : NameLists). IfOk c.script_by.result (λ script. script_by names c.args.bytes.now ≡ Ok script)) c.in_ok-names.ensures c.script_by.ensures.script

pub returns-clause-fits : goal.returns-clause-fits
returns-clause-fits c = read_fits c.args.net.now c.args.bytes.now c.script_by.result (returns-clause-script c)

pub returns-clause-fault : goal.returns-clause-fault
returns-clause-fault c =
    subst (λ (names : NameLists). IfErr c.script_by.result (λ error. IsFaultOf (script_by names c.args.bytes.now) error)) c.in_ok-names.ensures c.script_by.ensures.fault
