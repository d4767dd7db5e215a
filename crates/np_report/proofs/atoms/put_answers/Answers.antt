use Rattle.np_script.specs.Written.{header_words}
use Rattle.np_report.specs.Atoms.{digits}
use Rattle.np_report.proofs.AtomLaws.{word_appended}
use Rattle.np_report.proofs.atoms.put_answers.Goals as goal

pub returns : goal.returns
returns c =
    word_appended _ _ _ _ (header_words c.args.least.now) (digits c.args.cuts.now c.args.n)
    c.in_ok-put_header.ensures.ok c.in_ok-push.ensures.items c.in_ok-put_digits.ensures
