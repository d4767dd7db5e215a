use Rattle.std.proofs.Common.{codes}
use Rattle.std.specs.Fmt.{decimal}
use Rattle.np_script.specs.Written.{header_words}
use Rattle.np_report.proofs.SynthesisLaws.{broken_made}
use Rattle.np_report.proofs.synthesis.put_broken.Goals as goal

pub returns : goal.returns
returns c =
    broken_made c.args.text.now.items _ _ _ _ (codes "unattainable goal") (decimal c.args.number) (header_words c.args.header.now)
    c.in_ok-extend_from_slice.ensures.items c.in_ok-put_number_word.ensures.ok c.in_ok-put_header.ensures.ok c.in_ok-push.ensures.items
