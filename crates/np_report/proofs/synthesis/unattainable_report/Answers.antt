use Rattle.std.proofs.Common.{◌∷◌, ◌+◌, codes}
use Rattle.std.specs.Fmt.{decimal}
use Rattle.np_script.specs.Written.{header_words}
use Rattle.np_report.specs.Words.{hop_lines}
use Rattle.np_report.proofs.SynthesisLaws.{unattainable_made}
use Rattle.np_report.proofs.synthesis.unattainable_report.Goals as goal

pub returns : goal.returns
returns c =
    unattainable_made (codes "unattainable" ∷ codes "goal" ∷ decimal (c.args.goal + 1) ∷ header_words c.args.header.now) (hop_lines c.args.net.now c.args.path.now.hops) _ _ _
    c.new-text.ensures.items c.in_ok-put_broken.ensures (rw c.as_slice.ensures at c.in_ok-put_hops.ensures)
