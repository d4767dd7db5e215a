use Rattle.std.proofs.Common.{ℕ, ◌==◌, arith}
use Rattle.std.proofs.lemmas.List.Sums.{fails_before_first}
use Rattle.np_text.proofs.LineLaws.{lines_of_first, lines_of_whole}
use Rattle.np_text.proofs.cutting.split_line.Goals as goal

pub returns-in-Some-clause-lines : goal.returns-in-Some-clause-lines
returns-in-Some-clause-lines c = rw (c.in-Some.ensures.before, c.in-Some.ensures.after) (lines_of_first c.args.text.now c.in-Some.ensures.found)

pub returns-in-None-clause-lines : goal.returns-in-None-clause-lines
returns-in-None-clause-lines c =
    lines_of_whole c.args.text.now c.requires (λ k e m. fails_before_first (λ (b : ℕ). b == 10) c.args.text.now k e (omega (arith, c.in-None.ensures.none)))
