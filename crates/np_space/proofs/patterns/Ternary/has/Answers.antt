use Rattle.np_space.proofs.PatternLemmas.{mask_tests}
use Rattle.np_space.proofs.patterns.Ternary.has.Goals as goal

pub returns : goal.returns
returns c = mask_tests c.args.self.now c.args.x c.ranges.x.fits
