use Rattle.np_goals.proofs.SourceLaws.{fits_first, fits_second}
use Rattle.np_goals.proofs.halves.halved.Goals as goal

pub returns-clause-areas_first : goal.returns-clause-areas_first
returns-clause-areas_first c = λ count are. rw c.split_at.ensures.front (fits_first count _ c.args.sources.now are)

pub returns-clause-areas_second : goal.returns-clause-areas_second
returns-clause-areas_second c = λ count are. rw c.split_at.ensures.back (fits_second count _ c.args.sources.now are)
