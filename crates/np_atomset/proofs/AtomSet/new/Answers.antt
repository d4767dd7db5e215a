use Rattle.std.proofs.Common.{replicate, false}
use Rattle.std.proofs.lemmas.List.{length-replicate}
use Rattle.np_atomset.proofs.Held.{members-from_words}
use Rattle.np_atomset.proofs.AtomSet.new.Goals as goal

pub returns : goal.returns
returns c =
    members-from_words (replicate c.args.n false) c.in_ok-words.words.items c.args.n c.in_ok-words.ensures
    (length-replicate c.args.n false)
