use Rattle.std.proofs.Common.{◌≡◌, ◌^◌, ◌-◌, replicate, ◌∙◌, ap}
use Rattle.std.specs.Int.{div_ceil}
use Rattle.np_atomset.proofs.Held.{AreWordsOf-whole, AreWordsOf-cut}
use Rattle.np_atomset.proofs.words.full.Goals as goal
use Rattle.np_atomset.proofs.words.full.Goals.{then-rest-ne0, else-rest-ne0}

pub returns : goal.returns
returns c =
    let items : c.in_ok-words.words.items ≡ replicate (div_ceil c.args.n 64) (2 ^ 64 - 1) =
    c.in_ok-words.ensures.items_if_clones_equal (λ _ e. e) ∙ ap (λ n. replicate n (2 ^ 64 - 1)) c.div_ceil.ensures in
    elim c.if-rest-ne0.branch [
      | then-rest-ne0 w ↦ rw w.words-is (AreWordsOf-cut c.args.n c.in_ok-words.words.items items w.if-rest-ne0.true)
      | else-rest-ne0 w ↦ rw w.words-is (AreWordsOf-whole c.args.n c.in_ok-words.words.items items w.if-rest-ne0.false)
    ]
