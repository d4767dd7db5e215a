use Rattle.std.proofs.Common.{◌≡◌, ◌++◌, drop}
use Rattle.np_top.specs.Outcome.{texts_of}
use Rattle.np_cases.specs.Given.{texts}
use Rattle.np_cases.proofs.given.words.Given as goal

abbrev pub invariant-loop-word : goal.invariant-loop-word
invariant-loop-word l = record {
  done : texts_of l.owned.items ++ texts (drop l.word-index l.words) ≡ texts l.words;
}
