use Rattle.std.proofs.Common.{arith}
use Rattle.std.proofs.lemmas.Nat.{or_lt}
use Rattle.std.specs.Int.Bits.{and_lt}
use Rattle.std.proofs.lemmas.Grind.{common_steps}
use Rattle.np_atomset.proofs.Bits.{fit_more, changed_more, changed_words, word_bit-join_met}
use Rattle.np_atomset.proofs.words.join_met.Goals as goal

pub loop-i-preserved : goal.loop-i-preserved
loop-i-preserved c =
    let word = c.loop-i.invariant.fit c.loop-i.i in
    let x = c.type_inv.xs c.loop-i.i in
    let y = c.type_inv.ys c.loop-i.i in
    record {
      done = grind (arith, common_steps);
      left = grind (arith, common_steps);
      old_fit = c.loop-i.invariant.old_fit;
      fit = fit_more c.loop-i.words c.loop-i.i _ c.loop-i.invariant.fit (or_lt 64 _ _ word (and_lt 64 _ _ (omega arith) (omega arith)));
      change =
          changed_more c.loop-i.changed c.args.words.now c.loop-i.words c.loop-i.i _ (omega arith)
          (c.loop-i.invariant.left c.loop-i.i (omega arith)) c.loop-i.invariant.change;
    }

pub returns-clause-bits : goal.returns-clause-bits
returns-clause-bits c =
    word_bit-join_met c.args.words.now c.args.xs.now c.args.ys.now c.loop-i.words c.requires.xs c.requires.ys
    c.loop-i.auto.words
    (λ k within. c.loop-i.invariant.done k (omega arith))

pub returns-clause-changed : goal.returns-clause-changed
returns-clause-changed c = changed_words c.loop-i.changed c.loop-i.i c.args.words.now c.loop-i.words c.loop-i.invariant.change
