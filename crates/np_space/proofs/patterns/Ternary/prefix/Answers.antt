use Rattle.std.proofs.Common.{◌-◌, sym, ap, arith}
use Rattle.np_space.specs.Patterns.{prefix_pattern}
use Rattle.np_space.proofs.MadeLemmas.{unit_is, same_ternary, value-prefix_pattern, wild-prefix_pattern, ones_are_low}
use Rattle.np_space.proofs.patterns.Ternary.prefix.Goals as goal

pub invariant_of-result : goal.invariant_of-result
invariant_of-result c =
    let u = unit_is c.args.length in
    let p = prefix_pattern c.args.address c.args.length in
    let v = value-prefix_pattern c.args.address c.args.length (omega arith) in
    let w = wild-prefix_pattern c.args.address c.args.length in
    record {
      cleared = rw (u, c.from.ensures, ← v, ← w) p.cleared;
      value_width = rw (u, c.from.ensures, ← v) p.value_width;
      wild_width = rw (u, ← w) p.wild_width;
    }

pub returns-clause-is : goal.returns-clause-is
returns-clause-is c =
    let u = unit_is c.args.length in
    same_ternary _ (prefix_pattern c.args.address c.args.length)
    (rw (u, c.from.ensures) (sym (value-prefix_pattern c.args.address c.args.length (omega arith))))
    (rw u (sym (wild-prefix_pattern c.args.address c.args.length)))

pub returns-clause-prefix : goal.returns-clause-prefix
returns-clause-prefix c = ones_are_low _ (32 - c.args.length) (ap (λ unit. unit - 1) (unit_is c.args.length))
