use Rattle.std.proofs.Common.{◌≡◌, ℕ, ◌+◌, ◌-◌, ◌<◌, true, false, sym, ◌∙◌, arith}
use Rattle.np_bdd.proofs.AddressLemmas.{pattern_wild, pattern_fixed}
use Rattle.np_bdd.proofs.nodes.Nodes.pattern_bit.Goals as goal

-- the places of the bits, as the lemmas have them
here : (first k : ℕ) → first + (32 - (k + 1)) ≡ first + (31 - k)
here first k = omega arith

before : (first k : ℕ) → k < 32 → first + (32 - k) ≡ 1 + (first + (31 - k))
before first k l = omega arith

pub returns-then-has_bit-clause-is : goal.returns-then-has_bit-clause-is
returns-then-has_bit-clause-is c =
    rw (here c.args.first c.args.k)
    (pattern_wild c.args.pattern.now (c.args.first + (31 - c.args.k)) c.args.k c.args.self.now c.args.tail.at c.args.node.at (sym c.has_bit.ensures ∙ c.if-has_bit.true)
    (rw (before c.args.first c.args.k c.requires.low) at c.requires.field))

pub returns-in_ok-node-clause-is : goal.returns-in_ok-node-clause-is
returns-in_ok-node-clause-is c =
    rw (here c.args.first c.args.k)
    (pattern_fixed true c.args.pattern.now (c.args.first + (31 - c.args.k)) c.args.k c.args.self.now c.node.new.self c.args.tail.at c.args.node.at c.no-no.result.at c.in_ok-node.field-0.at
    (sym c.has_bit.ensures ∙ c.if-has_bit.false) (sym c.has_bit-2.ensures ∙ c.if-has_bit-2.true) c.requires.tail (rw (before c.args.first c.args.k c.requires.low) at c.requires.field) c.no-no.ensures
    c.in_ok-node.ensures.kept c.in_ok-node.ensures.starts c.in_ok-node.ensures.chooses)

pub returns-in_ok-node-2-clause-is : goal.returns-in_ok-node-2-clause-is
returns-in_ok-node-2-clause-is c =
    rw (here c.args.first c.args.k)
    (pattern_fixed false c.args.pattern.now (c.args.first + (31 - c.args.k)) c.args.k c.args.self.now c.node-else-has_bit-2.new.self c.args.tail.at c.args.node.at c.no-no.result.at
    c.in_ok-node-2.field-0.at (sym c.has_bit.ensures ∙ c.if-has_bit.false) (sym c.has_bit-2.ensures ∙ c.if-has_bit-2.false) c.requires.tail (rw (before c.args.first c.args.k c.requires.low) at c.requires.field) c.no-no.ensures
    c.in_ok-node-2.ensures.kept c.in_ok-node-2.ensures.starts c.in_ok-node-2.ensures.chooses)
