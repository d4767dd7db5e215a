use Rattle.std.proofs.Common.{◌∙◌, sym}
use Rattle.np_conf.proofs.SetLaws.{first_out, first_under}
use Rattle.np_conf.proofs.checking.check.Goals as goal

pub returns-in-Some-under : goal.returns-in-Some-under
returns-in-Some-under c = record {
  inside = record { from_trusted = sym c.is_trusted.ensures ∙ c.if-not-is_trusted.false; own = c.in_default.ensures };
  bare = c.in_default-bare.ensures.none;
  first = first_out c.args.net.now c.args.from c.args.pred.now c.readable_set.result c.readable_set.ensures c.in-Some-under.i c.in-Some-under.ensures.first;
  least = first_under c.args.net.now c.args.from c.args.pred.now c.readable_set.result c.readable_set.ensures c.in-Some-under.i c.in-Some-under.k c.in-Some-under.ensures.least;
}
