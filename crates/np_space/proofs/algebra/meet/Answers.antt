use Rattle.std.specs.Prelude.{Some}
use Rattle.np_space.proofs.AlgebraLemmas.{fields_meet, none_common, none_exact, apart_src, apart_dst, apart_proto, apart_a, apart_b, apart_est, apart_dscp}
use Rattle.np_space.proofs.algebra.meet.Goals as goal

pub returns-in_err-meet-clause-exact : goal.returns-in_err-meet-clause-exact
returns-in_err-meet-clause-exact c = none_exact c.args.x.now c.args.y.now c.from_residual.result c.from_residual.ensures (apart_src c.args.x.now c.args.y.now c.in_err-meet.ensures.exact)

pub returns-in_err-meet-clause-none : goal.returns-in_err-meet-clause-none
returns-in_err-meet-clause-none c =
    none_common c.args.x.now c.args.y.now c.from_residual.result (none_exact c.args.x.now c.args.y.now c.from_residual.result c.from_residual.ensures (apart_src c.args.x.now c.args.y.now c.in_err-meet.ensures.exact))

pub returns-in_err-meet-2-clause-exact : goal.returns-in_err-meet-2-clause-exact
returns-in_err-meet-2-clause-exact c = none_exact c.args.x.now c.args.y.now c.from_residual-in_err-meet-2.result c.from_residual-in_err-meet-2.ensures (apart_dst c.args.x.now c.args.y.now c.in_err-meet-2.ensures.exact)

pub returns-in_err-meet-2-clause-none : goal.returns-in_err-meet-2-clause-none
returns-in_err-meet-2-clause-none c =
    none_common c.args.x.now c.args.y.now c.from_residual-in_err-meet-2.result (none_exact c.args.x.now c.args.y.now c.from_residual-in_err-meet-2.result c.from_residual-in_err-meet-2.ensures (apart_dst c.args.x.now c.args.y.now c.in_err-meet-2.ensures.exact))

pub returns-in_err-meet-3-clause-exact : goal.returns-in_err-meet-3-clause-exact
returns-in_err-meet-3-clause-exact c = none_exact c.args.x.now c.args.y.now c.from_residual-in_err-meet-3.result c.from_residual-in_err-meet-3.ensures (apart_proto c.args.x.now c.args.y.now c.in_err-meet-3.ensures.exact)

pub returns-in_err-meet-3-clause-none : goal.returns-in_err-meet-3-clause-none
returns-in_err-meet-3-clause-none c =
    none_common c.args.x.now c.args.y.now c.from_residual-in_err-meet-3.result (none_exact c.args.x.now c.args.y.now c.from_residual-in_err-meet-3.result c.from_residual-in_err-meet-3.ensures (apart_proto c.args.x.now c.args.y.now c.in_err-meet-3.ensures.exact))

pub returns-in_err-meet-4-clause-exact : goal.returns-in_err-meet-4-clause-exact
returns-in_err-meet-4-clause-exact c = none_exact c.args.x.now c.args.y.now c.from_residual-in_err-meet-4.result c.from_residual-in_err-meet-4.ensures (apart_a c.args.x.now c.args.y.now c.in_err-meet-4.ensures.exact)

pub returns-in_err-meet-4-clause-none : goal.returns-in_err-meet-4-clause-none
returns-in_err-meet-4-clause-none c =
    none_common c.args.x.now c.args.y.now c.from_residual-in_err-meet-4.result (none_exact c.args.x.now c.args.y.now c.from_residual-in_err-meet-4.result c.from_residual-in_err-meet-4.ensures (apart_a c.args.x.now c.args.y.now c.in_err-meet-4.ensures.exact))

pub returns-in_err-meet-5-clause-exact : goal.returns-in_err-meet-5-clause-exact
returns-in_err-meet-5-clause-exact c = none_exact c.args.x.now c.args.y.now c.from_residual-in_err-meet-5.result c.from_residual-in_err-meet-5.ensures (apart_b c.args.x.now c.args.y.now c.in_err-meet-5.ensures.exact)

pub returns-in_err-meet-5-clause-none : goal.returns-in_err-meet-5-clause-none
returns-in_err-meet-5-clause-none c =
    none_common c.args.x.now c.args.y.now c.from_residual-in_err-meet-5.result (none_exact c.args.x.now c.args.y.now c.from_residual-in_err-meet-5.result c.from_residual-in_err-meet-5.ensures (apart_b c.args.x.now c.args.y.now c.in_err-meet-5.ensures.exact))

pub returns-in_err-meet-6-clause-exact : goal.returns-in_err-meet-6-clause-exact
returns-in_err-meet-6-clause-exact c = none_exact c.args.x.now c.args.y.now c.from_residual-in_err-meet-6.result c.from_residual-in_err-meet-6.ensures (apart_est c.args.x.now c.args.y.now c.in_err-meet-6.ensures.exact)

pub returns-in_err-meet-6-clause-none : goal.returns-in_err-meet-6-clause-none
returns-in_err-meet-6-clause-none c =
    none_common c.args.x.now c.args.y.now c.from_residual-in_err-meet-6.result (none_exact c.args.x.now c.args.y.now c.from_residual-in_err-meet-6.result c.from_residual-in_err-meet-6.ensures (apart_est c.args.x.now c.args.y.now c.in_err-meet-6.ensures.exact))

pub returns-in_err-meet-7-clause-exact : goal.returns-in_err-meet-7-clause-exact
returns-in_err-meet-7-clause-exact c = none_exact c.args.x.now c.args.y.now c.from_residual-in_err-meet-7.result c.from_residual-in_err-meet-7.ensures (apart_dscp c.args.x.now c.args.y.now c.in_err-meet-7.ensures.exact)

pub returns-in_err-meet-7-clause-none : goal.returns-in_err-meet-7-clause-none
returns-in_err-meet-7-clause-none c =
    none_common c.args.x.now c.args.y.now c.from_residual-in_err-meet-7.result (none_exact c.args.x.now c.args.y.now c.from_residual-in_err-meet-7.result c.from_residual-in_err-meet-7.ensures (apart_dscp c.args.x.now c.args.y.now c.in_err-meet-7.ensures.exact))

pub returns-clause-exact : goal.returns-clause-exact
returns-clause-exact c =
    fields_meet c.args.x.now c.args.y.now _
    c.in_ok-meet.ensures.exact c.in_ok-meet-2.ensures.exact c.in_ok-meet-3.ensures.exact c.in_ok-meet-4.ensures.exact c.in_ok-meet-5.ensures.exact c.in_ok-meet-6.ensures.exact c.in_ok-meet-7.ensures.exact

pub returns-clause-none : goal.returns-clause-none
returns-clause-none c =
    none_common c.args.x.now c.args.y.now (Some _) (returns-clause-exact c)
