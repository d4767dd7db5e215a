use Rattle.std.proofs.Common.{◌≡◌, ◌<◌, length, get_or, arith}
use Rattle.std.proofs.lemmas.List.{get_or_default}
use Rattle.np_space.specs.Header.{zeros}
use Rattle.np_space.specs.declared.headers.Header.{Header}
use Rattle.np_atomizer.proofs.SetLaws.{set_in, set_out, set_all}
use Rattle.np_atomizer.proofs.splitting.set_of.Goals as goal
use Rattle.np_atomizer.proofs.splitting.set_of.Goals.{then-inside, else-inside}

pub loop-n-preserved : goal.loop-n-preserved
loop-n-preserved g c =
    let test = g.S.Regions.has_header c.args.store.now c.args.cut.now in
    let leasts = c.args.leasts.now in
    let n = c.loop-n.n in
    let x = get_or leasts n zeros in
    let within : n < length leasts = omega arith in
    let here : (d : Header) → get_or leasts n d ≡ x = λ d. get_or_default leasts n d zeros within in
    elim c.if-inside.branch [
      | then-inside w ↦ rw w.set-is (rw w.insert.ensures (set_in test leasts n c.loop-n.set x c.has-inside.result c.loop-n.invariant within here c.has-inside.ensures w.if-inside.true))
      | else-inside w ↦ rw w.set-is (set_out test leasts n c.loop-n.set x c.has-inside.result c.loop-n.invariant here c.has-inside.ensures w.if-inside.false)
    ]

pub returns : goal.returns
returns g c =
    set_all (g.S.Regions.has_header c.args.store.now c.args.cut.now) c.args.leasts.now c.loop-n.n c.loop-n.set c.loop-n.invariant (omega arith)
