use Rattle.std.proofs.Common.{[], ◌∷◌, refl}
use Rattle.np_cut.proofs.CuttingLaws.{block_matches, no_proto, no_flag, no_code_point}
use Rattle.np_cut.proofs.list_regions.entry_block.Goals as goal

pub returns-in_err-proto : goal.returns-in_err-proto
returns-in_err-proto c =
    rw c.from_residual.ensures (λ h. no_proto c.args.entry.now (c.args.a ∷ []) (c.args.b ∷ []) h c.in_err-proto.ensures.exact)

pub returns-in_err-est : goal.returns-in_err-est
returns-in_err-est c =
    rw c.from_residual-in_err-est.ensures (λ h. no_flag c.args.entry.now (c.args.a ∷ []) (c.args.b ∷ []) h c.in_err-est.ensures.exact)

pub returns-in_err-dscp : goal.returns-in_err-dscp
returns-in_err-dscp c =
    rw c.from_residual-in_err-dscp.ensures (λ h. no_code_point c.args.entry.now (c.args.a ∷ []) (c.args.b ∷ []) h c.in_err-dscp.ensures.exact)

pub returns : goal.returns
returns c = λ h. block_matches c.args.entry.now _ h refl refl c.in_ok-proto.ensures.exact c.in_ok-est.ensures.exact c.in_ok-dscp.ensures.exact
