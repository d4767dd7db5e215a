use Rattle.std.specs.Prelude.{◌&&◌}
use Rattle.np_space.specs.Header.{is_valid_header}
use Rattle.np_space.specs.Ternary.{ternary_has}
use Rattle.np_space.specs.declared.blocks.Block.{Block}
use Rattle.np_bdd.specs.declared.combining.Operation.TheVariants.{Meet}
use Rattle.np_bdd.specs.Nodes.{StartsAt}
use Rattle.np_bdd.specs.Fields.{HasHeaders, lower_has}
use Rattle.np_bdd.proofs.FieldLemmas.{src_bits, dst_bits, starts_kept, headers_kept, has_field, then_kept}
use Rattle.np_bdd.proofs.BlockLemmas.{dst_has, block_all}
use Rattle.np_bdd.proofs.ValidLemmas.{combined_starts, combined_has}
use Rattle.np_bdd.proofs.nodes.Nodes.valid_of.Goals as goal

pub pattern-requires-clause-tail : goal.pattern-requires-clause-tail
pattern-requires-clause-tail c =
    combined_starts Meet 64 c.lower.new.self c.combined.new.self c.args.valid.at c.in_ok-lower.lower.at c.in_ok-both.both.at c.in_ok-both.ensures.kept
    (starts_kept c.args.self.now c.lower.new.self 64 c.args.valid.at c.in_ok-lower.ensures.kept c.requires.starts) c.in_ok-lower.ensures.starts c.in_ok-both.ensures.exact

pub returns-in_err-dst-clause-kept : goal.returns-in_err-dst-clause-kept
returns-in_err-dst-clause-kept c = then_kept (then_kept c.in_ok-lower.ensures.kept c.in_ok-both.ensures.kept) c.in_err-dst.ensures.kept

pub returns-in_err-pattern-clause-kept : goal.returns-in_err-pattern-clause-kept
returns-in_err-pattern-clause-kept c = then_kept (then_kept (then_kept c.in_ok-lower.ensures.kept c.in_ok-both.ensures.kept) c.in_ok-dst.ensures.kept) c.in_err-pattern.ensures.kept

pub returns-clause-kept : goal.returns-clause-kept
returns-clause-kept c = then_kept (then_kept (then_kept c.in_ok-lower.ensures.kept c.in_ok-both.ensures.kept) c.in_ok-dst.ensures.kept) c.in_ok-pattern.ensures.kept

pub returns-clause-exact : goal.returns-clause-exact
returns-clause-exact c =
    let block : Block = c.args.block.now in
    let valid_starts : StartsAt c.lower.new.self 64 c.args.valid.at = starts_kept c.args.self.now c.lower.new.self 64 c.args.valid.at c.in_ok-lower.ensures.kept c.requires.starts in
    let valid_has : HasHeaders is_valid_header c.lower.new.self c.args.valid.at =
    headers_kept is_valid_header c.args.self.now c.lower.new.self c.args.valid.at c.in_ok-lower.ensures.kept c.requires.starts.there c.requires.valid in
    let both : HasHeaders (λ h. is_valid_header h && lower_has block h) c.combined.new.self c.in_ok-both.both.at =
    combined_has Meet is_valid_header (lower_has block) c.lower.new.self c.combined.new.self c.args.valid.at c.in_ok-lower.lower.at c.in_ok-both.both.at
    c.in_ok-both.ensures.kept valid_starts.there c.in_ok-lower.ensures.starts.there valid_has c.in_ok-lower.ensures.exact c.in_ok-both.ensures.exact in
    let dst : HasHeaders (dst_has block) c.pattern.new.self c.in_ok-dst.dst.at =
    has_field (λ h. h.dst) 32 32 dst_bits (ternary_has block.dst) (λ h. is_valid_header h && lower_has block h) c.combined.new.self c.pattern.new.self c.in_ok-both.both.at c.in_ok-dst.dst.at
    c.in_ok-dst.ensures.kept c.in_ok-both.ensures.exact.there both c.in_ok-dst.ensures.tests in
    block_all block c.pattern-2.new.self c.in_ok-pattern.field-0.at
    (has_field (λ h. h.src) 0 32 src_bits (ternary_has block.src) (dst_has block) c.pattern.new.self c.pattern-2.new.self c.in_ok-dst.dst.at c.in_ok-pattern.field-0.at
    c.in_ok-pattern.ensures.kept c.in_ok-dst.ensures.starts.there dst c.in_ok-pattern.ensures.tests)
