use Rattle.std.proofs.Common.{◌≡◌, take, ap, arith}
use Rattle.std.specs.Prelude.{◌&&◌}
use Rattle.std.proofs.lemmas.List.{take_all}
use Rattle.np_space.specs.Header.{is_valid_header}
use Rattle.np_space.specs.Block.{address_number}
use Rattle.np_space.specs.Patterns.{any_pattern_has}
use Rattle.np_region.proofs.BlockListLemmas.{none_with, with_more, relisted}
use Rattle.np_region.proofs.lists.valid_with.Goals as goal

pub loop-pattern-init : goal.loop-pattern-init
loop-pattern-init c = rw c.new-blocks.ensures.items (none_with c.args.field)

pub loop-pattern-preserved : goal.loop-pattern-preserved
loop-pattern-preserved c =
    with_more c.args.field c.args.patterns.now c.loop-pattern.pattern-index c.pattern-item.result c.pattern-item.result c.loop-pattern.blocks.items c.deref.result.now _ (omega arith) c.pattern-item.is
    c.loop-pattern.invariant c.deref.ensures.value c.in_ok-blocks.ensures

pub returns : goal.returns
returns c =
    let all : take c.loop-pattern.pattern-index c.args.patterns.now ≡ c.args.patterns.now = take_all c.loop-pattern.pattern-index c.args.patterns.now (omega arith) in
    relisted (λ h. is_valid_header h && any_pattern_has (take c.loop-pattern.pattern-index c.args.patterns.now) (address_number c.args.field h))
    (λ h. is_valid_header h && any_pattern_has c.args.patterns.now (address_number c.args.field h)) c.loop-pattern.blocks.items c.loop-pattern.invariant
    (λ h. ap (λ ps. is_valid_header h && any_pattern_has ps (address_number c.args.field h)) all)
