use Rattle.std.proofs.Common.{◌≡◌, ◌+◌, length, ap, ◌∙◌}
use Rattle.std.proofs.lemmas.Iterator.Consumers.{YieldsList-from_first, count_from_yields_List}
use Rattle.std.proofs.lemmas.List.FromFn.{length-enumerate_from}
use Rattle.np_text.specs.declared.cutting.Line.{Line}
use Rattle.np_text.specs.Lines.{lines_of, numbered_lines}
use Rattle.np_script.proofs.reading.line_after.Goals as goal

pub returns : goal.returns
returns c =
    let all = YieldsList-from_first (λ (line : Line). (line.number, line.bytes.now)) (λ left. left) (numbered_lines c.args.bytes.now) c.lines.ensures.all in
    let counted : c.count.result ≡ length (numbered_lines c.args.bytes.now) = count_from_yields_List c.lines.result c.count.result c.count.ensures.ran all in
    ap (λ n. n + 1) (counted ∙ length-enumerate_from 1 (lines_of c.args.bytes.now))
