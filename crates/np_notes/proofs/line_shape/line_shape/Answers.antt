use Rattle.std.proofs.Common.{◌∙◌, [], sym}
use Rattle.std.specs.Prelude.{codes}
use Rattle.np_notes.specs.Shape.{are_two}
use Rattle.np_notes.proofs.WordLaws.{exit_by_two}
use Rattle.np_notes.proofs.line_shape.line_shape.Goals as goal

pub returns : goal.returns
returns c = λ section i. record {
  number = c.args.number;
  kind = c.kind_of_line.ensures c.args.line.now i;
  indented = c.is_indented.ensures i;
  first = c.first_words-words.ensures.first i;
  second = c.first_words-words.ensures.second i;
  third = c.first_words-words.ensures.third i;
  exit = (c.is_exit.ensures ∙ (λ j. are_two (c.first_words-words.ensures.first j) (c.first_words-words.ensures.second j) (codes "exit") []) ∙ sym (exit_by_two c.args.line.now)) i;
  heading = c.is_heading.ensures i;
}
