use Rattle.std.proofs.Common.{◌≡◌, ℕ, ◌-◌, List, min, length, take, drop, sym, ap, ◌∙◌}
use Rattle.std.proofs.lemmas.List.{take_rest}
use Rattle.std.proofs.lemmas.Option.{same_Some}
use Rattle.np_outside.specs.Calls.{at_step}
use Rattle.np_outside.specs.MemFiles.{bytes_at}
use Rattle.np_outside.specs.declared.mem_shelf.NamedFile.{NamedFile}
use Rattle.np_outside.proofs.Reading.{nothing_given}
use Rattle.np_outside.proofs.mem_shelf.MemShelfShelf.read.Goals as goal

pub returns-clause-end : goal.returns-clause-end
returns-clause-end c = λ r told none space.
    let most = c.args.self.now.most in
    let room = length c.args.buf.now in
    let place = c.in-Some.place in
    let whole = c.bytes_of.ensures ∙ ap (λ (fs : List NamedFile). bytes_at fs place.file) c.deref.ensures.value in
    let left : take (length c.bytes_of.result.now - place.at) (drop place.at c.bytes_of.result.now) ≡ r =
    take_rest c.bytes_of.result.now place.at ∙ ap (λ (xs : List ℕ). drop place.at xs) whole ∙ same_Some _ _ (rw c.in-Some.is at told) in
    nothing_given most room r c.args.self.now.step_moves
    (ap (λ (xs : List ℕ). at_step most (min room (length xs))) (sym left) ∙ ap (at_step most) (sym c.min.ensures) ∙ sym c.at_step-count.ensures ∙ none)
    space
