use Rattle.std.proofs.Common.{ℕ, ◌+◌, ◌==◌, length, take, drop, sym, ap, ◌∙◌, arith, rules}
use Rattle.std.proofs.lemmas.List.Sums.{position_or_len_is}
use Rattle.std.proofs.lemmas.List.{take_rest}
use Rattle.np_text.proofs.cutting.split_once.Goals as goal

pub returns-in_err-at-clause-none : goal.returns-in_err-at-clause-none
returns-in_err-at-clause-none c =
    rw c.from_residual.ensures (position_or_len_is (λ (b : ℕ). b == c.args.byte) c.args.bytes.now (length c.args.bytes.now) 0 (omega arith) (search rules) (search rules))

pub returns-clause-found : goal.returns-clause-found
returns-clause-found c =
    let place = position_or_len_is (λ (b : ℕ). b == c.args.byte) c.args.bytes.now c.in_ok-at.at 0 (search rules) (search rules) (search rules) in
    search rules

pub returns-clause-before : goal.returns-clause-before
returns-clause-before c =
    let place = position_or_len_is (λ (b : ℕ). b == c.args.byte) c.args.bytes.now c.in_ok-at.at 0 (search rules) (search rules) (search rules) in
    ap (λ at. take at c.args.bytes.now) (sym place)

pub returns-clause-after : goal.returns-clause-after
returns-clause-after c =
    let place = position_or_len_is (λ (b : ℕ). b == c.args.byte) c.args.bytes.now c.in_ok-at.at 0 (search rules) (search rules) (search rules) in
    take_rest c.args.bytes.now _ ∙ ap (λ at. drop (at + 1) c.args.bytes.now) (sym place)
