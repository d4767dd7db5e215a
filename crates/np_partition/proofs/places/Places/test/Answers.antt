use Rattle.std.proofs.Common.{◌∙◌, ◌++◌, ◌∷◌, [], ap, length}
use Rattle.np_partition.proofs.PlaceLaws.{IsAdded, added_kept, added_test}
use Rattle.np_partition.specs.declared.shows.Show.TheVariants.{Test}
use Rattle.np_partition.proofs.places.Places.test.Goals as goal

-- the list has one place more
added : (c : goal.In_ok-push) → IsAdded c.args.self.now c.push.new.self (Test c.args.bit c.args.low c.args.high) c.len-at.result
added c = record { list = c.in_ok-push.ensures.ok ∙ ap (λ shows. shows ++ Test c.args.bit c.args.low c.args.high ∷ []) c.self.view_is; place = c.len-at.ensures ∙ ap length c.self.view_is }

pub returns-clause-kept : goal.returns-clause-kept
returns-clause-kept c = added_kept _ _ _ _ (added c)

pub returns-clause-chooses : goal.returns-clause-chooses
returns-clause-chooses c = added_test _ _ _ _ _ _ (added c) c.requires.low.there c.requires.high.there
