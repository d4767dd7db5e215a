use Rattle.std.proofs.Common.{◌∙◌, ◌++◌, ◌∷◌, [], ap, length}
use Rattle.np_partition.proofs.PlaceLaws.{IsAdded, added_kept, added_class}
use Rattle.np_partition.specs.declared.shows.Show.TheVariants.{Class}
use Rattle.np_partition.proofs.places.Places.class.Goals as goal

-- the list has one place more
added : (c : goal.In_ok-push) → IsAdded c.args.self.now c.push.new.self (Class c.args.n) c.len-at.result
added c = record { list = c.in_ok-push.ensures.ok ∙ ap (λ shows. shows ++ Class c.args.n ∷ []) c.self.view_is; place = c.len-at.ensures ∙ ap length c.self.view_is }

pub returns-clause-kept : goal.returns-clause-kept
returns-clause-kept c = added_kept _ _ _ _ (added c)

pub returns-clause-place : goal.returns-clause-place
returns-clause-place c = added_class _ _ _ _ (added c)
