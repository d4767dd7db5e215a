-- The tests that the cuts of a network's filtering are.
use Rattle.std.specs.Prelude.{◌≡◌, Bool, ◌&&◌, List, ◌++◌, map}
use Rattle.np_space.specs.Header.{is_valid_header}
use Rattle.np_space.specs.declared.headers.Header.{Header}
use Rattle.np_acl.specs.declared.entries.Entry.{Entry}
use Rattle.np_acl.specs.Entries.{list_permits}
use Rattle.np_net.specs.declared.filtering.Goal.{Goal}
use Rattle.np_pred.specs.declared.predicate.Pred.{Pred}
use Rattle.np_pred.specs.Meaning.{pred_holds}
use Rattle.np_region.specs.Keeping.{KeepsRegions, EachFits, tests_of}

-- of the valid headers those that a list permits
abbrev pub list_test : List Entry → Header → Bool
list_test list h = is_valid_header h && list_permits list h

-- of the valid headers those for which a predicate holds
abbrev pub pred_test : Pred → Header → Bool
pred_test pred h = is_valid_header h && pred_holds pred h

-- those of several lists
abbrev pub list_tests : List (List Entry) → List (Header → Bool)
list_tests lists = map list_test lists

-- those of several predicates
abbrev pub pred_tests : List Pred → List (Header → Bool)
pred_tests preds = map pred_test preds

-- what the lists permit, one after another, and then where the predicates of the goals hold
abbrev pub filter_tests : List (List Entry) → List Goal → List (Header → Bool)
filter_tests lists goals = list_tests lists ++ pred_tests (map (λ goal. goal.pred) goals)

-- Between two stores the regions are kept; the regions fit the new one, and are these tests there.
pub record AreCuts {S R : Type 0} (fits : S → R → Type 0) (has : S → R → Header → Bool) (tests : List (Header → Bool)) (old new : S) (cuts : List R) : Type 0 where
  pub kept : KeepsRegions fits has old new
  pub fit : EachFits fits new cuts
  pub exact : tests_of has new cuts ≡ tests
