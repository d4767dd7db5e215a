-- The tests that the cuts of a network's IPsec part are.
use Rattle.std.specs.Prelude.{Bool, ◌&&◌, List, [], ◌∷◌, ◌++◌, map}
use Rattle.std.specs.List.{flat_map}
use Rattle.np_space.specs.Header.{is_valid_header}
use Rattle.np_space.specs.Patterns.{any_pattern_has}
use Rattle.np_space.specs.declared.headers.Header.{Header}
use Rattle.np_pred.specs.declared.predicate.Pred.{Pred}
use Rattle.np_net.specs.Plan.{Plan}
use Rattle.np_net.specs.declared.filtering.Area.{Area}
use Rattle.np_net.specs.declared.associations.InRule.{InRule}
use Rattle.np_net.specs.declared.associations.OutRule.{OutRule}
use Rattle.np_net.specs.declared.associations.Match.{Match}
use Rattle.np_net.specs.declared.associations.Match.TheVariants as matches
use Rattle.np_net.specs.declared.associations.Table.{Table}
use Rattle.np_cut.specs.FilterCuts.{pred_tests}
use Rattle.np_ipsec.specs.Goals.{goal_pred}

-- the predicate that a match asks of a plain header, if it does
abbrev pub asked : Match → List Pred
asked (matches.Plain pred) = pred ∷ []
asked (matches.Under n) = []
asked matches.Every = []

-- those that an interface's rules ask: the inward ones, and then the outward ones
abbrev pub table_preds : Table → List Pred
table_preds table = flat_map (λ (rule : InRule). asked rule.top) table.ins ++ flat_map (λ (rule : OutRule). asked rule.top) table.outs

-- of the valid headers those with a source in the area
abbrev pub source_test : Area → Header → Bool
source_test area h = is_valid_header h && any_pattern_has area.sources h.src

-- where the predicates of the interfaces' rules hold, one interface after another, and those of the goals, and then which sources the areas have
abbrev pub ipsec_tests : Plan → List (Header → Bool)
ipsec_tests net = pred_tests (flat_map table_preds net.tables ++ map goal_pred net.ipgoals) ++ map source_test net.areas
