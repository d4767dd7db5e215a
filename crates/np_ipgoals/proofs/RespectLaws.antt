-- What the tests of a network's IPsec part say the same of is the same to its rules, its goals and its areas.
use Rattle.std.proofs.Common.{◌≡◌, ℕ, zero, suc, Bool, false, List, [], ◌∷◌, ◌++◌, map, get_or, refl}
use Rattle.std.specs.List.{AllByRecursion, flat_map}
use Rattle.std.proofs.lemmas.List.Elements.{All-from_recursion}
use Rattle.np_space.specs.Classes.{IsAlike}
use Rattle.np_space.specs.Header.{IsValid}
use Rattle.np_space.specs.Patterns.{any_pattern_has}
use Rattle.np_space.specs.declared.headers.Header.{Header}
use Rattle.np_pred.specs.Meaning.{pred_holds}
use Rattle.np_pred.specs.declared.predicate.Pred.{Pred}
use Rattle.np_net.specs.Plan.{Plan}
use Rattle.np_net.specs.declared.filtering.Area.{Area}
use Rattle.np_net.specs.declared.associations.InRule.{InRule}
use Rattle.np_net.specs.declared.associations.OutRule.{OutRule}
use Rattle.np_net.specs.declared.associations.Match.{Match}
use Rattle.np_net.specs.declared.associations.Match.TheVariants as matches
use Rattle.np_cut.specs.FilterCuts.{pred_test, pred_tests}
use Rattle.np_ipsec.specs.Steps.{area_has}
use Rattle.np_ipsec.specs.Tables.{table_at}
use Rattle.np_ipsec.specs.Alike.{AreTakenAlike, FitsAlike}
use Rattle.np_ipsec.specs.Goals.{goal_pred}
use Rattle.np_ipgoals.specs.Cuts.{asked, ipsec_tests, source_test, table_preds}
use Rattle.np_ipgoals.specs.Respecting.{IpsecTestsAreRespected, LeastsServeTheChecks}

-- ---- what holds of each item of lists

all_first : {X : Type 0} (P : X → Type 0) (xs ys : List X) → AllByRecursion P (xs ++ ys) → AllByRecursion P xs
all_first P [] ys all = tt
all_first P (x ∷ xs) ys all = (all.0, all_first P xs ys all.1)

all_second : {X : Type 0} (P : X → Type 0) (xs ys : List X) → AllByRecursion P (xs ++ ys) → AllByRecursion P ys
all_second P [] ys all = all
all_second P (x ∷ xs) ys all = all_second P xs ys all.1

-- of the items of several lists, list by list
all_lists : {X Y : Type 0} (P : Y → Type 0) (f : X → List Y) (xs : List X) → AllByRecursion P (flat_map f xs) → AllByRecursion (λ x. AllByRecursion P (f x)) xs
all_lists P f [] all = tt
all_lists P f (x ∷ xs) all = (all_first P (f x) (flat_map f xs) all, all_lists P f xs (all_second P (f x) (flat_map f xs) all))

-- of what is made of each item
all_made : {X Y : Type 0} (P : Y → Type 0) (Q : X → Type 0) (f : X → Y) → ((x : X) → P (f x) → Q x) → (xs : List X) → AllByRecursion P (map f xs) → AllByRecursion Q xs
all_made P Q f back [] all = tt
all_made P Q f back (x ∷ xs) all = (back x all.0, all_made P Q f back xs all.1)

-- of each item as something weaker
all_weaker : {X : Type 0} (P Q : X → Type 0) → ((x : X) → P x → Q x) → (xs : List X) → AllByRecursion P xs → AllByRecursion Q xs
all_weaker P Q weaker [] all = tt
all_weaker P Q weaker (x ∷ xs) all = (weaker x all.0, all_weaker P Q weaker xs all.1)

-- of the item at a place, where it also holds of what stands past the end
at_place : {X : Type 0} (P : X → Type 0) (d : X) → P d → (xs : List X) → AllByRecursion P xs → (n : ℕ) → P (get_or xs n d)
at_place P d past [] all n = past
at_place P d past (x ∷ xs) all zero = all.0
at_place P d past (x ∷ xs) all (suc n) = at_place P d past xs all.1 n

-- ---- what the tests say

module _ (h k : Header) (valid : IsValid h) (other : IsValid k) where
  -- a predicate says the same of both
  abbrev SaysSame : Pred → Type 0
  SaysSame pred = pred_holds pred h ≡ pred_holds pred k

  -- an area has the sources of both, or of neither
  abbrev HasSame : Area → Type 0
  HasSame area = any_pattern_has area.sources h.src ≡ any_pattern_has area.sources k.src

  -- each of the tests says the same of both
  each_same : (tests : List (Header → Bool)) → IsAlike tests h k → AllByRecursion (λ test. test h ≡ test k) tests
  each_same [] alike = tt
  each_same (test ∷ tests) alike = (cc, each_same tests (cc))

  -- the test of a predicate is the predicate, since both are valid
  pred_same : (pred : Pred) → pred_test pred h ≡ pred_test pred k → SaysSame pred
  pred_same pred same = rw (valid, other) at same

  source_same : (area : Area) → source_test area h ≡ source_test area k → HasSame area
  source_same area same = rw (valid, other) at same

  -- where each predicate that a rule asks says the same of both, the rule takes them alike
  fits_same : (top : Match) → AllByRecursion SaysSame (asked top) → FitsAlike top h k
  fits_same (matches.Plain pred) all = all.0
  fits_same (matches.Under n) all = tt
  fits_same matches.Every all = tt

  -- ---- all that a network asks

  module _ (net : Plan) (alike : IsAlike (ipsec_tests net) h k) where
    all_tests : AllByRecursion (λ (test : Header → Bool). test h ≡ test k) (ipsec_tests net)
    all_tests = each_same (ipsec_tests net) alike

    abbrev preds : List Pred
    preds = flat_map table_preds net.tables ++ map goal_pred net.ipgoals

    all_preds : AllByRecursion SaysSame preds
    all_preds =
        all_made (λ (test : Header → Bool). test h ≡ test k) SaysSame pred_test pred_same preds
        (all_first (λ (test : Header → Bool). test h ≡ test k) (pred_tests preds) (map source_test net.areas) all_tests)

    -- of each interface's rules, also of those that no interface has
    table_same : (i : ℕ) → AllByRecursion SaysSame (table_preds (table_at net i))
    table_same i =
        at_place (λ table. AllByRecursion SaysSame (table_preds table)) record { pops = []; ins = []; outs = [] } tt net.tables
        (all_lists SaysSame table_preds net.tables (all_first SaysSame (flat_map table_preds net.tables) (map goal_pred net.ipgoals) all_preds)) i

    ins_same : (i : ℕ) → AllByRecursion (λ (rule : InRule). AllByRecursion SaysSame (asked rule.top)) (table_at net i).ins
    ins_same i =
        let table = table_at net i in
        all_lists SaysSame (λ (rule : InRule). asked rule.top) table.ins
        (all_first SaysSame (flat_map (λ (rule : InRule). asked rule.top) table.ins) (flat_map (λ (rule : OutRule). asked rule.top) table.outs) (table_same i))

    outs_same : (i : ℕ) → AllByRecursion (λ (rule : OutRule). AllByRecursion SaysSame (asked rule.top)) (table_at net i).outs
    outs_same i =
        let table = table_at net i in
        all_lists SaysSame (λ (rule : OutRule). asked rule.top) table.outs
        (all_second SaysSame (flat_map (λ (rule : InRule). asked rule.top) table.ins) (flat_map (λ (rule : OutRule). asked rule.top) table.outs) (table_same i))

    goals_same : AllByRecursion (λ goal. SaysSame (goal_pred goal)) net.ipgoals
    goals_same =
        all_made SaysSame (λ goal. SaysSame (goal_pred goal)) goal_pred (λ goal same. same) net.ipgoals
        (all_second SaysSame (flat_map table_preds net.tables) (map goal_pred net.ipgoals) all_preds)

    -- of each area, also of those that there aren't
    areas_same : (a : ℕ) → area_has net a h ≡ area_has net a k
    areas_same a =
        at_place HasSame record { name = []; sources = []; trusted = false } refl net.areas
        (all_made (λ (test : Header → Bool). test h ≡ test k) HasSame source_test source_same net.areas
        (all_second (λ (test : Header → Bool). test h ≡ test k) (pred_tests preds) (map source_test net.areas) all_tests))
        a

    taken_alike : AreTakenAlike net h k
    taken_alike = record {
      ins = λ i lt.
          All-from_recursion (λ (rule : InRule). FitsAlike rule.top h k) (table_at net i).ins
          (all_weaker (λ (rule : InRule). AllByRecursion SaysSame (asked rule.top)) (λ (rule : InRule). FitsAlike rule.top h k) (λ rule all. fits_same rule.top all) (table_at net i).ins (ins_same i));
      outs = λ i lt.
          All-from_recursion (λ (rule : OutRule). FitsAlike rule.top h k) (table_at net i).outs
          (all_weaker (λ (rule : OutRule). AllByRecursion SaysSame (asked rule.top)) (λ (rule : OutRule). FitsAlike rule.top h k) (λ rule all. fits_same rule.top all) (table_at net i).outs (outs_same i));
      preds = All-from_recursion (λ goal. SaysSame (goal_pred goal)) net.ipgoals goals_same;
      sources = λ a lt. areas_same a;
    }

-- ---- the laws

pub tests_are_respected : IpsecTestsAreRespected
tests_are_respected net h k valid other alike = taken_alike h k valid other net alike

pub leasts_serve : LeastsServeTheChecks
leasts_serve net leasts are = record { tests = ipsec_tests net; least = are; respected = tests_are_respected net }
