-- What the steps of a synthesis give, as what its reports are and need.
use Rattle.std.proofs.Common.{◌≡◌, ℕ, ◌*◌, ◌<◌, ◌≤◌, inl, inr, Bool, false, List, [], length, get_or, map, refl, arith, sym, ◌∙◌, subst}
use Rattle.std.specs.List.{All}
use Rattle.std.proofs.lemmas.List.{ext_get_or, get_or_default, length-map, get_or-map}
use Rattle.np_space.specs.Header.{zeros}
use Rattle.np_space.specs.declared.headers.Header.{Header}
use Rattle.np_acl_read.specs.declared.config.Config.{Config}
use Rattle.np_net.specs.Plan.{Plan}
use Rattle.np_net.specs.declared.filtering.Goal.{Goal}
use Rattle.np_net.specs.declared.filtering.Interface.{Interface}
use Rattle.np_net.specs.declared.paths.Path.{Path}
use Rattle.np_cut.specs.AppliedLists.{AppliedLists, applied_lets}
use Rattle.np_cut.specs.Applying.{applied_of, slot_lets}
use Rattle.np_goals.specs.Cases.{IsCaseOf, goal_at}
use Rattle.np_goals.specs.declared.cases.Case.{Case}
use Rattle.np_goals.specs.declared.verdicts.Verdict.TheVariants.{Holds as Met, Violated}
use Rattle.np_synth.specs.Choosing.{shut}
use Rattle.np_synth.specs.Dropping.{nothing, IsEarlier, AreDropped}
use Rattle.np_synth.specs.Headers.{no_goal, forbidding, IsSynthesised, IsUnattained}
use Rattle.np_synth.specs.Lifting.{IsShown}
use Rattle.np_synth.specs.Synthesis.{IsSynthesis, IsUnattainable}
use Rattle.np_synth.specs.declared.chosen.Dropped.{Dropped}
use Rattle.np_synth.proofs.LiftingLaws.{atoms_stand_for_headers, atoms_deny_for_headers}
use Rattle.np_synth.proofs.SameLaws.{shut_same, breaks_same, chosen_same}
use Rattle.np_report.specs.Synthesis.{chosen_text, unattainable_text, HopsWithin, AreInOrder}
use Rattle.np_top.specs.declared.status.Status.{Status}
use Rattle.np_top.specs.declared.status.Status.TheVariants.{Holds, Fails}
use Rattle.np_top.specs.Synthesis.{AreShown, IsChosenReport, IsSynthesisReport}
use Rattle.np_top.proofs.Reports.{Agree, lists_agree, verdict_so, first_within}
use Rattle.np_top.proofs.SynthesisLaws.{while_shut}

-- ---- what crosses the slots may be said in two ways

module _ (net : Plan) (f g : ℕ → Header → Bool) (agree : Agree net.interfaces f g) where
  -- with the free slots shut too
  agree_shut : Agree net.interfaces (while_shut net f) (while_shut net g)
  agree_shut s within h = shut_same net.interfaces (λ t. f t h) (λ t. g t h) (λ t below. agree t below h) net.free s within

  -- what can't be attained by the one can't be by the other
  pub unattained_so : (goal : ℕ) (header : Header) (path : Path) → IsUnattained net f goal header path → IsUnattained net g goal header path
  unattained_so goal header path un =
      record {
        within = un.within;
        violated = λ d. verdict_so net.interfaces (while_shut net f) (while_shut net g) agree_shut (goal_at net.goals d goal) (Violated header path) (un.violated d);
        first = λ k d less. verdict_so net.interfaces (while_shut net f) (while_shut net g) agree_shut (goal_at net.goals d k) Met (un.first k d less);
      }

  -- and what is synthesised for the one is for the other
  pub synthesised_so : (leasts : List Header) (chosen : ℕ → Header → Bool) (drops : List Dropped) → IsSynthesised net f leasts chosen drops → IsSynthesised net g leasts chosen drops
  synthesised_so leasts chosen drops is =
      record {
        attained = λ h valid b.
            is.attained h valid (breaks_same net.interfaces net.goals (forbidding net.goals h) (forbidding net.goals h) (shut net.free (λ s. g s h)) (shut net.free (λ s. f s h))
            (λ k below. refl) (λ s within. sym (agree_shut s within h)) b);
        chosen_is = λ h valid.
            chosen_same net.interfaces net.goals (forbidding net.goals h) (forbidding net.goals h) net.free (λ k below. refl) (λ s. f s h) (λ s. g s h) (λ s. chosen s h) (λ s. chosen s h)
            (λ s within. agree s within h) (λ s within. refl) (is.chosen_is h valid);
        dropped = is.dropped;
      }

-- ---- the report

-- the sets are those of the least members
sets_shown : (net : Plan) (lets : ℕ → Header → Bool) (case : Case) (slots : List (List Bool)) (drops : List Dropped) → IsSynthesis net case slots drops → (shown : IsShown net lets case.leasts slots drops) → AreShown (2 * length net.interfaces) case.leasts shown.chosen slots
sets_shown net lets case slots drops is shown = record { each = is.two_each; shown = at }
  where
    at : (slot : ℕ) → slot < 2 * length net.interfaces → get_or slots slot [] ≡ map (shown.chosen slot) case.leasts
    at slot within =
        let there : slot < length slots = omega (arith, within, is.two_each) in
        let size : length (get_or slots slot []) ≡ length case.leasts = is.sizes slot there in
        ext_get_or false (get_or slots slot []) (map (shown.chosen slot) case.leasts) (size ∙ sym (length-map case.leasts (shown.chosen slot)))
        (λ atom below.
        let here : atom < length case.leasts = omega (arith, below, size) in
        sym (shown.shows slot atom within here) ∙ sym (get_or-map (shown.chosen slot) case.leasts atom zeros false here))

-- what is synthesised for the case of the lists that the configurations apply is the report's posture
chosen_reported : (net : Plan) (configs : List Config) (case : Case) (slots : List (List Bool)) (drops : List Dropped) (text : List ℕ) (status : Status) → IsCaseOf net.interfaces net.goals (applied_of net.interfaces configs) case →
    IsSynthesis net case slots drops → text ≡ chosen_text net case.leasts slots drops → status ≡ Holds → IsChosenReport net configs text status
chosen_reported net configs case slots drops text status are is text_is status_is =
    let applied : AppliedLists = applied_of net.interfaces configs in
    let shown : IsShown net (applied_lets applied) case.leasts slots drops = atoms_stand_for_headers net applied case slots drops are is in
    record {
      leasts = case.leasts;
      least = are.leasts;
      chosen = shown.chosen;
      drops = drops;
      synthesised = synthesised_so net (applied_lets applied) (slot_lets net.interfaces configs) (lists_agree net configs) case.leasts shown.chosen drops shown.is;
      sets = slots;
      shown = sets_shown net (applied_lets applied) case slots drops is shown;
      text_is = text_is;
      status_is = status_is;
    }

pub chosen_answer : (net : Plan) (configs : List Config) (case : Case) (slots : List (List Bool)) (drops : List Dropped) (text : List ℕ) (status : Status) →
    IsCaseOf net.interfaces net.goals (applied_of net.interfaces configs) case → IsSynthesis net case slots drops → text ≡ chosen_text net case.leasts slots drops → status ≡ Holds → IsSynthesisReport net configs text status
chosen_answer net configs case slots drops text status are is text_is status_is = inr (chosen_reported net configs case slots drops text status are is text_is status_is)

-- a goal that the case can't attain is the first one that headers can't
unattained_by : (net : Plan) (configs : List Config) (case : Case) (goal : ℕ) (header : Header) (path : Path) → IsCaseOf net.interfaces net.goals (applied_of net.interfaces configs) case →
    IsUnattainable net case goal header path.hops → IsUnattained net (slot_lets net.interfaces configs) goal header path
unattained_by net configs case goal header path are un =
    let lists : AppliedLists = applied_of net.interfaces configs in
    unattained_so net (applied_lets lists) (slot_lets net.interfaces configs) (lists_agree net configs) goal header path
    (atoms_deny_for_headers net lists case goal header path are un)

pub unattained_answer : (net : Plan) (configs : List Config) (case : Case) (goal : ℕ) (header : Header) (path : Path) (text : List ℕ) (status : Status) →
    IsCaseOf net.interfaces net.goals (applied_of net.interfaces configs) case → IsUnattainable net case goal header path.hops → text ≡ unattainable_text net goal header path.hops → status ≡ Fails → IsSynthesisReport net configs text status
unattained_answer net configs case goal header path text status are un text_is status_is =
    inl record { goal = goal; header = header; path = path; unattained = unattained_by net configs case goal header path are un; text_is = text_is; status_is = status_is }

-- ---- what the reports need

-- a path's hops have interfaces that there are
pub unattained_within : (net : Plan) (case : Case) (goal : ℕ) (header : Header) (hops : List (ℕ × ℕ)) → IsUnattainable net case goal header hops → HopsWithin net.interfaces hops
unattained_within net case goal header hops un = first_within net.interfaces _ _ hops _ (un.path no_goal)

-- the drops are in order
pub drops_in_order : (interfaces : List Interface) (goals : List Goal) (free : List Bool) (atoms : ℕ) (bad chosen : ℕ → ℕ → Bool) (drops : List Dropped) → AreDropped interfaces goals free atoms bad chosen drops → AreInOrder interfaces atoms (length goals) drops
drops_in_order interfaces goals free atoms bad chosen drops are =
    record {
      within = each (λ d. HopsWithin interfaces d.path.hops) (λ n below. first_within interfaces _ _ _ _ ((are.each n below).1.path no_goal));
      atoms_within = each (λ d. d.atom < atoms) (λ n below. (are.each n below).0);
      goals_within = each (λ d. d.goal < length goals) (λ n below. (are.each n below).1.broken.broken.within);
      by_slot = λ m n less below. no_later (get_or drops m nothing) (get_or drops n nothing) (are.ascending m n less below);
    }
  where
    each : (P : Dropped → Type 0) → ((n : ℕ) → n < length drops → P (get_or drops n nothing)) → All P drops
    each P holds = λ n d below. subst P (get_or_default drops n nothing d below) (holds n below)

    no_later : (x y : Dropped) → IsEarlier x y → x.slot ≤ y.slot
    no_later x y (inl less) = omega arith
    no_later x y (inr same) = let slot = same.0 in omega arith
