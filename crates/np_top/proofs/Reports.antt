-- What the commands' steps give, as what their reports need.
use Rattle.std.proofs.Common.{◌≡◌, ℕ, ◌<◌, ◌*◌, ◌+◌, Bool, false, List, [], ◌∷◌, length, get_or, map, arith, sym, ◌∙◌, ap, subst}
use Rattle.std.specs.List.{All, AllByRecursion}
use Rattle.std.proofs.lemmas.List.{get_or_default, get_or-map, length-map}
use Rattle.std.proofs.lemmas.List.Elements.{All-from_recursion}
use Rattle.np_space.specs.declared.headers.Header.{Header}
use Rattle.np_acl_read.specs.declared.config.Config.{Config}
use Rattle.np_cut.specs.AppliedLists.{AppliedLists, applied_lets}
use Rattle.np_cut.specs.Applying.{applied_of, slot_lets}
use Rattle.np_cut.proofs.ApplyLaws.{applied_is}
use Rattle.np_net.specs.Path.{Leads, area_of}
use Rattle.np_net.specs.Plan.{Plan}
use Rattle.np_net.specs.declared.filtering.Goal.{Goal}
use Rattle.np_net.specs.declared.filtering.Interface.{Interface}
use Rattle.np_flow.specs.Carrying.{AllCross, Carries, IsFirstPath}
use Rattle.np_goals.specs.Cases.{IsCaseOf, goal_at}
use Rattle.np_goals.specs.declared.cases.Case.{Case}
use Rattle.np_goals.specs.Verdicts.{Breaks, IsVerdict}
use Rattle.np_goals.specs.declared.verdicts.Verdict.{Verdict}
use Rattle.np_goals.specs.declared.verdicts.Verdict.TheVariants.{Holds, Violated}
use Rattle.np_pred.specs.declared.predicate.Pred.TheVariants.{Any}
use Rattle.np_report.specs.Verdicts.{HasInterfaces}
use Rattle.np_top.specs.Report.{AreRightVerdicts}

-- ---- what crosses the slots may be said in two ways

-- both say the same of each slot of these interfaces
abbrev pub AgreeAt : List Interface → (ℕ → Bool) → (ℕ → Bool) → Type 0
AgreeAt interfaces f g = (slot : ℕ) → slot < 2 * length interfaces → f slot ≡ g slot

cross_so : (interfaces : List Interface) (f g : ℕ → Bool) → AgreeAt interfaces f g → (hops : List (ℕ × ℕ)) (a b : ℕ) → Leads interfaces a hops b → AllCross f hops → AllCross g hops
cross_so interfaces f g agree [] a b leads cross = tt
cross_so interfaces f g agree (hop ∷ hops) a b leads cross =
    let first = leads.0.0 in
    let second = leads.0.1 in (
      sym (agree (2 * hop.0) (omega (arith, first))) ∙ cross.0,
      sym (agree (2 * hop.1 + 1) (omega (arith, second))) ∙ cross.1,
      cross_so interfaces f g agree hops (area_of interfaces hop.1) b leads.2 cross.2,
    )

carries_so : (interfaces : List Interface) (f g : ℕ → Bool) → AgreeAt interfaces f g → (a : ℕ) (hops : List (ℕ × ℕ)) (b : ℕ) → Carries interfaces f a hops b → Carries interfaces g a hops b
carries_so interfaces f g agree a hops b carries = record {
  path = carries.path;
  cross = cross_so interfaces f g agree hops a b carries.path.leads carries.cross;
}

turned : (interfaces : List Interface) (f g : ℕ → Bool) → AgreeAt interfaces f g → AgreeAt interfaces g f
turned interfaces f g agree = λ slot within. sym (agree slot within)

first_so : (interfaces : List Interface) (f g : ℕ → Bool) → AgreeAt interfaces f g → (a : ℕ) (hops : List (ℕ × ℕ)) (b : ℕ) → IsFirstPath interfaces f a hops b → IsFirstPath interfaces g a hops b
first_so interfaces f g agree a hops b is = record {
  carries = carries_so interfaces f g agree a hops b is.carries;
  first = λ others carries. is.first others (carries_so interfaces g f (turned interfaces f g agree) a others b carries);
}

-- both say the same of each slot and each header
abbrev pub Agree : List Interface → (ℕ → Header → Bool) → (ℕ → Header → Bool) → Type 0
Agree interfaces f g = (slot : ℕ) → slot < 2 * length interfaces → (h : Header) → f slot h ≡ g slot h

breaks_so : (interfaces : List Interface) (f g : ℕ → Header → Bool) → Agree interfaces f g → (goal : Goal) (h : Header) → Breaks interfaces f goal h → Breaks interfaces g goal h
breaks_so interfaces f g agree goal h breaks = record {
  valid = breaks.valid;
  forbidden = breaks.forbidden;
  reaches = record {
    hops = breaks.reaches.hops;
    carries = carries_so interfaces (λ slot. f slot h) (λ slot. g slot h) (λ slot within. agree slot within h) goal.from breaks.reaches.hops goal.to breaks.reaches.carries;
  };
}

-- a verdict is right by both or by neither
pub verdict_so : (interfaces : List Interface) (f g : ℕ → Header → Bool) → Agree interfaces f g → (goal : Goal) (v : Verdict) → IsVerdict interfaces f goal v → IsVerdict interfaces g goal v
verdict_so interfaces f g agree goal Holds right = λ h breaks. right h (breaks_so interfaces g f (λ slot within h. sym (agree slot within h)) goal h breaks)
verdict_so interfaces f g agree goal (Violated header path) right = (
  record {
    has = breaks_so interfaces f g agree goal header right.0.has;
    least = λ h breaks. right.0.least h (breaks_so interfaces g f (λ slot within h. sym (agree slot within h)) goal h breaks);
  },
  first_so interfaces (λ slot. f slot header) (λ slot. g slot header) (λ slot within. agree slot within header) goal.from path.hops goal.to right.1,
)

-- the lists say of each slot of the network what the configurations say
pub lists_agree : (net : Plan) (configs : List Config) → Agree net.interfaces (applied_lets (applied_of net.interfaces configs)) (slot_lets net.interfaces configs)
lists_agree net configs slot within h = applied_is net.interfaces configs slot within h

-- the verdicts on the case of the configurations' lists are right
pub verdicts_right : (net : Plan) (configs : List Config) (case : Case) (verdicts : List Verdict) → IsCaseOf net.interfaces net.goals (applied_of net.interfaces configs) case → length verdicts ≡ length net.goals →
    ((applied : AppliedLists) → IsCaseOf net.interfaces net.goals applied case → (k : ℕ) (d : Goal) → k < length net.goals → IsVerdict net.interfaces (applied_lets applied) (goal_at net.goals d k) (get_or verdicts k Holds)) →
    AreRightVerdicts net configs verdicts
verdicts_right net configs case verdicts are count judged = record {
  count = count;
  right = λ k d within.
      let lists : AppliedLists = applied_of net.interfaces configs in
      verdict_so net.interfaces (applied_lets lists) (slot_lets net.interfaces configs) (lists_agree net configs) (goal_at net.goals d k) (get_or verdicts k Holds) (judged lists are k d within);
}

-- ---- the interfaces of the paths

hops_within : (interfaces : List Interface) (hops : List (ℕ × ℕ)) (a b : ℕ) → Leads interfaces a hops b → AllByRecursion (λ hop. (hop.0 < length interfaces) × (hop.1 < length interfaces)) hops
hops_within interfaces [] a b leads = tt
hops_within interfaces (hop ∷ hops) a b leads = ((leads.0.0, leads.0.1), hops_within interfaces hops (area_of interfaces hop.1) b leads.2)

-- a first path has interfaces that there are
pub first_within : (interfaces : List Interface) (lets : ℕ → Bool) (a : ℕ) (hops : List (ℕ × ℕ)) (b : ℕ) → IsFirstPath interfaces lets a hops b → All (λ hop. (hop.0 < length interfaces) × (hop.1 < length interfaces)) hops
first_within interfaces lets a hops b is = All-from_recursion (λ hop. (hop.0 < length interfaces) × (hop.1 < length interfaces)) hops (hops_within interfaces hops a b is.carries.path.leads)

verdict_within : (interfaces : List Interface) (lets : ℕ → Header → Bool) (goal : Goal) (v : Verdict) → IsVerdict interfaces lets goal v → HasInterfaces interfaces v
verdict_within interfaces lets goal Holds right = tt
verdict_within interfaces lets goal (Violated header path) right = first_within interfaces (λ slot. lets slot header) goal.from path.hops goal.to right.1

-- right verdicts name interfaces that there are
pub verdicts_within : (net : Plan) (configs : List Config) (vs : List Verdict) → AreRightVerdicts net configs vs → All (HasInterfaces net.interfaces) vs
verdicts_within net configs vs are = λ k d within.
    let here : k < length net.goals = omega (arith, are.count) in
    let goal : Goal = record { from = 0; to = 0; only = false; pred = Any } in
    subst (HasInterfaces net.interfaces) (get_or_default vs k Holds d within)
    (verdict_within net.interfaces (slot_lets net.interfaces configs) (goal_at net.goals goal k) (get_or vs k Holds) (are.right k goal here))
