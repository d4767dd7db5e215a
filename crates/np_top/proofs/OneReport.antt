-- A network and its configurations have one report of each kind: the verdicts and the least members are unique.
use Rattle.std.proofs.Common.{◌≡◌, ℕ, ◌<◌, Bool, false, List, [], ◌∷◌, length, map, Result, Ok, refl, arith, sym, ◌∙◌, ap, subst}
use Rattle.std.proofs.lemmas.List.{ext_get_or}
use Rattle.np_space.specs.declared.headers.Header.{Header}
use Rattle.np_space.proofs.ClassLaws.{leasts_are_unique}
use Rattle.np_space.proofs.OrderLemmas.{le_both_ways}
use Rattle.np_acl_read.specs.Reading.{config_of}
use Rattle.np_acl_read.specs.declared.config.Config.{Config}
use Rattle.np_generate.specs.Generated.{generated_configs, generated_net}
use Rattle.np_pred.specs.declared.predicate.Pred.TheVariants.{Any}
use Rattle.np_net.specs.Plan.{Plan}
use Rattle.np_net_read.specs.Reading.{net_of}
use Rattle.np_net.specs.declared.filtering.Goal.{Goal}
use Rattle.np_net.specs.declared.filtering.Interface.{Interface}
use Rattle.np_net.specs.declared.paths.Path.{Path}
use Rattle.np_flow.specs.Carrying.{IsFirstPath}
use Rattle.np_cut.specs.Applying.{applied_of, slot_lets}
use Rattle.np_atoms.specs.Atoms.{cut_sets}
use Rattle.np_goals.specs.Cases.{goal_at}
use Rattle.np_goals.specs.Verdicts.{IsVerdict}
use Rattle.np_goals.specs.declared.verdicts.Verdict.{Verdict}
use Rattle.np_goals.specs.declared.verdicts.Verdict.TheVariants.{Holds, Violated}
use Rattle.np_synth.proofs.FirstPathLaws.{one_path}
use Rattle.np_report.specs.Atoms.{atoms_text}
use Rattle.np_report.specs.Summary.{summary_text}
use Rattle.np_report.specs.Verdicts.{verdicts_text}
use Rattle.np_top.specs.declared.status.Status.{Status}
use Rattle.np_top.specs.Generated.{IsGenReport, IsSummaryReport}
use Rattle.np_top.specs.Report.{AreRightVerdicts, IsCheckReport, IsAtomsReport, cuts_of, verdicts_status}

-- ---- verdicts

one_violation : (interfaces : List Interface) (lets : ℕ → Header → Bool) (goal : Goal) (h k : Header) (p q : Path) → h ≡ k →
    IsFirstPath interfaces (λ slot. lets slot h) goal.from p.hops goal.to → IsFirstPath interfaces (λ slot. lets slot k) goal.from q.hops goal.to → Violated h p ≡ Violated k q
one_violation interfaces lets goal h k p q same first second =
    let there = subst (λ z. IsFirstPath interfaces (λ slot. lets slot z) goal.from p.hops goal.to) same first in
    let hops = one_path interfaces (λ slot. lets slot k) goal.from goal.to p.hops q.hops there second in
    λ i. Violated (same i) (record { hops = hops i })

-- a goal has one verdict
pub one_verdict : (interfaces : List Interface) (lets : ℕ → Header → Bool) (goal : Goal) (v w : Verdict) → IsVerdict interfaces lets goal v → IsVerdict interfaces lets goal w → v ≡ w
one_verdict interfaces lets goal Holds Holds a b = refl
one_verdict interfaces lets goal Holds (Violated k q) a b = absurd (a k b.0.has)
one_verdict interfaces lets goal (Violated h p) Holds a b = absurd (b h a.0.has)
one_verdict interfaces lets goal (Violated h p) (Violated k q) a b =
    one_violation interfaces lets goal h k p q (le_both_ways h k (a.0.least k b.0.has) (b.0.least h a.0.has)) a.1 b.1

one_verdicts : (net : Plan) (configs : List Config) (vs ws : List Verdict) → AreRightVerdicts net configs vs → AreRightVerdicts net configs ws → vs ≡ ws
one_verdicts net configs vs ws a b =
    let d : Goal = record { from = 0; to = 0; only = false; pred = Any } in
    ext_get_or Holds vs ws (a.count ∙ sym b.count) (λ n within.
    let here : n < length net.goals = omega (arith, a.count) in
    one_verdict net.interfaces (slot_lets net.interfaces configs) (goal_at net.goals d n) _ _ (a.right n d here) (b.right n d here))

-- ---- reports

-- the same text and the same status
abbrev pub Same : List ℕ → Status → List ℕ → Status → Type 0
Same text status other_text other_status = (text ≡ other_text) × (status ≡ other_status)

pub one_check_report : (net : Plan) (configs : List Config) (s t : List ℕ) (x y : Status) → IsCheckReport net configs s x → IsCheckReport net configs t y → Same s x t y
one_check_report net configs s t x y a b =
    let same : a.verdicts ≡ b.verdicts = one_verdicts net configs a.verdicts b.verdicts a.right b.right in
    (a.text_is ∙ ap (verdicts_text net) same ∙ sym b.text_is, a.status_is ∙ ap verdicts_status same ∙ sym b.status_is)

pub one_atoms_report : (net : Plan) (configs : List Config) (s t : List ℕ) (x y : Status) → IsAtomsReport net configs s x → IsAtomsReport net configs t y → Same s x t y
one_atoms_report net configs s t x y a b =
    let same : a.leasts ≡ b.leasts = leasts_are_unique (cuts_of net configs) a.leasts b.leasts a.least b.least in
    (a.text_is ∙ ap (λ leasts. atoms_text net (applied_of net.interfaces configs).names (cut_sets (cuts_of net configs) leasts) leasts) same ∙ sym b.text_is, a.status_is ∙ sym b.status_is)

-- ---- generated networks

pub one_summary : (seed : ℕ) (net : Plan) (configs : List Config) (s t : List ℕ) (x y : Status) → IsSummaryReport seed net configs s x → IsSummaryReport seed net configs t y → Same s x t y
one_summary seed net configs s t x y a b =
    let leasts : a.leasts ≡ b.leasts = leasts_are_unique (cuts_of net configs) a.leasts b.leasts a.least b.least in
    let verdicts : a.verdicts ≡ b.verdicts = one_verdicts net configs a.verdicts b.verdicts a.right b.right in
    (a.text_is ∙ (λ i. summary_text seed net (length (leasts i)) (verdicts i)) ∙ sym b.text_is, a.status_is ∙ ap verdicts_status verdicts ∙ sym b.status_is)

-- values that are read without an error
same_values : {X E : Type 0} (xs ys : List X) (given : List (Result X E)) → given ≡ map (λ x. Ok x) xs → given ≡ map (λ y. Ok y) ys → xs ≡ ys
same_values [] [] given a b = refl
same_values [] (y ∷ ys) given a b = absurd (cc)
same_values (x ∷ xs) [] given a b = absurd (cc)
same_values (x ∷ xs) (y ∷ ys) [] a b = absurd (cc)
same_values (x ∷ xs) (y ∷ ys) (first ∷ given) a b =
    let rest : given ≡ map (λ x. Ok x) xs = cc in
    let others : given ≡ map (λ y. Ok y) ys = cc in
    let tail : xs ≡ ys = same_values xs ys given rest others in
    cc

-- a seed has one network and one list of configurations, and so one report
pub one_gen_report : (seed : ℕ) (s t : List ℕ) (x y : Status) → IsGenReport seed s x → IsGenReport seed t y → Same s x t y
one_gen_report seed s t x y a b =
    let read : Ok a.net ≡ net_of (generated_net seed) = sym a.net_read in
    let net : a.net ≡ b.net = cc (b.net_read) in
    let configs : a.configs ≡ b.configs = same_values a.configs b.configs (map config_of (generated_configs seed)) a.configs_read b.configs_read in
    one_summary seed b.net b.configs s t x y (subst (λ c. IsSummaryReport seed b.net c s x) configs (subst (λ n. IsSummaryReport seed n a.configs s x) net a.summary)) b.summary
