-- Which headers a network's rules, goals and areas take for the same, and which headers stand for all.
use Rattle.std.specs.Prelude.{◌≡◌, ℕ, ◌<◌, Bool, List, length}
use Rattle.std.specs.List.{All}
use Rattle.np_space.specs.Classes.{IsAlike, AreLeasts}
use Rattle.np_space.specs.Header.{IsValid}
use Rattle.np_space.specs.declared.headers.Header.{Header}
use Rattle.np_pred.specs.Meaning.{pred_holds}
use Rattle.np_pred.specs.declared.predicate.Pred.{Pred}
use Rattle.np_net.specs.Plan.{Plan}
use Rattle.np_net.specs.declared.associations.Match.{Match}
use Rattle.np_net.specs.declared.associations.Match.TheVariants as matches
use Rattle.np_ipsec.specs.Goals.{goal_pred}
use Rattle.np_ipsec.specs.Steps.{area_has}
use Rattle.np_ipsec.specs.Tables.{table_at}

-- a rule's match fits both of two plain headers, or neither
abbrev pub FitsAlike : Match → Header → Header → Type 0
FitsAlike (matches.Plain pred) h k = pred_holds pred h ≡ pred_holds pred k
FitsAlike (matches.Under n) h k = Unit {0}
FitsAlike matches.Every h k = Unit {0}

-- no rule, no goal and no area of the network tells two headers apart
pub record AreTakenAlike (net : Plan) (h k : Header) : Type 0 where
  pub ins : (i : ℕ) → i < length net.interfaces → All (λ rule. FitsAlike rule.top h k) (table_at net i).ins
  pub outs : (i : ℕ) → i < length net.interfaces → All (λ rule. FitsAlike rule.top h k) (table_at net i).outs
  pub preds : All (λ goal. pred_holds (goal_pred goal) h ≡ pred_holds (goal_pred goal) k) net.ipgoals
  pub sources : (a : ℕ) → a < length net.areas → area_has net a h ≡ area_has net a k

-- a predicate says the same of headers that the network takes alike, as that of each of its goals does
abbrev pub KeepsAlike : Plan → Pred → Type 0
KeepsAlike net pred = (h k : Header) → AreTakenAlike net h k → pred_holds pred h ≡ pred_holds pred k

-- the tests tell apart all that the network does: valid headers that are alike by them are taken alike
abbrev pub Respects : Plan → List (Header → Bool) → Type 0
Respects net tests = (h k : Header) → IsValid h → IsValid k → IsAlike tests h k → AreTakenAlike net h k

-- the least members of the classes of such tests
pub record AreLeastsFor (net : Plan) (leasts : List Header) : Type 0 where
  pub tests : List (Header → Bool)
  pub least : AreLeasts tests leasts
  pub respected : Respects net tests
