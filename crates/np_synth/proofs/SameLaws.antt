-- What is said of slots and goals depends on the slots of the network and on its goals alone.
use Rattle.std.proofs.Common.{◌≡◌, ℕ, ◌*◌, ◌<◌, ◌&&◌, ◌==◌, Bool, true, false, ltb, List, length, get_or, sym, ◌∙◌}
use Rattle.std.specs.Prelude.{if◌then◌else◌}
use Rattle.np_net.specs.declared.filtering.Goal.{Goal}
use Rattle.np_net.specs.declared.filtering.Interface.{Interface}
use Rattle.np_goals.specs.Cases.{goal_at}
use Rattle.np_goals.proofs.CaseLaws.{first_same}
use Rattle.np_synth.specs.Choosing.{is_free, shut, opened, so_far, IsBroken, BreaksSome, IsFirstBroken, IsChosen}
use Rattle.np_synth.specs.Dropping.{nothing, IsDropped, AreDropped}
use Rattle.np_synth.specs.declared.chosen.Dropped.{Dropped}
use Rattle.np_synth.proofs.TravelLaws.{LetsMore, reaches_more}

-- the slots of the network let the same cross
abbrev pub SameSlots : List Interface → (ℕ → Bool) → (ℕ → Bool) → Type 0
SameSlots interfaces f g = (s : ℕ) → s < 2 * length interfaces → f s ≡ g s

-- the same goals forbid it
abbrev pub SameGoals : List Goal → (ℕ → Bool) → (ℕ → Bool) → Type 0
SameGoals goals x y = (k : ℕ) → k < length goals → x k ≡ y k

-- the same the other way round
pub turned : (n : ℕ) (f g : ℕ → Bool) → ((s : ℕ) → s < n → f s ≡ g s) → (s : ℕ) → s < n → g s ≡ f s
turned n f g same s within = sym (same s within)

-- ---- postures

module _ (interfaces : List Interface) (f g : ℕ → Bool) (same : SameSlots interfaces f g) where
  -- what crosses the first slots crosses the second ones
  pub same_more : LetsMore interfaces f g
  same_more s within e = sym (same s within) ∙ e

  -- with the free slots shut
  pub shut_same : (free : List Bool) → SameSlots interfaces (shut free f) (shut free g)
  shut_same free s within = λ i. if is_free free s then false else same s within i

  -- with one slot opened
  pub opened_same : (slot : ℕ) → SameSlots interfaces (opened f slot) (opened g slot)
  opened_same slot s within = λ i. if s == slot then true else same s within i

-- with some slots chosen
so_far_same : (interfaces : List Interface) (free : List Bool) (f g x y : ℕ → Bool) → SameSlots interfaces f g → SameSlots interfaces x y → (slot : ℕ) → SameSlots interfaces (so_far free f x slot) (so_far free g y slot)
so_far_same interfaces free f g x y lets chosen slot s within = λ i. if is_free free s then ltb s slot && chosen s within i else lets s within i

-- ---- goals that are broken

module _ (interfaces : List Interface) (goals : List Goal) (bad worse f g : ℕ → Bool) (same_goals : SameGoals goals bad worse) (same_slots : SameSlots interfaces f g) where
  -- this goal
  pub broken_same : (k : ℕ) → IsBroken interfaces goals bad f k → IsBroken interfaces goals worse g k
  broken_same k is =
      record {
        within = is.within;
        forbidden = sym (same_goals k is.within) ∙ is.forbidden;
        reaches = λ d. reaches_more interfaces f g (same_more interfaces f g same_slots) (goal_at goals d k).from (goal_at goals d k).to (is.reaches d);
      }

  -- some goal
  pub breaks_same : BreaksSome interfaces goals bad f → BreaksSome interfaces goals worse g
  breaks_same b = record { goal = b.goal; broken = broken_same b.goal b.broken }

-- the first one
first_broken_same : (interfaces : List Interface) (goals : List Goal) (bad worse f g : ℕ → Bool) → SameGoals goals bad worse → SameSlots interfaces f g → (k : ℕ) → IsFirstBroken interfaces goals bad f k → IsFirstBroken interfaces goals worse g k
first_broken_same interfaces goals bad worse f g same_goals same_slots k is =
    record {
      broken = broken_same interfaces goals bad worse f g same_goals same_slots k is.broken;
      first = λ j less b. is.first j less (broken_same interfaces goals worse bad g f (turned (length goals) bad worse same_goals) (turned (2 * length interfaces) f g same_slots) j b);
    }

-- ---- the chosen posture, and its drops

module _ (interfaces : List Interface) (goals : List Goal) (bad worse : ℕ → Bool) (free : List Bool) (same_goals : SameGoals goals bad worse) where
  -- the posture
  pub chosen_same : (lets other chosen taken : ℕ → Bool) → SameSlots interfaces lets other → SameSlots interfaces chosen taken → IsChosen interfaces goals bad free lets chosen → IsChosen interfaces goals worse free other taken
  chosen_same lets other chosen taken same_lets same_chosen is =
      record {
        fixed = λ s within not_free. sym (same_chosen s within) ∙ is.fixed s within not_free ∙ same_lets s within;
        opens = λ s within yes_free e b. is.opens s within yes_free (same_chosen s within ∙ e) (back s b);
        closed = λ s within yes_free e. on s (is.closed s within yes_free (same_chosen s within ∙ e));
      }
    where
      tried : (s : ℕ) → SameSlots interfaces (opened (so_far free lets chosen s) s) (opened (so_far free other taken s) s)
      tried s = opened_same interfaces (so_far free lets chosen s) (so_far free other taken s) (so_far_same interfaces free lets other chosen taken same_lets same_chosen s) s

      on : (s : ℕ) → BreaksSome interfaces goals bad (opened (so_far free lets chosen s) s) → BreaksSome interfaces goals worse (opened (so_far free other taken s) s)
      on s = breaks_same interfaces goals bad worse (opened (so_far free lets chosen s) s) (opened (so_far free other taken s) s) same_goals (tried s)

      back : (s : ℕ) → BreaksSome interfaces goals worse (opened (so_far free other taken s) s) → BreaksSome interfaces goals bad (opened (so_far free lets chosen s) s)
      back s =
          breaks_same interfaces goals worse bad (opened (so_far free other taken s) s) (opened (so_far free lets chosen s) s) (turned (length goals) bad worse same_goals)
          (turned (2 * length interfaces) (opened (so_far free lets chosen s) s) (opened (so_far free other taken s) s) (tried s))

  -- a drop
  pub drop_same : (chosen taken : ℕ → Bool) → SameSlots interfaces chosen taken → (slot goal : ℕ) (hops : List (ℕ × ℕ)) → IsDropped interfaces goals bad free chosen slot goal hops → IsDropped interfaces goals worse free taken slot goal hops
  drop_same chosen taken same slot goal hops is =
      record {
        within = is.within;
        free_is = is.free_is;
        shut_is = sym (same slot is.within) ∙ is.shut_is;
        broken = first_broken_same interfaces goals bad worse (opened chosen slot) (opened taken slot) same_goals (opened_same interfaces chosen taken same slot) goal is.broken;
        path = λ d. first_same interfaces (opened chosen slot) (opened taken slot) (opened_same interfaces chosen taken same slot) (goal_at goals d goal).from hops (goal_at goals d goal).to (is.path d);
      }

-- all drops
pub drops_same : (interfaces : List Interface) (goals : List Goal) (free : List Bool) (atoms : ℕ) (bad worse chosen taken : ℕ → ℕ → Bool) (drops : List Dropped)
    → ((atom : ℕ) → atom < atoms → SameGoals goals (bad atom) (worse atom)) → ((atom : ℕ) → atom < atoms → SameSlots interfaces (chosen atom) (taken atom))
    → AreDropped interfaces goals free atoms bad chosen drops → AreDropped interfaces goals free atoms worse taken drops
drops_same interfaces goals free atoms bad worse chosen taken drops same_goals same_slots are =
    record {
      each = λ n within.
          let one = are.each n within in
          let drop : Dropped = get_or drops n nothing in
          (one.0, drop_same interfaces goals (bad drop.atom) (worse drop.atom) free (same_goals drop.atom one.0) (chosen drop.atom) (taken drop.atom) (same_slots drop.atom one.0) drop.slot drop.goal drop.path.hops one.1);
      ascending = are.ascending;
      all = λ slot atom within below yes_free is_shut. are.all slot atom within below yes_free (same_slots atom below slot within ∙ is_shut);
    }
