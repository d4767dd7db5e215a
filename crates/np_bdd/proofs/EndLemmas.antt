-- No and Yes stand at their places.
use Rattle.std.proofs.Common.{◌≡◌, ℕ, zero, suc, ◌<◌, true, false, List, [], ◌∷◌, length, slice_get, Some, arith}
use Rattle.np_bdd.specs.declared.views.View.{View}
use Rattle.np_bdd.specs.declared.views.View.TheVariants.{No, Yes}
use Rattle.np_bdd.specs.Views.{view_at}
use Rattle.np_bdd.specs.Diagram.{IsDiagram}
use Rattle.np_bdd.specs.Fields.{AlwaysAnswers}
use Rattle.np_bdd.proofs.PlaceLemmas.{leads_at_no, leads_at_yes}

-- what is there is there by its place too
found : (views : List View) (at : ℕ) (v : View) → slice_get views at ≡ Some v → (at < length views) × (view_at views at ≡ v)
found [] at v e = absurd (cc)
found (view ∷ views) zero v e = (omega arith, cc)
found (view ∷ views) (suc at) v e = let rest = found views at v e in (omega (arith, rest.0), rest.1)

-- nothing leads from the first place to Yes
pub no_answers : (views : List View) → IsDiagram views → AlwaysAnswers false views 0
no_answers views d =
    let there = found views 0 No d.no_first in
    record {
      starts = record { there = there.0; from = rw there.1 (omega arith) };
      leads = λ bits. leads_at_no views bits 0 there.1;
    }

-- everything does from the next
pub yes_answers : (views : List View) → IsDiagram views → AlwaysAnswers true views 1
yes_answers views d =
    let there = found views 1 Yes d.yes_next in
    record {
      starts = record { there = there.0; from = rw there.1 (omega arith) };
      leads = λ bits. leads_at_yes views bits 1 there.1;
    }
