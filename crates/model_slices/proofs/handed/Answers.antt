-- `handed` copies as far as both slices go.
use mathlib.Core.Path.{◌≡◌, ◌∙◌, ap}
use Prim.Native.Nat.{min}
use native.Mathlib.Omega.{arith}
use lib.ListN.{length}
use Rattle.calculus.specs.Model.{most_terms}
use Rattle.model_types.specs.ModelStruct.{pad}
use Rattle.model_types.specs.PairedLaws.{listed_same, listed_struct}
use Rattle.model_slices.specs.HandedModels.{handed}
use Rattle.model_slices.specs.HandedModelsLaws.{terms_end, filled_listed}
use Rattle.model_slices.proofs.handed.Goals as goal
use Rattle.model_slices.proofs.handed.Goals.{After-least-places}

-- how many places are copied
places_are : (c : After-least-places)
    → c.least-places.result ≡ min most_terms (min (length c.args.keys.now) (length c.args.coefficients.now))
unfolding most_terms
places_are c = c.least-places.ensures ∙ ap (min 64) c.least-both.ensures

pub returns : goal.returns
unfolding handed most_terms
returns c =
    let a = c.args in
    let p = places_are (goal.at.returns c).After-least-places in
    rw (c.copy_keys.ensures, c.copy_coefficients.ensures)
    (listed_struct (listed_same
    (filled_listed c.least-places.result a.keys.now a.coefficients.now (omega (arith, p)) (omega (arith, p)))
    (ap pad (terms_end _ most_terms a.keys.now a.coefficients.now p))) _ _ _)
