-- `taken` copies the places that the count names, as far as both slices go.
use mathlib.Core.Path.{◌≡◌, ◌∙◌, ap, ap₂}
use Prim.Native.Nat.{min}
use native.Mathlib.Omega.{arith}
use lib.ListN.{length}
use Rattle.calculus.specs.Model.{most_terms}
use Rattle.model_types.specs.ModelStruct.{view}
use Rattle.model_types.specs.PairedLaws.{listed_struct}
use Rattle.model_slices.specs.HandedModelsLaws.{taken_view, filled_listed}
use Rattle.model_slices.proofs.taken.Goals as goal
use Rattle.model_slices.proofs.taken.Goals.{After-least-places}

-- how many places are copied
places_are : (c : After-least-places)
    → c.least-places.result ≡ min (min c.args.count most_terms)
    (min (length c.args.keys.now) (length c.args.coefficients.now))
unfolding most_terms
places_are c = c.least-places.ensures ∙ ap₂ min c.least-named.ensures c.least-both.ensures

pub returns : goal.returns
unfolding most_terms
returns c =
    let a = c.args in
    let p = places_are (goal.at.returns c).After-least-places in
    rw (c.copy_keys.ensures, c.copy_coefficients.ensures)
    (ap view (listed_struct
    (filled_listed c.least-places.result a.keys.now a.coefficients.now (omega (arith, p)) (omega (arith, p)))
    _ _ _)
    ∙ taken_view _ _ _ _ _ _ p)
