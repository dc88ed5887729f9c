-- The range of a cut box on a model that is handed over: whether the slices are long enough, and what they hold at the
-- end.
use Rattle.std.specs.Prelude.{Bool, true, false, ◌&&◌, List, [], ◌∷◌, ℕ, leb, ℤ}
use Rattle.calculus.specs.Refusal.{Result}
use Rattle.calculus.specs.Operations.{Ends}
use Rattle.model_types.specs.declared.Bounds.{Bounds}
use Rattle.model_types.specs.ModelStruct.{view, bounds, verdict_number, verdict_place}
use Rattle.model_slices.specs.HandedModels.{handed, borrowed, misused, over}
use Rattle.cuts.specs.Cuts.{call_cut_range}

-- the call on a model that is handed over
unfoldable pub handed_cut : (d i k n count radius : ℕ) → List ℕ → List ℤ → Result Ends
handed_cut d i k n count radius ks cs = call_cut_range d i k (view (handed n count radius ks cs))

-- the number that it returns, and its slices
pub record CalledCut : Type 0 where
  pub number : ℕ
  pub ends : List ℤ
  pub numbers : List ℕ

-- these, put together
unfoldable pub cut_state : (number : ℕ) → List ℤ → List ℕ → CalledCut
cut_state number es ns = record { number = number; ends = es; numbers = ns }

-- two ends and the place of a refusal, over what the slices hold
unfoldable pub stored_cut : Bounds → List ℤ → List ℕ → CalledCut
stored_cut b es ns =
    cut_state (verdict_number b.verdict) (over (b.low ∷ b.high ∷ []) es)
    (over (verdict_place b.verdict ∷ []) ns)

-- whether the slices are long enough
unfoldable pub cut_fits : (count keys coefficients ends numbers : ℕ) → Bool
cut_fits count keys coefficients ends numbers = borrowed count keys coefficients && leb 2 ends && leb 1 numbers

-- a call that fits is answered, any other returns 255 and changes nothing
unfoldable pub called_cut : (fits : Bool) → Result Ends → List ℤ → List ℕ → CalledCut
called_cut true a es ns = stored_cut (bounds a) es ns
called_cut false a es ns = cut_state misused es ns
