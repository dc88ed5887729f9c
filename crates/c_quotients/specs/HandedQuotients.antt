-- The quotient of four models that are handed over one after the other: f, g, h, w.
use Rattle.std.specs.Prelude.{Bool, ◌&&◌, List, ℕ, leb, ℤ}
use Rattle.calculus.specs.Model as C
use Rattle.calculus.specs.Refusal.{Result}
use Rattle.calculus.specs.Calls.{call_quotient}
use Rattle.model_types.specs.ModelStruct.{view}
use Rattle.c_books.specs.HandedBooks.{model_at}

-- the models of a quotient
abbrev pub quotient_models : ℕ
quotient_models = 4

-- whether the slices hold them, and there is room for the answer
unfoldable pub quotient_fits : (models : ℕ) (room : Bool) → Bool
quotient_fits models room = leb quotient_models models && room

-- the model at place k
abbrev pub operand : (ns counts radii keys : List ℕ) → List ℤ → (k : ℕ) → C.Model
operand ns cs rs ks zs k = view (model_at ns cs rs ks zs k)

-- the call with the first four
unfoldable pub handed_quotient : (d : ℕ) (ns counts radii keys : List ℕ) → List ℤ → Result C.Model
handed_quotient d ns cs rs ks zs =
    call_quotient d (operand ns cs rs ks zs 0) (operand ns cs rs ks zs 1) (operand ns cs rs ks zs 2)
    (operand ns cs rs ks zs 3)
