-- `put_in` goes down the powers of a variable: what is left at each iteration leads to the answer and to its shares.
use mathlib.Core.Path.{◌≡◌, refl, sym, ◌∙◌}
use mathlib.Core.List.{List}
use Prim.Native.Nat.{ℕ, ◌-◌, ◌*◌, ◌≤◌, ◌<◌}
use native.Mathlib.Omega.{arith}
use borrow.Author.Rules.{rules}
use lib.IntN.{ℤ}
use lib.ListN.{length}
use Rattle.numbers.specs.Fixed.{span_limit}
use Rattle.calculus.specs.Model.{most_terms}
use Rattle.calculus.specs.Operations.{part}
use Rattle.model_types.specs.ModelStruct.{view, pack}
use Rattle.model_slices.specs.HeldModels.{held, Room}
use Rattle.model_powers.specs.Powers.{exponents}
use Rattle.product_room.specs.ProductTerms.{ScratchRoom}
use Rattle.product_room.specs.ProductTermsLaws.{free_room}
use Rattle.model_substitution_slices.specs.HornerLaws.{Left, left_fits, radius_within}
use Rattle.model_substitution_slices.specs.SliceSubstitutionLaws.{put_keys, put_part, put_first, put_iteration}
use Rattle.model_substitution_slices.specs.SliceSubstitutionLaws.{put_room, put_stops, put_goes_on}
use Rattle.model_substitution_slices.specs.SliceSubstitutionLaws.{put_few, put_packed, put_end}
use Rattle.model_substitution_slices.proofs.put_in.Given as goal

abbrev pub invariant-loop-k : goal.invariant-loop-k
invariant-loop-k l =
    Room l.remaining l.rest × Room l.others l.added × Room l.spare l.products
    × (length l.slots ≡ length l.initial.slots)
    × (length l.table ≡ length l.initial.table)
    × (length l.sums ≡ length l.initial.sums)
    × Left l.d l.i (held l.n l.count l.radius l.keys l.coefficients)
    (held l.n l.count2 l.radius2 l.keys2 l.coefficients2) l.k
    (held l.n l.c l.e l.remaining l.rest) l.last
    × (l.k < exponents)
