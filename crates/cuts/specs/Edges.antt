-- Rows of edge cases, computed.
use Rattle.std.specs.Prelude.{◌≡◌, refl, List, [], ◌∷◌, ◌++◌, map, ℕ, ◌+◌, pos}
use Rattle.calculus.specs.Computing.{calls}
use Rattle.calculus.specs.Forms.{forms, at_key, model, ends, minus}
use Rattle.calculus.specs.Model.{Model}
use Rattle.calculus.specs.Refusal.{bad_limits, bad_model, bad_step, over_span, too_many_terms, cut_too_deep}
use Rattle.calculus.specs.Refusal.{done, stopped}
use Rattle.cuts.specs.Cuts as X
use Rattle.cuts.specs.Cuts.{call_cut_range}

-- all definitions, for facts that compute
unfoldable pub cuts : Unit {0}
unfolding
    calls forms
    X.smaller X.larger X.hull X.overlap X.most_depth X.half_width X.piece_middle X.piece
    X.piece_range X.hull_from X.pieces_hull X.cut_range X.call_cut_range
cuts = tt

-- ---- models
-- x
unfoldable pub slope : Model
slope = model 1 0 (at_key 1 0x1000 (pos 1048576) ∷ [])

-- x²
unfoldable pub square : Model
square = model 1 0 (at_key 1 0x2000 (pos 1048576) ∷ [])

-- its negative
unfoldable pub hill : Model
hill = model 1 0 (at_key 1 0x2000 (minus 1048576) ∷ [])

-- 1 + x + x², from 3/4 to 3
unfoldable pub bowl : Model
bowl = model 1 0 (at_key 1 0x0000 (pos 1048576) ∷ at_key 1 0x1000 (pos 1048576) ∷ at_key 1 0x2000 (pos 1048576) ∷ [])

-- its negative
unfoldable pub dome : Model
dome = model 1 0
    (at_key 1 0x0000 (minus 1048576) ∷ at_key 1 0x1000 (minus 1048576) ∷ at_key 1 0x2000 (minus 1048576) ∷ [])

-- (x - 1/2)²
unfoldable pub aside : Model
aside = model 1 0
    (at_key 1 0x0000 (pos 262144) ∷ at_key 1 0x1000 (minus 1048576) ∷ at_key 1 0x2000 (pos 1048576) ∷ [])

-- (2^29 + 1) + (2^29 - 1) x, whose span is the limit
unfoldable pub steep : Model
steep = model 1 0 (at_key 1 0x0000 (pos 536870913) ∷ at_key 1 0x1000 (pos 536870911) ∷ [])

-- (2^29 + 1) + (2^29 - 1) x², as large at both ends
unfoldable pub steep_twice : Model
steep_twice = model 1 0 (at_key 1 0x0000 (pos 536870913) ∷ at_key 1 0x2000 (pos 536870911) ∷ [])

-- no terms, radius 7
unfoldable pub band : Model
band = model 1 7 []

-- 1 + y + y² in x and y
unfoldable pub valley : Model
valley = model 2 0
    (at_key 2 0x0000 (pos 1048576) ∷ at_key 2 0x0100 (pos 1048576) ∷ at_key 2 0x0200 (pos 1048576) ∷ [])

-- 1 + y + y² - x: in the right half of y both variables have their terms, of different signs
unfoldable pub slanted : Model
slanted = model 2 0
    (at_key 2 0x0000 (pos 1048576) ∷ at_key 2 0x0100 (pos 1048576) ∷ at_key 2 0x0200 (pos 1048576)
    ∷ at_key 2 0x1000 (minus 1048576) ∷ [])

-- 22 monomials in y and z, as parts of keys: y to the power 0 or 1, z to the power 0 to 10
unfoldable pub beside : List ℕ
beside = 0x000 ∷ 0x010 ∷ 0x020 ∷ 0x030 ∷ 0x040 ∷ 0x050 ∷ 0x060 ∷ 0x070 ∷ 0x080 ∷ 0x090 ∷ 0x0A0
    ∷ 0x100 ∷ 0x110 ∷ 0x120 ∷ 0x130 ∷ 0x140 ∷ 0x150 ∷ 0x160 ∷ 0x170 ∷ 0x180 ∷ 0x190 ∷ 0x1A0 ∷ []

-- (16 x² + 8 x) times their sum: what the left half of x gives each has two terms, what the right half gives has three
unfoldable pub wide : Model
wide = model 3 0 (map (λ s. at_key 3 (0x1000 + s) (pos 8)) beside ++ map (λ s. at_key 3 (0x2000 + s) (pos 16)) beside)

-- ---- the overlap: the halves of x² reach down to -1/4, those of -x² up to 1/4, the undivided ranges do not
pub overlapped
    : (call_cut_range 2 1 0 square ≡ done (ends (pos 0) (pos 1048576)))
    × (call_cut_range 2 1 1 square ≡ done (ends (pos 0) (pos 1048576)))
    × (call_cut_range 2 1 1 hill ≡ done (ends (minus 1048576) (pos 0)))
unfolding cuts square hill
overlapped = (refl, refl, refl)

-- ---- the smallest low end and the largest high end of all pieces, 0 not among them
pub all-pieces
    : (call_cut_range 2 1 0 bowl ≡ done (ends (pos 0) (pos 3145728)))
    × (call_cut_range 2 1 1 bowl ≡ done (ends (pos 786432) (pos 3145728)))
    × (call_cut_range 2 1 0 dome ≡ done (ends (minus 3145728) (pos 0)))
    × (call_cut_range 2 1 1 dome ≡ done (ends (minus 3145728) (minus 786432)))
unfolding cuts bowl dome
all-pieces = (refl, refl, refl, refl)

-- ---- a deeper cut can be wider: the bound of (x - 1/2)² is sharp where 1/2 is the middle of a piece
pub deeper-wider
    : (call_cut_range 2 1 0 aside ≡ done (ends (minus 786432) (pos 2359296)))
    × (call_cut_range 2 1 1 aside ≡ done (ends (pos 0) (pos 2359296)))
    × (call_cut_range 2 1 2 aside ≡ done (ends (minus 65536) (pos 2359296)))
unfolding cuts aside
deeper-wider = (refl, refl, refl)

-- ---- the first refused piece gives its number, with j as place
pub refused-pieces
    : (call_cut_range 1 1 0 steep ≡ done (ends (pos 2) (pos 1073741824)))
    × (call_cut_range 1 1 1 steep ≡ stopped over_span 1)
    × (call_cut_range 1 1 2 steep ≡ stopped over_span 3)
    -- here the first and the last piece are refused
    × (call_cut_range 2 1 1 steep_twice ≡ stopped over_span 0)
    × (call_cut_range 2 1 2 steep_twice ≡ stopped over_span 0)
unfolding cuts steep steep_twice
refused-pieces = (refl, refl, refl, refl, refl)

pub refused-counts
    : (call_cut_range 13 1 0 wide ≡ done (ends (minus 432) (pos 528)))
    × (call_cut_range 13 1 1 wide ≡ stopped too_many_terms 1)
unfolding cuts wide beside
refused-counts = (refl, refl)

-- ---- a radius alone; of two variables the one that is named; one that the model lacks
pub other-models
    : (call_cut_range 1 1 3 band ≡ done (ends (minus 7) (pos 7)))
    × (call_cut_range 2 2 1 valley ≡ done (ends (pos 786432) (pos 3145728)))
    × (call_cut_range 2 1 1 valley ≡ done (ends (pos 0) (pos 3145728)))
    × (call_cut_range 2 2 1 slanted ≡ done (ends (minus 262144) (pos 4194304)))
    × (call_cut_range 2 1 1 slanted ≡ done (ends (minus 1048576) (pos 4194304)))
unfolding cuts band valley slanted
other-models = (refl, refl, refl, refl, refl)

-- ---- the tests in order: 3, 5 with the order, 6, 14
pub tests-in-order
    : (call_cut_range 0 2 7 square ≡ stopped bad_limits 0)
    × (call_cut_range 16 2 7 square ≡ stopped bad_limits 0)
    × (call_cut_range 1 2 7 square ≡ stopped bad_model 0)
    × (call_cut_range 1 1 0 square ≡ stopped bad_model 0)
    × (call_cut_range 2 2 7 square ≡ stopped bad_step 0)
    × (call_cut_range 2 0 7 square ≡ stopped bad_step 0)
    × (call_cut_range 2 1 7 square ≡ stopped cut_too_deep 0)
    × (call_cut_range 1 1 7 steep ≡ stopped cut_too_deep 0)
unfolding cuts square steep
tests-in-order = (refl, refl, refl, refl, refl, refl, refl, refl)

-- ---- the deepest cut, 64 pieces
pub deepest
    : (call_cut_range 1 1 6 slope ≡ done (ends (minus 1048576) (pos 1048576)))
    × (call_cut_range 2 1 6 square ≡ done (ends (pos 0) (pos 1048576)))
unfolding cuts slope square
deepest = (refl, refl)
