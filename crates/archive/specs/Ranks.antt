-- All monomials in four variables of degree at most 15, by total degree and then key, as keys; the place of each.
use Rattle.std.specs.Prelude.{Bool, true, false, ◌&&◌, List, [], ◌∷◌, ◌++◌, map, ℕ, zero, suc, ◌+◌, ◌-◌, ◌*◌, ◌%◌, eqb, ltb, leb, get_or}
use Rattle.calculus.specs.Key.{key_width, key_limit, key, key_degree}
use Rattle.calculus.specs.Model.{most_degree}

-- the numbers from `from` on, c of them
unfoldable pub count_up : (from c : ℕ) → List ℕ
count_up from zero = []
count_up from (suc c) = from ∷ count_up (suc from) c

-- what f gives for each number of a list, one after the other
unfoldable pub in_turn : {A : Type 0} → (ℕ → List A) → List ℕ → List A
in_turn f [] = []
in_turn f (i ∷ l) = f i ++ in_turn f l

-- the monomials of w exponents with the total degree s: the first exponent rises from 0 to s
unfoldable pub monomials : (w s : ℕ) → List (List ℕ)
monomials zero zero = [] ∷ []
monomials zero (suc s) = []
monomials (suc w) s = in_turn (λ e. map (λ k. e ∷ k) (monomials w (s - e))) (count_up 0 (suc s))

-- the archive's monomials have four exponents
unfoldable pub rank_width : ℕ
rank_width = 4

-- all, by total degree and then key, as keys; the other exponents of each are 0
unfoldable pub all_keys : List ℕ
all_keys = map (key key_width) (in_turn (monomials rank_width) (count_up 0 (suc most_degree)))

-- the first halves of these, of 16 bits
unfoldable pub short_keys : List ℕ
short_keys = map (key rank_width) (in_turn (monomials rank_width) (count_up 0 (suc most_degree)))

-- there are so many
unfoldable pub rank_count : ℕ
rank_count = 3876

-- the place of z in a list, its length if z is not there
unfoldable pub place_of : ℕ → List ℕ → ℕ
place_of z [] = 0
place_of z (y ∷ l) = elim (eqb z y) [ true ↦ 0 | false ↦ suc (place_of z l) ]

-- the rank of a key: its place from 0 among all
unfoldable pub rank_of : ℕ → ℕ
rank_of z = place_of z all_keys

-- the key of a rank
unfoldable pub key_at : ℕ → ℕ
key_at r = get_or all_keys r 0

-- ---- the order
-- by total degree, then by key, as one number
unfoldable pub weight : ℕ → ℕ
weight z = key_degree z * key_limit + z

-- each is a key of degree at most 15, without exponents after the fourth, that is above the one before, in that order
unfoldable pub keys_in_order : (least : ℕ) → List ℕ → Bool
keys_in_order least [] = true
keys_in_order least (z ∷ l) =
    leb least (weight z) && ltb z key_limit && eqb (z % 65536) 0 && leb (key_degree z) most_degree
    && keys_in_order (suc (weight z)) l
