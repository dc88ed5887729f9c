-- The rank of a key by the sums of its last two, its last three and all its four exponents, as the code finds it.
use Rattle.std.specs.Prelude.{List, [], ◌∷◌, ℕ, ◌+◌, ◌/◌, ◌%◌, get_or}

-- so many monomials have at most a degree, for each degree
unfoldable pub up_to : List ℕ
up_to = 1 ∷ 5 ∷ 15 ∷ 35 ∷ 70 ∷ 126 ∷ 210 ∷ 330 ∷ 495 ∷ 715 ∷ 1001 ∷ 1365 ∷ 1820 ∷ 2380 ∷ 3060 ∷ 3876 ∷ []

-- less those of the degree whose last three exponents add up to less, as complements to 65536
unfoldable pub less_by_three : List ℕ
less_by_three =
    0 ∷ 65535 ∷ 65532 ∷ 65526 ∷ 65516 ∷ 65501 ∷ 65480 ∷ 65452
    ∷ 65416 ∷ 65371 ∷ 65316 ∷ 65250 ∷ 65172 ∷ 65081 ∷ 64976 ∷ 64856 ∷ []

-- and less those of which the last two do
unfoldable pub less_by_two : List ℕ
less_by_two =
    65535 ∷ 65533 ∷ 65530 ∷ 65526 ∷ 65521 ∷ 65515 ∷ 65508 ∷ 65500
    ∷ 65491 ∷ 65481 ∷ 65470 ∷ 65458 ∷ 65445 ∷ 65431 ∷ 65416 ∷ 65400 ∷ []

-- of the upper half of a key, which has its first four exponents: the last two of these
unfoldable pub two_sum : ℕ → ℕ
two_sum h = h / 16 % 16 + h % 16

-- the last three
unfoldable pub three_sum : ℕ → ℕ
three_sum h = h / 256 % 16 + two_sum h

-- all four
unfoldable pub four_sum : ℕ → ℕ
four_sum h = h / 4096 + three_sum h

-- the rank of such a half
unfoldable pub half_rank : ℕ → ℕ
half_rank h =
    (get_or up_to (four_sum h % 16) 0 + get_or less_by_three (three_sum h % 16) 0 + get_or less_by_two (two_sum h % 16)
    0
    + h / 16 % 16) % 65536

-- the rank of a key
unfoldable pub rank_by_sums : ℕ → ℕ
rank_by_sums z = half_rank (z / 65536)
