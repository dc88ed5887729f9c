-- The tables: the Chebyshev polynomials in powers, and powers in Chebyshev polynomials.
use Rattle.std.specs.Prelude.{List, [], ◌∷◌, ℕ, ◌^◌, ℤ, pos, neg_ℤ}
use Rattle.chebyshev.specs.Coefficients.{Row}

-- minus a natural number
abbrev minus : ℕ → ℤ
minus n = neg_ℤ (pos n)

-- row k: the coefficients of T_k, that of power 0 first
unfoldable pub chebyshev_table : List Row
chebyshev_table =
    (pos 1 ∷ pos 0 ∷ pos 0 ∷ pos 0 ∷ pos 0 ∷ pos 0 ∷ pos 0 ∷ pos 0 ∷ pos 0 ∷ pos 0 ∷ pos 0 ∷ pos 0 ∷ pos 0
    ∷ pos 0 ∷ pos 0 ∷ pos 0 ∷ [])
    ∷ (pos 0 ∷ pos 1 ∷ pos 0 ∷ pos 0 ∷ pos 0 ∷ pos 0 ∷ pos 0 ∷ pos 0 ∷ pos 0 ∷ pos 0 ∷ pos 0 ∷ pos 0 ∷ pos 0
    ∷ pos 0 ∷ pos 0 ∷ pos 0 ∷ [])
    ∷ (minus 1 ∷ pos 0 ∷ pos 2 ∷ pos 0 ∷ pos 0 ∷ pos 0 ∷ pos 0 ∷ pos 0 ∷ pos 0 ∷ pos 0 ∷ pos 0 ∷ pos 0 ∷ pos 0
    ∷ pos 0 ∷ pos 0 ∷ pos 0 ∷ [])
    ∷ (pos 0 ∷ minus 3 ∷ pos 0 ∷ pos 4 ∷ pos 0 ∷ pos 0 ∷ pos 0 ∷ pos 0 ∷ pos 0 ∷ pos 0 ∷ pos 0 ∷ pos 0 ∷ pos 0
    ∷ pos 0 ∷ pos 0 ∷ pos 0 ∷ [])
    ∷ (pos 1 ∷ pos 0 ∷ minus 8 ∷ pos 0 ∷ pos 8 ∷ pos 0 ∷ pos 0 ∷ pos 0 ∷ pos 0 ∷ pos 0 ∷ pos 0 ∷ pos 0 ∷ pos 0
    ∷ pos 0 ∷ pos 0 ∷ pos 0 ∷ [])
    ∷ (pos 0 ∷ pos 5 ∷ pos 0 ∷ minus 20 ∷ pos 0 ∷ pos 16 ∷ pos 0 ∷ pos 0 ∷ pos 0 ∷ pos 0 ∷ pos 0 ∷ pos 0
    ∷ pos 0 ∷ pos 0 ∷ pos 0 ∷ pos 0 ∷ [])
    ∷ (minus 1 ∷ pos 0 ∷ pos 18 ∷ pos 0 ∷ minus 48 ∷ pos 0 ∷ pos 32 ∷ pos 0 ∷ pos 0 ∷ pos 0 ∷ pos 0 ∷ pos 0
    ∷ pos 0 ∷ pos 0 ∷ pos 0 ∷ pos 0 ∷ [])
    ∷ (pos 0 ∷ minus 7 ∷ pos 0 ∷ pos 56 ∷ pos 0 ∷ minus 112 ∷ pos 0 ∷ pos 64 ∷ pos 0 ∷ pos 0 ∷ pos 0 ∷ pos 0
    ∷ pos 0 ∷ pos 0 ∷ pos 0 ∷ pos 0 ∷ [])
    ∷ (pos 1 ∷ pos 0 ∷ minus 32 ∷ pos 0 ∷ pos 160 ∷ pos 0 ∷ minus 256 ∷ pos 0 ∷ pos 128 ∷ pos 0 ∷ pos 0 ∷ pos 0
    ∷ pos 0 ∷ pos 0 ∷ pos 0 ∷ pos 0 ∷ [])
    ∷ (pos 0 ∷ pos 9 ∷ pos 0 ∷ minus 120 ∷ pos 0 ∷ pos 432 ∷ pos 0 ∷ minus 576 ∷ pos 0 ∷ pos 256 ∷ pos 0
    ∷ pos 0 ∷ pos 0 ∷ pos 0 ∷ pos 0 ∷ pos 0 ∷ [])
    ∷ (minus 1 ∷ pos 0 ∷ pos 50 ∷ pos 0 ∷ minus 400 ∷ pos 0 ∷ pos 1120 ∷ pos 0 ∷ minus 1280 ∷ pos 0 ∷ pos 512
    ∷ pos 0 ∷ pos 0 ∷ pos 0 ∷ pos 0 ∷ pos 0 ∷ [])
    ∷ (pos 0 ∷ minus 11 ∷ pos 0 ∷ pos 220 ∷ pos 0 ∷ minus 1232 ∷ pos 0 ∷ pos 2816 ∷ pos 0 ∷ minus 2816 ∷ pos 0
    ∷ pos 1024 ∷ pos 0 ∷ pos 0 ∷ pos 0 ∷ pos 0 ∷ [])
    ∷ (pos 1 ∷ pos 0 ∷ minus 72 ∷ pos 0 ∷ pos 840 ∷ pos 0 ∷ minus 3584 ∷ pos 0 ∷ pos 6912 ∷ pos 0 ∷ minus 6144
    ∷ pos 0 ∷ pos 2048 ∷ pos 0 ∷ pos 0 ∷ pos 0 ∷ [])
    ∷ (pos 0 ∷ pos 13 ∷ pos 0 ∷ minus 364 ∷ pos 0 ∷ pos 2912 ∷ pos 0 ∷ minus 9984 ∷ pos 0 ∷ pos 16640 ∷ pos 0
    ∷ minus 13312 ∷ pos 0 ∷ pos 4096 ∷ pos 0 ∷ pos 0 ∷ [])
    ∷ (minus 1 ∷ pos 0 ∷ pos 98 ∷ pos 0 ∷ minus 1568 ∷ pos 0 ∷ pos 9408 ∷ pos 0 ∷ minus 26880 ∷ pos 0
    ∷ pos 39424 ∷ pos 0 ∷ minus 28672 ∷ pos 0 ∷ pos 8192 ∷ pos 0 ∷ [])
    ∷ (pos 0 ∷ minus 15 ∷ pos 0 ∷ pos 560 ∷ pos 0 ∷ minus 6048 ∷ pos 0 ∷ pos 28800 ∷ pos 0 ∷ minus 70400
    ∷ pos 0 ∷ pos 92160 ∷ pos 0 ∷ minus 61440 ∷ pos 0 ∷ pos 16384 ∷ [])
    ∷ []

-- the powers' coefficients are whole numbers over this one
unfoldable pub power_scale : ℕ
power_scale = 2 ^ 14

-- row k: the coefficients of 2^14 x^k, that of T_0 first
unfoldable pub power_table : List Row
power_table =
    (pos 16384 ∷ pos 0 ∷ pos 0 ∷ pos 0 ∷ pos 0 ∷ pos 0 ∷ pos 0 ∷ pos 0 ∷ pos 0 ∷ pos 0 ∷ pos 0 ∷ pos 0
    ∷ pos 0 ∷ pos 0 ∷ pos 0 ∷ pos 0 ∷ [])
    ∷ (pos 0 ∷ pos 16384 ∷ pos 0 ∷ pos 0 ∷ pos 0 ∷ pos 0 ∷ pos 0 ∷ pos 0 ∷ pos 0 ∷ pos 0 ∷ pos 0 ∷ pos 0
    ∷ pos 0 ∷ pos 0 ∷ pos 0 ∷ pos 0 ∷ [])
    ∷ (pos 8192 ∷ pos 0 ∷ pos 8192 ∷ pos 0 ∷ pos 0 ∷ pos 0 ∷ pos 0 ∷ pos 0 ∷ pos 0 ∷ pos 0 ∷ pos 0 ∷ pos 0
    ∷ pos 0 ∷ pos 0 ∷ pos 0 ∷ pos 0 ∷ [])
    ∷ (pos 0 ∷ pos 12288 ∷ pos 0 ∷ pos 4096 ∷ pos 0 ∷ pos 0 ∷ pos 0 ∷ pos 0 ∷ pos 0 ∷ pos 0 ∷ pos 0 ∷ pos 0
    ∷ pos 0 ∷ pos 0 ∷ pos 0 ∷ pos 0 ∷ [])
    ∷ (pos 6144 ∷ pos 0 ∷ pos 8192 ∷ pos 0 ∷ pos 2048 ∷ pos 0 ∷ pos 0 ∷ pos 0 ∷ pos 0 ∷ pos 0 ∷ pos 0 ∷ pos 0
    ∷ pos 0 ∷ pos 0 ∷ pos 0 ∷ pos 0 ∷ [])
    ∷ (pos 0 ∷ pos 10240 ∷ pos 0 ∷ pos 5120 ∷ pos 0 ∷ pos 1024 ∷ pos 0 ∷ pos 0 ∷ pos 0 ∷ pos 0 ∷ pos 0 ∷ pos 0
    ∷ pos 0 ∷ pos 0 ∷ pos 0 ∷ pos 0 ∷ [])
    ∷ (pos 5120 ∷ pos 0 ∷ pos 7680 ∷ pos 0 ∷ pos 3072 ∷ pos 0 ∷ pos 512 ∷ pos 0 ∷ pos 0 ∷ pos 0 ∷ pos 0 ∷ pos 0
    ∷ pos 0 ∷ pos 0 ∷ pos 0 ∷ pos 0 ∷ [])
    ∷ (pos 0 ∷ pos 8960 ∷ pos 0 ∷ pos 5376 ∷ pos 0 ∷ pos 1792 ∷ pos 0 ∷ pos 256 ∷ pos 0 ∷ pos 0 ∷ pos 0 ∷ pos 0
    ∷ pos 0 ∷ pos 0 ∷ pos 0 ∷ pos 0 ∷ [])
    ∷ (pos 4480 ∷ pos 0 ∷ pos 7168 ∷ pos 0 ∷ pos 3584 ∷ pos 0 ∷ pos 1024 ∷ pos 0 ∷ pos 128 ∷ pos 0 ∷ pos 0
    ∷ pos 0 ∷ pos 0 ∷ pos 0 ∷ pos 0 ∷ pos 0 ∷ [])
    ∷ (pos 0 ∷ pos 8064 ∷ pos 0 ∷ pos 5376 ∷ pos 0 ∷ pos 2304 ∷ pos 0 ∷ pos 576 ∷ pos 0 ∷ pos 64 ∷ pos 0
    ∷ pos 0 ∷ pos 0 ∷ pos 0 ∷ pos 0 ∷ pos 0 ∷ [])
    ∷ (pos 4032 ∷ pos 0 ∷ pos 6720 ∷ pos 0 ∷ pos 3840 ∷ pos 0 ∷ pos 1440 ∷ pos 0 ∷ pos 320 ∷ pos 0 ∷ pos 32
    ∷ pos 0 ∷ pos 0 ∷ pos 0 ∷ pos 0 ∷ pos 0 ∷ [])
    ∷ (pos 0 ∷ pos 7392 ∷ pos 0 ∷ pos 5280 ∷ pos 0 ∷ pos 2640 ∷ pos 0 ∷ pos 880 ∷ pos 0 ∷ pos 176 ∷ pos 0
    ∷ pos 16 ∷ pos 0 ∷ pos 0 ∷ pos 0 ∷ pos 0 ∷ [])
    ∷ (pos 3696 ∷ pos 0 ∷ pos 6336 ∷ pos 0 ∷ pos 3960 ∷ pos 0 ∷ pos 1760 ∷ pos 0 ∷ pos 528 ∷ pos 0 ∷ pos 96
    ∷ pos 0 ∷ pos 8 ∷ pos 0 ∷ pos 0 ∷ pos 0 ∷ [])
    ∷ (pos 0 ∷ pos 6864 ∷ pos 0 ∷ pos 5148 ∷ pos 0 ∷ pos 2860 ∷ pos 0 ∷ pos 1144 ∷ pos 0 ∷ pos 312 ∷ pos 0
    ∷ pos 52 ∷ pos 0 ∷ pos 4 ∷ pos 0 ∷ pos 0 ∷ [])
    ∷ (pos 3432 ∷ pos 0 ∷ pos 6006 ∷ pos 0 ∷ pos 4004 ∷ pos 0 ∷ pos 2002 ∷ pos 0 ∷ pos 728 ∷ pos 0 ∷ pos 182
    ∷ pos 0 ∷ pos 28 ∷ pos 0 ∷ pos 2 ∷ pos 0 ∷ [])
    ∷ (pos 0 ∷ pos 6435 ∷ pos 0 ∷ pos 5005 ∷ pos 0 ∷ pos 3003 ∷ pos 0 ∷ pos 1365 ∷ pos 0 ∷ pos 455 ∷ pos 0
    ∷ pos 105 ∷ pos 0 ∷ pos 15 ∷ pos 0 ∷ pos 1 ∷ [])
    ∷ []
