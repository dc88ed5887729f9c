-- Which term of two lists comes next.
use Rattle.std.specs.Prelude.{◌≡◌, ℕ, ◌+◌, ◌^◌, ◌≤◌, ◌<◌, nat_abs, ◌+ℤ◌}
use Rattle.model_types.specs.declared.Term.{Term}
use Rattle.model_addition.specs.declared.Next.{Next}

-- two lists of c and d terms, with x at place i of the first and y at place j of the second
module _ (i c : ℕ) (x : Term) (j d : ℕ) (y : Term) where
  -- one of them has a term left, and the sum of two coefficients fits 64 bits
  pub record Ready : Type 0 where
    pub left : i + j < c + d
    pub second : j ≤ d
    pub fits : i < c → j < d → nat_abs x.coefficient + nat_abs y.coefficient < 2 ^ 63

  -- both as one term
  abbrev pub joint : Term
  joint = record { key = x.key; coefficient = x.coefficient +ℤ y.coefficient }

  -- the smaller key comes next; equal keys come together, with their coefficients added
  pub data Takes : Next → Type 0 where
    from_first : i < c → (j < d → x.key < y.key) → Takes (record { term = x; i = i + 1; j = j })
    from_second : j < d → (i < c → y.key < x.key) → Takes (record { term = y; i = i; j = j + 1 })
    from_both : i < c → j < d → x.key ≡ y.key → Takes (record { term = joint; i = i + 1; j = j + 1 })
