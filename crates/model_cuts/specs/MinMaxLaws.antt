-- The library's min and max of two integers are the smaller and the larger.
use Rattle.std.specs.Prelude.{◌≡◌, refl, Bool, true, false, not, ◌≤◌, leb, ltb, ℤ, pos, negsuc}
use Rattle.std.specs.Int.{int_min, int_max}
use Rattle.std.specs.Int.Signed.{le_z, lt_z}
use Rattle.std.proofs.Common.{◌∙◌, ap, arith, le-leb}
use Rattle.std.proofs.Math.Bool.{cond}
use Rattle.std.proofs.Math.Decide.{dec_le}
use Rattle.std.proofs.lemmas.Bool.{lt-leb}
use Prim.Native.Nat.{ℕ, suc}
use Rattle.cuts.specs.Cuts.{smaller, larger}

-- the library asks whether the second is less, the definition whether the first is at most
below : (a b : ℕ) → ltb b a ≡ not (leb a b)
below a b = go (dec_le a b)
  where
    go : Dec (a ≤ b) → ltb b a ≡ not (leb a b)
    go (yes h) = rw (le-leb a b h, lt-leb (suc b) a (omega arith))
    go (no h) = rw (lt-leb a b (omega arith), le-leb (suc b) a (omega arith))

less : (a b : ℤ) → lt_z b a ≡ not (le_z a b)
less (pos a) (pos b) = below a b
less (pos a) (negsuc b) = refl
less (negsuc a) (pos b) = refl
less (negsuc a) (negsuc b) = below b a

by_less : (t : Bool) (a b : ℤ) → cond (not t) b a ≡ elim t as (λ t. ℤ) [ true ↦ a | false ↦ b ]
by_less true a b = refl
by_less false a b = refl

pub min_smaller : (a b : ℤ) → int_min a b ≡ smaller a b
unfolding smaller
min_smaller a b = ap (λ t. cond t b a) (less a b) ∙ by_less (le_z a b) a b

by_more : (t : Bool) (a b : ℤ) → cond (not t) a b ≡ elim t as (λ t. ℤ) [ true ↦ b | false ↦ a ]
by_more true a b = refl
by_more false a b = refl

pub max_larger : (a b : ℤ) → int_max a b ≡ larger a b
unfolding larger
max_larger a b = ap (λ t. cond t a b) (less a b) ∙ by_more (le_z a b) a b
