-- The test z == 0 as the code makes it, by the bits of z.
use Rattle.std.specs.Prelude.{true, false, not, ◌≡◌, refl, zero, suc, ℤ, pos, negsuc}
use Rattle.std.proofs.Common.{ap, arith, SFits, of_z}
use Rattle.std.proofs.Math.Dec.{eqb-suc-zero}
use Rattle.std.specs.Int.{w64}
use Rattle.calculus.specs.Terms.{is_nonzero}

pub zero_bits : {z : ℤ} → SFits w64 z → of_z w64 z ≡ 0 → is_nonzero z ≡ false
unfolding is_nonzero
zero_bits {z = pos zero} f e = refl
zero_bits {z = pos (suc n)} f e = absurd (omega arith)
zero_bits {z = negsuc n} f e = let h = f.sfits in absurd (omega arith)

pub nonzero_bits : (z : ℤ) → (of_z w64 z ≡ 0 → ⊥) → is_nonzero z ≡ true
unfolding is_nonzero
nonzero_bits (pos zero) e = absurd (e refl)
nonzero_bits (pos (suc n)) e = ap not (eqb-suc-zero n)
nonzero_bits (negsuc n) e = ap not (eqb-suc-zero n)
