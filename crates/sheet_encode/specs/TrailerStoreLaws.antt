-- The stores of the trailer, one after the other, are its bytes.
use Rattle.std.specs.Prelude.{◌≡◌, List, length, set}
use Prim.Native.Nat.{ℕ, suc, ◌+◌}
use Rattle.std.proofs.Math.Numerals.{add-one}
use native.Mathlib.Omega.{arith}
use Rattle.std.proofs.lemmas.List.Edits.{sets}
use Rattle.format.specs.Bytes.{u16_bytes}
use Rattle.format.specs.HeldBook.{HeldBook}
use Rattle.format.specs.Format.{mark_of, models_bytes, trailer_bytes}

module _ (buffer : List ℕ) (at : ℕ) where
  pub trailer_stores : (h : HeldBook) (m k offset : ℕ) → m ≡ length h.models → k ≡ length h.steps
      → offset ≡ length (models_bytes h)
      → set (set (sets (set (set (set (set buffer at h.n) (at + 1) h.d) (at + 2) m) (at + 3) k) (at + 4)
      (u16_bytes offset)) (at + 6) 0x4D) (at + 7) (mark_of h.n)
      ≡ sets buffer at (trailer_bytes h)
  unfolding trailer_bytes u16_bytes
  trailer_stores h m k offset em ek eo =
      let a₁ = add-one at in
      let a₂ : at + 2 ≡ suc (suc at) = omega arith in
      let a₃ : at + 3 ≡ suc (suc (suc at)) = omega arith in
      let a₄ : at + 4 ≡ suc (suc (suc (suc at))) = omega arith in
      let a₆ : at + 6 ≡ suc (suc (suc (suc (suc (suc at))))) = omega arith in
      let a₇ : at + 7 ≡ suc (suc (suc (suc (suc (suc (suc at)))))) = omega arith in
      rw (a₁, a₂, a₃, a₄, a₆, a₇, em, ek, eo)
