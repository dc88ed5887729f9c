-- The stores of one record, one after the other, are the bytes of the record.
use Rattle.std.specs.Prelude.{◌≡◌, List, map, length, set}
use Prim.Native.Nat.{ℕ, suc, ◌+◌}
use Rattle.std.proofs.Math.Numerals.{add-one}
use native.Mathlib.Omega.{arith}
use Rattle.std.proofs.lemmas.List.Edits.{sets}
use Rattle.format.specs.Bytes.{join, u32_bytes, bits}
use Rattle.format.specs.HeldBook.{HeldTerm, HeldModel, HeldStep}
use Rattle.format.specs.Format.{key_length, key_bytes, term_bytes, model_bytes, step_bytes}
use Rattle.format.proofs.KeyBytesLaws.{length_key}
use Rattle.format.specs.WriteLoopLaws.{sets_more}

module _ (buffer : List ℕ) (at : ℕ) where
  pub term_stores : (n : ℕ) (t : HeldTerm) (j : ℕ) → j ≡ at + key_length n
      → sets (sets buffer at (key_bytes n t.key)) j (u32_bytes (bits t.coefficient))
      ≡ sets buffer at (term_bytes n t)
  unfolding term_bytes
  term_stores n t j e = sets_more (key_bytes n t.key) (u32_bytes (bits t.coefficient)) buffer at j
      (omega (arith, e, length_key n t.key))

  pub model_stores : (m : HeldModel) (c : ℕ) → c ≡ length m.terms
      → sets (set (sets buffer at (u32_bytes m.radius)) (at + 4) c) (at
      + 5) (join (map (term_bytes m.n) m.terms))
      ≡ sets buffer at (model_bytes m)
  unfolding model_bytes u32_bytes
  model_stores m c e =
      let a₄ : at + 4 ≡ suc (suc (suc (suc at))) = omega arith in
      let a₅ : at + 5 ≡ suc (suc (suc (suc (suc at)))) = omega arith in
      rw (a₄, a₅, e)

  pub step_stores : (s : HeldStep)
      → sets (set (set (set (set buffer at s.code) (at + 1) s.a) (at + 2) s.b) (at + 3) s.v) (at + 4)
      (u32_bytes (bits s.value))
      ≡ sets buffer at (step_bytes s)
  unfolding step_bytes
  step_stores s =
      let a₁ = add-one at in
      let a₂ : at + 2 ≡ suc (suc at) = omega arith in
      let a₃ : at + 3 ≡ suc (suc (suc at)) = omega arith in
      let a₄ : at + 4 ≡ suc (suc (suc (suc at))) = omega arith in
      rw (a₁, a₂, a₃, a₄)
