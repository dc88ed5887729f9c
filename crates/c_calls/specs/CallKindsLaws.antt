-- Each known code names the call that its kind has for it.
use Rattle.std.specs.Prelude.{◌≡◌, Bool, true, false, ◌&&◌, ◌||◌, ℕ, ◌≤◌, ◌<◌, eqb, leb, ℤ}
use Rattle.std.proofs.Math.Path.{refl, sym, ap}
use Rattle.std.proofs.Common.{◌∙◌, ap₂, arith, leb-true, leb-false, eqb-true}
use Rattle.std.proofs.lemmas.Bool.{eqb-false}
use Rattle.calculus.specs.Model.{Model}
use Rattle.c_calls.specs.CallCodes.{call_known, model_call}
use Rattle.c_calls.specs.CallKinds.{of_two, of_one, two_call, one_call, other_call}

both : (a b : Bool) → a && b ≡ true → (a ≡ true) × (b ≡ true)
both true b h = (refl, h)
both false b h = let z : ◌≡◌ {A = ℕ} 0 1 = cc in absurd (omega arith)

neither : (a b : Bool) → a || b ≡ false → (a ≡ false) × (b ≡ false)
neither true b h = let z : ◌≡◌ {A = ℕ} 0 1 = cc in absurd (omega arith)
neither false b h = (refl, h)

second : (a b : Bool) → a || b ≡ true → a ≡ false → b ≡ true
second true b h e = let z : ◌≡◌ {A = ℕ} 0 1 = cc in absurd (omega arith)
second false b h e = h

module _ (code d i : ℕ) (v : ℤ) (f g : Model) where
  pub two_codes : of_two code ≡ true → model_call code d i v f g ≡ two_call code d f g
  unfolding of_two model_call two_call
  two_codes h = go (eqb code 4) refl (eqb code 5) refl
    where
      at : {c : ℕ} → code ≡ c → model_call c d i v f g ≡ two_call c d f g
          → model_call code d i v f g ≡ two_call code d f g
      at e p = ap (λ c. model_call c d i v f g) e ∙ p ∙ sym (ap (λ c. two_call c d f g) e)

      last : (code ≡ 4 → ⊥) → (code ≡ 5 → ⊥) → code ≡ 6
      last a b =
          let p = both (leb 4 code) (leb code 6) h in
          let l = leb-true 4 code p.0 in
          let m = leb-true code 6 p.1 in omega arith

      go : (a : Bool) → eqb code 4 ≡ a → (b : Bool) → eqb code 5 ≡ b → model_call code d i v f g ≡ two_call code d f g
      go true p b q = at (eqb-true code 4 p) refl
      go false p true q = at (eqb-true code 5 q) refl
      go false p false q = at (last (eqb-false code 4 p) (eqb-false code 5 q)) refl

  pub one_codes : of_one code ≡ true → model_call code d i v f g ≡ one_call code d i v f
  unfolding of_one model_call one_call
  one_codes h = go (eqb code 3) refl (eqb code 8) refl
    where
      at : {c : ℕ} → code ≡ c → model_call c d i v f g ≡ one_call c d i v f
          → model_call code d i v f g ≡ one_call code d i v f
      at e p = ap (λ c. model_call c d i v f g) e ∙ p ∙ sym (ap (λ c. one_call c d i v f) e)

      go : (a : Bool) → eqb code 3 ≡ a → (b : Bool) → eqb code 8 ≡ b
          → model_call code d i v f g ≡ one_call code d i v f
      go true p b q = at (eqb-true code 3 p) refl
      go false p true q = at (eqb-true code 8 q) refl
      go false p false q = at (eqb-true code 10 (second (eqb code 8) (eqb code 10)
          (second (eqb code 3) (eqb code 8 || eqb code 10) h p) q)) refl

  pub other_codes : call_known code ≡ true → of_two code ≡ false → of_one code ≡ false
      → model_call code d i v f g ≡ other_call code d i v f g
  unfolding call_known of_two of_one model_call other_call
  other_codes k h o = go (eqb code 1) refl (eqb code 2) refl
    where
      at : {c : ℕ} → code ≡ c → model_call c d i v f g ≡ other_call c d i v f g
          → model_call code d i v f g ≡ other_call code d i v f g
      at e p = ap (λ c. model_call c d i v f g) e ∙ p ∙ sym (ap (λ c. other_call c d i v f g) e)

      one : (eqb code 3 ≡ false) × ((eqb code 8 ≡ false) × (eqb code 10 ≡ false))
      one =
          let p = neither (eqb code 3) (eqb code 8 || eqb code 10) o in
          (p.0, neither (eqb code 8) (eqb code 10) p.1)

      within : (1 ≤ code) × (code ≤ 8)
      within =
          let p = both (leb 1 code) (leb code 8) (second (eqb code 10) _ k one.1.1) in
          (leb-true 1 code p.0, leb-true code 8 p.1)

      last : (code ≡ 1 → ⊥) → (code ≡ 2 → ⊥) → code ≡ 7
      last a b = pick (leb 4 code) refl (leb code 6) refl
        where
          three : code ≡ 3 → ⊥
          three = eqb-false code 3 one.0

          eight : code ≡ 8 → ⊥
          eight = eqb-false code 8 one.1.0

          high : 6 < code → code ≤ 8 → (code ≡ 8 → ⊥) → code ≡ 7
          high l m n = omega arith

          pick : (x : Bool) → leb 4 code ≡ x → (y : Bool) → leb code 6 ≡ y → code ≡ 7
          pick false p y q =
              let l = leb-false 4 code p in
              let m = within.0 in
              let n = three in absurd (omega (arith, l, m, n, a, b))
          pick true p true q =
              let s : leb 4 code && leb code 6 ≡ true = ap₂ ◌&&◌ p q in
              let z : ◌≡◌ {A = ℕ} 0 1 = cc in absurd (omega arith)
          pick true p false q = high (leb-false code 6 q) within.1 eight

      go : (a : Bool) → eqb code 1 ≡ a → (b : Bool) → eqb code 2 ≡ b
          → model_call code d i v f g ≡ other_call code d i v f g
      go true p b q = at (eqb-true code 1 p) refl
      go false p true q = at (eqb-true code 2 q) refl
      go false p false q = at (last (eqb-false code 1 p) (eqb-false code 2 q)) refl
