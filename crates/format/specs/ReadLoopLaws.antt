-- Reading by loops that walk forward: numbers at a place, terms and steps by their numbers, tests that fail.
use Rattle.std.specs.Prelude.{◌≡◌, refl, Bool, true, false, ◌&&◌, List, ℕ, zero, suc, ◌+◌, ◌*◌, ◌≤◌, ◌<◌, get_or, drop}
use Rattle.std.proofs.Common.{sym, ◌∙◌, ap, arith, get_or-drop}
use Rattle.std.proofs.Math.Nat as NatL
use Rattle.calculus.specs.Refusal.{Refusal, Result, stopped, require_at}
use Rattle.format.specs.Bytes.{byte, u32}
use Rattle.format.specs.HeldBook.{HeldTerm, HeldStep}
use Rattle.format.specs.Format.{head_length, term_length, step_length}
use Rattle.format.specs.Format.{read_term, read_terms, model_length}
use Rattle.format.specs.Format.{read_step, read_steps}
use Rattle.format.specs.BytesLaws.{drop_more}

-- ---- numbers at a place
pub byte_at : (at i : ℕ) (s : List ℕ) → byte i (drop at s) ≡ byte (at + i) s
byte_at at i s = get_or-drop at s i 0

pub u32_at : (at : ℕ) (s : List ℕ) → u32 (drop at s)
    ≡ byte (at + 0) s + 256 * (byte (at + 1) s + 256 * (byte (at + 2) s + 256 * byte (at + 3) s))
unfolding u32
u32_at at s = rw (byte_at at 0 s, byte_at at 1 s, byte_at at 2 s, byte_at at 3 s)

-- ---- the terms and steps, by their numbers
pub read_term_at : (n c i : ℕ) (s : List ℕ) (t : HeldTerm) → i < c
    → get_or (read_terms n c s) i t ≡ read_term n (drop (term_length n * i) s)
unfolding read_terms
read_term_at n zero i s t h = absurd (omega arith)
read_term_at n (suc c) zero s t h = ap (λ i. read_term n (drop i s)) (sym (NatL.mul-zero (term_length n)))
read_term_at n (suc c) (suc i) s t h = read_term_at n c i (drop (term_length n) s) t (omega arith)
    ∙ ap (read_term n) (drop_more (term_length n) i s)

pub read_step_at : (c i : ℕ) (s : List ℕ) (t : HeldStep) → i < c
    → get_or (read_steps c s) i t ≡ read_step (drop (step_length * i) s)
unfolding read_steps
read_step_at zero i s t h = absurd (omega arith)
read_step_at (suc c) zero s t h = refl
read_step_at (suc c) (suc i) s t h = read_step_at c i (drop step_length s) t (omega arith)
    ∙ ap read_step (drop_more step_length i s)

-- ---- the loop over models, which are read up to the first step
pub model_at_least : (n : ℕ) (s : List ℕ) → head_length ≤ model_length n s
unfolding model_length
model_at_least n s = omega arith

-- a test that fails
pub refused : {A : Type 0} (i : ℕ) (t : Bool) (r : Refusal) (a : Result A) → t ≡ false
    → require_at i t r a ≡ stopped r i
unfolding require_at
refused i true r a e = let z : ◌≡◌ {A = ℕ} 0 1 = cc in absurd (omega arith)
refused i false r a e = refl

pub and_false : (a b : Bool) → b ≡ false → (a && b) ≡ false
and_false true b e = e
and_false false b e = refl
