-- Laws of bytes in a borrowed buffer: puts one after another, room for them, and a number by its sign.
use Rattle.std.specs.Prelude.{◌≡◌, refl, List, [], ◌∷◌, ◌++◌, ℕ, ◌+◌, ◌≤◌, ◌<◌, ℤ, pos, negsuc, nat_abs, length, take, set, get_or}
use Rattle.std.proofs.Common.{sym, ◌∙◌, ap, add-one, arith, length-append, take-suc}
use Rattle.std.proofs.lemmas.List.Edits.{sets}
use Rattle.std.proofs.Math.Seq.{length-sets, set_out}
use Rattle.std.specs.Int.Signed.{mag}
use Rattle.format.specs.Lines.{text, decimal, signed_decimal}
use Rattle.format.specs.WriteLoopLaws.{sets_more}
use Rattle.text_decimal.specs.Put.{Put, Room, natural, integer}

-- ---- puts
pub put_nothing : {l : List ℕ} {at : ℕ} → Put l at [] l at
put_nothing = record { stored = refl; counted = omega arith }

pub put_byte : {l : List ℕ} {at b : ℕ} → Put l at (b ∷ []) (set l at b) (at + 1)
put_byte = record { stored = refl; counted = refl }

-- beyond the end only the place moves
pub put_out : {l : List ℕ} {at b : ℕ} → length l ≤ at → Put l at (b ∷ []) l (at + 1)
put_out {l} {at} {b} h = record { stored = sym (set_out l at b h); counted = refl }

infixl 20 ◌then_put◌
-- one after the other
pub ◌then_put◌ : {l m k : List ℕ} {i j r : ℕ} {a b : List ℕ} → Put l i a m j → Put m j b k r → Put l i (a ++ b) k r
◌then_put◌ {l} {m} {k} {i} {j} {r} {a} {b} p q = record {
  stored = q.stored ∙ ap (λ s. sets s j b) p.stored ∙ sets_more a b l i j p.counted;
  counted = omega (arith, p.counted, q.counted, length-append a b);
}

-- the same bytes, said otherwise
pub put_as : {l m : List ℕ} {i j : ℕ} {a b : List ℕ} → a ≡ b → Put l i a m j → Put l i b m j
put_as {l} {m} {i} {j} e p = rw e at p

-- after the first bytes of a list the next one
pub put_next : {l m k : List ℕ} {i j r : ℕ} (s : List ℕ) (n : ℕ) → n < length s → Put l i (take n s) m j
    → Put m j (get_or s n 0 ∷ []) k r → Put l i (take (n + 1) s) k r
put_next s n h p q = rw (add-one, take-suc s n 0) (p then_put q)

-- no put changes the buffer's length
pub put_length : {l m : List ℕ} {i j : ℕ} {a : List ℕ} → Put l i a m j → length m ≡ length l
put_length {l} {i = i} {a = a} p = ap length p.stored ∙ length-sets l i a

-- ---- room for what comes first, and for what comes after it
module _ {at : ℕ} (a b : List ℕ) (r : Room at (a ++ b)) where
  pub room_before : Room at a
  room_before = record { fits = omega (arith, r.fits, length-append a b) }

  pub room_after : {l m : List ℕ} {next : ℕ} → Put l at a m next → Room next b
  room_after p = record { fits = omega (arith, r.fits, length-append a b, p.counted) }

-- ---- a number and its sign
pub integer_negative : (z : ℤ) → z ≡ negsuc (mag z) → integer z ≡ text " -" ++ decimal (nat_abs z)
unfolding integer signed_decimal text
integer_negative (pos n) e = let h : ◌≡◌ {A = ℕ} 0 1 = cc in absurd (omega arith)
integer_negative (negsuc n) e = refl

pub integer_natural : (z : ℤ) → z ≡ pos (mag z) → integer z ≡ natural (nat_abs z)
unfolding integer natural signed_decimal
integer_natural (pos n) e = refl
integer_natural (negsuc n) e = let h : ◌≡◌ {A = ℕ} 0 1 = cc in absurd (omega arith)
