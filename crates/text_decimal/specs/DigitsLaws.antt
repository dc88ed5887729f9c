-- The loop that spells a number from its last digit: what is spelled and what is left make up its decimal.
use Rattle.std.specs.Prelude.{◌≡◌, refl, List, [], ◌∷◌, ◌++◌, ℕ, zero, suc, ◌+◌, ◌-◌, ◌/◌, ◌%◌, ◌^◌, ◌≤◌, ◌<◌, length, take, drop, set}
use Rattle.std.proofs.Common.{sym, ◌∙◌, ap, append_assoc, append-nil, lit<, arith, length-set, length-drop, drop_of_length-le, take_all}
use Rattle.std.proofs.Math.Nat as NatL
use Rattle.format.specs.Lines.{decimal}
use Rattle.format.specs.LinesLaws.{decimal_digit, decimal_more}

-- a store at the place from which is read
drop_set : (l : List ℕ) (i x : ℕ) → i < length l → drop i (set l i x) ≡ x ∷ drop (suc i) l
drop_set [] i x h = absurd (omega arith)
drop_set (y ∷ l) zero x h = refl
drop_set (y ∷ l) (suc i) x h = drop_set l i x (omega arith)

-- one digit less to the left of a place
tenth : (f r : ℕ) → r < 10 ^ suc f → r / 10 < 10 ^ f
tenth f r h = (NatL.div-lt_iff_lt-mul (lit< tt)).1 (rw NatL.pow-suc at h)

-- the digits of x from a place on, and a rest that has room before it
pub record Spelled (x : ℕ) (digits : List ℕ) (first rest : ℕ) : Type 0 where
  pub places : length digits ≡ 20
  pub some : 1 ≤ first
  pub within : first ≤ 20
  pub room : rest < 10 ^ first
  pub spelled : decimal x ≡ decimal rest ++ drop first digits

pub spelled_none : (x : ℕ) (digits : List ℕ) → x < 2 ^ 64 → length digits ≡ 20 → Spelled x digits 20 x
spelled_none x digits h e = record {
  places = e;
  some = omega arith;
  within = omega arith;
  room = omega arith;
  spelled = sym (append-nil (decimal x))
      ∙ ap (λ l. decimal x ++ l) (sym (drop_of_length-le digits {i = 20} (omega arith)));
}

module _ {x : ℕ} {digits : List ℕ} {first rest : ℕ} (s : Spelled x digits first rest) where
  spelled_place : (f : ℕ) → first ≡ suc f → (d : ℕ) → drop f (set digits f d) ≡ d ∷ drop first digits
  spelled_place f e d = drop_set digits f d (omega (arith, s.places, s.within))
      ∙ ap (λ i. d ∷ drop i digits) (sym e)

  -- a rest of two digits or more leaves room for another
  pub spelled_room : 10 ≤ rest → 2 ≤ first
  spelled_room h = go first s.room s.some
    where
      go : (f : ℕ) → rest < 10 ^ f → 1 ≤ f → 2 ≤ f
      go zero r o = absurd (omega arith)
      go (suc zero) r o = absurd (omega arith)
      go (suc (suc f)) r o = omega arith

  pub spelled_more : 10 ≤ rest → (d : ℕ) → d ≡ 48 + rest % 10
      → Spelled x (set digits (first - 1) d) (first - 1) (rest / 10)
  spelled_more h d v =
      let e : first ≡ suc (first - 1) = omega (arith, s.some) in
      record {
        places = length-set digits _ _ ∙ s.places;
        some = omega (arith, spelled_room h);
        within = omega (arith, s.within);
        room = tenth (first - 1) rest (rw (← e) s.room);
        spelled = s.spelled ∙ ap (λ l. l ++ drop first digits) (decimal_more rest h)
            ∙ append_assoc (decimal (rest / 10)) _ (drop first digits)
            ∙ ap (λ i. decimal (rest / 10) ++ (i ∷ drop first digits)) (sym v)
            ∙ ap (λ l. decimal (rest / 10) ++ l) (sym (spelled_place (first - 1) e d));
      }

  -- the last one: what is spelled then is the number
  pub spelled_all : rest < 10 → (d : ℕ) → d ≡ 48 + rest
      → take (20 - (first - 1)) (drop (first - 1) (set digits (first - 1) d)) ≡ decimal x
  spelled_all h d v =
      let e : first ≡ suc (first - 1) = omega (arith, s.some) in
      take_all (20 - (first - 1)) (drop (first - 1) (set digits (first - 1) d))
      (simp (length-drop, length-set) (omega (arith, s.places)))
      ∙ spelled_place (first - 1) e d ∙ ap (λ i. i ∷ drop first digits) v
      ∙ ap (λ l. l ++ drop first digits) (sym (decimal_digit rest h)) ∙ sym s.spelled
