-- Chains of places: they are built from the last key down, and a walk along one of them meets every term of its power.
use Rattle.std.specs.Prelude.{◌≡◌, refl, List, ℕ, zero, suc, ◌+◌, ◌-◌, ◌*◌, ◌^◌, ◌/◌, ◌≤◌, ◌<◌, ℤ, length, get_or, set, replicate}
use Rattle.std.proofs.Common.{sym, ◌∙◌, ap, subst, arith, lit<, length-set, get_or-set_same, get_or-set_other}
use Rattle.std.proofs.Math.Decide.{ℕ_discrete}
use Rattle.std.proofs.Math.Nat as NatL
use Rattle.std.proofs.lemmas.List.{length-replicate, get_or-replicate}
use Rattle.calculus.specs.Key.{key_width, key_limit}
use Rattle.model_keys.specs.Keys.{key_exponent, Slot}
use Rattle.model_keys.specs.KeyShiftLaws.{exponent_shifted}
use Rattle.model_types.specs.declared.Model.{Model}
use Rattle.model_types.specs.ModelStruct.{pad}
use Rattle.model_slices.specs.HandedModels.{terms_of}
use Rattle.model_slices.specs.HeldModels.{held}
use Rattle.model_powers.specs.Powers.{PartOf, exponents, Next, Chained}
use Rattle.model_powers.specs.PowersLaws.{Taken}
use Rattle.model_powers.specs.PowerPassLaws.{part_out}

-- an exponent is one digit of a key
pub exponent_digit : (i : ℕ) → Slot i → (z : ℕ) → z < key_limit → key_exponent i z < exponents
exponent_digit i s z h = subst (λ e. e < 16) (exponent_shifted i s _ refl z h)
    (NatL.mod-lt (z / 2 ^ (4 * (key_width - i))) (lit< tt))

-- the chains of the keys from j on
pub record Chaining (i count : ℕ) (ks first next : List ℕ) (j : ℕ) : Type 0 where
  pub within : j ≤ count
  pub first_long : length first ≡ exponents
  pub next_long : length next ≡ 64
  pub starts : (k : ℕ) → k < exponents → Next i count ks k j (get_or first k 0)
  pub goes_on : (x : ℕ) → j ≤ x → x < count
      → Next i count ks (key_exponent i (get_or ks x 0)) (x + 1) (get_or next x 0)

module _ {i count : ℕ} {ks : List ℕ} where
  -- ---- the next place
  -- no key is left
  next_none : (k : ℕ) → Next i count ks k count count
  next_none k = record {
    above = omega arith;
    within = omega arith;
    between = λ x a b e. absurd (omega (arith, a, b));
    here = λ h. absurd (omega (arith, h));
  }

  -- one key more, of this exponent
  next_here : {k j : ℕ} → j < count → key_exponent i (get_or ks j 0) ≡ k → Next i count ks k j j
  next_here h e = record {
    above = omega arith;
    within = omega (arith, h);
    between = λ x a b q. absurd (omega (arith, a, b));
    here = λ l. e;
  }

  -- or of another one
  next_beyond : {k j p : ℕ} → Next i count ks k (j + 1) p → (key_exponent i (get_or ks j 0) ≡ k → ⊥)
      → Next i count ks k j p
  next_beyond {k} {j} n o = record {
    above = omega (arith, n.above);
    within = n.within;
    between = λ x a b e. elim (ℕ_discrete x j) [
      | yes q ↦ o (subst (λ y. key_exponent i (get_or ks y 0) ≡ k) q e)
      | no q ↦ n.between x (omega (arith, a, q)) b e
    ];
    here = n.here;
  }

  -- ---- the chains of the keys from j on
  pub chaining_first : Chaining i count ks (replicate 16 count) (replicate 64 0) count
  chaining_first = record {
    within = omega arith;
    first_long = length-replicate 16 count;
    next_long = length-replicate {A = ℕ} 64 0;
    starts = λ k h. subst (Next i count ks k count) (sym (get_or-replicate 16 k count 0 h)) (next_none k);
    goes_on = λ x a b. absurd (omega (arith, a, b));
  }

  module _ {first next : List ℕ} {j : ℕ} (c : Chaining i count ks first next j) (h : 0 < j) (few : count ≤ 64) {e a : ℕ}
      (low : e < exponents) (is : e ≡ key_exponent i (get_or ks (j - 1) 0)) (after : a ≡ get_or first e 0) where
    here_again : (j - 1) + 1 ≡ j
    here_again = omega (arith, h)

    pub chaining_iteration : Chaining i count ks (set first e (j - 1)) (set next (j - 1) a) (j - 1)
    chaining_iteration = record {
      within = omega (arith, c.within);
      first_long = length-set first e (j - 1) ∙ c.first_long;
      next_long = length-set next (j - 1) a ∙ c.next_long;
      starts = λ k l. elim (ℕ_discrete k e) [
        | yes q ↦ subst (Next i count ks k (j - 1))
            (sym (ap (λ k. get_or (set first e (j - 1)) k 0) q
            ∙ get_or-set_same first e (j - 1) 0 (omega (arith, low, c.first_long))))
            (next_here (omega (arith, h, c.within)) (sym is ∙ sym q))
        | no q ↦ subst (Next i count ks k (j - 1)) (sym (get_or-set_other first e k (j - 1) 0 q))
            (next_beyond (subst (λ j. Next i count ks k j (get_or first k 0)) (sym here_again) (c.starts k l))
            (λ o. q (sym (is ∙ o))))
      ];
      goes_on = λ x b l. elim (ℕ_discrete x (j - 1)) [
        | yes q ↦ subst (λ x. Next i count ks (key_exponent i (get_or ks x 0)) (x + 1)
            (get_or (set next (j - 1) a) x 0))
            (sym q)
            (subst (Next i count ks (key_exponent i (get_or ks (j - 1) 0)) (j - 1 + 1))
            (sym (get_or-set_same next (j - 1) a 0 (omega (arith, h, few, c.within, c.next_long)) ∙ after))
            (subst (λ k. Next i count ks k (j - 1 + 1) (get_or first e 0)) is
            (subst (λ j. Next i count ks e j (get_or first e 0)) (sym here_again) (c.starts e low))))
        | no q ↦ subst (Next i count ks (key_exponent i (get_or ks x 0)) (x + 1))
            (sym (get_or-set_other next (j - 1) x a 0 q)) (c.goes_on x (omega (arith, b, q)) l)
      ];
    }

  pub chaining_end : {first next : List ℕ} {j largest : ℕ} → Chaining i count ks first next j → j ≤ 0
      → largest < exponents → Chained i count ks (record { largest = largest; first = first; next = next })
  chaining_end {first} {next} {j} c h b = record {
    low = b;
    starts = λ k l. subst (λ j. Next i count ks k j (get_or first k 0)) zero_now (c.starts k l);
    goes_on = λ x l. c.goes_on x (omega (arith, h)) l;
  }
    where
      zero_now : j ≡ 0
      zero_now = omega (arith, h)

-- ---- a walk along a chain
module _ {i total : ℕ} {ks : List ℕ} {cs : List ℤ} (w : PartOf i total ks cs) where
  abbrev parted : Model
  parted = held w.vars total w.radius ks cs

  module _ (k : ℕ) (ks₂ : List ℕ) (cs₂ : List ℤ) (count : ℕ) where
    -- the terms so far
    abbrev SoFar : ℕ → Type 0
    SoFar j = Taken i parted k (pad (terms_of count ks₂ cs₂)) count j

    -- places without a term of this power are passed over
    passed_over : {j : ℕ} → SoFar j → (m : ℕ) → j + m ≤ total
        → ((x : ℕ) → j ≤ x → x < j + m → key_exponent i (get_or ks x 0) ≡ k → ⊥) → SoFar (j + m)
    passed_over {j} l zero h o = subst SoFar (omega arith) l
    passed_over {j} l (suc m) h o = subst SoFar {x = j + m + 1} (omega arith)
        (part_out w ks₂ cs₂ (passed_over l m (omega (arith, h)) (λ x a b. o x a (omega (arith, b)))) (omega (arith, h))
        (o (j + m) (omega arith) (omega arith)))

    pub walked : {j p : ℕ} → SoFar j → Next i total ks k j p → SoFar p
    walked {j} {p} l n = subst SoFar {x = j + (p - j)} (omega (arith, n.above))
        (passed_over l (p - j) (omega (arith, n.above, n.within))
        (λ x a b. n.between x a (omega (arith, b, n.above))))
