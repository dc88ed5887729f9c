-- The pass over the terms: one iteration keeps or drops a term, and adds to the radius.
use Rattle.std.specs.Prelude.{◌≡◌, Bool, true, false, not, List, [], ◌∷◌, ◌++◌, map, ℕ, ◌+◌, ◌%◌, ◌^◌, ◌≤◌, ◌<◌, eqb, ltb, ℤ, pos, length, get_or, set}
use Rattle.std.proofs.Math.Path.{refl, ap, ap₂, subst}
use Rattle.std.proofs.Common.{sym, ◌∙◌, le-leb, lt-ltb, le-ltb, ltb→lt, length-append}
use native.Mathlib.Omega.{arith}
use Rattle.std.proofs.Math.Decide.{dec_le}
use Rattle.std.proofs.lemmas.Bool.{lt-leb}
use Rattle.std.proofs.Math.Dec.{T, leb}
use Rattle.std.proofs.Math.IntN.{nat_abs}
use Rattle.std.proofs.Math.ListN.{length-map}
use Rattle.polynomial.specs.Polynomial as P
use Rattle.polynomial.proofs.VariableAntiderivativeLaws.{exponent_raise}
use Rattle.numbers.proofs.FixedLaws.{span_fits}
use Rattle.numbers.specs.Division.{divided_up, nearest}
use Rattle.calculus.specs.Monomial.{degree, index_of}
use Rattle.calculus_laws.specs.MonomialLaws.{index_suc, degree_raise, raise_replace, exponent_degree}
use Rattle.calculus_laws.specs.MonomialKeyLaws.{monomial_length, monomial_degree}
use Rattle.calculus.specs.Key.{key_width, key, key_fits, key_degree}
use Rattle.calculus.specs.Terms.{Terms, select, sum_over, sum_ℕ, size, is_nonzero, drop_zeros}
use Rattle.calculus_laws.specs.TermsLaws.{length_select}
use Rattle.calculus_laws.specs.SumLaws.{ℕ_addition, if_so, if_ℕ, if_ℤ, sum_mono}
use Rattle.calculus.specs.Model.{most_degree, most_terms, sound, span}
use Rattle.calculus.specs.Operations.{is_inexact, antiderivative}
use Rattle.calculus_laws.specs.GrowthLaws.{up, new_exponent, stays, rounding_of, growth_of, growth_of_le, growth_sum}
use Rattle.calculus_laws.specs.GrowthLaws.{new_coefficient, new_term, antiderivative_terms}
use Rattle.model_types.specs.declared.Term.{Term}
use Rattle.model_types.specs.declared.Model.{Model}
use Rattle.model_types.specs.ModelStruct.{zero_term, view_term, view, pack_term, pad, pack, paired, listed}
use Rattle.model_types.specs.ModelStruct.{of_terms}
use Rattle.model_types.specs.ModelStructLaws.{read, term_at, length_read, view_terms, map_more, sum_more}
use Rattle.model_types.specs.ModelStructLaws.{select_in, select_out, packed_more, within_span, read_within_span}
use Rattle.model_types.specs.ModelStructLaws.{Limits, limits, key_fits_at}
use Rattle.model_slices.specs.HeldModels.{held, Room}
use Rattle.model_slices.specs.HeldModelsLaws.{pair, own_view}
use Rattle.model_places.specs.SlicePlaces.{Places}
use Rattle.model_places.specs.SlicePlacesLaws.{room_places, places_long, places_at}
use Rattle.model_places.specs.LeftModels.{Zeros}
use Rattle.model_places.specs.LeftModelsLaws.{zeros_listed}
use Rattle.model_keys.specs.Keys.{Slot, key_exponent, Raisable, key_raised}
use Rattle.model_keys.specs.KeyExponentLaws.{monomial_exponent, monomial_raised}
use Rattle.model_antiderivative.specs.Antiderivatives.{key_stays, key_coefficient, key_rounding, key_growth}
use Rattle.model_antiderivative.specs.Antiderivatives.{Integrand, IntegrandIn}

-- one more is at most d where the number is below it
next_le : (a d : ℕ) → leb (a + 1) d ≡ ltb a d
next_le a d = go (dec_le (a + 1) d)
  where
    go : Dec (a + 1 ≤ d) → leb (a + 1) d ≡ ltb a d
    go (yes l) = le-leb (a + 1) d l ∙ sym (lt-ltb a d (omega arith))
    go (no l) = lt-leb (a + 1) d (omega arith) ∙ sym (le-ltb a d (omega arith))

-- a coefficient that is not 0 is that of a term that stays
pub nonzero_stays : (d i z : ℕ) (c : ℤ) → T (is_nonzero (key_coefficient d i z c)) → key_stays d z ≡ true
unfolding key_coefficient if_so is_nonzero
nonzero_stays d i z c = go (key_stays d z)
  where
    go : (b : Bool) → T (is_nonzero (if_ℤ b (nearest c (key_exponent i z + 1)))) → b ≡ true
    go true h = refl
    go false h = absurd h

below : (d z : ℕ) → key_stays d z ≡ true → key_degree z < d
unfolding key_stays
below d z e = ltb→lt (key_degree z) d (subst T (sym e) tt)

-- a term that stays adds by rounding only
pub growth_stays : (d i z : ℕ) (c : ℤ) → key_stays d z ≡ true → key_growth d i z c ≡ key_rounding d i z c
unfolding key_growth if_so
growth_stays d i z c e = rw e (omega arith)

-- ---- a model in memory
module _ (f : Model) where
  -- the terms before j, and the term at j
  abbrev pub before : ℕ → Terms
  before j = read f.n j (listed f)

  abbrev pub at : ℕ → Term
  at j = get_or (listed f) j zero_term

  abbrev next : ℕ → P.Term ℤ
  next j = term_at f.n j (listed f)

module _ (d i : ℕ) (f : Model) where
  -- what becomes of the terms before j
  abbrev turned : ℕ → Terms
  turned j = map (new_term d i) (before f j)

  -- what is there after j terms
  pub record Gathered (out : List Term) (count radius j : ℕ) : Type 0 where
    pub within : j ≤ f.count
    pub stored : out ≡ pad (map pack_term (drop_zeros (turned j)))
    pub counted : count ≡ length (drop_zeros (turned j))
    pub grown : radius ≡ f.radius + sum_ℕ (growth_of d i) (before f j)

-- ---- one term, by its key
module _ {d i : ℕ} {f : Model} (s : Integrand d i f) (w : f.count ≤ length (listed f)) where
  pub known : Limits f
  known = limits d f s.model

  pub slot : Slot i
  slot = record { first = s.first; last = omega (arith, s.last, known.width) }

  module _ (j : ℕ) (h : j < f.count) where
    fits_at : T (key_fits key_width f.n (at f j).key)
    fits_at = key_fits_at d f j s.order s.model w h

    exponent_at : new_exponent d i (next f j).exponents ≡ key_exponent i (at f j).key + 1
    unfolding view_term
    exponent_at = exponent_raise (index_of i) _
        ∙ omega (arith, monomial_exponent f.n i (at f j).key known.width s.first s.last fits_at)

    degree_at : degree (up d i (next f j).exponents) ≡ key_degree (at f j).key + 1
    unfolding view_term
    degree_at = degree_raise (index_of i) _
        ∙ omega (arith, monomial_degree f.n (at f j).key known.width fits_at)

    stays_at : stays d i (next f j).exponents ≡ key_stays d (at f j).key
    unfolding key_stays
    stays_at = ap (λ z. leb z d) degree_at ∙ next_le (key_degree (at f j).key) d

    pub coefficient_at : new_coefficient d i (next f j).exponents (next f j).coefficient
        ≡ key_coefficient d i (at f j).key (at f j).coefficient
    unfolding key_coefficient view_term
    coefficient_at = ap₂ (λ b k. if_ℤ b (nearest (at f j).coefficient k)) stays_at exponent_at

    growth_at : growth_of d i (next f j).exponents (next f j).coefficient
        ≡ key_growth d i (at f j).key (at f j).coefficient
    unfolding key_growth key_rounding view_term is_inexact
    growth_at = ap₂ (λ b k. if_ℕ b (if_ℕ (not (eqb (nat_abs (at f j).coefficient % k) 0)) 1)
        + if_ℕ (not b) (divided_up (nat_abs (at f j).coefficient) k)) stays_at exponent_at

    pub rounding_at : rounding_of d i (next f j).exponents (next f j).coefficient
        ≡ key_rounding d i (at f j).key (at f j).coefficient
    unfolding key_rounding view_term is_inexact
    rounding_at = ap₂ (λ b k. if_ℕ b (if_ℕ (not (eqb (nat_abs (at f j).coefficient % k) 0)) 1)) stays_at exponent_at

    -- what stays has room in its key
    pub raisable : key_stays d (at f j).key ≡ true → Raisable i (at f j).key
    unfolding most_degree
    raisable e = record {
      slot = slot;
      room = omega (
        arith,
        small,
        s.order,
        exponent_at,
        degree_at,
        exponent_degree (index_of i) (up d i (next f j).exponents),
      );
    }
      where
        small : key_degree (at f j).key + 1 ≤ d
        small = omega (arith, below d (at f j).key e)

    -- the term as it is stored
    pub term_packed : (t : Term) → t.key ≡ key_raised i (at f j).key
        → t.coefficient ≡ key_coefficient d i (at f j).key (at f j).coefficient
        → t ≡ pack_term (new_term d i (next f j))
    term_packed t a b = ap₂ (λ (z : ℕ) (c : ℤ). record { key = z; coefficient = c }) (a ∙ sym raised_key)
        (b ∙ sym coefficient_at) ∙ unpacked
      where
        raised_key : key key_width (up d i (next f j).exponents) ≡ key_raised i (at f j).key
        raised_key = unfold view_term in (ap (key key_width) (raise_replace (index_of i) _
            (omega (
              arith,
              s.last,
              index_suc i s.first,
              monomial_length f.n (at f j).key known.width fits_at,
            )))
            ∙ monomial_raised f.n i (at f j).key known.width s.first s.last fits_at)

        unpacked : record {
          key = key key_width (up d i (next f j).exponents);
          coefficient = new_coefficient d i (next f j).exponents (next f j).coefficient;
        } ≡ pack_term (new_term d i (next f j))
        unpacked = unfold pack_term in refl

  gathered_first : Gathered d i f (pad []) 0 f.radius 0
  unfolding drop_zeros select sum_over
  gathered_first = record { within = omega arith; stored = refl; counted = refl; grown = omega arith }

  -- in arrays of zeros
  pub gathered_zeros : {ks : List ℕ} {cs : List ℤ} → Zeros ks cs → Gathered d i f (paired ks cs) 0 f.radius 0
  gathered_zeros z = subst (λ l. Gathered d i f l 0 f.radius 0) (sym (zeros_listed z)) gathered_first

  module _ {out : List Term} {count radius j : ℕ} (g : Gathered d i f out count radius j) where
    -- there is room
    pub gathered_room : count ≤ j
    unfolding drop_zeros
    gathered_room = omega (
      arith,
      g.counted,
      length_select (λ k c. is_nonzero c) (turned d i f j),
      length-map (before f j) (new_term d i),
      length_read f.n j (listed f) (omega (arith, g.within)),
    )

    pub gathered_end : f.count ≤ j
        → of_terms f.n count radius out ≡ pack (antiderivative d i (view f))
    gathered_end l =
        ap₂ (λ (c : ℕ) (o : List Term). of_terms f.n c radius o)
        (g.counted ∙ ap length (sym same)) (g.stored ∙ ap (λ p. pad (map pack_term p)) (sym same))
        ∙ packed radius_is
      where
        e : j ≡ f.count
        e = omega (arith, g.within)

        all : (view f).terms ≡ before f j
        all = view_terms f w ∙ ap (before f) (sym e)

        same : (antiderivative d i (view f)).terms ≡ drop_zeros (turned d i f j)
        same = antiderivative_terms d i (view f) ∙ ap (λ p. drop_zeros (map (new_term d i) p)) all

        radius_is : radius ≡ (antiderivative d i (view f)).radius
        radius_is = unfold antiderivative view in omega (
          arith,
          g.grown,
          growth_sum d i (view f),
          ap (sum_ℕ (growth_of d i)) all,
        )

        -- the antiderivative, with the radius r
        whole : ℕ → Model
        whole r = of_terms f.n (length (antiderivative d i (view f)).terms) r
            (pad (map pack_term (antiderivative d i (view f)).terms))

        packed : {r : ℕ} → r ≡ (antiderivative d i (view f)).radius → whole r ≡ pack (antiderivative d i (view f))
        packed q = ap whole q ∙ (unfold pack antiderivative view in refl)

    module _ (h : j < f.count) where
      -- the radius stays within the span
      pub gathered_within : radius + key_growth d i (at f j).key (at f j).coefficient ≤ span (view f)
      unfolding size
      gathered_within = omega (
        arith,
        g.grown,
        growth_at j h,
        sum_more f.n j (listed f) (omega arith) ℕ_addition (growth_of d i),
        sum_mono (growth_of d i) (λ k c. nat_abs c) (growth_of_le d i) (before f (j + 1)),
        read_within_span f (j + 1) w (omega arith),
      )

      more_grown : {r : ℕ} → r ≡ radius + key_growth d i (at f j).key (at f j).coefficient
          → r ≡ f.radius + sum_ℕ (growth_of d i) (before f (j + 1))
      more_grown e = omega (
        arith,
        e,
        g.grown,
        growth_at j h,
        sum_more f.n j (listed f) (omega arith) ℕ_addition (growth_of d i),
      )

      more_turned : turned d i f (j + 1) ≡ turned d i f j ++ (new_term d i (next f j) ∷ [])
      more_turned = map_more f.n j (listed f) (omega arith) (new_term d i)

      -- a coefficient that is not 0 is kept
      pub gathered_keep : {r : ℕ} → r ≡ radius + key_growth d i (at f j).key (at f j).coefficient
          → T (is_nonzero (key_coefficient d i (at f j).key (at f j).coefficient)) → j < most_terms
          → {t : Term} → t.key ≡ key_raised i (at f j).key
          → t.coefficient ≡ key_coefficient d i (at f j).key (at f j).coefficient
          → Gathered d i f (set out count t) (count + 1) r (j + 1)
      gathered_keep e z k {t} a b = record {
        within = omega arith;
        stored = ap₂ (λ o t. set o count t) g.stored (term_packed j h t a b)
            ∙ packed_more (drop_zeros (turned d i f j)) count _ (sym g.counted) (omega (arith, gathered_room))
            ∙ ap (λ p. pad (map pack_term p)) (sym kept);
        counted = ap (λ c. c + 1) g.counted ∙ sym (ap length kept ∙ length-append (drop_zeros (turned d i f j)) _);
        grown = more_grown e;
      }
        where
          kept : drop_zeros (turned d i f (j + 1)) ≡ drop_zeros (turned d i f j) ++ (new_term d i (next f j) ∷ [])
          kept = ap drop_zeros more_turned ∙ (unfold drop_zeros in select_in (λ k c. is_nonzero c) (turned d i f j)
              (new_term d i (next f j)) (subst (λ c. T (is_nonzero c)) (sym (coefficient_at j h)) z))

      -- and 0 is dropped
      pub gathered_drop : {r : ℕ} → r ≡ radius + key_growth d i (at f j).key (at f j).coefficient
          → T (not (is_nonzero (key_coefficient d i (at f j).key (at f j).coefficient)))
          → Gathered d i f out count r (j + 1)
      gathered_drop e z = record {
        within = omega arith;
        stored = g.stored ∙ ap (λ p. pad (map pack_term p)) (sym dropped);
        counted = g.counted ∙ ap length (sym dropped);
        grown = more_grown e;
      }
        where
          dropped : drop_zeros (turned d i f (j + 1)) ≡ drop_zeros (turned d i f j)
          dropped = ap drop_zeros more_turned ∙ (unfold drop_zeros in select_out (λ k c. is_nonzero c) (turned d i f j)
              (new_term d i (next f j)) (subst (λ c. T (not (is_nonzero c))) (sym (coefficient_at j h)) z))

-- ---- a model in slices
module _ {d i count radius : ℕ} {ks : List ℕ} {cs : List ℤ} (w : IntegrandIn d i count radius ks cs) where
  abbrev integrand : Model
  integrand = held w.vars count radius ks cs

  pub in_limits : Limits integrand
  in_limits = limits d integrand w.integrand.model

  pub in_few : count ≤ most_terms
  unfolding held
  in_few = in_limits.few

  pub in_long : count ≤ length (listed integrand)
  in_long = omega (arith, in_few, places_long w.vars count radius ks cs w.places in_few)

  -- the term at a place, whose coefficient is within 64 bits
  module _ (j : ℕ) (h : j < count) where
    pub in_at : at integrand j ≡ pair (get_or ks j 0) (get_or cs j (pos 0))
    in_at = places_at w.vars count radius ks cs w.places j h

    pub in_small : nat_abs (get_or cs j (pos 0)) < 2 ^ 63
    unfolding held
    in_small = omega (
      arith,
      span_fits,
      in_limits.small,
      within_span integrand j in_long h,
      ap (λ (t : Term). nat_abs t.coefficient) in_at,
    )

-- ---- a struct lends its arrays
module _ {d i : ℕ} (f : Model) (s : Integrand d i f) (room : Room f.keys f.coefficients) where
  pub own_same : view (held f.n f.count f.radius f.keys f.coefficients) ≡ view f
  own_same = own_view f room (limits d f s.model).few

  pub own_integrand : Integrand d i (held f.n f.count f.radius f.keys f.coefficients)
  unfolding held
  own_integrand = record {
    order = s.order;
    model = subst (λ m. T (sound d m)) (sym own_same) s.model;
    first = s.first;
    last = s.last;
  }

  pub own_places : Places f.count f.keys f.coefficients
  own_places = room_places room (limits d f s.model).few

  abbrev pub own_in : IntegrandIn d i f.count f.radius f.keys f.coefficients
  own_in = record { vars = f.n; places = own_places; integrand = own_integrand }
