-- A sweep, one term after the other: what is kept and what goes into the radius.
use Rattle.std.specs.Prelude.{◌≡◌, refl, Bool, true, false, not, ◌&&◌, List, [], ◌∷◌, ◌++◌, map, ℕ, ◌+◌, ◌≤◌, ◌<◌, eqb, leb, ℤ, get_or, set}
use Rattle.std.proofs.Common.{sym, ◌∙◌, length-append}
use Rattle.std.proofs.Math.Path.{ap, subst}
use native.Mathlib.Omega.{arith}
use Rattle.std.proofs.Math.Dec.{T}
use Rattle.std.proofs.Math.IntN.{nat_abs}
use Rattle.std.proofs.Math.ListN.{length}
use Rattle.polynomial.specs.Polynomial as P
use Rattle.calculus.specs.Key.{key_width, key_limit, monomial_of}
use Rattle.calculus.specs.Terms.{Terms, select, sum_over, size}
use Rattle.calculus_laws.specs.TermsLaws.{length_select}
use Rattle.calculus_laws.specs.SumLaws.{ℕ_addition, sum_snoc}
use Rattle.calculus.specs.Model.{most_terms, span}
use Rattle.calculus.specs.Operations.{is_small, sweep}
use Rattle.model_types.specs.declared.Term.{Term}
use Rattle.model_types.specs.declared.Model.{Model}
use Rattle.model_types.specs.ModelStruct.{zero_term, view_term, view, pack_term, pad, pack}
use Rattle.calculus_laws.specs.MonomialKeyLaws.{constant_monomial}
use Rattle.model_types.specs.ModelStructLaws.{pack_view_term, read, length_read, term_at, view_is, read_within_span}
use Rattle.model_types.specs.ModelStructLaws.{select_more, select_same, select_iteration, sum_select_le, size_more}
use Rattle.model_types.specs.ModelStruct.{paired, listed, of_terms}
use Rattle.model_places.specs.LeftModels.{Zeros}
use Rattle.model_places.specs.LeftModelsLaws.{zeros_listed}

-- the test by key and size
small_test : (t n z : ℕ) (c : ℤ) → n ≤ key_width → z < key_limit
    → is_small t (monomial_of n z) c ≡ not (eqb z 0) && leb (nat_abs c) t
unfolding is_small
small_test t n z c l h = ap (λ b. not b && leb (nat_abs c) t) (constant_monomial n z l h)

size_snoc : (p : Terms) (t : P.Term ℤ) → size (p ++ (t ∷ [])) ≡ size p + nat_abs t.coefficient
unfolding size
size_snoc p t = sum_snoc ℕ_addition (λ k c. nat_abs c) p t

module _ (t : ℕ) (m : Model) where
  -- what stays
  abbrev large : List ℕ → ℤ → Bool
  large k c = not (is_small t k c)

  abbrev before : (i : ℕ) → Terms
  before i = read m.n i (listed m)

  pub record Swept (out : List Term) (count radius i : ℕ) : Type 0 where
    pub within : i ≤ m.count
    pub stored : out ≡ pad (map pack_term (select large (before i)))
    pub counted : count ≡ length (select large (before i))
    pub sum : radius ≡ m.radius + size (select (is_small t) (before i))

  swept_first : Swept (pad []) 0 m.radius 0
  unfolding select size sum_over
  swept_first = record { within = omega arith; stored = refl; counted = refl; sum = omega arith }

  -- in arrays of zeros
  pub swept_zeros : {ks : List ℕ} {cs : List ℤ} → Zeros ks cs → Swept (paired ks cs) 0 m.radius 0
  swept_zeros z = subst (λ l. Swept l 0 m.radius 0) (sym (zeros_listed z)) swept_first

  module _ (w : m.count ≤ length (listed m)) (out : List Term) (count radius i : ℕ) (h : Swept out count radius i)
    where
      -- there is room
      pub swept_room : count ≤ i
      swept_room = omega (
        arith,
        h.counted,
        length_select large (before i),
        length_read m.n i (listed m) (omega (arith, h.within)),
      )

      pub swept_end : m.count ≤ i
          → of_terms m.n count radius out ≡ pack (sweep t (view m))
      unfolding pack sweep
      swept_end l =
          let e : i ≡ m.count = omega (arith, h.within) in rw (view_is m w, h.stored, h.counted, h.sum, e)

      module _ (l : i < m.count) (width : m.n ≤ key_width)
          (small : (get_or (listed m) i zero_term).key < key_limit) where
        abbrev at : Term
        at = get_or (listed m) i zero_term

        pub swept_within : radius + nat_abs at.coefficient ≤ span (view m)
        unfolding size
        swept_within = omega (
          arith,
          h.sum,
          sum_select_le (λ k c. nat_abs c) (is_small t) (before i),
          size_more m.n i (listed m) (omega arith),
          read_within_span m (i + 1) w (omega arith),
        )

        test : is_small t (term_at m.n i (listed m)).exponents (term_at m.n i (listed m)).coefficient
            ≡ not (eqb at.key 0) && leb (nat_abs at.coefficient) t
        unfolding view_term
        test = small_test t m.n at.key at.coefficient width small

        pub swept_drop : not (eqb at.key 0) && leb (nat_abs at.coefficient) t ≡ true
            → Swept out count (radius + nat_abs at.coefficient) (i + 1)
        unfolding view_term
        swept_drop s = record {
          within = omega arith;
          stored = h.stored ∙ ap (λ p. pad (map pack_term p)) (sym unchanged);
          counted = h.counted ∙ ap length (sym unchanged);
          sum = ap (λ r. r + nat_abs at.coefficient) h.sum
              ∙ omega (arith, ap size more, size_snoc (select (is_small t) (before i)) (term_at m.n i (listed m)));
        }
          where
            drops : T (is_small t (term_at m.n i (listed m)).exponents (term_at m.n i (listed m)).coefficient)
            drops = subst T (sym (test ∙ s)) tt

            more : select (is_small t) (before (i + 1))
                ≡ select (is_small t) (before i) ++ (term_at m.n i (listed m) ∷ [])
            more = select_more m.n i (listed m) (omega arith) (is_small t) drops

            unchanged : select large (before (i + 1)) ≡ select large (before i)
            unchanged = select_same m.n i (listed m) (omega arith) large
                (subst (λ b. T (not (not b))) (sym (test ∙ s)) tt)

        pub swept_keep : not (eqb at.key 0) && leb (nat_abs at.coefficient) t ≡ false → i < most_terms
            → Swept (set out count at) (count + 1) radius (i + 1)
        swept_keep s k = record {
          within = omega arith;
          stored = ap (set out count) (sym (pack_view_term m.n at width small))
              ∙ select_iteration large m.n i count (listed m) out (omega arith) (omega (arith, swept_room)) stays
              h.counted h.stored;
          counted = omega (
            arith,
            h.counted,
            ap length more,
            length-append (select large (before i)) (term_at m.n i (listed m) ∷ []),
          );
          sum = h.sum ∙ ap (λ p. m.radius + size p) (sym unchanged);
        }
          where
            stays : T (large (term_at m.n i (listed m)).exponents (term_at m.n i (listed m)).coefficient)
            stays = subst (λ b. T (not b)) (sym (test ∙ s)) tt

            more : select large (before (i + 1)) ≡ select large (before i) ++ (term_at m.n i (listed m) ∷ [])
            more = select_more m.n i (listed m) (omega arith) large stays

            unchanged : select (is_small t) (before (i + 1)) ≡ select (is_small t) (before i)
            unchanged = select_same m.n i (listed m) (omega arith) (is_small t) stays
