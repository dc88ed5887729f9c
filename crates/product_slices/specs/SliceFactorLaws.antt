-- The product of two sound models that lie in slices: what its steps ask, and what they come to.
use Rattle.std.specs.Prelude.{◌≡◌, refl, List, ℕ, ◌≤◌, T, ℤ, length}
use Rattle.std.proofs.Math.Nat as NatL
use Rattle.std.proofs.Common.{arith}
use Rattle.numbers.specs.Fixed.{span_limit}
use Rattle.numbers.proofs.FixedLaws.{span_square_fits}
use Rattle.calculus.specs.Key.{key_width}
use Rattle.calculus.specs.Terms.{every, size, rising}
use Rattle.calculus.specs.Model.{most_terms, most_degree, fits, sound, span}
use Rattle.calculus.specs.Operations.{multiply}
use Rattle.calculus.specs.Shares.{product_shares}
use Rattle.calculus_laws.specs.FitsLaws.{fits_more}
use Rattle.calculus_laws.specs.SoundLaws.{sound_parts}
use Rattle.model_types.specs.declared.Model.{Model}
use Rattle.model_types.specs.declared.Accounted.{Accounted}
use Rattle.model_types.specs.ModelStruct.{view}
use Rattle.model_types.specs.ModelStructLaws.{limits}
use Rattle.model_types.specs.SharesStruct.{accounted}
use Rattle.model_slices.specs.HandedModels.{handed}
use Rattle.product_sums.specs.declared.Gathered.{Gathered}
use Rattle.product_sums.specs.ProductSums.{ProductGathered}
use Rattle.product_terms.specs.product_hash_collect.CollectorContracts.{HeldFactors}
use Rattle.product_terms.specs.product_hash_collect.FactorArrayLaws.{sums_answer}
use Rattle.product_answer.specs.CollectedProduct.{Product}
use Rattle.product_answer.specs.ProductFactors.{Factors, Unpacked}
use Rattle.product_slices.specs.HandedTerms.{Handed}

-- ---- one factor
module _ (d n count radius : ℕ) (keys : List ℕ) (cs : List ℤ) (h : T (sound d (view (handed n count radius keys cs))))
  where
    -- at most 64 terms
    pub few_terms : count ≤ most_terms
    unfolding handed
    few_terms = (limits d (handed n count radius keys cs) h).few

    pub fitting : T (every (λ k c. fits n d k) (view (handed n count radius keys cs)).terms)
    unfolding view handed
    fitting = (sound_parts d (view (handed n count radius keys cs)) h).0.fitting

    pub rises : T (rising (view (handed n count radius keys cs)).terms)
    rises = (sound_parts d (view (handed n count radius keys cs)) h).0.rising_terms

    module _ (lk : count ≤ length keys) (lc : count ≤ length cs) where
      unfoldable pub sound_handed : Handed count keys cs
      unfolding handed
      sound_handed =
          let l = limits d (handed n count radius keys cs) h in
          record {
            vars = n;
            radius = radius;
            width = l.width;
            few = l.few;
            small = l.small;
            keys_long = lk;
            coefficients_long = lc;
          }

      pub sound_unpacked : {wide : List ℕ} {a : ℕ}
          → ((w : Handed count keys cs) → Unpacked (handed w.vars count w.radius keys cs) wide cs a)
          → Unpacked (handed n count radius keys cs) wide cs a
      unfolding sound_handed
      sound_unpacked u = u sound_handed

-- ---- two
module _ (d n count1 radius1 : ℕ) (keys1 : List ℕ) (cs1 : List ℤ) (count2 radius2 : ℕ) (keys2 : List ℕ) (cs2 : List ℤ)
  where
    abbrev f : Model
    f = handed n count1 radius1 keys1 cs1

    abbrev g : Model
    g = handed n count2 radius2 keys2 cs2

    module _ (h : Factors d f g) {ka kb : List ℕ} {a b : ℕ} (uf : Unpacked f ka cs1 a) (ug : Unpacked g kb cs2 b)
        (lka : count1 ≤ length ka) (lc1 : count1 ≤ length cs1) (lkb : count2 ≤ length kb) (lc2 : count2 ≤ length cs2)
      where
        -- their terms by wide keys
        unfoldable pub slice_factors : HeldFactors ka cs1 count1 kb cs2 count2
        unfolding handed span key_width
        slice_factors =
            let lf = limits d f h.first in
            let lg = limits d g h.second in
            let sf : size (view f).terms ≤ span_limit = omega (arith, lf.small) in
            let sg : size (view g).terms ≤ span_limit = omega (arith, lg.small) in
            record {
              vars = n;
              first = view f;
              second = view g;
              vars_few = omega (arith, lf.width);
              first_fits = fits_more n d most_degree (view f).terms h.order
                  (fitting d n count1 radius1 keys1 cs1 h.first);
              second_fits = fits_more n d most_degree (view g).terms h.order
                  (fitting d n count2 radius2 keys2 cs2 h.second);
              first_rising = rises d n count1 radius1 keys1 cs1 h.first;
              second_rising = rises d n count2 radius2 keys2 cs2 h.second;
              first_held = uf.held;
              second_held = ug.held;
              first_few = lf.few;
              second_few = lg.few;
              first_keys = lka;
              first_coefficients = lc1;
              second_keys = lkb;
              second_coefficients = lc2;
              small = omega (arith, NatL.mul-le-mul sf sg, span_square_fits);
            }

        -- what is gathered of their products
        module _ {kept : List ℕ} {cs : List ℤ} {r : Gathered}
            (w : ProductGathered d count1 ka cs1 count2 kb cs2 kept cs r)
            (lk : most_terms ≤ length kept) (lc : most_terms ≤ length cs) where
          unfoldable pub slice_ready : Product n a radius1 b radius2 r kept cs
          unfolding handed view slice_factors
          slice_ready = record {
            order = d;
            first = view f;
            second = view g;
            low = h.order;
            first_sound = h.first;
            second_sound = h.second;
            first_vars = refl;
            second_vars = refl;
            first_size = uf.sum;
            first_radius = refl;
            second_size = ug.sum;
            second_radius = refl;
            answered = sums_answer slice_factors w;
            keys_room = lk;
            coefficients_room = lc;
          }

          -- where the product ends
          pub slice_answer : {s : Accounted}
              → ((w : Product n a radius1 b radius2 r kept cs)
              → s ≡ accounted (multiply w.order w.first w.second)
              (λ m. product_shares w.order w.first w.second))
              → s ≡ accounted (multiply d (view f) (view g)) (λ m. product_shares d (view f) (view g))
          unfolding slice_ready
          slice_answer q = q slice_ready
