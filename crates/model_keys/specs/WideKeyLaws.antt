-- The key and the wide key of one monomial lead to each other.
use Rattle.std.specs.Prelude.{◌≡◌, refl, List, [], ◌∷◌, ◌++◌, ℕ, zero, suc, ◌+◌, ◌-◌, ◌*◌, ◌/◌, ◌<◌, ◌≤◌}
use Rattle.std.proofs.Common.{sym, ◌∙◌, ap₂, subst, arith, lit<, length-append}
use Rattle.std.proofs.Math.Path.{ap}
use Rattle.std.proofs.Math.Dec.{lit≤}
use Rattle.std.proofs.Math.ListN.{length}
use Rattle.calculus.specs.Monomial.{degree, zeros}
use Rattle.calculus_laws.specs.MonomialLaws.{length_zeros, degree_zeros}
use Rattle.calculus.specs.Key.{encode, decode, Below, key_width, key_limit, key, monomial_of}
use Rattle.calculus_laws.specs.KeyLaws.{decode_encode, decode_length}
use Rattle.calculus_laws.specs.MonomialKeyLaws.{by_fits, encode_constant, key_monomial, monomial_below}
use Rattle.model_keys.specs.Keys.{wide_base, wide_width, degree_base, wide_code, wide_key, widened}
use Rattle.model_keys.specs.Keys.{wide_exponents, narrowed}
use Rattle.model_keys.specs.KeyDegreeLaws.{degree_below}

-- ---- zeros after the last exponent
encode_padded : (base w : ℕ) (k : List ℕ) (j : ℕ) → encode base w (k ++ zeros j) ≡ encode base w k
unfolding encode
encode_padded base w [] j = encode_constant base w (zeros j) (degree_zeros j)
encode_padded base zero (e ∷ k) j = refl
encode_padded base (suc w) (e ∷ k) j = omega (arith, encode_padded base w k j)

below_zeros : (base j : ℕ) → 0 < base → Below base (zeros j)
unfolding zeros
below_zeros base zero h = tt
below_zeros base (suc j) h = (h, below_zeros base j h)

below_padded : (base : ℕ) (k : List ℕ) (j : ℕ) → 0 < base → Below base k → Below base (k ++ zeros j)
below_padded base [] j h b = below_zeros base j h
below_padded base (e ∷ k) j h b = (b.0, below_padded base k j h b.1)

below_more : (base more : ℕ) (k : List ℕ) → base ≤ more → Below base k → Below more k
below_more base more [] l b = tt
below_more base more (e ∷ k) l b = (omega (arith, b.0), below_more base more k l b.1)

-- the first v digits: the exponents, and zeros after them
decode_padded : (base w v : ℕ) (k : List ℕ) → 0 < base → Below base k → length k ≤ v → v ≤ w
    → decode base w v (encode base w k) ≡ k ++ zeros (v - length k)
decode_padded base w v k h b l m =
    let j = v - length k in
    let long : length (k ++ zeros j) ≡ v = omega (arith, length-append k (zeros j), length_zeros j) in
    ap₂ (decode base w) (sym long) (sym (encode_padded base w k j))
    ∙ decode_encode base h w (k ++ zeros j) (below_padded base k j h b) (omega arith)

degree_padded : (k : List ℕ) (j : ℕ) → degree (k ++ zeros j) ≡ degree k
unfolding degree
degree_padded [] j = degree_zeros j
degree_padded (e ∷ k) j = omega (arith, degree_padded k j)

wide_padded : (k : List ℕ) (j : ℕ) → wide_key (k ++ zeros j) ≡ wide_key k
wide_padded k j = ap₂ (λ x y. x * degree_base + y) (encode_padded wide_base wide_width k j) (degree_padded k j)

-- ---- from one key to the other
module _ (k : List ℕ) (b : Below 16 k) (l : length k ≤ key_width) where
  widened_key : widened (key key_width k) ≡ wide_key k
  unfolding widened
  widened_key = ap wide_key (decode_padded 16 key_width key_width k (lit< tt) b l (omega arith))
      ∙ wide_padded k (key_width - length k)

  exponents_are : wide_exponents (wide_key k) ≡ k ++ zeros (key_width - length k)
  unfolding wide_exponents
  exponents_are = ap (decode wide_base wide_width key_width) before_degree
      ∙ decode_padded wide_base wide_width key_width k (lit< tt) (below_more 16 wide_base k (lit≤ tt) b) l
      (unfold key_width in lit≤ tt)
    where
      before_degree : wide_key k / degree_base ≡ wide_code k
      before_degree = unfold key_width in omega (arith, degree_below 15 k b, l)

  pub narrowed_key : narrowed (wide_key k) ≡ key key_width k
  unfolding narrowed
  narrowed_key = ap (key key_width) exponents_are ∙ encode_padded 16 key_width k (key_width - length k)

  pub exponents_below : Below 16 (wide_exponents (wide_key k))
  exponents_below = subst (Below 16) (sym exponents_are) (below_padded 16 k (key_width - length k) (lit< tt) b)

-- the monomial of a key has no more exponents than the key
short : (n z : ℕ) → n ≤ key_width → length (monomial_of n z) ≤ key_width
short n z l = by_fits (λ k. length k ≤ key_width) n z
    (λ f. omega (arith, decode_length 16 (lit< tt) key_width n z l))
    (λ f. omega (arith, decode_length 16 (lit< tt) key_width key_width z (omega arith)))

pub widened_monomial : (n z : ℕ) → n ≤ key_width → z < key_limit → widened z ≡ wide_key (monomial_of n z)
widened_monomial n z l h = ap widened (sym (key_monomial n z l h))
    ∙ widened_key (monomial_of n z) (monomial_below n z h) (short n z l)
