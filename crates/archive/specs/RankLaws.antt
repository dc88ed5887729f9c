-- The ranks: every key of degree at most 15 has one and only one, and they rise by degree and then key.
use Rattle.std.specs.Prelude.{◌≡◌, refl, Bool, true, false, not, ◌&&◌, List, [], ◌∷◌, ◌++◌, map, ℕ, zero, suc, ◌+◌, ◌-◌, ◌*◌, ◌%◌, ◌≤◌, ◌<◌, T, eqb, ltb, leb, length, get_or}
use Rattle.std.proofs.Common.{sym, ◌∙◌, ap, subst, arith, eqb→eq, leb→le, ltb→lt, lt→ltb, nltb→le, T_not}
use Rattle.std.proofs.Math.Nat as NatL
use Rattle.std.proofs.Math.Dec.{eqb_refl}
use Rattle.calculus.specs.Monomial.{degree}
use Rattle.calculus.specs.Key.{encode, decode, fits_digits, key_width, key_limit, key, key_fits}
use Rattle.calculus.specs.Key.{monomial_of, key_degree}
use Rattle.calculus.specs.Model.{most_degree}
use Rattle.calculus_laws.specs.TestLaws.{and_left, and_right, both}
use Rattle.calculus_laws.specs.MonomialKeyLaws.{key_monomial, monomial_length, monomial_degree}
use Rattle.archive.specs.Ranks.{count_up, in_turn, monomials, rank_width, all_keys, short_keys, rank_count}
use Rattle.archive.specs.Ranks.{place_of, rank_of}
use Rattle.archive.specs.Ranks.{key_at, weight, keys_in_order}

-- ---- the computed test
pub all_count : length all_keys ≡ rank_count
unfolding count_up in_turn monomials rank_width all_keys rank_count most_degree encode
all_count = refl

pub count_is : rank_count ≡ 3876
unfolding rank_count
count_is = refl

all_in_order : keys_in_order 0 all_keys ≡ true
unfolding
    count_up in_turn monomials rank_width all_keys most_degree encode decode keys_in_order weight key_degree degree
    key_width key_limit
all_in_order = refl

-- ---- what stands in a list
data In {A : Type 0} (x : A) : List A → Type 0 where
  here : {l : List A} → In x (x ∷ l)
  there : {y : A} {l : List A} → In x l → In x (y ∷ l)

module _ {A : Type 0} {x : A} where
  in_left : {l : List A} (m : List A) → In x l → In x (l ++ m)
  in_left m here = here
  in_left m (there h) = there (in_left m h)

  in_right : (l : List A) {m : List A} → In x m → In x (l ++ m)
  in_right [] h = h
  in_right (y ∷ l) h = there (in_right l h)

  in_mapped : {B : Type 0} (f : A → B) {l : List A} → In x l → In (f x) (map f l)
  in_mapped f here = here
  in_mapped f (there h) = there (in_mapped f h)

  in_one_turn : (f : ℕ → List A) {i : ℕ} {l : List ℕ} → In i l → In x (f i) → In x (in_turn f l)
  unfolding in_turn
  in_one_turn f here h = in_left _ h
  in_one_turn f (there {y = j} g) h = in_right (f j) (in_one_turn f g h)

in_count : (from c i : ℕ) → from ≤ i → i < from + c → In i (count_up from c)
unfolding count_up
in_count from zero i h g = absurd (omega arith)
in_count from (suc c) i h g = go (ltb from i) (ltb→lt from i) (nltb→le from i) (in_count (suc from) c i)
  where
    go : (b : Bool) → (T b → from < i) → (T (not b) → i ≤ from)
        → (suc from ≤ i → i < suc from + c → In i (count_up (suc from) c)) → In i (from ∷ count_up (suc from) c)
    go true f u r = there (r (f tt) (omega arith))
    go false f u r = subst (λ j. In i (j ∷ count_up (suc from) c))
        (let e = u tt in let q : i ≡ from = omega arith in q) here

in_monomials : (k : List ℕ) → In k (monomials (length k) (degree k))
unfolding monomials degree
in_monomials [] = here
in_monomials (e ∷ k) = in_one_turn (λ i. map (λ j. i ∷ j) (monomials (length k) (e + degree k - i)))
    (in_count 0 (suc (e + degree k)) e (omega arith) (omega arith))
    (in_mapped (λ j. e ∷ j) (subst (λ s. In k (monomials (length k) s)) (omega arith) (in_monomials k)))

-- ---- every key of degree at most 15 stands among all
-- a key of the archive
pub record Rankable (z : ℕ) : Type 0 where
  pub below : z < key_limit
  pub short : z % 65536 ≡ 0
  pub low : key_degree z ≤ most_degree

fits_four : (z : ℕ) → z < key_limit → z % 65536 ≡ 0 → T (key_fits key_width rank_width z)
unfolding key_limit key_width rank_width fits_digits
fits_four z h s = both (ltb z key_limit) _ (lt→ltb z key_limit h) (subst (λ i. T (eqb i 0)) (sym s) tt)

few : rank_width ≤ key_width
unfolding rank_width key_width
few = omega arith

all_has : {z : ℕ} → Rankable z → In z all_keys
unfolding all_keys
all_has {z} r = subst (λ y. In y all_keys) (key_monomial rank_width z few r.below)
    (in_mapped (key key_width) (in_one_turn (monomials rank_width)
    (in_count 0 (suc most_degree) (degree k) (omega arith) (omega (arith, deg, r.low)))
    (subst (λ w. In k (monomials w (degree k))) len (in_monomials k))))
  where
    k : List ℕ
    k = monomial_of rank_width z

    f : T (key_fits key_width rank_width z)
    f = fits_four z r.below r.short

    len : length k ≡ rank_width
    len = monomial_length rank_width z few f

    deg : degree k ≡ key_degree z
    deg = monomial_degree rank_width z few f

-- ---- the place of what stands in a list
pub record Placed (z : ℕ) (l : List ℕ) : Type 0 where
  pub inside : place_of z l < length l
  pub there_stands : get_or l (place_of z l) 0 ≡ z

-- at the head, or further on
by_place : (P : ℕ → Type 0) (z y : ℕ) (l : List ℕ) → (z ≡ y → P 0) → ((z ≡ y → ⊥) → P (suc (place_of z l)))
    → P (place_of z (y ∷ l))
unfolding place_of
by_place P z y l f g = go (eqb z y) (eqb→eq z y) (λ t e. T_not (eqb z y) t (subst (λ w. T (eqb z w)) e (eqb_refl z)))
  where
    go : (b : Bool) → (T b → z ≡ y) → (T (not b) → z ≡ y → ⊥)
        → P (elim b as (λ b. ℕ) [ true ↦ 0 | false ↦ suc (place_of z l) ])
    go true h k = f (h tt)
    go false h k = g (k tt)

placed_cons : (z y : ℕ) (l : List ℕ) → ((z ≡ y → ⊥) → Placed z l) → Placed z (y ∷ l)
placed_cons z y l h = made (by_place (λ i. (i < length (y ∷ l)) × (get_or (y ∷ l) i 0 ≡ z)) z y l
    (λ e. (omega arith, sym e)) (λ n. (let i = (h n).inside in omega arith, (h n).there_stands)))
  where
    made : (place_of z (y ∷ l) < length (y ∷ l)) × (get_or (y ∷ l) (place_of z (y ∷ l)) 0 ≡ z) → Placed z (y ∷ l)
    made g = record { inside = g.0; there_stands = g.1 }

placed : {z : ℕ} {l : List ℕ} → In z l → Placed z l
placed {z} (here {l = l}) = placed_cons z z l (λ n. absurd (n refl))
placed {z} (there {y = y} {l = l} h) = placed_cons z y l (λ n. placed h)

-- ---- the order
module _ (least z : ℕ) (l : List ℕ) (h : T (keys_in_order least (z ∷ l))) where
  abbrev first_two : Bool
  first_two = leb least (weight z) && ltb z key_limit

  abbrev first_three : Bool
  first_three = first_two && eqb (z % 65536) 0

  abbrev all_four : Bool
  all_four = first_three && leb (key_degree z) most_degree

  four : T all_four
  unfolding keys_in_order
  four = and_left all_four _ h

  two : T first_two
  two = and_left first_two _ (and_left first_three _ four)

  order_least : least ≤ weight z
  order_least = leb→le _ _ (and_left (leb least (weight z)) _ two)

  order_rankable : Rankable z
  order_rankable = record {
    below = ltb→lt _ _ (and_right (leb least (weight z)) _ two);
    short = eqb→eq _ _ (and_right first_two _ (and_left first_three _ four));
    low = leb→le _ _ (and_right first_three _ four);
  }

  order_rest : T (keys_in_order (suc (weight z)) l)
  unfolding keys_in_order
  order_rest = and_right all_four _ h

order_at : (least : ℕ) (l : List ℕ) (i : ℕ) → T (keys_in_order least l) → i < length l → least ≤ weight (get_or l i 0)
order_at least [] i h g = absurd (omega arith)
order_at least (z ∷ l) zero h g = order_least least z l h
order_at least (z ∷ l) (suc i) h g = let a = order_least least z l h in
    let b = order_at (suc (weight z)) l i (order_rest least z l h) (omega arith) in omega arith

rankable_at : (least : ℕ) (l : List ℕ) (i : ℕ) → T (keys_in_order least l) → i < length l → Rankable (get_or l i 0)
rankable_at least [] i h g = absurd (omega arith)
rankable_at least (z ∷ l) zero h g = order_rankable least z l h
rankable_at least (z ∷ l) (suc i) h g = rankable_at (suc (weight z)) l i (order_rest least z l h) (omega arith)

order_two : (least : ℕ) (l : List ℕ) (i j : ℕ) → T (keys_in_order least l) → i < j → j < length l
    → weight (get_or l i 0) < weight (get_or l j 0)
order_two least [] i j h a b = absurd (omega arith)
order_two least (z ∷ l) zero zero h a b = absurd (omega arith)
order_two least (z ∷ l) zero (suc j) h a b =
    order_at (suc (weight z)) l j (order_rest least z l h) (omega arith)
order_two least (z ∷ l) (suc i) zero h a b = absurd (omega arith)
order_two least (z ∷ l) (suc i) (suc j) h a b =
    order_two (suc (weight z)) l i j (order_rest least z l h) (omega arith) (omega arith)

in_order : T (keys_in_order 0 all_keys)
in_order = subst T (sym all_in_order) tt

-- ---- the laws of ranks
-- each of the 3,876 ranks has a key of degree at most 15,
pub key_rankable : (r : ℕ) → r < rank_count → Rankable (key_at r)
unfolding key_at
key_rankable r h = rankable_at 0 all_keys r in_order (omega (arith, all_count))

-- which rise by degree and then key
pub keys_rise : (i j : ℕ) → i < j → j < rank_count → weight (key_at i) < weight (key_at j)
unfolding key_at
keys_rise i j h g = order_two 0 all_keys i j in_order h (omega (arith, all_count))

-- every such key has a rank,
pub rank_below : {z : ℕ} → Rankable z → rank_of z < rank_count
unfolding rank_of
rank_below r = let p = (placed (all_has r)).inside in omega (arith, all_count)

-- whose key it is,
pub key_of_rank : {z : ℕ} → Rankable z → key_at (rank_of z) ≡ z
unfolding rank_of key_at
key_of_rank r = (placed (all_has r)).there_stands

-- and only one
pub same_rank : (i j : ℕ) → i < rank_count → j < rank_count → key_at i ≡ key_at j → i ≡ j
same_rank i j a b e = go (ltb i j) (ltb j i) (ltb→lt i j) (ltb→lt j i) (nltb→le i j) (nltb→le j i)
  where
    w : weight (key_at i) ≡ weight (key_at j)
    w = ap weight e

    go : (s t : Bool) → (T s → i < j) → (T t → j < i) → (T (not s) → j ≤ i) → (T (not t) → i ≤ j) → i ≡ j
    go true t f g f' g' = absurd (let r = keys_rise i j (f tt) b in omega (arith, w))
    go false true f g f' g' = absurd (let r = keys_rise j i (g tt) a in omega (arith, w))
    go false false f g f' g' = let p = f' tt in let q = g' tt in omega arith

pub rank_of_key : (r : ℕ) → r < rank_count → rank_of (key_at r) ≡ r
rank_of_key r h = same_rank _ r (rank_below (key_rankable r h)) h (key_of_rank (key_rankable r h))

-- ranks rise as keys do
pub ranks_rise : {z y : ℕ} → Rankable z → Rankable y → weight z < weight y → rank_of z < rank_of y
ranks_rise {z} {y} a b h = go (ltb (rank_of z) (rank_of y)) (ltb (rank_of y) (rank_of z)) (ltb→lt _ _) (ltb→lt _ _)
    (nltb→le _ _) (nltb→le _ _)
  where
    kz : weight (key_at (rank_of z)) ≡ weight z
    kz = ap weight (key_of_rank a)

    ky : weight (key_at (rank_of y)) ≡ weight y
    ky = ap weight (key_of_rank b)

    go : (s t : Bool) → (T s → rank_of z < rank_of y) → (T t → rank_of y < rank_of z)
        → (T (not s) → rank_of y ≤ rank_of z) → (T (not t) → rank_of z ≤ rank_of y) → rank_of z < rank_of y
    go true t f g f' g' = f tt
    go false true f g f' g' = absurd (let r = keys_rise _ _ (g tt) (rank_below a) in omega (arith, kz, ky))
    go false false f g f' g' = absurd (let e : rank_of z ≡ rank_of y =
        (let p = f' tt in let q = g' tt in omega arith) in
        let w : weight (key_at (rank_of z)) ≡ weight (key_at (rank_of y)) = ap (λ r. weight (key_at r)) e in omega
        (arith, kz, ky))

-- weights are compared by degree, then by key
pub weight_degree : (z y : ℕ) → z < key_limit → key_degree z < key_degree y → weight z < weight y
unfolding weight
weight_degree z y h g =
    let m : suc (key_degree z) * key_limit ≤ key_degree y * key_limit = NatL.mul-le-mul_right key_limit g in omega arith

pub weight_key : (z y : ℕ) → key_degree z ≡ key_degree y → z < y → weight z < weight y
unfolding weight
weight_key z y e h = let m : key_degree z * key_limit ≡ key_degree y * key_limit = ap (λ d. d * key_limit) e in
    omega arith

-- ---- a search by halves
pub search_up : {z : ℕ} (i : ℕ) → Rankable z → i < rank_count → weight (key_at i) ≤ weight z → i ≤ rank_of z
search_up {z} i r h g = go (ltb (rank_of z) i) (ltb→lt _ _) (nltb→le _ _)
  where
    go : (b : Bool) → (T b → rank_of z < i) → (T (not b) → i ≤ rank_of z) → i ≤ rank_of z
    go true f f' = absurd (let k = keys_rise (rank_of z) i (f tt) h in omega (arith, ap weight (key_of_rank r)))
    go false f f' = f' tt

pub search_down : {z : ℕ} (i : ℕ) → Rankable z → i < rank_count → weight z < weight (key_at i) → rank_of z < i
search_down {z} i r h g = go (ltb (rank_of z) i) (ltb→lt _ _) (nltb→le _ _)
  where
    same : i ≡ rank_of z → weight (key_at i) ≡ weight z
    same e = ap (λ j. weight (key_at j)) e ∙ ap weight (key_of_rank r)

    other : (b : Bool) → (T b → i < rank_of z) → (T (not b) → rank_of z ≤ i) → i ≤ rank_of z → ⊥
    other true f f' l = let k = keys_rise i (rank_of z) (f tt) (rank_below r) in
        omega (arith, ap weight (key_of_rank r))
    other false f f' l = let e : i ≡ rank_of z = (let q = f' tt in omega arith) in omega (arith, same e)

    go : (b : Bool) → (T b → rank_of z < i) → (T (not b) → i ≤ rank_of z) → rank_of z < i
    go true f f' = f tt
    go false f f' = absurd (other (ltb i (rank_of z)) (ltb→lt _ _) (nltb→le _ _) (f' tt))

-- ---- beyond the last rank
beyond : (l : List ℕ) (i : ℕ) → length l ≤ i → get_or l i 0 ≡ 0
beyond [] i h = refl
beyond (x ∷ l) zero h = absurd (omega arith)
beyond (x ∷ l) (suc i) h = beyond l i (omega arith)

pub key_beyond : (r : ℕ) → rank_count ≤ r → key_at r ≡ 0
unfolding key_at
key_beyond r h = beyond all_keys r (omega (arith, all_count))

-- ---- a table of the first halves
halves : all_keys ≡ map (λ z. z * 65536) short_keys
unfolding count_up in_turn monomials rank_width all_keys short_keys most_degree encode key_width
halves = refl

shifted : (l : List ℕ) (i : ℕ) → get_or (map (λ z. z * 65536) l) i 0 ≡ get_or l i 0 * 65536
shifted [] i = refl
shifted (x ∷ l) zero = refl
shifted (x ∷ l) (suc i) = shifted l i

pub key_shifted : (r : ℕ) → key_at r ≡ get_or short_keys r 0 * 65536
unfolding key_at
key_shifted r = ap (λ l. get_or l r 0) halves ∙ shifted short_keys r

-- which are words of 16 bits
pub short_below : (r : ℕ) → r < 3876 → get_or short_keys r 0 < 65536
unfolding key_limit key_width
short_below r h = omega (arith, (key_rankable r (omega (arith, count_is))).below, key_shifted r)

pub shifted_below : (r : ℕ) → r < 3876 → get_or short_keys r 0 * 65536 < 4294967296
unfolding key_limit key_width
shifted_below r h = omega (arith, (key_rankable r (omega (arith, count_is))).below, key_shifted r)
