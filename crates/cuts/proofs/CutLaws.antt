-- The cut range: every function within the model stays inside it, and it lies inside the undivided range.
use Rattle.std.specs.Prelude.{◌≡◌, refl, Bool, not, [], ◌∷◌, T, leb, ltb, length}
use Rattle.std.proofs.Common.{sym, ap, leb→le, ltb→lt, nltb→le}
use Rattle.std.proofs.Math.Path.{subst}
use Rattle.std.proofs.Math.Bool.{true, false}
use Prim.Native.Nat.{ℕ, zero, suc, ◌+◌, ◌-◌, ◌^◌, ◌≤◌, ◌<◌}
use native.Mathlib.Omega.{arith}
use Rattle.std.proofs.Math.ListN.{get_or}
use Rattle.algebra.specs.Ordered.{abs}
use Rattle.algebra.proofs.Rational.{ℚ, ◌*ℚ◌, ◌≤ℚ◌}
use Rattle.algebra.proofs.RationalRing.{ℚR}
use Rattle.algebra.proofs.RationalOrder.{ℚO}
use Rattle.polynomial.specs.Polynomial.{replace}
use Rattle.polynomial.specs.Box.{none, more}
use Rattle.polynomial.proofs.BoxLaws.{box_length, box_replace}
use Rattle.numbers.specs.Fixed.{U, span_limit}
use Rattle.calculus.specs.Monomial.{index_of}
use Rattle.calculus.specs.Model.{Model, sound, most_terms, span, Point, InBox, Within}
use Rattle.calculus.specs.Refusal.{bad_limits, bad_model, bad_step, cut_too_deep, Answer, Result, at_place}
use Rattle.calculus.specs.Refusal.{too_many_terms, over_span, leaves_box, accepted, refused, require, ◌then◌}
use Rattle.calculus.specs.Operations.{Ends, range, substitute, limited, horner, multiply, add, widen, range_in_box}
use Rattle.calculus.specs.Operations.{largest_exponent, part}
use Rattle.calculus.specs.Tests.{order_sound, variable_sound}
use Rattle.calculus.specs.Functions.{Function, 0ℚ, coordinate, with_coordinate, Lies}
use Rattle.calculus_laws.specs.RangeInsideLaws.{Inside}
use Rattle.calculus_laws.specs.BookLaws.{variable_inside}
use Rattle.calculus_laws.specs.RefusalLaws.{IfAccepted, holds, then_accepted, IfDone, is_done, followed_done, placed}
use Rattle.calculus_laws.specs.RefusalLaws.{constantly}
use Rattle.calculus_laws.specs.RefusalLaws.{require_at_done, require_passed}
use Rattle.calculus_laws.specs.UnitLaws.{natural, U_times_≤, U_abs}
use Rattle.calculus_laws.specs.ValueLaws.{Near, at_near}
use Rattle.calculus_laws.specs.RangeLaws.{range_encloses}
use Rattle.calculus_laws.specs.SubstituteLaws.{substitute_near}
use Rattle.calculus_laws.specs.ChainLaws.{◌≡≤◌, ◌≤≡◌}
use Rattle.cuts.specs.Cuts.{hull, overlap, most_depth, piece, piece_range, hull_from, pieces_hull, cut_range}
use Rattle.cuts.specs.Cuts.{call_cut_range}
use Rattle.cuts.specs.EndsLaws.{hull_left, hull_right, overlap_both, larger_left, smaller_left}
use Rattle.cuts.proofs.PieceLaws.{Cut, find_cut, place_in, place_inside, piece_near, piece_in_box}

-- ---- points: a coordinate put in, and the one that was there put back
replace_back : (i : ℕ) (y : ℚ) (x : Point) → replace i (get_or x i 0ℚ) (replace i y x) ≡ x
unfolding replace
replace_back i y [] = refl
replace_back zero y (z ∷ x) = refl
replace_back (suc i) y (z ∷ x) = ap (λ l. z ∷ l) (replace_back i y x)

replaced : (i : ℕ) (y : ℚ) (x : Point) → i < length x → get_or (replace i y x) i 0ℚ ≡ y
unfolding replace
replaced i y [] h = absurd (omega arith)
replaced zero y (z ∷ x) h = refl
replaced (suc i) y (z ∷ x) h = replaced i y x (omega arith)

coordinate_inside : (i n : ℕ) (x : Point) → i < n → InBox n x → abs ℚO (get_or x i 0ℚ) ≤ℚ natural 1
coordinate_inside i n x h none = absurd (omega arith)
coordinate_inside zero n x h (more a b) = a
coordinate_inside (suc i) n x h (more {n = m} {xs = xs} a b) = coordinate_inside i m xs (omega arith) b

module _ (d v k : ℕ) (f : Model) (hk : k ≤ most_depth) (hv : index_of v < f.vars) where
  -- ---- one point x and a value z within the model there
  module _ {x : Point} (b : InBox f.vars x) (z : ℚ) (h : Near f x z) where
    y : ℚ
    y = coordinate v x

    a : ℚ
    a = natural U *ℚ y

    cut : Cut k a
    unfolding a y coordinate
    cut = find_cut k hk (natural U *ℚ get_or x (index_of v) 0ℚ) (U_abs _
        ≡≤ U_times_≤ (coordinate_inside (index_of v) f.vars x hv b)
        ≤≡ ℚR.*-one (natural U))

    t : ℚ
    t = place_in k hk a cut

    x' : Point
    x' = with_coordinate v t x

    inside' : InBox f.vars x'
    unfolding x' t with_coordinate
    inside' = box_replace ℚO (index_of v) (place_in k hk a cut) (place_inside k hk a cut) b

    piece_lies : IfAccepted (Lies z) (piece_range d v k f cut.j)
    unfolding piece_range
    piece_lies = then_accepted
        (substitute_near v y x' d f (piece f.vars v k cut.j) inside' near z hv
        (λ u. subst (λ q. Near f q z) (sym back) h))
        (λ r hr. holds (range_encloses r z inside' hr))
      where
        back : with_coordinate v y x' ≡ x
        back = unfold with_coordinate y x' coordinate in replace_back (index_of v) t x

        there : coordinate v x' ≡ place_in k hk a cut
        there = unfold with_coordinate x' coordinate t in replaced (index_of v) (place_in k hk a cut) x
            (subst (λ i. index_of v < i) (sym (box_length ℚO b)) hv)

        near : Near (piece f.vars v k cut.j) x' y
        near = piece_near k hk a cut f.vars v y hv inside' there (unfold a in refl)

  -- ---- the hull holds what lies in one of the pieces
  hull_keeps : (z : ℚ) (j c : ℕ) (h : Ends) → Lies z h → IfDone (Lies z) (hull_from d v k f j c h)
  unfolding hull_from
  hull_keeps z j zero h l = is_done l
  hull_keeps z j (suc c) h l = followed_done {P = λ e. Unit {0}} (always_done (at_place j (piece_range d v k f j)))
      (λ e u. hull_keeps z (suc j) c (hull h e) (hull_left h e l))
    where
      always_done : (r : Result Ends) → IfDone (λ e. Unit {0}) r
      always_done r = constantly tt r

  hull_holds : (z : ℚ) (i j c : ℕ) (h : Ends) → j ≤ i → i < j + c → IfAccepted (Lies z) (piece_range d v k f i)
      → IfDone (Lies z) (hull_from d v k f j c h)
  unfolding hull_from
  hull_holds z i j zero h p q l = absurd (omega arith)
  hull_holds z i j (suc c) h p q l = go (ltb j i) (ltb→lt j i) (nltb→le j i) (hull_holds z i (suc j) c)
    where
      go : (s : Bool) → (T s → j < i) → (T (not s) → i ≤ j)
          → ((h : Ends) → suc j ≤ i → i < suc j + c → IfAccepted (Lies z) (piece_range d v k f i)
          → IfDone (Lies z) (hull_from d v k f (suc j) c h))
          → IfDone (Lies z) (hull_from d v k f j (suc c) h)
      go true s u r = followed_done {P = λ e. Unit {0}} (constantly tt (at_place j (piece_range d v k f j)))
          (λ e w. r (hull h e) (s tt) (omega arith) l)
      go false s u r = followed_done {P = Lies z}
          (subst (λ n. IfDone (Lies z) (at_place n (piece_range d v k f n)))
          (let g = u tt in let e : i ≡ j = omega arith in e) (placed i l))
          (λ e w. hull_keeps z (suc j) c (hull h e) (hull_right h e w))

  pieces_hold : (z : ℚ) (i : ℕ) → i < 2 ^ k → IfAccepted (Lies z) (piece_range d v k f i)
      → IfDone (Lies z) (pieces_hull d v k f)
  unfolding pieces_hull
  pieces_hold z zero h l = followed_done {P = Lies z} (placed 0 l) (λ e w. hull_keeps z 1 (2 ^ k - 1) e w)
  pieces_hold z (suc i) h l = followed_done {P = λ e. Unit {0}} (constantly tt (at_place 0 (piece_range d v k f 0)))
      (λ e w. hull_holds z (suc i) 1 (2 ^ k - 1) e (omega arith) (omega arith) l)

  cut_lies : {x : Point} (b : InBox f.vars x) (z : ℚ) → Near f x z → IfDone (Lies z) (cut_range d v k f)
  unfolding cut_range
  cut_lies b z h = followed_done (pieces_hold z (cut b z h).j (cut b z h).inside (piece_lies b z h))
      (λ e l. is_done (overlap_both (range f) e (range_encloses f z b h) l))

  cut_inside : IfDone (λ e. Inside e (range f)) (cut_range d v k f)
  unfolding cut_range overlap
  cut_inside = followed_done {P = λ e. Unit {0}} (constantly tt (pieces_hull d v k f))
      (λ h u. is_done (record {
        low = larger_left (range f).low h.low;
        high = smaller_left (range f).high h.high;
      }))

-- ---- the call
-- every function within the model stays inside the answer: its value at a point of the box, times U
pub cut_range_encloses : (d v k : ℕ) (f : Model) (F : Function) → Within F f → (x : Point) → InBox f.vars x
    → IfDone (Lies (F x)) (call_cut_range d v k f)
unfolding call_cut_range Within
cut_range_encloses d v k f F h x b =
    require_at_done 0 (order_sound d) bad_limits _ (λ s.
    require_at_done 0 (sound d f) bad_model _ (λ t.
    require_at_done 0 (variable_sound f.vars v) bad_step _ (λ u.
    require_at_done 0 (leb k most_depth) cut_too_deep _ (λ w.
    cut_lies d v k f (leb→le k most_depth w) (variable_inside f.vars v u) b (F x) (at_near f x (F x) (h x b))))))

-- the answer lies inside the undivided range
pub cut_range_inside : (d v k : ℕ) (f : Model) → IfDone (λ e. Inside e (range f)) (call_cut_range d v k f)
unfolding call_cut_range
cut_range_inside d v k f =
    require_at_done 0 (order_sound d) bad_limits _ (λ s.
    require_at_done 0 (sound d f) bad_model _ (λ t.
    require_at_done 0 (variable_sound f.vars v) bad_step _ (λ u.
    require_at_done 0 (leb k most_depth) cut_too_deep _ (λ w.
    cut_inside d v k f (leb→le k most_depth w) (variable_inside f.vars v u)))))

-- ---- 9 never happens
-- accepted, or refused for something else
pub data NotLeaving {A : Type 0} : Answer A → Type 0 where
  fine : {a : A} → NotLeaving (accepted a)
  too_many : NotLeaving (refused too_many_terms)
  too_large : NotLeaving (refused over_span)

then_not : {A B : Type 0} {a : Answer A} {g : A → Answer B} → NotLeaving a → ((x : A) → NotLeaving (g x))
    → NotLeaving (a then g)
unfolding ◌then◌
then_not (fine {a = x}) h = h x
then_not too_many h = too_many
then_not too_large h = too_large

limited_not : (m : Model) → NotLeaving (limited m)
unfolding limited require
limited_not m = go (leb (length m.terms) most_terms) (leb (span m) span_limit)
  where
    go : (s t : Bool) → NotLeaving (require s too_many_terms (require t over_span (accepted m)))
    go true true = fine
    go true false = too_large
    go false t = too_many

horner_not : (d i : ℕ) (f g : Model) (k : ℕ) (h : Model) → NotLeaving (horner d i f g k h)
unfolding horner multiply add
horner_not d i f g zero h = fine
horner_not d i f g (suc k) h =
    then_not (then_not (limited_not _) (λ p. limited_not _)) (λ r. horner_not d i f g k r)

-- a piece is never refused with 9
pub piece_not_leaving : (d v k : ℕ) (f : Model) (j : ℕ) → k ≤ most_depth → j < 2 ^ k
    → NotLeaving (piece_range d v k f j)
unfolding piece_range substitute widen
piece_not_leaving d v k f j hk hj = then_not
    (subst NotLeaving (sym (require_passed (range_in_box (piece f.vars v k j)) leaves_box _
    (piece_in_box f.vars v k j hk hj)))
    (then_not (horner_not d v f (piece f.vars v k j) (largest_exponent v f.terms)
    (part v (largest_exponent v f.terms) f)) (λ r. limited_not _)))
    (λ m. fine)
