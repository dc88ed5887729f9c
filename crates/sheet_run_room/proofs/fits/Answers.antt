-- `fits` goes by the code.
use mathlib.Core.Path.{◌≡◌, refl, sym, ◌∙◌, ap, subst}
use borrow.Author.Tests.{le-leb, leb-true}
use Prim.Native.Nat.{◌+◌, ◌*◌, ◌<◌, ◌≤◌}
use native.Mathlib.Omega.{arith}
use lib.IntN.{nat_abs}
use lib.ListN.{length, get_or}
use mir.Facts.{to_z-of_z}
use mir.Syntax.{w64}
use mir.Val.{to_z, of_z}
use Rattle.calculus.specs.Model.{most_terms}
use Rattle.calculus.specs.Book.{most_models}
use Rattle.sheet_run_laws.specs.model.OperationContracts.{quotient_products}
use Rattle.sheet_run_laws.specs.model.OperationLaws.{products_most}
use Rattle.sheet_book.specs.BookStruct.{held_step}
use Rattle.sheet_run_laws.specs.Run.{multiply_code, substitute_code, quotient_code, most_entries}
use Rattle.sheet_run_laws.specs.RunIterationLaws.{products_few}
use borrow.Author.Rules.{rules}
use Rattle.sheet_run_room.proofs.fits.Goals as goal
use Rattle.sheet_run_room.proofs.fits.Goals.{After-magnitude, After-struct_known-in-7-1, Start}

-- the counts of a product's factors
module _ (s : Start) (e : s.args.s.code ≡ multiply_code) where
  first_there : 16 + s.args.s.a < length s.args.counts.now
  unfolding held_step most_models
  first_there = s.requires.first e

  second_there : 16 + s.args.s.b < length s.args.counts.now
  unfolding held_step most_models
  second_there = s.requires.second e

  few : get_or s.args.counts.now (16 + s.args.s.a) 0 * get_or s.args.counts.now (16 + s.args.s.b) 0
      ≤ most_entries
  few = products_few _ _ (s.requires.few (16 + s.args.s.a)) (s.requires.few (16 + s.args.s.b))

pub offset_bounds-counts-a : goal.offset_bounds-counts-a
offset_bounds-counts-a c = let h = first_there (goal.at.offset_bounds-counts-a c).Start c.in-6.is
    in search rules

pub bounds-counts-a : goal.bounds-counts-a
bounds-counts-a c =
    let h = first_there (goal.at.bounds-counts-a c).Start c.in-6.is in
    search rules

pub offset_bounds-counts-b : goal.offset_bounds-counts-b
offset_bounds-counts-b c = let h = second_there (goal.at.offset_bounds-counts-b c).Start c.in-6.is in
    search rules

pub bounds-counts-b : goal.bounds-counts-b
bounds-counts-b c =
    let h = second_there (goal.at.bounds-counts-b c).Start
    c.in-6.is in
    search rules

pub overflow_mul-products : goal.overflow_mul-products
overflow_mul-products c =
    let p = few (goal.at.overflow_mul-products c).Start c.in-6.is in
    search rules

pub returns-in-6 : goal.returns-in-6
unfolding held_step most_models
returns-in-6 c =
    let e = c.in-6.is in (
      λ t. record {
        product = λ q. leb-true _ _ t;
        substitution = λ q. absurd (omega (arith, q, e));
        quotient = λ q. absurd (omega (arith, q, e));
      },
      λ h. le-leb (get_or c.args.counts.now (16 + c.args.s.a) 0 * get_or c.args.counts.now (16 + c.args.s.b)
          0) c.args.room (omega (arith, h, few (goal.at.returns-in-6 c).Start e)),
    )

-- ---- a substitution
-- the count of what it puts in
module _ (s : Start) (e : s.args.s.code ≡ substitute_code) where
  inner_there : 16 + s.args.s.b < length s.args.counts.now
  unfolding held_step most_models
  inner_there = s.requires.inner e

  inner_few : 64 * get_or s.args.counts.now (16 + s.args.s.b) 0 ≤ most_entries
  unfolding most_terms
  inner_few = let p = s.requires.few (16 + s.args.s.b) in omega (arith, p)

-- where it is read
module _ (c : After-struct_known-in-7-1) where
  is_substitution : c.args.s.code ≡ substitute_code
  is_substitution = c.in-7.is

pub offset_bounds-counts-b-in-7 : goal.offset_bounds-counts-b-in-7
offset_bounds-counts-b-in-7 c = let h = inner_there
    (goal.at.offset_bounds-counts-b-in-7 c).Start (is_substitution c) in search rules

pub bounds-counts-b-in-7 : goal.bounds-counts-b-in-7
bounds-counts-b-in-7 c =
    let h = inner_there (goal.at.bounds-counts-b-in-7 c).Start
    (is_substitution (goal.at.bounds-counts-b-in-7
    c).After-struct_known-in-7-1) in
    search rules

pub overflow_mul-most : goal.overflow_mul-most
overflow_mul-most c =
    let p = inner_few (goal.at.overflow_mul-most c).Start
    (is_substitution (goal.at.overflow_mul-most c).After-struct_known-in-7-1) in
    search rules

pub returns-in-7 : goal.returns-in-7
unfolding held_step most_models most_terms
returns-in-7 c =
    let e = is_substitution (goal.at.returns-in-7 c).After-struct_known-in-7-1 in
    let g = get_or c.args.counts.now (16 + c.args.s.b) 0 in (
      λ t. record {
        product = λ q. absurd (omega (arith, q, e));
        substitution = λ q. leb-true (64 * g) c.args.room t;
        quotient = λ q. absurd (omega (arith, q, e));
      },
      λ h. le-leb (64 * g) c.args.room (omega (
        arith,
        h,
        inner_few (goal.at.returns-in-7 c).Start e,
      )),
    )

-- ---- a quotient
-- the counts of its operands
module _ (s : Start) (e : s.args.s.code ≡ quotient_code) where
  divisor_there : 16 + s.args.s.b < length s.args.counts.now
  unfolding held_step most_models
  divisor_there = s.requires.divisor e

  proposed_there : 16 + s.args.s.v < length s.args.counts.now
  unfolding held_step most_models
  proposed_there = s.requires.proposed e

-- the number that is the last operand
module _ (c : After-magnitude) where
  is_quotient : c.args.s.code ≡ quotient_code
  is_quotient = c.in-9.is

  value_place : c.magnitude.result ≡ nat_abs c.args.s.value
  value_place = c.magnitude.ensures ∙ ap nat_abs read_back
    where
      read_back : to_z w64 (of_z w64 c.args.s.value) ≡ c.args.s.value
      read_back = to_z-of_z {w = w64} (record { sfits = c.struct_told-1.given.1.1.1.1.0.1 })

  inverse_there : 16 + nat_abs c.args.s.value < length c.args.counts.now
  unfolding held_step most_models
  inverse_there = c.requires.inverse is_quotient

  last_there : 16 + c.magnitude.result < length c.args.counts.now
  last_there = omega (
    arith,
    value_place,
    inverse_there,
  )

pub overflow_add-last : goal.overflow_add-last
overflow_add-last c = let h = last_there c in search rules

pub offset_bounds-counts-b-in-9 : goal.offset_bounds-counts-b-in-9
offset_bounds-counts-b-in-9 c = let h = divisor_there
    (goal.at.offset_bounds-counts-b-in-9 c).Start (is_quotient c) in search rules

pub bounds-counts-b-in-9 : goal.bounds-counts-b-in-9
bounds-counts-b-in-9 c = let h = divisor_there (goal.at.bounds-counts-b-in-9 c).Start
    (is_quotient (goal.at.bounds-counts-b-in-9 c).After-magnitude) in search rules

pub offset_bounds-counts-v : goal.offset_bounds-counts-v
offset_bounds-counts-v c = let h = proposed_there (goal.at.offset_bounds-counts-v c).Start
    (is_quotient (goal.at.offset_bounds-counts-v c).After-magnitude) in search rules

pub bounds-counts-v : goal.bounds-counts-v
bounds-counts-v c = let h = proposed_there (goal.at.bounds-counts-v c).Start
    (is_quotient (goal.at.bounds-counts-v c).After-magnitude) in search rules

pub offset_bounds-counts-last : goal.offset_bounds-counts-last
offset_bounds-counts-last c = let h = last_there (goal.at.offset_bounds-counts-last c).After-magnitude in search rules

pub bounds-counts-last : goal.bounds-counts-last
bounds-counts-last c = let h = last_there (goal.at.bounds-counts-last c).After-magnitude in search rules

pub quotient_fits-requires : goal.quotient_fits-requires
quotient_fits-requires c =
    let few = c.requires.few in
    (few (16 + c.args.s.b), few (16 + c.args.s.v), few (16 + c.magnitude.result))

pub returns-in-9 : goal.returns-in-9
unfolding held_step most_models
returns-in-9 c =
    let e = is_quotient (goal.at.returns-in-9 c).After-magnitude in
    let few = c.requires.few in
    let g = get_or c.args.counts.now (16 + c.args.s.b) 0 in
    let h = get_or c.args.counts.now (16 + c.args.s.v) 0 in
    let w = get_or c.args.counts.now (16 + c.magnitude.result) 0 in (
      λ t. record {
        product = λ q. absurd (omega (arith, q, e));
        substitution = λ q. absurd (omega (arith, q, e));
        quotient = λ q. subst (λ j. quotient_products g h (get_or c.args.counts.now (16 + j) 0) ≤ c.args.room)
            (value_place (goal.at.returns-in-9 c).After-magnitude)
            (leb-true (quotient_products g h w) c.args.room (sym c.quotient_fits.ensures ∙ t));
      },
      λ k. c.quotient_fits.ensures
          ∙ le-leb (quotient_products g h w) c.args.room
          (omega (
            arith,
            k,
            products_most g h w (few (16 + c.args.s.b)) (few (16 + c.args.s.v))
                (few (16 + c.magnitude.result)),
          )),
    )

pub returns-in_default : goal.returns-in_default
unfolding held_step
returns-in_default c = (
  λ t. record {
    product = λ q. absurd (omega (arith, q));
    substitution = λ q. absurd (omega (arith, q));
    quotient = λ q. absurd (omega (arith, q));
  },
  λ h. refl,
)
