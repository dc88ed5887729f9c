-- `model_at` reads an entry of each of three slices and 64 of the others.
use mathlib.Core.Path.{◌≡◌}
use Prim.Native.Nat.{suc, ◌+◌, ◌*◌, ◌-◌}
use native.Mathlib.Omega.{arith}
use borrow.Author.Rules.{rules}
use lib.ListN.{length}
use Rattle.calculus.specs.Model.{most_terms}
use Rattle.c_books.specs.HandedBooks.{entries_of, model_at}
use Rattle.c_books.specs.HandedBooksLaws.{ModelsBorrowed, models_borrowed_at}
use Rattle.c_books.proofs.model_at.Goals as goal
use Rattle.c_books.proofs.model_at.Goals.{Start}

-- all slices have the place
has : (c : Start) → ModelsBorrowed (suc c.args.k) (length c.args.ns.now) (length c.args.counts.now)
    (length c.args.radii.now) (length c.args.keys.now) (length c.args.coefficients.now)
has c = models_borrowed_at _ _ _ _ _ _ c.requires

pub bounds-ns-k : goal.bounds-ns-k
bounds-ns-k c = omega (arith, (has (goal.at.bounds-ns-k c).Start).ns_long)

pub offset_bounds-counts-k : goal.offset_bounds-counts-k
offset_bounds-counts-k c = omega (arith, (has (goal.at.offset_bounds-counts-k c).Start).few)

pub bounds-counts-k : goal.bounds-counts-k
bounds-counts-k c = omega (arith, (has (goal.at.bounds-counts-k c).Start).counts_long)

pub offset_bounds-radii-k : goal.offset_bounds-radii-k
offset_bounds-radii-k c = omega (arith, (has (goal.at.offset_bounds-radii-k c).Start).few)

pub bounds-radii-k : goal.bounds-radii-k
bounds-radii-k c = omega (arith, (has (goal.at.bounds-radii-k c).Start).radii_long)

pub overflow_mul-from : goal.overflow_mul-from
overflow_mul-from c = omega (arith, (has (goal.at.overflow_mul-from c).Start).few)

pub overflow_add-to : goal.overflow_add-to
overflow_add-to c = omega (arith, (has (goal.at.overflow_add-to c).Start).few)

pub offset_bounds-keys-from : goal.offset_bounds-keys-from
offset_bounds-keys-from c = omega (arith, (has (goal.at.offset_bounds-keys-from c).Start).few)

pub slice_bounds-handed-count : goal.slice_bounds-handed-count
slice_bounds-handed-count c = omega arith

pub slice_bounds-handed-end : goal.slice_bounds-handed-end
slice_bounds-handed-end c = let w = has (goal.at.slice_bounds-handed-end c).Start in search rules

pub offset_bounds-coefficients-from : goal.offset_bounds-coefficients-from
offset_bounds-coefficients-from c = omega (arith, (has (goal.at.offset_bounds-coefficients-from c).Start).few)

pub slice_bounds-handed-count-2 : goal.slice_bounds-handed-count-2
slice_bounds-handed-count-2 c = omega arith

pub slice_bounds-handed-end-2 : goal.slice_bounds-handed-end-2
slice_bounds-handed-end-2 c = let w = has (goal.at.slice_bounds-handed-end-2 c).Start in search rules

pub returns : goal.returns
unfolding model_at entries_of most_terms
returns c =
    let k = c.args.k in
    let w : 64 * k + 64 - 64 * k ≡ 64 = omega arith in rw (c.handed.ensures, w)
