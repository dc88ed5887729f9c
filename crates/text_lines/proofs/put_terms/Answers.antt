-- `put_terms` puts the line of one term in each iteration: the invariant is what the first i leave.
use mathlib.Core.Path.{◌≡◌, sym, ap, ap₂, ◌∙◌}
use mathlib.Core.List.{[]}
use Prim.Native.Nat.{◌≤◌, ◌-◌, ◌<◌}
use native.Mathlib.Omega.{arith}
use borrow.Author.Rules.{rules}
use lib.Dec.{T}
use lib.IntN.{pos}
use lib.ListN.{length, get_or}
use mir.Facts.{to_z-of_z}
use mir.Syntax.{w64}
use mir.Val.{to_z, of_z}
use Rattle.calculus.specs.Key.{key_width, key_fits, monomial_of}
use Rattle.calculus.specs.Terms.{term}
use Rattle.calculus.specs.Model.{most_terms, most_degree}
use Rattle.model_types.specs.declared.Term.{Term}
use Rattle.model_types.specs.ModelStruct.{zero_term, listed, view, view_term}
use Rattle.model_types.specs.ModelStructLaws.{Limits, limits, length_view, key_fits_at, term_at}
use Rattle.model_types.specs.PairedLaws.{length_paired, key_at, coefficient_at}
use Rattle.format.specs.Lines.{term_line}
use Rattle.text_decimal.specs.PutLaws.{put_as, put_length}
use Rattle.text_lines.specs.LineLaws.{term_of, Listed, listed_none, listed_room, listed_more, listed_all}
use Rattle.text_lines.proofs.put_terms.Goals as goal
use Rattle.text_lines.proofs.put_terms.Goals.{After-c-1, Start}

module _ (c : Start) where
  keys_whole : length c.args.m.keys ≡ 64
  keys_whole = search rules

  coefficients_whole : length c.args.m.coefficients ≡ 64
  coefficients_whole = search rules

  even : length c.args.m.keys ≡ length c.args.m.coefficients
  even = keys_whole ∙ sym coefficients_whole

  whole : length (listed c.args.m) ≡ 64
  whole = length_paired _ _ even ∙ keys_whole

  known : Limits c.args.m
  known = limits _ _ c.requires.0

  few : c.args.m.count ≤ 64
  unfolding most_terms
  few = known.few

  long : c.args.m.count ≤ length (listed c.args.m)
  long = omega (arith, few, whole)

pub loop-i-init : goal.loop-i-init
loop-i-init c = listed_none term_line _

pub offset_bounds-m-i : goal.offset_bounds-m-i
offset_bounds-m-i c = omega (arith, few (goal.at.offset_bounds-m-i c).Start)

pub bounds-m-i : goal.bounds-m-i
bounds-m-i c = omega (arith, few (goal.at.bounds-m-i c).Start)

pub offset_bounds-m-i-in-loop-i : goal.offset_bounds-m-i-in-loop-i
offset_bounds-m-i-in-loop-i c = omega (arith, few (goal.at.offset_bounds-m-i-in-loop-i c).Start)

pub bounds-m-i-in-loop-i : goal.bounds-m-i-in-loop-i
bounds-m-i-in-loop-i c = omega (arith, few (goal.at.bounds-m-i-in-loop-i c).Start)

-- the term at hand
module _ (c : After-c-1) where
  abbrev at : Term
  at = get_or (listed c.args.m) c.loop-i.i zero_term

  within : c.loop-i.i < c.args.m.count
  within = omega arith

  in_view : c.loop-i.i < length (view c.args.m).terms
  in_view = omega (arith, within, length_view c.args.m)

  key_is : get_or c.args.m.keys c.loop-i.i 0 ≡ at.key
  key_is = sym (key_at _ _ c.loop-i.i (even c.before.before.before.before.before))

  read_back : to_z w64 (of_z w64 (get_or c.args.m.coefficients c.loop-i.i (pos 0))) ≡ at.coefficient
  read_back = to_z-of_z {w = w64} (record { sfits = c.c-1.given })
      ∙ sym (coefficient_at _ _ c.loop-i.i (even c.before.before.before.before.before))

  line_is : term_line (term (to_z w64 (of_z w64 (get_or c.args.m.coefficients c.loop-i.i (pos 0))))
      (monomial_of c.args.m.n (get_or c.args.m.keys c.loop-i.i 0)))
      ≡ term_line (get_or (view c.args.m).terms c.loop-i.i (term_at c.args.m.n 0 []))
  unfolding view_term
  line_is = ap term_line
      (ap₂ (λ z k. term z (monomial_of c.args.m.n k)) read_back key_is
      ∙ sym (term_of c.args.m c.loop-i.i (long c.before.before.before.before.before) within))

  key_fits_here : T (key_fits key_width c.args.m.n (get_or c.args.m.keys c.loop-i.i 0))
  unfolding most_degree
  key_fits_here = rw key_is (key_fits_at most_degree c.args.m c.loop-i.i (omega arith) c.requires.0
      (long c.before.before.before.before.before) within)

pub put_term-next-requires : goal.put_term-next-requires
put_term-next-requires d =
    record {
      key_in = record {
        width = (known (goal.at.put_term-next-requires d).Start).width;
        fits = key_fits_here
            (goal.at.put_term-next-requires d).After-c-1;
      };
      room = rw (line_is (goal.at.put_term-next-requires d).After-c-1)
          (listed_room term_line _ d.loop-i.invariant _ (in_view (goal.at.put_term-next-requires d).After-c-1)
          d.requires.1);
    }

pub loop-i-preserved : goal.loop-i-preserved
loop-i-preserved c =
    listed_more term_line _ c.loop-i.invariant _ (in_view (goal.at.loop-i-preserved c).After-c-1)
    (put_as (line_is (goal.at.loop-i-preserved c).After-c-1) c.put_term-next.ensures)

pub shape_of-out : goal.shape_of-out
shape_of-out c = put_length c.loop-i.invariant.put

pub returns : goal.returns
returns c =
    listed_all term_line _ c.loop-i.invariant (omega (arith, length_view c.args.m))
