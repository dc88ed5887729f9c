-- `evaluated` puts in one coordinate after the other: what is left at each iteration leads to the answer.
use mathlib.Core.Path.{◌≡◌, refl, sym, subst}
use mathlib.Core.List.{List}
use Prim.Native.Nat.{ℕ, ◌+◌, ◌-◌, ◌≤◌}
use native.Mathlib.Omega.{arith}
use borrow.Author.Rules.{rules}
use lib.IntN.{ℤ, pos}
use lib.ListN.{length, get_or, replicate}
use mir.Facts.{to_z-of_z}
use mir.Syntax.{w64}
use mir.Val.{to_z, of_z}
use Rattle.calculus.specs.Key.{key_width}
use Rattle.calculus.specs.Model.{most_degree, most_terms}
use Rattle.calculus.specs.Refusal.{at_place}
use Rattle.calculus.specs.Operations.{constant, substitute}
use Rattle.std.specs.Prelude.{Ok}
use Rattle.model_types.specs.ModelStruct.{view, answer}
use Rattle.model_types.specs.ModelStructLaws.{limits}
use Rattle.model_slices.specs.HeldModels.{held, Room}
use Rattle.model_limits.specs.Limits.{LeftIn}
use Rattle.model_evaluation.specs.Evaluate.{Evaluation, PutOf, PutIn}
use Rattle.model_evaluation.specs.EvaluationLaws.{Remaining}
use Rattle.model_evaluation.specs.SliceEvaluationLaws.{held_evaluation, held_end}
use Rattle.model_evaluation.specs.SliceEvaluationLaws.{remaining_start, left_few, put_of, iteration_refused}
use Rattle.model_evaluation.specs.SliceEvaluationLaws.{iteration_accepted}
use Rattle.model_evaluation.specs.SliceEvaluationLaws.{end_sound, range_end}
use Rattle.model_evaluation.proofs.evaluated.Goals as goal
use Rattle.model_evaluation.proofs.evaluated.Goals.{After-copied, After-put_constant-a, After-x-1, In-loop-i, Start}

module _ (s : Start) where
  width : s.args.m.n ≤ key_width
  width = (limits most_degree s.args.m s.requires.model).width

  few : s.args.m.count ≤ 64
  unfolding most_terms
  few = (limits most_degree s.args.m s.requires.model).few

  long : s.args.m.n ≤ length s.args.xs
  unfolding key_width
  long =
      let e : length s.args.xs ≡ key_width = search rules in
      omega (arith, width)

  first_room : Room s.args.m.keys s.args.m.coefficients
  first_room = record { keys = search rules; coefficients = search rules }

  evaluation : Evaluation
      (held s.args.m.n s.args.m.count s.args.m.radius s.args.m.keys s.args.m.coefficients)
      s.args.xs
  evaluation = held_evaluation s.args.m first_room few s.requires

abbrev zeros_room : Room (replicate 64 0) (replicate 64 (pos 0))
zeros_room = record { keys = refl; coefficients = refl }

pub loop-i-init : goal.loop-i-init
loop-i-init c = (
  remaining_start _ _ _ _ _ (evaluation (goal.at.loop-i-init c).Start) (long (goal.at.loop-i-init c).Start),
  first_room (goal.at.loop-i-init c).Start,
  zeros_room,
  zeros_room,
  zeros_room,
)

small : (c : In-loop-i) → c.loop-i.i ≤ 8
unfolding key_width
small c = omega (arith, width c.before.before.before.before, c.loop-i-test.true)

pub overflow_sub-x : goal.overflow_sub-x
overflow_sub-x c = c.loop-i.invariant.0.first

pub overflow_cast-x : goal.overflow_cast-x
overflow_cast-x c = omega (arith, small c)

pub offset_bounds-xs-i : goal.offset_bounds-xs-i
offset_bounds-xs-i c = omega (arith, small c)

pub bounds-xs-i : goal.bounds-xs-i
bounds-xs-i c = omega (arith, small c, c.loop-i.invariant.0.first)

-- the coordinate at hand
module _ (c : After-x-1) where
  inside : c.loop-i.i ≤ c.args.m.n
  inside = omega (arith, c.loop-i-test.true)

  abbrev X : ℤ
  X = get_or c.args.xs (c.loop-i.i - 1) (pos 0)

  read_back : to_z w64 (of_z w64 X) ≡ X
  read_back = to_z-of_z {w = w64} (record { sfits = c.x-1.given })

  abbrev given : PutOf c.loop-i.i X c.loop-i.count c.loop-i.radius
      c.loop-i.keys c.loop-i.coefficients
  given = put_of _ _ _ _ _ (evaluation c.before.before.before.before.before.before)
      (long c.before.before.before.before.before.before) _ _ _ _
      c.loop-i.invariant.0 inside c.loop-i.invariant.1

pub put_constant-a-requires : goal.put_constant-a-requires
put_constant-a-requires c =
    record {
      put_of = subst (λ z. PutOf c.loop-i.i z c.loop-i.count c.loop-i.radius c.loop-i.keys c.loop-i.coefficients)
          (sym (read_back (goal.at.put_constant-a-requires c).After-x-1))
          (given (goal.at.put_constant-a-requires c).After-x-1);
      room = c.loop-i.invariant.2;
      room_2 = c.loop-i.invariant.3;
      room_3 = c.loop-i.invariant.4;
    }

-- what is left
module _ (c : After-put_constant-a) where
  abbrev left_keys : List ℕ
  left_keys = c.put_constant-a.new.stored

  abbrev lefts : List ℤ
  lefts = c.put_constant-a.new.out

  left_room : Room left_keys lefts
  left_room = record {
    keys = let a = c.loop-i.invariant.2.keys in search rules;
    coefficients = let a = c.loop-i.invariant.2.coefficients in search rules;
  }

  others_room : Room c.put_constant-a.new.others
      c.put_constant-a.new.added
  others_room = record {
    keys = let a = c.loop-i.invariant.3.keys in search rules;
    coefficients = let a = c.loop-i.invariant.3.coefficients in search rules;
  }

  spare_room : Room c.put_constant-a.new.spare
      c.put_constant-a.new.products
  spare_room = record {
    keys = let a = c.loop-i.invariant.4.keys in search rules;
    coefficients = let a = c.loop-i.invariant.4.coefficients in search rules;
  }

  put_is : LeftIn (given (record {
    before = c.before.before.before.before.before.before.before.before.before;
    type_inv = record { keys = c.x-1.array_long };
  })).vars c.put_constant-a.result left_keys lefts (answer (at_place 0
      (substitute most_degree c.loop-i.i (view (held
      (given (record {
        before = c.before.before.before.before.before.before.before.before.before;
        type_inv = record
            { keys = c.x-1.array_long };
      })).vars c.loop-i.count
      c.loop-i.radius c.loop-i.keys c.loop-i.coefficients))
      (constant (given (record {
        before = c.before.before.before.before.before.before.before.before.before;
        type_inv = record { keys = c.x-1.array_long };
      })).vars
      (X (record {
        before = c.before.before.before.before.before.before.before.before.before;
        type_inv = record
            { keys = c.x-1.array_long };
      }))))))
  put_is = subst (λ z. PutIn c.loop-i.i z c.loop-i.count c.loop-i.radius
      c.loop-i.keys
      c.loop-i.coefficients c.put_constant-a.result left_keys lefts)
      (read_back (record {
        before = c.before.before.before.before.before.before.before.before.before;
        type_inv = record { keys = c.x-1.array_long };
      }))
      c.put_constant-a.ensures (given (record {
        before =
            c.before.before.before.before.before.before.before.before.before;
        type_inv = record
            { keys = c.x-1.array_long };
      }))

  goes_on : c.put_constant-a.result.verdict ≡ Ok tt
      → Remaining (held c.args.m.n c.args.m.count
      c.args.m.radius c.args.m.keys
      c.args.m.coefficients) c.args.xs
      (c.loop-i.i + 1) (held c.args.m.n c.put_constant-a.result.count
      c.put_constant-a.result.radius left_keys lefts)
  goes_on v = iteration_accepted _ _ _ _ _ (evaluation
      c.before.before.before.before.before.before.before.before.before.before.before.before.before.before)
      (long c.before.before.before.before.before.before.before.before.before.before.before.before.before.before) _ _ _ _
      c.loop-i.invariant.0 (inside (record {
        before = c.before.before.before.before.before.before.before.before.before;
        type_inv = record { keys = c.x-1.array_long };
      })) _ _ put_is v

pub returns-in_default : goal.returns-in_default
returns-in_default c =
    held_end c.args.m (first_room (goal.at.returns-in_default c).Start) (few (goal.at.returns-in_default c).Start)
    c.args.xs
    (iteration_refused _ _ _ _ _ (evaluation (goal.at.returns-in_default c).Start)
    (long (goal.at.returns-in_default c).Start) _ _ _ _ c.loop-i.invariant.0
    (inside (goal.at.returns-in_default c).After-x-1) _ _
    (put_is (goal.at.returns-in_default c).After-put_constant-a)
    c.in_default.is)

pub copied-requires : goal.copied-requires
copied-requires c =
    record {
      count_le_model_places = (
        left_few _ _ _ _ _ (evaluation (goal.at.copied-requires c).Start)
            (long (goal.at.copied-requires c).Start) _ _ _ _
            (goes_on (goal.at.copied-requires c).After-put_constant-a c.in-Ok.is),
        left_room (goal.at.copied-requires c).After-put_constant-a,
      );
      room = c.loop-i.invariant.1;
    }

pub overflow_add-i : goal.overflow_add-i
overflow_add-i c =
    omega (arith, small (goal.at.overflow_add-i c).In-loop-i)

-- the slices of the next iteration
copied_room : (c : After-copied)
    → Room c.copied.new.stored c.copied.new.out
copied_room c =
    record {
      keys = let a = c.loop-i.invariant.1.keys in search rules;
      coefficients = let a = c.loop-i.invariant.1.coefficients in search rules;
    }

pub loop-i-smaller : goal.loop-i-smaller
loop-i-smaller c =
    omega (arith, inside (goal.at.loop-i-smaller c).After-x-1)

pub loop-i-preserved : goal.loop-i-preserved
loop-i-preserved c =
    let m = c.args.m in (
      subst (Remaining (held m.n m.count m.radius m.keys m.coefficients) c.args.xs
          (c.loop-i.i + 1)) (sym (c.copied.ensures _ _))
          (goes_on (goal.at.loop-i-preserved c).After-put_constant-a c.in-Ok.is),
      copied_room (goal.at.loop-i-preserved c).After-copied,
      left_room (goal.at.loop-i-preserved c).After-put_constant-a,
      others_room (goal.at.loop-i-preserved c).After-put_constant-a,
      spare_room (goal.at.loop-i-preserved c).After-put_constant-a,
    )

pub range_of-requires : goal.range_of-requires
range_of-requires c =
    end_sound _ _ _ _ _ (evaluation (goal.at.range_of-requires c).Start) (long (goal.at.range_of-requires c).Start) _ _
    _ _ c.loop-i.invariant.0 c.loop-i.invariant.1

pub returns : goal.returns
returns c =
    held_end c.args.m (first_room (goal.at.returns c).Start) (few (goal.at.returns c).Start) c.args.xs
    (range_end _ _ _ _ _ (evaluation (goal.at.returns c).Start) (long (goal.at.returns c).Start) _ _ _ _
    c.loop-i.invariant.0 c.loop-i.invariant.1
    (omega (arith, c.loop-i-test.false)) c.range_of.ensures)
