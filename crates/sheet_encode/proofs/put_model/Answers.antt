-- `put_model` puts the radius and the count, and the terms after them.
use mathlib.Core.Path.{◌≡◌, sym, ◌∙◌, ap, ap₂}
use mathlib.Core.List.{map}
use Prim.Native.Nat.{◌+◌, ◌*◌, ◌<◌, ◌≤◌}
use native.Mathlib.Omega.{arith}
use borrow.Author.Rules.{rules}
use lib.IntN.{pos}
use lib.ListN.{length, get_or, set, length-set}
use lib.Seq.{sets}
use mir.Facts.{to_z-of_z}
use mir.Syntax.{w64}
use mir.Val.{to_z, of_z}
use Rattle.calculus.specs.Model.{most_terms}
use Rattle.model_types.specs.declared.Term.{Term}
use Rattle.model_types.specs.declared.Model.{Model}
use Rattle.model_types.specs.ModelStruct.{zero_term, listed}
use Rattle.model_types.specs.PairedLaws.{length_paired, key_at}
use Rattle.model_types.specs.PairedLaws as P
use Rattle.format.specs.Bytes.{join}
use Rattle.format.specs.Format.{head_length, term_length, term_bytes}
use Rattle.format.proofs.ReadBackLaws.{length_term, length_terms}
use Rattle.sheet_book.specs.BookStruct.{held_term, held_model}
use Rattle.sheet_encode.specs.RecordLoopLaws.{put_first, put_length, put_room, put_iteration, put_end}
use Rattle.sheet_encode.specs.StoreLaws.{model_stores}
use Rattle.sheet_encode.specs.FittingLaws.{count_terms, length_record, term_at, coefficient_at}
use Rattle.sheet_encode.proofs.put_model.Goals as goal
use Rattle.sheet_encode.proofs.put_model.Goals.{After-c-1, At-loop-i, Start}

module _ (c : Start) where
  keys_whole : length c.args.m.keys ≡ 64
  keys_whole = search rules

  coefficients_whole : length c.args.m.coefficients ≡ 64
  coefficients_whole = search rules

  even : length c.args.m.keys ≡ length c.args.m.coefficients
  even = keys_whole ∙ sym coefficients_whole

  whole : length (listed c.args.m) ≡ 64
  whole = length_paired _ _ even ∙ keys_whole

  few : c.args.m.count ≤ 64
  unfolding most_terms
  few = omega (arith, c.requires.model_fits.count, count_terms c.args.m)

  room : c.args.at + head_length + term_length c.args.m.n * c.args.m.count ≤ length c.args.buffer.now
  room = omega (arith, c.requires.m_in_bounds, length_record c.args.m)

pub overflow_cast-m : goal.overflow_cast-m
unfolding held_model
overflow_cast-m c = omega (arith, c.requires.model_fits.radius)

pub put_u32-requires : goal.put_u32-requires
put_u32-requires c = omega (arith, room (goal.at.put_u32-requires c).Start)

pub overflow_cast-buffer : goal.overflow_cast-buffer
overflow_cast-buffer c = omega (arith, few (goal.at.overflow_cast-buffer c).Start)

pub bounds-buffer-at : goal.bounds-buffer-at
bounds-buffer-at c =
    omega (arith, c.put_u32.auto.buffer, room (goal.at.bounds-buffer-at c).Start)

pub loop-i-init : goal.loop-i-init
loop-i-init c = put_first (term_bytes _) _ _ _

-- the buffer keeps its length
long : (c : At-loop-i) → length c.loop-i.buffer ≡ length c.args.buffer.now
long c = put_length (term_bytes _) _ _ _ c.loop-i.invariant
    ∙ (simp length-set c.put_u32.auto.buffer)

pub offset_bounds-m-i : goal.offset_bounds-m-i
offset_bounds-m-i c = omega (arith, few (goal.at.offset_bounds-m-i c).Start)

pub bounds-m-i : goal.bounds-m-i
bounds-m-i c = omega (arith, few (goal.at.bounds-m-i c).Start)

pub offset_bounds-m-i-in-loop-i : goal.offset_bounds-m-i-in-loop-i
offset_bounds-m-i-in-loop-i c = omega (arith, few (goal.at.offset_bounds-m-i-in-loop-i c).Start)

pub bounds-m-i-in-loop-i : goal.bounds-m-i-in-loop-i
bounds-m-i-in-loop-i c = omega (arith, few (goal.at.bounds-m-i-in-loop-i c).Start)

module _ (c : After-c-1) where
  abbrev held : Model
  held = c.args.m

  abbrev term : Term
  term = get_or (listed held) c.loop-i.i zero_term

  inside : c.loop-i.i < held.count
  inside = c.loop-i-test.true

  whole_count : held.count ≤ length (listed held)
  whole_count = omega (
    arith,
    whole c.before.before.before.before.before.before.before.before.before.before,
    few c.before.before.before.before.before.before.before.before.before.before,
  )

  key_is : get_or held.keys c.loop-i.i 0 ≡ term.key
  key_is = sym (key_at _ _ c.loop-i.i (even c.before.before.before.before.before.before.before.before.before.before))

  read_back : to_z w64 (of_z w64 (get_or held.coefficients c.loop-i.i (pos 0))) ≡ term.coefficient
  read_back = to_z-of_z {w = w64} (record { sfits = c.c-1.given })
      ∙ sym (P.coefficient_at _ _ c.loop-i.i (even
      c.before.before.before.before.before.before.before.before.before.before))

  here : get_or (held_model held).terms c.loop-i.i (held_term zero_term) ≡ held_term term
  here = term_at held c.loop-i.i zero_term inside whole_count

  below : c.loop-i.i < length (held_model held).terms
  below = omega (arith, inside, count_terms held)

  sized : c.term_bytes-size.result ≡ term_length held.n
  sized = c.term_bytes-size.ensures

  fits : c.loop-i.place + term_length held.n ≤ length c.loop-i.buffer
  fits =
      let e = put_length (term_bytes held.n) _ _ _ c.loop-i.invariant in
      omega (
        arith,
        put_room (term_bytes held.n) _ _ _ c.loop-i.invariant (held_term zero_term) (held_term term) below here
            (omega (
              arith,
              e,
              long c.before.before.before,
              room c.before.before.before.before.before.before.before.before.before.before,
              length_terms held.n (held_model held).terms,
              ap (λ k. term_length held.n * k) (count_terms held),
            )),
        length_term held.n (held_term term),
      )

pub put_term-requires : goal.put_term-requires
put_term-requires c =
    record {
      coefficient_bound = rw (read_back (goal.at.put_term-requires c).After-c-1)
          (coefficient_at (held (goal.at.put_term-requires c).After-c-1) c.requires.model_fits _ _
          (inside (goal.at.put_term-requires c).After-c-1) (whole_count (goal.at.put_term-requires c).After-c-1));
      n_in_bounds = fits (goal.at.put_term-requires c).After-c-1;
    }

pub overflow_add-place-in-loop-i : goal.overflow_add-place-in-loop-i
overflow_add-place-in-loop-i c =
    omega (
      arith,
      fits (goal.at.overflow_add-place-in-loop-i c).After-c-1,
      sized (goal.at.overflow_add-place-in-loop-i c).After-c-1,
      long (goal.at.overflow_add-place-in-loop-i c).At-loop-i,
      c.ranges,
    )

pub loop-i-preserved : goal.loop-i-preserved
unfolding held_term
loop-i-preserved c =
    put_iteration (term_bytes (held (goal.at.loop-i-preserved c).After-c-1).n) _ _ _ c.loop-i.invariant
    (held_term zero_term) (held_term (term (goal.at.loop-i-preserved c).After-c-1))
    (below (goal.at.loop-i-preserved c).After-c-1)
    (here (goal.at.loop-i-preserved c).After-c-1) _ _
    (c.put_term.ensures
    ∙ ap₂ (λ k z. sets c.loop-i.buffer c.loop-i.place
    (term_bytes (held (goal.at.loop-i-preserved c).After-c-1).n (record {
      key = k;
      coefficient = z;
    })))
    (key_is (goal.at.loop-i-preserved c).After-c-1) (read_back (goal.at.loop-i-preserved c).After-c-1))
    (ap (λ s. c.loop-i.place + s) (sized (goal.at.loop-i-preserved c).After-c-1
    ∙ sym (length_term (held (goal.at.loop-i-preserved c).After-c-1).n
    (held_term (term (goal.at.loop-i-preserved c).After-c-1)))))

-- ---- after the loop
pub shape_of-buffer : goal.shape_of-buffer
shape_of-buffer c = long (goal.at.shape_of-buffer c).At-loop-i

pub returns : goal.returns
unfolding held_model
returns c =
    let m = c.args.m in
    put_end (term_bytes _) _ _ _ c.loop-i.invariant (omega (arith, c.loop-i-test.false, count_terms m))
    ∙ ap (λ b. sets (set b (c.args.at + 4) m.count) (c.args.at + head_length)
    (join (map (term_bytes m.n) (held_model m).terms)))
    c.put_u32.ensures
    ∙ model_stores c.args.buffer.now c.args.at (held_model m) m.count (sym (count_terms m))
