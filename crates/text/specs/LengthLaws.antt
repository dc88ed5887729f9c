-- No text is longer than 4,096 bytes: numbers of at most 12 digits, lines of at most 41 bytes, at most 64 terms.
use Rattle.std.specs.Prelude.{◌≡◌, refl, Bool, ℕ, zero, suc, ◌+◌, ◌*◌, ◌/◌, ◌%◌, ◌^◌, ◌≤◌, ◌<◌, T, ℤ, pos, negsuc, nat_abs, ◌+ℤ◌, ◌-ℤ◌, neg_ℤ, take, drop}
use Rattle.std.proofs.Common.{◌∙◌, lit<}
use Rattle.std.proofs.Math.Path.{ap}
use Rattle.std.proofs.Math.Bool.{true, false}
use mathlib.Core.List.{List, [], ◌∷◌, ◌++◌, map}
use Rattle.std.proofs.Math.Decide.{dec_le}
use Rattle.std.proofs.Math.Nat as NatL
use native.Mathlib.Omega.{arith}
use Rattle.std.proofs.Math.ListN.{length, length-append}
use Rattle.std.proofs.Math.Seq.{take-append_seam}
use Rattle.algebra.specs.Integer.{natAbs_add, natAbs_neg}
use Rattle.polynomial.specs.Polynomial.{Term}
use Rattle.numbers.proofs.FixedLaws.{span_four_bytes}
use Rattle.calculus.specs.Monomial.{degree}
use Rattle.calculus.specs.Key.{key_width}
use Rattle.calculus.specs.Terms.{Terms, every, size, sum_over}
use Rattle.calculus_laws.specs.TermsLaws.{every_head, every_tail}
use Rattle.calculus.specs.Model.{Model, most_degree, most_terms, fits, sound, span}
use Rattle.calculus.specs.Refusal.{Refusal, bad_length, bad_mark, bad_limits, bad_offset, bad_model, bad_step}
use Rattle.calculus.specs.Refusal.{over_span, too_many_terms, leaves_box, variables_differ, short_buffer}
use Rattle.calculus.specs.Refusal.{uncertified, not_one_variable, cut_too_deep, bad_reading, bad_double, bad_rank}
use Rattle.calculus.specs.Refusal.{number, Result, done, stopped}
use Rattle.calculus.specs.Operations.{Ends, range, constant_part, below, above, integral, Mixed}
use Rattle.calculus.specs.Operations.{common_denominator, has_exact, exact_part}
use Rattle.calculus.specs.Book.{Summary, summary}
use Rattle.calculus_laws.specs.FitsLaws.{fits_length, fits_degree}
use Rattle.calculus_laws.specs.SoundLaws.{sound_parts}
use Rattle.model_types.specs.ModelStructLaws.{vars_range, sound_vars}
use Rattle.model.specs.OperationLaws.{below_within, above_within, ends_within, exact_within, exact_remainder}
use Rattle.format.specs.Bytes.{join}
use Rattle.format.specs.Format.{run_sheet}
use Rattle.format.specs.Lines.{text, decimal, signed_decimal, term_line, ends_line, radius_line, refusal_line}
use Rattle.format.specs.Lines.{exact_line, exact_lines, lines, printed}
use Rattle.format.specs.LinesLaws.{decimal_digit, decimal_more}
use Rattle.text_decimal.specs.Put.{natural, integer}
use Rattle.text_lines.specs.LineLaws.{line_end, radius_pieces, refusal_pieces, ends_pieces, term_pieces, lines_pieces}
use Rattle.text_lines.specs.LineLaws.{exact_pieces, refused_line}
use Rattle.text.specs.Text.{laid, most_text}
use Rattle.text.specs.TextLaws.{laid_whole}
use Rattle.text.specs.RefusalPlaceLaws.{near_sheet, near_place}
use Rattle.text.specs.PrintedRunLaws.{printed_run, accepted_run}

natAbs_sub : (z : ℤ) (n : ℕ) → nat_abs (z -ℤ pos n) ≤ nat_abs z + n
natAbs_sub z n = omega (arith, natAbs_add z (neg_ℤ (pos n)), natAbs_neg (pos n))

-- ---- numbers of up to k + 1 digits
decimal_length : (k x : ℕ) → x < 10 ^ suc k → length (decimal x) ≤ suc k
decimal_length zero x h = omega (arith, ap length (decimal_digit x (omega arith)))
decimal_length (suc k) x h = go (dec_le 10 x)
    (decimal_length k (x / 10) ((NatL.div-lt_iff_lt-mul (lit< tt)).1 (rw (NatL.pow-suc 10 (suc k)) at h)))
  where
    go : Dec (10 ≤ x) → length (decimal (x / 10)) ≤ suc k → length (decimal x) ≤ suc (suc k)
    go (no l) r = omega (arith, ap length (decimal_digit x (omega arith)))
    go (yes l) r =
        omega (arith, ap length (decimal_more x l), length-append (decimal (x / 10)) ((48 + x % 10) ∷ []))

natural_length : (k x : ℕ) → x < 10 ^ suc k → length (natural x) ≤ suc (suc k)
unfolding natural text
natural_length k x h = omega (arith, decimal_length k x h)

integer_length : (k : ℕ) (z : ℤ) → nat_abs z < 10 ^ suc k → length (integer z) ≤ suc (suc (suc k))
unfolding integer signed_decimal text
integer_length k (pos n) h = omega (arith, decimal_length k n h)
integer_length k (negsuc n) h = omega (arith, decimal_length k (suc n) h)

-- ---- lines
radius_length : (e : ℕ) → e < 10 ^ 10 → length (radius_line e) ≤ 18
unfolding text
radius_length e h =
    omega (arith, ap length (radius_pieces e), length-append (natural e) line_end, natural_length 9 e h)

refusal_length : (n i : ℕ) → n < 10 ^ 2 → i < 10 ^ 2 → length (refusal_line n i) ≤ 14
unfolding text
refusal_length n i h k = omega (
  arith,
  ap length (refusal_pieces n i),
  length-append (natural n) (natural i ++ line_end),
  length-append (natural i) line_end,
  natural_length 1 n h,
  natural_length 1 i k,
)

-- the two ends of a line, of up to k + 1 digits each
ends_length : (k : ℕ) (w : List ℕ) (e : Ends) → nat_abs e.low < 10 ^ suc k → nat_abs e.high < 10 ^ suc k
    → length (ends_line w e) ≤ length w + 2 * k + 7
unfolding text
ends_length k w e h l = omega (
  arith,
  ap length (ends_pieces w e),
  length-append w (integer e.low ++ (integer e.high ++ line_end)),
  length-append (integer e.low) (integer e.high ++ line_end),
  length-append (integer e.high) line_end,
  integer_length k e.low h,
  integer_length k e.high l,
)

exact_length : (x : Mixed) → nat_abs x.quotient < 10 ^ 12 → x.remainder < 10 ^ 9 → length (exact_line x) ≤ 30
unfolding text
exact_length x h l = omega (
  arith,
  ap length (exact_pieces x),
  length-append (integer x.quotient) (natural x.remainder ++ line_end),
  length-append (natural x.remainder) line_end,
  integer_length 11 x.quotient h,
  natural_length 8 x.remainder l,
)

exponents_length : (es : List ℕ) → degree es < 10 ^ 2 → length (join (map natural es)) ≤ 3 * length es
unfolding join degree
exponents_length [] h = omega arith
exponents_length (e ∷ es) h = omega (
  arith,
  length-append (natural e) (join (map natural es)),
  natural_length 1 e (omega arith),
  exponents_length es (omega arith),
)

term_length : (t : Term ℤ) → length t.exponents ≤ 8 → degree t.exponents < 10 ^ 2
    → nat_abs t.coefficient < 10 ^ 10 → length (term_line t) ≤ 41
unfolding text
term_length t h d c = omega (
  arith,
  ap length (term_pieces t),
  length-append (join (map natural t.exponents)) (integer t.coefficient ++ line_end),
  length-append (integer t.coefficient) line_end,
  exponents_length t.exponents d,
  integer_length 9 t.coefficient c,
)

terms_length : (n d : ℕ) (p : Terms) → n ≤ 8 → d < 10 ^ 2 → T (every (λ k c. fits n d k) p) → size p < 10 ^ 10
    → length (join (map term_line p)) ≤ 41 * length p
unfolding join size sum_over
terms_length n d [] w o f s = omega arith
terms_length n d (t ∷ p) w o f s = omega (
  arith,
  length-append (term_line t) (join (map term_line p)),
  head (every_head (λ k c. fits n d k) t p f),
  terms_length n d p w o (every_tail (λ k c. fits n d k) t p f) (omega arith),
)
  where
    head : T (fits n d t.exponents) → length (term_line t) ≤ 41
    head h = term_length t (omega (arith, fits_length n d t.exponents h))
        (omega (arith, fits_degree n d t.exponents h))
        (omega arith)

-- ---- the lines of a sound model
module _ (m : Model) (h : T (sound most_degree m)) where
  small : span m < 2 ^ 31
  small = omega (arith, (sound_parts most_degree m h).1.small_span, span_four_bytes)

  width : m.vars ≤ 8
  unfolding key_width
  width = (vars_range m.vars (sound_vars most_degree m h)).1

  terms_small : length (join (map term_line m.terms)) ≤ 2624
  unfolding span most_degree most_terms
  terms_small = omega (
    arith,
    (sound_parts most_degree m h).1.count,
    terms_length m.vars most_degree m.terms width (omega arith) (sound_parts most_degree m h).0.fitting
        (omega (arith, small)),
  )

  range_small : length (ends_line (text "range") (range m)) ≤ 30
  unfolding range text
  range_small = omega (
    arith,
    ends_length 9 (text "range") (range m)
        (omega (arith, small, below_within m, natAbs_sub (constant_part m) (below m)))
        (omega (arith, small, above_within m, natAbs_add (constant_part m) (pos (above m)))),
  )

  volume : span m * 2 ^ m.vars ≤ 2 ^ 31 * 2 ^ 8
  volume = NatL.mul-le-mul {n₂ = 2 ^ 31} (omega (arith, small))
      (NatL.pow-le-pow_right {n = 2} (lit< tt) {i = m.vars} {j = 8} width)

  integral_small : length (ends_line (text "integral") (integral m)) ≤ 37
  unfolding text
  integral_small = omega (
    arith,
    ends_length 11 (text "integral") (integral m)
        (omega (arith, volume, (ends_within m).0)) (omega (arith, volume, (ends_within m).1)),
  )

  exact_small : length (exact_lines m.vars (exact_part m)) ≤ 30
  unfolding exact_lines
  exact_small = go (has_exact m.vars)
    where
      go : (b : Bool) → length {A = ℕ} (elim b as (λ b. List ℕ) [ true ↦ exact_line (exact_part m) | false ↦ [] ]) ≤ 30
      go true = exact_length (exact_part m) (omega (arith, volume, exact_within m))
          (unfold common_denominator in omega (arith, exact_remainder m))
      go false = omega arith

  summary_length : length (lines (done (summary m))) ≤ 2739
  unfolding summary span
  summary_length = omega (
    arith,
    ap length (lines_pieces (summary m)),
    length-append (radius_line m.radius) (join (map term_line m.terms)
        ++ (ends_line (text "range") (range m)
        ++ (ends_line (text "integral") (integral m) ++ exact_lines m.vars (exact_part m)))),
    length-append (join (map term_line m.terms))
        (ends_line (text "range") (range m)
        ++ (ends_line (text "integral") (integral m) ++ exact_lines m.vars (exact_part m))),
    length-append (ends_line (text "range") (range m))
        (ends_line (text "integral") (integral m) ++ exact_lines m.vars (exact_part m)),
    length-append (ends_line (text "integral") (integral m)) (exact_lines m.vars (exact_part m)),
    radius_length m.radius (omega (arith, small)),
    terms_small,
    range_small,
    integral_small,
    exact_small,
  )

-- ---- the text of any sheet
number_small : (r : Refusal) → number r < 10 ^ 2
unfolding number
number_small bad_length = lit< tt
number_small bad_mark = lit< tt
number_small bad_limits = lit< tt
number_small bad_offset = lit< tt
number_small bad_model = lit< tt
number_small bad_step = lit< tt
number_small over_span = lit< tt
number_small too_many_terms = lit< tt
number_small leaves_box = lit< tt
number_small variables_differ = lit< tt
number_small short_buffer = lit< tt
number_small uncertified = lit< tt
number_small not_one_variable = lit< tt
number_small cut_too_deep = lit< tt
number_small bad_reading = lit< tt
number_small bad_double = lit< tt
number_small bad_rank = lit< tt

lines_length : (s : List ℕ) (x : Result Summary) → run_sheet s ≡ x → length (lines x) ≤ most_text
unfolding most_text
lines_length s (done r) e =
    let a = accepted_run s r e in
    omega (arith, ap (λ t. length (lines (done t))) a.is_summary, summary_length r.model a.model)
lines_length s (stopped r i) e = omega (
  arith,
  ap length (refused_line r i),
  refusal_length (number r) i (number_small r) (omega (arith, near_place (near_sheet s) e)),
)

-- THEOREM: the text of any sheet, whatever its bytes, fits a buffer of that size
pub text_length : (s : List ℕ) → length (printed s) ≤ most_text
text_length s = omega (arith, ap length (printed_run s), lines_length s (run_sheet s) refl)

-- so a buffer that is as long begins with the whole text, and the rest of it stays
pub text_whole : (s buffer : List ℕ) → most_text ≤ length buffer
    → laid (printed s) buffer ≡ printed s ++ drop (length (printed s)) buffer
text_whole s buffer h = laid_whole (printed s) buffer (omega (arith, text_length s))

-- and what is taken of it by the answered length is the text
pub text_taken : (s buffer : List ℕ) → most_text ≤ length buffer
    → take (length (printed s)) (laid (printed s) buffer) ≡ printed s
text_taken s buffer h = ap (take (length (printed s))) (text_whole s buffer h) ∙ take-append_seam (printed s) _
