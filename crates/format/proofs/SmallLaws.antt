-- The numbers of a held book that passes the tests fit the bytes that a sheet has for them.
use Rattle.std.specs.Prelude.{◌≡◌, Bool, true, false, cond, ◌&&◌, ◌||◌, List, ◌∷◌, map, ℕ, ◌+◌, ◌%◌, ◌^◌, ◌<◌, ◌≤◌, T, eqb, leb, ltb, ℤ, nat_abs, length}
use Rattle.std.proofs.Common.{subst, arith, leb→le, eqb→eq, ltb→lt}
use Rattle.std.specs.Int.Signed.{non_neg}
use Rattle.std.proofs.lemmas.List.{length-map}
use Rattle.numbers.specs.Fixed.{span_limit}
use Rattle.numbers.proofs.FixedLaws.{span_four_bytes}
use Rattle.calculus.specs.Key.{key_width, key_limit, short_width, short_key, key_fits, monomial_of}
use Rattle.calculus.specs.Terms.{every, sum_over, size}
use Rattle.calculus.specs.Model.{most_terms, span, fits}
use Rattle.calculus.specs.Tests.{constant_sound, variable_sound, threshold_sound}
use Rattle.calculus.specs.Book.{last_code, Book, model_sound}
use Rattle.calculus_laws.specs.TestLaws.{and_left, and_right}
use Rattle.calculus_laws.specs.MonomialKeyLaws.{fits_below, fits_key, fits_short}
use Rattle.calculus_laws.specs.SoundLaws.{Sound, sound_parts}
use Rattle.calculus_laws.specs.BookLaws.{between_high}
use Rattle.format.specs.HeldBook.{HeldTerm, HeldModel, HeldStep, view_held_term, view_model}
use Rattle.format.specs.HeldBook.{held_model_sound, held_step_sound}
use Rattle.format.specs.Format.{short_keys}
use Rattle.format.specs.Fields.{limit_a, limit_b, names_variable, v_sound, earlier, value_sound}
use Rattle.format.proofs.StepFieldLaws.{Fields, fields_of}

-- ---- the numbers of a model that passes
pub record ModelFacts (n d : ℕ) (m : HeldModel) : Type 0 where
  pub same_n : m.n ≡ n
  pub count : length m.terms ≤ 64
  pub fitting : T (every (λ k c. fits n d k) (map (view_held_term n) m.terms))
  pub small_span : size (map (view_held_term n) m.terms) + m.radius ≤ span_limit

pub model_facts : (b : Book) (m : HeldModel) → T (held_model_sound b m) → ModelFacts b.vars b.order m
unfolding held_model_sound model_sound view_model most_terms span
model_facts b m h = record {
  same_n = same_n;
  count = rw (length-map m.terms (view_held_term m.n)) at parts.1.count;
  fitting = subst (λ n. T (every (λ k c. fits n b.order k) (map (view_held_term n) m.terms))) same_n
      parts.0.fitting;
  small_span = subst (λ n. size (map (view_held_term n) m.terms) + m.radius ≤ span_limit) same_n
      parts.1.small_span;
}
  where
    same_n : m.n ≡ b.vars
    same_n = eqb→eq m.n b.vars (and_left (eqb m.n b.vars) _ h)

    parts : Sound m.n b.order (view_model m)
    parts = sound_parts b.order (view_model m) (and_right (eqb m.n b.vars) _ h)

pub record TermFacts (n d : ℕ) (t : HeldTerm) (ts : List HeldTerm) : Type 0 where
  pub key : t.key < key_limit
  pub short : T (short_keys n) → t.key % short_key ≡ 0
  pub coefficient : nat_abs t.coefficient ≤ size (map (view_held_term n) (t ∷ ts))
  pub size_rest : size (map (view_held_term n) ts) ≤ size (map (view_held_term n) (t ∷ ts))
  pub fitting_rest : T (every (λ k c. fits n d k) (map (view_held_term n) ts))

pub term_facts : (n d : ℕ) (t : HeldTerm) (ts : List HeldTerm) → n ≤ key_width → d ≤ 15
    → T (every (λ k c. fits n d k) (map (view_held_term n) (t ∷ ts))) → TermFacts n d t ts
unfolding every size sum_over view_held_term
term_facts n d t ts l u h = record {
  key = fits_below n t.key key_fitting;
  short = λ e. unfold short_keys in fits_short n t.key (leb→le n short_width e) key_fitting;
  coefficient = omega arith;
  size_rest = omega arith;
  fitting_rest = and_right (fits n d (monomial_of n t.key)) _ h;
}
  where
    key_fitting : T (key_fits key_width n t.key)
    key_fitting = fits_key n d t.key l (omega arith) (and_left (fits n d (monomial_of n t.key)) _ h)

-- ---- the numbers of a step that passes
pub record StepFacts (s : HeldStep) : Type 0 where
  pub code : s.code ≤ last_code
  pub a : s.a < 256
  pub b : s.b < 256
  pub v : s.v < 256
  pub value : nat_abs s.value < 2 ^ 31

-- the limits of its fields are small
pub under_cond : (t : Bool) (x y k : ℕ) → x ≤ k → y ≤ k → cond t x y ≤ k
under_cond true x y k p q = p
under_cond false x y k p q = q

v_small : (t u : Bool) (n i v k : ℕ) → n ≤ k → i ≤ k
    → T (cond t (variable_sound n v) (cond u (ltb v i) (eqb v 0))) → v ≤ k
unfolding variable_sound
v_small true u n i v k p q h = let l = between_high 1 n v h in omega arith
v_small false true n i v k p q h = let l = ltb→lt v i h in omega arith
v_small false false n i v k p q h = let e = eqb→eq v 0 h in omega arith

in_span : (z : ℤ) → T (leb (nat_abs z) span_limit) → nat_abs z < 2 ^ 31
in_span z h = omega (arith, leb→le (nat_abs z) span_limit h, span_four_bytes)

value_small : (t u w : Bool) (i : ℕ) (z : ℤ) → i ≤ 64
    → T (cond t (constant_sound z) (cond u (threshold_sound z) (cond w (earlier i z) (eqb (nat_abs z) 0))))
    → nat_abs z < 2 ^ 31
unfolding constant_sound threshold_sound earlier
value_small true u w i z q h = in_span z h
value_small false true w i z q h = in_span z (and_right (non_neg z) _ h)
value_small false false true i z q h = let l = ltb→lt (nat_abs z) i (and_right (non_neg z) _ h) in omega arith
value_small false false false i z q h = let e = eqb→eq (nat_abs z) 0 h in omega arith

pub step_facts : (b : Book) (i : ℕ) (s : HeldStep) → i ≤ 64 → length b.models ≤ 16 → b.vars ≤ key_width
    → T (held_step_sound b i s) → StepFacts s
unfolding limit_a limit_b v_sound value_sound key_width
step_facts b i s li lm ln h = record {
  code = leb→le s.code last_code p.in_code;
  a = let l = ltb→lt s.a _ p.in_a in
      let k = under_cond (eqb s.code 0) (length b.models) (cond (leb 3 s.code) i 1) 64 (omega arith)
      (under_cond (leb 3 s.code) i 1 64 li (omega arith)) in omega arith;
  b = let l = ltb→lt s.b _ p.in_b in
      let k = under_cond ((leb 4 s.code && leb s.code 7) || eqb s.code 9) i 1 64 li (omega arith) in
      omega arith;
  v = let l = v_small (names_variable s.code) (eqb s.code 9) b.vars i s.v 64 (omega arith) li
      p.in_v in omega arith;
  value = value_small (eqb s.code 1) (eqb s.code 8) (eqb s.code 9) i s.value li p.in_value;
}
  where
    p : Fields b i s
    p = fields_of b i s h
