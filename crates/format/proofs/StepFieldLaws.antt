-- Test 6 is that of the fields one by one.
use Rattle.std.specs.Prelude.{◌≡◌, Bool, true, false, ◌&&◌, eqb, leb, ltb, ℤ, pos, negsuc, nat_abs, length}
use Rattle.std.proofs.Math.Path.{refl}
use Rattle.std.proofs.Common.{sym, subst, ltb→lt, lt→ltb}
use Rattle.std.proofs.Math.Option.{Option, some, none}
use Prim.Native.Nat.{ℕ, zero, suc, ◌+◌, ◌<◌}
use native.Mathlib.Omega.{arith}
use Rattle.std.proofs.Math.Dec.{T, eqb→eq}
use Rattle.std.proofs.lemmas.Bool.{lt-leb}
use Rattle.std.proofs.Math.ListN.{get_elem?}
use Rattle.std.specs.Int.Signed.{non_neg}
use Rattle.algebra.specs.Integer.{minus}
use Rattle.calculus.specs.Tests.{constant_sound, variable_sound, threshold_sound}
use Rattle.calculus.specs.Book.{Step, input, constant, variable, negate, add, subtract, multiply, substitute, sweep}
use Rattle.calculus.specs.Book.{quotient, antiderivative, last_code, Book, step_sound}
use Rattle.calculus_laws.specs.TestLaws.{and_left, and_right, both, same_tests}
use Rattle.format.specs.HeldBook.{HeldStep, Form, form, forms, step_of, view_step, held_step_sound}
use Rattle.format.specs.Fields.{limit_a, limit_b, names_variable, v_sound, earlier, value_sound, fields_sound}

-- ---- the two tests agree, code by code
-- a form that gives a step passes with it
record Passing (b : Book) (i : ℕ) (f : Form) : Type 0 where
  unnamed : f.unnamed ≡ 0
  passes : T (step_sound b i f.step)

passing : (b : Book) (i : ℕ) (f : Form)
    → T (elim (step_of (some f)) as (λ o. Bool) [ some t ↦ step_sound b i t | none ↦ false ]) → Passing b i f
unfolding step_of
passing b i f h = go (eqb f.unnamed 0) refl h
  where
    go : (t : Bool) → eqb f.unnamed 0 ≡ t → T (elim (elim t as (λ t. Option Step)
        [ true ↦ some f.step | false ↦ none ]) as (λ o. Bool) [ some t ↦ step_sound b i t | none ↦ false ])
        → Passing b i f
    go true e k = record { unnamed = eqb→eq f.unnamed 0 (subst T (sym e) tt); passes = k }
    go false e k = absurd k

is_zero : (x : ℕ) → x ≡ 0 → T (eqb x 0)
is_zero x e = subst (λ y. T (eqb y 0)) (sym e) tt

below_one : (x : ℕ) → x ≡ 0 → T (ltb x 1)
below_one x e = lt→ltb x 1 (omega arith)

under_one : (x : ℕ) → T (ltb x 1) → x ≡ 0
under_one x h = let l = ltb→lt x 1 h in omega arith

-- no part below 0
not_below : (z : ℤ) → minus z ≡ 0 → T (non_neg z)
not_below (pos n) e = tt
not_below (negsuc n) e = absurd (omega arith)

none_below : (z : ℤ) → T (non_neg z) → minus z ≡ 0
none_below (pos n) h = refl
none_below (negsuc n) h = absurd h

-- the tests of a, b, v and value
record Four (A B C D : Bool) : Type 0 where
  in_a : T A
  in_b : T B
  in_v : T C
  in_value : T D

four : (A B C D : Bool) → Four A B C D → T (A && B && C && D)
four A B C D p = both (A && B && C) D (both (A && B) C (both A B p.in_a p.in_b) p.in_v) p.in_value

parts : (A B C D : Bool) → T (A && B && C && D) → Four A B C D
parts A B C D h = record {
  in_a = and_left A B (and_left (A && B) C (and_left (A && B && C) D h));
  in_b = and_right A B (and_left (A && B) C (and_left (A && B && C) D h));
  in_v = and_right (A && B) C (and_left (A && B && C) D h);
  in_value = and_right (A && B && C) D h;
}

module _ (b : Book) (i : ℕ) (s : HeldStep) where
  abbrev accepts : Option Step → Bool
  accepts o = elim o as (λ o. Bool) [ some t ↦ step_sound b i t | none ↦ false ]

  -- a form passes with the tests of its fields
  by_form : (f : Form) (A B C D : Bool) → (Passing b i f → Four A B C D) → (Four A B C D → Passing b i f)
      → accepts (step_of (some f)) ≡ (A && B && C && D)
  unfolding step_of
  by_form f A B C D to from = same_tests (accepts (step_of (some f))) (A && B && C && D)
      (λ h. four A B C D (to (passing b i f h)))
      (λ h. go (from (parts A B C D h)))
    where
      go : Passing b i f → T (accepts (step_of (some f)))
      go p = rw (p.unnamed, step_of) p.passes

  abbrev size : ℕ
  size = nat_abs s.value

  abbrev a_before : Bool
  a_before = ltb s.a i

  abbrev b_before : Bool
  b_before = ltb s.b i

  -- only a is named
  one_operand : (x : Step) (t : Bool) → step_sound b i x ≡ t
      → accepts (step_of (some (form (s.b + s.v + size) x))) ≡ (t && ltb s.b 1 && eqb s.v 0 && eqb size 0)
  one_operand x t e = by_form (form (s.b + s.v + size) x) t (ltb s.b 1) (eqb s.v 0) (eqb size 0)
      (λ p. record {
        in_a = subst T e p.passes;
        in_b = below_one s.b (omega (arith, p.unnamed));
        in_v = is_zero s.v (omega (arith, p.unnamed));
        in_value = is_zero size (omega (arith, p.unnamed));
      })
      (λ q. record {
        unnamed = omega (
          arith,
          under_one s.b q.in_b,
          eqb→eq s.v 0 q.in_v,
          eqb→eq size 0 q.in_value,
        );
        passes = subst T (sym e) q.in_a;
      })

  -- a and b are named
  two_operands : (x : Step) → step_sound b i x ≡ (a_before && b_before)
      → accepts (step_of (some (form (s.v + size) x))) ≡ (a_before && b_before && eqb s.v 0 && eqb size 0)
  two_operands x e = by_form (form (s.v + size) x) a_before b_before (eqb s.v 0) (eqb size 0)
      (λ p. record {
        in_a = and_left a_before b_before (subst T e p.passes);
        in_b = and_right a_before b_before (subst T e p.passes);
        in_v = is_zero s.v (omega (arith, p.unnamed));
        in_value = is_zero size (omega (arith, p.unnamed));
      })
      (λ q. record {
        unnamed = omega (arith, eqb→eq s.v 0 q.in_v, eqb→eq size 0 q.in_value);
        passes = subst T (sym e) (both a_before b_before q.in_a q.in_b);
      })

  by_constant : accepts (step_of (some (form (s.a + s.b + s.v) (constant s.value))))
      ≡ (ltb s.a 1 && ltb s.b 1 && eqb s.v 0 && constant_sound s.value)
  unfolding step_sound
  by_constant = by_form (form (s.a + s.b + s.v) (constant s.value))
      (ltb s.a 1) (ltb s.b 1) (eqb s.v 0) (constant_sound s.value)
      (λ p. record {
        in_a = below_one s.a (omega (arith, p.unnamed));
        in_b = below_one s.b (omega (arith, p.unnamed));
        in_v = is_zero s.v (omega (arith, p.unnamed));
        in_value = p.passes;
      })
      (λ q. record {
        unnamed = omega (
          arith,
          under_one s.a q.in_a,
          under_one s.b q.in_b,
          eqb→eq s.v 0 q.in_v,
        );
        passes = q.in_value;
      })

  by_variable : accepts (step_of (some (form (s.a + s.b + size) (variable s.v))))
      ≡ (ltb s.a 1 && ltb s.b 1 && variable_sound b.vars s.v && eqb size 0)
  unfolding step_sound
  by_variable = by_form (form (s.a + s.b + size) (variable s.v))
      (ltb s.a 1) (ltb s.b 1) (variable_sound b.vars s.v) (eqb size 0)
      (λ p. record {
        in_a = below_one s.a (omega (arith, p.unnamed));
        in_b = below_one s.b (omega (arith, p.unnamed));
        in_v = p.passes;
        in_value = is_zero size (omega (arith, p.unnamed));
      })
      (λ q. record {
        unnamed = omega (
          arith,
          under_one s.a q.in_a,
          under_one s.b q.in_b,
          eqb→eq size 0 q.in_value,
        );
        passes = q.in_v;
      })

  by_substitute : accepts (step_of (some (form size (substitute s.a s.b s.v))))
      ≡ (a_before && b_before && variable_sound b.vars s.v && eqb size 0)
  unfolding step_sound
  by_substitute = by_form (form size (substitute s.a s.b s.v))
      a_before b_before (variable_sound b.vars s.v) (eqb size 0)
      (λ p. let two = and_left (a_before && b_before) _ p.passes in record {
        in_a = and_left a_before b_before two;
        in_b = and_right a_before b_before two;
        in_v = and_right (a_before && b_before) _ p.passes;
        in_value = is_zero size p.unnamed;
      })
      (λ q. record {
        unnamed = eqb→eq size 0 q.in_value;
        passes = both (a_before && b_before) _ (both a_before b_before q.in_a q.in_b) q.in_v;
      })

  by_sweep : accepts (step_of (some (form (s.b + s.v) (sweep s.a s.value))))
      ≡ (a_before && ltb s.b 1 && eqb s.v 0 && threshold_sound s.value)
  unfolding step_sound
  by_sweep = by_form (form (s.b + s.v) (sweep s.a s.value))
      a_before (ltb s.b 1) (eqb s.v 0) (threshold_sound s.value)
      (λ p. record {
        in_a = and_left a_before _ p.passes;
        in_b = below_one s.b (omega (arith, p.unnamed));
        in_v = is_zero s.v (omega (arith, p.unnamed));
        in_value = and_right a_before _ p.passes;
      })
      (λ q. record {
        unnamed = omega (arith, under_one s.b q.in_b, eqb→eq s.v 0 q.in_v);
        passes = both a_before _ q.in_a q.in_value;
      })

  by_quotient : accepts (step_of (some (form (minus s.value) (quotient s.a s.b s.v size))))
      ≡ (a_before && b_before && ltb s.v i && earlier i s.value)
  unfolding step_sound earlier
  by_quotient = by_form (form (minus s.value) (quotient s.a s.b s.v size))
      a_before b_before (ltb s.v i) (earlier i s.value)
      (λ p.
      let q = parts a_before b_before (ltb s.v i) (ltb size i) p.passes in record {
        in_a = q.in_a;
        in_b = q.in_b;
        in_v = q.in_v;
        in_value = both (non_neg s.value) (ltb size i) (not_below s.value p.unnamed) q.in_value;
      })
      (λ q. record {
        unnamed = none_below s.value (and_left (non_neg s.value) (ltb size i) q.in_value);
        passes = four a_before b_before (ltb s.v i) (ltb size i) (record {
          in_a = q.in_a;
          in_b = q.in_b;
          in_v = q.in_v;
          in_value = and_right (non_neg s.value) (ltb size i) q.in_value;
        });
      })

  by_antiderivative : accepts (step_of (some (form (s.b + size) (antiderivative s.a s.v))))
      ≡ (a_before && ltb s.b 1 && variable_sound b.vars s.v && eqb size 0)
  unfolding step_sound
  by_antiderivative = by_form (form (s.b + size) (antiderivative s.a s.v))
      a_before (ltb s.b 1) (variable_sound b.vars s.v) (eqb size 0)
      (λ p. record {
        in_a = and_left a_before _ p.passes;
        in_b = below_one s.b (omega (arith, p.unnamed));
        in_v = and_right a_before _ p.passes;
        in_value = is_zero size (omega (arith, p.unnamed));
      })
      (λ q. record {
        unnamed = omega (arith, under_one s.b q.in_b, eqb→eq size 0 q.in_value);
        passes = both a_before _ q.in_a q.in_v;
      })

  beyond : last_code < s.code → accepts (step_of none) ≡ fields_sound b.vars (length b.models) i s
  unfolding step_of fields_sound
  beyond l = rw (lt-leb s.code last_code l)

  by_code : (c : ℕ) → s.code ≡ c
      → accepts (step_of (get_elem? (forms s) c)) ≡ fields_sound b.vars (length b.models) i s
  unfolding forms step_sound fields_sound limit_a limit_b names_variable v_sound value_sound
  by_code zero e = rw e (one_operand (input s.a) (ltb s.a (length b.models)) refl)
  by_code (suc zero) e = rw e by_constant
  by_code (suc (suc zero)) e = rw e by_variable
  by_code (suc (suc (suc zero))) e = rw e (one_operand (negate s.a) a_before refl)
  by_code (suc (suc (suc (suc zero)))) e = rw e (two_operands (add s.a s.b) refl)
  by_code (suc (suc (suc (suc (suc zero))))) e = rw e (two_operands (subtract s.a s.b) refl)
  by_code (suc (suc (suc (suc (suc (suc zero)))))) e = rw e (two_operands (multiply s.a s.b) refl)
  by_code (suc (suc (suc (suc (suc (suc (suc zero))))))) e = rw e by_substitute
  by_code (suc (suc (suc (suc (suc (suc (suc (suc zero)))))))) e = rw e by_sweep
  by_code (suc (suc (suc (suc (suc (suc (suc (suc (suc zero))))))))) e = rw e by_quotient
  by_code (suc (suc (suc (suc (suc (suc (suc (suc (suc (suc zero)))))))))) e = rw e by_antiderivative
  by_code (suc (suc (suc (suc (suc (suc (suc (suc (suc (suc (suc c))))))))))) e = beyond (omega arith)

  -- THEOREM: test 6 is that of all fields
  pub step_by_fields : held_step_sound b i s ≡ fields_sound b.vars (length b.models) i s
  unfolding held_step_sound view_step
  step_by_fields = by_code s.code refl

-- each code has a form, and no other number has one
pub forms_counted : (s : HeldStep) → length (forms s) ≡ suc last_code
unfolding forms
forms_counted s = refl

-- what it says of each
pub record Fields (b : Book) (i : ℕ) (s : HeldStep) : Type 0 where
  pub in_code : T (leb s.code last_code)
  pub in_a : T (ltb s.a (limit_a (length b.models) i s.code))
  pub in_b : T (ltb s.b (limit_b i s.code))
  pub in_v : T (v_sound b.vars i s.code s.v)
  pub in_value : T (value_sound i s.code s.value)

pub fields_of : (b : Book) (i : ℕ) (s : HeldStep) → T (held_step_sound b i s) → Fields b i s
unfolding fields_sound
fields_of b i s h = record {
  in_code = and_left code a (and_left (code && a) c (and_left (code && a && c) v (and_left (code && a && c && v) _ k)));
  in_a = and_right code a (and_left (code && a) c (and_left (code && a && c) v (and_left (code && a && c && v) _ k)));
  in_b = and_right (code && a) c (and_left (code && a && c) v (and_left (code && a && c && v) _ k));
  in_v = and_right (code && a && c) v (and_left (code && a && c && v) _ k);
  in_value = and_right (code && a && c && v) _ k;
}
  where
    code : Bool
    code = leb s.code last_code

    a : Bool
    a = ltb s.a (limit_a (length b.models) i s.code)

    c : Bool
    c = ltb s.b (limit_b i s.code)

    v : Bool
    v = v_sound b.vars i s.code s.v

    k : T (fields_sound b.vars (length b.models) i s)
    k = subst T (step_by_fields b i s) h
