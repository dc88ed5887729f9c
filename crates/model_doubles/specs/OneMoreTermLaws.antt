-- A term stored after those of a packed model.
use Rattle.std.specs.Prelude.{◌≡◌, refl, true, false, not, List, [], ◌∷◌, ◌++◌, map, ℕ, ◌+◌, ◌<◌, T, ℤ, length, set}
use Rattle.std.proofs.Common.{sym, ◌∙◌, ap, subst, append-nil, arith, length-append}
use Rattle.calculus.specs.Key.{key_width, key_limit, monomial_of}
use Rattle.calculus.specs.Terms.{term, is_nonzero, drop_zeros, select}
use Rattle.calculus.specs.Model as C
use Rattle.calculus.specs.Model.{most_terms}
use Rattle.model_types.specs.declared.Term.{Term}
use Rattle.model_types.specs.declared.Model.{Model}
use Rattle.model_types.specs.ModelStruct.{pack, pack_term, pad, keys_of, coefficients_of, of_terms}
use Rattle.model_types.specs.ModelStructLaws.{select_in, select_out, packed_more, pack_key}
use Rattle.model_types.specs.PairedLaws.{Listed, listed_set, listed_struct}
use Rattle.model_doubles.specs.DoublesStruct.{with_term}

dropped : (c : ℤ) (k : List ℕ) → is_nonzero c ≡ false → drop_zeros (term c k ∷ []) ≡ []
unfolding drop_zeros select
dropped c k e = select_out (λ k c. is_nonzero c) [] (term c k) (subst (λ b. T (not b)) (sym e) tt)

kept : (c : ℤ) (k : List ℕ) → is_nonzero c ≡ true → drop_zeros (term c k ∷ []) ≡ term c k ∷ []
unfolding drop_zeros select
kept c k e = select_in (λ k c. is_nonzero c) [] (term c k) (subst T (sym e) tt)

-- a coefficient of 0 leaves no term
pub with_none : (m : Model) (o : C.Model) (z : ℕ) (c : ℤ) → is_nonzero c ≡ false → m ≡ pack o
    → m ≡ pack (with_term z c o)
unfolding with_term
with_none m o z c e h = h ∙ ap (λ p. pack (record { vars = o.vars; radius = o.radius; terms = p }))
    (sym (ap (λ p. o.terms ++ p) (dropped c _ e) ∙ append-nil o.terms))

-- any other is stored at the count
pub with_one : (m : Model) (o : C.Model) (z : ℕ) (c : ℤ) → is_nonzero c ≡ true → m.n ≡ 1 → m.count < 64
    → z < key_limit → m ≡ pack o
    → record {
      n = m.n;
      count = m.count + 1;
      radius = m.radius;
      keys = set m.keys m.count z;
      coefficients = set m.coefficients m.count c;
    } ≡ pack (with_term z c o)
unfolding with_term pack most_terms key_width
with_one m o z c e n l k h =
    let vars : o.vars ≡ 1 = sym (ap (λ m. m.n) h) ∙ n in
    let room : length o.terms < 64 = subst (λ i. i < 64) (ap (λ m. m.count) h) l in
    let own : Listed (keys_of held) (coefficients_of held) held = record { keys_are = refl; coefficients_are = refl } in
    ap stored h
    ∙ listed_struct (listed_set own (length o.terms) z c) o.vars (length o.terms + 1) o.radius
    ∙ ap (λ t. of_terms o.vars (length o.terms + 1) o.radius (set held (length o.terms) t))
    (sym (pack_key o.vars z c (omega arith) k))
    ∙ ap (λ l. of_terms o.vars (length o.terms + 1) o.radius l)
    (packed_more o.terms (length o.terms) (term c (monomial_of o.vars z)) refl room)
    ∙ ap (λ i. of_terms o.vars i o.radius
    (pad (map pack_term (o.terms ++ (term c (monomial_of o.vars z) ∷ [])))))
    (sym (length-append o.terms (term c (monomial_of o.vars z) ∷ [])))
    ∙ ap (λ p. pack (record { vars = o.vars; radius = o.radius; terms = o.terms ++ p })) (sym (kept c _ e))
  where
    held : List Term
    held = pad (map pack_term o.terms)

    stored : Model → Model
    stored m = record {
      n = m.n;
      count = m.count + 1;
      radius = m.radius;
      keys = set m.keys m.count z;
      coefficients = set m.coefficients m.count c;
    }
