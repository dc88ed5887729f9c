-- The outcomes of earlier steps stay; an outcome that is made as a polynomial has its value; where the inputs are
-- polynomials, what no quotient feeds is made as one, so that what is promised can be integrated; as functions,
-- polynomials give what their values give.
use Rattle.std.specs.Prelude.{◌≡◌, Bool, not, ◌&&◌, ◌||◌, pos}
use Rattle.std.proofs.Math.Path.{refl, sym, ap, ap₂, subst}
use Rattle.std.proofs.Common.{◌∙◌, length-append}
use Rattle.std.proofs.Math.Bool.{true, false}
use mathlib.Core.List.{List, [], ◌∷◌, ◌++◌}
use Rattle.std.proofs.Math.Option.{Option, some, none}
use Prim.Native.Nat.{ℕ, suc, ◌<◌}
use native.Mathlib.Omega.{arith}
use Rattle.std.proofs.Math.Dec.{T, ltb, ltb→lt}
use Rattle.std.proofs.Math.ListN.{length, get_or, get_or-append}
use Rattle.algebra.specs.RingSolver.{𝟎, 𝟏, ◌⊞◌, ◌⊠◌, ring}
use Rattle.algebra.proofs.Rational.{◌+ℚ◌, ◌*ℚ◌, negℚ, whole, ◌/ℚ◌}
use Rattle.algebra.proofs.RationalRing.{ℚR}
use Rattle.polynomial.specs.Polynomial as P
use Rattle.polynomial.specs.Polynomial.{eval}
use Rattle.polynomial.proofs.PolynomialLaws.{eval_sum, eval_constant, eval_negation, eval_product, eval_substitute}
use Rattle.calculus.specs.Monomial.{index_of, single}
use Rattle.calculus.specs.Model.{◌-ℚ◌, Point}
use Rattle.calculus.specs.Tests.{variable_sound}
use Rattle.calculus.specs.Book.{Step, input, constant, variable, negate, add, subtract, multiply, substitute}
use Rattle.calculus.specs.Book.{sweep, quotient, antiderivative, operands, Book, step_sound, last}
use Rattle.calculus.specs.Functions.{Function, coordinate, with_coordinate, ℚPolynomial, value_of}
use Rattle.claim.specs.Outcome.{Outcome, Inputs, functions, polynomials, input_outcome, step_value, mapped}
use Rattle.claim.specs.Outcome.{joined, step_polynomial, step_outcome, zero_outcome, outcome_of, outcomes_after}
use Rattle.claim.specs.Outcome.{outcomes, outcome, is_quotient, is_antiderivative, each_step, no_quotient}
use Rattle.claim.specs.Outcome.{no_antiderivative, any_marked, is_fed, marks_after, no_quotient_feeds}
use Rattle.claim.specs.Outcome.{value_of_made}
use Rattle.claim.specs.Claim.{IsPolynomial, promised}
use Rattle.calculus_laws.specs.TestLaws.{and_left, and_right, both}
use Rattle.calculus.specs.Refusal.{all_from}
use Rattle.calculus_laws.specs.MonomialLaws.{index_suc, length_replace, monomial_single}
use Rattle.calculus_laws.specs.EachLaws.{Each, All, nil, each_snoc, each_at, each_last}
use Rattle.calculus_laws.specs.BookLaws.{between_low, variable_inside, next_number}

-- ---- the outcomes of the steps before stay
pub outcomes_before : (I : Inputs) (os : List Outcome) (l : List Step) (a : ℕ) → a < length os
    → outcome_of (outcomes_after I os l) a ≡ outcome_of os a
unfolding outcomes_after outcome_of
outcomes_before I os [] a h = refl
outcomes_before I os (s ∷ l) a h = outcomes_before I (os ++ (o ∷ [])) l a
    (let e = length-append os (o ∷ []) in omega arith)
    ∙ get_or-append os (o ∷ []) zero_outcome a h
  where
    o : Outcome
    o = step_outcome I (outcome_of os) s

-- ---- values of polynomials
value_variable : (v : ℕ) (x : Point) → index_of v < v → index_of v < length x
    → value_of (record { coefficient = whole (pos 1); exponents = single v v } ∷ []) x ≡ coordinate v x
unfolding value_of eval
value_variable v x h l = ap (λ z. whole (pos 1) *ℚ z +ℚ whole (pos 0)) (monomial_single v v x h l)
    ∙ ring 1 ℚR (λ y. 𝟏 ⊠ y ⊞ 𝟎) (λ y. y) refl (coordinate v x)

-- ---- an outcome that is made as a polynomial has its value
-- the function has the polynomial's value at every point of n coordinates, where there is one
data Agree (n : ℕ) (f : Function) : Option ℚPolynomial → Type 0 where
  unknown : Agree n f none
  known : {q : ℚPolynomial} → ((x : Point) → length x ≡ n → f x ≡ value_of q x) → Agree n f (some q)

mapped_agree : {n : ℕ} {f g : Function} {p : Option ℚPolynomial} (op : ℚPolynomial → ℚPolynomial)
    → ((q : ℚPolynomial) (x : Point) → length x ≡ n → ((y : Point) → length y ≡ n → f y ≡ value_of q y)
    → g x ≡ value_of (op q) x)
    → Agree n f p → Agree n g (mapped op p)
unfolding mapped
mapped_agree op h unknown = unknown
mapped_agree op h (known {q = q} k) = known (λ x l. h q x l k)

joined_agree : {n : ℕ} {f g s : Function} {p q : Option ℚPolynomial} (op : (p q : ℚPolynomial) → ℚPolynomial)
    → ((p q : ℚPolynomial) (x : Point) → length x ≡ n → ((y : Point) → length y ≡ n → f y ≡ value_of p y)
    → ((y : Point) → length y ≡ n → g y ≡ value_of q y) → s x ≡ value_of (op p q) x)
    → Agree n f p → Agree n g q → Agree n s (joined op p q)
unfolding joined mapped
joined_agree op h unknown k = unknown
joined_agree op h (known {q = p} k) unknown = unknown
joined_agree op h (known {q = p} k) (known {q = q} l) = known (λ x e. h p q x e k l)

made_agree : (n : ℕ) (p : Option ℚPolynomial) → Agree n (value_of_made p) p
unfolding value_of_made
made_agree n none = unknown
made_agree n (some q) = known (λ x h. refl)

module _ (b : Book) (I : Inputs) where
  abbrev n : ℕ
  n = b.vars

  -- the outcome agrees with its polynomial
  abbrev agree : Outcome → Type 0
  agree o = Agree n o.at o.polynomial

  zero_agrees : agree zero_outcome
  unfolding zero_outcome value_of eval
  zero_agrees = known (λ x h. refl)

  operand : {os : List Outcome} → All agree os → (a : ℕ) → agree (outcome_of os a)
  unfolding outcome_of
  operand e a = each_at (λ o p. agree p) zero_outcome zero_outcome zero_agrees e a

  inside : (v : ℕ) (x : Point) → T (variable_sound n v) → length x ≡ n → index_of v < length x
  inside v x t h = subst (λ k. index_of v < k) (sym h) (variable_inside n v t)

  own : (v : ℕ) → T (variable_sound n v) → index_of v < v
  unfolding variable_sound
  own v t = let e = index_suc v (between_low 1 n v t) in omega arith

  input_agrees : (J : Inputs) (a : ℕ) → agree (input_outcome J a)
  unfolding input_outcome
  input_agrees (functions F) a = unknown
  input_agrees (polynomials Q) a = known (λ x h. refl)

  step_agrees : (i : ℕ) {os : List Outcome} (s : Step) → T (step_sound b i s) → All agree os
      → agree (step_outcome I (outcome_of os) s)
  unfolding step_outcome step_value step_polynomial step_sound value_of with_coordinate
  step_agrees i (input a) t e = input_agrees I a
  step_agrees i (constant c) t e = known (λ x h. sym (eval_constant ℚR _ x))
  step_agrees i (variable v) t e = known (λ x h. sym (value_variable v x (own v t) (inside v x t h)))
  step_agrees i (negate a) t e = mapped_agree (P.negation ℚR)
      (λ q x h k. ap negℚ (k x h) ∙ sym (eval_negation ℚR q x)) (operand e a)
  step_agrees i (add a c) t e = joined_agree (P.sum ℚR)
      (λ p q x h k l. ap₂ ◌+ℚ◌ (k x h) (l x h) ∙ sym (eval_sum ℚR p q x)) (operand e a) (operand e c)
  step_agrees i (subtract a c) t e = joined_agree (λ p q. P.sum ℚR p (P.negation ℚR q))
      (λ p q x h k l. ap₂ ◌+ℚ◌ (k x h) (ap negℚ (l x h) ∙ sym (eval_negation ℚR q x)) ∙ sym (eval_sum ℚR p _ x))
      (operand e a) (operand e c)
  step_agrees i (multiply a c) t e = joined_agree (P.product ℚR)
      (λ p q x h k l. ap₂ ◌*ℚ◌ (k x h) (l x h) ∙ sym (eval_product ℚR p q x)) (operand e a) (operand e c)
  step_agrees i (substitute a c v) t e = joined_agree (λ p q. P.substitute ℚR (index_of v) q p)
      (λ p q x h k l. k _ (length_replace (index_of v) _ x ∙ h)
      ∙ ap (λ y. value_of p (with_coordinate v y x)) (l x h)
      ∙ sym (eval_substitute ℚR (index_of v) q p x (inside v x (and_right (ltb a i && ltb c i) _ t) h)))
      (operand e a) (operand e c)
  step_agrees i (sweep a c) t e = operand e a
  step_agrees i (quotient a c h w) t e = unknown
  step_agrees i (antiderivative a v) t e = made_agree n _

  all_agree : {os : List Outcome} (i : ℕ) (l : List Step) → T (all_from i (step_sound b) l) → All agree os
      → All agree (outcomes_after I os l)
  unfolding outcomes_after all_from
  all_agree i [] h e = e
  all_agree {os} i (s ∷ l) h e = all_agree {os = os ++ (_ ∷ [])} (suc i) l (and_right (step_sound b i s) _ h)
      (each_snoc (λ o p. agree p) e (step_agrees i s (and_left (step_sound b i s) _ h) e))

  outcome_agrees : T (all_from 0 (step_sound b) b.steps) → agree (outcome I b.steps)
  unfolding outcome outcomes
  outcome_agrees h = each_last (λ o p. agree p) zero_outcome zero_outcome zero_agrees (all_agree 0 b.steps h nil)

  -- whatever the inputs and the steps are, quotients too
  pub polynomial_agrees : T (all_from 0 (step_sound b) b.steps) → (q : ℚPolynomial)
      → (outcome I b.steps).polynomial ≡ some q
      → (x : Point) → length x ≡ n → (outcome I b.steps).at x ≡ value_of q x
  polynomial_agrees h q e = same (subst (Agree n (outcome I b.steps).at) e (outcome_agrees h))
    where
      same : {f : Function} {q : ℚPolynomial} → Agree n f (some q) → (x : Point) → length x ≡ n → f x ≡ value_of q x
      same (known k) = k

-- ---- of polynomial inputs, what is no quotient and is fed by none is made as a polynomial
data Made : Option ℚPolynomial → Type 0 where
  made : {q : ℚPolynomial} → Made (some q)

mapped_made : {p : Option ℚPolynomial} (op : ℚPolynomial → ℚPolynomial) → Made p → Made (mapped op p)
unfolding mapped
mapped_made op made = made

joined_made : {p q : Option ℚPolynomial} (op : (p q : ℚPolynomial) → ℚPolynomial) → Made p → Made q
    → Made (joined op p q)
unfolding joined mapped
joined_made op made made = made

-- made and agreeing
is_polynomial : {n : ℕ} {o : Outcome} → Made o.polynomial → Agree n o.at o.polynomial → IsPolynomial n o
is_polynomial {n} {o} m g = go o.polynomial refl m g
  where
    go : (p : Option ℚPolynomial) → o.polynomial ≡ p → Made p → Agree n o.at p → IsPolynomial n o
    go (some q) e made (known k) = record { polynomial = q; made = e; same = k }
    go none e m g = elim m [ ]

-- neither of two tests
not_either : (a b : Bool) → T (not (a || b)) → T (not a) × T (not b)
not_either true b h = absurd h
not_either false b h = (tt, h)

neither : (a b : Bool) → T (not a) → T (not b) → T (not (a || b))
neither true b h k = h
neither false b h k = k

-- of steps that pass a test, another
pub each_implies : (f g : Step → Bool) → ((s : Step) → T (f s) → T (g s)) → (l : List Step) → T (each_step f l)
    → T (each_step g l)
unfolding each_step
each_implies f g i [] h = tt
each_implies f g i (s ∷ l) h =
    both (g s) _ (i s (and_left (f s) _ h)) (each_implies f g i l (and_right (f s) _ h))

module _ (Q : ℕ → ℚPolynomial) where
  -- an outcome whose step is not marked is made as a polynomial
  abbrev Unmarked : Outcome → Bool → Type 0
  Unmarked o k = T (not k) → Made o.polynomial

  unmarked : {os : List Outcome} {ms : List Bool} → Each Unmarked os ms → (a : ℕ)
      → Unmarked (outcome_of os a) (get_or ms a false)
  unfolding outcome_of
  unmarked e a = each_at Unmarked zero_outcome false (λ z. unfold zero_outcome in made) e a

  -- none of one operand, and of two
  one : {os : List Outcome} {ms : List Bool} → Each Unmarked os ms → (a : ℕ) → T (not (get_or ms a false || false))
      → Made (outcome_of os a).polynomial
  one {ms = ms} e a z = unmarked e a (not_either (get_or ms a false) false z).0

  two : {os : List Outcome} {ms : List Bool} → Each Unmarked os ms → (a c : ℕ)
      → T (not (get_or ms a false || (get_or ms c false || false)))
      → Made (outcome_of os a).polynomial × Made (outcome_of os c).polynomial
  two {ms = ms} e a c z = let h = not_either (get_or ms a false) (get_or ms c false || false) z in
      (unmarked e a h.0, one e c h.1)

  -- the step's own mark
  abbrev mark : List Bool → Step → Bool
  mark ms s = is_quotient s || is_fed ms s

  step_made : {os : List Outcome} {ms : List Bool} (s : Step) → Each Unmarked os ms
      → Unmarked (step_outcome (polynomials Q) (outcome_of os) s) (mark ms s)
  unfolding step_outcome step_polynomial input_outcome is_quotient is_fed any_marked operands
  step_made (input a) e z = made
  step_made (constant c) e z = made
  step_made (variable v) e z = made
  step_made (negate a) e z = mapped_made _ (one e a z)
  step_made (add a c) e z = joined_made _ (two e a c z).0 (two e a c z).1
  step_made (subtract a c) e z = joined_made _ (two e a c z).0 (two e a c z).1
  step_made (multiply a c) e z = joined_made _ (two e a c z).0 (two e a c z).1
  step_made (substitute a c v) e z = joined_made _ (two e a c z).0 (two e a c z).1
  step_made (sweep a c) e z = one e a z
  step_made (quotient a c h w) e z = absurd z
  step_made (antiderivative a v) e z = mapped_made _ (one e a z)

  all_made : {os : List Outcome} {ms : List Bool} (l : List Step) → Each Unmarked os ms
      → Each Unmarked (outcomes_after (polynomials Q) os l) (marks_after ms l)
  unfolding outcomes_after marks_after
  all_made [] e = e
  all_made {os} {ms} (s ∷ l) e = all_made {os = os ++ (_ ∷ [])} {ms = ms ++ (_ ∷ [])} l
      (each_snoc Unmarked e (step_made s e))

  outcome_made : (l : List Step) → T (not (last false (marks_after [] l)))
      → Made (outcome (polynomials Q) l).polynomial
  unfolding outcome outcomes
  outcome_made l = each_last Unmarked zero_outcome false (λ z. unfold zero_outcome in made) (all_made l nil)

  -- where the last step is no quotient and is fed by none, its outcome is a polynomial
  pub outcome_unfed : (b : Book) → T (all_from 0 (step_sound b) b.steps)
      → T (not (last false (marks_after [] b.steps))) → IsPolynomial b.vars (outcome (polynomials Q) b.steps)
  outcome_unfed b h z = is_polynomial (outcome_made b.steps z) (outcome_agrees b (polynomials Q) h)

-- ---- the marks
-- those of the steps before stay
marks_before : (ms : List Bool) (l : List Step) (a : ℕ) → a < length ms
    → get_or (marks_after ms l) a false ≡ get_or ms a false
unfolding marks_after
marks_before ms [] a h = refl
marks_before ms (s ∷ l) a h = marks_before (ms ++ (m ∷ [])) l a (let e = length-append ms (m ∷ []) in omega arith)
    ∙ get_or-append ms (m ∷ []) false a h
  where
    m : Bool
    m = is_quotient s || is_fed ms s

-- without a quotient nothing is marked
abbrev Off : List Bool → Type 0
Off = All (λ k. T (not k))

off_any : {ms : List Bool} → Off ms → (l : List ℕ) → T (not (any_marked ms l))
unfolding any_marked
off_any e [] = tt
off_any {ms} e (a ∷ l) =
    neither (get_or ms a false) _ (each_at (λ j k. T (not k)) false false tt e a) (off_any e l)

marks_off : {ms : List Bool} (l : List Step) → T (no_quotient l) → Off ms → Off (marks_after ms l)
unfolding marks_after no_quotient each_step is_fed
marks_off [] z e = e
marks_off {ms} (s ∷ l) z e = marks_off {ms = ms ++ (_ ∷ [])} l (and_right (not (is_quotient s)) _ z)
    (each_snoc (λ j k. T (not k)) e
    (neither (is_quotient s) _ (and_left (not (is_quotient s)) _ z) (off_any e (operands s))))

-- so such steps, with antiderivatives too, have a polynomial,
pub outcome_known : (Q : ℕ → ℚPolynomial) (b : Book) → T (all_from 0 (step_sound b) b.steps)
    → T (no_quotient b.steps) → IsPolynomial b.vars (outcome (polynomials Q) b.steps)
outcome_known Q b h z = outcome_unfed Q b h
    (each_last (λ j k. T (not k)) false false tt (marks_off b.steps z nil))

-- ---- what was promised without antiderivatives is promised still
-- and polynomials are promised what they give,
pub no_quotient_promised : (Q : ℕ → ℚPolynomial) (b : Book) → T (no_quotient b.steps)
    → T (promised b (polynomials Q))
unfolding promised no_quotient_feeds is_fed
no_quotient_promised Q b z = each_implies (λ s. not (is_quotient s)) _ (λ s h. not_and (is_antiderivative s) _
    (off_any (marks_off b.steps z nil) (operands s))) b.steps (unfold no_quotient in z)
  where
    not_and : (a c : Bool) → T (not c) → T (not (a && c))
    not_and true c h = h
    not_and false c h = tt

-- and where no step is an antiderivative, so is every input
pub no_antiderivative_promised : (b : Book) (I : Inputs) → T (no_antiderivative b.steps) → T (promised b I)
unfolding promised no_quotient_feeds
no_antiderivative_promised b (functions F) z = z
no_antiderivative_promised b (polynomials Q) z = each_implies (λ s. not (is_antiderivative s)) _
    (λ s h. not_and (is_antiderivative s) _ h) b.steps (unfold no_antiderivative in z)
  where
    not_and : (a c : Bool) → T (not a) → T (not (a && c))
    not_and true c h = absurd h
    not_and false c h = tt

-- ---- what is promised can be integrated: each antiderivative is one of an outcome that is a polynomial
pub data Ready (n : ℕ) (I : Inputs) : List Outcome → List Step → Type 0 where
  no_more : {os : List Outcome} → Ready n I os []
  next : {os : List Outcome} {s : Step} {l : List Step}
      → ((a v : ℕ) → s ≡ antiderivative a v → IsPolynomial n (outcome_of os a))
      → Ready n I (os ++ (step_outcome I (outcome_of os) s ∷ [])) l → Ready n I os (s ∷ l)

functions_ready : (n : ℕ) (F : ℕ → Function) {os : List Outcome} (l : List Step) → T (no_antiderivative l)
    → Ready n (functions F) os l
unfolding no_antiderivative each_step is_antiderivative
functions_ready n F [] z = no_more
functions_ready n F {os} (s ∷ l) z = next (λ a v e. absurd (subst (λ t. T (not (is_antiderivative t))) e
    (and_left (not (is_antiderivative s)) _ z)))
    (functions_ready n F {os = os ++ (_ ∷ [])} l (and_right (not (is_antiderivative s)) _ z))

module _ (Q : ℕ → ℚPolynomial) (b : Book) (marks : List Bool) where
  -- the step is no antiderivative that a quotient feeds
  unfed : Step → Bool
  unfed s = not (is_antiderivative s && is_fed marks s)

  operand_unfed : (ms : List Bool) (l : List Step) (a v : ℕ) → marks_after ms l ≡ marks → a < length ms
      → T (unfed (antiderivative a v)) → T (not (get_or ms a false))
  unfolding unfed is_antiderivative is_fed any_marked operands
  operand_unfed ms l a v e h z = subst (λ k. T (not k)) (ap (λ k. get_or k a false) (sym e) ∙ marks_before ms l a h)
      (not_either (get_or marks a false) false z).0

  polynomials_ready : {os : List Outcome} {ms : List Bool} (i : ℕ) (l : List Step)
      → T (all_from i (step_sound b) l) → i ≡ length ms → All (agree b (polynomials Q)) os → Each (Unmarked Q) os ms
      → marks_after ms l ≡ marks → T (each_step unfed l) → Ready b.vars (polynomials Q) os l
  unfolding marks_after each_step all_from
  polynomials_ready i [] h k g e q z = no_more
  polynomials_ready {os} {ms} i (s ∷ l) h k g e q z = next
      (λ a v t. is_polynomial (unmarked Q e a (operand_unfed ms (s ∷ l) a v q
      (before a v (subst (λ s. T (step_sound b i s)) t (and_left (step_sound b i s) _ h)))
      (subst (λ s. T (unfed s)) t (and_left (unfed s) _ z)))) (operand b (polynomials Q) g a))
      (polynomials_ready {os = os ++ (_ ∷ [])} {ms = ms ++ (_ ∷ [])} (suc i) l
      (and_right (step_sound b i s) _ h) (ap suc k ∙ sym (next_number ms _))
      (each_snoc (λ o p. agree b (polynomials Q) p) g
      (step_agrees b (polynomials Q) i s (and_left (step_sound b i s) _ h) g))
      (each_snoc (Unmarked Q) e (step_made Q s e)) q (and_right (unfed s) _ z))
    where
      before : (a v : ℕ) → T (step_sound b i (antiderivative a v)) → a < length ms
      before a v t = let l = ltb→lt a i (unfold step_sound in and_left (ltb a i) _ t) in omega arith

pub promised_ready : (b : Book) (I : Inputs) → T (all_from 0 (step_sound b) b.steps) → T (promised b I)
    → Ready b.vars I [] b.steps
unfolding promised no_quotient_feeds unfed
promised_ready b (functions F) h z = functions_ready b.vars F b.steps z
promised_ready b (polynomials Q) h z =
    polynomials_ready Q b (marks_after [] b.steps) 0 b.steps h refl nil nil refl z

-- ---- as functions of the point, polynomials are their values, where no step is an antiderivative
module _ (Q : ℕ → ℚPolynomial) where
  -- the functions that they are
  abbrev values : Inputs
  values = functions (λ a. value_of (Q a))

  -- the same function
  abbrev Alike : Outcome → Outcome → Type 0
  Alike o p = o.at ≡ p.at

  alike : {os ps : List Outcome} → Each Alike os ps → (a : ℕ) → Alike (outcome_of os a) (outcome_of ps a)
  unfolding outcome_of
  alike e a = each_at Alike zero_outcome zero_outcome refl e a

  step_alike : {os ps : List Outcome} (s : Step) → T (not (is_antiderivative s)) → Each Alike os ps
      → Alike (step_outcome (polynomials Q) (outcome_of os) s) (step_outcome values (outcome_of ps) s)
  unfolding step_outcome step_value input_outcome is_antiderivative
  step_alike (input a) z e = refl
  step_alike (constant c) z e = refl
  step_alike (variable v) z e = refl
  step_alike (negate a) z e = ap (λ f x. negℚ (f x)) (alike e a)
  step_alike (add a c) z e = ap₂ (λ f g x. f x +ℚ g x) (alike e a) (alike e c)
  step_alike (subtract a c) z e = ap₂ (λ f g x. f x -ℚ g x) (alike e a) (alike e c)
  step_alike (multiply a c) z e = ap₂ (λ f g x. f x *ℚ g x) (alike e a) (alike e c)
  step_alike (substitute a c v) z e = ap₂ (λ f g x. f (with_coordinate v (g x) x)) (alike e a) (alike e c)
  step_alike (sweep a c) z e = alike e a
  step_alike (quotient a c h w) z e = ap₂ (λ f g x. f x /ℚ g x) (alike e a) (alike e c)
  step_alike (antiderivative a v) z e = absurd z

  all_alike : {os ps : List Outcome} (l : List Step) → T (no_antiderivative l) → Each Alike os ps
      → Each Alike (outcomes_after (polynomials Q) os l) (outcomes_after values ps l)
  unfolding outcomes_after no_antiderivative each_step
  all_alike [] z e = e
  all_alike {os} {ps} (s ∷ l) z e = all_alike {os = os ++ (_ ∷ [])} {ps = ps ++ (_ ∷ [])} l
      (and_right (not (is_antiderivative s)) _ z)
      (each_snoc Alike e (step_alike s (and_left (not (is_antiderivative s)) _ z) e))

  pub outcome_alike : (l : List Step) → T (no_antiderivative l) → (outcome (polynomials Q) l).at ≡ (outcome values l).at
  unfolding outcome outcomes
  outcome_alike l z = each_last Alike zero_outcome zero_outcome refl (all_alike l z nil)
