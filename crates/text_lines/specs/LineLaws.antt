-- The lines as pieces that are put one after another, and loops that put one piece in each iteration.
use Rattle.std.specs.Prelude.{◌≡◌, refl, true, false, List, [], ◌∷◌, ◌++◌, map, ℕ, suc, ◌+◌, ◌^◌, ◌≤◌, ◌<◌, ℤ, length, take, drop, get_or}
use Rattle.std.proofs.Common.{sym, ◌∙◌, ap, ap₂, le-leb, append_assoc, arith, length-append, take-append-drop, take_all, get_or-take, to_z-of_z}
use Rattle.std.proofs.lemmas.Bool.{lt-leb}
use Rattle.std.proofs.lemmas.List.{map-append}
use Rattle.std.proofs.Math.ListN.{get_or-map}
use Rattle.std.specs.Int.Signed.{mag}
use Rattle.std.specs.Int.{w64}
use mir.Val.{to_z, of_z, hbits}
use Rattle.polynomial.specs.Polynomial.{Term}
use Rattle.calculus.specs.Refusal.{Refusal, number, done, stopped}
use Rattle.calculus.specs.Operations.{Ends, has_exact, Mixed}
use Rattle.calculus.specs.Book.{Summary}
use Rattle.model_types.specs.declared.Model.{Model}
use Rattle.model_types.specs.ModelStruct.{zero_term, listed, view_term, view}
use Rattle.model_types.specs.ModelStructLaws.{term_at, view_terms}
use Rattle.format.specs.BytesLaws.{join-++}
use Rattle.format.specs.Bytes.{join}
use Rattle.format.specs.WriteLoopLaws.{join_more}
use Rattle.format.specs.Lines.{text, decimal, signed_decimal, line, term_line, ends_line, radius_line, refusal_line}
use Rattle.format.specs.Lines.{exact_line, exact_lines, lines}
use Rattle.text_decimal.specs.Put.{Put, Room, natural, integer}
use Rattle.text_decimal.specs.PutLaws.{put_nothing, ◌then_put◌, put_as}
use Rattle.text_lines.specs.LineParts.{ends}

-- ---- lines
abbrev pub line_end : List ℕ
line_end = text "\n"

-- a word and one number, a word and two
pub radius_pieces : (e : ℕ) → radius_line e ≡ text "radius" ++ (natural e ++ line_end)
unfolding radius_line line natural
radius_pieces e = ap (λ l. text "radius" ++ l) (sym (append_assoc (text " ") (decimal e) line_end))

pub refusal_pieces : (n i : ℕ) → refusal_line n i ≡ text "refused" ++ (natural n ++ (natural i ++ line_end))
unfolding refusal_line line natural
refusal_pieces n i = ap (λ l. text "refused" ++ l)
    (ap (λ l. text " " ++ (decimal n ++ l)) (sym (append_assoc (text " ") (decimal i) line_end))
    ∙ sym (append_assoc (text " ") (decimal n) _))

pub ends_pieces : (w : List ℕ) (e : Ends) → ends_line w e ≡ w ++ (integer e.low ++ (integer e.high ++ line_end))
unfolding ends_line line integer
ends_pieces w e = ap (λ l. w ++ l)
    (ap (λ l. text " " ++ (signed_decimal e.low ++ l))
    (sym (append_assoc (text " ") (signed_decimal e.high) line_end))
    ∙ sym (append_assoc (text " ") (signed_decimal e.low) _))

pub exact_pieces : (x : Mixed)
    → exact_line x ≡ text "exact" ++ (integer x.quotient ++ (natural x.remainder ++ line_end))
unfolding exact_line line integer natural
exact_pieces x = ap (λ l. text "exact" ++ l)
    (ap (λ l. text " " ++ (signed_decimal x.quotient ++ l))
    (sym (append_assoc (text " ") (decimal x.remainder) line_end))
    ∙ sym (append_assoc (text " ") (signed_decimal x.quotient) _))

-- up to four variables, and above
pub exact_some : (n : ℕ) (x : Mixed) → n ≤ 4 → exact_lines n x ≡ exact_line x
unfolding exact_lines has_exact
exact_some n x h = ap (λ b. elim b as (λ b. List ℕ) [ true ↦ exact_line x | false ↦ [] ]) (le-leb n 4 h)

pub exact_none : (n : ℕ) (x : Mixed) → 4 < n → exact_lines n x ≡ []
unfolding exact_lines has_exact
exact_none n x h = ap (λ b. elim b as (λ b. List ℕ) [ true ↦ exact_line x | false ↦ [] ]) (lt-leb n 4 h)

-- a word, n exponents, a coefficient
exponents_pieces : (w c : List ℕ) (es : List ℕ)
    → line (w ∷ (map decimal es ++ (c ∷ []))) ≡ w ++ (join (map natural es) ++ ((text " " ++ c) ++ line_end))
unfolding line join natural
exponents_pieces w c [] = ap (λ l. w ++ l) (sym (append_assoc (text " ") c line_end))
exponents_pieces w c (e ∷ es) = ap (λ l. w ++ l)
    (ap (λ l. text " " ++ l) (exponents_pieces (decimal e) c es)
    ∙ sym (append_assoc (text " ") (decimal e) _)
    ∙ sym (append_assoc (text " " ++ decimal e) (join (map natural es)) _))

pub term_pieces : (t : Term ℤ)
    → term_line t ≡ text "term" ++ (join (map natural t.exponents) ++ (integer t.coefficient ++ line_end))
unfolding term_line integer
term_pieces t = exponents_pieces (text "term") (signed_decimal t.coefficient) t.exponents

-- all lines
pub lines_pieces : (s : Summary)
    → lines (done s)
    ≡ radius_line s.model.radius
    ++ (join (map term_line s.model.terms)
    ++ (ends_line (text "range") s.range
    ++ (ends_line (text "integral") s.integral ++ exact_lines s.model.vars s.exact)))
unfolding lines
lines_pieces s = refl

pub refused_line : (r : Refusal) (i : ℕ) → lines (stopped r i) ≡ refusal_line (number r) i
unfolding lines
refused_line r i = refl

-- two ends as a call sees them
pub ends_back : {low high : ℤ} → mag low < 2 ^ hbits w64 → mag high < 2 ^ hbits w64
    → ends (to_z w64 (of_z w64 low)) (to_z w64 (of_z w64 high)) ≡ ends low high
ends_back h k = ap₂ ends (to_z-of_z {w = w64} (record { sfits = h })) (to_z-of_z {w = w64} (record { sfits = k }))

-- ---- the terms of a struct
pub term_of : (m : Model) (i : ℕ) → m.count ≤ length (listed m) → i < m.count
    → get_or (view m).terms i (term_at m.n 0 []) ≡ term_at m.n i (listed m)
term_of m i w h = ap (λ p. get_or p i (term_at m.n 0 [])) (view_terms m w)
    ∙ get_or-map (view_term m.n) (take m.count (listed m)) i zero_term
    ∙ ap (view_term m.n) (get_or-take m.count (listed m) i zero_term h)

-- ---- a loop that puts a piece for each element
module _ {A : Type 0} (f : A → List ℕ) (l : List A) where
  joined : (i : ℕ) → join (map f l) ≡ join (map f (take i l)) ++ join (map f (drop i l))
  joined i = ap (λ k. join (map f k)) (sym (take-append-drop i l)) ∙ ap join (map-append f (take i l) (drop i l))
      ∙ join-++ (map f (take i l)) (map f (drop i l))

  module _ (d : A) where
    joined_more : (i : ℕ) → i < length l
        → join (map f (take (i + 1) l)) ≡ join (map f (take i l)) ++ f (get_or l i d)
    joined_more i h = ap (λ k. join (map f (take k l))) (let e : i + 1 ≡ suc i = omega arith in e)
        ∙ join_more f l i d h

  -- the pieces of the first i elements are put
  pub record Listed (before : List ℕ) (at : ℕ) (after : List ℕ) (next i : ℕ) : Type 0 where
    pub within : i ≤ length l
    pub put : Put before at (join (map f (take i l))) after next

  pub listed_none : {before : List ℕ} {at : ℕ} → Listed before at before at 0
  unfolding join
  listed_none = record { within = omega arith; put = put_nothing }

  module _ {before after : List ℕ} {at next i : ℕ} (p : Listed before at after next i) where
    -- the next piece has room where all have
    pub listed_room : (d : A) → i < length l → Room at (join (map f l)) → Room next (f (get_or l i d))
    listed_room d h r = record {
      fits = omega (
        arith,
        r.fits,
        p.put.counted,
        ap length (joined (i + 1)),
        length-append (join (map f (take (i + 1) l))) (join (map f (drop (i + 1) l))),
        ap length (joined_more d i h),
        length-append (join (map f (take i l))) (f (get_or l i d)),
      );
    }

    pub listed_more : (d : A) → i < length l → {last : List ℕ} {end : ℕ} → Put after next (f (get_or l i d)) last end
        → Listed before at last end (i + 1)
    listed_more d h q = record {
      within = omega arith;
      put = put_as (sym (joined_more d i h)) (p.put then_put q);
    }

    pub listed_all : length l ≤ i → Put before at (join (map f l)) after next
    listed_all h = put_as (ap (λ k. join (map f k)) (take_all i l h)) p.put
