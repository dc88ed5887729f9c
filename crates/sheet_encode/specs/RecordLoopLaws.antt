-- A loop that puts records one after the other into a buffer: what it has put after i of them.
use Rattle.std.specs.Prelude.{◌≡◌, List, [], ◌++◌, map, ℕ, ◌+◌, ◌≤◌, ◌<◌, length, get_or, drop, take}
use Rattle.std.proofs.Math.Path.{refl}
use Rattle.std.proofs.Common.{sym, ◌∙◌, ap, add-one, arith, length-append, take-append-drop, take_all}
use Rattle.std.proofs.lemmas.List.{map-append}
use Rattle.std.proofs.lemmas.List.Edits.{sets}
use Rattle.std.proofs.Math.Seq.{length-sets}
use Rattle.format.specs.Bytes.{join}
use Rattle.format.specs.BytesLaws.{join-++}
use Rattle.format.specs.WriteLoopLaws.{join_more, sets_more}

module _ {A : Type 0} (f : A → List ℕ) (l : List A) where
  -- the bytes of the first i records
  abbrev pub front : ℕ → List ℕ
  front i = join (map f (take i l))

  pub front_none : front 0 ≡ []
  unfolding join
  front_none = refl

  pub front_all : (i : ℕ) → length l ≤ i → front i ≡ join (map f l)
  front_all i h = ap (λ k. join (map f k)) (take_all i l h)

  module _ (i : ℕ) (x : A) (h : i < length l) where
    pub front_more : front (i + 1) ≡ front i ++ f (get_or l i x)
    front_more = ap front (add-one i) ∙ join_more f l i x h

    pub length_more : length (front (i + 1)) ≡ length (front i) + length (f (get_or l i x))
    length_more = ap length front_more ∙ length-append (front i) (f (get_or l i x))

  pub length_front : (i : ℕ) → length (front i) ≤ length (join (map f l))
  length_front i =
      let e : length (join (map f (take i l ++ drop i l)))
      ≡ length (join (map f (take i l))) + length (join (map f (drop i l))) =
      ap (λ k. length (join k)) (map-append f (take i l) (drop i l))
      ∙ ap length (join-++ (map f (take i l)) (map f (drop i l)))
      ∙ length-append (front i) (join (map f (drop i l))) in
      omega (arith, e, ap (λ k. length (join (map f k))) (take-append-drop i l))

-- after i records of l, put from `at` on into what was there at the entry
pub record Put {A : Type 0} (f : A → List ℕ) (l : List A) (entry : List ℕ) (at : ℕ) (buffer : List ℕ) (place i : ℕ)
    : Type 0 where
  pub within : i ≤ length l
  pub place_is : place ≡ at + length (front f l i)
  pub buffer_is : buffer ≡ sets entry at (front f l i)

module _ {A : Type 0} (f : A → List ℕ) (l : List A) (entry : List ℕ) (at : ℕ) where
  pub put_first : Put f l entry at entry at 0
  put_first = record {
    within = omega arith;
    place_is = rw (front_none f l) (omega arith);
    buffer_is = rw (front_none f l);
  }

  module _ {buffer : List ℕ} {place i : ℕ} (p : Put f l entry at buffer place i) where
    pub put_length : length buffer ≡ length entry
    put_length = ap length p.buffer_is ∙ simp length-sets

    pub put_end : length l ≤ i → buffer ≡ sets entry at (join (map f l))
    put_end h = p.buffer_is ∙ ap (sets entry at) (front_all f l i h)

    -- the next record
    module _ (x y : A) (h : i < length l) (e : get_or l i x ≡ y) where
      -- it has room where all have
      pub put_room : at + length (join (map f l)) ≤ length entry → place + length (f y) ≤ length buffer
      put_room r = omega (
        arith,
        p.place_is,
        length_more f l i x h,
        length_front f l (i + 1),
        put_length,
        ap (λ z. length (f z)) e,
      )

      pub put_iteration : (new : List ℕ) (next : ℕ) → new ≡ sets buffer place (f y) → next ≡ place + length (f y)
          → Put f l entry at new next (i + 1)
      put_iteration new next b n = record {
        within = omega arith;
        place_is = omega (arith, p.place_is, length_more f l i x h, ap (λ z. length (f z)) e);
        buffer_is = b ∙ ap (λ z. sets buffer place (f z)) (sym e)
            ∙ ap (λ k. sets k place (f (get_or l i x))) p.buffer_is
            ∙ sets_more (front f l i) (f (get_or l i x)) entry at place p.place_is
            ∙ ap (sets entry at) (sym (front_more f l i x h));
      }
