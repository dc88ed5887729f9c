-- Every entry of a sheet that is written is a byte.
use Rattle.std.specs.Prelude.{◌≡◌, Bool, true, false, cond, List, [], ◌∷◌, ◌++◌, map, ℕ, zero, suc, ◌+◌, ◌/◌, ◌%◌, ◌<◌, ◌≤◌, T, length}
use Rattle.std.proofs.Common.{subst}
use native.Mathlib.Omega.{arith}
use Rattle.calculus.specs.Key.{key_width}
use Rattle.calculus.specs.Refusal.{done}
use Rattle.calculus.specs.Book.{Book}
use Rattle.calculus_laws.specs.TestLaws.{and_left, and_right}
use Rattle.calculus.specs.Refusal.{all_from}
use Rattle.calculus.specs.Key.{short_key}
use Rattle.format.specs.Bytes.{byte, AllBytes, join, u16_bytes, u32_bytes}
use Rattle.format.specs.HeldBook.{HeldTerm, HeldModel, HeldStep, HeldBook, outline_of}
use Rattle.format.specs.HeldBook.{held_model_sound, held_step_sound, HeldPasses}
use Rattle.format.specs.Format.{short_keys, short_mark, long_mark, mark_of, key_bytes}
use Rattle.format.specs.Format.{term_bytes, model_bytes, step_bytes, models_bytes, trailer_bytes, sheet_bytes}
use Rattle.format.specs.Format.{write}
use Rattle.format.proofs.SmallLaws.{model_facts, StepFacts, step_facts}
use Rattle.format.proofs.ReadBackLaws.{limits, outline_small, IsWritten, is_written}

none_bytes : AllBytes []
none_bytes = record { below = λ i. omega arith }

infixr 40 ◌more◌
◌more◌ : {x : ℕ} {s : List ℕ} → x < 256 → AllBytes s → AllBytes (x ∷ s)
◌more◌ {x} {s} h k = record { below = go }
  where
    go : (i : ℕ) → byte i (x ∷ s) < 256
    go zero = h
    go (suc i) = k.below i

both_bytes : (s r : List ℕ) → AllBytes s → AllBytes r → AllBytes (s ++ r)
both_bytes [] r h k = k
both_bytes (x ∷ s) r h k = h.below 0 more both_bytes s r (record { below = λ i. h.below (suc i) }) k

digit : (x : ℕ) → x % 256 < 256
digit x = omega arith

two_bytes : (x : ℕ) → AllBytes (u16_bytes x)
unfolding u16_bytes
two_bytes x = digit x more digit (x / 256) more none_bytes

four_bytes : (x : ℕ) → AllBytes (u32_bytes x)
unfolding u32_bytes
four_bytes x = digit x more digit (x / 256) more digit (x / 256 / 256) more digit (x / 256 / 256 / 256) more none_bytes

key_all : (n k : ℕ) → AllBytes (key_bytes n k)
unfolding key_bytes
key_all n k = go (short_keys n)
  where
    go : (b : Bool) → AllBytes (cond b (u16_bytes (k / short_key)) (u32_bytes k))
    go true = two_bytes (k / short_key)
    go false = four_bytes k

terms_all : (n : ℕ) (ts : List HeldTerm) → AllBytes (join (map (term_bytes n) ts))
unfolding join term_bytes
terms_all n [] = none_bytes
terms_all n (t ∷ ts) = both_bytes (term_bytes n t) _
    (both_bytes (key_bytes n t.key) _ (key_all n t.key) (four_bytes _)) (terms_all n ts)

models_all : (b : Book) (i : ℕ) (ms : List HeldModel) → T (all_from i (λ i. held_model_sound b) ms)
    → AllBytes (join (map model_bytes ms))
unfolding join model_bytes all_from
models_all b i [] h = none_bytes
models_all b i (m ∷ ms) h = both_bytes (model_bytes m) _
    (both_bytes (u32_bytes m.radius) _ (four_bytes m.radius) (count more terms_all m.n m.terms))
    (models_all b (suc i) ms (and_right (held_model_sound b m) _ h))
  where
    count : length m.terms < 256
    count = omega (arith, (model_facts b m (and_left (held_model_sound b m) _ h)).count)

steps_all : (b : Book) (i : ℕ) (l : List HeldStep) → length b.models ≤ 16 → b.vars ≤ key_width → i + length l ≤ 64
    → T (all_from i (held_step_sound b) l) → AllBytes (join (map step_bytes l))
unfolding join step_bytes all_from
steps_all b i [] lm ln li h = none_bytes
steps_all b i (s ∷ l) lm ln li h = both_bytes (step_bytes s) _
    (code more f.a more f.b more f.v more four_bytes _)
    (steps_all b (suc i) l lm ln (omega arith) (and_right (held_step_sound b i s) _ h))
  where
    f : StepFacts s
    f = step_facts b i s (omega arith) lm ln (and_left (held_step_sound b i s) _ h)

    code : s.code < 256
    code = omega (arith, f.code)

mark_byte : (n : ℕ) → mark_of n < 256
unfolding mark_of
mark_byte n = go (short_keys n)
  where
    go : (b : Bool) → cond b short_mark long_mark < 256
    go true = omega arith
    go false = omega arith

module _ (h : HeldBook) (p : HeldPasses h) where
  small : (x : ℕ) → x ≤ 64 → x < 256
  small x l = omega arith

  pub sheet_all : AllBytes (sheet_bytes h)
  unfolding sheet_bytes models_bytes trailer_bytes key_width
  sheet_all = both_bytes (models_bytes h) _ (models_all (outline_of h) 0 h.models p.models)
      (both_bytes (join (map step_bytes h.steps)) _
      (steps_all (outline_of h) 0 h.steps (outline_small h p).0 (outline_small h p).1
      (omega (arith, (limits h p).steps_high)) p.steps)
      (small h.n (omega (arith, (limits h p).n_high)) more small h.d (omega (arith, (limits h p).d_high))
      more small (length h.models) (omega (arith, (limits h p).models))
      more small (length h.steps) (limits h p).steps_high
      more both_bytes (u16_bytes (length (models_bytes h))) _ (two_bytes _)
      (omega arith more mark_byte h.n more none_bytes)))

-- THEOREM: what is written is bytes
pub written_bytes : (h : HeldBook) (buffer s : List ℕ) → write h buffer ≡ done s → AllBytes s
written_bytes h buffer s e = subst AllBytes w.is_sheet (sheet_all h w.passes)
  where
    w : IsWritten h s
    w = is_written h buffer s e
