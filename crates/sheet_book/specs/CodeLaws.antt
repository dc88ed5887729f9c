-- The tests as the code makes them: one number after the other.
use Rattle.std.specs.Prelude.{◌≡◌, ◌&&◌, ℕ, eqb, leb}
use Rattle.std.proofs.Common.{◌∙◌, ap}
use Rattle.std.proofs.lemmas.List.{length-replicate}
use Rattle.calculus.specs.Model.{zero_model, between, sound}
use Rattle.calculus.specs.Tests.{vars_sound, order_sound}
use Rattle.calculus.specs.Book.{input, limits_sound, model_sound, most_models, most_steps}
use Rattle.model_types.specs.declared.Model.{Model}
use Rattle.model_types.specs.ModelStruct.{view}
use Rattle.format.specs.HeldBook.{HeldStep, outline, held_model_sound, held_step_sound}
use Rattle.format.specs.Fields.{fields_sound}
use Rattle.format.proofs.StepFieldLaws.{step_by_fields}
use Rattle.sheet_book.specs.BookStruct.{held_model}
use Rattle.sheet_book.specs.BookStructLaws.{view_held_model}

-- test 3
pub limits_by_numbers : (n d m k : ℕ) → limits_sound (outline n d m k)
    ≡ (vars_sound n && order_sound d && leb m 16 && (leb 1 k && leb k 64))
unfolding limits_sound outline between most_models most_steps
limits_by_numbers n d m k = rw (length-replicate m (zero_model n), length-replicate k (input 0))

-- test 5: it asks only for n and d of a book
pub model_by_code : (n d k l : ℕ) (m : Model)
    → held_model_sound (outline n d k l) (held_model m) ≡ (eqb m.n n && sound d (view m))
unfolding held_model_sound model_sound outline view
model_by_code n d k l m = ap (λ v. eqb v.vars n && sound d v) (view_held_model m)

-- test 6: it asks only for n and the count of models
pub step_by_code : (n d k l i : ℕ) (s : HeldStep)
    → held_step_sound (outline n d k l) i s ≡ fields_sound n k i s
unfolding outline
step_by_code n d k l i s =
    step_by_fields (outline n d k l) i s ∙ ap (λ c. fields_sound n c i s) (length-replicate k (zero_model n))
