-- What the tests of a call say of the structs and numbers that it is handed.
use Rattle.std.specs.Prelude.{◌≡◌, refl, true, false, eqb}
use Rattle.std.proofs.Common.{eq-eqb, ne_eqb}
use Rattle.model_types.specs.declared.Model.{Model}
use Rattle.model_types.specs.ModelStruct.{view}

-- the variables of two models
pub same_vars : (a b : Model) → a.n ≡ b.n → eqb (view a).vars (view b).vars ≡ true
unfolding view
same_vars a b e = eq-eqb a.n b.n e

pub other_vars : (a b : Model) → (a.n ≡ b.n → ⊥) → eqb (view a).vars (view b).vars ≡ false
unfolding view
other_vars a b e = ne_eqb a.n b.n e

-- the variables of the model that a struct holds
pub vars_view : (m : Model) → (view m).vars ≡ m.n
unfolding view
vars_view m = refl
