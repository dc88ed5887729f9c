-- The pass with its radius divided, tested for the limits, is the product.
use Rattle.std.specs.Prelude.{◌≡◌, refl, ℕ, ◌≤◌, T, ℤ, length}
use Rattle.std.proofs.Math.Path.{sym, ap, ap₂}
use Rattle.std.proofs.Common.{◌∙◌, subst, lit<}
use native.Mathlib.Omega.{arith}
use Rattle.std.proofs.Math.ListN.{length-map}
use Rattle.numbers.specs.Fixed.{round_up}
use Rattle.calculus.specs.Key.{key_width}
use Rattle.calculus.specs.Terms.{term, every, map_coefficients, is_nonzero, drop_zeros}
use Rattle.calculus_laws.specs.TermsLaws.{every_select, every_map_coefficients, length_select}
use Rattle.calculus.specs.Model as C
use Rattle.calculus.specs.Model.{most_degree, most_terms, fits, sound}
use Rattle.calculus.specs.Operations.{limited, constant, multiply}
use Rattle.calculus_laws.specs.SoundLaws.{Sound, sound_parts}
use Rattle.model_types.specs.declared.Model.{Model}
use Rattle.model_types.specs.ModelStruct.{view, pack}
use Rattle.model_types.specs.ModelStructLaws.{view_pack, limits}
use Rattle.model_limits.specs.Limits.{Packed}
use Rattle.model_limits.specs.LimitLaws.{pack_packed, packed_radius}
use Rattle.model_scaling.specs.Scaling.{scaled_coefficient, scaled_terms, scaled_error, scaled_pass, Scalable}
use Rattle.model_scaling.specs.ScalingLaws.{multiply_scaled}

module _ {X : ℤ} {f : Model} (s : Scalable X f) where
  abbrev pass : C.Model
  pass = scaled_pass X (view f)

  sound_f : Sound (view f).vars most_degree (view f)
  sound_f = sound_parts most_degree (view f) s.model

  fitting : T (every (λ k c. fits pass.vars most_degree k) pass.terms)
  unfolding scaled_pass scaled_terms drop_zeros
  fitting = every_select (λ k c. fits (view f).vars most_degree k) (λ k c. is_nonzero c) _
      (every_map_coefficients (λ k c. fits (view f).vars most_degree k) (scaled_coefficient X) (λ k c t. t)
      (view f).terms sound_f.0.fitting)

  few : length pass.terms ≤ most_terms
  unfolding scaled_pass scaled_terms drop_zeros map_coefficients
  few = omega (
    arith,
    length_select (λ k c. is_nonzero c) (map_coefficients (scaled_coefficient X) (view f).terms),
    length-map (view f).terms (λ t. term (scaled_coefficient X t.coefficient) t.exponents),
    sound_f.1.count,
  )

  width : pass.vars ≤ 8
  unfolding scaled_pass view key_width
  width = (limits most_degree f s.model).width

  read_back : view (pack pass) ≡ pass
  unfolding most_degree key_width
  read_back = view_pack most_degree pass (lit< tt) width fitting

  module _ {m : Model} (e : m ≡ pack pass) {r : ℕ} (q : r ≡ round_up m.radius) where
    abbrev struct : Model
    struct = record { n = m.n; count = m.count; radius = r; keys = m.keys; coefficients = m.coefficients }

    pub scaled_packed : Packed struct
    unfolding most_degree key_width
    scaled_packed = packed_radius m r (subst Packed (sym e) (pack_packed most_degree pass (lit< tt) width fitting few))

    radius_is : r ≡ round_up (scaled_error X (view f))
    unfolding scaled_pass pack
    radius_is = q ∙ ap (λ (m : Model). round_up m.radius) e

    struct_view : view struct
        ≡ record { vars = f.n; radius = round_up (scaled_error X (view f)); terms = scaled_terms X (view f).terms }
    unfolding view scaled_pass
    struct_view = ap₂ (λ (m : C.Model) (r : ℕ). record { vars = m.vars; radius = r; terms = m.terms })
        (ap view e ∙ read_back) radius_is

    pub scaled_answer : limited (view struct) ≡ multiply most_degree (view f) (constant f.n X)
    unfolding view
    scaled_answer = ap limited struct_view ∙ sym (multiply_scaled X (view f) sound_f.0)
