-- A `Records` taken apart for a call on its slice and its place. The struct is Copy: what it owns is had twice, of the
-- one copy the callee has what the slice owns, beside the lifetime's token, and the other is kept whole.
use mathlib.Core.Path.{◌≡◌, refl}
use Prim.Native.Nat.{◌<◌, ◌^◌}
use mathlib.Core.List.{List, [], ◌∷◌}
use lib.ListN.{length}
use seplogic.Ra.Ura.{Ura}
use mir.Syntax.{named, w64}
use mir.Val.{Val, vint}
use base.Logic.{SProp, ent, sep}
use base.Fml.{Fml, Share, ftrue, flft}
use types.Logic.{Logic, sem}
use types.Kit.{‵, raw, ◌⊛◌, given, ⋆, ◌$◌, ◌∵◌, !, qed, move, drop, use1, use2, split, learn}
use types.Kit.{fjoin, frame, done}
use denote.RattleType.{owns}
use denote.Laws.{Is}
use denote.Plain.{uint_Makes}
use denote.Builtin.{u8, usize}
use denote.Ref.{NamedLft}
use denote.Slice.{slice_val, ShrSlice}
use denote.Steps.{owned, nothing}
use denote.Struct.Declared.{Declared}
use denote.Struct.Laws as LL
use denote.Struct.Rest.{all_own, field_own, rest, own_open, own_out}
use denote.Struct.Values.{Values}
use Rattle.sheet_records.specs.declared.Records.{Records}
use Rattle.sheet_records.specs.contracts.Records as T
use Rattle.sheet_records.proofs.Records.TheLaws as T'

-- the struct's type
abbrev pub D : NamedLft → Declared
D α = T.the_type α

-- and its laws
abbrev pub L : (α : NamedLft) → LL.Laws (D α)
L α = T'.the_laws α

-- the values of its fields
abbrev pub fields : (α : NamedLft) → Records → Values (D α).parts
fields α d = (d.sheet, (d.at, tt))

-- what it owns
abbrev pub Own : NamedLft → Records → Fml
Own α d = (T.the_row α).own_val d (T'.lowered d ∷ [])

-- what the callee is passed: the slice and the place
abbrev pub passed : Records → List Val × (List Val × Unit {0})
passed d = (slice_val d.sheet.ref_ptr (length d.sheet.now) ∷ [], (vint w64 d.at ∷ [], tt))

module _ {M : Type 1} {𝓤 : Ura M} (𝓛 : Logic 𝓤) (α : NamedLft) (q : Share)
    (d : Records) where
  -- what it is handed
  abbrev pub Handed : SProp 𝓤
  Handed = ⋆ 𝓛 ((‵ (flft α.lft q) ⊛ ‵ ftrue)
      ∷ ‵ (owns (ShrSlice (named 0) α.lft u8 ∷ usize ∷ []) (d.sheet, (d.at, tt)) (passed d)) ∷ [])

  pub apart : (Q : SProp 𝓤) → ent 𝓤 Handed Q → d.at < 2 ^ 64
      → ent 𝓤 (⋆ 𝓛 (‵ (Own α d) ∷ (‵ (flft α.lft q) ⊛ ‵ ftrue) ∷ [])) (sep 𝓤 Q (sem 𝓛 (Own α d)))
  apart Q asked fits =
      qed 𝓛 (‵ (Own α d) ∷ (‵ (flft α.lft q) ⊛ ‵ ftrue) ∷ []) ∵
      use1 𝓛 (‵ (Own α d) ⊛ ‵ (Own α d))
      ((LL.copy (D α) (T'.the_copy α) 𝓛).twice d (T'.lowered d ∷ [])) $ split ! $
      use1 𝓛 (given (T'.lowered d ∷ [] ≡ T'.lowered d ∷ []) (‵ (all_own (D α).parts (L α) (fields α d))))
      (own_open 𝓛 (D α) (L α) (fields α d) (T'.lowered d)) $ learn ! (λ _.
      use1 𝓛 (‵ (field_own (D α).parts (L α) 0 d.sheet) ⊛ ‵ (rest (D α).parts (L α) 0 (fields α d)))
      (own_out 𝓛 (D α).parts (L α) 0 (fields α d)) $ split ! $
      -- [what the slice owns; what the place owns; what the struct owns; the token]
      move ! (1 ∷ []) $ drop ! $ nothing ! $
      owned ! usize (Is usize) (uint_Makes 𝓛 w64) d.at _ (refl, fits) $ fjoin ! $ move ! (1 ∷ 0 ∷ []) $
      fjoin ! $ move ! (2 ∷ 0 ∷ []) $ use2 𝓛 (raw Q) asked $ frame ! $ done !)
