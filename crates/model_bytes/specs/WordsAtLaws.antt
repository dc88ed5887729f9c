-- Numbers at a place of a sheet, by the bytes from there on.
use Rattle.std.specs.Prelude.{◌≡◌, List, ℕ, ◌+◌, ◌*◌, drop}
use Rattle.std.proofs.Common.{◌∙◌, ap, ap₂, arith}
use Rattle.format.specs.Bytes.{byte, u16, u32}
use Rattle.format.specs.ReadLoopLaws.{byte_at, u32_at}

pub byte_here : (at : ℕ) (s : List ℕ) → byte 0 (drop at s) ≡ byte at s
byte_here at s = byte_at at 0 s ∙ ap (λ i. byte i s) (omega arith)

pub u16_here : (at : ℕ) (s : List ℕ) → u16 (drop at s) ≡ byte at s + 256 * byte (at + 1) s
unfolding u16
u16_here at s = ap₂ (λ x y. x + 256 * y) (byte_here at s) (byte_at at 1 s)

pub u32_here : (at : ℕ) (s : List ℕ) → u32 (drop at s)
    ≡ byte at s + 256 * (byte (at + 1) s + 256 * (byte (at + 2) s + 256 * byte (at + 3) s))
u32_here at s =
    let e : at + 0 ≡ at = omega arith in
    u32_at at s ∙ ap (λ i. byte i s + 256 * (byte (at + 1) s + 256 * (byte (at + 2) s + 256 * byte (at + 3) s))) e
